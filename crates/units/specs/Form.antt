-- Well-formed text: no unit 0000, and no surrogate without its other half.
use Rattle.std.specs.Prelude.{◌≡◌, ℕ, suc, ◌<◌, Bool, true, false, cond, not, ◌&&◌, ◌||◌, List, [], ◌∷◌, length, is_some, Some, None, Option, ◌==◌, nat_le, slice_index}

-- D800–DBFF opens a pair, DC00–DFFF closes it
abbrev pub opens : ℕ → Bool
opens u = nat_le 55296 u && nat_le u 56319

abbrev pub closes : ℕ → Bool
closes u = nat_le 56320 u && nat_le u 57343

-- is u at fault between its neighbours? 0000 stands for no neighbour
abbrev pub ill : ℕ → ℕ → ℕ → Bool
ill before u after = u == 0 || ((opens u && not (closes after)) || (closes u && not (opens before)))

-- the unit at a place, with its neighbours
abbrev pub ill_at : List ℕ → ℕ → Bool
ill_at us i = ill (slice_index (0 ∷ us) i) (slice_index us i) (slice_index us (suc i))

-- the first place from `at` on whose unit is at fault
abbrev pub first_ill : ℕ → ℕ → List ℕ → Option ℕ
first_ill before at [] = None
first_ill before at (u ∷ us) = cond (ill before u (slice_index us 0)) (Some at) (first_ill u (suc at) us)

abbrev pub well_formed : List ℕ → Bool
well_formed us = not (is_some (first_ill 0 0 us))

-- no unit is at fault, or this one is and none before it
abbrev pub FirstIll : List ℕ → Option ℕ → Type 0
FirstIll us None = (k : ℕ) → k < length us → ill_at us k ≡ false
FirstIll us (Some i) = (i < length us) × (ill_at us i ≡ true) × ((k : ℕ) → k < i → ill_at us k ≡ false)
