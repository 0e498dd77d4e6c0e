-- What stands at a place of a text, and what is left there.
use Rattle.std.proofs.Common.{◌≡◌, ℕ, zero, suc, ◌+◌, ◌*◌, ◌<◌, ◌≤◌, Bool, true, false, cond, eqb, nat_eq, List, [], ◌∷◌, length, drop, Some, None, Option, MatchOption, sym, refl, ap, ◌∙◌, add-one, arith, eq-eqb, ne_eqb}
use Rattle.units.specs.Units.{units}
use Rattle.units.proofs.Texts.{length-units}
use Rattle.std.specs.List.{slice_get}
use Rattle.std.specs.Option.{option_eq}
use Rattle.automaton.specs.declared.Atom.TheVariants.{Plain}
use Rattle.pattern.specs.Signs.{special, begins, parting, stops, plainly, escaped, simple}

pub nothing_left : (us : List ℕ) (i : ℕ) → None ≡ slice_get us i → drop i us ≡ []
nothing_left [] zero e = refl
nothing_left [] (suc i) e = refl
nothing_left (u ∷ us) zero e = let z : ◌≡◌ {A = ℕ} 0 1 = cc in absurd (omega arith)
nothing_left (u ∷ us) (suc i) e = nothing_left us i e

some_left : (us : List ℕ) (i u : ℕ) → Some u ≡ slice_get us i → drop i us ≡ u ∷ drop (suc i) us
some_left [] i u e = let z : ◌≡◌ {A = ℕ} 0 1 = cc in absurd (omega arith)
some_left (x ∷ us) zero u e = let h : x ≡ u = cc in ap (λ z. z ∷ us) h
some_left (x ∷ us) (suc i) u e = some_left us i u e

pub unit_left : (us : List ℕ) (i u : ℕ) → Some u ≡ slice_get us i → drop i us ≡ u ∷ drop (i + 1) us
unit_left us i u e = some_left us i u e ∙ ap (λ n. u ∷ drop n us) (sym (add-one i))

pub within : (us : List ℕ) (i u : ℕ) → Some u ≡ slice_get us i → i < length us
within [] i u e = let z : ◌≡◌ {A = ℕ} 0 1 = cc in absurd (omega arith)
within (x ∷ us) zero u e = omega arith
within (x ∷ us) (suc i) u e = let h = within us i u e in omega arith

pub within_bytes : (bs : List ℕ) (i : ℕ) → i < length (units bs) → i + 1 ≤ length bs
within_bytes bs i h = let l = length-units bs in omega arith

module _ (us : List ℕ) (i : ℕ) where
  pub no_simple : None ≡ slice_get us i → None ≡ simple (drop i us)
  no_simple e = sym (ap simple (nothing_left us i e))

  at_unit : (u : ℕ) → Some u ≡ slice_get us i → (b : Bool) → eqb u 92 ≡ b → simple (drop i us) ≡ cond b (escaped (drop (i + 1) us)) (plainly u)
  at_unit u e b t = ap simple (unit_left us i u e) ∙ ap (λ z. cond z (escaped (drop (i + 1) us)) (plainly u)) t

  pub simple_plain : (u : ℕ) → Some u ≡ slice_get us i → (u ≡ 92 → ⊥) → plainly u ≡ simple (drop i us)
  simple_plain u e ne = sym (at_unit u e false (ne_eqb u 92 ne))

  pub simple_last : (u : ℕ) → Some u ≡ slice_get us i → u ≡ 92 → None ≡ slice_get us (i + 1) → None ≡ simple (drop i us)
  simple_last u e is f = sym (at_unit u e true (eq-eqb u 92 is) ∙ ap escaped (nothing_left us (i + 1) f))

  pub simple_escaped : (u v : ℕ) → Some u ≡ slice_get us i → u ≡ 92 → Some v ≡ slice_get us (i + 1) → cond (special v) (Some (Plain v, 2)) None ≡ simple (drop i us)
  simple_escaped u v e is f = sym (at_unit u e true (eq-eqb u 92 is) ∙ ap escaped (unit_left us (i + 1) v f))

-- a unit that was looked for, and the end of a sequence
pub begins_at : (us : List ℕ) (i c : ℕ) → option_eq nat_eq (slice_get us i) (Some c) ≡ begins c (drop i us)
begins_at [] zero c = refl
begins_at [] (suc i) c = refl
begins_at (u ∷ us) zero c = refl
begins_at (u ∷ us) (suc i) c = begins_at us i c

pub stops_at : (us : List ℕ) (i : ℕ) (o : Option ℕ) (r : Bool) → o ≡ slice_get us i → MatchOption o (r ≡ true) (λ u. r ≡ parting u) → r ≡ stops (drop i us)
stops_at us i None r e h = h ∙ sym (ap stops (nothing_left us i e))
stops_at us i (Some u) r e h = h ∙ sym (ap stops (unit_left us i u e))

-- a text has half as many units as bytes
pub half : (bs : List ℕ) → 2 * length (units bs) ≤ length bs
half bs = (length-units bs).0
