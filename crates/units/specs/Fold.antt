-- Folding, and equality of texts: as many units, folding alike.
use Rattle.std.specs.Prelude.{◌≡◌, ℕ, ◌+◌, ◌<◌, Bool, true, false, if◌then◌else◌, ◌&&◌, ◌↔◌, IsTrue, List, [], ◌∷◌, map, length, slice_index, ◌==◌, nat_le}

-- 0041–005A fold to 0061–007A
abbrev pub fold_unit : ℕ → ℕ
fold_unit u = if nat_le 65 u && nat_le u 90 then u + 32 else u

abbrev pub same_units : List ℕ → List ℕ → Bool
same_units [] [] = true
same_units [] (y ∷ ys) = false
same_units (x ∷ xs) [] = false
same_units (x ∷ xs) (y ∷ ys) = fold_unit x == fold_unit y && same_units xs ys

-- folding alike at each place of the first
abbrev pub FoldAlikeAt : List ℕ → List ℕ → Type 0
FoldAlikeAt xs ys = (k : ℕ) → k < length xs → fold_unit (slice_index xs k) ≡ fold_unit (slice_index ys k)

-- as many units, folding alike at each place
abbrev pub FoldAlike : List ℕ → List ℕ → Type 0
FoldAlike xs ys = (length xs ≡ length ys) × FoldAlikeAt xs ys

-- what a comparison of two texts answers
pub record Same (xs ys : List ℕ) (r : Bool) : Type 0 where
  pub value : r ≡ same_units xs ys
  pub folded : IsTrue r ↔ (map fold_unit xs ≡ map fold_unit ys)
