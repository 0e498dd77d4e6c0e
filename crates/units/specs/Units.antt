-- The units that bytes hold, and the bytes of units, high byte first.
use Rattle.std.specs.Prelude.{ℕ, ◌+◌, ◌*◌, ◌/◌, ◌%◌, List, [], ◌∷◌}

-- a last odd byte is no unit
abbrev pub units : List ℕ → List ℕ
units [] = []
units (h ∷ []) = []
units (h ∷ l ∷ bs) = (h * 256 + l) ∷ units bs

abbrev pub unit_bytes : List ℕ → List ℕ
unit_bytes [] = []
unit_bytes (u ∷ us) = u / 256 ∷ u % 256 ∷ unit_bytes us
