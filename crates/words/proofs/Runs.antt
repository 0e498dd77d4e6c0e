-- The units from a place on, by their bytes.
use Rattle.std.proofs.Common.{◌≡◌, ℕ, ◌*◌, ◌-◌, ◌≤◌, List, length, take, drop, ap, ◌∙◌, arith}
use Rattle.std.proofs.lemmas.List.{take_all, length-drop}
use Rattle.units.proofs.Texts.{length-units, units-drop}
use Rattle.units.specs.Units.{units}
use Rattle.units.specs.declared.Units.{Units}

pub units_from : (i : ℕ) (bs : List ℕ) → units (take (length bs - 2 * i) (drop (2 * i) bs)) ≡ drop i (units bs)
units_from i bs = let l = length-drop (2 * i) bs in ap units (take_all (length bs - 2 * i) (drop (2 * i) bs) (omega arith)) ∙ units-drop i bs

pub twice_units : (bs : List ℕ) → 2 * length (units bs) ≤ length bs
twice_units bs = (length-units bs).0

-- what a reader of the part from there on has left
module _ (i : ℕ) (bs : List ℕ) (s t : Units) (is : s ≡ t) (it : units t.rest.now ≡ units (take (length bs - 2 * i) (drop (2 * i) bs))) where
  pub left : units s.rest.now ≡ drop i (units bs)
  left = ap (λ u. units u.rest.now) is ∙ it ∙ units_from i bs

  pub left_length : length (units s.rest.now) ≡ length (units bs) - i
  left_length = ap length left ∙ length-drop i (units bs)
