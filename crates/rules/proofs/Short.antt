-- A text within the limit is read whole.
use Rattle.std.proofs.Common.{◌≡◌, ℕ, ◌≤◌, List, length, sym, arith}
use Rattle.std.proofs.lemmas.List.{take_all}
use Rattle.units.proofs.Texts.{length-units}
use Rattle.units.specs.Units.{units}
use Rattle.cursor.specs.Ahead.{short}

pub short_units : (bs : List ℕ) → length bs ≤ 131070 → units bs ≡ short (units bs)
unfolding short
short_units bs h = let l = length-units bs in sym (take_all 65535 (units bs) (omega arith))
