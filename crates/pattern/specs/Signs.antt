-- The units that mean something of their own in a pattern, and what may stand at a place.
use Rattle.std.specs.Prelude.{ℕ, Bool, true, false, cond, ◌&&◌, ◌||◌, List, [], ◌∷◌, Some, None, Option, ◌==◌, nat_le}
use Rattle.automaton.specs.declared.Atom.{Atom}
use Rattle.automaton.specs.declared.Atom.TheVariants.{Plain, Any}

-- . * + ? | ( ) [ ] \ ^ $
abbrev pub special : ℕ → Bool
special c = (nat_le 40 c && nat_le c 43) || c == 46 || c == 63 || c == 124 || (nat_le 91 c && nat_le c 94) || c == 36

abbrev pub begins : ℕ → List ℕ → Bool
begins c [] = false
begins c (u ∷ us) = u == c

abbrev pub parting : ℕ → Bool
parting u = u == 124 || u == 41 || u == 36

-- nothing, or a bar, a closing bracket or the closing anchor
abbrev pub stops : List ℕ → Bool
stops [] = true
stops (u ∷ us) = parting u

-- a dot or a plain unit
abbrev pub plainly : ℕ → Option (Atom × ℕ)
plainly u = cond (u == 46) (Some (Any, 1)) (cond (special u) None (Some (Plain u, 1)))

-- behind an escape, a special unit
abbrev pub escaped : List ℕ → Option (Atom × ℕ)
escaped [] = None
escaped (u ∷ us) = cond (special u) (Some (Plain u, 2)) None

-- the atom for one unit that is written first, and with how many units
abbrev pub simple : List ℕ → Option (Atom × ℕ)
simple [] = None
simple (u ∷ us) = cond (u == 92) (escaped us) (plainly u)
