-- The tree that units spell, and the match of a text with them, computed.
use Rattle.std.specs.Prelude.{ℕ, Bool, true, false, cond, List, [], ◌∷◌, drop, Some, None, Option, ◌==◌}
use Rattle.automaton.specs.declared.Atom.TheVariants.{Plain, Any}
use Rattle.automaton.specs.Language.{Tree, empty, one, either, followed, star, plus, opt}
use Rattle.automaton.specs.Run.{run}
use Rattle.automaton.specs.Made.{made}
use Rattle.pattern.specs.Signs.{special, begins}
use Rattle.pattern.specs.Formed.{class_of}
use Rattle.pattern.specs.declared.scan.Class.{Class}
use Rattle.pattern.specs.declared.scan.Class.TheVariants.{Opens, Closes, Parts, Escapes, Repeats, Ends, Strays, Takes}

-- the sequence with its last atom, which a repeat may still follow
abbrev pub settled : Tree → Option Tree → Tree
settled q None = q
settled q (Some a) = followed q a

-- the choice with its last sequence
abbrev pub joined : Option Tree → Tree → Tree
joined None q = q
joined (Some w) q = either w q

abbrev pub repeated : ℕ → Tree → Tree
repeated u a = cond (u == 42) (star a) (cond (u == 43) (plus a) (opt a))

abbrev pub single : ℕ → Tree
single u = one (cond (u == 46) Any (Plain u))

-- what was read: before each bracket that is open the choice and the sequence so far, then those since, and the last atom
pub data Spot : Type 0 where
  open_at : List (Option Tree × Tree) → Option Tree → Tree → Option Tree → Spot
  escaped_at : List (Option Tree × Tree) → Option Tree → Tree → Spot
  closed_at : Tree → Spot

abbrev pub plain : List (Option Tree × Tree) → Option Tree → Tree → Option Tree → ℕ → Class → Option Spot
plain fs w q p u Opens = Some (open_at ((w, settled q p) ∷ fs) None empty None)
plain [] w q p u Closes = None
plain (f ∷ fs) w q p u Closes = Some (open_at fs f.0 f.1 (Some (joined w (settled q p))))
plain fs w q p u Parts = Some (open_at fs (Some (joined w (settled q p))) empty None)
plain fs w q p u Escapes = Some (escaped_at fs w (settled q p))
plain fs w q None u Repeats = None
plain fs w q (Some a) u Repeats = Some (open_at fs w (followed q (repeated u a)) None)
plain [] w q p u Ends = Some (closed_at (joined w (settled q p)))
plain (f ∷ fs) w q p u Ends = None
plain fs w q p u Strays = None
plain fs w q p u Takes = Some (open_at fs w (settled q p) (Some (single u)))

abbrev pub next : Spot → ℕ → Option Spot
next (open_at fs w q p) u = plain fs w q p u (class_of u)
next (escaped_at fs w q) u = cond (special u) (Some (open_at fs w q (Some (one (Plain u))))) None
next (closed_at t) u = None

-- the closing anchor and the tree
abbrev pub ended : Spot → Option (Bool × Tree)
ended (open_at [] w q p) = Some (false, joined w (settled q p))
ended (open_at (f ∷ fs) w q p) = None
ended (escaped_at fs w q) = None
ended (closed_at t) = Some (true, t)

abbrev pub onward : Option Spot → (Spot → Option (Bool × Tree)) → Option (Bool × Tree)
onward None rest = None
onward (Some s) rest = rest s

abbrev pub parse : Spot → List ℕ → Option (Bool × Tree)
parse s [] = ended s
parse s (u ∷ us) = onward (next s u) (λ t. parse t us)

abbrev pub whole : List ℕ → Option (Bool × Tree)
whole us = parse (open_at [] None empty None) (drop (cond (begins 94 us) 1 0) us)

abbrev pub tells : Bool → Option (Bool × Tree) → List ℕ → Bool
tells head None ws = false
tells head (Some p) ws = run (made head p.0 p.1) true 0 ws

-- does the text ws match the pattern us?
abbrev pub pattern_match : List ℕ → List ℕ → Bool
pattern_match us ws = tells (begins 94 us) (whole us) ws
