-- Which patterns are accepted and which are refused, and what the match of a text with a pattern is.
use Rattle.std.specs.Prelude.{◌≡◌, ℕ, ◌≤◌, Bool, ◌⊎◌, List, Ok, Err, Decides, Result}
use Rattle.faults.specs.declared.Cause.{Cause}
use Rattle.faults.specs.declared.Cause.TheVariants.{MalformedPattern, PatternOverLimit}
use Rattle.automaton.specs.Language.{Tree, Matches}
use Rattle.automaton.specs.Places.{size, Stands}
use Rattle.pattern.specs.Grammar.{Written}
use Rattle.pattern.specs.Parsed.{pattern_match}
use Rattle.pattern.specs.declared.Pattern.{Pattern}

-- the units spell a pattern, however deep its brackets and however many its atoms
abbrev pub WellFormed : List ℕ → Type 0
WellFormed us = (d : ℕ) × (head : Bool) × (tail : Bool) × (t : Tree) × Written d head tail t us

-- they spell one with brackets nested at most 8 deep and at most 60 atoms that are single units or dots
abbrev pub WithinLimits : List ℕ → Type 0
WithinLimits us = (head : Bool) × (tail : Bool) × (t : Tree) × Written 8 head tail t us × (size t ≤ 60)

-- accepted: within the limits, with this tree and no other, for which the pattern stands
pub record Accepted (us : List ℕ) (p : Pattern) : Type 0 where
  pub head : Bool
  pub tail : Bool
  pub tree : Tree
  pub written : Written 8 head tail tree us
  pub few : size tree ≤ 60
  pub only : (d : ℕ) (h e : Bool) (t : Tree) → Written d h e t us → (h ≡ head) × (e ≡ tail) × (t ≡ tree)
  pub stands : Stands p.automaton head tail tree

-- refused: not well formed, or else over a limit
abbrev pub Refusal : List ℕ → Cause → Type 0
Refusal us c = ((c ≡ MalformedPattern) × (WellFormed us → ⊥)) ⊎ ((c ≡ PatternOverLimit) × WellFormed us × (WithinLimits us → ⊥))

abbrev pub Reads : List ℕ → Result Pattern Cause → Type 0
Reads us (Ok p) = Accepted us p
Reads us (Err c) = Refusal us c

-- the text ws matches the pattern us
abbrev pub TextMatches : List ℕ → List ℕ → Type 0
TextMatches us ws = (d : ℕ) × (head : Bool) × (tail : Bool) × (t : Tree) × Written d head tail t us × Matches head tail t ws

-- the answer for a pattern that is accepted: whether the text matches, by any tree that the units spell, of which there is one; and computed
pub record Answered (us ws : List ℕ) (b : Bool) : Type 0 where
  pub within : WithinLimits us
  pub exact : Decides b (TextMatches us ws)
  pub each : (d : ℕ) (head tail : Bool) (t : Tree) → Written d head tail t us → Decides b (Matches head tail t ws)
  pub value : b ≡ pattern_match us ws

abbrev pub Decided : List ℕ → List ℕ → Result Bool Cause → Type 0
Decided us ws (Ok b) = Answered us ws b
Decided us ws (Err c) = Refusal us c
