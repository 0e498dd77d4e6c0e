-- The refusal that a pattern meets, if any, and the answer for a pattern and a text, computed.
use Rattle.std.specs.Prelude.{ℕ, suc, pred, Bool, true, false, cond, ◌&&◌, List, [], ◌∷◌, drop, Some, None, Ok, Err, Option, Result, ◌==◌, nat_le, nat_lt}
use Rattle.faults.specs.declared.Cause.{Cause}
use Rattle.faults.specs.declared.Cause.TheVariants.{MalformedPattern, PatternOverLimit}
use Rattle.automaton.specs.Language.{Tree}
use Rattle.automaton.specs.Places.{size}
use Rattle.pattern.specs.Signs.{begins}
use Rattle.pattern.specs.Formed.{formed}
use Rattle.pattern.specs.Parsed.{whole, pattern_match}
use Rattle.pattern.specs.declared.Pattern.{Pattern}
use Rattle.pattern.specs.declared.scan.State.TheVariants.{Fresh}

-- no bracket opens where m are open; behind a backslash none does
abbrev pub shallow : ℕ → Bool → ℕ → List ℕ → Bool
shallow m behind d [] = true
shallow m true d (u ∷ us) = shallow m false d us
shallow m false d (u ∷ us) =
    cond (u == 40) (nat_lt d m && shallow m false (suc d) us)
    (cond (u == 41) (shallow m false (pred d) us)
    (cond (u == 92) (shallow m true d us) (shallow m false d us)))

abbrev pub few : Option (Bool × Tree) → Bool
few None = false
few (Some p) = nat_le (size p.1) 60

-- what stands behind the opening anchor
abbrev pub body : List ℕ → List ℕ
body us = drop (cond (begins 94 us) 1 0) us

abbrev pub cause_of_pattern : List ℕ → Option Cause
cause_of_pattern us =
    cond (formed Fresh 0 (body us)) (cond (shallow 8 false 0 (body us) && few (whole us)) None (Some PatternOverLimit)) (Some MalformedPattern)

abbrev pub cause_of : Result Pattern Cause → Option Cause
cause_of (Ok p) = None
cause_of (Err c) = Some c

abbrev pub answer_of : Option Cause → Bool → Result Bool Cause
answer_of None b = Ok b
answer_of (Some c) b = Err c

abbrev pub pattern_answer : List ℕ → List ℕ → Result Bool Cause
pattern_answer us ws = answer_of (cause_of_pattern us) (pattern_match us ws)
