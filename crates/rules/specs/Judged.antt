-- What loading answers of the bytes of a rule text, with room for so many parts: the rules, or the first fault in the order of judging.
use Rattle.std.specs.Prelude.{ℕ, ◌%◌, Bool, true, false, cond, List, [], ◌∷◌, ◌++◌, length, Some, None, Option, ◌==◌, nat_le, nat_lt}
use Rattle.faults.specs.At.{fault_at}
use Rattle.faults.specs.declared.Cause.TheVariants.{TextTooLong, OddByteCount, IllFormedRuleText, PartsTooShort}
use Rattle.faults.specs.declared.Fault.{Fault}
use Rattle.units.specs.Form.{first_ill}
use Rattle.units.specs.Units.{units}
use Rattle.grammar.specs.Tree.{Rule}
use Rattle.grammar.specs.Whole.{Parsed, rules, fault, parse}
use Rattle.checks.specs.Earliest.{earliest_from}
use Rattle.checks.specs.Faults.{rule_faults}
use Rattle.parts.specs.Laid.{lay_rules}

pub data Verdict : Type 0 where
  accepted : List Rule → Verdict
  refused : Fault → Verdict

abbrev pub is_accepted : Verdict → Bool
is_accepted (accepted rs) = true
is_accepted (refused f) = false

abbrev pub rules_faults : List Rule → List Fault
rules_faults [] = []
rules_faults (r ∷ rs) = rule_faults r ++ rules_faults rs

-- rules whose identifiers and patterns are right, if their parts fit
abbrev pub fitting : ℕ → List Rule → Verdict
fitting room rs = cond (nat_le (length (lay_rules rs)) room) (accepted rs) (refused (fault_at PartsTooShort 0))

abbrev pub sound : ℕ → List Rule → Option Fault → Verdict
sound room rs None = fitting room rs
sound room rs (Some f) = refused f

abbrev pub derived : ℕ → Parsed → Verdict
derived room (rules rs) = sound room rs (earliest_from None (rules_faults rs))
derived room (fault f) = refused f

abbrev pub formed : ℕ → List ℕ → Option ℕ → Verdict
formed room us None = derived room (parse us)
formed room us (Some i) = refused (fault_at IllFormedRuleText i)

abbrev pub judged : List ℕ → ℕ → Verdict
judged bytes room =
    cond (nat_lt 32768 (length bytes)) (refused (fault_at TextTooLong 0))
    (cond (length bytes % 2 == 1) (refused (fault_at OddByteCount 0)) (formed room (units bytes) (first_ill 0 0 (units bytes))))
