-- What reading a text into a sink gives: the number of its rules or their earliest fault, and their parts; or where reading stops, with as much room as before.
use Rattle.std.specs.Prelude.{◌≡◌, ℕ, List, length, Some, None, Ok, Err, Option, Result}
use Rattle.faults.specs.declared.Fault.{Fault}
use Rattle.words.specs.Words.{Word}
use Rattle.grammar.specs.Readers.{Got, got}
use Rattle.grammar.specs.Tree.{Rule}
use Rattle.grammar.specs.Whole.{Parsed, rules}
use Rattle.cursor.specs.Reading.{stopped}
use Rattle.cursor.specs.declared.pieces.Stop.{Stop}
use Rattle.checks.specs.Earliest.{earliest_from}
use Rattle.parts.specs.Laid.{lay_rules}
use Rattle.rules.specs.Held.{Put, room_of}
use Rattle.rules.specs.Judged.{rules_faults, derived, refused}
use Rattle.rules.specs.declared.sink.Sink.{Sink}

-- so many rules, or a fault that is known of them
abbrev pub told_of : Option Fault → ℕ → Result ℕ Fault
told_of None n = Ok n
told_of (Some f) n = Err f

-- these rules were read and their parts put
pub record Took (rs : List Rule) (r : Result ℕ Fault) (s t : Sink) : Type 0 where
  pub told : r ≡ told_of (earliest_from None (rules_faults rs)) (length rs)
  pub put : Put (lay_rules rs) s t

abbrev pub Ends : Got (List Rule) → List Word → Sink → Sink → Result (Result ℕ Fault) Stop → Type 0
Ends g ws s t (Ok r) = (rs : List Rule) × (g ≡ got rs ws) × Took rs r s t
Ends g ws s t (Err e) = (g ≡ stopped e ws) × (room_of t ≡ room_of s)

-- rules without a fault were read; or there is a fault, however much room there were
abbrev pub Reads : Parsed → Sink → Sink → Result ℕ Fault → Type 0
Reads p s t (Ok n) = (rs : List Rule) × (p ≡ rules rs) × (None ≡ earliest_from None (rules_faults rs)) × (n ≡ length rs) × Put (lay_rules rs) s t
Reads p s t (Err f) = ((room : ℕ) → derived room p ≡ refused f) × (room_of t ≡ room_of s)
