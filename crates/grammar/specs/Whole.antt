-- A whole rule text as it is read: its rules, or the fault at the first word without use or the first item past its limit.
use Rattle.std.specs.Prelude.{ℕ, List, [], ◌∷◌, length}
use Rattle.faults.specs.At.{fault_at}
use Rattle.faults.specs.declared.Cause.{Cause}
use Rattle.faults.specs.declared.Cause.TheVariants.{UnknownCharacter, StringNotClosed, WordTooLong, UnexpectedWord, OverLimit}
use Rattle.faults.specs.declared.Fault.{Fault}
use Rattle.words.specs.Words.{Word, words}
use Rattle.words.specs.Terminals.{Kind, terminal, unreadable}
use Rattle.words.specs.declared.terminals.Slip.TheVariants.{BeginsNone, NotClosed, TooLong}
use Rattle.grammar.specs.Tree.{Rule}
use Rattle.grammar.specs.Readers.{Got, got, useless, past, first_place}
use Rattle.grammar.specs.Parse.{RuleSet}

-- the cause told of a word that the grammar has no use for
abbrev pub cause_of : Kind → Cause
cause_of (terminal t) = UnexpectedWord
cause_of (unreadable BeginsNone) = UnknownCharacter
cause_of (unreadable NotClosed) = StringNotClosed
cause_of (unreadable TooLong) = WordTooLong

-- of a text of so many units: the fault at what is left of its words
abbrev pub fault_from : ℕ → List Word → Fault
fault_from n [] = fault_at UnexpectedWord n
fault_from n (w ∷ ws) = fault_at (cause_of w.kind) w.at

-- a whole text: after the rules nothing is left
pub data Parsed : Type 0 where
  rules : List Rule → Parsed
  fault : Fault → Parsed

abbrev pub ends : ℕ → List Rule → List Word → Parsed
ends n rs [] = rules rs
ends n rs (w ∷ ws) = fault (fault_from n (w ∷ ws))

abbrev pub whole : ℕ → Got (List Rule) → Parsed
whole n (got rs ws) = ends n rs ws
whole n (useless ws) = fault (fault_from n ws)
whole n (past ws) = fault (fault_at OverLimit (first_place ws))

unfoldable pub parse : List ℕ → Parsed
parse us = whole (length us) (RuleSet (words us))
