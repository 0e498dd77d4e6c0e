-- The words of a rule text, a list of units.
use Rattle.std.specs.Prelude.{ℕ, zero, suc, pred, ◌+◌, Bool, true, false, not, if◌then◌else◌, ◌&&◌, ◌||◌, List, [], ◌∷◌, length, take, drop, Some, None, Option, ◌==◌, nat_le}
use Rattle.std.specs.Option.{unwrap_or}
use Rattle.std.specs.List.{prefix_len}
use Rattle.units.specs.Fold.{same_units}
use Rattle.words.specs.Terminals.{Kind, terminal, unreadable, symbols, keywords, value_types}
use Rattle.words.specs.declared.terminals.Slip.{Slip}
use Rattle.words.specs.declared.terminals.Slip.TheVariants.{BeginsNone, NotClosed, TooLong}
use Rattle.words.specs.declared.terminals.Terminal.{Terminal}
use Rattle.words.specs.declared.terminals.Terminal.TheVariants.{Identifier, Literal}

-- a word: what it is, the place of its first unit, and the text of an identifier or of what is quoted
pub record Word : Type 0 where
  pub kind : Kind
  pub at : ℕ
  pub text : List ℕ

abbrev pub within : ℕ → ℕ → ℕ → Bool
within low high u = nat_le low u && nat_le u high

-- 0020, 0009, 000A and 000D part words
abbrev pub blank : ℕ → Bool
blank u = u == 32 || (u == 9 || (u == 10 || u == 13))

-- _, A–Z and a–z begin a name, and digits go on with it
abbrev pub letter : ℕ → Bool
letter u = u == 95 || (within 65 90 u || within 97 122 u)

abbrev pub in_name : ℕ → Bool
in_name u = letter u || within 48 57 u

-- a string goes on up to a quote, and not past 000A
abbrev pub in_string : ℕ → Bool
in_string u = not (u == 34 || u == 10)

abbrev pub begins : List ℕ → List ℕ → Bool
begins [] us = true
begins (p ∷ ps) [] = false
begins (p ∷ ps) (u ∷ us) = p == u && begins ps us

-- the terminal of a table that the units spell, in any case
abbrev pub spelled_by : List (List ℕ × Terminal) → List ℕ → Option Terminal
spelled_by [] us = None
spelled_by (n ∷ ns) us = if same_units us n.0 then Some n.1 else spelled_by ns us

-- the word at the front of units: what it is, how many units it takes, and its text
pub record Spelled : Type 0 where
  pub kind : Kind
  pub long : ℕ
  pub text : List ℕ

-- units that are no word take the rest of the text
abbrev pub no_word : Slip → List ℕ → Spelled
no_word s us = record { kind = unreadable s; long = length us; text = [] }

abbrev pub symbol : List (List ℕ × Terminal) → List ℕ → Spelled
symbol [] us = no_word BeginsNone us
symbol (s ∷ ss) us = if begins s.0 us then record { kind = terminal s.1; long = length s.0; text = [] } else symbol ss us

-- a name is a keyword, or an identifier with its text
abbrev pub name_word : List ℕ → Option Terminal → Spelled
name_word run None = record { kind = terminal Identifier; long = length run; text = run }
name_word run (Some t) = record { kind = terminal t; long = length run; text = [] }

-- the longest run of name units, at most 31
abbrev pub name : List ℕ → List ℕ → Spelled
name us run = if nat_le (length run) 31 then name_word run (spelled_by keywords run) else no_word TooLong us

-- what is quoted is a value type or a literal, and has its text
abbrev pub quoted_word : List ℕ → Option Terminal → Spelled
quoted_word run o = record { kind = terminal (unwrap_or o Literal); long = length run + 2; text = run }

-- a string of at most 255 units between its quotes, closed on its line
abbrev pub string : List ℕ → List ℕ → List ℕ → Spelled
string us run rest =
    if begins (34 ∷ []) rest then (if nat_le (length run) 255 then quoted_word run (spelled_by value_types run) else no_word TooLong us)
    else no_word NotClosed us

abbrev pub front : (ℕ → Bool) → List ℕ → List ℕ
front p us = take (prefix_len p us) us

abbrev pub spelled : ℕ → List ℕ → Spelled
spelled u us =
    if letter u then name (u ∷ us) (front in_name (u ∷ us))
    else (if u == 34 then string (u ∷ us) (front in_string us) (drop (prefix_len in_string us) us) else symbol symbols (u ∷ us))

-- the words from a place on, where the first units may belong to a word that is read already
abbrev pub words_from : List ℕ → ℕ → ℕ → List Word
words_from [] more place = []
words_from (u ∷ us) zero place =
    if blank u then words_from us 0 (suc place)
    else (record { kind = (spelled u us).kind; at = place; text = (spelled u us).text } ∷ words_from us (pred (spelled u us).long) (suc place))
words_from (u ∷ us) (suc more) place = words_from us more (suc place)

abbrev pub words : List ℕ → List Word
words us = words_from us 0 0
