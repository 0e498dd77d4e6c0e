-- The words from the next one on, by places.
use Rattle.std.specs.Prelude.{ℕ, ◌+◌, ◌-◌, List, [], ◌∷◌, take}
use Rattle.words.specs.Places.{from}
use Rattle.words.specs.Terminals.{unreadable}
use Rattle.words.specs.Words.{Word}
use Rattle.words.specs.declared.terminals.Terminal.TheVariants.{Identifier, Literal}
use Rattle.words.specs.declared.tokens.Token.{Token}
use Rattle.words.specs.declared.tokens.Token.TheVariants as token
use Rattle.cursor.specs.Pieces.{word_of}
use Rattle.cursor.specs.declared.ahead.Ahead.{Ahead}
use Rattle.cursor.specs.declared.ahead.Ahead.TheVariants as ahead

-- what is read of a text: its first 65535 units
unfoldable pub short : List ℕ → List ℕ
short us = take 65535 us

abbrev pub ahead_words : List ℕ → Ahead → List Word
ahead_words us (ahead.Word p end) = word_of us p ∷ from us end
ahead_words us (ahead.Slip s at end) = record { kind = unreadable s; at = at; text = [] } ∷ from us end
ahead_words us ahead.End = []

-- a token from its place on up to the place behind it: an identifier has its units there, what is quoted behind the quote
abbrev pub ahead_of : Token → ℕ → ℕ → Ahead
ahead_of (token.Symbol t) at end = ahead.Word (record { terminal = t; at = at; from = 0; len = 0 }) end
ahead_of (token.Keyword t) at end = ahead.Word (record { terminal = t; at = at; from = 0; len = 0 }) end
ahead_of (token.Ident s) at end = ahead.Word (record { terminal = Identifier; at = at; from = at; len = end - at }) end
ahead_of (token.Str s) at end = ahead.Word (record { terminal = Literal; at = at; from = at + 1; len = end - at - 2 }) end
ahead_of (token.TypeName t s) at end = ahead.Word (record { terminal = t; at = at; from = at + 1; len = end - at - 2 }) end
ahead_of (token.Slip s) at end = ahead.Slip s at end
