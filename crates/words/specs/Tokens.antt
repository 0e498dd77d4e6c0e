-- What a token says, whatever memory it borrows.
use Rattle.std.specs.Prelude.{◌≡◌, ℕ, ◌+◌, ◌-◌, ◌<◌, ◌≤◌, List, [], ◌∷◌, length, take, drop, Some, None, Option, slice_index}
use Rattle.units.specs.Units.{units}
use Rattle.words.specs.Places.{from}
use Rattle.words.specs.Terminals.{Kind, terminal, unreadable}
use Rattle.words.specs.Words.{Word, Spelled, spelled}
use Rattle.words.specs.declared.terminals.Terminal.TheVariants.{Identifier, Literal}
use Rattle.words.specs.declared.tokens.Lexeme.{Lexeme}
use Rattle.words.specs.declared.tokens.Token.{Token}
use Rattle.words.specs.declared.tokens.Token.TheVariants as token

abbrev pub kind_of : Token → Kind
kind_of (token.Symbol t) = terminal t
kind_of (token.Keyword t) = terminal t
kind_of (token.Ident s) = terminal Identifier
kind_of (token.Str s) = terminal Literal
kind_of (token.TypeName t s) = terminal t
kind_of (token.Slip s) = unreadable s

abbrev pub text_of : Token → List ℕ
text_of (token.Symbol t) = []
text_of (token.Keyword t) = []
text_of (token.Ident s) = units s.now
text_of (token.Str s) = units s.now
text_of (token.TypeName t s) = units s.now
text_of (token.Slip s) = []

abbrev pub spelled_as : Lexeme → Spelled
spelled_as l = record { kind = kind_of l.token; long = l.end - l.at; text = text_of l.token }

abbrev pub word_of : Lexeme → Word
word_of l = record { kind = kind_of l.token; at = l.at; text = text_of l.token }

-- where a token's own units lie: an identifier from its place on, what is quoted behind the quote
abbrev pub Lies : List ℕ → Lexeme → Token → Type 0
Lies us l (token.Symbol t) = Unit {0}
Lies us l (token.Keyword t) = Unit {0}
Lies us l (token.Ident s) = units s.now ≡ take (l.end - l.at) (drop l.at us)
Lies us l (token.Str s) = units s.now ≡ take (l.end - l.at - 2) (drop (l.at + 1) us)
Lies us l (token.TypeName t s) = units s.now ≡ take (l.end - l.at - 2) (drop (l.at + 1) us)
Lies us l (token.Slip s) = Unit {0}

-- the word at a place that is no blank
pub record WordAt (us : List ℕ) (i : ℕ) (l : Lexeme) : Type 0 where
  pub at : l.at ≡ i
  pub spelt : spelled_as l ≡ spelled (slice_index us i) (drop (i + 1) us)
  pub on : i < l.end
  pub within : l.end ≤ length us
  pub lies : Lies us l l.token

-- the first word from a place on, and the words that follow it; none where no word is left
abbrev pub Reads : List ℕ → ℕ → Option Lexeme → Type 0
Reads us start None = from us start ≡ []
Reads us start (Some l) = (from us start ≡ word_of l ∷ from us l.end) × (start ≤ l.at) × (l.at < l.end) × (l.end ≤ length us) × Lies us l l.token
