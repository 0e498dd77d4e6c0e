-- The words of a text from a place on, which a reader that stands there has still before it.
use Rattle.std.specs.Prelude.{ℕ, List, drop}
use Rattle.words.specs.Words.{Word, Spelled, words_from}

abbrev pub from : List ℕ → ℕ → List Word
from us i = words_from (drop i us) 0 i

abbrev pub word_at : ℕ → Spelled → Word
word_at i s = record { kind = s.kind; at = i; text = s.text }
