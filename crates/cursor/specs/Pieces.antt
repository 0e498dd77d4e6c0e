-- The word that a piece is, through the units of its text.
use Rattle.std.specs.Prelude.{ℕ, List, take, drop}
use Rattle.words.specs.Terminals.{terminal}
use Rattle.words.specs.Words.{Word}
use Rattle.cursor.specs.declared.pieces.Piece.{Piece}

abbrev pub word_of : List ℕ → Piece → Word
word_of us p = record { kind = terminal p.terminal; at = p.at; text = take p.len (drop p.from us) }
