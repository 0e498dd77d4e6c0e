-- Tables of names, as the words are read with them.
use Rattle.std.specs.Prelude.{ℕ, List, map}
use Rattle.std.specs.Borrow.{Bor}
use Rattle.words.specs.declared.terminals.Terminal.{Terminal}

-- the name's bytes, whatever memory holds them
abbrev pub entry : Bor (List ℕ) × Terminal → List ℕ × Terminal
entry e = (e.0.now, e.1)

abbrev pub entries : List (Bor (List ℕ) × Terminal) → List (List ℕ × Terminal)
entries = map entry
