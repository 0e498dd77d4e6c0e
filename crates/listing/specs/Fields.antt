-- The characters of a bare word, and bytes that are whole units.
use Rattle.std.specs.Prelude.{◌≡◌, ℕ, Bool, not, ◌&&◌, List, ◌==◌}
use Rattle.units.specs.Units.{unit_bytes}
use Rattle.notation.specs.Letters.{blank}

-- a character of a bare word: no blank and no quotation mark
abbrev pub bare : ℕ → Bool
bare c = not (blank c) && not (c == 34)

-- bytes that are units and nothing else
abbrev pub Whole : List ℕ → Type 0
Whole bs = (us : List ℕ) × (bs ≡ unit_bytes us)
