-- Characters as they are shown: which are hidden behind an escape, which stand in a bare word, and how an escape is written.
use Rattle.std.specs.Prelude.{◌≡◌, ℕ, ◌-◌, ◌^◌, Bool, false, true, not, ◌&&◌, ◌||◌, List, [], ◌∷◌, ◌++◌, Some, None, Option, Ok, Err, Result, codes, ◌==◌, nat_le}
use Rattle.std.specs.declared.iter.Ahead.{Ahead}
use Rattle.std.specs.Iterator.Adapters.{peekable_peeked, peekable_source}
use Rattle.units.specs.Units.{units}
use Rattle.units.specs.declared.Units.{Units}
use Rattle.std.specs.Fmt.{digits, format_spec, padded_integral}
use Rattle.notation.specs.Letters.{blank, utf16}

-- control characters, line and paragraph separators, marks of direction, and the byte order mark
abbrev pub hidden : ℕ → Bool
hidden c = nat_le c 31 || ((nat_le 127 c && nat_le c 159) || ((nat_le 8206 c && nat_le c 8207) || ((nat_le 8232 c && nat_le c 8238) || ((nat_le 8294 c && nat_le c 8297) || c == 65279))))

-- a character of a bare word that means itself: no blank, no quotation mark, no backslash, no number sign
abbrev pub plain : ℕ → Bool
plain c = not (hidden c) && (not (blank c) && (not (c == 34) && (not (c == 92) && not (c == 35))))

-- the units us begin with a character, or with a unit that is part of none, and then come the units vs
abbrev pub Letter : List ℕ → Result ℕ ℕ → List ℕ → Type 0
Letter us (Ok c) vs = us ≡ utf16 c ++ vs
Letter us (Err u) vs = us ≡ u ∷ vs

-- what a step through a text gives: its first letter, or none at its end
abbrev pub FirstLetter : List ℕ → Option (Result ℕ ℕ) → List ℕ → Type 0
FirstLetter us None vs = (us ≡ []) × (vs ≡ [])
FirstLetter us (Some x) vs = Letter us x vs

-- the units that are still to come, where one of them was looked at already, or the end was
abbrev pub with_seen : Option (Option ℕ) → List ℕ → List ℕ
with_seen None us = us
with_seen (Some None) us = us
with_seen (Some (Some u)) us = u ∷ us

abbrev pub units_left : Ahead Units ℕ → List ℕ
units_left s = with_seen (peekable_peeked s) (units (peekable_source s).rest.now)

-- no units come after the end was seen
abbrev pub after_end : Option (Option ℕ) → List ℕ → List ℕ
after_end (Some None) us = us
after_end o us = []

abbrev pub IsEnded : Ahead Units ℕ → Type 0
IsEnded s = after_end (peekable_peeked s) (units (peekable_source s).rest.now) ≡ []

-- a unit as an escape: four hex digits, the letters among them capitals
abbrev pub escape : ℕ → List ℕ
escape u = codes "\\u" ++ padded_integral (format_spec 32 0 4 4 (2 ^ 64 - 1)) false [] (digits 16 true u)
