-- Characters of a list: blanks, escapes, hex digits, and the UTF-16 units that a character is.
use Rattle.std.specs.Prelude.{ℕ, ◌+◌, ◌-◌, ◌*◌, ◌/◌, ◌%◌, Bool, cond, ◌&&◌, ◌||◌, List, [], ◌∷◌, ◌++◌, Some, None, Option, ◌==◌, nat_le, nat_lt}

-- a space or a tab
abbrev pub blank : ℕ → Bool
blank c = c == 32 || c == 9

-- the unit that stands for a letter after a backslash: a quotation mark, a backslash, t or n
abbrev pub escape_of : ℕ → Option ℕ
escape_of c = cond (c == 34) (Some 34) (cond (c == 92) (Some 92) (cond (c == 116) (Some 9) (cond (c == 110) (Some 10) None)))

-- the value of a hex digit
abbrev pub hex_of : ℕ → Option ℕ
hex_of c = cond (nat_le 48 c && nat_le c 57) (Some (c - 48)) (cond (nat_le 65 c && nat_le c 70) (Some (c - 55)) (cond (nat_le 97 c && nat_le c 102) (Some (c - 87)) None))

-- both, or none
abbrev pub onward : {X Y : Type 0} → Option X → (X → Option Y) → Option Y
onward None f = None
onward (Some x) f = f x

-- the unit that four hex digits spell
abbrev pub unit_of_hex : ℕ → ℕ → ℕ → ℕ → Option ℕ
unit_of_hex a b c d = onward (hex_of a) (λ w. onward (hex_of b) (λ x. onward (hex_of c) (λ y. onward (hex_of d) (λ z. Some (w * 4096 + x * 256 + y * 16 + z)))))

-- a character as UTF-16: itself below 10000, else a surrogate pair of its ten high and its ten low bits
abbrev pub utf16 : ℕ → List ℕ
utf16 c = cond (nat_lt c 65536) (c ∷ []) ((55296 + (c - 65536) / 1024) ∷ (56320 + (c - 65536) % 1024) ∷ [])

abbrev pub spelling : List ℕ → List ℕ
spelling [] = []
spelling (c ∷ cs) = utf16 c ++ spelling cs
