-- The bytes of a claim's text, as a part of one of two texts.
use Rattle.std.specs.Prelude.{ℕ, ◌+◌, ◌*◌, cond, List, length, take, drop, Some, None, Option, nat_le}
use Rattle.claims.specs.declared.texts.Origin.{Origin}
use Rattle.claims.specs.declared.texts.Origin.TheVariants.{Rules, Packet}
use Rattle.claims.specs.declared.texts.Text.{Text}

abbrev pub source_of : List ℕ → List ℕ → Origin → List ℕ
source_of rules packet Rules = rules
source_of rules packet Packet = packet

-- the byte at which a place of this origin lies: a unit of the rule text has two
abbrev pub byte_of : Origin → ℕ → ℕ
byte_of Rules p = 2 * p
byte_of Packet p = p

abbrev pub start_of : Text → ℕ
start_of t = byte_of t.origin t.place

abbrev pub end_of : Text → ℕ
end_of t = start_of t + 2 * t.len

-- none where the text lies outside
abbrev pub part_of : List ℕ → List ℕ → Text → Option (List ℕ)
part_of rules packet t =
    cond (nat_le (end_of t) (length (source_of rules packet t.origin))) (Some (take (2 * t.len) (drop (start_of t) (source_of rules packet t.origin)))) None
