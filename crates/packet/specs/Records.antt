-- The records of a packet's claims: each text at its own place in the packet.
use Rattle.std.specs.Prelude.{ℕ, ◌+◌, List, [], ◌∷◌, length}
use Rattle.claims.specs.Meaning as meaning
use Rattle.claims.specs.Meaning.{uint64, int64, string, boolean}
use Rattle.claims.specs.declared.records.Claim.{Claim}
use Rattle.claims.specs.declared.texts.Origin.TheVariants.{Packet}
use Rattle.claims.specs.declared.texts.Text.{Text}
use Rattle.claims.specs.declared.values.Value.{Value}
use Rattle.claims.specs.declared.values.Value.TheVariants.{Uint64, Int64, String, Boolean}
use Rattle.packet.specs.Judge.{size_of_text, size, judge, claims_in}

-- a text whose length byte is at `at`
abbrev pub text_record : ℕ → List ℕ → Text
text_record at us = record { origin = Packet; place = at + 1; len = length us }

abbrev pub value_record : ℕ → meaning.Value → Value
value_record at (uint64 n) = Uint64 n
value_record at (int64 z) = Int64 z
value_record at (string us) = String (text_record at us)
value_record at (boolean b) = Boolean b

-- a claim whose first byte is at `at`
abbrev pub claim_record : ℕ → meaning.Claim → Claim
claim_record at c = record {
  typ = text_record at c.typ;
  word = text_record (at + size_of_text c.typ) c.word;
  value = value_record (at + size_of_text c.typ + size_of_text c.word) c.value;
}

abbrev pub records_from : ℕ → List meaning.Claim → List Claim
records_from at [] = []
records_from at (c ∷ cs) = claim_record at c ∷ records_from (at + size c) cs

-- the records of an accepted packet
abbrev pub records_in : List ℕ → List Claim
records_in bs = records_from 3 (claims_in (judge bs))
