-- The judgement on packets that are written out, by computation.
use Rattle.std.specs.Prelude.{◌≡◌, ℕ, true, List, [], ◌∷◌, ◌++◌, length, replicate, negsuc, Ok, Err, codes, refl}
use Rattle.std.specs.List.{flat_map}
use Rattle.claims.specs.Meaning.{Claim, claim, uint64, int64, string, boolean}
use Rattle.faults.specs.At.{fault_at}
use Rattle.faults.specs.declared.Cause.TheVariants.{NotAPacket, LengthMismatch, TooManyClaims, ClaimPastEnd, UnknownValueType, BooleanOverOne, IllFormedText}
use Rattle.packet.specs.Format.{head_of, encode, packet}
use Rattle.packet.specs.Judge.{judge}

abbrev sealed : List ℕ → List ℕ
sealed bs = head_of (length bs) ++ bs

abbrev sample : List Claim
sample =
    claim (codes "role") (codes "String") (string (codes "admin"))
    ∷ claim (codes "age") (codes "uint64") (uint64 18446744073709551615)
    ∷ claim (codes "low") (codes "INT64") (int64 (negsuc 9223372036854775807))
    ∷ claim [] (codes "boolean") (boolean true)
    ∷ []

pub empty : judge (1 ∷ 0 ∷ 0 ∷ []) ≡ Ok []
empty = refl

pub four_claims : judge (packet sample) ≡ Ok sample
four_claims = refl

pub no_packet : judge (1 ∷ 0 ∷ []) ≡ Err (fault_at NotAPacket 0)
no_packet = refl

pub version_two : judge (2 ∷ 0 ∷ 0 ∷ []) ≡ Err (fault_at NotAPacket 0)
version_two = refl

pub length_wrong : judge (1 ∷ 0 ∷ 1 ∷ []) ≡ Err (fault_at LengthMismatch 1)
length_wrong = refl

pub claim_257 : judge (sealed (flat_map encode (replicate 257 (claim [] (codes "boolean") (boolean true))))) ≡ Err (fault_at TooManyClaims 4355)
claim_257 = refl

pub type_cut : judge (sealed (1 ∷ 0 ∷ [])) ≡ Err (fault_at ClaimPastEnd 3)
type_cut = refl

pub word_unknown : judge (sealed (0 ∷ 1 ∷ 0 ∷ 65 ∷ 0 ∷ [])) ≡ Err (fault_at UnknownValueType 3)
word_unknown = refl

-- the unknown word is judged before the missing value, the missing value before the text
pub value_cut : judge (sealed (encode (claim (0 ∷ []) (codes "uint64") (string [])))) ≡ Err (fault_at ClaimPastEnd 3)
value_cut = refl

pub boolean_two : judge (sealed (encode (claim (0 ∷ []) (codes "boolean") (string (65 ∷ 65 ∷ []))))) ≡ Err (fault_at BooleanOverOne 3)
boolean_two = refl

pub text_zero : judge (sealed (encode (claim (0 ∷ []) (codes "boolean") (boolean true)))) ≡ Err (fault_at IllFormedText 3)
text_zero = refl

pub surrogate_alone : judge (packet (claim [] (codes "boolean") (boolean true) ∷ claim (codes "t") (codes "string") (string (55296 ∷ 65 ∷ [])) ∷ [])) ≡ Err (fault_at IllFormedText 20)
surrogate_alone = refl

pub surrogate_pair : judge (packet (claim (55296 ∷ 57343 ∷ []) (codes "boolean") (boolean true) ∷ [])) ≡ Ok (claim (55296 ∷ 57343 ∷ []) (codes "boolean") (boolean true) ∷ [])
surrogate_pair = refl
