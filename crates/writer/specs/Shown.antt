-- What a record is written as, and when a packet can carry it.
use Rattle.std.specs.Prelude.{◌≡◌, ℕ, List, [], map, length, Some, None, Option}
use Rattle.std.specs.Option.{unwrap_or}
use Rattle.std.specs.List.{AllByRecursion}
use Rattle.claims.specs.Claims.{text_of, value_of, claim_of, claims_of}
use Rattle.claims.specs.Meaning as meaning
use Rattle.claims.specs.Meaning.{named, type_of}
use Rattle.claims.specs.declared.records.Claim.{Claim}
use Rattle.claims.specs.declared.texts.Text.{Text}
use Rattle.claims.specs.declared.values.Value.{Value}
use Rattle.claims.specs.declared.values.Value.TheVariants.{Uint64, Int64, String, Boolean}
use Rattle.packet.specs.Carriable.{Short, Fits, Carriable}
use Rattle.packet.specs.Format.{body}

-- a record stands for a claim that a packet can carry
abbrev pub Writable : List ℕ → List ℕ → Claim → Type 0
Writable rules packet c = (m : meaning.Claim) × (claim_of rules packet c ≡ Some m) × Carriable m

-- the claims of records that are all writable; none where one is not
abbrev pub Carried : List ℕ → List ℕ → List Claim → Option (List meaning.Claim) → Type 0
Carried rules packet cs (Some ms) = (claims_of rules packet cs ≡ Some ms) × AllByRecursion Carriable ms
Carried rules packet cs None = (ms : List meaning.Claim) → claims_of rules packet cs ≡ Some ms → AllByRecursion Carriable ms → ⊥

-- a text that lies outside shows no unit
abbrev pub shown_text : List ℕ → List ℕ → Text → List ℕ
shown_text rules packet t = unwrap_or (text_of rules packet t) []

abbrev pub shown_value : List ℕ → List ℕ → Value → meaning.Value
shown_value rules packet (Uint64 n) = meaning.uint64 n
shown_value rules packet (Int64 z) = meaning.int64 z
shown_value rules packet (String t) = meaning.string (shown_text rules packet t)
shown_value rules packet (Boolean b) = meaning.boolean b

abbrev pub shown_claim : List ℕ → List ℕ → Claim → meaning.Claim
shown_claim rules packet c = meaning.claim (shown_text rules packet c.typ) (shown_text rules packet c.word) (shown_value rules packet c.value)

pub record TextFits (rules packet : List ℕ) (t : Text) : Type 0 where
  pub stands : text_of rules packet t ≡ Some (shown_text rules packet t)
  pub short : Short (shown_text rules packet t)

-- a string's text fits; any other value does
abbrev pub ValueTextFits : List ℕ → List ℕ → Value → Type 0
ValueTextFits rules packet (Uint64 n) = Unit {0}
ValueTextFits rules packet (Int64 z) = Unit {0}
ValueTextFits rules packet (String t) = TextFits rules packet t
ValueTextFits rules packet (Boolean b) = Unit {0}

pub record ValueFits (rules packet : List ℕ) (v : Value) : Type 0 where
  pub stands : value_of rules packet v ≡ Some (shown_value rules packet v)
  pub fits : Fits (shown_value rules packet v)
  pub texts : ValueTextFits rules packet v

pub record PartsFit (rules packet : List ℕ) (c : Claim) : Type 0 where
  pub type_fits : TextFits rules packet c.typ
  pub word_fits : TextFits rules packet c.word
  pub value_fits : ValueFits rules packet c.value

-- the word names the value's own type
abbrev pub Names : List ℕ → meaning.Value → Type 0
Names w v = named w ≡ Some (type_of v)

-- the bytes of the claims that records are written as
abbrev pub shown_claims : List ℕ → List ℕ → List Claim → List meaning.Claim
shown_claims rules packet cs = map (shown_claim rules packet) cs

abbrev pub shown_body : List ℕ → List ℕ → List Claim → List ℕ
shown_body rules packet cs = body (shown_claims rules packet cs)

-- the bytes that the records take, if each of them is writable
abbrev pub Measured : List ℕ → List ℕ → List Claim → Option ℕ → Type 0
Measured rules packet cs None = AllByRecursion (Writable rules packet) cs → ⊥
Measured rules packet cs (Some n) = AllByRecursion (Writable rules packet) cs × (n ≡ length (shown_body rules packet cs))
