-- What a check answers: accepted are exactly the packets of some claims, and the records stand for those.
use Rattle.std.specs.Prelude.{◌≡◌, ℕ, ◌+◌, ◌-◌, ◌<◌, ◌⊎◌, List, ◌++◌, length, take, drop, Some, None, Ok, Err, Option, Result, ◌≢◌, slice_index}
use Rattle.std.specs.List.{AllByRecursion}
use Rattle.claims.specs.Claims.{claims_of}
use Rattle.claims.specs.Meaning.{Claim}
use Rattle.faults.specs.At.{fault_at}
use Rattle.faults.specs.declared.Cause.{Cause}
use Rattle.faults.specs.declared.Cause.TheVariants.{NotAPacket, LengthMismatch, TooManyClaims}
use Rattle.faults.specs.declared.Fault.{Fault}
use Rattle.packet.specs.Carriable.{Carriable}
use Rattle.packet.specs.Format.{encode, body, Carries}
use Rattle.packet.specs.Judge.{Verdict, one_claim_in, declared_size}
use Rattle.packet.specs.Records.{records_in}

abbrev pub fault_in : Verdict → Option Fault
fault_in (Ok cs) = None
fault_in (Err f) = Some f

-- what a check answers with no packet
abbrev pub fault_of : {X : Type 0} → Result X Fault → Option Fault
fault_of (Ok x) = None
fault_of (Err f) = Some f

-- the one list of claims that the bytes carry, which their records stand for whatever the rule text
pub record Accepted (bytes : List ℕ) : Type 0 where
  pub claims : List Claim
  pub carries : Carries bytes claims
  pub only : (others : List Claim) → Carries bytes others → others ≡ claims
  pub stands : (rules : List ℕ) → claims_of rules bytes (records_in bytes) ≡ Some claims

-- a place behind whole claims, where bytes follow that begin no claim a packet can carry, or one claim too many
pub record FailsAt (bytes : List ℕ) (f : Fault) : Type 0 where
  pub before : List Claim
  pub each : AllByRecursion Carriable before
  pub place : f.place ≡ 3 + length (body before)
  pub front : bytes ≡ take 3 bytes ++ (body before ++ drop f.place bytes)
  pub follows : f.place < length bytes
  pub why : ((length before ≡ 256) × (f ≡ fault_at TooManyClaims f.place))
      ⊎ ((cause : Cause) × (one_claim_in (drop f.place bytes) ≡ Err cause) × (f ≡ fault_at cause f.place) × ((c : Claim) (rest : List ℕ) → Carriable c → drop f.place bytes ≢ encode c ++ rest))

-- not three bytes, or another version
abbrev pub NoHead : List ℕ → Type 0
NoHead bytes = (length bytes < 3) ⊎ (slice_index bytes 0 ≢ 1)

-- a length that is over its limit, or not that of the bytes behind the head
abbrev pub WrongLength : List ℕ → Type 0
WrongLength bytes = (32765 < declared_size bytes) ⊎ (declared_size bytes ≢ length bytes - 3)

-- bytes that are no packet, and the fault that is told of them
pub record Refused (bytes : List ℕ) (f : Fault) : Type 0 where
  pub none : (cs : List Claim) → Carries bytes cs → ⊥
  pub fault : (NoHead bytes × (f ≡ fault_at NotAPacket 0)) ⊎ (((NoHead bytes → ⊥) × WrongLength bytes × (f ≡ fault_at LengthMismatch 1)) ⊎ FailsAt bytes f)

-- no fault exactly where the bytes are the packet of some claims
abbrev pub Exact : List ℕ → Option Fault → Type 0
Exact bytes None = Accepted bytes
Exact bytes (Some f) = Refused bytes f
