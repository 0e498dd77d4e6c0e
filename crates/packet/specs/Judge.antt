-- The judgement of a packet, in the order of the faults.
use Rattle.std.specs.Prelude.{ℕ, zero, suc, ◌+◌, ◌-◌, ◌*◌, Bool, true, cond, not, ◌&&◌, ◌||◌, List, [], ◌∷◌, length, take, drop, Some, None, Ok, Err, Option, Result, ◌==◌, nat_le, nat_lt, slice_index}
use Rattle.std.proofs.Common.{to_z}
use Rattle.std.specs.Int.{w64}
use Rattle.std.specs.Int.Digits.{number_from_digits}
use Rattle.claims.specs.Meaning.{Value, uint64, int64, string, boolean, Claim, claim, named}
use Rattle.claims.specs.declared.values.ValueType.{ValueType}
use Rattle.claims.specs.declared.values.ValueType.TheVariants.{Uint64, Int64, String, Boolean}
use Rattle.faults.specs.At.{fault_at}
use Rattle.faults.specs.declared.Cause.{Cause}
use Rattle.faults.specs.declared.Cause.TheVariants.{NotAPacket, LengthMismatch, TooManyClaims, ClaimPastEnd, UnknownValueType, BooleanOverOne, IllFormedText}
use Rattle.faults.specs.declared.Fault.{Fault}
use Rattle.units.specs.Form.{well_formed}
use Rattle.units.specs.Units.{units}

-- go on with what is there, or stop with the cause
abbrev pub need : {X Y : Type 0} → Option X → Cause → (X → Result Y Cause) → Result Y Cause
need None n f = Err n
need (Some x) n f = f x

abbrev pub onward : {X Y : Type 0} → Result X Cause → (X → Result Y Cause) → Result Y Cause
onward (Err n) f = Err n
onward (Ok x) f = f x

-- the text at the front, or none where the bytes end before it does
abbrev pub text_in : List ℕ → Option (List ℕ)
text_in [] = None
text_in (n ∷ bs) = cond (nat_le (2 * n) (length bs)) (Some (units (take (2 * n) bs))) None

abbrev pub size_of_text : List ℕ → ℕ
size_of_text us = 1 + 2 * length us

abbrev pub boolean_in : List ℕ → Result Value Cause
boolean_in [] = Err ClaimPastEnd
boolean_in (b ∷ bs) = cond (nat_le b 1) (Ok (boolean (b == 1))) (Err BooleanOverOne)

abbrev pub value_in : ValueType → List ℕ → Result Value Cause
value_in Uint64 bs = cond (nat_le 8 (length bs)) (Ok (uint64 (number_from_digits 256 (take 8 bs)))) (Err ClaimPastEnd)
value_in Int64 bs = cond (nat_le 8 (length bs)) (Ok (int64 (to_z w64 (number_from_digits 256 (take 8 bs))))) (Err ClaimPastEnd)
value_in String bs = need (text_in bs) ClaimPastEnd (λ us. Ok (string us))
value_in Boolean bs = boolean_in bs

abbrev pub size_of_value : Value → ℕ
size_of_value (uint64 n) = 8
size_of_value (int64 z) = 8
size_of_value (string us) = size_of_text us
size_of_value (boolean b) = 1

abbrev pub size : Claim → ℕ
size c = size_of_text c.typ + size_of_text c.word + size_of_value c.value

abbrev pub well_formed_value : Value → Bool
well_formed_value (uint64 n) = true
well_formed_value (int64 z) = true
well_formed_value (string us) = well_formed us
well_formed_value (boolean b) = true

abbrev pub well_formed_claim : Claim → Bool
well_formed_claim c = well_formed c.typ && (well_formed c.word && well_formed_value c.value)

abbrev pub whole : Claim → Result Claim Cause
whole c = cond (well_formed_claim c) (Ok c) (Err IllFormedText)

-- the claim at the front, or the cause of its first fault, judged field by field
abbrev pub from_value : List ℕ → List ℕ → Result Value Cause → Result Claim Cause
from_value t w r = onward r (λ v. whole (claim t w v))

abbrev pub from_named : List ℕ → List ℕ → List ℕ → Option ValueType → Result Claim Cause
from_named bs t w o = need o UnknownValueType (λ k. from_value t w (value_in k (drop (size_of_text t + size_of_text w) bs)))

abbrev pub from_word : List ℕ → List ℕ → Option (List ℕ) → Result Claim Cause
from_word bs t o = need o ClaimPastEnd (λ w. from_named bs t w (named w))

abbrev pub from_type : List ℕ → Option (List ℕ) → Result Claim Cause
from_type bs o = need o ClaimPastEnd (λ t. from_word bs t (text_in (drop (size_of_text t) bs)))

abbrev pub one_claim_in : List ℕ → Result Claim Cause
one_claim_in bs = from_type bs (text_in bs)

abbrev pub Verdict : Type 0
Verdict = Result (List Claim) Fault

abbrev pub followed : Claim → Verdict → Verdict
followed c (Ok cs) = Ok (c ∷ cs)
followed c (Err f) = Err f

abbrev pub after : Result Claim Cause → ℕ → (Claim → Verdict) → Verdict
after (Ok c) at f = f c
after (Err n) at f = Err (fault_at n at)

-- the claims from the place `at` on, of which k more may come
abbrev pub walk : ℕ → ℕ → List ℕ → Verdict
walk zero at [] = Ok []
walk zero at (b ∷ bs) = Err (fault_at TooManyClaims at)
walk (suc k) at [] = Ok []
walk (suc k) at (b ∷ bs) = after (one_claim_in (b ∷ bs)) at (λ c. followed c (walk k (at + size c) (drop (size c) (b ∷ bs))))

-- bytes 1 and 2
abbrev pub declared_size : List ℕ → ℕ
declared_size bs = slice_index bs 1 * 256 + slice_index bs 2

abbrev pub judge : List ℕ → Verdict
judge bs =
    cond (nat_lt (length bs) 3 || not (slice_index bs 0 == 1)) (Err (fault_at NotAPacket 0))
    (cond (nat_lt 32765 (declared_size bs) || not (declared_size bs == length bs - 3)) (Err (fault_at LengthMismatch 1))
    (walk 256 3 (drop 3 bs)))

-- the number of claims, with those n that were before
abbrev pub counted : ℕ → Verdict → Result ℕ Fault
counted n (Ok cs) = Ok (n + length cs)
counted n (Err f) = Err f

-- the claims that were accepted
abbrev pub claims_in : Verdict → List Claim
claims_in (Ok cs) = cs
claims_in (Err f) = []
