-- What writing answers, and what the buffer holds then.
use Rattle.std.specs.Prelude.{◌≡◌, ℕ, ◌+◌, cond, ◌||◌, List, ◌++◌, length, take, drop, Some, None, Ok, Err, Option, Result, nat_lt}
use Rattle.claims.specs.Meaning as meaning
use Rattle.claims.specs.declared.records.Claim.{Claim}
use Rattle.faults.specs.At.{fault_at}
use Rattle.faults.specs.declared.Cause.TheVariants.{UncarriableClaim, PacketTooLarge, BufferTooShort}
use Rattle.faults.specs.declared.Fault.{Fault}
use Rattle.packet.specs.Format.{body, packet}
use Rattle.packet.specs.Judge.{judge}
use Rattle.writer.specs.Shown.{Carried}

-- a buffer with bytes written at a place: what lies in front and behind is kept
abbrev pub written : List ℕ → ℕ → List ℕ → List ℕ
written old at bs = take at old ++ (bs ++ drop (at + length bs) old)

-- writing claims into a buffer of `room` bytes: the packet's length, or why not
abbrev pub packed : List meaning.Claim → ℕ → Result ℕ Fault
packed cs room =
    cond (nat_lt 256 (length cs) || nat_lt 32765 (length (body cs))) (Err (fault_at PacketTooLarge 0))
    (cond (nat_lt room (3 + length (body cs))) (Err (fault_at BufferTooShort 0)) (Ok (3 + length (body cs))))

abbrev pub answer_to : Option (List meaning.Claim) → ℕ → Result ℕ Fault
answer_to None room = Err (fault_at UncarriableClaim 0)
answer_to (Some cs) room = packed cs room

-- the packet in front and the old rest behind it; on a refusal all as it was
abbrev pub filled : Result ℕ Fault → Option (List meaning.Claim) → List ℕ → List ℕ
filled (Ok n) (Some cs) old = packet cs ++ drop n old
filled (Ok n) None old = old
filled (Err f) o old = old

-- what was written is accepted, and reads back as the claims
abbrev pub ReadsBack : Result ℕ Fault → Option (List meaning.Claim) → List ℕ → Type 0
ReadsBack (Ok n) (Some cs) new = judge (take n new) ≡ Ok cs
ReadsBack (Ok n) None new = ⊥
ReadsBack (Err f) o new = Unit {0}

-- records written into a buffer, by the claims that they stand for
pub record Wrote (rules packet' : List ℕ) (cs : List Claim) (old new : List ℕ) (r : Result ℕ Fault) : Type 0 where
  pub claims : Option (List meaning.Claim)
  pub carried : Carried rules packet' cs claims
  pub answer : r ≡ answer_to claims (length old)
  pub buffer : new ≡ filled r claims old
  pub reread : ReadsBack r claims new
