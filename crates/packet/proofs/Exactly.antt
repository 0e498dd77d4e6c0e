-- The judgement and the format say the same.
use Rattle.std.proofs.Common.{◌≡◌, ℕ, ◌+◌, ◌<◌, true, List, length, get_or, is_ok, Some, None, Ok, Err, Option, sym, refl, ap, ◌∙◌, subst, arith}
use Rattle.std.proofs.ByRecursion.{All-from_get_or}
use Rattle.claims.specs.Claims.{claims_of}
use Rattle.faults.specs.declared.Fault.{Fault}
use Rattle.packet.specs.Exact.{Exact, fault_in}
use Rattle.packet.specs.Format.{Bytes}
use Rattle.packet.specs.Judge.{Verdict, judge, counted, claims_in}
use Rattle.packet.specs.Records.{records_from}
use Rattle.packet.proofs.Claims.{judge_read, judge_carries}
use Rattle.packet.proofs.Refusing.{told}
use Rattle.packet.proofs.Standing.{packet_stands}

-- what a counted verdict tells
pub counted_ok : (v : Verdict) (n : ℕ) → Ok n ≡ counted 0 v → (is_ok v ≡ true) × (n ≡ length (claims_in v)) × (None ≡ fault_in v)
counted_ok (Ok cs) n e = let is : n ≡ 0 + length cs = cc in (refl, omega arith, refl)
counted_ok (Err f) n e = let z : ◌≡◌ {A = ℕ} 0 1 = cc in absurd (omega arith)

pub counted_err : (v : Verdict) (f : Fault) → Err f ≡ counted 0 v → Some f ≡ fault_in v
counted_err (Ok cs) f e = let z : ◌≡◌ {A = ℕ} 0 1 = cc in absurd (omega arith)
counted_err (Err g) f e = let is : f ≡ g = cc in ap Some is

exact_verdict : (bs : List ℕ) (v : Verdict) → Bytes bs → judge bs ≡ v → Exact bs (fault_in v)
exact_verdict bs (Ok cs) h e =
    let carries = judge_read bs cs h e in
    record {
      claims = cs;
      carries = carries;
      only = λ ds d. let is : ◌≡◌ {A = Verdict} (Ok ds) (Ok cs) = sym (judge_carries bs ds d) ∙ e in cc;
      stands = λ rules. ap (λ v. claims_of rules bs (records_from 3 (claims_in v))) e ∙ packet_stands rules bs cs carries.spelt;
    }
exact_verdict bs (Err f) h e = record { none = λ cs c. let is = sym e ∙ judge_carries bs cs c in let z : ◌≡◌ {A = ℕ} 0 1 = cc in omega arith; fault = told bs h f e }

pub exact : (bs : List ℕ) (o : Option Fault) → ((i : ℕ) → get_or bs i 0 < 256) → o ≡ fault_in (judge bs) → Exact bs o
exact bs o h e = subst (Exact bs) (sym e) (exact_verdict bs (judge bs) (All-from_get_or (λ b. b < 256) bs 0 (λ i _. h i)) refl)
