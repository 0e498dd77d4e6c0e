use Rattle.std.proofs.Common.{◌≡◌, ℕ, ◌≤◌, true, List, ◌++◌, length, take, drop, is_ok, IfOk, Some, None, Ok, Err, Option, Result, refl, ap, ◌∙◌, arith}
use Rattle.std.proofs.lemmas.List.{drop_all, append-nil, take_at}
use Rattle.std.proofs.lemmas.Bool.Decides.{nat_tests}
use Rattle.claims.specs.declared.records.Claim.{Claim}
use Rattle.faults.specs.declared.Fault.{Fault}
use Rattle.claims.specs.Meaning as meaning
use Rattle.packet.specs.Judge.{judge}
use Rattle.writer.specs.Rewriting.{Rewrote}
use Rattle.writer.specs.Writing.{packed, answer_to, ReadsBack, Wrote}

same_again : (bytes old new : List ℕ) (n : ℕ) → length old ≡ length bytes → n ≡ length bytes → new ≡ bytes ++ drop n old → new ≡ bytes
same_again bytes old new n h k e = e ∙ ap (λ t. bytes ++ t) (drop_all n old (omega arith)) ∙ append-nil bytes

-- an accepted packet always fits a buffer of its length, and is the same again
pub rewrote_same : (bytes old new : List ℕ) (r : Result ℕ Fault) → length old ≡ length bytes → Rewrote bytes old new r → (is_ok r ≡ true) × (new ≡ bytes)
rewrote_same bytes old new (Ok n) k w = (refl, same_again bytes old new n k w.0 w.2)
rewrote_same bytes old new (Err f) k w = let l = w.1 in absurd (omega arith)

packed_within : (cs : List meaning.Claim) (room n : ℕ) → Ok n ≡ packed cs room → n ≤ room
packed_within cs room n e = grind (arith, nat_tests)

within : (o : Option (List meaning.Claim)) (room n : ℕ) → Ok n ≡ answer_to o room → n ≤ room
within None room n e = let z : ◌≡◌ {A = ℕ} 0 1 = cc in absurd (omega arith)
within (Some cs) room n e = packed_within cs room n e

accepted : (o : Option (List meaning.Claim)) (n : ℕ) (new bs : List ℕ) → ReadsBack (Ok n) o new → bs ≡ take n new → is_ok (judge bs) ≡ true
accepted None n new bs r e = absurd r
accepted (Some cs) n new bs r e = ap (λ t. is_ok (judge t)) e ∙ ap is_ok r

module _ {rules packet old new : List ℕ} {cs : List Claim} where
  pub wrote_within : (r : Result ℕ Fault) → Wrote rules packet cs old new r → IfOk r (λ n. n ≤ length old)
  wrote_within (Ok n) w = within w.claims (length old) n w.answer
  wrote_within (Err f) w = tt

  pub wrote_accepted : (r : Result ℕ Fault) → Wrote rules packet cs old new r → IfOk r (λ n. is_ok (judge (take n new)) ≡ true)
  wrote_accepted (Ok n) w = accepted w.claims n new (take n new) w.reread refl
  wrote_accepted (Err f) w = tt

-- the front of a buffer that was lent whole
pub accepted_front : (n len : ℕ) (out rest new : List ℕ) → new ≡ take n (take len (out ++ rest)) → length out ≡ len → is_ok (judge (take n out)) ≡ true → is_ok (judge new) ≡ true
accepted_front n len out rest new e h k = ap (λ t. is_ok (judge t)) (e ∙ ap (take n) (take_at out rest len h)) ∙ k
