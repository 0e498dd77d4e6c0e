-- The walk over the claims, item by item.
use Rattle.faults.specs.declared.Cause.{Cause}
use Rattle.std.proofs.Common.{◌≡◌, ℕ, zero, suc, ◌+◌, ◌-◌, ◌<◌, ◌≤◌, Bool, true, false, cond, not, ◌||◌, eqb, ltb, List, [], ◌∷◌, map, length, get_or, drop, is_ok, Some, None, Option, Ok, Err, Result, sym, refl, ap, ◌∙◌, add-zero, arith}
use Rattle.std.specs.List.{slice_get}
use Rattle.std.proofs.lemmas.Iterator.Adapters.{option_map_id}
use Rattle.std.proofs.lemmas.Option.{slice_get-map}
use Rattle.std.specs.Option.{option_map}
use Rattle.std.specs.Result.{result_ok}
use Rattle.std.specs.Iterator.{MakesProgress, item_count}
use Rattle.std.specs.Bool.{⊤}
use Rattle.std.proofs.lemmas.Bool.{ltb-false, eqb-true}
use Rattle.std.proofs.lemmas.List.{drop_all, drop_more, drop-drop, length-drop}
use Rattle.faults.specs.declared.Cause.TheVariants.{NotAPacket, LengthMismatch, TooManyClaims}
use Rattle.faults.specs.declared.Fault.{Fault}
use Rattle.claims.specs.Meaning.{Claim}
use Rattle.claims.specs.declared.records.Claim.{Claim as Record}
use Rattle.packet.specs.Records.{claim_record, records_from, records_in}
use Rattle.packet.specs.Turns.{turn, turns}
use Rattle.packet.specs.Judge.{size, one_claim_in, Verdict, followed, after, walk, counted, declared_size, judge, claims_in}
use Rattle.faults.specs.At.{fault_at}

pub counted_followed : (n : ℕ) (c : Claim) (v : Verdict) → counted n (followed c v) ≡ counted (n + 1) v
counted_followed n c (Ok cs) = let e : n + suc (length cs) ≡ n + 1 + length cs = omega arith in ap (λ m. Ok m) e
counted_followed n c (Err f) = refl

passed : (t : Bool) (f : Fault) (v : Verdict) → is_ok (cond t (Err f) v) ≡ true → (t ≡ false) × (cond t (Err f) v ≡ v)
passed true f v e = let z : ◌≡◌ {A = ℕ} 0 1 = cc in absurd (omega arith)
passed false f v e = (refl, refl)

or_no : (a b : Bool) → (a || not b) ≡ false → (a ≡ false) × (b ≡ true)
or_no true b e = let z : ◌≡◌ {A = ℕ} 0 1 = cc in absurd (omega arith)
or_no false true e = (refl, refl)
or_no false false e = let z : ◌≡◌ {A = ℕ} 0 1 = cc in absurd (omega arith)

-- past NotAPacket and LengthMismatch
pub judge_fine : (bs : List ℕ) → is_ok (judge bs) ≡ true → (length bs ≤ 32768) × (judge bs ≡ walk 256 3 (drop 3 bs))
judge_fine bs e =
    let inner : Verdict = cond (ltb 32765 (declared_size bs) || not (eqb (declared_size bs) (length bs - 3))) (Err (fault_at LengthMismatch 1)) (walk 256 3 (drop 3 bs)) in
    let a = passed (ltb (length bs) 3 || not (eqb (get_or bs 0 0) 1)) (fault_at NotAPacket 0) inner e in
    let fine : is_ok inner ≡ true = ap is_ok (sym a.1) ∙ e in
    let b = passed (ltb 32765 (declared_size bs) || not (eqb (declared_size bs) (length bs - 3))) (fault_at LengthMismatch 1) (walk 256 3 (drop 3 bs)) fine in
    let s = or_no (ltb 32765 (declared_size bs)) (eqb (declared_size bs) (length bs - 3)) b.0 in
    let small = ltb-false 32765 (declared_size bs) s.0 in
    let says = eqb-true (declared_size bs) (length bs - 3) s.1 in
    (omega arith, a.1 ∙ b.1)

fine_claims : (v : Verdict) → is_ok v ≡ true → v ≡ Ok (claims_in v)
fine_claims (Ok cs) e = refl
fine_claims (Err f) e = let z : ◌≡◌ {A = ℕ} 0 1 = cc in absurd (omega arith)

followed_is : (c : Claim) (v : Verdict) (cs : List Claim) → followed c v ≡ Ok cs → (ds : List Claim) × (v ≡ Ok ds) × (cs ≡ c ∷ ds)
followed_is c (Ok ds) cs e = let is : ◌≡◌ {A = List Claim} cs (c ∷ ds) = cc in (ds, refl, is)
followed_is c (Err f) cs e = let z : ◌≡◌ {A = ℕ} 0 1 = cc in absurd (omega arith)

-- the items of the walk from a place on
turns_nil : (k at : ℕ) → turns k at [] ≡ []
turns_nil zero at = refl
turns_nil (suc k) at = refl

turns_cons : (k at : ℕ) (xs : List ℕ) → 0 < length xs → turns (suc k) at xs ≡ turn (one_claim_in xs) at (λ c. turns k (at + size c) (drop (size c) xs))
turns_cons k at [] h = absurd (omega arith)
turns_cons k at (x ∷ xs) h = refl

module _ (bs : List ℕ) (at : ℕ) where
  pub turns_end : (k : ℕ) → length bs ≤ at → turns k at (drop at bs) ≡ []
  turns_end k h = ap (turns k at) (drop_all at bs h) ∙ turns_nil k at

  pub turns_full : at < length bs → turns 0 at (drop at bs) ≡ Err (fault_at TooManyClaims at) ∷ []
  turns_full h = ap (turns 0 at) (drop_more bs at 0 h)

  module _ (k m : ℕ) (h : at < length bs) (e : m ≡ suc k) where
    turns_here : turns m at (drop at bs) ≡ turn (one_claim_in (drop at bs)) at (λ c. turns k (at + size c) (drop (size c) (drop at bs)))
    turns_here = let l = length-drop at bs in ap (λ j. turns j at (drop at bs)) e ∙ turns_cons k at (drop at bs) (omega arith)

    pub turns_fail : (n : Cause) → one_claim_in (drop at bs) ≡ Err n → turns m at (drop at bs) ≡ Err (fault_at n at) ∷ []
    turns_fail n is = turns_here ∙ ap (λ r. turn r at (λ c. turns k (at + size c) (drop (size c) (drop at bs)))) is

    pub turns_go : (q : ℕ) (c : Claim) → one_claim_in (drop at bs) ≡ Ok c → q ≡ at + size c → turns m at (drop at bs) ≡ Ok (claim_record at c) ∷ turns k q (drop q bs)
    turns_go q c is iq =
        turns_here ∙ ap (λ r. turn r at (λ c. turns k (at + size c) (drop (size c) (drop at bs)))) is
        ∙ ap (λ z. Ok (claim_record at c) ∷ turns k (at + size c) z) (drop-drop (size c) at bs)
        ∙ ap (λ n. Ok (claim_record at c) ∷ turns k n (drop n bs)) (sym iq)

few_turn : (k at : ℕ) (bs : List ℕ) (r : Result Claim Cause) → ((c : Claim) → length (turns k (at + size c) (drop (size c) bs)) ≤ k + 1)
    → length (turn r at (λ c. turns k (at + size c) (drop (size c) bs))) ≤ suc k + 1
few_turn k at bs (Ok c) h = let l = h c in omega arith
few_turn k at bs (Err n) h = omega arith

pub few_turns : (k at : ℕ) (bs : List ℕ) → length (turns k at bs) ≤ k + 1
few_turns zero at [] = omega arith
few_turns zero at (b ∷ bs) = omega arith
few_turns (suc k) at [] = omega arith
few_turns (suc k) at (b ∷ bs) = few_turn k at (b ∷ bs) (one_claim_in (b ∷ bs)) (λ c. few_turns k (at + size c) (drop (size c) (b ∷ bs)))

-- counting items up to a fault, with those n that were before
abbrev pub tally : {X : Type 0} → ℕ → List (Result X Fault) → Result ℕ Fault
tally n [] = Ok n
tally n (Ok c ∷ xs) = tally (n + 1) xs
tally n (Err f ∷ xs) = Err f

tally_turn : (n k at : ℕ) (bs : List ℕ) (r : Result Claim Cause)
    → ((c : Claim) → tally (n + 1) (turns k (at + size c) (drop (size c) bs)) ≡ counted (n + 1) (walk k (at + size c) (drop (size c) bs)))
    → tally n (turn r at (λ c. turns k (at + size c) (drop (size c) bs))) ≡ counted n (after r at (λ c. followed c (walk k (at + size c) (drop (size c) bs))))
tally_turn n k at bs (Ok c) h = h c ∙ sym (counted_followed n c (walk k (at + size c) (drop (size c) bs)))
tally_turn n k at bs (Err m) h = refl

-- the items count as the walk does
pub tally_turns : (n k at : ℕ) (bs : List ℕ) → tally n (turns k at bs) ≡ counted n (walk k at bs)
tally_turns n zero at [] = ap Ok (sym (add-zero n))
tally_turns n zero at (b ∷ bs) = refl
tally_turns n (suc k) at [] = ap Ok (sym (add-zero n))
tally_turns n (suc k) at (b ∷ bs) = tally_turn n k at (b ∷ bs) (one_claim_in (b ∷ bs)) (λ c. tally_turns (n + 1) k (at + size c) (drop (size c) (b ∷ bs)))

fine_turn : (k at : ℕ) (bs : List ℕ) (r : Result Claim Cause) (cs : List Claim)
    → ((c : Claim) (ds : List Claim) → walk k (at + size c) (drop (size c) bs) ≡ Ok ds → turns k (at + size c) (drop (size c) bs) ≡ map Ok (records_from (at + size c) ds))
    → after r at (λ c. followed c (walk k (at + size c) (drop (size c) bs))) ≡ Ok cs
    → turn r at (λ c. turns k (at + size c) (drop (size c) bs)) ≡ map Ok (records_from at cs)
fine_turn k at bs (Ok c) cs h e =
    let s = followed_is c (walk k (at + size c) (drop (size c) bs)) cs e in
    ap (λ z. Ok (claim_record at c) ∷ z) (h c s.0 s.1) ∙ ap (λ z. map Ok (records_from at z)) (sym s.2)
fine_turn k at bs (Err m) cs h e = let z : ◌≡◌ {A = ℕ} 0 1 = cc in absurd (omega arith)

no_more : (at : ℕ) (cs : List Claim) → ◌≡◌ {A = Verdict} (Ok []) (Ok cs) → [] ≡ map {B = Result Record Fault} Ok (records_from at cs)
no_more at cs e = let is : [] ≡ cs = cc in ap (λ z. map Ok (records_from at z)) is

-- where there is no fault, the items are the records
fine_turns : (k at : ℕ) (bs : List ℕ) (cs : List Claim) → walk k at bs ≡ Ok cs → turns k at bs ≡ map Ok (records_from at cs)
fine_turns zero at [] cs e = no_more at cs e
fine_turns zero at (b ∷ bs) cs e = let z : ◌≡◌ {A = ℕ} 0 1 = cc in absurd (omega arith)
fine_turns (suc k) at [] cs e = no_more at cs e
fine_turns (suc k) at (b ∷ bs) cs e = fine_turn k at (b ∷ bs) (one_claim_in (b ∷ bs)) cs (λ c ds. fine_turns k (at + size c) (drop (size c) (b ∷ bs)) ds) e

pub judge_turns : (bs : List ℕ) → is_ok (judge bs) ≡ true → turns 256 3 (drop 3 bs) ≡ map Ok (records_in bs)
judge_turns bs e = fine_turns 256 3 (drop 3 bs) (claims_in (judge bs)) (sym (judge_fine bs e).1 ∙ fine_claims (judge bs) e)

-- an item lowers how many are left
pub lowers : {S X : Type 0} (rest : S → List X) (s t : S) (x : X) → rest s ≡ x ∷ rest t → MakesProgress (λ _. ⊤) (item_count rest) s (Some x) t
lowers rest s t x e = let l = ap length e in record { on = λ _. (tt, tt, omega arith); keeps = tt; rests = λ _. tt }

-- an item of a list whose items are all Ok
ok_item : {X : Type 0} (r : Option (Result X Fault)) (xs : List X) (n : ℕ) → option_map (λ x. x) r ≡ slice_get (map Ok xs) n → r ≡ option_map Ok (slice_get xs n)
ok_item r xs n e = sym (option_map_id r) ∙ e ∙ slice_get-map Ok xs n

is_there : {X : Type 0} (x : Result X Fault) (s : Option X) → Some x ≡ option_map Ok s → result_ok x ≡ s
is_there (Ok x) (Some y) e = cc
is_there (Ok x) None e = let z : ◌≡◌ {A = ℕ} 0 1 = cc in absurd (omega arith)
is_there (Err f) (Some y) e = let z : ◌≡◌ {A = ℕ} 0 1 = cc in absurd (omega arith)
is_there (Err f) None e = let z : ◌≡◌ {A = ℕ} 0 1 = cc in absurd (omega arith)

is_none : {X : Type 0} (s : Option X) → ◌≡◌ {A = Option (Result X Fault)} None (option_map Ok s) → None ≡ s
is_none None e = refl
is_none (Some x) e = let z : ◌≡◌ {A = ℕ} 0 1 = cc in absurd (omega arith)

-- what `nth` gave, as claim n of the list
module _ {X : Type 0} (r : Option (Result X Fault)) (xs : List X) (n : ℕ) (e : option_map (λ x. x) r ≡ slice_get (map Ok xs) n) where
  pub nth_there : (x : Result X Fault) → r ≡ Some x → result_ok x ≡ slice_get xs n
  nth_there x is = is_there x (slice_get xs n) (sym is ∙ ok_item r xs n e)

  pub nth_none : r ≡ None → None ≡ slice_get xs n
  nth_none is = is_none (slice_get xs n) (sym is ∙ ok_item r xs n e)

-- no more claims than may come
few_followed : (k : ℕ) (c : Claim) (v : Verdict) → length (claims_in v) ≤ k → length (claims_in (followed c v)) ≤ suc k
few_followed k c (Ok cs) h = omega arith
few_followed k c (Err f) h = omega arith

few_after : (k at : ℕ) (bs : List ℕ) (r : Result Claim Cause) → ((c : Claim) → length (claims_in (walk k (at + size c) (drop (size c) bs))) ≤ k)
    → length (claims_in (after r at (λ c. followed c (walk k (at + size c) (drop (size c) bs))))) ≤ suc k
few_after k at bs (Ok c) h = few_followed k c (walk k (at + size c) (drop (size c) bs)) (h c)
few_after k at bs (Err n) h = omega arith

walk_few : (k at : ℕ) (bs : List ℕ) → length (claims_in (walk k at bs)) ≤ k
walk_few zero at [] = omega arith
walk_few zero at (b ∷ bs) = omega arith
walk_few (suc k) at [] = omega arith
walk_few (suc k) at (b ∷ bs) = few_after k at (b ∷ bs) (one_claim_in (b ∷ bs)) (λ c. walk_few k (at + size c) (drop (size c) (b ∷ bs)))

pub judge_few : (bs : List ℕ) → is_ok (judge bs) ≡ true → length (claims_in (judge bs)) ≤ 256
judge_few bs e = let w = walk_few 256 3 (drop 3 bs) in let same = ap (λ v. length (claims_in v)) (judge_fine bs e).1 in omega arith
