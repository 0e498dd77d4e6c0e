-- A refusal tells the first place at which no claim stands.
use Rattle.std.proofs.Common.{◌≡◌, ℕ, zero, suc, ◌+◌, ◌-◌, ◌<◌, ◌≤◌, Bool, true, false, cond, not, ◌||◌, eqb, ltb, ◌⊎◌, List, [], ◌∷◌, ◌++◌, length, get_or, take, drop, Ok, Err, Result, sym, refl, ap, ◌∙◌, subst, inl, inr, append_assoc, arith, length-append}
use Rattle.std.proofs.ByRecursion.{All-push, All-drop}
use Rattle.std.proofs.lemmas.List.{drop-drop, length-drop, flat_map_more, take-append-drop}
use Rattle.std.proofs.lemmas.Bool.{ltb-true, ltb-false, eqb-true, eqb-false}
use Rattle.std.specs.List.{AllByRecursion}
use Rattle.claims.specs.Meaning.{Claim}
use Rattle.faults.specs.At.{fault_at}
use Rattle.faults.specs.declared.Cause.{Cause}
use Rattle.faults.specs.declared.Cause.TheVariants.{NotAPacket, LengthMismatch, TooManyClaims}
use Rattle.faults.specs.declared.Fault.{Fault}
use Rattle.packet.specs.Carriable.{Carriable}
use Rattle.packet.specs.Exact.{FailsAt, NoHead, WrongLength}
use Rattle.packet.specs.Format.{encode, body, Bytes}
use Rattle.packet.specs.Judge.{size, one_claim_in, Verdict, followed, after, walk, declared_size, judge}
use Rattle.packet.proofs.Claims.{one_claim_in-encode, claim_read, length-encode}

clash : {X : Type 0} (f : Fault) (cs : List Claim) → ◌≡◌ {A = Verdict} (Ok cs) (Err f) → X
clash f cs e = let z : ◌≡◌ {A = ℕ} 0 1 = cc in absurd (omega arith)

-- whole claims lie in front of the place `at`, and k more may come
record Front (bs : List ℕ) (before : List Claim) (k at : ℕ) : Type 0 where
  each : AllByRecursion Carriable before
  place : at ≡ 3 + length (body before)
  front : bs ≡ take 3 bs ++ (body before ++ drop at bs)
  sum : length before + k ≡ 256

module _ (bs : List ℕ) (h : Bytes bs) (f : Fault) where
  -- what fails at a place
  fails : (before : List Claim) (k at : ℕ) → Front bs before k at → at < length bs → f.place ≡ at
      → ((length before ≡ 256) × (f ≡ fault_at TooManyClaims at)) ⊎ ((cause : Cause) × (one_claim_in (drop at bs) ≡ Err cause) × (f ≡ fault_at cause at)) → FailsAt bs f
  fails before k at t lt is why =
      let back : at ≡ f.place = sym is in
      record {
        before = before;
        each = t.each;
        place = is ∙ t.place;
        front = subst (λ n. bs ≡ take 3 bs ++ (body before ++ drop n bs)) back t.front;
        follows = subst (λ n. n < length bs) back lt;
        why = elim why [
          | inl full ↦ inl (full.0, full.1 ∙ ap (fault_at TooManyClaims) back)
          | inr no' ↦ inr (
            no'.0,
            subst (λ n. one_claim_in (drop n bs) ≡ Err no'.0) back no'.1,
            no'.2 ∙ ap (fault_at no'.0) back,
            λ c rest carriable begins.
                let ok : one_claim_in (drop at bs) ≡ Ok c = ap one_claim_in (ap (λ n. drop n bs) back ∙ begins) ∙ one_claim_in-encode c rest carriable in
                let bad = no'.1 in
                let z : ◌≡◌ {A = ℕ} 0 1 = cc in omega arith,
          )
        ];
      }

  next : (before : List Claim) (k at : ℕ) (c : Claim) → Front bs before (suc k) at → drop at bs ≡ encode c ++ drop (at + size c) bs → Carriable c → Front bs (before ++ c ∷ []) k (at + size c)
  next before k at c t begins carriable =
      let more : body (before ++ c ∷ []) ≡ body before ++ encode c = sym (flat_map_more encode [] before c) in
      let l = ap length more in
      let a = length-append (body before) (encode c) in
      let s = length-encode c in
      let p = t.place in
      let n = length-append before (c ∷ []) in
      let q = t.sum in
      record {
        each = All-push Carriable before c t.each carriable;
        place = omega arith;
        front =
            t.front ∙ ap (λ z. take 3 bs ++ (body before ++ z)) begins
            ∙ ap (λ z. take 3 bs ++ z) (sym (append_assoc (body before) (encode c) (drop (at + size c) bs)))
            ∙ ap (λ z. take 3 bs ++ (z ++ drop (at + size c) bs)) (sym more);
        sum = omega arith;
      }

  abbrev Fails : ℕ → Type 0
  Fails k = (at : ℕ) (xs : List ℕ) (before : List Claim) → Front bs before k at → drop at bs ≡ xs → walk k at xs ≡ Err f → FailsAt bs f

  later : (at : ℕ) (v : Verdict) (c : Claim) → (v ≡ Err f → FailsAt bs f) → followed c v ≡ Err f → FailsAt bs f
  later at (Ok cs) c rest e = clash f (c ∷ cs) e
  later at (Err g) c rest e = rest e

  step : (k at : ℕ) (xs : List ℕ) (before : List Claim) (r : Result Claim Cause) → Fails k → Front bs before (suc k) at → drop at bs ≡ xs → at < length bs → one_claim_in xs ≡ r
      → after r at (λ c. followed c (walk k (at + size c) (drop (size c) xs))) ≡ Err f → FailsAt bs f
  step k at xs before (Err n) more t is lt e g =
      let same : f ≡ fault_at n at = cc in
      fails before (suc k) at t lt (ap (λ x. x.place) same) (inr (n, ap one_claim_in is ∙ e, same))
  step k at xs before (Ok c) more t is lt e g =
      let tail : drop (size c) xs ≡ drop (at + size c) bs = ap (drop (size c)) (sym is) ∙ drop-drop (size c) at bs in
      let front = claim_read (drop at bs) (All-drop (λ b. b < 256) at bs h) c (ap one_claim_in is ∙ e) in
      let begins : drop at bs ≡ encode c ++ drop (at + size c) bs = front.front ∙ ap (λ z. encode c ++ z) (drop-drop (size c) at bs) in
      later at (walk k (at + size c) (drop (size c) xs)) c (more (at + size c) (drop (size c) xs) (before ++ c ∷ []) (next before k at c t begins front.carriable) (sym tail)) g

  inside : (at b : ℕ) (xs : List ℕ) → drop at bs ≡ b ∷ xs → at < length bs
  inside at b xs e = let l = length-drop at bs in let k = ap length e in omega arith

  walk_fails_at : (k : ℕ) → Fails k
  walk_fails_at zero at [] before t is e = clash f [] e
  walk_fails_at zero at (b ∷ xs) before t is e =
      let same : f ≡ fault_at TooManyClaims at = cc in
      let s = t.sum in
      fails before zero at t (inside at b xs is) (ap (λ x. x.place) same) (inl (omega arith, same))
  walk_fails_at (suc k) at [] before t is e = clash f [] e
  walk_fails_at (suc k) at (b ∷ xs) before t is e = step k at (b ∷ xs) before (one_claim_in (b ∷ xs)) (walk_fails_at k) t is (inside at b xs is) refl e

  starts : 3 ≤ length bs → Front bs [] 256 3
  starts l = record { each = tt; place = refl; front = sym (take-append-drop 3 bs); sum = refl }

  abbrev Told : Type 0
  Told = (NoHead bs × (f ≡ fault_at NotAPacket 0)) ⊎ (((NoHead bs → ⊥) × WrongLength bs × (f ≡ fault_at LengthMismatch 1)) ⊎ FailsAt bs f)

  headed : (a b : Bool) → ltb (length bs) 3 ≡ a → eqb (get_or bs 0 0) 1 ≡ b → (a || not b) ≡ true → NoHead bs
  headed true b ia ib e = inl (ltb-true (length bs) 3 ia)
  headed false true ia ib e = let z : ◌≡◌ {A = ℕ} 0 1 = cc in absurd (omega arith)
  headed false false ia ib e = inr (eqb-false (get_or bs 0 0) 1 ib)

  sized : (a b : Bool) → ltb 32765 (declared_size bs) ≡ a → eqb (declared_size bs) (length bs - 3) ≡ b → (a || not b) ≡ true → WrongLength bs
  sized true b ia ib e = inl (ltb-true 32765 (declared_size bs) ia)
  sized false true ia ib e = let z : ◌≡◌ {A = ℕ} 0 1 = cc in absurd (omega arith)
  sized false false ia ib e = inr (eqb-false (declared_size bs) (length bs - 3) ib)

  some_head : (a b : Bool) → ltb (length bs) 3 ≡ a → eqb (get_or bs 0 0) 1 ≡ b → (a || not b) ≡ false → (3 ≤ length bs) × (NoHead bs → ⊥)
  some_head true b ia ib e = let z : ◌≡◌ {A = ℕ} 0 1 = cc in absurd (omega arith)
  some_head false false ia ib e = let z : ◌≡◌ {A = ℕ} 0 1 = cc in absurd (omega arith)
  some_head false true ia ib e =
      let long = ltb-false (length bs) 3 ia in
      let one = eqb-true (get_or bs 0 0) 1 ib in
      (long, λ no'. elim no' [ inl short ↦ omega arith | inr other ↦ other one ])

  after_head : (t : Bool) → (ltb 32765 (declared_size bs) || not (eqb (declared_size bs) (length bs - 3))) ≡ t → 3 ≤ length bs → (NoHead bs → ⊥)
      → cond t (Err (fault_at LengthMismatch 1)) (walk 256 3 (drop 3 bs)) ≡ Err f → Told
  after_head true it long head e =
      let same : f ≡ fault_at LengthMismatch 1 = cc in
      inr (inl (head, sized (ltb 32765 (declared_size bs)) (eqb (declared_size bs) (length bs - 3)) refl refl it, same))
  after_head false it long head e = inr (inr (walk_fails_at 256 3 (drop 3 bs) [] (starts long) refl e))

  before_head : (t : Bool) → (ltb (length bs) 3 || not (eqb (get_or bs 0 0) 1)) ≡ t
      → cond t (Err (fault_at NotAPacket 0)) (cond (ltb 32765 (declared_size bs) || not (eqb (declared_size bs) (length bs - 3))) (Err (fault_at LengthMismatch 1)) (walk 256 3 (drop 3 bs))) ≡ Err f → Told
  before_head true it e =
      let same : f ≡ fault_at NotAPacket 0 = cc in
      inl (headed (ltb (length bs) 3) (eqb (get_or bs 0 0) 1) refl refl it, same)
  before_head false it e =
      let s = some_head (ltb (length bs) 3) (eqb (get_or bs 0 0) 1) refl refl it in
      after_head (ltb 32765 (declared_size bs) || not (eqb (declared_size bs) (length bs - 3))) refl s.0 s.1 e

  pub told : judge bs ≡ Err f → Told
  told e = before_head (ltb (length bs) 3 || not (eqb (get_or bs 0 0) 1)) refl e
