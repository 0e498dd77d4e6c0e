-- A whole packet: what writing answers, and what the buffer holds.
use Rattle.std.proofs.Common.{◌≡◌, ℕ, ◌+◌, ◌<◌, ◌≤◌, true, false, ◌||◌, ltb, ◌⊎◌, List, [], ◌∷◌, ◌++◌, length, get_or, take, drop, is_ok, Some, None, Ok, Err, Option, Result, sym, refl, ap, ◌∙◌, subst, inl, inr, arith}
use Rattle.std.proofs.lemmas.List.{take_at, length-map}
use Rattle.std.proofs.lemmas.Bool.{cases_lt, cond-true, cond-false, or_left, or_right, or_from, lt-ltb, le-ltb}
use Rattle.std.specs.Option.{option_map}
use Rattle.std.specs.List.{AllByRecursion}
use Rattle.claims.specs.Claims.{onward, claim_of, claims_of}
use Rattle.claims.specs.Meaning as meaning
use Rattle.claims.specs.declared.records.Claim.{Claim}
use Rattle.faults.specs.At.{fault_at}
use Rattle.faults.specs.declared.Cause.TheVariants.{UncarriableClaim, PacketTooLarge, BufferTooShort}
use Rattle.faults.specs.declared.Fault.{Fault}
use Rattle.packet.proofs.Claims.{judge_packet}
use Rattle.packet.specs.Carriable.{Carriable}
use Rattle.packet.specs.Format.{head_of, body, packet}
use Rattle.packet.specs.Judge.{judge}
use Rattle.writer.proofs.Records.{shown_claim_is}
use Rattle.writer.proofs.Written.{written_more}
use Rattle.writer.specs.Shown.{Writable, Carried, shown_claim, shown_claims, shown_body}
use Rattle.packet.proofs.Exactly.{exact}
use Rattle.packet.specs.Exact.{Accepted, fault_in}
use Rattle.packet.specs.Judge.{Verdict}
use Rattle.packet.specs.Records.{records_in}
use Rattle.writer.specs.Rewriting.{Rewrote}
use Rattle.writer.specs.Writing.{written, packed, answer_to, filled, Wrote}

clash : {X Y : Type 0} (x : Y) → ◌≡◌ {A = Option Y} None (Some x) → X
clash x e = let z : ◌≡◌ {A = ℕ} 0 1 = cc in absurd (omega arith)

module _ (rules packet' : List ℕ) where
  -- the claims of writable records are those that they show
  pub all_stand : (cs : List Claim) → AllByRecursion (Writable rules packet') cs → claims_of rules packet' cs ≡ Some (shown_claims rules packet' cs)
  all_stand [] h = refl
  all_stand (c ∷ cs) h =
      let m = h.0.0 in
      let e = h.0.1 ∙ ap Some (sym (shown_claim_is rules packet' c m h.0.1)) in
      ap (λ o. onward o (λ d. option_map (λ ds. d ∷ ds) (claims_of rules packet' cs))) e
      ∙ ap (option_map (λ ds. shown_claim rules packet' c ∷ ds)) (all_stand cs h.1)

  pub all_carriable : (cs : List Claim) → AllByRecursion (Writable rules packet') cs → AllByRecursion Carriable (shown_claims rules packet' cs)
  all_carriable [] h = tt
  all_carriable (c ∷ cs) h = (subst Carriable (sym (shown_claim_is rules packet' c h.0.0 h.0.1)) h.0.2, all_carriable cs h.1)

  first_some : (o : Option meaning.Claim) (p : Option (List meaning.Claim)) (ms : List meaning.Claim) → onward o (λ d. option_map (λ ds. d ∷ ds) p) ≡ Some ms
      → (d : meaning.Claim) × (ds : List meaning.Claim) × (o ≡ Some d) × (p ≡ Some ds) × (ms ≡ d ∷ ds)
  first_some None p ms e = clash ms e
  first_some (Some d) None ms e = clash ms e
  first_some (Some d) (Some ds) ms e = let is : ◌≡◌ {A = List meaning.Claim} ms (d ∷ ds) = cc in (d, ds, refl, refl, is)

  pub writable_all : (cs : List Claim) (ms : List meaning.Claim) → claims_of rules packet' cs ≡ Some ms → AllByRecursion Carriable ms → AllByRecursion (Writable rules packet') cs
  writable_all [] ms e h = tt
  writable_all (c ∷ cs) ms e h =
      let f = first_some (claim_of rules packet' c) (claims_of rules packet' cs) ms e in
      let k : AllByRecursion Carriable (f.0 ∷ f.1) = subst (AllByRecursion Carriable) f.4 h in
      ((f.0, f.2, k.0), writable_all cs f.1 f.3 k.1)

  module _ (cs : List Claim) (old : List ℕ) where
    pub refused_uncarriable : (f : Fault) → f ≡ fault_at UncarriableClaim 0 → (AllByRecursion (Writable rules packet') cs → ⊥) → Wrote rules packet' cs old old (Err f)
    refused_uncarriable f e h = record { claims = None; carried = λ ms is each. h (writable_all cs ms is each); answer = ap Err e; buffer = refl; reread = tt }

    pub refused_large : (f : Fault) (n : ℕ) → AllByRecursion (Writable rules packet') cs → f ≡ fault_at PacketTooLarge 0 → n ≡ length (shown_body rules packet' cs)
        → (256 < length cs) ⊎ (32765 < n) → Wrote rules packet' cs old old (Err f)
    refused_large f n all e is over =
        let l = length-map cs (shown_claim rules packet') in
        let t : (ltb 256 (length (shown_claims rules packet' cs)) || ltb 32765 (length (shown_body rules packet' cs))) ≡ true =
        elim over [
          | inl many ↦ or_left _ _ (lt-ltb 256 (length (shown_claims rules packet' cs)) (omega arith))
          | inr long ↦ or_right _ _ (lt-ltb 32765 (length (shown_body rules packet' cs)) (omega arith))
        ] in
        record {
          claims = Some (shown_claims rules packet' cs);
          carried = (all_stand cs all, all_carriable cs all);
          answer = ap Err e ∙ sym (cond-true _ _ _ t);
          buffer = refl;
          reread = tt;
        }

    module _ (n : ℕ) (all : AllByRecursion (Writable rules packet') cs) (is : n ≡ length (shown_body rules packet' cs)) (few : length cs ≤ 256) (short : n ≤ 32765) where
      within : (ltb 256 (length (shown_claims rules packet' cs)) || ltb 32765 (length (shown_body rules packet' cs))) ≡ false
      within = let l = length-map cs (shown_claim rules packet') in or_from _ _ (le-ltb 256 (length (shown_claims rules packet' cs)) (omega arith)) (le-ltb 32765 (length (shown_body rules packet' cs)) (omega arith))

      pub refused_short : (f : Fault) → f ≡ fault_at BufferTooShort 0 → length old < 3 + n → Wrote rules packet' cs old old (Err f)
      refused_short f e h = record {
        claims = Some (shown_claims rules packet' cs);
        carried = (all_stand cs all, all_carriable cs all);
        answer = ap Err e ∙ sym (cond-false _ _ _ within ∙ cond-true _ _ _ (lt-ltb (length old) (3 + length (shown_body rules packet' cs)) (omega arith)));
        buffer = refl;
        reread = tt;
      }

      pub wrote : (p q : List ℕ) → 3 + n ≤ length old → p ≡ written old 0 (head_of n) → q ≡ written p 3 (shown_body rules packet' cs) → Wrote rules packet' cs old q (Ok (3 + n))
      wrote p q room ip iq =
          let ms : List meaning.Claim = shown_claims rules packet' cs in
          let len : length (packet ms) ≡ 3 + n = omega arith in
          let l : 0 + length (packet ms) ≡ 3 + n = omega arith in
          let k = length-map cs (shown_claim rules packet') in
          let whole : q ≡ packet ms ++ drop (3 + n) old =
          iq ∙ ap (λ z. written z 3 (body ms)) (ip ∙ ap (λ m. written old 0 (head_of m)) is)
          ∙ written_more old 0 (head_of (length (body ms))) (body ms) (omega arith)
          ∙ ap (λ m. packet ms ++ drop m old) l in
          record {
            claims = Some ms;
            carried = (all_stand cs all, all_carriable cs all);
            answer = sym (cond-false _ _ _ within ∙ cond-false _ _ _ (le-ltb (length old) (3 + length (body ms)) (omega arith)) ∙ ap (λ m. Ok (3 + m)) (sym is));
            buffer = whole;
            reread = ap (λ z. judge (take (3 + n) z)) whole ∙ ap judge (take_at (packet ms) (drop (3 + n) old) (3 + n) len) ∙ judge_packet ms (all_carriable cs all) (omega arith) (omega arith);
          }

-- an accepted packet, written back
module _ (bs old new : List ℕ) where
  rewrote_at : (cs : List meaning.Claim) (r : Result ℕ Fault) → bs ≡ packet cs → length cs ≤ 256 → length (body cs) ≤ 32765
      → r ≡ packed cs (length old) → new ≡ filled r (Some cs) old → Rewrote bs old new r
  rewrote_at cs r is few short ans buf =
      let l = ap length is in
      let within : (ltb 256 (length cs) || ltb 32765 (length (body cs))) ≡ false = or_from _ _ (le-ltb 256 (length cs) few) (le-ltb 32765 (length (body cs)) short) in
      elim (cases_lt (length old) (3 + length (body cs))) [
        | inl lt ↦
            let e : r ≡ Err (fault_at BufferTooShort 0) = ans ∙ cond-false _ _ _ within ∙ cond-true _ _ _ (lt-ltb (length old) (3 + length (body cs)) lt) in
            let it : Rewrote bs old new (Err (fault_at BufferTooShort 0)) = (refl, omega arith, buf ∙ ap (λ x. filled x (Some cs) old) e) in
            subst (Rewrote bs old new) (sym e) it
        | inr ge ↦
            let e : r ≡ Ok (3 + length (body cs)) = ans ∙ cond-false _ _ _ within ∙ cond-false _ _ _ (le-ltb (length old) (3 + length (body cs)) ge) in
            let same : new ≡ bs ++ drop (3 + length (body cs)) old = buf ∙ ap (λ x. filled x (Some cs) old) e ∙ ap (λ z. z ++ drop (3 + length (body cs)) old) (sym is) in
            let it : Rewrote bs old new (Ok (3 + length (body cs))) = (omega arith, ge, same) in
            subst (Rewrote bs old new) (sym e) it
      ]

  accepted_fault : (v : Verdict) → is_ok v ≡ true → None ≡ fault_in v
  accepted_fault (Ok cs) e = refl
  accepted_fault (Err f) e = let z : ◌≡◌ {A = ℕ} 0 1 = cc in absurd (omega arith)

  rewrote_by : (r : Result ℕ Fault) (o : Option (List meaning.Claim)) → Accepted bs → Carried [] bs (records_in bs) o → r ≡ answer_to o (length old) → new ≡ filled r o old → Rewrote bs old new r
  rewrote_by r None a c ans buf = absurd (c a.claims (a.stands []) a.carries.each)
  rewrote_by r (Some ms) a c ans buf =
      let s : ◌≡◌ {A = Option (List meaning.Claim)} (Some ms) (Some a.claims) = sym c.0 ∙ a.stands [] in
      let is : ms ≡ a.claims = cc in
      rewrote_at a.claims r a.carries.spelt a.carries.few a.carries.short (ans ∙ ap (λ z. packed z (length old)) is) (buf ∙ ap (λ z. filled r (Some z) old) is)

  pub rewrote : (r : Result ℕ Fault) → ((i : ℕ) → get_or bs i 0 < 256) → is_ok (judge bs) ≡ true → Wrote [] bs (records_in bs) old new r → Rewrote bs old new r
  rewrote r h ok w = rewrote_by r w.claims (exact bs None h (accepted_fault (judge bs) ok)) w.carried w.answer w.buffer
