-- Claims and packets, both ways: what is written is read back, and what is read was written so.
use Rattle.faults.specs.declared.Cause.{Cause}
use Rattle.std.proofs.Common.{◌≡◌, ℕ, zero, suc, ◌+◌, ◌-◌, ◌*◌, ◌/◌, ◌%◌, ◌<◌, ◌≤◌, Bool, true, false, cond, not, ◌||◌, eqb, ltb, List, [], ◌∷◌, ◌++◌, length, drop, Some, None, Ok, Err, Option, Result, sym, refl, ap, ◌∙◌, subst, append_assoc, arith, length-append}
use Rattle.std.specs.List.{AllByRecursion}
use Rattle.std.proofs.ByRecursion.{All-drop}
use Rattle.std.proofs.lemmas.List.{drop_at, drop-drop}
use Rattle.std.proofs.lemmas.Bool.{and_parts, and_from, cond-true, cond-false, le-ltb, ltb-false, eq-eqb, eqb-true}
use Rattle.faults.specs.declared.Cause.TheVariants.{NotAPacket, LengthMismatch, TooManyClaims, ClaimPastEnd, UnknownValueType, IllFormedText}
use Rattle.claims.specs.declared.values.ValueType.{ValueType}
use Rattle.faults.specs.declared.Fault.{Fault}
use Rattle.units.specs.Form.{well_formed}
use Rattle.claims.specs.Meaning.{Value, uint64, int64, string, boolean, Claim, claim, named, type_of}
use Rattle.packet.specs.Carriable.{Fits, Carriable}
use Rattle.packet.specs.Format.{encode_text, encode_value, encode, body, packet, Carries, Bytes}
use Rattle.packet.specs.Judge.{text_in, size_of_text, value_in, size_of_value, size, well_formed_value, well_formed_claim, from_value, from_named, from_word, from_type, one_claim_in, Verdict, followed, after, walk, declared_size, judge}
use Rattle.faults.specs.At.{fault_at}
use Rattle.packet.proofs.Bytes.{text_in-encode, length-encode_text, TextFront, text_read, length-encode_value, value_in-encode, ValueFront, value_read}

-- what the fields say, the claim says
pub claim_steps : (bs t w : List ℕ) (k : ValueType) (r : Result Value Cause) → text_in bs ≡ Some t → text_in (drop (size_of_text t) bs) ≡ Some w → named w ≡ Some k
    → value_in k (drop (size_of_text t + size_of_text w) bs) ≡ r → one_claim_in bs ≡ from_value t w r
claim_steps bs t w k r a b c d = ap (from_type bs) a ∙ ap (from_word bs t) b ∙ ap (from_named bs t w) c ∙ ap (from_value t w) d

pub length-encode : (c : Claim) → length (encode c) ≡ size c
length-encode c =
    let t = length-encode_text c.typ in
    let w = length-encode_text c.word in
    let v = length-encode_value c.value in
    let a = length-append (encode_text c.typ) (encode_text c.word ++ encode_value c.value) in
    let b = length-append (encode_text c.word) (encode_value c.value) in
    omega arith

sound_value : (v : Value) → Fits v → well_formed_value v ≡ true
sound_value (uint64 n) h = refl
sound_value (int64 z) h = refl
sound_value (string us) h = h.well
sound_value (boolean b) h = refl

sound_claim : (c : Claim) → Carriable c → well_formed_claim c ≡ true
sound_claim c h =
    and_from (well_formed c.typ) _ h.type_fits.well (and_from (well_formed c.word) (well_formed_value c.value) h.word_fits.well (sound_value c.value h.value_fits))

-- a claim written in front of anything is read back
pub one_claim_in-encode : (c : Claim) (rest : List ℕ) → Carriable c → one_claim_in (encode c ++ rest) ≡ Ok c
one_claim_in-encode c rest h =
    let t : List ℕ = c.typ in
    let w : List ℕ = c.word in
    let v : Value = c.value in
    let bs : List ℕ = encode_text t ++ (encode_text w ++ (encode_value v ++ rest)) in
    let flat : encode c ++ rest ≡ bs =
    append_assoc (encode_text t) (encode_text w ++ encode_value v) rest ∙ ap (λ z. encode_text t ++ z) (append_assoc (encode_text w) (encode_value v) rest) in
    let past_type : drop (size_of_text t) bs ≡ encode_text w ++ (encode_value v ++ rest) = drop_at (encode_text t) (encode_text w ++ (encode_value v ++ rest)) (size_of_text t) (length-encode_text t) in
    let past_word : drop (size_of_text t + size_of_text w) bs ≡ encode_value v ++ rest =
    sym (drop-drop (size_of_text w) (size_of_text t) bs) ∙ ap (drop (size_of_text w)) past_type ∙ drop_at (encode_text w) (encode_value v ++ rest) (size_of_text w) (length-encode_text w) in
    ap one_claim_in flat
    ∙ claim_steps bs t w (type_of v) (Ok v) (text_in-encode t (encode_text w ++ (encode_value v ++ rest)))
    (ap text_in past_type ∙ text_in-encode w (encode_value v ++ rest)) h.spelt
    (ap (value_in (type_of v)) past_word ∙ value_in-encode v rest h.value_fits)
    ∙ cond-true (well_formed_claim c) (Ok c) (Err IllFormedText) (sound_claim c h)

-- a claim that is read was written so
pub record ClaimFront (bs : List ℕ) (c : Claim) : Type 0 where
  pub front : bs ≡ encode c ++ drop (size c) bs
  pub carriable : Carriable c

clash : {X Y : Type 0} (n : Cause) (x : Y) → ◌≡◌ {A = Result Y Cause} (Err n) (Ok x) → X
clash n x e = let z : ◌≡◌ {A = ℕ} 0 1 = cc in absurd (omega arith)

module _ (bs : List ℕ) (h : Bytes bs) (c : Claim) where
  -- three fronts, one after the other
  made : (t w : List ℕ) (k : ValueType) (v : Value) → TextFront bs t → TextFront (drop (size_of_text t) bs) w → named w ≡ Some k
      → (well_formed_value v ≡ true → ValueFront k (drop (size_of_text t + size_of_text w) bs) v) → well_formed_claim (claim t w v) ≡ true → ClaimFront bs (claim t w v)
  made t w k v ft fw n fv s =
      let st = and_parts (well_formed t) _ s in
      let sw = and_parts (well_formed w) (well_formed_value v) st.1 in
      let f = fv sw.1 in
      let rest : List ℕ = drop (size (claim t w v)) bs in
      let past_value : drop (size_of_value v) (drop (size_of_text t + size_of_text w) bs) ≡ rest = drop-drop (size_of_value v) (size_of_text t + size_of_text w) bs in
      let past_word : drop (size_of_text w) (drop (size_of_text t) bs) ≡ drop (size_of_text t + size_of_text w) bs = drop-drop (size_of_text w) (size_of_text t) bs in
      let value : drop (size_of_text t + size_of_text w) bs ≡ encode_value v ++ rest = f.front ∙ ap (λ z. encode_value v ++ z) past_value in
      let word : drop (size_of_text t) bs ≡ encode_text w ++ (encode_value v ++ rest) = fw.front ∙ ap (λ z. encode_text w ++ z) (past_word ∙ value) in
      record {
        front =
            ft.front ∙ ap (λ z. encode_text t ++ z) (word ∙ sym (append_assoc (encode_text w) (encode_value v) rest))
            ∙ sym (append_assoc (encode_text t) (encode_text w ++ encode_value v) rest);
        carriable = record {
          type_fits = record { few = ft.few; wide = ft.wide; well = st.0 };
          word_fits = record { few = fw.few; wide = fw.wide; well = sw.0 };
          value_fits = f.fits;
          spelt = n ∙ ap Some (sym f.kind);
        };
      }

  read_whole : (t w : List ℕ) (v : Value) (s : Bool) → well_formed_claim (claim t w v) ≡ s → (well_formed_claim (claim t w v) ≡ true → ClaimFront bs (claim t w v))
      → cond {A = Result Claim Cause} s (Ok (claim t w v)) (Err IllFormedText) ≡ Ok c → ClaimFront bs c
  read_whole t w v true is f e = let same : claim t w v ≡ c = cc in subst (ClaimFront bs) same (f is)
  read_whole t w v false is f e = clash IllFormedText c e

  read_value : (t w : List ℕ) (k : ValueType) (r : Result Value Cause) → TextFront bs t → TextFront (drop (size_of_text t) bs) w → named w ≡ Some k
      → value_in k (drop (size_of_text t + size_of_text w) bs) ≡ r → from_value t w r ≡ Ok c → ClaimFront bs c
  read_value t w k (Err n) ft fw nw is e = clash n c e
  read_value t w k (Ok v) ft fw nw is e =
      read_whole t w v (well_formed_claim (claim t w v)) refl
      (made t w k v ft fw nw (value_read k (drop (size_of_text t + size_of_text w) bs) v (All-drop (λ b. b < 256) (size_of_text t + size_of_text w) bs h) is)) e

  read_named : (t w : List ℕ) (o : Option ValueType) → TextFront bs t → TextFront (drop (size_of_text t) bs) w → named w ≡ o → from_named bs t w o ≡ Ok c → ClaimFront bs c
  read_named t w None ft fw is e = clash UnknownValueType c e
  read_named t w (Some k) ft fw is e = read_value t w k (value_in k (drop (size_of_text t + size_of_text w) bs)) ft fw is refl e

  read_word : (t : List ℕ) (o : Option (List ℕ)) → TextFront bs t → text_in (drop (size_of_text t) bs) ≡ o → from_word bs t o ≡ Ok c → ClaimFront bs c
  read_word t None ft is e = clash ClaimPastEnd c e
  read_word t (Some w) ft is e =
      read_named t w (named w) ft (text_read (drop (size_of_text t) bs) w (All-drop (λ b. b < 256) (size_of_text t) bs h) is) refl e

  read_type : (o : Option (List ℕ)) → text_in bs ≡ o → from_type bs o ≡ Ok c → ClaimFront bs c
  read_type None is e = clash ClaimPastEnd c e
  read_type (Some t) is e = read_word t (text_in (drop (size_of_text t) bs)) (text_read bs t h is) refl e

  pub claim_read : one_claim_in bs ≡ Ok c → ClaimFront bs c
  claim_read e = read_type (text_in bs) refl e

-- the claims of a body, in order
pub walk_body : (cs : List Claim) (k at : ℕ) → AllByRecursion Carriable cs → length cs ≤ k → walk k at (body cs) ≡ Ok cs
walk_body [] zero at h l = refl
walk_body [] (suc k) at h l = refl
walk_body (c ∷ cs) zero at h l = absurd (omega arith)
walk_body (c ∷ cs) (suc k) at h l =
    ap (λ r. after r at (λ d. followed d (walk k (at + size d) (drop (size d) (encode c ++ body cs))))) (one_claim_in-encode c (body cs) h.0)
    ∙ ap (λ z. followed c (walk k (at + size c) z)) (drop_at (encode c) (body cs) (size c) (length-encode c))
    ∙ ap (followed c) (walk_body cs k (at + size c) h.1 (omega arith))

fails : {X : Type 0} (f : Fault) (cs : List Claim) → ◌≡◌ {A = Verdict} (Err f) (Ok cs) → X
fails f cs e = let z : ◌≡◌ {A = ℕ} 0 1 = cc in absurd (omega arith)

pub record Body (k : ℕ) (bs : List ℕ) (cs : List Claim) : Type 0 where
  pub spelt : bs ≡ body cs
  pub each : AllByRecursion Carriable cs
  pub few : length cs ≤ k

abbrev Read : ℕ → Type 0
Read k = (at : ℕ) (bs : List ℕ) (cs : List Claim) → Bytes bs → walk k at bs ≡ Ok cs → Body k bs cs

body_followed : (k : ℕ) (bs : List ℕ) (c : Claim) (v : Verdict) (cs : List Claim) → ClaimFront bs c → ((ds : List Claim) → v ≡ Ok ds → Body k (drop (size c) bs) ds)
    → followed c v ≡ Ok cs → Body (suc k) bs cs
body_followed k bs c (Err f) cs front rest e = fails f cs e
body_followed k bs c (Ok ds) cs front rest e =
    let same : ◌≡◌ {A = List Claim} (c ∷ ds) cs = cc in
    let r = rest ds refl in
    let made : Body (suc k) bs (c ∷ ds) = record {
      spelt = front.front ∙ ap (λ z. encode c ++ z) r.spelt;
      each = (front.carriable, r.each);
      few = let l = r.few in omega arith;
    } in
    subst (Body (suc k) bs) same made

body_after : (k at : ℕ) (bs : List ℕ) (cs : List Claim) (r : Result Claim Cause) → Read k → Bytes bs → one_claim_in bs ≡ r
    → after r at (λ c. followed c (walk k (at + size c) (drop (size c) bs))) ≡ Ok cs → Body (suc k) bs cs
body_after k at bs cs (Err n) more h is e = fails (fault_at n at) cs e
body_after k at bs cs (Ok c) more h is e =
    body_followed k bs c (walk k (at + size c) (drop (size c) bs)) cs (claim_read bs h c is)
    (λ ds. more (at + size c) (drop (size c) bs) ds (All-drop (λ b. b < 256) (size c) bs h)) e

body_none : (k : ℕ) (cs : List Claim) → ◌≡◌ {A = Verdict} (Ok []) (Ok cs) → Body k [] cs
body_none k cs e =
    let same : ◌≡◌ {A = List Claim} [] cs = cc in
    let made : Body k [] [] = record { spelt = refl; each = tt; few = omega arith } in
    subst (Body k []) same made

pub walk_read : (k : ℕ) → Read k
walk_read zero at [] cs h e = body_none zero cs e
walk_read zero at (b ∷ bs) cs h e = fails (fault_at TooManyClaims at) cs e
walk_read (suc k) at [] cs h e = body_none (suc k) cs e
walk_read (suc k) at (b ∷ bs) cs h e = body_after k at (b ∷ bs) cs (one_claim_in (b ∷ bs)) (walk_read k) h refl e

-- the packet
pub judge_packet : (cs : List Claim) → AllByRecursion Carriable cs → length cs ≤ 256 → length (body cs) ≤ 32765 → judge (packet cs) ≡ Ok cs
judge_packet cs each few short =
    let n : ℕ = length (body cs) in
    let says : n / 256 % 256 * 256 + n % 256 ≡ n = omega arith in
    let long : ltb (length (packet cs)) 3 ≡ false = le-ltb _ 3 (omega arith) in
    let small : ltb 32765 (declared_size (packet cs)) ≡ false = le-ltb 32765 _ (omega arith) in
    let exact : eqb (declared_size (packet cs)) (length (packet cs) - 3) ≡ true = eq-eqb _ _ (omega arith) in
    cond-false (ltb (length (packet cs)) 3 || false) _ _ (ap (λ b. b || false) long)
    ∙ cond-false (ltb 32765 (declared_size (packet cs)) || not (eqb (declared_size (packet cs)) (length (packet cs) - 3))) _ _
    (ap (λ b. b || not (eqb (declared_size (packet cs)) (length (packet cs) - 3))) small ∙ ap not exact)
    ∙ walk_body cs 256 3 each few

packet_made : (v hi lo : ℕ) (bs : List ℕ) (cs : List Claim) → Bytes (v ∷ hi ∷ lo ∷ bs) → v ≡ 1 → hi * 256 + lo ≡ length bs → length bs ≤ 32765 → Body 256 bs cs → Carries (v ∷ hi ∷ lo ∷ bs) cs
packet_made v hi lo bs cs h is says short b =
    let n : ℕ = length (body cs) in
    let l : length bs ≡ n = ap length b.spelt in
    let a : hi ≡ n / 256 % 256 = omega (arith, h.1.0, h.1.1.0) in
    let z : lo ≡ n % 256 = omega (arith, h.1.0, h.1.1.0) in
    record {
      each = b.each;
      few = b.few;
      short = omega arith;
      spelt = ap (λ x. x ∷ hi ∷ lo ∷ bs) is ∙ ap (λ x. 1 ∷ x ∷ lo ∷ bs) a ∙ ap (λ x. 1 ∷ n / 256 % 256 ∷ x ∷ bs) z ∙ ap (λ x. 1 ∷ n / 256 % 256 ∷ n % 256 ∷ x) b.spelt;
    }

-- a test that stops, and what is known past it
passed : (t : Bool) (f : Fault) (v : Verdict) (cs : List Claim) → cond t (Err f) v ≡ Ok cs → (t ≡ false) × (v ≡ Ok cs)
passed true f v cs e = fails f cs e
passed false f v cs e = (refl, e)

neither : (a b : Bool) → (a || not b) ≡ false → (a ≡ false) × (b ≡ true)
neither true b e = let z : ◌≡◌ {A = ℕ} 0 1 = cc in absurd (omega arith)
neither false true e = (refl, refl)
neither false false e = let z : ◌≡◌ {A = ℕ} 0 1 = cc in absurd (omega arith)

pub judge_read : (bs : List ℕ) (cs : List Claim) → Bytes bs → judge bs ≡ Ok cs → Carries bs cs
judge_read [] cs h e = fails (fault_at NotAPacket 0) cs e
judge_read (v ∷ []) cs h e = fails (fault_at NotAPacket 0) cs e
judge_read (v ∷ hi ∷ []) cs h e = fails (fault_at NotAPacket 0) cs e
judge_read (v ∷ hi ∷ lo ∷ bs) cs h e =
    let whole-bs : List ℕ = v ∷ hi ∷ lo ∷ bs in
    let a = passed (ltb (length whole-bs) 3 || not (eqb v 1)) (fault_at NotAPacket 0) _ cs e in
    let b = passed (ltb 32765 (hi * 256 + lo) || not (eqb (hi * 256 + lo) (length whole-bs - 3))) (fault_at LengthMismatch 1) _ cs a.1 in
    let version = neither (ltb (length whole-bs) 3) (eqb v 1) a.0 in
    let sizes = neither (ltb 32765 (hi * 256 + lo)) (eqb (hi * 256 + lo) (length whole-bs - 3)) b.0 in
    let says = eqb-true (hi * 256 + lo) (length whole-bs - 3) sizes.1 in
    let small = ltb-false 32765 (hi * 256 + lo) sizes.0 in
    packet_made v hi lo bs cs h (eqb-true v 1 version.1) (omega arith) (omega arith) (walk_read 256 3 bs cs h.1.1.1 b.1)

-- the judgement is the format
pub judge_carries : (bs : List ℕ) (cs : List Claim) → Carries bs cs → judge bs ≡ Ok cs
judge_carries bs cs c = ap judge c.spelt ∙ judge_packet cs c.each c.few c.short
