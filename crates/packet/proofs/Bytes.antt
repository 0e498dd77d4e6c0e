-- Numbers, texts and values as bytes, both ways.
use Rattle.faults.specs.declared.Cause.{Cause}
use Rattle.std.proofs.Common.{◌≡◌, ℕ, zero, suc, ◌+◌, ◌-◌, ◌*◌, ◌/◌, ◌%◌, ◌^◌, ◌<◌, ◌≤◌, Bool, true, false, cond, eqb, leb, List, [], ◌∷◌, ◌++◌, length, take, drop, ℤ, Some, None, Ok, Err, Option, sym, refl, ap, ◌∙◌, subst, inl, inr, pow-suc, zero-add, arith, length-append, w64, SFits, to_z, of_z}
use borrow.Author.Gap.{read_sfits}
use Rattle.std.specs.List.{AllByRecursion}
use Rattle.std.specs.Int.Digits.{number_from_digits, number_from_digits_after}
use Rattle.std.proofs.lemmas.Int.Digits.{number_lt}
use Rattle.std.proofs.lemmas.Int.{to_z-of_z, of_z-to_z, ints}
use Rattle.std.proofs.ByRecursion.{All-take}
use Rattle.std.proofs.lemmas.List.{take_at, take-append-drop, length-take-le, append-nil}
use Rattle.std.proofs.lemmas.Bool.{cases_Bool, leb-true, le-leb, cond-true, cond-false}
use Rattle.faults.specs.declared.Cause.TheVariants.{ClaimPastEnd, BooleanOverOne}
use Rattle.claims.specs.declared.values.ValueType.{ValueType}
use Rattle.claims.specs.declared.values.ValueType.TheVariants.{Uint64, Int64, String, Boolean}
use Rattle.units.specs.Units.{units, unit_bytes}
use Rattle.units.specs.Form.{well_formed}
use Rattle.claims.specs.Meaning.{Value, uint64, int64, string, boolean, type_of}
use Rattle.packet.specs.Carriable.{Fits}
use Rattle.packet.specs.Format.{bytes_before, encode_text, encode_value, Bytes}
use Rattle.packet.specs.Judge.{need, text_in, size_of_text, value_in, size_of_value, well_formed_value}
use Rattle.units.proofs.Texts.{length-units, length-unit_bytes, units_again}

-- numbers
pub number_bytes : (k n : ℕ) (more : List ℕ) → n < 256 ^ k → number_from_digits_after 256 0 (bytes_before k n more) ≡ number_from_digits_after 256 n more
number_bytes zero n more h = let z : 0 ≡ n = omega arith in ap (λ m. number_from_digits_after 256 m more) z
number_bytes (suc k) n more h =
    let p = pow-suc 256 k in
    let q : n / 256 * 256 + n % 256 ≡ n = omega arith in
    number_bytes k (n / 256) (n % 256 ∷ more) (omega arith) ∙ ap (λ m. number_from_digits_after 256 m more) q

pub bytes_number : (bs : List ℕ) (k n : ℕ) (more : List ℕ) → Bytes bs → bytes_before (length bs + k) (number_from_digits_after 256 n bs) more ≡ bytes_before k n (bs ++ more)
bytes_number [] k n more h = ap (λ m. bytes_before m n more) (zero-add k)
bytes_number (b ∷ bs) k n more h =
    let s : suc (length bs) + k ≡ length bs + suc k = omega arith in
    let q : (n * 256 + b) / 256 ≡ n = omega (arith, h.0) in
    let r : (n * 256 + b) % 256 ≡ b = omega (arith, h.0) in
    ap (λ m. bytes_before m (number_from_digits_after 256 (n * 256 + b) bs) more) s
    ∙ bytes_number bs (suc k) (n * 256 + b) more h.1
    ∙ ap (λ m. bytes_before k m ((n * 256 + b) % 256 ∷ (bs ++ more))) q
    ∙ ap (λ m. bytes_before k n (m ∷ (bs ++ more))) r

-- the bytes of what the first eight bytes write are those bytes
eight_again : (bs : List ℕ) → Bytes bs → 8 ≤ length bs → bytes_before 8 (number_from_digits 256 (take 8 bs)) [] ≡ take 8 bs
eight_again bs h len =
    let l : length (take 8 bs) + 0 ≡ 8 = omega (arith, length-take-le 8 bs len) in
    ap (λ m. bytes_before m (number_from_digits 256 (take 8 bs)) []) (sym l)
    ∙ bytes_number (take 8 bs) 0 0 [] (All-take (λ b. b < 256) 8 bs h)
    ∙ append-nil (take 8 bs)

eight_lt : (bs : List ℕ) → Bytes bs → 8 ≤ length bs → number_from_digits 256 (take 8 bs) < 2 ^ 64
eight_lt bs h len =
    let p = number_lt 256 (take 8 bs) (All-take (λ b. b < 256) 8 bs h) in
    let e : 256 ^ length (take 8 bs) ≡ 2 ^ 64 = ap (λ m. 256 ^ m) (length-take-le 8 bs len) in
    omega arith

-- texts
pub bytes_units : (bs : List ℕ) (n : ℕ) → Bytes bs → length bs ≡ 2 * n → unit_bytes (units bs) ≡ bs
bytes_units [] n h e = refl
bytes_units (x ∷ []) n h e = absurd (omega arith)
bytes_units (x ∷ y ∷ bs) n h e =
    let q : (x * 256 + y) / 256 ≡ x = omega (arith, h.1.0) in
    let r : (x * 256 + y) % 256 ≡ y = omega (arith, h.1.0) in
    ap (λ v. v ∷ (x * 256 + y) % 256 ∷ unit_bytes (units bs)) q
    ∙ ap (λ v. x ∷ v ∷ unit_bytes (units bs)) r
    ∙ ap (λ t. x ∷ y ∷ t) (bytes_units bs (n - 1) h.1.1 (omega arith))

pub units_wide : (bs : List ℕ) → Bytes bs → AllByRecursion (λ u. u < 65536) (units bs)
units_wide [] h = tt
units_wide (x ∷ []) h = tt
units_wide (x ∷ y ∷ bs) h = (omega (arith, h.0, h.1.0), units_wide bs h.1.1)

pub length-encode_text : (us : List ℕ) → length (encode_text us) ≡ size_of_text us
length-encode_text us = let r = length-unit_bytes us in omega arith

pub text_in-encode : (us rest : List ℕ) → text_in (encode_text us ++ rest) ≡ Some us
text_in-encode us rest =
    let l = length-unit_bytes us in
    let a = length-append (unit_bytes us) rest in
    let room : 2 * length us ≤ length (unit_bytes us ++ rest) = omega arith in
    cond-true (leb (2 * length us) (length (unit_bytes us ++ rest))) _ _ (le-leb _ _ room)
    ∙ ap (λ z. Some (units z)) (take_at (unit_bytes us) rest (2 * length us) l)
    ∙ ap Some (units_again us)

pub record TextFront (bs us : List ℕ) : Type 0 where
  pub front : bs ≡ encode_text us ++ drop (size_of_text us) bs
  pub few : length us ≤ 255
  pub wide : AllByRecursion (λ u. u < 65536) us

text_front : (n : ℕ) (bs : List ℕ) → Bytes (n ∷ bs) → 2 * n ≤ length bs → TextFront (n ∷ bs) (units (take (2 * n) bs))
text_front n bs h room =
    let p : List ℕ = take (2 * n) bs in
    let lp : length p ≡ 2 * n = length-take-le (2 * n) bs room in
    let hp : Bytes p = All-take (λ b. b < 256) (2 * n) bs h.1 in
    let lu = length-units p in
    let ln : length (units p) ≡ n = omega arith in
    let s : size_of_text (units p) ≡ suc (2 * n) = omega arith in
    record {
      front =
          ap (λ t. n ∷ t) (sym (take-append-drop (2 * n) bs))
          ∙ ap (λ t. n ∷ (t ++ drop (2 * n) bs)) (sym (bytes_units p n hp lp))
          ∙ ap (λ m. m ∷ (unit_bytes (units p) ++ drop (2 * n) bs)) (sym ln)
          ∙ ap (λ m. encode_text (units p) ++ drop m (n ∷ bs)) (sym s);
      few = omega (arith, h.0);
      wide = units_wide p hp;
    }

pub text_read : (bs us : List ℕ) → Bytes bs → text_in bs ≡ Some us → TextFront bs us
text_read [] us h e = let z : ◌≡◌ {A = ℕ} 0 1 = cc in absurd (omega arith)
text_read (n ∷ bs) us h e =
    elim (cases_Bool (leb (2 * n) (length bs))) [
      | inl y ↦
          let is : Some (units (take (2 * n) bs)) ≡ Some us = sym (cond-true _ _ _ y) ∙ e in
          let same : units (take (2 * n) bs) ≡ us = cc in
          subst (TextFront (n ∷ bs)) same (text_front n bs h (leb-true _ _ y))
      | inr x ↦
          let is : None ≡ Some us = sym (cond-false _ _ _ x) ∙ e in
          let z : ◌≡◌ {A = ℕ} 0 1 = cc in absurd (omega arith)
    ]

-- values
pub length-encode_value : (v : Value) → length (encode_value v) ≡ size_of_value v
length-encode_value (uint64 n) = refl
length-encode_value (int64 z) = refl
length-encode_value (string us) = length-encode_text us
length-encode_value (boolean b) = refl

eight_in : (n : ℕ) (rest : List ℕ) → n < 2 ^ 64 → (leb 8 (length (bytes_before 8 n [] ++ rest)) ≡ true) × (number_from_digits 256 (take 8 (bytes_before 8 n [] ++ rest)) ≡ n)
eight_in n rest h = (le-leb 8 (length (bytes_before 8 n [] ++ rest)) (omega arith), number_bytes 8 n [] h)

of_z_lt : (z : ℤ) → SFits w64 z → of_z w64 z < 2 ^ 64
of_z_lt z h = omega (arith, ints)

pub value_in-encode : (v : Value) (rest : List ℕ) → Fits v → value_in (type_of v) (encode_value v ++ rest) ≡ Ok v
value_in-encode (uint64 n) rest h =
    let e = eight_in n rest h in
    cond-true _ _ _ e.0 ∙ ap (λ m. Ok (uint64 m)) e.1
value_in-encode (int64 z) rest h =
    let e = eight_in (of_z w64 z) rest (of_z_lt z h) in
    cond-true _ _ _ e.0 ∙ ap (λ m. Ok (int64 (to_z w64 m))) e.1 ∙ ap (λ m. Ok (int64 m)) (to_z-of_z w64 z h)
value_in-encode (string us) rest h = ap (λ o. need o ClaimPastEnd (λ u. Ok (string u))) (text_in-encode us rest)
value_in-encode (boolean true) rest h = refl
value_in-encode (boolean false) rest h = refl

pub record ValueFront (k : ValueType) (bs : List ℕ) (v : Value) : Type 0 where
  pub front : bs ≡ encode_value v ++ drop (size_of_value v) bs
  pub kind : type_of v ≡ k
  pub fits : Fits v

natural_read : (bs : List ℕ) → Bytes bs → 8 ≤ length bs → ValueFront Uint64 bs (uint64 (number_from_digits 256 (take 8 bs)))
natural_read bs h len = record {
  front = sym (take-append-drop 8 bs) ∙ ap (λ t. t ++ drop 8 bs) (sym (eight_again bs h len));
  kind = refl;
  fits = eight_lt bs h len;
}

integer_read : (bs : List ℕ) → Bytes bs → 8 ≤ length bs → ValueFront Int64 bs (int64 (to_z w64 (number_from_digits 256 (take 8 bs))))
integer_read bs h len = record {
  front =
      sym (take-append-drop 8 bs) ∙ ap (λ t. t ++ drop 8 bs) (sym (eight_again bs h len))
      ∙ ap (λ n. bytes_before 8 n [] ++ drop 8 bs) (sym (of_z-to_z w64 (number_from_digits 256 (take 8 bs)) (eight_lt bs h len)));
  kind = refl;
  fits = read_sfits w64 (number_from_digits 256 (take 8 bs));
}

truth_read : (b : ℕ) (bs : List ℕ) → b ≤ 1 → ValueFront Boolean (b ∷ bs) (boolean (eqb b 1))
truth_read zero bs h = record { front = refl; kind = refl; fits = tt }
truth_read (suc zero) bs h = record { front = refl; kind = refl; fits = tt }
truth_read (suc (suc b)) bs h = absurd (omega arith)

clash : {X : Type 0} (n : Cause) (v : Value) → Err n ≡ Ok v → X
clash n v e = let z : ◌≡◌ {A = ℕ} 0 1 = cc in absurd (omega arith)

-- a test that has to be passed, and what is known then
tested : (t : Bool) (P : Value → Type 0) (x v : Value) (n : Cause) → (t ≡ true → P x) → cond t (Ok x) (Err n) ≡ Ok v → P v
tested true P x v n f e = let same : x ≡ v = cc in subst P same (f refl)
tested false P x v n f e = clash n v e

text_value : (bs : List ℕ) (o : Option (List ℕ)) (v : Value) → Bytes bs → text_in bs ≡ o → need o ClaimPastEnd (λ us. Ok (string us)) ≡ Ok v → well_formed_value v ≡ true → ValueFront String bs v
text_value bs None v h is e s = clash ClaimPastEnd v e
text_value bs (Some us) v h is e s =
    let same : string us ≡ v = cc in
    let w : well_formed us ≡ true = ap well_formed_value same ∙ s in
    let f = text_read bs us h is in
    subst (ValueFront String bs) same (record { front = f.front; kind = refl; fits = record { few = f.few; wide = f.wide; well = w } })

pub value_read : (k : ValueType) (bs : List ℕ) (v : Value) → Bytes bs → value_in k bs ≡ Ok v → well_formed_value v ≡ true → ValueFront k bs v
value_read Uint64 bs v h e s = tested (leb 8 (length bs)) (ValueFront Uint64 bs) _ v ClaimPastEnd (λ y. natural_read bs h (leb-true _ _ y)) e
value_read Int64 bs v h e s = tested (leb 8 (length bs)) (ValueFront Int64 bs) _ v ClaimPastEnd (λ y. integer_read bs h (leb-true _ _ y)) e
value_read String bs v h e s = text_value bs (text_in bs) v h refl e s
value_read Boolean [] v h e s = clash ClaimPastEnd v e
value_read Boolean (b ∷ bs) v h e s = tested (leb b 1) (ValueFront Boolean (b ∷ bs)) _ v BooleanOverOne (λ y. truth_read b bs (leb-true _ _ y)) e
