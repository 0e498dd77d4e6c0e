-- Bytes written one after the other.
use Rattle.std.proofs.Common.{◌≡◌, ℕ, ◌+◌, ◌-◌, ◌*◌, ◌/◌, ◌%◌, ◌<◌, ◌≤◌, List, [], ◌∷◌, ◌++◌, length, take, drop, set, sym, refl, ap, ◌∙◌, append_assoc, add-one, zero-add, arith, length-append}
use native.Mathlib.Nat.{div-div-eq-div-mul}
use borrow.Rule.Slice.PartMut.{put_mid}
use Rattle.std.proofs.lemmas.List.{take-append-drop, length-take-le, take_at, drop_at, drop-drop, drop_all, take_all, append-nil, length-drop, set_split, length-set}
use Rattle.std.proofs.lemmas.Slice.{take-put_mid, drop-put_mid}
use Rattle.units.specs.Units.{units}
use Rattle.claims.specs.Meaning.{Claim}
use Rattle.packet.specs.Judge.{size_of_text, size}
use Rattle.packet.specs.Format.{bytes_before, encode_text, encode_value, encode, Bytes}
use Rattle.writer.specs.Writing.{written}
use Rattle.packet.proofs.Bytes.{bytes_units, length-encode_text}

pub written_more : (old : List ℕ) (at : ℕ) (xs ys : List ℕ) → at + length xs ≤ length old → written (written old at xs) (at + length xs) ys ≡ written old at (xs ++ ys)
written_more old at xs ys room =
    let p : List ℕ = take at old ++ xs in
    let m : ℕ = at + length xs in
    let behind : List ℕ = drop m old in
    let t = length-take-le at old (omega arith) in
    let lp : length p ≡ m = length-append (take at old) xs ∙ ap (λ n. n + length xs) t in
    let is : written old at xs ≡ p ++ behind = sym (append_assoc (take at old) xs behind) in
    let front : take m (written old at xs) ≡ p = ap (take m) is ∙ take_at p behind m lp in
    let rest : drop (m + length ys) (written old at xs) ≡ drop (m + length ys) old =
    ap (drop (m + length ys)) is ∙ sym (drop-drop (length ys) m (p ++ behind)) ∙ ap (drop (length ys)) (drop_at p behind m lp) ∙ drop-drop (length ys) m old in
    let l : m + length ys ≡ at + length (xs ++ ys) = omega (arith, length-append xs ys) in
    ap (λ z. z ++ (ys ++ drop (m + length ys) (written old at xs))) front
    ∙ ap (λ z. p ++ (ys ++ z)) (rest ∙ ap (λ n. drop n old) l)
    ∙ append_assoc (take at old) xs (ys ++ drop (at + length (xs ++ ys)) old)
    ∙ ap (λ z. take at old ++ z) (sym (append_assoc xs ys (drop (at + length (xs ++ ys)) old)))

-- one byte, and a copy of a slice
pub written_set : (old : List ℕ) (at b : ℕ) → at < length old → set old at b ≡ written old at (b ∷ [])
written_set old at b h = set_split old at b h ∙ ap (λ n. take at old ++ b ∷ drop n old) (sym (add-one at))

pub written_copy : (old : List ℕ) (at k : ℕ) (ys : List ℕ) → at ≤ length old → length ys ≡ k → put_mid at k old ys ≡ written old at ys
written_copy old at k ys h e =
    let n : ℕ = at + length ys in
    sym (take-append-drop n (put_mid at k old ys))
    ∙ ap (λ z. z ++ drop n (put_mid at k old ys)) (take-put_mid at k old ys n refl h)
    ∙ ap (λ z. (take at old ++ ys) ++ z) (drop-put_mid at k old ys n (omega arith) h e)
    ∙ append_assoc (take at old) ys (drop n old)

pub length-written : (old bs : List ℕ) (at : ℕ) → at + length bs ≤ length old → length (written old at bs) ≡ length old
length-written old bs at room =
    let t = length-take-le at old (omega arith) in
    let d = length-drop (at + length bs) old in
    let a = length-append bs (drop (at + length bs) old) in
    let b = length-append (take at old) (bs ++ drop (at + length bs) old) in
    omega arith

-- bytes at the front of the rest, which begins at a place
pub written_rest : (old ys bs : List ℕ) (at k : ℕ) → at + length bs ≤ length old → k ≡ length old - at → ys ≡ written (take k (drop at old)) 0 bs → put_mid at k old ys ≡ written old at bs
written_rest old ys bs at k room ik is =
    let l = length-drop at old in
    let m = length-drop (at + length bs) old in
    let w : take k (drop at old) ≡ drop at old = take_all k (drop at old) (omega arith) in
    let rest : ys ≡ bs ++ drop (at + length bs) old =
    is ∙ ap (λ z. bs ++ drop (0 + length bs) z) w ∙ ap (λ n. bs ++ drop n (drop at old)) (zero-add (length bs)) ∙ ap (λ z. bs ++ z) (drop-drop (length bs) at old) in
    let a = length-append bs (drop (at + length bs) old) in
    let b = ap length rest in
    let n : length ys ≡ k = omega arith in
    let none : drop (at + length ys) old ≡ [] = drop_all (at + length ys) old (omega arith) in
    written_copy old at k ys (omega arith) n ∙ ap (λ z. take at old ++ (ys ++ z)) none ∙ ap (λ z. take at old ++ z) (append-nil ys ∙ rest)

-- a length byte and a copy: a text
pub written_text : (old : List ℕ) (at n k : ℕ) (ys : List ℕ) → Bytes ys → n ≡ length (units ys) → length ys ≡ 2 * length (units ys) → at + 1 + length ys ≤ length old → length ys ≡ k
    → put_mid (at + 1) k (set old at n) ys ≡ written old at (encode_text (units ys))
written_text old at n k ys h is even room e =
    let l = length-set old at n in
    written_copy (set old at n) (at + 1) k ys (omega arith) e
    ∙ ap (λ z. written z (at + 1) ys) (written_set old at n (omega arith))
    ∙ written_more old at (n ∷ []) ys (omega arith)
    ∙ ap (λ m. written old at (m ∷ ys)) is
    ∙ ap (λ z. written old at (length (units ys) ∷ z)) (sym (bytes_units ys (length (units ys)) h even))

-- eight bytes
pub eight_bytes : (n : ℕ)
    → n / 72057594037927936 % 256 ∷ n / 281474976710656 % 256 ∷ n / 1099511627776 % 256 ∷ n / 4294967296 % 256 ∷ n / 16777216 % 256 ∷ n / 65536 % 256 ∷ n / 256 % 256 ∷ n % 256 ∷ []
    ≡ bytes_before 8 n []
eight_bytes n =
    let d2 : n / 256 / 256 ≡ n / 65536 = div-div-eq-div-mul n 256 256 in
    let d3 : n / 65536 / 256 ≡ n / 16777216 = div-div-eq-div-mul n 65536 256 in
    let d4 : n / 16777216 / 256 ≡ n / 4294967296 = div-div-eq-div-mul n 16777216 256 in
    let d5 : n / 4294967296 / 256 ≡ n / 1099511627776 = div-div-eq-div-mul n 4294967296 256 in
    let d6 : n / 1099511627776 / 256 ≡ n / 281474976710656 = div-div-eq-div-mul n 1099511627776 256 in
    let d7 : n / 281474976710656 / 256 ≡ n / 72057594037927936 = div-div-eq-div-mul n 281474976710656 256 in
    cc

pub written_number : (old : List ℕ) (at n k : ℕ) (ys : List ℕ) → ys ≡ bytes_before 8 n [] → at + 8 ≤ length old → k ≡ 8 → put_mid at k old ys ≡ written old at (bytes_before 8 n [])
written_number old at n k ys is room e = written_copy old at k ys (omega arith) (ap length is ∙ sym e) ∙ ap (written old at) is

-- three fields, one after the other
pub written_claim : (old : List ℕ) (at : ℕ) (c : Claim) (p q r : List ℕ) (word value : ℕ)
    → at + size c ≤ length old
    → word ≡ at + size_of_text c.typ → value ≡ word + size_of_text c.word
    → p ≡ written old at (encode_text c.typ) → q ≡ written p word (encode_text c.word) → r ≡ written q value (encode_value c.value)
    → r ≡ written old at (encode c)
written_claim old at c p q r word value room iw iv ip iq ir =
    let t : List ℕ = encode_text c.typ in
    let w : List ℕ = encode_text c.word in
    let v : List ℕ = encode_value c.value in
    let lt = length-encode_text c.typ in
    let lw = length-encode_text c.word in
    let a = length-append t w in
    let kw : word ≡ at + length t = omega arith in
    let kv : value ≡ at + length (t ++ w) = omega arith in
    let two : q ≡ written old at (t ++ w) = iq ∙ ap (λ z. written z word w) ip ∙ ap (λ n. written (written old at t) n w) kw ∙ written_more old at t w (omega arith) in
    ir ∙ ap (λ z. written z value v) two ∙ ap (λ n. written (written old at (t ++ w)) n v) kv ∙ written_more old at (t ++ w) v (omega arith)
    ∙ ap (written old at) (append_assoc t w v)
