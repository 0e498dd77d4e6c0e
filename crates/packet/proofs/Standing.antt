-- The records of a packet's claims stand for the claims.
use Rattle.std.proofs.Common.{◌≡◌, ℕ, suc, ◌+◌, ◌*◌, ◌≤◌, leb, List, [], ◌∷◌, ◌++◌, length, take, drop, Some, None, sym, refl, ap, ◌∙◌, append_assoc, arith, length-append}
use Rattle.std.proofs.lemmas.List.{take_at, drop_at, drop-drop, length-drop}
use Rattle.std.proofs.lemmas.Bool.{cond-true, le-leb}
use Rattle.std.specs.Option.{option_map}
use Rattle.claims.specs.Claims.{onward, text_of, value_of, claim_of, claims_of}
use Rattle.claims.specs.Meaning as meaning
use Rattle.claims.specs.Meaning.{uint64, int64, string, boolean}
use Rattle.claims.specs.declared.records.Claim.{Claim}
use Rattle.claims.specs.declared.texts.Origin.{Origin}
use Rattle.claims.specs.declared.texts.Origin.TheVariants.{Packet}
use Rattle.claims.specs.declared.texts.Text.{Text}
use Rattle.claims.specs.declared.values.Value.{Value}
use Rattle.claims.specs.declared.values.Value.TheVariants.{Uint64, Int64, String, Boolean}
use Rattle.packet.specs.Format.{encode_text, encode_value, encode, body, packet}
use Rattle.packet.specs.Held.{held_text, held_value, held_claim, after_text, Lies, TextLies, ClaimLies}
use Rattle.packet.specs.Judge.{size_of_text, size}
use Rattle.packet.specs.Records.{text_record, value_record, claim_record, records_from}
use Rattle.packet.proofs.Bytes.{length-encode_text}
use Rattle.packet.proofs.Claims.{length-encode}
use Rattle.units.proofs.Texts.{length-unit_bytes, units_again}
use Rattle.units.specs.Units.{units, unit_bytes}

-- a record that lies at a place is the record of what it stands for there
text_there : (bs : List ℕ) (at : ℕ) (t : Text) → Lies bs at t → t ≡ text_record at (held_text bs t)
text_there bs at t h =
    let o = h.of in
    let p = h.begins in
    let e = h.ends in
    let l : t.len ≡ length (held_text bs t) = omega arith in
    let same : (x : Origin) (y z : ℕ) → t.origin ≡ x → t.place ≡ y → t.len ≡ z → t ≡ record { origin = x; place = y; len = z } = λ x y z a b d.
    ap (λ v. record { origin = v; place = t.place; len = t.len }) a ∙ ap (λ v. record { origin = x; place = v; len = t.len }) b ∙ ap (λ v. record { origin = x; place = y; len = v }) d in
    same Packet (at + 1) (length (held_text bs t)) o p l

value_there : (bs : List ℕ) (at : ℕ) (v : Value) → TextLies bs at v → v ≡ value_record at (held_value bs v)
value_there bs at (Uint64 n) h = refl
value_there bs at (Int64 z) h = refl
value_there bs at (String t) h = ap String (text_there bs at t h)
value_there bs at (Boolean b) h = refl

pub claim_there : (bs : List ℕ) (at : ℕ) (c : Claim) → ClaimLies bs at c → c ≡ claim_record at (held_claim bs c)
claim_there bs at c h =
    let a = h.type_place.ends in
    let b = h.word_place.ends in
    let w : after_text c.typ ≡ at + size_of_text (held_text bs c.typ) = a in
    let q : after_text c.word ≡ at + size_of_text (held_text bs c.typ) + size_of_text (held_text bs c.word) = omega arith in
    let it : Text = text_record at (held_text bs c.typ) in
    let iw : c.word ≡ text_record (at + size_of_text (held_text bs c.typ)) (held_text bs c.word) =
    text_there bs (after_text c.typ) c.word h.word_place ∙ ap (λ n. text_record n (held_text bs c.word)) w in
    let iv : c.value ≡ value_record (at + size_of_text (held_text bs c.typ) + size_of_text (held_text bs c.word)) (held_value bs c.value) =
    value_there bs (after_text c.word) c.value h.value_place ∙ ap (λ n. value_record n (held_value bs c.value)) q in
    ap (λ x. record { typ = x; word = c.word; value = c.value }) (text_there bs at c.typ h.type_place)
    ∙ ap (λ x. record { typ = it; word = x; value = c.value }) iw
    ∙ ap (λ x. record { typ = it; word = text_record (at + size_of_text (held_text bs c.typ)) (held_text bs c.word); value = x }) iv

-- as many records as claims
pub length-records : (at : ℕ) (cs : List meaning.Claim) → length (records_from at cs) ≡ length cs
length-records at [] = refl
length-records at (c ∷ cs) = ap suc (length-records (at + size c) cs)

-- through the bytes a record stands for its claim
module _ (rules bs : List ℕ) where
  text_stands : (at : ℕ) (us rest : List ℕ) → drop at bs ≡ encode_text us ++ rest → text_of rules bs (text_record at us) ≡ Some us
  text_stands at us rest e =
      let l = length-drop at bs in
      let k = ap length e in
      let a = length-append (encode_text us) rest in
      let s = length-encode_text us in
      let room : at + 1 + 2 * length us ≤ length bs = omega arith in
      let one : drop (at + 1) bs ≡ unit_bytes us ++ rest = sym (drop-drop 1 at bs) ∙ ap (drop 1) e in
      ap (option_map units) (cond-true (leb (at + 1 + 2 * length us) (length bs)) (Some (take (2 * length us) (drop (at + 1) bs))) None (le-leb _ _ room))
      ∙ ap (λ z. Some (units (take (2 * length us) z))) one
      ∙ ap (λ z. Some (units z)) (take_at (unit_bytes us) rest (2 * length us) (length-unit_bytes us))
      ∙ ap Some (units_again us)

  value_stands : (at : ℕ) (v : meaning.Value) (rest : List ℕ) → drop at bs ≡ encode_value v ++ rest → value_of rules bs (value_record at v) ≡ Some v
  value_stands at (uint64 n) rest e = refl
  value_stands at (int64 z) rest e = refl
  value_stands at (string us) rest e = ap (option_map string) (text_stands at us rest e)
  value_stands at (boolean b) rest e = refl

  claim_stands : (at : ℕ) (c : meaning.Claim) (rest : List ℕ) → drop at bs ≡ encode c ++ rest → claim_of rules bs (claim_record at c) ≡ Some c
  claim_stands at c rest e =
      let t : List ℕ = encode_text c.typ in
      let w : List ℕ = encode_text c.word in
      let v : List ℕ = encode_value c.value in
      let flat : drop at bs ≡ t ++ (w ++ (v ++ rest)) = e ∙ append_assoc t (w ++ v) rest ∙ ap (λ z. t ++ z) (append_assoc w v rest) in
      let pt : drop (at + size_of_text c.typ) bs ≡ w ++ (v ++ rest) =
      sym (drop-drop (size_of_text c.typ) at bs) ∙ ap (drop (size_of_text c.typ)) flat ∙ drop_at t (w ++ (v ++ rest)) (size_of_text c.typ) (length-encode_text c.typ) in
      let pw : drop (at + size_of_text c.typ + size_of_text c.word) bs ≡ v ++ rest =
      sym (drop-drop (size_of_text c.word) (at + size_of_text c.typ) bs) ∙ ap (drop (size_of_text c.word)) pt ∙ drop_at w (v ++ rest) (size_of_text c.word) (length-encode_text c.word) in
      let vr : Value = value_record (at + size_of_text c.typ + size_of_text c.word) c.value in
      let wr : Text = text_record (at + size_of_text c.typ) c.word in
      ap (λ o. onward o (λ x. onward (text_of rules bs wr) (λ y. option_map (meaning.claim x y) (value_of rules bs vr)))) (text_stands at c.typ (w ++ (v ++ rest)) flat)
      ∙ ap (λ o. onward o (λ y. option_map (meaning.claim c.typ y) (value_of rules bs vr))) (text_stands (at + size_of_text c.typ) c.word (v ++ rest) pt)
      ∙ ap (option_map (meaning.claim c.typ c.word)) (value_stands (at + size_of_text c.typ + size_of_text c.word) c.value rest pw)

  records_stand : (at : ℕ) (cs : List meaning.Claim) → drop at bs ≡ body cs → claims_of rules bs (records_from at cs) ≡ Some cs
  records_stand at [] e = refl
  records_stand at (c ∷ cs) e =
      let next : drop (at + size c) bs ≡ body cs = sym (drop-drop (size c) at bs) ∙ ap (drop (size c)) e ∙ drop_at (encode c) (body cs) (size c) (length-encode c) in
      ap (λ o. onward o (λ d. option_map (λ ds. d ∷ ds) (claims_of rules bs (records_from (at + size c) cs)))) (claim_stands at c (body cs) e)
      ∙ ap (option_map (λ ds. c ∷ ds)) (records_stand (at + size c) cs next)

  pub packet_stands : (cs : List meaning.Claim) → bs ≡ packet cs → claims_of rules bs (records_from 3 cs) ≡ Some cs
  packet_stands cs e = records_stand 3 cs (ap (drop 3) e)
