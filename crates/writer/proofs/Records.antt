-- A record is writable when its parts fit and its word names the value's type.
use Rattle.std.proofs.Common.{◌≡◌, ℕ, Bool, List, [], Some, None, Decides, Option, unwrap_or, sym, refl, ap, ◌∙◌, subst, arith}
use Rattle.std.specs.Option.{option_map}
use Rattle.claims.specs.Claims.{onward, text_of, value_of, claim_of}
use Rattle.claims.specs.Meaning as meaning
use Rattle.claims.specs.Meaning.{named, type_of}
use Rattle.claims.specs.declared.records.Claim.{Claim}
use Rattle.claims.specs.declared.texts.Text.{Text}
use Rattle.claims.specs.declared.values.Value.{Value}
use Rattle.claims.specs.declared.values.Value.TheVariants.{Uint64, Int64, String, Boolean}
use Rattle.packet.specs.Carriable.{Short, Fits}
use Rattle.writer.specs.Shown.{Writable, shown_text, shown_value, shown_claim, TextFits, ValueTextFits, PartsFit, Names}

clash : {X Y : Type 0} (x : Y) → ◌≡◌ {A = Option Y} None (Some x) → X
clash x e = let z : ◌≡◌ {A = ℕ} 0 1 = cc in absurd (omega arith)

value_some : (t w : List ℕ) (o : Option meaning.Value) (m : meaning.Claim) → option_map (meaning.claim t w) o ≡ Some m → (t ≡ m.typ) × (w ≡ m.word) × (o ≡ Some m.value)
value_some t w None m e = clash m e
value_some t w (Some v) m e =
    let is : meaning.claim t w v ≡ m = cc in
    (ap (λ c. c.typ) is, ap (λ c. c.word) is, ap (λ c. Some c.value) is)

word_some : (t : List ℕ) (p : Option (List ℕ)) (o : Option meaning.Value) (m : meaning.Claim) → onward p (λ w. option_map (meaning.claim t w) o) ≡ Some m
    → (t ≡ m.typ) × (p ≡ Some m.word) × (o ≡ Some m.value)
word_some t None o m e = clash m e
word_some t (Some w) o m e = let v = value_some t w o m e in (v.0, ap Some v.1, v.2)

claim_some : (q p : Option (List ℕ)) (o : Option meaning.Value) (m : meaning.Claim) → onward q (λ t. onward p (λ w. option_map (meaning.claim t w) o)) ≡ Some m
    → (q ≡ Some m.typ) × (p ≡ Some m.word) × (o ≡ Some m.value)
claim_some None p o m e = clash m e
claim_some (Some t) p o m e = let w = word_some t p o m e in (ap Some w.0, w.1, w.2)

module _ (rules packet : List ℕ) where
  text_shown : (t : Text) (us : List ℕ) → text_of rules packet t ≡ Some us → shown_text rules packet t ≡ us
  text_shown t us e = ap (λ o. unwrap_or o []) e

  string_shown : (o : Option (List ℕ)) (x : meaning.Value) → option_map meaning.string o ≡ Some x → meaning.string (unwrap_or o []) ≡ x
  string_shown None x e = clash x e
  string_shown (Some us) x e = cc

  value_shown : (v : Value) (x : meaning.Value) → value_of rules packet v ≡ Some x → shown_value rules packet v ≡ x
  value_shown (Uint64 n) x e = cc
  value_shown (Int64 z) x e = cc
  value_shown (String t) x e = string_shown (text_of rules packet t) x e
  value_shown (Boolean b) x e = cc

  text_fits : (t : Text) (us : List ℕ) → text_of rules packet t ≡ Some us → Short us → TextFits rules packet t
  text_fits t us e s =
      let is = text_shown t us e in
      record { stands = e ∙ ap Some (sym is); short = subst Short (sym is) s }

  string_texts : (t : Text) (o : Option (List ℕ)) (x : meaning.Value) → text_of rules packet t ≡ o → option_map meaning.string o ≡ Some x → Fits x → TextFits rules packet t
  string_texts t None x is e f = clash x e
  string_texts t (Some us) x is e f =
      let v : meaning.string us ≡ x = cc in
      text_fits t us is (subst Fits (sym v) f)

  value_texts : (v : Value) (x : meaning.Value) → value_of rules packet v ≡ Some x → Fits x → ValueTextFits rules packet v
  value_texts (Uint64 n) x e f = tt
  value_texts (Int64 z) x e f = tt
  value_texts (String t) x e f = string_texts t (text_of rules packet t) x refl e f
  value_texts (Boolean b) x e f = tt

  module _ (c : Claim) where
    -- the claim of a writable record is the one that it shows
    pub shown_claim_is : (m : meaning.Claim) → claim_of rules packet c ≡ Some m → shown_claim rules packet c ≡ m
    shown_claim_is m e =
        let p = claim_some (text_of rules packet c.typ) (text_of rules packet c.word) (value_of rules packet c.value) m e in
        let t = text_shown c.typ m.typ p.0 in
        let w = text_shown c.word m.word p.1 in
        let v = value_shown c.value m.value p.2 in
        ap (λ x. meaning.claim x (shown_text rules packet c.word) (shown_value rules packet c.value)) t
        ∙ ap (λ x. meaning.claim m.typ x (shown_value rules packet c.value)) w
        ∙ ap (meaning.claim m.typ m.word) v

    pub writable_parts : Writable rules packet c → PartsFit rules packet c
    writable_parts (m, e, h) =
        let p = claim_some (text_of rules packet c.typ) (text_of rules packet c.word) (value_of rules packet c.value) m e in
        let v = value_shown c.value m.value p.2 in
        record {
          type_fits = text_fits c.typ m.typ p.0 h.type_fits;
          word_fits = text_fits c.word m.word p.1 h.word_fits;
          value_fits = record { stands = p.2 ∙ ap Some (sym v); fits = subst Fits (sym v) h.value_fits; texts = value_texts c.value m.value p.2 h.value_fits };
        }

    writable_names : Writable rules packet c → Names (shown_text rules packet c.word) (shown_value rules packet c.value)
    writable_names (m, e, h) =
        let is = shown_claim_is m e in
        subst (λ x. named x.word ≡ Some (type_of x.value)) (sym is) h.spelt

    stands : PartsFit rules packet c → claim_of rules packet c ≡ Some (shown_claim rules packet c)
    stands f =
        ap (λ o. onward o (λ t. onward (text_of rules packet c.word) (λ w. option_map (meaning.claim t w) (value_of rules packet c.value)))) f.type_fits.stands
        ∙ ap (λ o. onward o (λ w. option_map (meaning.claim (shown_text rules packet c.typ) w) (value_of rules packet c.value))) f.word_fits.stands
        ∙ ap (option_map (meaning.claim (shown_text rules packet c.typ) (shown_text rules packet c.word))) f.value_fits.stands

    parts_writable : PartsFit rules packet c → Names (shown_text rules packet c.word) (shown_value rules packet c.value) → Writable rules packet c
    parts_writable f n = (
      shown_claim rules packet c,
      stands f,
      record { type_fits = f.type_fits.short; word_fits = f.word_fits.short; value_fits = f.value_fits.fits; spelt = n },
    )

    pub writable_decided : (w : List ℕ) (r : Bool) → w ≡ shown_text rules packet c.word → PartsFit rules packet c → Decides r (Names w (shown_value rules packet c.value))
        → Decides r (Writable rules packet c)
    writable_decided w r is f d =
        let to : Names w (shown_value rules packet c.value) → Names (shown_text rules packet c.word) (shown_value rules packet c.value) = subst (λ x. Names x (shown_value rules packet c.value)) is in
        let from : Names (shown_text rules packet c.word) (shown_value rules packet c.value) → Names w (shown_value rules packet c.value) = subst (λ x. Names x (shown_value rules packet c.value)) (sym is) in
        (λ y. parts_writable f (to (d.0 y)), λ m. d.1 (from (writable_names m)))
