-- The claim at a place, field by field, as the code reads it.
use Rattle.faults.specs.declared.Cause.{Cause}
use Rattle.std.proofs.Common.{◌≡◌, ℕ, ◌+◌, true, false, List, drop, Some, None, Ok, Err, Option, Result, sym, ap, ◌∙◌, arith}
use Rattle.std.specs.Option.{ok_or}
use Rattle.std.proofs.lemmas.List.{drop-drop}
use Rattle.std.proofs.lemmas.Bool.{cond-true, cond-false}
use Rattle.faults.specs.declared.Cause.TheVariants.{ClaimPastEnd, UnknownValueType, IllFormedText}
use Rattle.claims.specs.declared.values.ValueType.{ValueType}
use Rattle.claims.specs.declared.texts.Text.{Text}
use Rattle.claims.specs.declared.values.Value.{Value}
use Rattle.claims.specs.declared.records.Claim.{Claim}
use Rattle.claims.specs.Meaning as meaning
use Rattle.claims.specs.Meaning.{named}
use Rattle.packet.specs.Judge.{need, text_in, size_of_text, value_in, well_formed_claim, from_value, from_named, from_word, from_type, one_claim_in}
use Rattle.packet.specs.Held.{held_text, held_value, held_claim, after_text, Lies}

abbrev pub claim_at : Text → Text → Value → Claim
claim_at t w v = record { typ = t; word = w; value = v }

pub need_some : {X : Type 0} (o : Option X) (x : X) → Ok x ≡ need o ClaimPastEnd (λ y. Ok y) → o ≡ Some x
need_some None x e = let z : ◌≡◌ {A = ℕ} 0 1 = cc in absurd (omega arith)
need_some (Some y) x e = let is : y ≡ x = cc in ap Some is

-- the error that `ok_or` gives
pub err_is : {X E : Type 0} (o : Option X) (m f : E) → ◌≡◌ {A = Result X E} (Err f) (ok_or o m) → o ≡ None → f ≡ m
err_is None m f e n = cc
err_is (Some k) m f e n = let z : ◌≡◌ {A = ℕ} 0 1 = cc in absurd (omega arith)

module _ (bs : List ℕ) (at : ℕ) (t : Text) (ft : Lies bs at t) (it : text_in (drop at bs) ≡ Some (held_text bs t)) where
  past_type : drop (size_of_text (held_text bs t)) (drop at bs) ≡ drop (after_text t) bs
  past_type = drop-drop (size_of_text (held_text bs t)) at bs ∙ ap (λ n. drop n bs) (sym ft.ends)

  from_type_read : one_claim_in (drop at bs) ≡ from_word (drop at bs) (held_text bs t) (text_in (drop (after_text t) bs))
  from_type_read = ap (from_type (drop at bs)) it ∙ ap (λ z. from_word (drop at bs) (held_text bs t) (text_in z)) past_type

  module _ (p : ℕ) (ip : p ≡ after_text t) (w : Text) (fw : Lies bs p w) (iw : text_in (drop p bs) ≡ Some (held_text bs w)) where
    past_word : drop (size_of_text (held_text bs t) + size_of_text (held_text bs w)) (drop at bs) ≡ drop (after_text w) bs
    past_word =
        let a = ft.ends in
        let b = fw.ends in
        let e : at + (size_of_text (held_text bs t) + size_of_text (held_text bs w)) ≡ after_text w = omega arith in
        drop-drop (size_of_text (held_text bs t) + size_of_text (held_text bs w)) at bs ∙ ap (λ n. drop n bs) e

    from_word_read : one_claim_in (drop at bs) ≡ from_named (drop at bs) (held_text bs t) (held_text bs w) (named (held_text bs w))
    from_word_read = from_type_read ∙ ap (λ n. from_word (drop at bs) (held_text bs t) (text_in (drop n bs))) (sym ip) ∙ ap (from_word (drop at bs) (held_text bs t)) iw

    pub named_none : named (held_text bs w) ≡ None → one_claim_in (drop at bs) ≡ Err UnknownValueType
    named_none e = from_word_read ∙ ap (from_named (drop at bs) (held_text bs t) (held_text bs w)) e

    module _ (q : ℕ) (iq : q ≡ after_text w) where
      module _ (k : ValueType) (ik : named (held_text bs w) ≡ Some k) where
        value_read : (r : Result meaning.Value Cause) → value_in k (drop q bs) ≡ r → one_claim_in (drop at bs) ≡ from_value (held_text bs t) (held_text bs w) r
        value_read r e =
            from_word_read ∙ ap (from_named (drop at bs) (held_text bs t) (held_text bs w)) ik
            ∙ ap (λ z. from_value (held_text bs t) (held_text bs w) (value_in k z)) (past_word ∙ ap (λ n. drop n bs) (sym iq)) ∙ ap (from_value (held_text bs t) (held_text bs w)) e

        pub value_fails : (n : Cause) → Err n ≡ value_in k (drop q bs) → Err n ≡ one_claim_in (drop at bs)
        value_fails n e = sym (value_read (Err n) (sym e))

        module _ (v : Value) (iv : value_in k (drop q bs) ≡ Ok (held_value bs v)) where
          pub claim_unsound : well_formed_claim (held_claim bs (claim_at t w v)) ≡ false → one_claim_in (drop at bs) ≡ Err IllFormedText
          claim_unsound e = value_read (Ok (held_value bs v)) iv ∙ cond-false _ _ _ e

          pub claim_there : well_formed_claim (held_claim bs (claim_at t w v)) ≡ true → one_claim_in (drop at bs) ≡ Ok (held_claim bs (claim_at t w v))
          claim_there e = value_read (Ok (held_value bs v)) iv ∙ cond-true _ _ _ e
