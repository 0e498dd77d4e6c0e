-- The refusal that is computed is the one that a pattern meets.
use Rattle.std.proofs.Common.{◌≡◌, ℕ, zero, suc, pred, ◌+◌, ◌≤◌, Bool, true, false, cond, ◌&&◌, ltb, List, [], ◌∷◌, ◌++◌, Some, None, Ok, Err, Option, Result, sym, refl, ap, ◌∙◌, subst, inl, inr, append_assoc, arith}
use Rattle.std.proofs.lemmas.Bool.{and_parts, and_from, false_from_ne_true, ltb-true, lt-ltb, leb-true, le-leb}
use Rattle.faults.specs.declared.Cause.{Cause}
use Rattle.faults.specs.declared.Cause.TheVariants.{MalformedPattern, PatternOverLimit}
use Rattle.automaton.specs.Language.{Tree}
use Rattle.automaton.specs.Places.{size}
use Rattle.pattern.specs.Signs.{special, begins}
use Rattle.pattern.specs.Grammar.{Kind, Spells, one_way, or_way, nothing, and_then, once, starred, plussed, queried, dot, unit, escaped, bracketed, closing}
use Rattle.pattern.specs.Formed.{formed}
use Rattle.pattern.specs.Parsed.{whole}
use Rattle.pattern.specs.Caused.{shallow, few, body, cause_of_pattern, cause_of}
use Rattle.pattern.specs.Judged.{WellFormed, WithinLimits, Refusal, Reads}
use Rattle.pattern.specs.declared.Pattern.{Pattern}
use Rattle.pattern.specs.declared.scan.State.TheVariants.{Fresh}
use Rattle.pattern.proofs.Onward.{no_eq}
use Rattle.pattern.proofs.Formed.{passes}
use Rattle.pattern.proofs.Whole.{body_of, whole_of, well_formed_passed, closes}
use Rattle.pattern.proofs.Parse.{told_whole}

-- a plain unit is no bracket and no backslash
plain_shallow : (m d c : ℕ) (v : List ℕ) → special c ≡ false → shallow m false d (c ∷ v) ≡ shallow m false d v
plain_shallow m d c v h =
    λ i. cond (no_eq c 40 refl h i) (ltb d m && shallow m false (suc d) v) (cond (no_eq c 41 refl h i) (shallow m false (pred d) v) (cond (no_eq c 92 refl h i) (shallow m true d v) (shallow m false d v)))

-- brackets nest no deeper than is spelt
spelt_shallow : {e : ℕ} {k : Kind} {t : Tree} {u : List ℕ} → Spells e k t u → (m d : ℕ) (v : List ℕ) → d + e ≤ m → shallow m false d v ≡ true → shallow m false d (u ++ v) ≡ true
spelt_shallow (one_way x) m d v le h = spelt_shallow x m d v le h
spelt_shallow (or_way u u' q x y) m d v le h =
    subst (λ z. shallow m false d z ≡ true) (sym (ap (λ z. z ++ v) q ∙ append_assoc u (124 ∷ u') v)) (spelt_shallow x m d (124 ∷ (u' ++ v)) le (spelt_shallow y m d v le h))
spelt_shallow nothing m d v le h = h
spelt_shallow (and_then u u' q x y) m d v le h =
    subst (λ z. shallow m false d z ≡ true) (sym (ap (λ z. z ++ v) q ∙ append_assoc u u' v)) (spelt_shallow x m d (u' ++ v) le (spelt_shallow y m d v le h))
spelt_shallow (once x) m d v le h = spelt_shallow x m d v le h
spelt_shallow (starred u q x) m d v le h = subst (λ z. shallow m false d z ≡ true) (sym (ap (λ z. z ++ v) q ∙ append_assoc u (42 ∷ []) v)) (spelt_shallow x m d (42 ∷ v) le h)
spelt_shallow (plussed u q x) m d v le h = subst (λ z. shallow m false d z ≡ true) (sym (ap (λ z. z ++ v) q ∙ append_assoc u (43 ∷ []) v)) (spelt_shallow x m d (43 ∷ v) le h)
spelt_shallow (queried u q x) m d v le h = subst (λ z. shallow m false d z ≡ true) (sym (ap (λ z. z ++ v) q ∙ append_assoc u (63 ∷ []) v)) (spelt_shallow x m d (63 ∷ v) le h)
spelt_shallow dot m d v le h = h
spelt_shallow (unit c s) m d v le h = plain_shallow m d c v s ∙ h
spelt_shallow (escaped c s) m d v le h = h
spelt_shallow (bracketed u q x) m d v le h =
    subst (λ z. shallow m false d z ≡ true) (sym (ap (λ z. z ++ v) q ∙ ap (λ z. 40 ∷ z) (append_assoc u (41 ∷ []) v)))
    (and_from (ltb d m) _ (lt-ltb d m (omega arith)) (spelt_shallow x m (suc d) (41 ∷ v) (omega arith) h))

-- what is spelt at all is spelt at the depth that its brackets take
lower : {D : ℕ} {k : Kind} {t : Tree} {u : List ℕ} → Spells D k t u → (m d e : ℕ) (v : List ℕ) → d + e ≡ m → shallow m false d (u ++ v) ≡ true → Spells e k t u × (shallow m false d v ≡ true)
lower (one_way x) m d e v s h = let r = lower x m d e v s h in (one_way r.0, r.1)
lower (or_way u u' q x y) m d e v s h =
    let r = lower x m d e (124 ∷ (u' ++ v)) s (subst (λ z. shallow m false d z ≡ true) (ap (λ z. z ++ v) q ∙ append_assoc u (124 ∷ u') v) h) in
    let r' = lower y m d e v s r.1 in
    (or_way u u' q r.0 r'.0, r'.1)
lower nothing m d e v s h = (nothing, h)
lower (and_then u u' q x y) m d e v s h =
    let r = lower x m d e (u' ++ v) s (subst (λ z. shallow m false d z ≡ true) (ap (λ z. z ++ v) q ∙ append_assoc u u' v) h) in
    let r' = lower y m d e v s r.1 in
    (and_then u u' q r.0 r'.0, r'.1)
lower (once x) m d e v s h = let r = lower x m d e v s h in (once r.0, r.1)
lower (starred u q x) m d e v s h = let r = lower x m d e (42 ∷ v) s (subst (λ z. shallow m false d z ≡ true) (ap (λ z. z ++ v) q ∙ append_assoc u (42 ∷ []) v) h) in (starred u q r.0, r.1)
lower (plussed u q x) m d e v s h = let r = lower x m d e (43 ∷ v) s (subst (λ z. shallow m false d z ≡ true) (ap (λ z. z ++ v) q ∙ append_assoc u (43 ∷ []) v) h) in (plussed u q r.0, r.1)
lower (queried u q x) m d e v s h = let r = lower x m d e (63 ∷ v) s (subst (λ z. shallow m false d z ≡ true) (ap (λ z. z ++ v) q ∙ append_assoc u (63 ∷ []) v) h) in (queried u q r.0, r.1)
lower dot m d e v s h = (dot, h)
lower (unit c p) m d e v s h = (unit c p, sym (plain_shallow m d c v p) ∙ h)
lower (escaped c p) m d e v s h = (escaped c p, h)
lower (bracketed u q x) m d zero v s h =
    let a = and_parts (ltb d m) _ (subst (λ z. shallow m false d z ≡ true) (ap (λ z. z ++ v) q) h) in
    let l = ltb-true d m a.0 in
    absurd (omega arith)
lower (bracketed u q x) m d (suc e) v s h =
    let a = and_parts (ltb d m) _ (subst (λ z. shallow m false d z ≡ true) (ap (λ z. z ++ v) q ∙ ap (λ z. 40 ∷ z) (append_assoc u (41 ∷ []) v)) h) in
    let r = lower x m (suc d) e (41 ∷ v) (omega arith) a.1 in
    (bracketed u q r.0, r.1)

closing_shallow : (e : Bool) → shallow 8 false 0 (closing e) ≡ true
closing_shallow true = refl
closing_shallow false = refl

module _ (us : List ℕ) where
  formed_of : WellFormed us → formed Fresh 0 (body us) ≡ true
  formed_of w =
      let b = body_of us w.0 w.1 w.2 w.3 w.4 (begins 94 us) refl in
      ap (formed Fresh 0) b.split ∙ passes b.spelt 0 (closing w.2) (closes w.2)

  within_shallow : (w : WithinLimits us) → (shallow 8 false 0 (body us) && few (whole us)) ≡ true
  within_shallow w =
      let b = body_of us 8 w.0 w.1 w.2 w.3 (begins 94 us) refl in
      let r = told_whole us 8 w.0 w.1 w.2 w.3 in
      and_from _ _ (ap (shallow 8 false 0) b.split ∙ spelt_shallow b.spelt 8 0 (closing w.1) (omega arith) (closing_shallow w.1)) (ap few r.1 ∙ le-leb (size w.2) 60 w.4)

  shallow_within : WellFormed us → (shallow 8 false 0 (body us) && few (whole us)) ≡ true → WithinLimits us
  shallow_within w h =
      let a = and_parts _ _ h in
      let b = body_of us w.0 w.1 w.2 w.3 w.4 (begins 94 us) refl in
      let r = told_whole us w.0 w.1 w.2 w.3 w.4 in
      let x = lower b.spelt 8 0 8 (closing w.2) refl (sym (ap (shallow 8 false 0) b.split) ∙ a.0) in
      (begins 94 us, w.2, w.3, (b.text, whole_of us (begins 94 us) refl (b.text ++ closing w.2) b.split, x.0), leb-true (size w.3) 60 (sym (ap few r.1) ∙ a.1))

  abbrev cause : Bool → Bool → Option Cause
  cause f l = cond f (cond l None (Some PatternOverLimit)) (Some MalformedPattern)

  accepted_cause : WithinLimits us → None ≡ cause_of_pattern us
  accepted_cause w = sym (λ i. cause (formed_of (8, w.0, w.1, w.2, w.3) i) (within_shallow w i))

  refused_cause : (c : Cause) → Refusal us c → Some c ≡ cause_of_pattern us
  refused_cause c (inl h) =
      let f = false_from_ne_true (formed Fresh 0 (body us)) (λ t. h.1 (well_formed_passed us (begins 94 us) _ refl refl (sym t))) in
      ap Some h.0 ∙ sym (ap (λ b. cause b (shallow 8 false 0 (body us) && few (whole us))) f)
  refused_cause c (inr h) =
      let l = false_from_ne_true (shallow 8 false 0 (body us) && few (whole us)) (λ t. h.2 (shallow_within h.1 t)) in
      ap Some h.0 ∙ sym (λ i. cause (formed_of h.1 i) (l i))

  pub told_cause : (r : Result Pattern Cause) → Reads us r → cause_of r ≡ cause_of_pattern us
  told_cause (Ok p) a = accepted_cause (a.head, a.tail, a.tree, a.written, a.few)
  told_cause (Err c) h = refused_cause c h
