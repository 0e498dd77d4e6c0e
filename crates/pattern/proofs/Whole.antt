-- A whole pattern with its anchors.
use Rattle.std.proofs.Common.{◌≡◌, ℕ, ◌<◌, ◌≤◌, Bool, true, false, cond, eqb, ltb, List, [], ◌∷◌, ◌++◌, length, get_or, take, drop, Some, None, Err, Option, Result, sym, refl, ap, ◌∙◌, subst, inl, inr, true≢false, zero-add, arith}
use mathlib.Core.Bool.{false≢true}
use Rattle.std.proofs.lemmas.List.{length-drop, append_cancel_left}
use Rattle.std.proofs.lemmas.Bool.{eqb-true, cases_Bool, lt-ltb, le-ltb}
use Rattle.std.specs.Option.{ok_or}
use Rattle.faults.specs.declared.Cause.{Cause}
use Rattle.faults.specs.declared.Cause.TheVariants.{PatternOverLimit}
use Rattle.automaton.specs.Language.{Tree}
use Rattle.automaton.specs.Places.{Has, size, links, Linked}
use Rattle.automaton.proofs.Holds.{has_none}
use Rattle.pattern.specs.Signs.{begins}
use Rattle.pattern.specs.Grammar.{choice, Spells, opening, closing, Written}
use Rattle.pattern.specs.Formed.{formed}
use Rattle.pattern.specs.Parts.{Piece, piece, Table, table}
use Rattle.pattern.specs.Reading.{Next, Read, Refused}
use Rattle.pattern.specs.Judged.{WellFormed, WithinLimits, Accepted}
use Rattle.pattern.specs.declared.reader.Part.{Part}
use Rattle.pattern.specs.declared.reader.Reader.{Reader}
use Rattle.pattern.specs.declared.scan.State.TheVariants.{Fresh}
use Rattle.pattern.proofs.Build.{stood}
use Rattle.pattern.proofs.Formed.{passes, means}

-- what is well formed without an opening anchor does not begin with one
no_head : (d : ℕ) (us : List ℕ) → formed Fresh d us ≡ true → begins 94 us ≡ false
no_head d [] h = refl
no_head d (u ∷ us) h =
    elim (cases_Bool (eqb u 94)) [
      | inl e ↦ absurd (false≢true (ap (λ z. formed Fresh d (z ∷ us)) (sym (eqb-true u 94 e)) ∙ h))
      | inr n ↦ n
    ]

pub closes : (e : Bool) → formed Fresh 0 (closing e) ≡ true
closes true = refl
closes false = refl

closing_next : (e : Bool) → Next choice (closing e)
closing_next true = (refl, refl)
closing_next false = (refl, refl)

same_closing : (e f : Bool) → closing e ≡ closing f → e ≡ f
same_closing true true q = refl
same_closing true false q = let z : ◌≡◌ {A = ℕ} 0 1 = cc in absurd (omega arith)
same_closing false true q = let z : ◌≡◌ {A = ℕ} 0 1 = cc in absurd (omega arith)
same_closing false false q = refl

tail_told : (us : List ℕ) (at : ℕ) (e : Bool) → at ≤ length us → drop at us ≡ closing e → ltb at (length us) ≡ e
tail_told us at true le q = let l = sym (length-drop at us) ∙ ap length q in lt-ltb at (length us) (omega arith)
tail_told us at false le q = let l = sym (length-drop at us) ∙ ap length q in le-ltb at (length us) (omega arith)

-- a choice that was refused
pub over_limit_is : (o : Option Part) (f : Cause) → ◌≡◌ {A = Result Part Cause} (Err f) (ok_or o PatternOverLimit) → o ≡ None → f ≡ PatternOverLimit
over_limit_is None f e n = cc
over_limit_is (Some p) f e n = let z : ◌≡◌ {A = ℕ} 0 1 = cc in absurd (omega arith)

-- what stands between the anchors
pub record Body (d : ℕ) (head : Bool) (start : ℕ) (h e : Bool) (t : Tree) (us : List ℕ) : Type 0 where
  pub opened : h ≡ head
  pub text : List ℕ
  pub split : drop start us ≡ text ++ closing e
  pub spelt : Spells d choice t text

module _ (us : List ℕ) where
  abbrev pub from : Bool → ℕ
  from head = cond head 1 0

  pub body_of : (d : ℕ) (h e : Bool) (t : Tree) → Written d h e t us → (head : Bool) → head ≡ begins 94 us → Body d head (from head) h e t us
  body_of d true e t w true is = record { opened = refl; text = w.0; split = ap (drop 1) w.1; spelt = w.2 }
  body_of d true e t w false is = absurd (false≢true (is ∙ ap (begins 94) w.1))
  body_of d false e t w true is =
      let f = passes w.2 0 (closing e) (closes e) in
      absurd (true≢false (is ∙ ap (begins 94) w.1 ∙ no_head 0 (w.0 ++ closing e) f))
  body_of d false e t w false is = record { opened = refl; text = w.0; split = w.1; spelt = w.2 }

  -- the whole from what stands behind the opening anchor
  pub whole_of : (head : Bool) → head ≡ begins 94 us → (s : List ℕ) → drop (from head) us ≡ s → us ≡ opening head ++ s
  whole_of true is s e = stood us 0 94 (sym is) ∙ ap (λ z. 94 ∷ z) e
  whole_of false is s e = e

  module _ (head : Bool) (rest : List ℕ) (is : head ≡ begins 94 us) (st : rest ≡ drop (from head) us) where
    body : (d : ℕ) (h e : Bool) (t : Tree) → Written d h e t us → Body d head (from head) h e t us
    body d h e t w = body_of d h e t w head is

    pub malformed : false ≡ formed Fresh 0 rest → WellFormed us → ⊥
    malformed fails w =
        let b = body w.0 w.1 w.2 w.3 w.4 in
        false≢true (fails ∙ ap (formed Fresh 0) (st ∙ b.split) ∙ passes b.spelt 0 (closing w.2) (closes w.2))

    written : (d : ℕ) (e : Bool) (t : Tree) (u : List ℕ) → rest ≡ u ++ closing e → Spells d choice t u → Written d head e t us
    written d e t u q x = (u, whole_of head is (u ++ closing e) (sym st ∙ q), x)

    pub well_formed_passed : true ≡ formed Fresh 0 rest → WellFormed us
    well_formed_passed passed =
        let r = means rest Fresh 0 (sym passed) in
        let c = r.3 in
        (c.0, head, r.1, c.1, written c.0 r.1 c.1 r.0 r.2 c.2)

    pub over : Refused choice rest 8 0 0 → WithinLimits us → ⊥
    over ref w =
        let b = body 8 w.0 w.1 w.2 w.3 in
        ref w.2 b.text (closing w.1) b.spelt (st ∙ b.split) (closing_next w.1) (omega (arith, w.4))

    module _ (blank : Table) (r : Reader) (q : Part) (zeros : (k : ℕ) → k < 60 → get_or blank.follow k 0 ≡ 0) (x : Read choice rest 8 0 0 blank (table r.places) (piece r.at r.count q)) where
      abbrev p : Piece
      p = piece r.at r.count q

      abbrev t : Table
      t = table r.places

      -- behind the choice only the closing anchor may be left
      left : (d : ℕ) (h e : Bool) (r : Tree) → Written d h e r us → (h ≡ head) × (drop p.at rest ≡ closing e) × (r ≡ x.got.tree)
      left d h e r w =
          let b = body d h e r w in
          let o = x.only d r b.text (closing e) b.spelt (st ∙ b.split) (closing_next e) in
          (b.opened, append_cancel_left x.got.text (drop p.at rest) (closing e) (sym x.got.split ∙ (st ∙ b.split) ∙ ap (λ z. z ++ closing e) o.1), o.0)

      leads : (q r : ℕ) → q < 60 → (Has (get_or t.follow q 0) r → Linked (links x.got.tree 0) q r) × (Linked (links x.got.tree 0) q r → Has (get_or t.follow q 0) r)
      leads q r lt =
          let g = x.got.leads q r lt in
          (λ h. elim (g.0 h) [ inl i ↦ absurd (has_none r (subst (λ z. Has z r) (zeros q lt) i)) | inr i ↦ i ], λ h. g.1 (inr h))

      pub accepted : (n : ℕ) → n ≡ length rest → true ≡ formed Fresh 0 rest
          → Accepted us (record { automaton = record { head = head; tail = ltb r.at n; nullable = q.null; firsts = q.first; lasts = q.last; count = r.count; places = r.places } })
      accepted n long passed =
          let w = well_formed_passed passed in
          let e = w.2 in
          let l = left w.0 w.1 e w.3 w.4 in
          let count = x.got.counts ∙ zero-add (size x.got.tree) in
          record {
            head = head;
            tail = e;
            tree = x.got.tree;
            written = written 8 e x.got.tree x.got.text (x.got.split ∙ ap (λ z. x.got.text ++ z) l.1) x.got.spelt;
            few = subst (λ z. z ≤ 60) count x.got.few;
            only = λ d h f r v. let m = left d h f r v in (m.0, same_closing f e (sym m.1 ∙ l.1), m.2);
            stands = record {
              heads = refl;
              tails = ap (ltb p.at) long ∙ tail_told rest p.at e x.inside.1 l.1;
              nulls = x.got.nulls;
              begins = x.got.begins;
              ends = x.got.ends;
              counts = count;
              few = subst (λ z. z ≤ 60) count x.got.few;
              takes = ap (λ z. take z t.atoms) (sym count) ∙ x.got.takes;
              leads = leads;
            };
          }
