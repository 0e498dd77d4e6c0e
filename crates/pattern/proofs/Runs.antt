-- A sequence and a choice as they are read, one item and one way after another.
use Rattle.std.proofs.Common.{◌≡◌, ℕ, ◌+◌, ◌<◌, ◌≤◌, Bool, true, false, List, [], ◌∷◌, ◌++◌, length, drop, None, Option, sym, refl, ap, ◌∙◌, subst, true≢false, append_assoc, append-nil, arith}
use Rattle.std.proofs.lemmas.List.{length-drop, length-append, append_cancel_left}
use Rattle.automaton.specs.Language.{Tree, either, followed}
use Rattle.automaton.specs.Places.{size}
use Rattle.pattern.specs.Signs.{begins, stops}
use Rattle.pattern.specs.Grammar.{Kind, choice, sequence, item, Spells}
use Rattle.pattern.specs.Parts.{Piece, piece, Table, Either, Both, Moved, Grown}
use Rattle.pattern.specs.Reading.{Next, Got, Only, Read, Refused, Outcome}
use Rattle.units.specs.Units.{units}
use Rattle.pattern.specs.declared.reader.Part.{Part}
use Rattle.pattern.specs.declared.reader.Reader.{Reader}
use Rattle.pattern.proofs.Onward.{Items, halt, step, Ways, last, way, items_of, ways_of, items_size, ways_size, item_some, items_loose, items_stop, ways_stop, ways_end}
use Rattle.pattern.proofs.Build.{behind, got_empty, got_way, got_either, got_both}

abbrev pub Inside : ℕ → ℕ → List ℕ → Type 0
Inside at to us = (at ≤ to) × (to ≤ length us)

-- a sequence so far: any sequence that stands here goes on from it by items
pub record Sequenced (us : List ℕ) (d at n : ℕ) (before after : Table) (p : Piece) : Type 0 where
  pub got : Got sequence us d at n before after p
  pub onto : (D : ℕ) (t : Tree) (u v : List ℕ) → Spells D sequence t u → drop at us ≡ u ++ v → stops v ≡ true → (w : List ℕ) × Items D got.tree t w × (u ≡ got.text ++ w) × (drop p.at us ≡ w ++ v)
  pub inside : Inside at p.at us

-- a choice so far
pub record Chosen (us : List ℕ) (d at n : ℕ) (before after : Table) (p : Piece) : Type 0 where
  pub got : Got choice us d at n before after p
  pub onto : (D : ℕ) (t : Tree) (u v : List ℕ) → Spells D choice t u → drop at us ≡ u ++ v → Next choice v → (w : List ℕ) × Ways D got.tree t w × (u ≡ got.text ++ w) × (drop p.at us ≡ w ++ v)
  pub inside : Inside at p.at us

pub seq_begin : (us : List ℕ) (d at n : ℕ) (t : Table) (p : Piece) → at ≤ length us → n ≤ 60 → p.at ≡ at → p.next ≡ n → p.first ≡ 0 → p.last ≡ 0 → p.null ≡ true → Sequenced us d at n t t p
seq_begin us d at n t p le few a b f l z = record {
  got = got_empty us d at n t p few a b f l z;
  onto = λ D t' u v x e h. (u, items_of x, refl, ap (λ i. drop i us) a ∙ e);
  inside = (omega arith, omega arith);
}

module _ (us : List ℕ) (at to : ℕ) (bt : Tree) (bu : List ℕ) (go : stops (drop at us) ≡ false) (only : Only item us at bt bu) (split : drop at us ≡ bu ++ drop to us) where
  step_on : {D : ℕ} {a t : Tree} {w : List ℕ} → Items D a t w → (v : List ℕ) → drop at us ≡ w ++ v → stops v ≡ true → (w' : List ℕ) × Items D (followed a bt) t w' × (w ≡ bu ++ w') × (drop to us ≡ w' ++ v)
  step_on halt v e h = absurd (true≢false (sym h ∙ sym (ap stops e) ∙ go))
  step_on {D} {a} {t} (step u v' q x r) v e h =
      let e' = e ∙ ap (λ z. z ++ v) q ∙ append_assoc u v' v in
      let o = only D _ u (v' ++ v) x e' (items_loose r v h) in
      (v', subst (λ z. Items D (followed a z) t v') o.0 r, q ∙ ap (λ z. z ++ v') o.1, append_cancel_left bu (drop to us) (v' ++ v) (sym split ∙ e' ∙ ap (λ z. z ++ (v' ++ v)) o.1))

-- a text that is not empty has been passed
pub passed : (us u : List ℕ) (i j : ℕ) → i ≤ length us → j ≤ length us → drop i us ≡ u ++ drop j us → j ≡ i + length u
passed us u i j le lf e =
    let l = sym (length-drop i us) ∙ ap length e ∙ length-append u (drop j us) in
    let k = length-drop j us in
    omega arith

module _ {us : List ℕ} {d at n : ℕ} {f g : Table} {a : Piece} (x : Sequenced us d at n f g a) where
  pub seq_step : {k l : Table} {b r : Piece} → stops (drop a.at us) ≡ false → Read item us d a.at a.next g k b → l.atoms ≡ k.atoms → Grown k.follow l.follow ((a.last, b.first) ∷ []) → Both a b r → Sequenced us d at n f l r
  seq_step {k} {l} {b} {r} go y same grow j = record {
    got = got_both x.got y.got same grow j;
    onto = λ D t u v s e h.
        let o = x.onto D t u v s e h in
        let i = step_on us a.at b.at y.got.tree y.got.text go y.only y.got.split o.1 v o.3 h in
        (i.0, i.1, o.2 ∙ ap (λ z. x.got.text ++ z) i.2 ∙ sym (append_assoc x.got.text y.got.text i.0), ap (λ z. drop z us) j.stays ∙ i.3);
    inside = (omega (arith, x.inside, y.inside, j.stays), omega (arith, y.inside, j.stays));
  }

  -- an item takes at least one unit
  pub seq_on : {k : Table} {b r : Piece} → Read item us d a.at a.next g k b → Both a b r → (a.at < r.at) × (r.at ≤ length us)
  seq_on {k} {b} {r} y j =
      let p = passed us y.got.text a.at b.at x.inside.1 y.inside.1 y.got.split in
      let s = item_some y.got.spelt in
      (omega (arith, j.stays), omega (arith, y.inside, j.stays))

  pub seq_read : stops (drop a.at us) ≡ true → Read sequence us d at n f g a
  seq_read st = record {
    got = x.got;
    only = λ D t u v s e h.
        let o = x.onto D t u v s e h in
        let i = items_stop o.1 v (sym (ap stops o.3) ∙ st) in
        (i.0, o.2 ∙ ap (λ z. x.got.text ++ z) i.1 ∙ append-nil x.got.text);
    inside = x.inside;
  }

  no_item : {D : ℕ} {t : Tree} {w : List ℕ} → stops (drop a.at us) ≡ false → Refused item us D a.at a.next → Items D x.got.tree t w → (v : List ℕ) → drop a.at us ≡ w ++ v → stops v ≡ true → n + size t ≤ 60 → ⊥
  no_item go ref halt v e h few = true≢false (sym h ∙ sym (ap stops e) ∙ go)
  no_item go ref (step u v' q y r) v e h few =
      let s = items_size r in
      ref _ u (v' ++ v) y (e ∙ ap (λ z. z ++ v) q ∙ append_assoc u v' v) (items_loose r v h) (omega (arith, x.got.counts))

  pub seq_refused : stops (drop a.at us) ≡ false → Refused item us d a.at a.next → Refused sequence us d at n
  seq_refused go ref t u v s e h few = let o = x.onto d t u v s e h in no_item go ref o.1 v o.3 h few

pub choice_begin : {us : List ℕ} {d at n : ℕ} {f g : Table} {a : Piece} → Read sequence us d at n f g a → Chosen us d at n f g a
choice_begin {us} {d} {at} {n} {f} {g} {a} x = record {
  got = got_way x.got;
  onto = λ D t u v s e h.
      let w = ways_of s in
      let e' = e ∙ ap (λ z. z ++ v) w.whole ∙ append_assoc w.front w.rest v in
      let o = x.only D w.tree w.front (w.rest ++ v) w.spelt e' (ways_stop w.ways v h.0) in
      (w.rest, subst (λ z. Ways D z t w.rest) o.0 w.ways, w.whole ∙ ap (λ z. z ++ w.rest) o.1, append_cancel_left x.got.text (drop a.at us) (w.rest ++ v) (sym x.got.split ∙ e' ∙ ap (λ z. z ++ (w.rest ++ v)) o.1));
  inside = x.inside;
}

pub choice_none : (us : List ℕ) (d at n : ℕ) → Refused sequence us d at n → Refused choice us d at n
choice_none us d at n ref t u v s e h few =
    let w = ways_of s in
    let z = ways_size w.ways in
    ref w.tree w.front (w.rest ++ v) w.spelt (e ∙ ap (λ z. z ++ v) w.whole ∙ append_assoc w.front w.rest v) (ways_stop w.ways v h.0) (omega arith)

module _ (us : List ℕ) (at to : ℕ) (bt : Tree) (bu : List ℕ) (bar : begins 124 (drop at us) ≡ true) (only : Only sequence us (at + 1) bt bu) (split : drop (at + 1) us ≡ bu ++ drop to us) where
  way_on : {D : ℕ} {a t : Tree} {w : List ℕ} → Ways D a t w → (v : List ℕ) → drop at us ≡ w ++ v → Next choice v → (w' : List ℕ) × Ways D (either a bt) t w' × (w ≡ 124 ∷ (bu ++ w')) × (drop to us ≡ w' ++ v)
  way_on last v e h = absurd (true≢false (sym bar ∙ ap (begins 124) e ∙ h.1))
  way_on {D} {a} {t} (way u v' q x r) v e h =
      let e' = behind us at 124 _ (e ∙ ap (λ z. z ++ v) q) ∙ append_assoc u v' v in
      let o = only D _ u (v' ++ v) x e' (ways_stop r v h.0) in
      (v', subst (λ z. Ways D (either a z) t v') o.0 r, q ∙ ap (λ z. 124 ∷ (z ++ v')) o.1, append_cancel_left bu (drop to us) (v' ++ v) (sym split ∙ e' ∙ ap (λ z. z ++ (v' ++ v)) o.1))

module _ {us : List ℕ} {d at n : ℕ} {f g : Table} {a : Piece} (x : Chosen us d at n f g a) where
  pub choice_step : {k : Table} {b r : Piece} → begins 124 (drop a.at us) ≡ true → Read sequence us d (a.at + 1) a.next g k b → Either a b r → Chosen us d at n f k r
  choice_step {k} {b} {r} bar y j = record {
    got = got_either x.got bar y.got j;
    onto = λ D t u v s e h.
        let o = x.onto D t u v s e h in
        let i = way_on us a.at b.at y.got.tree y.got.text bar y.only y.got.split o.1 v o.3 h in
        (i.0, i.1, o.2 ∙ ap (λ z. x.got.text ++ z) i.2 ∙ sym (append_assoc x.got.text (124 ∷ y.got.text) i.0), ap (λ z. drop z us) j.stays ∙ i.3);
    inside = (omega (arith, x.inside, y.inside, j.stays), omega (arith, y.inside, j.stays));
  }

  pub choice_read : begins 124 (drop a.at us) ≡ false → Read choice us d at n f g a
  choice_read st = record {
    got = x.got;
    only = λ D t u v s e h.
        let o = x.onto D t u v s e h in
        let i = ways_end o.1 v (sym (ap (begins 124) o.3) ∙ st) in
        (i.0, o.2 ∙ ap (λ z. x.got.text ++ z) i.1 ∙ append-nil x.got.text);
    inside = x.inside;
  }

  no_way : {D : ℕ} {t : Tree} {w : List ℕ} → begins 124 (drop a.at us) ≡ true → Refused sequence us D (a.at + 1) a.next → Ways D x.got.tree t w → (v : List ℕ) → drop a.at us ≡ w ++ v → Next choice v → n + size t ≤ 60 → ⊥
  no_way bar ref last v e h few = true≢false (sym bar ∙ ap (begins 124) e ∙ h.1)
  no_way bar ref (way u v' q y r) v e h few =
      let s = ways_size r in
      ref _ u (v' ++ v) y (behind us a.at 124 _ (e ∙ ap (λ z. z ++ v) q) ∙ append_assoc u v' v) (ways_stop r v h.0) (omega (arith, x.got.counts))

  pub choice_refused : begins 124 (drop a.at us) ≡ true → Refused sequence us d (a.at + 1) a.next → Refused choice us d at n
  choice_refused bar ref t u v s e h few = let o = x.onto d t u v s e h in no_way bar ref o.1 v o.3 h few

pub refused_is : (kind : Kind) (d : ℕ) (before after : Reader) (r : Option Part) → r ≡ None → Refused kind (units before.pattern.now) d before.at before.count → Outcome kind d before after r
refused_is kind d before after r e h = subst (Outcome kind d before after) (sym e) h

-- the pattern is the same as when the reading began
module _ {s t : List ℕ} (same : t ≡ s) where
  pub here : (c i : ℕ) {b : Bool} → b ≡ begins c (drop i (units t)) → begins c (drop i (units s)) ≡ b
  here c i h = sym (h ∙ ap (λ z. begins c (drop i (units z))) same)

  pub halted : (i : ℕ) {b : Bool} → b ≡ stops (drop i (units t)) → stops (drop i (units s)) ≡ b
  halted i h = sym (h ∙ ap (λ z. stops (drop i (units z))) same)

  pub read_on : {kind : Kind} {d at n : ℕ} {f g : Table} {p : Piece} → Read kind (units t) d at n f g p → Read kind (units s) d at n f g p
  read_on {kind} {d} {at} {n} {f} {g} {p} x = subst (λ z. Read kind (units z) d at n f g p) same x

  pub refused_on : {kind : Kind} {d : ℕ} (at n : ℕ) → Refused kind (units t) d at n → Refused kind (units s) d at n
  refused_on {kind} {d} at n x = subst (λ z. Refused kind (units z) d at n) same x

abbrev pub moved : (at next : ℕ) (a : Part) (null : Bool) → Moved (piece at next a) null (piece (at + 1) next (record { first = a.first; last = a.last; null = null }))
moved at next a null = record { stays = refl; counts = refl; begins = refl; ends = refl; nulls = refl }
