-- A parser that is exact for a relation, and that the combinators keep that.
use Rattle.std.proofs.Common.{◌≡◌, ℕ, Bool, true, false, cond, not, ◌&&◌, ◌||◌, eqb, ◌⊎◌, List, [], ◌∷◌, ◌++◌, sym, refl, ap, ◌∙◌, subst, inl, inr, ⊎_elim, append_assoc, append-nil, arith, eq-eqb, true-eqb}
use Rattle.std.proofs.lemmas.Bool.{and_parts, not-true, or_cases, or_right}
use Rattle.words.specs.Words.{Word}
use Rattle.words.specs.Terminals.{Kind, terminal, unreadable, mark, is}
use Rattle.words.specs.declared.terminals.Terminal.{Terminal}
use Rattle.grammar.specs.Readers.{Got, got, useless, past, Reads, return, ◌>>=◌, ◌starts◌else◌, t, next}
use Rattle.grammar.specs.Grammar.{Is}
use Rattle.grammar.specs.Exact.{Begins, Never}
use Rattle.grammar.proofs.Steps.{first, first_front, next_first, useless_got, past_got, past_useless, useless_same, past_same, on_row, on, Row, through, stopped, passed, row_of, pick, way, again_so, word_on, word_off, WordRead, is_it, not_it, word_of}

-- within the limits, or not held to them
pub data Mode : Type 0 where
  kept : Mode
  free : Mode

abbrev pub Rel : Type 0 → Type 1
Rel A = List Word → A → Type 0

-- ── relations, as the combinators build them ──
pub data One (k : Terminal) (m : Mode) : List Word → Word → Type 0 where
  one : {w : Word} → Is k w → One k m (w ∷ []) w

pub data Ret {A : Type 0} (x : A) (m : Mode) : List Word → A → Type 0 where
  ret : {y : A} → x ≡ y → Ret x m [] y

pub data Seq {A B : Type 0} (D : Mode → Rel A) (E : A → Mode → Rel B) (m : Mode) : List Word → B → Type 0 where
  seq : {us vs : List Word} {x : A} {y : B} → D m us x → E x m vs y → Seq D E m (us ++ vs) y

pub data Map {A B : Type 0} (g : A → B) (D : Mode → Rel A) (m : Mode) : List Word → B → Type 0 where
  mapped : {us : List Word} {x : A} {y : B} → D m us x → g x ≡ y → Map g D m us y

pub data Alt {A : Type 0} (D E : Mode → Rel A) (m : Mode) (ws : List Word) (x : A) : Type 0 where
  left : D m ws x → Alt D E m ws x
  right : E m ws x → Alt D E m ws x

pub data PastSeq {A : Type 0} (D : Mode → Rel A) (P : List Word → Word → Type 0) (Q : A → List Word → Word → Type 0) : List Word → Word → Type 0 where
  in_first : {f : List Word} {w : Word} → P f w → PastSeq D P Q f w
  in_second : {us vs : List Word} {x : A} {w : Word} → D kept us x → Q x vs w → PastSeq D P Q (us ++ vs) w

pub data PastAlt (P Q : List Word → Word → Type 0) (f : List Word) (w : Word) : Type 0 where
  in_left : P f w → PastAlt P Q f w
  in_right : Q f w → PastAlt P Q f w

-- ── exactness ──
-- p gives x and rest: R says x of what it took, and p would take that with any words behind the first of rest
pub record Front {A : Type 0} (p : Reads A) (R : Rel A) (ws : List Word) (x : A) (rest : List Word) : Type 0 where
  pub front : List Word
  pub cut : ws ≡ front ++ rest
  pub says : R front x
  pub again : (other : List Word) → first rest ≡ first other → p (front ++ other) ≡ got x other

pub record Inside (P : List Word → Word → Type 0) (f : List Word) : Type 0 where
  pub front : List Word
  pub w : Word
  pub back : List Word
  pub cut : f ≡ front ++ (w ∷ back)
  pub here : P front w

pub record Lost (P : List Word → Word → Type 0) (ws rest : List Word) : Type 0 where
  pub front : List Word
  pub w : Word
  pub back : List Word
  pub cut : ws ≡ front ++ rest
  pub word : rest ≡ w ∷ back
  pub here : P front w

-- p stops at rest: a sentence begins with what it took, and p would stop there with any words behind the first of rest
pub record More {A : Type 0} (p : Reads A) (R : Rel A) (ws rest : List Word) : Type 0 where
  pub front : List Word
  pub cut : ws ≡ front ++ rest
  pub begun : Begins R front
  pub again : (other : List Word) → first rest ≡ first other → p (front ++ other) ≡ useless other

-- p reads just what D derives, where F holds of what follows; P says where it passes a limit; H holds where it begins
pub record Good {A : Type 0} (p : Reads A) (D : Mode → Rel A) (P : List Word → Word → Type 0) (H F : List Word → Type 0) : Type 0 where
  pub sound : (ws rest : List Word) (x : A) → p ws ≡ got x rest → Front p (D kept) ws x rest
  pub complete : (f rest : List Word) (x : A) → D kept f x → F rest → p (f ++ rest) ≡ got x rest
  pub head : (f rest : List Word) (x : A) → D free f x → F rest → H (f ++ rest)
  pub loose : (f : List Word) (x : A) → D kept f x → D free f x
  pub fits : (f : List Word) (x : A) → D free f x → D kept f x ⊎ Inside P f
  pub lost : (ws rest : List Word) → p ws ≡ past rest → Lost P ws rest
  pub passes : (f : List Word) (w : Word) (b : List Word) → P f w → p (f ++ (w ∷ b)) ≡ past (w ∷ b)
  pub past_head : (f : List Word) (w : Word) (b : List Word) → P f w → H (f ++ (w ∷ b))
  pub past_begun : (f : List Word) (w : Word) → P f w → Begins (D free) (f ++ (w ∷ []))
  pub alive : (ws rest : List Word) → p ws ≡ useless rest → More p (D free) ws rest
  pub sample : Begins (D free) []

pub joined : (ws mid rest us vs : List Word) → ws ≡ us ++ mid → mid ≡ vs ++ rest → ws ≡ (us ++ vs) ++ rest
joined ws mid rest us vs e h = subst (λ z. ws ≡ us ++ z) h e ∙ sym (append_assoc us vs rest)

pub begins_as : {A : Type 0} {D D' : Rel A} → ((ws : List Word) (x : A) → D ws x → D' ws x) → (f : List Word) → Begins D f → Begins D' f
begins_as to f b = record { more = b.more; says = b.says; holds = to _ _ b.holds }

-- the same, by relations that say the same
module _ {A : Type 0} {p : Reads A} {D D' : Mode → Rel A} {P P' : List Word → Word → Type 0} {H F : List Word → Type 0} where
  pub same : Good p D P H F → ((m : Mode) (ws : List Word) (x : A) → D m ws x → D' m ws x) → ((m : Mode) (ws : List Word) (x : A) → D' m ws x → D m ws x) → ((f : List Word) (w : Word) → P f w → P' f w) → ((f : List Word) (w : Word) → P' f w → P f w) → Good p D' P' H F
  same g to from pto pfrom = record {
    sound = λ ws rest x e. let u = g.sound ws rest x e in record { front = u.front; cut = u.cut; says = to kept _ _ u.says; again = u.again };
    complete = λ f rest x d h. g.complete f rest x (from kept f x d) h;
    head = λ f rest x d h. g.head f rest x (from free f x d) h;
    loose = λ f x d. to free f x (g.loose f x (from kept f x d));
    fits = λ f x d. ⊎_elim (λ e. inl (to kept f x e)) (λ i. inr (record { front = i.front; w = i.w; back = i.back; cut = i.cut; here = pto _ _ i.here })) (g.fits f x (from free f x d));
    lost = λ ws rest e. let u = g.lost ws rest e in record { front = u.front; w = u.w; back = u.back; cut = u.cut; word = u.word; here = pto _ _ u.here };
    passes = λ f w b h. g.passes f w b (pfrom f w h);
    past_head = λ f w b h. g.past_head f w b (pfrom f w h);
    past_begun = λ f w h. begins_as (to free) _ (g.past_begun f w (pfrom f w h));
    alive = λ ws rest e. let u = g.alive ws rest e in record { front = u.front; cut = u.cut; begun = begins_as (to free) _ u.begun; again = u.again };
    sample = begins_as (to free) _ g.sample;
  }

-- ── one after the other ──
module _ {A B : Type 0} {p : Reads A} {f : A → Reads B} {D : Mode → Rel A} {E : A → Mode → Rel B} {P : List Word → Word → Type 0} {Q : A → List Word → Word → Type 0} {H F K : List Word → Type 0} (gp : Good p D P H F) (gf : (x : A) → Good (f x) (E x) (Q x) F K) where
  longer : (front : List Word) → Begins (D free) front → Begins (Seq D E free) front
  longer front b =
      let s = (gf b.says).sample in
      record {
        more = b.more ++ s.more;
        says = s.says;
        holds = subst (λ z. Seq D E free z s.says) (append_assoc front b.more s.more) (seq b.holds s.holds);
      }

  after : (us vs : List Word) (x : A) → D free us x → Begins (E x free) vs → Begins (Seq D E free) (us ++ vs)
  after us vs x d b = record { more = b.more; says = b.says; holds = subst (λ z. Seq D E free z b.says) (sym (append_assoc us vs b.more)) (seq d b.holds) }

  complete_row : (ws rest : List Word) (y : B) → Seq D E kept ws y → K rest → (p >>= f) (ws ++ rest) ≡ got y rest
  complete_row ws rest y (seq {us = us} {vs = vs} {x = x} d e) h =
      on p f (ap p (append_assoc us vs rest) ∙ gp.complete us (vs ++ rest) x d ((gf x).head vs rest y ((gf x).loose vs y e) h)) ((gf x).complete vs rest y e h)

  head_row : (ws rest : List Word) (y : B) → Seq D E free ws y → K rest → H (ws ++ rest)
  head_row ws rest y (seq {us = us} {vs = vs} {x = x} d e) h = subst H (sym (append_assoc us vs rest)) (gp.head us (vs ++ rest) x d ((gf x).head vs rest y e h))

  loose_row : (ws : List Word) (y : B) → Seq D E kept ws y → Seq D E free ws y
  loose_row ws y (seq {us = us} {vs = vs} {x = x} d e) = seq (gp.loose us x d) ((gf x).loose vs y e)

  fits_row : (ws : List Word) (y : B) → Seq D E free ws y → Seq D E kept ws y ⊎ Inside (PastSeq D P Q) ws
  fits_row ws y (seq {us = us} {vs = vs} {x = x} d e) =
      ⊎_elim
      (λ d'.
      ⊎_elim (λ e'. inl (seq d' e'))
      (λ i. inr (record { front = us ++ i.front; w = i.w; back = i.back; cut = joined _ _ _ us _ refl i.cut; here = in_second d' i.here })) ((gf x).fits vs y e))
      (λ i. inr (record { front = i.front; w = i.w; back = i.back ++ vs; cut = ap (λ z. z ++ vs) i.cut ∙ append_assoc i.front (i.w ∷ i.back) vs; here = in_first i.here }))
      (gp.fits us x d)

  passes_row : (g : List Word) (w : Word) (b : List Word) → PastSeq D P Q g w → (p >>= f) (g ++ (w ∷ b)) ≡ past (w ∷ b)
  passes_row g w b (in_first h) = on_row p f (past (w ∷ b)) (gp.passes g w b h)
  passes_row g w b (in_second {us = us} {vs = vs} {x = x} d q) =
      on p f (ap p (append_assoc us vs (w ∷ b)) ∙ gp.complete us (vs ++ (w ∷ b)) x d ((gf x).past_head vs w b q)) ((gf x).passes vs w b q)

  past_head_row : (g : List Word) (w : Word) (b : List Word) → PastSeq D P Q g w → H (g ++ (w ∷ b))
  past_head_row g w b (in_first h) = gp.past_head g w b h
  past_head_row g w b (in_second {us = us} {vs = vs} {x = x} d q) =
      subst H (sym (append_assoc us vs (w ∷ b))) (gp.head us (vs ++ (w ∷ b)) x (gp.loose us x d) ((gf x).past_head vs w b q))

  past_begun_row : (g : List Word) (w : Word) → PastSeq D P Q g w → Begins (Seq D E free) (g ++ (w ∷ []))
  past_begun_row g w (in_first h) = longer _ (gp.past_begun g w h)
  past_begun_row g w (in_second {us = us} {vs = vs} {x = x} d q) =
      subst (Begins (Seq D E free)) (sym (append_assoc us vs (w ∷ []))) (after us (vs ++ (w ∷ [])) x (gp.loose us x d) ((gf x).past_begun vs w q))

  glue : (us vs mid rest : List Word) (x : A) (r : List Word → Got B) → ((o : List Word) → first mid ≡ first o → p (us ++ o) ≡ got x o) → mid ≡ vs ++ rest → ((o : List Word) → first rest ≡ first o → f x (vs ++ o) ≡ r o) → (o : List Word) → first rest ≡ first o → (p >>= f) ((us ++ vs) ++ o) ≡ r o
  glue us vs mid rest x r u c v o h = on p f (ap p (append_assoc us vs o) ∙ u (vs ++ o) (ap first c ∙ first_front vs rest o h)) (v o h)

  sound_row : (ws rest : List Word) (y : B) → Row p f ws (got y rest) → Front (p >>= f) (Seq D E kept) ws y rest
  sound_row ws rest y (through {x = x} {mid = mid} i j) =
      let u = gp.sound ws mid x i in
      let v = (gf x).sound mid rest y j in
      record { front = u.front ++ v.front; cut = joined ws _ rest u.front v.front u.cut v.cut; says = seq u.says v.says; again = glue u.front v.front mid rest x (got y) u.again v.cut v.again }
  sound_row ws rest y (stopped i j) = absurd (useless_got j)
  sound_row ws rest y (passed i j) = absurd (past_got j)

  lost_row : (ws rest : List Word) → Row p f ws (past rest) → Lost (PastSeq D P Q) ws rest
  lost_row ws rest (through {x = x} {mid = mid} i j) =
      let u = gp.sound ws mid x i in
      let v = (gf x).lost mid rest j in
      record { front = u.front ++ v.front; w = v.w; back = v.back; cut = joined ws _ rest u.front v.front u.cut v.cut; word = v.word; here = in_second u.says v.here }
  lost_row ws rest (stopped i j) = absurd (past_useless (sym j))
  lost_row ws rest (passed {r = r} i j) =
      let u = gp.lost ws r i in
      record { front = u.front; w = u.w; back = u.back; cut = subst (λ z. ws ≡ u.front ++ z) (past_same j) u.cut; word = sym (past_same j) ∙ u.word; here = in_first u.here }

  alive_row : (ws rest : List Word) → Row p f ws (useless rest) → More (p >>= f) (Seq D E free) ws rest
  alive_row ws rest (through {x = x} {mid = mid} i j) =
      let u = gp.sound ws mid x i in
      let v = (gf x).alive mid rest j in
      record { front = u.front ++ v.front; cut = joined ws _ rest u.front v.front u.cut v.cut; begun = after _ _ _ (gp.loose _ _ u.says) v.begun; again = glue u.front v.front mid rest x useless u.again v.cut v.again }
  alive_row ws rest (stopped {r = r} i j) =
      let u = gp.alive ws rest (i ∙ ap (λ z. useless z) (useless_same j)) in
      record { front = u.front; cut = u.cut; begun = longer _ u.begun; again = λ o h. on_row p f (useless o) (u.again o h) }
  alive_row ws rest (passed i j) = absurd (past_useless j)

  pub row : Good (p >>= f) (Seq D E) (PastSeq D P Q) H K
  row = record {
    sound = λ ws rest y e. sound_row ws rest y (row_of p f e);
    complete = complete_row;
    head = head_row;
    loose = loose_row;
    fits = fits_row;
    lost = λ ws rest e. lost_row ws rest (row_of p f e);
    passes = passes_row;
    past_head = past_head_row;
    past_begun = past_begun_row;
    alive = λ ws rest e. alive_row ws rest (row_of p f e);
    sample = longer [] gp.sample;
  }

-- ── one or the other, by the next word ──
module _ {A : Type 0} (ks : List Terminal) {p q : Reads A} {D E : Mode → Rel A} {P Q : List Word → Word → Type 0} {G H J F : List Word → Type 0} (gp : Good p D P G F) (gq : Good q E Q H F) (yes' : (ws : List Word) → G ws → next ks ws ≡ true) (no' : (ws : List Word) → H ws → next ks ws ≡ false) (l : (ws : List Word) → G ws → J ws) (r : (ws : List Word) → H ws → J ws) where
  begins_left : (f : List Word) → Begins (D free) f → Begins (Alt D E free) f
  begins_left = begins_as (λ ws x d. left d)

  begins_right : (f : List Word) → Begins (E free) f → Begins (Alt D E free) f
  begins_right = begins_as (λ ws x d. right d)

  sound_alt : (b : Bool) (ws rest : List Word) (x : A) → next ks ws ≡ b → cond b p q ws ≡ got x rest → Front (ks starts p else q) (Alt D E kept) ws x rest
  sound_alt true ws rest x n e = let u = gp.sound ws rest x e in record { front = u.front; cut = u.cut; says = left u.says; again = λ o h. again_so ks p q true ws u.front rest o n u.cut h (u.again o h) }
  sound_alt false ws rest x n e = let u = gq.sound ws rest x e in record { front = u.front; cut = u.cut; says = right u.says; again = λ o h. again_so ks p q false ws u.front rest o n u.cut h (u.again o h) }

  complete_alt : (f rest : List Word) (x : A) → Alt D E kept f x → F rest → (ks starts p else q) (f ++ rest) ≡ got x rest
  complete_alt f rest x (left d) h = pick ks p q true _ (yes' _ (gp.head f rest x (gp.loose f x d) h)) (gp.complete f rest x d h)
  complete_alt f rest x (right d) h = pick ks p q false _ (no' _ (gq.head f rest x (gq.loose f x d) h)) (gq.complete f rest x d h)

  head_alt : (f rest : List Word) (x : A) → Alt D E free f x → F rest → J (f ++ rest)
  head_alt f rest x (left d) h = l _ (gp.head f rest x d h)
  head_alt f rest x (right d) h = r _ (gq.head f rest x d h)

  loose_alt : (f : List Word) (x : A) → Alt D E kept f x → Alt D E free f x
  loose_alt f x (left d) = left (gp.loose f x d)
  loose_alt f x (right d) = right (gq.loose f x d)

  fits_alt : (f : List Word) (x : A) → Alt D E free f x → Alt D E kept f x ⊎ Inside (PastAlt P Q) f
  fits_alt f x (left d) = ⊎_elim (λ e. inl (left e)) (λ i. inr (record { front = i.front; w = i.w; back = i.back; cut = i.cut; here = in_left i.here })) (gp.fits f x d)
  fits_alt f x (right d) = ⊎_elim (λ e. inl (right e)) (λ i. inr (record { front = i.front; w = i.w; back = i.back; cut = i.cut; here = in_right i.here })) (gq.fits f x d)

  lost_alt : (b : Bool) (ws rest : List Word) → cond b p q ws ≡ past rest → Lost (PastAlt P Q) ws rest
  lost_alt true ws rest e = let u = gp.lost ws rest e in record { front = u.front; w = u.w; back = u.back; cut = u.cut; word = u.word; here = in_left u.here }
  lost_alt false ws rest e = let u = gq.lost ws rest e in record { front = u.front; w = u.w; back = u.back; cut = u.cut; word = u.word; here = in_right u.here }

  passes_alt : (f : List Word) (w : Word) (b : List Word) → PastAlt P Q f w → (ks starts p else q) (f ++ (w ∷ b)) ≡ past (w ∷ b)
  passes_alt f w b (in_left h) = pick ks p q true _ (yes' _ (gp.past_head f w b h)) (gp.passes f w b h)
  passes_alt f w b (in_right h) = pick ks p q false _ (no' _ (gq.past_head f w b h)) (gq.passes f w b h)

  past_head_alt : (f : List Word) (w : Word) (b : List Word) → PastAlt P Q f w → J (f ++ (w ∷ b))
  past_head_alt f w b (in_left h) = l _ (gp.past_head f w b h)
  past_head_alt f w b (in_right h) = r _ (gq.past_head f w b h)

  past_begun_alt : (f : List Word) (w : Word) → PastAlt P Q f w → Begins (Alt D E free) (f ++ (w ∷ []))
  past_begun_alt f w (in_left h) = begins_left _ (gp.past_begun f w h)
  past_begun_alt f w (in_right h) = begins_right _ (gq.past_begun f w h)

  alive_alt : (b : Bool) (ws rest : List Word) → next ks ws ≡ b → cond b p q ws ≡ useless rest → More (ks starts p else q) (Alt D E free) ws rest
  alive_alt true ws rest n e = let u = gp.alive ws rest e in record { front = u.front; cut = u.cut; begun = begins_left _ u.begun; again = λ o h. again_so ks p q true ws u.front rest o n u.cut h (u.again o h) }
  alive_alt false ws rest n e = let u = gq.alive ws rest e in record { front = u.front; cut = u.cut; begun = begins_right _ u.begun; again = λ o h. again_so ks p q false ws u.front rest o n u.cut h (u.again o h) }

  pub either : Good (ks starts p else q) (Alt D E) (PastAlt P Q) J F
  either = record {
    sound = λ ws rest x e. let w = way ks p q e in sound_alt w.0 ws rest x w.1 w.2;
    complete = complete_alt;
    head = head_alt;
    loose = loose_alt;
    fits = fits_alt;
    lost = λ ws rest e. let w = way ks p q e in lost_alt w.0 ws rest w.2;
    passes = passes_alt;
    past_head = past_head_alt;
    past_begun = past_begun_alt;
    alive = λ ws rest e. let w = way ks p q e in alive_alt w.0 ws rest w.1 w.2;
    sample = begins_left [] gp.sample;
  }

-- ── the next word, as a set of terminals ──
pub record Among (ks : List Terminal) (ws : List Word) : Type 0 where
  pub told : next ks ws ≡ true

-- a word is one terminal
apart : (j k : Terminal) (o : Kind) → eqb (mark k) (mark j) ≡ false → is j o ≡ true → is k o ≡ false
apart j k (terminal u) d h = let e : mark j ≡ mark u = true-eqb _ _ (sym h) in ap (λ n. eqb (mark k) n) (sym e) ∙ d
apart j k (unreadable n) d h = refl

abbrev pub without : Terminal → List Terminal → Bool
without j [] = true
without j (k ∷ ks) = not (eqb (mark k) (mark j)) && without j ks

abbrev pub disjoint : List Terminal → List Terminal → Bool
disjoint ks [] = true
disjoint ks (j ∷ js) = without j ks && disjoint ks js

none_of : (j : Terminal) (ks : List Terminal) (w : Word) (ws : List Word) → without j ks ≡ true → is j w.kind ≡ true → next ks (w ∷ ws) ≡ false
none_of j [] w ws d h = refl
none_of j (k ∷ ks) w ws d h =
    let (e, r) = and_parts _ _ d in
    ap (λ b. b || next ks (w ∷ ws)) (apart j k w.kind (not-true _ e) h) ∙ none_of j ks w ws r h

pub not_both : {b : Bool} → b ≡ true → b ≡ false → ⊥
not_both e h = let z : ◌≡◌ {A = Bool} true false = sym e ∙ h in let n : ◌≡◌ {A = ℕ} 0 1 = cc in omega arith

pub nothing_next : (ks : List Terminal) → next ks [] ≡ false
nothing_next [] = refl
nothing_next (k ∷ ks) = refl

pub no_others : (ks js : List Terminal) (ws : List Word) → disjoint ks js ≡ true → next js ws ≡ true → next ks ws ≡ false
no_others ks [] ws d h = absurd (not_both h refl)
no_others ks (j ∷ js) [] d h = nothing_next ks
no_others ks (j ∷ js) (w ∷ ws) d h =
    let (e, r) = and_parts _ _ d in
    ⊎_elim (λ i. none_of j ks w ws e i) (λ n. no_others ks js (w ∷ ws) r n) (or_cases _ _ h)

pub into_left : (ks js : List Terminal) (ws : List Word) → next ks ws ≡ true → next (ks ++ js) ws ≡ true
into_left [] js ws h = absurd (not_both h refl)
into_left (k ∷ ks) js [] h = h
into_left (k ∷ ks) js (w ∷ ws) h = ⊎_elim (λ i. ap (λ b. b || next (ks ++ js) (w ∷ ws)) i) (λ n. or_right _ _ (into_left ks js (w ∷ ws) n)) (or_cases _ _ h)

pub into_right : (ks js : List Terminal) (ws : List Word) → next js ws ≡ true → next (ks ++ js) ws ≡ true
into_right [] js ws h = h
into_right (k ∷ ks) js [] h = absurd (not_both h (nothing_next js))
into_right (k ∷ ks) js (w ∷ ws) h = or_right _ _ (into_right ks js (w ∷ ws) h)

pub any : Terminal → Word
any k = record { kind = terminal k; at = 0; text = [] }

pub any_is : (k : Terminal) → Is k (any k)
unfolding any
any_is k = record { told = eq-eqb (mark k) (mark k) refl }

-- ── one word, and none ──
module _ (k : Terminal) where
  word_complete : (f rest : List Word) (w : Word) → One k kept f w → t k (f ++ rest) ≡ got w rest
  word_complete f rest w (one i) = word_on k w rest i

  word_head : (f rest : List Word) (w : Word) → One k free f w → Among (k ∷ []) (f ++ rest)
  word_head f rest w (one i) = record { told = ap (λ b. b || false) i.told }

  word_any : (m n : Mode) (f : List Word) (w : Word) → One k m f w → One k n f w
  word_any m n f w (one i) = one i

  a_word : Begins (One k free) []
  a_word = record { more = any k ∷ []; says = any k; holds = one (any_is k) }

  word_sound : (ws rest : List Word) (w : Word) → WordRead k ws (got w rest) → Front (t k) (One k kept) ws w rest
  word_sound ws rest w (is_it {w = v} {r = r} c i j) =
      let same : v ≡ w = cc in
      let tail : r ≡ rest = cc in
      record { front = w ∷ []; cut = c ∙ ap (λ z. z ∷ r) same ∙ ap (λ z. w ∷ z) tail; says = subst (λ z. One k kept (z ∷ []) z) same (one i); again = λ o h. word_on k w o (subst (Is k) same i) }
  word_sound ws rest w (not_it n j) = absurd (useless_got j)

  word_alive : (ws rest : List Word) → WordRead k ws (useless rest) → More (t k) (One k free) ws rest
  word_alive ws rest (is_it c i j) = absurd (useless_got (sym j))
  word_alive ws rest (not_it n j) =
      record { front = []; cut = useless_same j; begun = a_word; again = λ o h. word_off k o (next_first (k ∷ []) o ws (sym (ap first (useless_same j) ∙ h)) ∙ n) }

  word_lost : (ws rest : List Word) → WordRead k ws (past rest) → ⊥
  word_lost ws rest (is_it c i j) = past_got (sym j)
  word_lost ws rest (not_it n j) = past_useless (sym j)

  pub word : {F : List Word → Type 0} → Good (t k) (One k) Never (Among (k ∷ [])) F
  word = record {
    sound = λ ws rest w e. word_sound ws rest w (word_of k ws e);
    complete = λ f rest w d h. word_complete f rest w d;
    head = λ f rest w d h. word_head f rest w d;
    loose = word_any kept free;
    fits = λ f w d. inl (word_any free kept f w d);
    lost = λ ws rest e. absurd (word_lost ws rest (word_of k ws e));
    passes = λ f w b h. absurd h.no_such;
    past_head = λ f w b h. absurd h.no_such;
    past_begun = λ f w h. absurd h.no_such;
    alive = λ ws rest e. word_alive ws rest (word_of k ws e);
    sample = a_word;
  }

module _ {A : Type 0} (x : A) where
  ret_complete : (f rest : List Word) (y : A) → Ret x kept f y → return x (f ++ rest) ≡ got y rest
  ret_complete f rest y (ret v) = ap (λ z. got z rest) v

  ret_head : (F : List Word → Type 0) (f rest : List Word) (y : A) → Ret x free f y → F rest → F (f ++ rest)
  ret_head F f rest y (ret v) h = h

  ret_any : (m n : Mode) (f : List Word) (y : A) → Ret x m f y → Ret x n f y
  ret_any m n f y (ret v) = ret v

  pub returned : {F : List Word → Type 0} → Good (return x) (Ret x) Never F F
  returned {F} = record {
    sound = λ ws rest y e. let v : x ≡ y = cc in let s : ws ≡ rest = cc in record { front = []; cut = s; says = ret v; again = λ o h. ap (λ z. got z o) v };
    complete = λ f rest y d h. ret_complete f rest y d;
    head = ret_head F;
    loose = ret_any kept free;
    fits = λ f y d. inl (ret_any free kept f y d);
    lost = λ ws rest e. let z : ◌≡◌ {A = ℕ} 0 1 = cc in absurd (omega arith);
    passes = λ f w b h. absurd h.no_such;
    past_head = λ f w b h. absurd h.no_such;
    past_begun = λ f w h. absurd h.no_such;
    alive = λ ws rest e. let z : ◌≡◌ {A = ℕ} 0 1 = cc in absurd (omega arith);
    sample = record { more = []; says = x; holds = ret refl };
  }

-- what p gives, put into another value
module _ {A B : Type 0} {p : Reads A} {D : Mode → Rel A} {P : List Word → Word → Type 0} {H F : List Word → Type 0} (g : A → B) (gp : Good p D P H F) where
  to_map : (m : Mode) (ws : List Word) (y : B) → Seq D (λ x. Ret (g x)) m ws y → Map g D m ws y
  to_map m ws y (seq {us = us} d (ret v)) = subst (λ z. Map g D m z y) (sym (append-nil us)) (mapped d v)

  from_map : (m : Mode) (ws : List Word) (y : B) → Map g D m ws y → Seq D (λ x. Ret (g x)) m ws y
  from_map m ws y (mapped {us = us} d v) = subst (λ z. Seq D (λ x. Ret (g x)) m z y) (append-nil us) (seq d (ret v))

  only_first : (f : List Word) (w : Word) → PastSeq D P (λ x. Never) f w → P f w
  only_first f w (in_first h) = h
  only_first f w (in_second d q) = absurd q.no_such

  pub put : Good (p >>= (λ x. return (g x))) (Map g D) P H F
  put = same (row gp (λ x. returned (g x))) to_map from_map only_first (λ f w h. in_first h)

-- ── where no limit stands ──
never_seq : {A : Type 0} {D : Mode → Rel A} (f : List Word) (w : Word) → PastSeq D Never (λ x. Never) f w → Never f w
never_seq f w (in_first h) = h
never_seq f w (in_second d q) = absurd q.no_such

never_alt : (f : List Word) (w : Word) → PastAlt Never Never f w → Never f w
never_alt f w (in_left h) = h
never_alt f w (in_right h) = h

pub row0 : {A B : Type 0} {p : Reads A} {f : A → Reads B} {D : Mode → Rel A} {E : A → Mode → Rel B} {H F K : List Word → Type 0} → Good p D Never H F → ((x : A) → Good (f x) (E x) Never F K) → Good (p >>= f) (Seq D E) Never H K
row0 gp gf = same (row gp gf) (λ m ws x d. d) (λ m ws x d. d) never_seq (λ f w h. in_first h)

-- one or the other, told by sets of terminals
pub alt : {A : Type 0} {ks js : List Terminal} {p q : Reads A} {D E : Mode → Rel A} {P Q : List Word → Word → Type 0} {F : List Word → Type 0} → Good p D P (Among ks) F → Good q E Q (Among js) F → disjoint ks js ≡ true → Good (ks starts p else q) (Alt D E) (PastAlt P Q) (Among (ks ++ js)) F
alt {ks = ks} {js = js} gp gq d = either ks gp gq (λ ws h. h.told) (λ ws h. no_others ks js ws d h.told) (λ ws h. record { told = into_left ks js ws h.told }) (λ ws h. record { told = into_right ks js ws h.told })

pub alt0 : {A : Type 0} {ks js : List Terminal} {p q : Reads A} {D E : Mode → Rel A} {F : List Word → Type 0} → Good p D Never (Among ks) F → Good q E Never (Among js) F → disjoint ks js ≡ true → Good (ks starts p else q) (Alt D E) Never (Among (ks ++ js)) F
alt0 gp gq d = same (alt gp gq d) (λ m ws x d. d) (λ m ws x d. d) never_alt (λ f w h. in_left h)

-- a relation that knows no limits
pub is_as : {A : Type 0} {p : Reads A} {D : Mode → Rel A} {R : Rel A} {H F : List Word → Type 0} → Good p D Never H F → ((m : Mode) (ws : List Word) (x : A) → D m ws x → R ws x) → ((m : Mode) (ws : List Word) (x : A) → R ws x → D m ws x) → Good p (λ _. R) Never H F
is_as g to from = same g to from (λ f w h. h) (λ f w h. h)
