-- The combinators of the parser, inverted.
use Rattle.std.proofs.Common.{◌≡◌, ℕ, Bool, true, false, cond, ◌||◌, List, [], ◌∷◌, ◌++◌, Some, None, Option, sym, refl, ap, ◌∙◌, arith}
use Rattle.words.specs.Words.{Word}
use Rattle.words.specs.Terminals.{is}
use Rattle.words.specs.declared.terminals.Terminal.{Terminal}
use Rattle.grammar.specs.Readers.{Got, got, useless, past, Reads, ◌>>=◌, ◌starts◌else◌, t, next}
use Rattle.grammar.specs.Grammar.{Is}

-- ── the first word ──
abbrev pub first : List Word → Option Word
first [] = None
first (w ∷ ws) = Some w

pub first_front : (f u v : List Word) → first u ≡ first v → first (f ++ u) ≡ first (f ++ v)
first_front [] u v h = h
first_front (w ∷ f) u v h = refl

pub next_first : (ks : List Terminal) (u v : List Word) → first u ≡ first v → next ks u ≡ next ks v
next_first [] u v h = refl
next_first (k ∷ ks) [] [] h = refl
next_first (k ∷ ks) [] (w ∷ v) h = let z : ◌≡◌ {A = ℕ} 0 1 = cc in absurd (omega arith)
next_first (k ∷ ks) (w ∷ u) [] h = let z : ◌≡◌ {A = ℕ} 0 1 = cc in absurd (omega arith)
next_first (k ∷ ks) (w ∷ u) (x ∷ v) h =
    let same : w ≡ x = cc in
    ap (λ y. is k y.kind || next ks (w ∷ u)) same ∙ ap (λ z. is k x.kind || z) (next_first ks (w ∷ u) (x ∷ v) h)

-- ── the outcomes differ ──
pub useless_got : {A : Type 0} {r s : List Word} {x : A} → ◌≡◌ {A = Got A} (useless r) (got x s) → ⊥
useless_got e = let z : ◌≡◌ {A = ℕ} 0 1 = cc in omega arith

pub past_got : {A : Type 0} {r s : List Word} {x : A} → ◌≡◌ {A = Got A} (past r) (got x s) → ⊥
past_got e = let z : ◌≡◌ {A = ℕ} 0 1 = cc in omega arith

pub past_useless : {A : Type 0} {r s : List Word} → ◌≡◌ {A = Got A} (past r) (useless s) → ⊥
past_useless e = let z : ◌≡◌ {A = ℕ} 0 1 = cc in omega arith

pub useless_same : {A : Type 0} {r s : List Word} → ◌≡◌ {A = Got A} (useless r) (useless s) → r ≡ s
useless_same e = cc

pub past_same : {A : Type 0} {r s : List Word} → ◌≡◌ {A = Got A} (past r) (past s) → r ≡ s
past_same e = cc

-- ── one after the other ──
abbrev pub after : {A B : Type 0} → (A → Reads B) → Got A → Got B
after {A} {B} f g = elim g as (λ _. Got B) [ got x m ↦ f x m | useless m ↦ useless m | past m ↦ past m ]

module _ {A B : Type 0} (p : Reads A) (f : A → Reads B) where
  pub on_row : {ws : List Word} (g : Got A) → p ws ≡ g → (p >>= f) ws ≡ after f g
  on_row g e = ap (after f) e

  pub on : {ws mid : List Word} {x : A} {g : Got B} → p ws ≡ got x mid → f x mid ≡ g → (p >>= f) ws ≡ g
  on {mid = mid} {x = x} i j = on_row (got x mid) i ∙ j

  pub data Row (ws : List Word) (g : Got B) : Type 0 where
    through : {x : A} {mid : List Word} → p ws ≡ got x mid → f x mid ≡ g → Row ws g
    stopped : {r : List Word} → p ws ≡ useless r → useless r ≡ g → Row ws g
    passed : {r : List Word} → p ws ≡ past r → past r ≡ g → Row ws g

  pub row_of : {ws : List Word} {g : Got B} → (p >>= f) ws ≡ g → Row ws g
  row_of {ws} {g} e = go (p ws) refl e
    where
      go : (o : Got A) → p ws ≡ o → after f o ≡ g → Row ws g
      go (got x mid) i j = through i j
      go (useless r) i j = stopped i j
      go (past r) i j = passed i j

-- ── one or the other ──
module _ {A : Type 0} (ks : List Terminal) (p q : Reads A) where
  pub pick : (b : Bool) (ws : List Word) {g : Got A} → next ks ws ≡ b → cond b p q ws ≡ g → (ks starts p else q) ws ≡ g
  pick b ws {g} h e = ap (λ c. cond c p q ws) h ∙ e

  pub way : {ws : List Word} {g : Got A} → (ks starts p else q) ws ≡ g → (b : Bool) × (next ks ws ≡ b) × (cond b p q ws ≡ g)
  way {ws} e = (next ks ws, refl, e)

  -- the same way with other words after the first of rest
  pub again_so : (b : Bool) (ws f rest o : List Word) {g : Got A} → next ks ws ≡ b → ws ≡ f ++ rest → first rest ≡ first o → cond b p q (f ++ o) ≡ g → (ks starts p else q) (f ++ o) ≡ g
  again_so b ws f rest o h c s e = pick b (f ++ o) (sym (next_first ks ws (f ++ o) (ap first c ∙ first_front f rest o s)) ∙ h) e

-- ── one word ──
module _ (k : Terminal) where
  abbrev look : Word → List Word → Bool → Got Word
  look w ws b = elim b as (λ _. Got Word) [ true ↦ got w ws | false ↦ useless (w ∷ ws) ]

  pub word_on : (w : Word) (rest : List Word) → Is k w → t k (w ∷ rest) ≡ got w rest
  unfolding t
  word_on w rest i = ap (look w rest) i.told

  pub word_off : (ws : List Word) → next (k ∷ []) ws ≡ false → t k ws ≡ useless ws
  unfolding t
  word_off [] h = refl
  word_off (w ∷ ws) h = ap (look w ws) (or_false (is k w.kind) h)
    where
      or_false : (b : Bool) → b || false ≡ false → b ≡ false
      or_false true e = e
      or_false false e = refl

  pub data WordRead (ws : List Word) (g : Got Word) : Type 0 where
    is_it : {w : Word} {r : List Word} → ws ≡ w ∷ r → Is k w → got w r ≡ g → WordRead ws g
    not_it : next (k ∷ []) ws ≡ false → useless ws ≡ g → WordRead ws g

  pub word_of : (ws : List Word) {g : Got Word} → t k ws ≡ g → WordRead ws g
  unfolding t
  word_of [] e = not_it refl e
  word_of (w ∷ ws) {g} e = go (is k w.kind) refl e
    where
      go : (b : Bool) → is k w.kind ≡ b → look w ws b ≡ g → WordRead (w ∷ ws) g
      go true h j = is_it refl (record { told = h }) j
      go false h j = not_it (ap (λ b. b || false) h) j
