-- The tree that is computed is the one that is spelt.
use Rattle.std.proofs.Common.{◌≡◌, ℕ, ◌≤◌, Bool, true, false, cond, List, [], ◌∷◌, ◌++◌, Some, None, Decides, Option, sym, refl, ap, ◌∙◌, subst, inl, inr, true≢false, append_assoc}
use Rattle.automaton.specs.declared.Atom.TheVariants.{Plain, Any}
use Rattle.automaton.specs.Language.{Tree, empty, one, either, followed, Matches}
use Rattle.automaton.specs.Places.{size, Stands}
use Rattle.automaton.specs.Run.{run}
use Rattle.automaton.specs.Made.{made}
use Rattle.automaton.proofs.Made.{computed}
use Rattle.pattern.specs.Signs.{special, begins}
use Rattle.pattern.specs.Grammar.{choice, sequence, item, atom, Spells, one_way, or_way, nothing, and_then, once, starred, plussed, queried, dot, unit, escaped, bracketed, closing, Written}
use Rattle.pattern.specs.Judged.{Accepted, Answered}
use Rattle.pattern.specs.Reading.{repeats}
use Rattle.pattern.specs.declared.Pattern.{Pattern}
use Rattle.pattern.specs.Formed.{class_of}
use Rattle.pattern.specs.Parsed.{settled, joined, single, open_at, plain, onward, parse, whole, tells, pattern_match}
use Rattle.pattern.specs.declared.scan.Class.{Class}
use Rattle.pattern.specs.declared.scan.Class.TheVariants.{Opens, Closes, Parts, Escapes, Repeats, Ends, Strays, Takes}
use Rattle.pattern.proofs.Onward.{no_eq, item_opens, opens_not}
use Rattle.pattern.proofs.Formed.{plain_takes, Is, class_is}
use Rattle.pattern.proofs.Whole.{body_of}

abbrev Frames : Type 0
Frames = List (Option Tree × Tree)

no_repeat : (u : ℕ) (us : List ℕ) → repeats (u ∷ us) ≡ false → class_of u ≡ Repeats → ⊥
no_repeat u us h e =
    elim (subst (λ k. Is k u) e (class_is u)) [
      | inl i ↦ true≢false (sym (ap (λ z. repeats (z ∷ us)) i) ∙ h)
      | inr j ↦ elim j [ inl i ↦ true≢false (sym (ap (λ z. repeats (z ∷ us)) i) ∙ h) | inr i ↦ true≢false (sym (ap (λ z. repeats (z ∷ us)) i) ∙ h) ]
    ]

settle_class : (fs : Frames) (w : Option Tree) (q a : Tree) (u : ℕ) (k : Class) → (k ≡ Repeats → ⊥) → plain fs w q (Some a) u k ≡ plain fs w (followed q a) None u k
settle_class fs w q a u Opens n = refl
settle_class [] w q a u Closes n = refl
settle_class (f ∷ fs) w q a u Closes n = refl
settle_class fs w q a u Parts n = refl
settle_class fs w q a u Escapes n = refl
settle_class fs w q a u Repeats n = absurd (n refl)
settle_class [] w q a u Ends n = refl
settle_class (f ∷ fs) w q a u Ends n = refl
settle_class fs w q a u Strays n = refl
settle_class fs w q a u Takes n = refl

-- where no repeat follows, the last atom belongs to the sequence
settle : (fs : Frames) (w : Option Tree) (q a : Tree) (v : List ℕ) → repeats v ≡ false → parse (open_at fs w q (Some a)) v ≡ parse (open_at fs w (followed q a) None) v
settle [] w q a [] h = refl
settle (f ∷ fs) w q a [] h = refl
settle fs w q a (u ∷ us) h = ap (λ o. onward o (λ s. parse s us)) (settle_class fs w q a u (class_of u) (no_repeat u us h))

plain_single : (c : ℕ) → special c ≡ false → single c ≡ one (Plain c)
plain_single c h = ap (λ b. one (cond b Any (Plain c))) (no_eq c 46 refl h)

-- a choice leaves its ways and its last sequence
pub record Left (t : Tree) (fs : Frames) (u v : List ℕ) : Type 0 where
  pub ways : Option Tree
  pub seq : Tree
  pub is : joined ways seq ≡ t
  pub parsed : parse (open_at fs None empty None) (u ++ v) ≡ parse (open_at fs ways seq None) v

mutual
  parse_atom : {d : ℕ} {t : Tree} {u : List ℕ} → Spells d atom t u → (fs : Frames) (w : Option Tree) (q : Tree) (p : Option Tree) (v : List ℕ) → parse (open_at fs w q p) (u ++ v) ≡ parse (open_at fs w (settled q p) (Some t)) v
  parse_atom dot fs w q p v = refl
  parse_atom (unit c h) fs w q p v =
      ap (λ k. onward (plain fs w q p c k) (λ s. parse s v)) (plain_takes c h) ∙ ap (λ z. parse (open_at fs w (settled q p) (Some z)) v) (plain_single c h)
  parse_atom (escaped c h) fs w q p v = ap (λ b. onward (cond b (Some (open_at fs w (settled q p) (Some (one (Plain c))))) None) (λ s. parse s v)) h
  parse_atom (bracketed u e x) fs w q p v =
      let r = parse_choice x ((w, settled q p) ∷ fs) (41 ∷ v) refl in
      ap (λ z. parse (open_at fs w q p) (z ++ v)) e
      ∙ ap (λ z. parse (open_at ((w, settled q p) ∷ fs) None empty None) z) (append_assoc u (41 ∷ []) v)
      ∙ r.parsed
      ∙ ap (λ z. parse (open_at fs w (settled q p) (Some z)) v) r.is

  parse_item : {d : ℕ} {t : Tree} {u : List ℕ} → Spells d item t u → (fs : Frames) (w : Option Tree) (q : Tree) (p : Option Tree) (v : List ℕ) → repeats v ≡ false → parse (open_at fs w q p) (u ++ v) ≡ parse (open_at fs w (followed (settled q p) t) None) v
  parse_item {t = t} (once x) fs w q p v h = parse_atom x fs w q p v ∙ settle fs w (settled q p) t v h
  parse_item (starred u e x) fs w q p v h = ap (λ z. parse (open_at fs w q p) (z ++ v)) e ∙ ap (parse (open_at fs w q p)) (append_assoc u (42 ∷ []) v) ∙ parse_atom x fs w q p (42 ∷ v)
  parse_item (plussed u e x) fs w q p v h = ap (λ z. parse (open_at fs w q p) (z ++ v)) e ∙ ap (parse (open_at fs w q p)) (append_assoc u (43 ∷ []) v) ∙ parse_atom x fs w q p (43 ∷ v)
  parse_item (queried u e x) fs w q p v h = ap (λ z. parse (open_at fs w q p) (z ++ v)) e ∙ ap (parse (open_at fs w q p)) (append_assoc u (63 ∷ []) v) ∙ parse_atom x fs w q p (63 ∷ v)

  parse_seq : {d : ℕ} {t : Tree} {u : List ℕ} → Spells d sequence t u → (fs : Frames) (w : Option Tree) (v : List ℕ) → repeats v ≡ false → parse (open_at fs w empty None) (u ++ v) ≡ parse (open_at fs w t None) v
  parse_seq nothing fs w v h = refl
  parse_seq (and_then {a = a} u u' e x y) fs w v h =
      ap (λ z. parse (open_at fs w empty None) (z ++ v)) e
      ∙ ap (parse (open_at fs w empty None)) (append_assoc u u' v)
      ∙ parse_seq x fs w (u' ++ v) (opens_not u' v (item_opens y)).0
      ∙ parse_item y fs w a None v h

  parse_choice : {d : ℕ} {t : Tree} {u : List ℕ} → Spells d choice t u → (fs : Frames) (v : List ℕ) → repeats v ≡ false → Left t fs u v
  parse_choice {t = t} (one_way x) fs v h = record { ways = None; seq = t; is = refl; parsed = parse_seq x fs None v h }
  parse_choice (or_way {b = b} u u' e x y) fs v h =
      let r = parse_choice x fs (124 ∷ (u' ++ v)) refl in
      record {
        ways = Some (joined r.ways r.seq);
        seq = b;
        is = ap (λ z. either z b) r.is;
        parsed =
            ap (λ z. parse (open_at fs None empty None) (z ++ v)) e
            ∙ ap (parse (open_at fs None empty None)) (append_assoc u (124 ∷ u') v)
            ∙ r.parsed
            ∙ parse_seq y fs (Some (joined r.ways r.seq)) v h;
      }

no_repeat_closing : (e : Bool) → repeats (closing e) ≡ false
no_repeat_closing true = refl
no_repeat_closing false = refl

closed : (e : Bool) (w : Option Tree) (q t : Tree) → joined w q ≡ t → parse (open_at [] w q None) (closing e) ≡ Some (e, t)
closed true w q t h = ap (λ z. Some (true, z)) h
closed false w q t h = ap (λ z. Some (false, z)) h

pub told_whole : (us : List ℕ) (d : ℕ) (h e : Bool) (t : Tree) → Written d h e t us → (begins 94 us ≡ h) × (whole us ≡ Some (e, t))
told_whole us d h e t w =
    let b = body_of us d h e t w (begins 94 us) refl in
    let r = parse_choice b.spelt [] (closing e) (no_repeat_closing e) in
    (sym b.opened, ap (parse (open_at [] None empty None)) b.split ∙ r.parsed ∙ closed e r.ways r.seq t r.is)

same_answer : (a b : Bool) (P : Type 0) → Decides a P → Decides b P → a ≡ b
same_answer true b P x y = sym (y.1 (x.0 refl))
same_answer false true P x y = x.1 (y.0 refl)
same_answer false false P x y = refl

-- what is computed decides, for a pattern within the limit of atoms
pub told_match : (us : List ℕ) (d : ℕ) (h e : Bool) (t : Tree) → Written d h e t us → size t ≤ 60 → (ws : List ℕ) (b : Bool) → Decides b (Matches h e t ws) → b ≡ pattern_match us ws
told_match us d h e t w few ws b dec =
    let r = told_whole us d h e t w in
    same_answer b (run (made h e t) true 0 ws) (Matches h e t ws) dec (computed h e t few ws)
    ∙ sym (ap (λ z. tells z (whole us) ws) r.0 ∙ ap (λ o. tells h o ws) r.1)

-- the answer for a text, from a pattern that was accepted
module _ (us ws : List ℕ) (p : Pattern) (b : Bool) (a : Accepted us p) (f : (h e : Bool) (t : Tree) → Stands p.automaton h e t → Decides b (Matches h e t ws)) where
  own : Decides b (Matches a.head a.tail a.tree ws)
  own = f a.head a.tail a.tree a.stands

  pub told_value : b ≡ pattern_match us ws
  told_value = told_match us 8 a.head a.tail a.tree a.written a.few ws b own

  told_each : (d : ℕ) (h e : Bool) (t : Tree) → Written d h e t us → Decides b (Matches h e t ws)
  told_each d h e t w =
      let o = a.only d h e t w in
      subst (λ z. Decides b (Matches z e t ws)) (sym o.0) (subst (λ z. Decides b (Matches a.head z t ws)) (sym o.1) (subst (λ z. Decides b (Matches a.head a.tail z ws)) (sym o.2) own))

  pub answered : Answered us ws b
  answered = record {
    within = (a.head, a.tail, a.tree, a.written, a.few);
    exact = (λ e. (8, a.head, a.tail, a.tree, a.written, own.0 e), λ m. (told_each m.0 m.1 m.2 m.3 m.4).1 m.5);
    each = told_each;
    value = told_value;
  }
