-- A sequence and a choice, taken from the left: what is left of one behind a part of it.
use Rattle.std.proofs.Common.{◌≡◌, ℕ, ◌<◌, ◌≤◌, Bool, true, false, not, ◌&&◌, ◌||◌, eqb, List, [], ◌∷◌, ◌++◌, length, sym, refl, ap, ◌∙◌, subst, inl, inr, true≢false, append_assoc, append-nil, arith}
use mathlib.Core.Bool.{false≢true}
use Rattle.std.proofs.lemmas.Bool.{eqb-true, or_cases}
use Rattle.automaton.specs.Language.{Tree, empty, either, followed}
use Rattle.automaton.specs.Places.{size}
use Rattle.pattern.specs.Signs.{special, begins, parting, stops}
use Rattle.pattern.specs.Grammar.{choice, sequence, item, atom, Spells, one_way, or_way, nothing, and_then, once, starred, plussed, queried, dot, unit, escaped, bracketed}
use Rattle.pattern.specs.Reading.{repeats}

-- behind a sequence with the tree a, items that make it t
pub data Items (d : ℕ) : Tree → Tree → List ℕ → Type 0 where
  halt : {a : Tree} → Items d a a []
  step : {a b t : Tree} {s : List ℕ} (u v : List ℕ) → s ≡ u ++ v → Spells d item b u → Items d (followed a b) t v → Items d a t s

-- behind a choice with the tree a, further ways that make it t
pub data Ways (d : ℕ) : Tree → Tree → List ℕ → Type 0 where
  last : {a : Tree} → Ways d a a []
  way : {a b t : Tree} {s : List ℕ} (u v : List ℕ) → s ≡ 124 ∷ (u ++ v) → Spells d sequence b u → Ways d (either a b) t v → Ways d a t s

items_more : {d : ℕ} {a t b : Tree} {u : List ℕ} (v : List ℕ) → Items d a t u → Spells d item b v → Items d a (followed t b) (u ++ v)
items_more v halt x = step v [] (sym (append-nil v)) x halt
items_more {d} {a} {t} {b} w (step {s = s} u v q y r) x = step u (v ++ w) (ap (λ z. z ++ w) q ∙ append_assoc u v w) y (items_more w r x)

pub items_of : {d : ℕ} {t : Tree} {u : List ℕ} → Spells d sequence t u → Items d empty t u
items_of nothing = halt
items_of {d} (and_then {a = a} {b = b} u v q x y) = subst (Items d empty (followed a b)) (sym q) (items_more v (items_of x) y)

ways_more : {d : ℕ} {a t b : Tree} {u : List ℕ} (v : List ℕ) → Ways d a t u → Spells d sequence b v → Ways d a (either t b) (u ++ (124 ∷ v))
ways_more v last x = way v [] (ap (λ z. 124 ∷ z) (sym (append-nil v))) x last
ways_more w (way u v q y r) x = way u (v ++ (124 ∷ w)) (ap (λ z. z ++ (124 ∷ w)) q ∙ ap (λ z. 124 ∷ z) (append_assoc u v (124 ∷ w))) y (ways_more w r x)

-- a choice is its first sequence and further ways
pub record Split (d : ℕ) (t : Tree) (u : List ℕ) : Type 0 where
  pub tree : Tree
  pub front : List ℕ
  pub rest : List ℕ
  pub whole : u ≡ front ++ rest
  pub spelt : Spells d sequence tree front
  pub ways : Ways d tree t rest

pub ways_of : {d : ℕ} {t : Tree} {u : List ℕ} → Spells d choice t u → Split d t u
ways_of {d} {t} {u} (one_way x) = record { tree = t; front = u; rest = []; whole = sym (append-nil u); spelt = x; ways = last }
ways_of (or_way u v q x y) =
    let r = ways_of x in
    record {
      tree = r.tree;
      front = r.front;
      rest = r.rest ++ (124 ∷ v);
      whole = q ∙ ap (λ z. z ++ (124 ∷ v)) r.whole ∙ append_assoc r.front r.rest (124 ∷ v);
      spelt = r.spelt;
      ways = ways_more v r.ways y;
    }

pub items_size : {d : ℕ} {a t : Tree} {u : List ℕ} → Items d a t u → size a ≤ size t
items_size halt = omega arith
items_size (step u v q x r) = let h = items_size r in omega arith

pub ways_size : {d : ℕ} {a t : Tree} {u : List ℕ} → Ways d a t u → size a ≤ size t
ways_size last = omega arith
ways_size (way u v q x r) = let h = ways_size r in omega arith

-- a unit that opens an item
abbrev opens : ℕ → Bool
opens c = not (eqb c 42 || eqb c 43 || eqb c 63) && not (parting c)

pub record Opens (u : List ℕ) : Type 0 where
  pub unit : ℕ
  pub rest : List ℕ
  pub is : u ≡ unit ∷ rest
  pub ok : opens unit ≡ true

pub no_eq : (c d : ℕ) → special d ≡ true → special c ≡ false → eqb c d ≡ false
no_eq c d s h = go (eqb c d) refl
  where
    go : (b : Bool) → eqb c d ≡ b → b ≡ false
    go true e = absurd (true≢false (sym s ∙ ap special (sym (eqb-true c d e)) ∙ h))
    go false e = refl

plain_opens : (c : ℕ) → special c ≡ false → opens c ≡ true
plain_opens c h =
    λ i. not (no_eq c 42 refl h i || no_eq c 43 refl h i || no_eq c 63 refl h i) && not (no_eq c 124 refl h i || no_eq c 41 refl h i || no_eq c 36 refl h i)

atom_opens : {d : ℕ} {t : Tree} {u : List ℕ} → Spells d atom t u → Opens u
atom_opens dot = record { unit = 46; rest = []; is = refl; ok = refl }
atom_opens (unit c h) = record { unit = c; rest = []; is = refl; ok = plain_opens c h }
atom_opens (escaped c h) = record { unit = 92; rest = c ∷ []; is = refl; ok = refl }
atom_opens (bracketed u q x) = record { unit = 40; rest = u ++ (41 ∷ []); is = q; ok = refl }

more_opens : (u v w : List ℕ) → w ≡ u ++ v → Opens u → Opens w
more_opens u v w q o = record { unit = o.unit; rest = o.rest ++ v; is = q ∙ ap (λ z. z ++ v) o.is; ok = o.ok }

pub item_opens : {d : ℕ} {t : Tree} {u : List ℕ} → Spells d item t u → Opens u
item_opens (once x) = atom_opens x
item_opens {u = w} (starred u q x) = more_opens u (42 ∷ []) w q (atom_opens x)
item_opens {u = w} (plussed u q x) = more_opens u (43 ∷ []) w q (atom_opens x)
item_opens {u = w} (queried u q x) = more_opens u (63 ∷ []) w q (atom_opens x)

opens_parts : (a b : Bool) → (not a && not b) ≡ true → (a ≡ false) × (b ≡ false)
opens_parts true b h = absurd (false≢true h)
opens_parts false true h = absurd (false≢true h)
opens_parts false false h = (refl, refl)

pub opens_not : (u v : List ℕ) → Opens u → (repeats (u ++ v) ≡ false) × (stops (u ++ v) ≡ false)
opens_not u v o =
    let r = opens_parts (eqb o.unit 42 || eqb o.unit 43 || eqb o.unit 63) (parting o.unit) o.ok in
    (ap (λ z. repeats (z ++ v)) o.is ∙ r.0, ap (λ z. stops (z ++ v)) o.is ∙ r.1)

pub item_some : {d : ℕ} {t : Tree} {u : List ℕ} → Spells d item t u → 0 < length u
item_some x = let o = item_opens x in let e = ap length o.is in omega arith

pub stop_loose : (v : List ℕ) → stops v ≡ true → repeats v ≡ false
stop_loose [] h = refl
stop_loose (x ∷ v) h =
    elim (or_cases (eqb x 124 || eqb x 41) (eqb x 36) h) [
      | inl i ↦ elim (or_cases (eqb x 124) (eqb x 41) i) [
        | inl j ↦ ap (λ z. repeats (z ∷ v)) (eqb-true x 124 j)
        | inr j ↦ ap (λ z. repeats (z ∷ v)) (eqb-true x 41 j)
      ]
      | inr i ↦ ap (λ z. repeats (z ∷ v)) (eqb-true x 36 i)
    ]

-- no repeat stands behind an item of a sequence
pub items_loose : {d : ℕ} {a t : Tree} {u : List ℕ} → Items d a t u → (v : List ℕ) → stops v ≡ true → repeats (u ++ v) ≡ false
items_loose halt v h = stop_loose v h
items_loose {u = w} (step u u' q x r) v h = (opens_not w v (more_opens u u' w q (item_opens x))).0

-- where a sequence stops, no item follows
pub items_stop : {d : ℕ} {a t : Tree} {u : List ℕ} → Items d a t u → (v : List ℕ) → stops (u ++ v) ≡ true → (t ≡ a) × (u ≡ [])
items_stop halt v h = (refl, refl)
items_stop {u = w} (step u u' q x r) v h = absurd (true≢false (sym h ∙ (opens_not w v (more_opens u u' w q (item_opens x))).1))

-- behind a sequence of a choice stands a bar or what stands behind the choice
pub ways_stop : {d : ℕ} {a t : Tree} {u : List ℕ} → Ways d a t u → (v : List ℕ) → stops v ≡ true → stops (u ++ v) ≡ true
ways_stop last v h = h
ways_stop (way u u' q x r) v h = ap (λ z. stops (z ++ v)) q

pub ways_end : {d : ℕ} {a t : Tree} {u : List ℕ} → Ways d a t u → (v : List ℕ) → begins 124 (u ++ v) ≡ false → (t ≡ a) × (u ≡ [])
ways_end last v h = (refl, refl)
ways_end (way u u' q x r) v h = absurd (true≢false (sym (ap (λ z. begins 124 (z ++ v)) q) ∙ h))
