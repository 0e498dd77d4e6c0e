-- The automaton's run says whether the text matches.
use Rattle.std.proofs.Common.{◌≡◌, ℕ, zero, suc, ◌+◌, ◌-◌, ◌/◌, ◌%◌, ◌^◌, ◌<◌, ◌≤◌, min, Bool, true, false, cond, not, ◌&&◌, eqb, ltb, ◌⊎◌, List, [], ◌∷◌, ◌++◌, length, get_or, Decides, sym, refl, ap, ◌∙◌, subst, inl, inr, true≢false, add-zero, zero-add, arith, length-append, le-ltb, lt-ltb, eq-eqb, ne_eqb}
use mathlib.Core.Bool.{false≢true}
use mathlib.Core.List.{nil≢cons, cons≢nil, head-eq_of_cons-eq, tail-eq_of_cons-eq}
use lib.Bits.{bit_and, bit_or}
use borrow.Author.Tests.{eqb-false}
use Rattle.std.proofs.lemmas.Bool.{and_parts, not-true, false_from_ne_true}
use Rattle.std.proofs.str.Laws.{order}
use Rattle.std.proofs.lemmas.Nat.{shr-shr}
use Rattle.std.proofs.lemmas.List.{get_or_append_left, get_or-append_right, get_or-take}
use Rattle.automaton.specs.declared.Atom.{Atom}
use Rattle.automaton.specs.declared.Atom.TheVariants.{Plain}
use Rattle.automaton.specs.Language.{fits, Tree, empty, one, either, followed, star, plus, opt, Many, Then, In, After, Matches}
use Rattle.automaton.specs.declared.Automaton.{Automaton}
use Rattle.automaton.specs.Places.{bit, Has, size, null, first, last, links, Linked, atoms_of, atoms, follows as afters, Stands}
use Rattle.automaton.specs.Run.{room, masked, reached, stepped, ends as stops, run}
use Rattle.automaton.proofs.Sets.{bit-bit_and}
use Rattle.automaton.proofs.Holds.{split_if, has_left, has_right, has_none, has_one, only_one, has_if, empty_left, null_of, of_null, Lang, Holds, enter, leave, ends, follows, At, goes}

-- what a number other than 0 holds
some_bit : (f s : ℕ) → s ≤ f → 0 < s → (p : ℕ) × Has s p
some_bit zero s le pos = absurd (omega arith)
some_bit (suc f) s le pos =
    elim (order (s % 2) 1) [
      | inl even ↦ let r = some_bit f (s / 2) (omega arith) (omega arith) in (1 + r.0, ap (λ m. eqb (m % 2) 1) (sym (shr-shr s 1 r.0)) ∙ r.1)
      | inr odd ↦ (0, eq-eqb (s / 2 ^ 0 % 2) 1 (omega arith))
    ]

some_meet : (a b : ℕ) → (bit_and a b ≡ 0 → ⊥) → (p : ℕ) × Has a p × Has b p
some_meet a b h =
    let r = some_bit (bit_and a b) (bit_and a b) (omega arith) (omega (arith, h)) in
    let e = and_parts (bit a r.0) (bit b r.0) (sym (bit-bit_and a b r.0) ∙ r.1) in
    (r.0, e.0, e.1)

both : (a b p : ℕ) → Has a p → Has b p → Has (bit_and a b) p
both a b p h i = bit-bit_and a b p ∙ ap (λ z. z && bit b p) h ∙ i

meets : (a b p : ℕ) → Has a p → Has b p → bit_and a b ≡ 0 → ⊥
meets a b p h i e = has_none p (subst (λ z. Has z p) e (both a b p h i))

keep_if : (b : Bool) (s g p : ℕ) → Has s p → Has (cond b (bit_or s g) s) p
keep_if true s g p h = has_left s g p h
keep_if false s g p h = h

add_if : (b : Bool) (s g p : ℕ) → b ≡ true → Has g p → Has (cond b (bit_or s g) s) p
add_if true s g p e h = has_right s g p h
add_if false s g p e h = absurd (false≢true e)

mask_add : (xs : List Atom) (u n i : ℕ) → i < n → fits (get_or xs i (Plain 0)) u ≡ true → Has (masked xs u n) i
mask_add xs u zero i lt f = absurd (omega arith)
mask_add xs u (suc n) i lt f =
    elim (order i n) [
      | inl below ↦ keep_if _ _ (2 ^ n) i (mask_add xs u n i below f)
      | inr here ↦ let e : i ≡ n = omega arith in
          add_if (fits (get_or xs n (Plain 0)) u) (masked xs u n) (2 ^ n) i (subst (λ z. fits (get_or xs z (Plain 0)) u ≡ true) e f) (subst (λ z. Has (2 ^ n) z) (sym e) (has_one n))
    ]

mask_of : (xs : List Atom) (u n p : ℕ) → Has (masked xs u n) p → (p < n) × (fits (get_or xs p (Plain 0)) u ≡ true)
mask_of xs u zero p h = absurd (has_none p h)
mask_of xs u (suc n) p h =
    elim (split_if (fits (get_or xs n (Plain 0)) u) (masked xs u n) (2 ^ n) p h) [
      | inl i ↦ let r = mask_of xs u n p i in (omega arith, r.1)
      | inr i ↦ let e = only_one n p i.1 in (omega arith, subst (λ z. fits (get_or xs z (Plain 0)) u ≡ true) (sym e) i.0)
    ]

reach_keep : (fs : List ℕ) (g s n q : ℕ) → Has g q → Has (reached fs g s n) q
reach_keep fs g s zero q h = h
reach_keep fs g s (suc n) q h = keep_if (bit s n) _ (get_or fs n 0) q (reach_keep fs g s n q h)

reach_add : (fs : List ℕ) (g s n p q : ℕ) → p < n → Has s p → Has (get_or fs p 0) q → Has (reached fs g s n) q
reach_add fs g s zero p q lt h k = absurd (omega arith)
reach_add fs g s (suc n) p q lt h k =
    elim (order p n) [
      | inl below ↦ keep_if (bit s n) _ (get_or fs n 0) q (reach_add fs g s n p q below h k)
      | inr here ↦ let e : p ≡ n = omega arith in
          add_if (bit s n) (reached fs g s n) (get_or fs n 0) q (subst (Has s) e h) (subst (λ z. Has (get_or fs z 0) q) e k)
    ]

reach_of : (fs : List ℕ) (g s n q : ℕ) → Has (reached fs g s n) q → Has g q ⊎ ((p : ℕ) × (p < n) × Has s p × Has (get_or fs p 0) q)
reach_of fs g s zero q h = inl h
reach_of fs g s (suc n) q h =
    elim (split_if (bit s n) (reached fs g s n) (get_or fs n 0) q h) [
      | inl i ↦ elim (reach_of fs g s n q i) [ inl j ↦ inl j | inr j ↦ inr (j.0, omega (arith, j.1), j.2, j.3) ]
      | inr i ↦ inr (n, omega arith, i.0, i.1)
    ]

abbrev If : Bool → Type 0 → Type 0 → Type 0
If true P Q = P
If false P Q = Q

if_yes : (P Q : Type 0) (b : Bool) → b ≡ true → (If b P Q → P) × (P → If b P Q)
if_yes P Q true e = (λ x. x, λ x. x)
if_yes P Q false e = absurd (false≢true e)

if_no : (P Q : Type 0) (b : Bool) → b ≡ false → (If b P Q → Q) × (Q → If b P Q)
if_no P Q true e = absurd (true≢false e)
if_no P Q false e = (λ x. x, λ x. x)

if_either : (P Q : Type 0) (b : Bool) → If b P Q → P ⊎ Q
if_either P Q true x = inl x
if_either P Q false x = inr x

-- what may follow behind the place p of t
abbrev Behind : Tree → ℕ → Lang → ℕ → Lang
Behind empty n k p w = ⊥
Behind (one s) n k p w = (p ≡ n) × k w
Behind (either a b) n k p w = If (ltb p (n + size a)) (Behind a n k p w) (Behind b (n + size a) k p w)
Behind (followed a b) n k p w = If (ltb p (n + size a)) (Behind a n (Then (In b) k) p w) (Behind b (n + size a) k p w)
Behind (star a) n k p w = Behind a n (Then (Many (In a)) k) p w
Behind (plus a) n k p w = Behind a n (Then (Many (In a)) k) p w
Behind (opt a) n k p w = Behind a n k p w

pub length-atoms_of : (t : Tree) → length (atoms_of t) ≡ size t
length-atoms_of empty = refl
length-atoms_of (one s) = refl
length-atoms_of (either a b) = length-append (atoms_of a) (atoms_of b) ∙ (λ i. length-atoms_of a i + length-atoms_of b i)
length-atoms_of (followed a b) = length-append (atoms_of a) (atoms_of b) ∙ (λ i. length-atoms_of a i + length-atoms_of b i)
length-atoms_of (star a) = length-atoms_of a
length-atoms_of (plus a) = length-atoms_of a
length-atoms_of (opt a) = length-atoms_of a

module _ (S : ℕ → Atom) (K : ℕ → List ℕ → Type 0) where
  abbrev Agrees : Tree → ℕ → Lang → Type 0
  Agrees t n k = (p : ℕ) (w : List ℕ) → n ≤ p → p < n + size t → (K p w → Behind t n k p w) × (Behind t n k p w → K p w)

  abbrev Spells : List Atom → ℕ → ℕ → Type 0
  Spells xs n m = (i : ℕ) → i < m → S (n + i) ≡ get_or xs i (Plain 0)

  spells_left : (a b : Tree) (n : ℕ) → Spells (atoms_of a ++ atoms_of b) n (size a + size b) → Spells (atoms_of a) n (size a)
  spells_left a b n f i lt = f i (omega arith) ∙ get_or_append_left (atoms_of a) (atoms_of b) (Plain 0) i (omega (arith, length-atoms_of a))

  spells_right : (a b : Tree) (n : ℕ) → Spells (atoms_of a ++ atoms_of b) n (size a + size b) → Spells (atoms_of b) (n + size a) (size b)
  spells_right a b n f i lt =
      let e : n + size a + i ≡ n + (size a + i) = omega arith in
      let d : size a + i - size a ≡ i = omega arith in
      ap S e ∙ f (size a + i) (omega arith) ∙ get_or-append_right (atoms_of a) (atoms_of b) (size a) (size a + i) (Plain 0) (length-atoms_of a) (omega arith) ∙ ap (λ z. get_or (atoms_of b) z (Plain 0)) d

  holds : (t : Tree) (n : ℕ) (k : Lang) → Agrees t n k → Spells (atoms_of t) n (size t) → Holds S K t n k
  holds empty n k g f = tt
  holds (one s) n k g f =
      (ap S (sym (add-zero n)) ∙ f 0 (omega arith), λ w x. ((g n w (omega arith) (omega arith)).0 x).1, λ w x. (g n w (omega arith) (omega arith)).1 (refl, x))
  holds (either a b) n k g f = (
    holds a n k (λ p w le lt. let c = if_yes (Behind a n k p w) (Behind b (n + size a) k p w) (ltb p (n + size a)) (lt-ltb p (n + size a) lt) in let d = g p w le (omega arith) in (λ x. c.0 (d.0 x), λ x. d.1 (c.1 x))) (spells_left a b n f),
    holds b (n + size a) k (λ p w le lt. let c = if_no (Behind a n k p w) (Behind b (n + size a) k p w) (ltb p (n + size a)) (le-ltb p (n + size a) le) in let d = g p w (omega arith) (omega arith) in (λ x. c.0 (d.0 x), λ x. d.1 (c.1 x))) (spells_right a b n f),
  )
  holds (followed a b) n k g f = (
    holds a n (Then (In b) k) (λ p w le lt. let c = if_yes (Behind a n (Then (In b) k) p w) (Behind b (n + size a) k p w) (ltb p (n + size a)) (lt-ltb p (n + size a) lt) in let d = g p w le (omega arith) in (λ x. c.0 (d.0 x), λ x. d.1 (c.1 x))) (spells_left a b n f),
    holds b (n + size a) k (λ p w le lt. let c = if_no (Behind a n (Then (In b) k) p w) (Behind b (n + size a) k p w) (ltb p (n + size a)) (le-ltb p (n + size a) le) in let d = g p w (omega arith) (omega arith) in (λ x. c.0 (d.0 x), λ x. d.1 (c.1 x))) (spells_right a b n f),
  )
  holds (star a) n k g f = holds a n (Then (Many (In a)) k) g f
  holds (plus a) n k g f = holds a n (Then (Many (In a)) k) g f
  holds (opt a) n k g f = holds a n k g f

  at_of : (t : Tree) (n p : ℕ) → n ≤ p → p < n + size t → At S K t n p
  at_of empty n p le lt = omega arith
  at_of (one s) n p le lt = omega arith
  at_of (either a b) n p le lt = elim (order p (n + size a)) [ inl i ↦ inl (at_of a n p le i) | inr i ↦ inr (at_of b (n + size a) p i (omega arith)) ]
  at_of (followed a b) n p le lt = elim (order p (n + size a)) [ inl i ↦ inl (at_of a n p le i) | inr i ↦ inr (at_of b (n + size a) p i (omega arith)) ]
  at_of (star a) n p le lt = at_of a n p le lt
  at_of (plus a) n p le lt = at_of a n p le lt
  at_of (opt a) n p le lt = at_of a n p le lt

within : (t : Tree) (n : ℕ) (k : Lang) (p : ℕ) (w : List ℕ) → Behind t n k p w → (n ≤ p) × (p < n + size t)
within empty n k p w x = absurd x
within (one s) n k p w x = (omega (arith, x.0), omega (arith, x.0))
within (either a b) n k p w x =
    elim (if_either (Behind a n k p w) (Behind b (n + size a) k p w) (ltb p (n + size a)) x) [
      | inl i ↦ let r = within a n k p w i in (omega arith, omega arith)
      | inr i ↦ let r = within b (n + size a) k p w i in (omega arith, omega arith)
    ]
within (followed a b) n k p w x =
    elim (if_either (Behind a n (Then (In b) k) p w) (Behind b (n + size a) k p w) (ltb p (n + size a)) x) [
      | inl i ↦ let r = within a n (Then (In b) k) p w i in (omega arith, omega arith)
      | inr i ↦ let r = within b (n + size a) k p w i in (omega arith, omega arith)
    ]
within (star a) n k p w x = within a n (Then (Many (In a)) k) p w x
within (plus a) n k p w x = within a n (Then (Many (In a)) k) p w x
within (opt a) n k p w x = within a n k p w x

cond-true : (a b : Bool) → cond a true b ≡ true → (a ≡ true) ⊎ (b ≡ true)
cond-true true b h = inl refl
cond-true false b h = inr h

true_cond : (a b : Bool) → b ≡ true → cond a true b ≡ true
true_cond true b h = refl
true_cond false b h = h

module _ (m : Automaton) (t : Tree) (st : Stands m m.head m.tail t) where
  abbrev h : Bool
  h = m.head

  abbrev e : Bool
  e = m.tail

  abbrev k : Lang
  k = After e

  abbrev S : ℕ → Atom
  S p = get_or (atoms_of t) p (Plain 0)

  abbrev K : ℕ → List ℕ → Type 0
  K p w = Behind t 0 k p w

  right : Holds S K t 0 k
  right = holds S K t 0 k (λ p w le lt. (λ x. x, λ x. x)) (λ i lt. ap S (zero-add i))

  all : room m ≡ size t
  all = ap (λ z. min z 60) st.counts ∙ omega (arith, st.few)

  same_atom : (p : ℕ) → p < size t → get_or (atoms m.places) p (Plain 0) ≡ S p
  same_atom p lt = sym (get_or-take (size t) (atoms m.places) p (Plain 0) lt) ∙ ap (λ z. get_or z p (Plain 0)) st.takes

  abbrev Later : List ℕ → Type 0
  Later w = (y : ℕ) × (a : List ℕ) × (b : List ℕ) × (w ≡ y ∷ (a ++ b)) × Then (In t) k b

  -- a run begins here, or goes on from a place of s, or begins later
  abbrev Lives : Bool → ℕ → List ℕ → Type 0
  Lives fresh s w = ((fresh ≡ true) × Then (In t) k w) ⊎ (((p : ℕ) × Has s p × K p w) ⊎ ((h ≡ false) × Later w))

  begin_of : (fresh : Bool) (q : ℕ) → Has (cond fresh m.firsts 0) q → (fresh ≡ true) × Has (first t 0) q
  begin_of fresh q i = let c = has_if fresh m.firsts q i in (c.0, subst (λ z. Has z q) st.begins c.1)

  step_of : (fresh : Bool) (s x q : ℕ) → Has (stepped m fresh s x) q → (((fresh ≡ true) × Has (first t 0) q) ⊎ ((p : ℕ) × Has s p × Linked (links t 0) p q)) × (fits (S q) x ≡ true)
  step_of fresh s x q i =
      let g : ℕ = reached (afters m.places) (cond fresh m.firsts 0) s (room m) in
      let f : ℕ = masked (atoms m.places) x (room m) in
      let c = and_parts (bit g q) (bit f q) (sym (bit-bit_and g f q) ∙ i) in
      let a = mask_of (atoms m.places) x (room m) q c.1 in (
        elim (reach_of (afters m.places) (cond fresh m.firsts 0) s (room m) q c.0) [
          | inl j ↦ inl (begin_of fresh q j)
          | inr j ↦ inr (j.0, j.2, (st.leads j.0 q (omega (arith, all, st.few, j.1))).0 j.3)
        ],
        ap (λ z. fits z x) (sym (same_atom q (omega (arith, all, a.0)))) ∙ a.1,
      )

  step_has : (fresh : Bool) (s x q : ℕ) (w : List ℕ) → Has (reached (afters m.places) (cond fresh m.firsts 0) s (room m)) q → fits (S q) x ≡ true → K q w → Has (stepped m fresh s x) q
  step_has fresh s x q w r f kq =
      let b = within t 0 k q w kq in
      let lt : q < size t = omega arith in
      both _ _ q r (mask_add (atoms m.places) x (room m) q (omega (arith, all)) (ap (λ z. fits z x) (same_atom q lt) ∙ f))

  -- a place of t that may be followed by q
  link_has : (fresh : Bool) (s p q : ℕ) (w : List ℕ) → K p w → Has s p → Linked (links t 0) p q → Has (reached (afters m.places) (cond fresh m.firsts 0) s (room m)) q
  link_has fresh s p q w kp i l =
      let b = within t 0 k p w kp in
      reach_add (afters m.places) (cond fresh m.firsts 0) s (room m) p q (omega (arith, all)) i ((st.leads p q (omega (arith, st.few))).1 l)

  hit_of : (fresh : Bool) (s : ℕ) → stops m fresh s ≡ true → (w : List ℕ) → k w → Lives fresh s w
  hit_of fresh s i w kw =
      elim (cond-true (fresh && m.nullable) _ i) [
        | inl j ↦ let c = and_parts fresh m.nullable j in inl (c.0, ([], w, refl, of_null t (sym st.nulls ∙ c.1), kw))
        | inr j ↦
            let c = some_meet m.lasts s (eqb-false (bit_and m.lasts s) 0 (not-true _ j)) in
            inr (inl (c.0, c.2, ends S K t 0 k right c.0 w (subst (λ z. Has z c.0) st.ends c.1) kw))
      ]

  hit_null : (fresh : Bool) (s : ℕ) → fresh ≡ true → null t ≡ true → stops m fresh s ≡ true
  hit_null fresh s f n = ap (λ z. cond (z && m.nullable) true (not (eqb (bit_and m.lasts s) 0))) f ∙ ap (λ z. cond z true (not (eqb (bit_and m.lasts s) 0))) (st.nulls ∙ n)

  hit_last : (fresh : Bool) (s p : ℕ) → Has (last t 0) p → Has s p → stops m fresh s ≡ true
  hit_last fresh s p l i = true_cond (fresh && m.nullable) _ (ap not (ne_eqb (bit_and m.lasts s) 0 (meets m.lasts s p (subst (λ z. Has z p) (sym st.ends) l) i)))

  back : (x : ℕ) (w : List ℕ) (fresh : Bool) (s : ℕ) → Lives (not h) (stepped m fresh s x) w → Lives fresh s (x ∷ w)
  back x w fresh s (inl c) = inr (inr (not-true h c.0, (x, [], w, refl, c.1)))
  back x w fresh s (inr (inl c)) =
      let d = step_of fresh s x c.0 c.1 in
      elim d.0 [
        | inl f ↦ inl (f.0, leave S K t 0 k right x w (c.0, f.1, d.1, c.2))
        | inr l ↦ inr (inl (l.0, l.1, follows S K t 0 k right l.0 c.0 x w l.2 d.1 c.2))
      ]
  back x w fresh s (inr (inr c)) = let l = c.1 in inr (inr (c.0, (x, l.0 ∷ l.1, l.2, ap (λ z. x ∷ z) l.3, l.4)))

  sound : (w : List ℕ) (fresh : Bool) (s : ℕ) → run m fresh s w ≡ true → Lives fresh s w
  sound [] fresh s r = hit_of fresh s r [] (λ _. refl)
  sound (x ∷ w) fresh s r =
      elim (cond-true (not e && stops m fresh s) _ r) [
        | inl i ↦ let j = and_parts (not e) (stops m fresh s) i in hit_of fresh s j.1 (x ∷ w) (λ et. absurd (true≢false (sym et ∙ not-true e j.0)))
        | inr i ↦ back x w fresh s (sound w (not h) (stepped m fresh s x) i)
      ]

  stop : (x : ℕ) (w : List ℕ) (fresh : Bool) (s : ℕ) → k (x ∷ w) → stops m fresh s ≡ true → run m fresh s (x ∷ w) ≡ true
  stop x w fresh s kw i =
      let open_end : e ≡ false = false_from_ne_true e (λ et. cons≢nil (kw et)) in
      ap (λ b. cond b true (run m (not h) (stepped m fresh s x) w)) (ap (λ z. not z && stops m fresh s) open_end ∙ i)

  abbrev Next : ℕ → List ℕ → Bool → ℕ → Type 0
  Next x w fresh s = Lives (not h) (stepped m fresh s x) w → run m fresh s (x ∷ w) ≡ true

  begins : (x : ℕ) (w : List ℕ) (fresh : Bool) (s : ℕ) → Next x w fresh s → fresh ≡ true → (u v : List ℕ) → x ∷ w ≡ u ++ v → In t u → k v → run m fresh s (x ∷ w) ≡ true
  begins x w fresh s next f [] v q i kv = stop x w fresh s (subst k (sym q) kv) (hit_null fresh s f (null_of t i))
  begins x w fresh s next f (y ∷ u) v q i kv =
      let d = enter S K t 0 k right x u v (subst (λ z. In t (z ∷ u)) (sym (head-eq_of_cons-eq q)) i) kv in
      let kq = subst (K d.0) (sym (tail-eq_of_cons-eq q)) d.3 in
      let r = reach_keep (afters m.places) (cond fresh m.firsts 0) s (room m) d.0 (subst (λ b. Has (cond b m.firsts 0) d.0) (sym f) (subst (λ z. Has z d.0) (sym st.begins) d.1)) in
      next (inr (inl (d.0, step_has fresh s x d.0 w r d.2 kq, kq)))

  later : (x : ℕ) (w : List ℕ) (fresh : Bool) (s : ℕ) → Next x w fresh s → h ≡ false → (a b : List ℕ) → w ≡ a ++ b → Then (In t) k b → run m fresh s (x ∷ w) ≡ true
  later x w fresh s next f [] b q i = next (inl (ap not f, subst (Then (In t) k) (sym q) i))
  later x w fresh s next f (y ∷ a) b q i = next (inr (inr (f, (y, a, b, q, i))))

  complete : (w : List ℕ) (fresh : Bool) (s : ℕ) → Lives fresh s w → run m fresh s w ≡ true
  complete [] fresh s (inl c) = let i = c.1 in hit_null fresh s c.0 (null_of t (subst (In t) (empty_left i.0 i.1 i.2) i.3))
  complete [] fresh s (inr (inl c)) =
      let b = within t 0 k c.0 [] c.2 in
      elim (goes S K t 0 k right c.0 [] (at_of S K t 0 c.0 b.0 b.1) c.2) [
        | inl i ↦ hit_last fresh s c.0 i.0 c.1
        | inr o ↦ absurd (nil≢cons o.2)
      ]
  complete [] fresh s (inr (inr c)) = absurd (nil≢cons c.1.3)
  complete (x ∷ w) fresh s (inl c) =
      let i = c.1 in
      begins x w fresh s (λ l. true_cond _ _ (complete w (not h) (stepped m fresh s x) l)) c.0 i.0 i.1 i.2 i.3 i.4
  complete (x ∷ w) fresh s (inr (inl c)) =
      let b = within t 0 k c.0 (x ∷ w) c.2 in
      elim (goes S K t 0 k right c.0 (x ∷ w) (at_of S K t 0 c.0 b.0 b.1) c.2) [
        | inl i ↦ stop x w fresh s i.1 (hit_last fresh s c.0 i.0 c.1)
        | inr o ↦
            let kq = subst (K o.3) (sym (tail-eq_of_cons-eq o.2)) o.6 in
            let f = ap (fits (S o.3)) (head-eq_of_cons-eq o.2) ∙ o.5 in
            let r = link_has fresh s c.0 o.3 (x ∷ w) c.2 c.1 o.4 in
            true_cond _ _ (complete w (not h) (stepped m fresh s x) (inr (inl (o.3, step_has fresh s x o.3 w r f kq, kq))))
      ]
  complete (x ∷ w) fresh s (inr (inr c)) =
      let l = c.1 in
      later x w fresh s (λ i. true_cond _ _ (complete w (not h) (stepped m fresh s x) i)) c.0 l.1 l.2 (tail-eq_of_cons-eq l.3) l.4

  whole : (w a b : List ℕ) → w ≡ a ++ b → (h ≡ true → a ≡ []) → Then (In t) k b → Lives true 0 w
  whole w [] b q f i = inl (refl, subst (Then (In t) k) (sym q) i)
  whole w (y ∷ a) b q f i = inr (inr (false_from_ne_true h (λ ht. cons≢nil (f ht)), (y, a, b, q, i)))

  matches→ : (w : List ℕ) → run m true 0 w ≡ true → Matches h e t w
  matches→ w r =
      elim (sound w true 0 r) [
        | inl c ↦ ([], w, refl, λ _. refl, c.1)
        | inr d ↦ elim d [
          | inl c ↦ absurd (has_none c.0 c.1)
          | inr c ↦ let l = c.1 in (l.0 ∷ l.1, l.2, l.3, λ ht. absurd (true≢false (sym ht ∙ c.0)), l.4)
        ]
      ]

  →matches : (w : List ℕ) → Matches h e t w → run m true 0 w ≡ true
  →matches w m = complete w true 0 (whole w m.0 m.1 m.2 m.3 m.4)

-- the answer of a run decides
pub decided : (m : Automaton) (w : List ℕ) (r : Bool) → r ≡ run m true 0 w → (h e : Bool) (t : Tree) → Stands m h e t → Decides r (Matches h e t w)
decided m w r is h e t st =
    let own : Stands m m.head m.tail t = record { heads = refl; tails = refl; nulls = st.nulls; begins = st.begins; ends = st.ends; counts = st.counts; few = st.few; takes = st.takes; leads = st.leads } in
    subst (λ z. Decides r (Matches z e t w)) st.heads
    (subst (λ z. Decides r (Matches m.head z t w)) st.tails (λ y. matches→ m t own w (sym is ∙ y), λ y. is ∙ →matches m t own w y))
