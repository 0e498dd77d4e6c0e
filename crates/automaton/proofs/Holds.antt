-- The position automaton takes what the pattern means.
use Rattle.std.proofs.Common.{◌≡◌, ℕ, suc, ◌+◌, ◌-◌, ◌*◌, ◌/◌, ◌%◌, ◌^◌, Bool, true, false, cond, ◌&&◌, ◌||◌, ◌⊎◌, List, [], ◌∷◌, ◌++◌, sym, refl, ap, ◌∙◌, subst, inl, inr, append_assoc, pow-suc, arith, eq-eqb, true-eqb}
use mathlib.Core.Bool.{false≢true}
use mathlib.Core.List.{nil≢cons, cons≢nil, head-eq_of_cons-eq, tail-eq_of_cons-eq}
use native.Mathlib.Nat.{zero-div, div_self, div-eq_of_lt}
use lib.Bits.{bit_or}
use Rattle.std.proofs.lemmas.Bool.{or_cases, or_right, and_parts}
use Rattle.std.proofs.str.Laws.{order}
use Rattle.std.proofs.lemmas.Nat.{pow_pos, pow-add, shl-shr, pow_below}
use Rattle.automaton.specs.declared.Atom.{Atom}
use Rattle.automaton.specs.Language.{fits, Tree, empty, one, either, followed, star, plus, opt, Many, none, more, Then, In}
use Rattle.automaton.specs.Places.{bit, Has, size, null, first, last, Link, links, Linked}
use Rattle.automaton.proofs.Sets.{bit-bit_or}

pub has_split : (a b p : ℕ) → Has (bit_or a b) p → Has a p ⊎ Has b p
has_split a b p h = or_cases (bit a p) (bit b p) (sym (bit-bit_or a b p) ∙ h)

pub has_left : (a b p : ℕ) → Has a p → Has (bit_or a b) p
has_left a b p h = bit-bit_or a b p ∙ ap (λ z. z || bit b p) h

pub has_right : (a b p : ℕ) → Has b p → Has (bit_or a b) p
has_right a b p h = bit-bit_or a b p ∙ or_right (bit a p) (bit b p) h

pub split_if : (b : Bool) (s g p : ℕ) → Has (cond b (bit_or s g) s) p → Has s p ⊎ ((b ≡ true) × Has g p)
split_if true s g p h = elim (has_split s g p h) [ inl i ↦ inl i | inr i ↦ inr (refl, i) ]
split_if false s g p h = inl h

pub has_none : (p : ℕ) → Has 0 p → ⊥
has_none p h = let e = true-eqb (0 / 2 ^ p % 2) 1 (sym h) in omega (arith, e, zero-div (2 ^ p))

pub has_one : (n : ℕ) → Has (2 ^ n) n
has_one n = eq-eqb (2 ^ n / 2 ^ n % 2) 1 (ap (λ m. m % 2) (div_self (pow_pos n)))

pub only_one : (n p : ℕ) → Has (2 ^ n) p → p ≡ n
only_one n p h =
    let e = true-eqb (2 ^ n / 2 ^ p % 2) 1 (sym h) in
    elim (order p n) [
      | inl lt ↦
          let d : ℕ = n - p - 1 in
          let up : n ≡ suc d + p = omega arith in
          let same : 2 ^ n / 2 ^ p ≡ 2 ^ d * 2 = ap (λ m. 2 ^ m / 2 ^ p) up ∙ ap (λ m. m / 2 ^ p) (pow-add 2 (suc d) p) ∙ shl-shr (2 ^ suc d) p ∙ pow-suc 2 d in
          absurd (omega (arith, e, same))
      | inr ge ↦ elim (order n p) [
        | inl lt ↦ absurd (omega (arith, e, div-eq_of_lt (pow_below n p lt)))
        | inr le ↦ omega arith
      ]
    ]

-- a set that counts only under a test
pub has_if : (b : Bool) (s p : ℕ) → Has (cond b s 0) p → (b ≡ true) × Has s p
has_if true s p h = (refl, h)
has_if false s p h = absurd (has_none p h)

pub linked_left : (a b : List Link) (p q : ℕ) → Linked a p q → Linked (a ++ b) p q
linked_left [] b p q h = absurd h
linked_left (l ∷ a) b p q (inl h) = inl h
linked_left (l ∷ a) b p q (inr h) = inr (linked_left a b p q h)

pub linked_right : (a b : List Link) (p q : ℕ) → Linked b p q → Linked (a ++ b) p q
linked_right [] b p q h = h
linked_right (l ∷ a) b p q h = inr (linked_right a b p q h)

pub linked_split : (a b : List Link) (p q : ℕ) → Linked (a ++ b) p q → Linked a p q ⊎ Linked b p q
linked_split [] b p q h = inr h
linked_split (l ∷ a) b p q (inl h) = inl (inl h)
linked_split (l ∷ a) b p q (inr h) = elim (linked_split a b p q h) [ inl i ↦ inl (inr i) | inr i ↦ inr i ]

-- no unit: the pattern takes the empty run exactly where it is nullable
pub empty_left : (u v : List ℕ) → [] ≡ u ++ v → u ≡ []
empty_left [] v e = refl
empty_left (x ∷ u) v e = absurd (nil≢cons e)

empty_right : (u v : List ℕ) → [] ≡ u ++ v → v ≡ []
empty_right [] v e = sym e
empty_right (x ∷ u) v e = absurd (nil≢cons e)

pub null_of : (t : Tree) → In t [] → null t ≡ true
null_of empty h = refl
null_of (one s) h = absurd (nil≢cons h.1)
null_of (either a b) (inl h) = ap (λ z. z || null b) (null_of a h)
null_of (either a b) (inr h) = or_right (null a) (null b) (null_of b h)
null_of (followed a b) h =
    ap (λ z. z && null b) (null_of a (subst (In a) (empty_left h.0 h.1 h.2) h.3))
    ∙ null_of b (subst (In b) (empty_right h.0 h.1 h.2) h.4)
null_of (star a) h = refl
null_of (plus a) h = null_of a (subst (In a) (empty_left h.0 h.1 h.2) h.3)
null_of (opt a) h = refl

pub of_null : (t : Tree) → null t ≡ true → In t []
of_null empty h = refl
of_null (one s) h = absurd (false≢true h)
of_null (either a b) h = elim (or_cases (null a) (null b) h) [ inl i ↦ inl (of_null a i) | inr i ↦ inr (of_null b i) ]
of_null (followed a b) h = let i = and_parts (null a) (null b) h in ([], [], refl, of_null a i.0, of_null b i.1)
of_null (star a) h = none
of_null (plus a) h = ([], [], refl, of_null a h, none)
of_null (opt a) h = inl refl

pub if_has : (b : Bool) (s p : ℕ) → b ≡ true → Has s p → Has (cond b s 0) p
if_has true s p e h = h
if_has false s p e h = absurd (false≢true e)

abbrev pub Lang : Type 1
Lang = List ℕ → Type 0

-- P and then (Q and then k) is (P and then Q) and then k
regroup : {P Q R k : Lang} (w : List ℕ) → ((u v : List ℕ) → P u → Q v → R (u ++ v)) → Then P (Then Q k) w → Then R k w
regroup w f h =
    let t = h.4 in
    (h.0 ++ t.0, t.1, h.2 ∙ ap (λ z. h.0 ++ z) t.2 ∙ sym (append_assoc h.0 t.0 t.1), f h.0 t.0 h.3 t.3, t.4)

-- the whole pattern's atoms by place, and what may follow behind each place
module _ (S : ℕ → Atom) (K : ℕ → List ℕ → Type 0) where
  -- K is right at the places of t, from n on, where k is what follows t
  abbrev pub Holds : Tree → ℕ → Lang → Type 0
  Holds empty n k = Unit {0}
  Holds (one s) n k = (S n ≡ s) × ((w : List ℕ) → K n w → k w) × ((w : List ℕ) → k w → K n w)
  Holds (either a b) n k = Holds a n k × Holds b (n + size a) k
  Holds (followed a b) n k = Holds a n (Then (In b) k) × Holds b (n + size a) k
  Holds (star a) n k = Holds a n (Then (Many (In a)) k)
  Holds (plus a) n k = Holds a n (Then (Many (In a)) k)
  Holds (opt a) n k = Holds a n k

  abbrev pub Ahead : ℕ → ℕ → List ℕ → Type 0
  Ahead f x w = (p : ℕ) × Has f p × (fits (S p) x ≡ true) × K p w

  abbrev pub Enters : Tree → ℕ → Lang → Type 0
  Enters t n k = (x : ℕ) (u v : List ℕ) → In t (x ∷ u) → k v → Ahead (first t n) x (u ++ v)

  ahead_left : (f g x : ℕ) (w : List ℕ) → Ahead f x w → Ahead (bit_or f g) x w
  ahead_left f g x w h = (h.0, has_left f g h.0 h.1, h.2, h.3)

  ahead_right : (f g x : ℕ) (w : List ℕ) → Ahead g x w → Ahead (bit_or f g) x w
  ahead_right f g x w h = (h.0, has_right f g h.0 h.1, h.2, h.3)

  -- a first piece that is not empty
  piece : (a : Tree) (n : ℕ) (Q k : Lang) → Enters a n (Then Q k) → (x : ℕ) (u v : List ℕ) (y : ℕ) (u' v' : List ℕ) → x ∷ u ≡ y ∷ (u' ++ v') → In a (y ∷ u') → Q v' → k v → Ahead (first a n) x (u ++ v)
  piece a n Q k ea x u v y u' v' e i j kv =
      subst (Ahead (first a n) x) (sym (append_assoc u' v' v) ∙ ap (λ z. z ++ v) (sym (tail-eq_of_cons-eq e)))
      (ea x u' (v' ++ v) (subst (λ z. In a (z ∷ u')) (sym (head-eq_of_cons-eq e)) i) (v', v, refl, j, kv))

  many_enter : (a : Tree) (n : ℕ) (k : Lang) → Enters a n (Then (Many (In a)) k) → (x : ℕ) (u v : List ℕ) → k v → {w : List ℕ} → Many (In a) w → x ∷ u ≡ w → Ahead (first a n) x (u ++ v)
  many_enter a n k ea x u v kv none e = absurd (cons≢nil e)
  many_enter a n k ea x u v kv (more [] v' q i m) e = many_enter a n k ea x u v kv m (e ∙ q)
  many_enter a n k ea x u v kv (more (y ∷ u') v' q i m) e = piece a n (Many (In a)) k ea x u v y u' v' (e ∙ q) i m kv

  enter_cat : (a b : Tree) (n : ℕ) (k : Lang) → Enters a n (Then (In b) k) → Enters b (n + size a) k → (x : ℕ) (u v u' v' : List ℕ) → x ∷ u ≡ u' ++ v' → In a u' → In b v' → k v → Ahead (first (followed a b) n) x (u ++ v)
  enter_cat a b n k ea eb x u v [] v' e i j kv =
      let h = eb x u v (subst (In b) (sym e) j) kv in
      let f = first b (n + size a) in
      (h.0, has_right (first a n) (cond (null a) f 0) h.0 (if_has (null a) f h.0 (null_of a i) h.1), h.2, h.3)
  enter_cat a b n k ea eb x u v (y ∷ u') v' e i j kv = ahead_left (first a n) _ x _ (piece a n (In b) k ea x u v y u' v' e i j kv)

  enter_plus : (a : Tree) (n : ℕ) (k : Lang) → Enters a n (Then (Many (In a)) k) → (x : ℕ) (u v u' v' : List ℕ) → x ∷ u ≡ u' ++ v' → In a u' → Many (In a) v' → k v → Ahead (first a n) x (u ++ v)
  enter_plus a n k ea x u v [] v' e i m kv = many_enter a n k ea x u v kv m e
  enter_plus a n k ea x u v (y ∷ u') v' e i m kv = piece a n (Many (In a)) k ea x u v y u' v' e i m kv

  pub enter : (t : Tree) (n : ℕ) (k : Lang) → Holds t n k → Enters t n k
  enter empty n k h x u v i kv = absurd (cons≢nil i)
  enter (one s) n k h x u v i kv =
      (n, has_one n, ap (λ z. fits z x) h.0 ∙ ap (fits s) (head-eq_of_cons-eq i.1) ∙ i.2, h.2 (u ++ v) (subst k (ap (λ z. z ++ v) (sym (tail-eq_of_cons-eq i.1))) kv))
  enter (either a b) n k h x u v (inl i) kv = ahead_left _ _ x _ (enter a n k h.0 x u v i kv)
  enter (either a b) n k h x u v (inr i) kv = ahead_right _ _ x _ (enter b (n + size a) k h.1 x u v i kv)
  enter (followed a b) n k h x u v i kv =
      enter_cat a b n k (enter a n (Then (In b) k) h.0) (enter b (n + size a) k h.1) x u v i.0 i.1 i.2 i.3 i.4 kv
  enter (star a) n k h x u v i kv = many_enter a n k (enter a n (Then (Many (In a)) k) h) x u v kv i refl
  enter (plus a) n k h x u v i kv = enter_plus a n k (enter a n (Then (Many (In a)) k) h) x u v i.0 i.1 i.2 i.3 i.4 kv
  enter (opt a) n k h x u v (inl i) kv = absurd (cons≢nil i)
  enter (opt a) n k h x u v (inr i) kv = enter a n k h x u v i kv

  pub leave : (t : Tree) (n : ℕ) (k : Lang) → Holds t n k → (x : ℕ) (v : List ℕ) → Ahead (first t n) x v → Then (In t) k (x ∷ v)
  leave empty n k h x v d = absurd (has_none d.0 d.1)
  leave (one s) n k h x v d =
      let e = only_one n d.0 d.1 in
      (x ∷ [], v, refl, (x, refl, sym (ap (λ z. fits z x) (ap S e ∙ h.0)) ∙ d.2), h.1 v (subst (λ z. K z v) e d.3))
  leave (either a b) n k h x v d =
      elim (has_split (first a n) (first b (n + size a)) d.0 d.1) [
        | inl i ↦ let r = leave a n k h.0 x v (d.0, i, d.2, d.3) in (r.0, r.1, r.2, inl r.3, r.4)
        | inr i ↦ let r = leave b (n + size a) k h.1 x v (d.0, i, d.2, d.3) in (r.0, r.1, r.2, inr r.3, r.4)
      ]
  leave (followed a b) n k h x v d =
      elim (has_split (first a n) _ d.0 d.1) [
        | inl i ↦ regroup (x ∷ v) (λ u w p q. (u, w, refl, p, q)) (leave a n (Then (In b) k) h.0 x v (d.0, i, d.2, d.3))
        | inr i ↦
            let c = has_if (null a) (first b (n + size a)) d.0 i in
            let r = leave b (n + size a) k h.1 x v (d.0, c.1, d.2, d.3) in
            (r.0, r.1, r.2, ([], r.0, refl, of_null a c.0, r.3), r.4)
      ]
  leave (star a) n k h x v d = regroup (x ∷ v) (λ u w p q. more u w refl p q) (leave a n (Then (Many (In a)) k) h x v d)
  leave (plus a) n k h x v d = regroup (x ∷ v) (λ u w p q. (u, w, refl, p, q)) (leave a n (Then (Many (In a)) k) h x v d)
  leave (opt a) n k h x v d = let r = leave a n k h x v d in (r.0, r.1, r.2, inr r.3, r.4)

  pub ends : (t : Tree) (n : ℕ) (k : Lang) → Holds t n k → (p : ℕ) (w : List ℕ) → Has (last t n) p → k w → K p w
  ends empty n k h p w l kw = absurd (has_none p l)
  ends (one s) n k h p w l kw = subst (λ z. K z w) (sym (only_one n p l)) (h.2 w kw)
  ends (either a b) n k h p w l kw =
      elim (has_split (last a n) (last b (n + size a)) p l) [ inl i ↦ ends a n k h.0 p w i kw | inr i ↦ ends b (n + size a) k h.1 p w i kw ]
  ends (followed a b) n k h p w l kw =
      elim (has_split (last b (n + size a)) _ p l) [
        | inl i ↦ ends b (n + size a) k h.1 p w i kw
        | inr i ↦ let c = has_if (null b) (last a n) p i in ends a n (Then (In b) k) h.0 p w c.1 ([], w, refl, of_null b c.0, kw)
      ]
  ends (star a) n k h p w l kw = ends a n (Then (Many (In a)) k) h p w l ([], w, refl, none, kw)
  ends (plus a) n k h p w l kw = ends a n (Then (Many (In a)) k) h p w l ([], w, refl, none, kw)
  ends (opt a) n k h p w l kw = ends a n k h p w l kw

  pub follows : (t : Tree) (n : ℕ) (k : Lang) → Holds t n k → (p q x : ℕ) (u : List ℕ) → Linked (links t n) p q → fits (S q) x ≡ true → K q u → K p (x ∷ u)
  follows empty n k h p q x u l f kq = absurd l
  follows (one s) n k h p q x u l f kq = absurd l
  follows (either a b) n k h p q x u l f kq =
      elim (linked_split (links a n) _ p q l) [ inl i ↦ follows a n k h.0 p q x u i f kq | inr i ↦ follows b (n + size a) k h.1 p q x u i f kq ]
  follows (followed a b) n k h p q x u l f kq =
      elim (linked_split (links a n) _ p q l) [
        | inl i ↦ follows a n (Then (In b) k) h.0 p q x u i f kq
        | inr i ↦ elim (linked_split (links b (n + size a)) _ p q i) [
          | inl j ↦ follows b (n + size a) k h.1 p q x u j f kq
          | inr j ↦ elim j [
            | inl c ↦ ends a n (Then (In b) k) h.0 p (x ∷ u) c.0 (leave b (n + size a) k h.1 x u (q, c.1, f, kq))
            | inr c ↦ absurd c
          ]
        ]
      ]
  follows (star a) n k h p q x u l f kq =
      elim (linked_split (links a n) _ p q l) [
        | inl i ↦ follows a n (Then (Many (In a)) k) h p q x u i f kq
        | inr j ↦ elim j [
          | inl c ↦ ends a n (Then (Many (In a)) k) h p (x ∷ u) c.0 (regroup (x ∷ u) (λ y w i m. more y w refl i m) (leave a n (Then (Many (In a)) k) h x u (q, c.1, f, kq)))
          | inr c ↦ absurd c
        ]
      ]
  follows (plus a) n k h p q x u l f kq =
      elim (linked_split (links a n) _ p q l) [
        | inl i ↦ follows a n (Then (Many (In a)) k) h p q x u i f kq
        | inr j ↦ elim j [
          | inl c ↦ ends a n (Then (Many (In a)) k) h p (x ∷ u) c.0 (regroup (x ∷ u) (λ y w i m. more y w refl i m) (leave a n (Then (Many (In a)) k) h x u (q, c.1, f, kq)))
          | inr c ↦ absurd c
        ]
      ]
  follows (opt a) n k h p q x u l f kq = follows a n k h p q x u l f kq

  -- p is a place of t
  abbrev pub At : Tree → ℕ → ℕ → Type 0
  At empty n p = ⊥
  At (one s) n p = p ≡ n
  At (either a b) n p = At a n p ⊎ At b (n + size a) p
  At (followed a b) n p = At a n p ⊎ At b (n + size a) p
  At (star a) n p = At a n p
  At (plus a) n p = At a n p
  At (opt a) n p = At a n p

  abbrev pub Onward : List Link → ℕ → List ℕ → Type 0
  Onward ls p w = (x : ℕ) × (u : List ℕ) × (w ≡ x ∷ u) × (q : ℕ) × Linked ls p q × (fits (S q) x ≡ true) × K q u

  abbrev pub Goes : Tree → ℕ → Lang → ℕ → List ℕ → Type 0
  Goes t n k p w = (Has (last t n) p × k w) ⊎ Onward (links t n) p w

  on : (ls ms : List Link) (p : ℕ) (w : List ℕ) → ((q : ℕ) → Linked ls p q → Linked ms p q) → Onward ls p w → Onward ms p w
  on ls ms p w f o = (o.0, o.1, o.2, o.3, f o.3 o.4, o.5, o.6)

  -- behind the last place of a, what follows a begins or is empty
  behind : (ls : List Link) (l f p : ℕ) (w : List ℕ) (P k : Lang) → Has l p → ((q : ℕ) → Has l p × Has f q → Linked ls p q) → ((x : ℕ) (u v : List ℕ) → P (x ∷ u) → k v → Ahead f x (u ++ v)) → (u v : List ℕ) → w ≡ u ++ v → P u → k v → (P [] × k w) ⊎ Onward ls p w
  behind ls l f p w P k hl g e [] v q i kv = inl (i, subst k (sym q) kv)
  behind ls l f p w P k hl g e (x ∷ u) v q i kv =
      let d = e x u v i kv in
      inr (x, u ++ v, q, d.0, g d.0 (hl, d.1), d.2, d.3)

  pub goes : (t : Tree) (n : ℕ) (k : Lang) → Holds t n k → (p : ℕ) (w : List ℕ) → At t n p → K p w → Goes t n k p w
  goes empty n k h p w at kp = absurd at
  goes (one s) n k h p w at kp = inl (subst (λ z. Has (2 ^ n) z) (sym at) (has_one n), h.1 w (subst (λ z. K z w) at kp))
  goes (either a b) n k h p w (inl at) kp =
      elim (goes a n k h.0 p w at kp) [
        | inl i ↦ inl (has_left _ _ p i.0, i.1)
        | inr o ↦ inr (on (links a n) _ p w (λ q. linked_left (links a n) _ p q) o)
      ]
  goes (either a b) n k h p w (inr at) kp =
      elim (goes b (n + size a) k h.1 p w at kp) [
        | inl i ↦ inl (has_right _ _ p i.0, i.1)
        | inr o ↦ inr (on (links b (n + size a)) _ p w (λ q. linked_right (links a n) _ p q) o)
      ]
  goes (followed a b) n k h p w (inl at) kp =
      elim (goes a n (Then (In b) k) h.0 p w at kp) [
        | inl i ↦
            let t = i.1 in
            elim (behind (links (followed a b) n) (last a n) (first b (n + size a)) p w (In b) k i.0
            (λ q c. linked_right (links a n) _ p q (linked_right (links b (n + size a)) _ p q (inl c))) (enter b (n + size a) k h.1) t.0 t.1 t.2 t.3 t.4) [
              | inl e ↦ inl (has_right (last b (n + size a)) _ p (if_has (null b) (last a n) p (null_of b e.0) i.0), e.1)
              | inr o ↦ inr o
            ]
        | inr o ↦ inr (on (links a n) _ p w (λ q. linked_left (links a n) _ p q) o)
      ]
  goes (followed a b) n k h p w (inr at) kp =
      elim (goes b (n + size a) k h.1 p w at kp) [
        | inl i ↦ inl (has_left _ _ p i.0, i.1)
        | inr o ↦ inr (on (links b (n + size a)) _ p w (λ q c. linked_right (links a n) _ p q (linked_left (links b (n + size a)) _ p q c)) o)
      ]
  goes (star a) n k h p w at kp =
      elim (goes a n (Then (Many (In a)) k) h p w at kp) [
        | inl i ↦
            let t = i.1 in
            elim (behind (links (star a) n) (last a n) (first a n) p w (Many (In a)) k i.0
            (λ q c. linked_right (links a n) _ p q (inl c)) (λ x u v m kv. many_enter a n k (enter a n (Then (Many (In a)) k) h) x u v kv m refl) t.0 t.1 t.2 t.3 t.4) [
              | inl e ↦ inl (i.0, e.1)
              | inr o ↦ inr o
            ]
        | inr o ↦ inr (on (links a n) _ p w (λ q. linked_left (links a n) _ p q) o)
      ]
  goes (plus a) n k h p w at kp =
      elim (goes a n (Then (Many (In a)) k) h p w at kp) [
        | inl i ↦
            let t = i.1 in
            elim (behind (links (plus a) n) (last a n) (first a n) p w (Many (In a)) k i.0
            (λ q c. linked_right (links a n) _ p q (inl c)) (λ x u v m kv. many_enter a n k (enter a n (Then (Many (In a)) k) h) x u v kv m refl) t.0 t.1 t.2 t.3 t.4) [
              | inl e ↦ inl (i.0, e.1)
              | inr o ↦ inr o
            ]
        | inr o ↦ inr (on (links a n) _ p w (λ q. linked_left (links a n) _ p q) o)
      ]
  goes (opt a) n k h p w at kp = goes a n k h p w at kp
