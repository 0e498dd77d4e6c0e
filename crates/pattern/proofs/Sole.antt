-- An item and an atom: read as the one that stands there, or refused since none does.
use Rattle.std.proofs.Common.{◌≡◌, ℕ, suc, ◌+◌, ◌-◌, ◌<◌, ◌≤◌, Bool, true, false, cond, eqb, List, [], ◌∷◌, ◌++◌, length, take, drop, Some, None, Option, sym, refl, ap, ◌∙◌, subst, true≢false, append_assoc, append-nil, arith}
use mathlib.Core.Bool.{false≢true}
use Rattle.std.proofs.lemmas.List.{length-drop, length-append, append_cancel_left, take_at, drop-drop, drop_at}
use Rattle.std.proofs.lemmas.Bool.{eqb-true, or_parts}
use Rattle.automaton.specs.declared.Atom.{Atom}
use Rattle.automaton.specs.declared.Atom.TheVariants.{Plain, Any}
use Rattle.automaton.specs.Language.{Tree, one, plus, opt, star}
use Rattle.automaton.specs.Places.{size}
use Rattle.pattern.specs.Signs.{special, begins, plainly, simple}
use Rattle.pattern.specs.Signs.{escaped as escape_at}
use Rattle.pattern.specs.Grammar.{choice, item, atom, Spells, once, starred, plussed, queried, dot, unit, escaped, bracketed}
use Rattle.pattern.specs.Parts.{Piece, Table, Moved, Single, Grown}
use Rattle.pattern.specs.Reading.{repeats, Read, Refused}
use Rattle.pattern.proofs.Onward.{no_eq}
use Rattle.pattern.proofs.Build.{behind, stood_within, got_once, got_star, got_plus, got_opt, got_group, got_single}

-- what a repeat makes of a tree
pub data Repeat : Tree → Tree → List ℕ → Type 0 where
  unmarked : {a : Tree} → Repeat a a []
  any_number : {a : Tree} → Repeat a (star a) (42 ∷ [])
  one_or_more : {a : Tree} → Repeat a (plus a) (43 ∷ [])
  none_or_one : {a : Tree} → Repeat a (opt a) (63 ∷ [])

pub record Repeated (d : ℕ) (t : Tree) (u : List ℕ) : Type 0 where
  pub tree : Tree
  pub front : List ℕ
  pub mark : List ℕ
  pub whole : u ≡ front ++ mark
  pub spelt : Spells d atom tree front
  pub repeat : Repeat tree t mark

item_split : {d : ℕ} {t : Tree} {u : List ℕ} → Spells d item t u → Repeated d t u
item_split {d} {t} {u} (once x) = record { tree = t; front = u; mark = []; whole = sym (append-nil u); spelt = x; repeat = unmarked }
item_split (starred {a = a} u q x) = record { tree = a; front = u; mark = 42 ∷ []; whole = q; spelt = x; repeat = any_number }
item_split (plussed {a = a} u q x) = record { tree = a; front = u; mark = 43 ∷ []; whole = q; spelt = x; repeat = one_or_more }
item_split (queried {a = a} u q x) = record { tree = a; front = u; mark = 63 ∷ []; whole = q; spelt = x; repeat = none_or_one }

repeat_size : {a t : Tree} {m : List ℕ} → Repeat a t m → size a ≤ size t
repeat_size unmarked = omega arith
repeat_size any_number = omega arith
repeat_size one_or_more = omega arith
repeat_size none_or_one = omega arith

not_both : (b : Bool) → b ≡ true → b ≡ false → ⊥
not_both b x y = true≢false (sym x ∙ y)

mark_star : {a t : Tree} {m : List ℕ} (v : List ℕ) → Repeat a t m → repeats v ≡ false → begins 42 (m ++ v) ≡ true → (t ≡ star a) × (m ≡ 42 ∷ [])
mark_star v unmarked h e = absurd (not_both _ e (or_parts _ _ (or_parts _ _ h).0).0)
mark_star v any_number h e = (refl, refl)
mark_star v one_or_more h e = absurd (false≢true e)
mark_star v none_or_one h e = absurd (false≢true e)

mark_plus : {a t : Tree} {m : List ℕ} (v : List ℕ) → Repeat a t m → repeats v ≡ false → begins 43 (m ++ v) ≡ true → (t ≡ plus a) × (m ≡ 43 ∷ [])
mark_plus v unmarked h e = absurd (not_both _ e (or_parts _ _ (or_parts _ _ h).0).1)
mark_plus v any_number h e = absurd (false≢true e)
mark_plus v one_or_more h e = (refl, refl)
mark_plus v none_or_one h e = absurd (false≢true e)

mark_opt : {a t : Tree} {m : List ℕ} (v : List ℕ) → Repeat a t m → repeats v ≡ false → begins 63 (m ++ v) ≡ true → (t ≡ opt a) × (m ≡ 63 ∷ [])
mark_opt v unmarked h e = absurd (not_both _ e (or_parts _ _ h).1)
mark_opt v any_number h e = absurd (false≢true e)
mark_opt v one_or_more h e = absurd (false≢true e)
mark_opt v none_or_one h e = (refl, refl)

mark_none : {a t : Tree} {m : List ℕ} (v : List ℕ) → Repeat a t m → begins 42 (m ++ v) ≡ false → begins 43 (m ++ v) ≡ false → begins 63 (m ++ v) ≡ false → (t ≡ a) × (m ≡ [])
mark_none v unmarked e f g = (refl, refl)
mark_none v any_number e f g = absurd (true≢false e)
mark_none v one_or_more e f g = absurd (true≢false f)
mark_none v none_or_one e f g = absurd (true≢false g)

pub item_refused : (us : List ℕ) (d at n : ℕ) → Refused atom us d at n → Refused item us d at n
item_refused us d at n ref t u v s e h few =
    let w = item_split s in
    let z = repeat_size w.repeat in
    ref w.tree w.front (w.mark ++ v) w.spelt (e ∙ ap (λ z. z ++ v) w.whole ∙ append_assoc w.front w.mark v) tt (omega arith)

module _ {us : List ℕ} {d at n : ℕ} {f g : Table} {a : Piece} (x : Read atom us d at n f g a) where
  abbrev Marked : Tree → List ℕ → List ℕ → Type 0
  Marked t u v = (m : List ℕ) × Repeat x.got.tree t m × (u ≡ x.got.text ++ m) × (drop a.at us ≡ m ++ v)

  marked : (D : ℕ) (t : Tree) (u v : List ℕ) → Spells D item t u → drop at us ≡ u ++ v → Marked t u v
  marked D t u v s e =
      let w = item_split s in
      let e' = e ∙ ap (λ z. z ++ v) w.whole ∙ append_assoc w.front w.mark v in
      let o = x.only D w.tree w.front (w.mark ++ v) w.spelt e' tt in
      (w.mark, subst (λ z. Repeat z t w.mark) o.0 w.repeat, w.whole ∙ ap (λ z. z ++ w.mark) o.1, append_cancel_left x.got.text (drop a.at us) (w.mark ++ v) (sym x.got.split ∙ e' ∙ ap (λ z. z ++ (w.mark ++ v)) o.1))

  pub item_once : begins 42 (drop a.at us) ≡ false → begins 43 (drop a.at us) ≡ false → begins 63 (drop a.at us) ≡ false → Read item us d at n f g a
  item_once p q r = record {
    got = got_once x.got;
    only = λ D t u v s e h.
        let m = marked D t u v s e in
        let i = mark_none v m.1 (sym (ap (begins 42) m.3) ∙ p) (sym (ap (begins 43) m.3) ∙ q) (sym (ap (begins 63) m.3) ∙ r) in
        (i.0, m.2 ∙ ap (λ z. x.got.text ++ z) i.1 ∙ append-nil _);
    inside = x.inside;
  }

  module _ {r : Piece} {b : Bool} (j : Moved a b r) where
    on : (c : ℕ) → begins c (drop a.at us) ≡ true → (at ≤ r.at) × (r.at ≤ length us)
    on c e = let s = stood_within us a.at c e in (omega (arith, x.inside, j.stays), omega (arith, j.stays))

    pub item_star : (k : Table) → begins 42 (drop a.at us) ≡ true → k.atoms ≡ g.atoms → Grown g.follow k.follow ((a.last, a.first) ∷ []) → b ≡ true → Read item us d at n f k r
    item_star k p same grow z = record {
      got = got_star x.got j k p same grow z;
      only = λ D t u v s e h.
          let m = marked D t u v s e in
          let i = mark_star v m.1 h (sym (ap (begins 42) m.3) ∙ p) in
          (i.0, m.2 ∙ ap (λ z. x.got.text ++ z) i.1);
      inside = on 42 p;
    }

    pub item_plus : (k : Table) → begins 43 (drop a.at us) ≡ true → k.atoms ≡ g.atoms → Grown g.follow k.follow ((a.last, a.first) ∷ []) → b ≡ a.null → Read item us d at n f k r
    item_plus k p same grow z = record {
      got = got_plus x.got j k p same grow z;
      only = λ D t u v s e h.
          let m = marked D t u v s e in
          let i = mark_plus v m.1 h (sym (ap (begins 43) m.3) ∙ p) in
          (i.0, m.2 ∙ ap (λ z. x.got.text ++ z) i.1);
      inside = on 43 p;
    }

    pub item_opt : begins 63 (drop a.at us) ≡ true → b ≡ true → Read item us d at n f g r
    item_opt p z = record {
      got = got_opt x.got j p z;
      only = λ D t u v s e h.
          let m = marked D t u v s e in
          let i = mark_opt v m.1 h (sym (ap (begins 63) m.3) ∙ p) in
          (i.0, m.2 ∙ ap (λ z. x.got.text ++ z) i.1);
      inside = on 63 p;
    }

-- an atom that begins with a bracket
pub record Group (D : ℕ) (t : Tree) (u : List ℕ) : Type 0 where
  pub depth : ℕ
  pub deeper : D ≡ suc depth
  pub inner : List ℕ
  pub whole : u ≡ 40 ∷ (inner ++ (41 ∷ []))
  pub spelt : Spells depth choice t inner

atom_open : {D : ℕ} {t : Tree} {u : List ℕ} → Spells D atom t u → (v : List ℕ) → begins 40 (u ++ v) ≡ true → Group D t u
atom_open dot v e = absurd (false≢true e)
atom_open (unit c h) v e = absurd (not_both _ e (no_eq c 40 refl h))
atom_open (escaped c h) v e = absurd (false≢true e)
atom_open (bracketed {d = d} u q x) v e = record { depth = d; deeper = refl; inner = u; whole = q; spelt = x }

module _ (us : List ℕ) (at : ℕ) (here : begins 40 (drop at us) ≡ true) where
  group : {D : ℕ} {t : Tree} {u : List ℕ} → Spells D atom t u → (v : List ℕ) → drop at us ≡ u ++ v → Group D t u
  group s v e = atom_open s v (sym (ap (begins 40) e) ∙ here)

  inside_of : {D : ℕ} {t : Tree} {u : List ℕ} (v : List ℕ) → drop at us ≡ u ++ v → (w : Group D t u) → drop (at + 1) us ≡ w.inner ++ (41 ∷ v)
  inside_of v e w = behind us at 40 _ (e ∙ ap (λ z. z ++ v) w.whole) ∙ append_assoc w.inner (41 ∷ []) v

  pub group_refused : (d n : ℕ) {m : ℕ} → (1 ≤ d) × (m ≡ d - 1) → Refused choice us m (at + 1) n → Refused atom us d at n
  group_refused d n {m} less ref t u v s e h few =
      let w = group s v e in
      let g = w.deeper in
      let k : w.depth ≡ m = omega (arith, less.0, less.1) in
      ref t w.inner (41 ∷ v) (subst (λ i. Spells i choice t w.inner) k w.spelt) (inside_of v e w) (refl, refl) few

  pub group_open : {d n m : ℕ} {f g : Table} {p : Piece} → Read choice us d (at + 1) n f g p → begins 41 (drop p.at us) ≡ false → Refused atom us m at n
  group_open {d} {n} {m} {f} {g} {p} x no-close t u v s e h few =
      let w = group s v e in
      let e' = inside_of v e w in
      let o = x.only w.depth t w.inner (41 ∷ v) w.spelt e' (refl, refl) in
      let left = append_cancel_left x.got.text (drop p.at us) (41 ∷ v) (sym x.got.split ∙ e' ∙ ap (λ z. z ++ (41 ∷ v)) o.1) in
      false≢true (sym no-close ∙ ap (begins 41) left)

  pub group_read : {d m n : ℕ} {f g : Table} {p r : Piece} {b : Bool} → (1 ≤ d) × (m ≡ d - 1) → Read choice us m (at + 1) n f g p → begins 41 (drop p.at us) ≡ true → Moved p b r → b ≡ p.null → Read atom us d at n f g r
  group_read {d} {m} {n} {f} {g} {p} {r} less x close j z =
      let k : suc m ≡ d = omega (arith, less.0, less.1) in
      let c = stood_within us p.at 41 close in
      subst (λ i. Read atom us i at n f g r) k (record {
        got = got_group here x.got close j z;
        only = λ D t u v s e h.
            let w = group s v e in
            let o = x.only w.depth t w.inner (41 ∷ v) w.spelt (inside_of v e w) (refl, refl) in
            (o.0, w.whole ∙ ap (λ z. 40 ∷ (z ++ (41 ∷ []))) o.1);
        inside = (omega (arith, x.inside, j.stays), omega (arith, j.stays));
      })

-- an atom for one unit
pub record Simple (t : Tree) (u s : List ℕ) : Type 0 where
  pub atom : Atom
  pub tree : t ≡ one atom
  pub found : simple s ≡ Some (atom, length u)

simple_of : {D : ℕ} {t : Tree} {u : List ℕ} → Spells D atom t u → (v : List ℕ) → begins 40 (u ++ v) ≡ false → Simple t u (u ++ v)
simple_of dot v e = record { atom = Any; tree = refl; found = refl }
simple_of (unit c h) v e = record {
  atom = Plain c;
  tree = refl;
  found = λ i. cond (no_eq c 92 refl h i) (escape_at v) (cond (no_eq c 46 refl h i) (Some (Any, 1)) (cond (h i) None (Some (Plain c, 1))));
}
simple_of (escaped c h) v e = record { atom = Plain c; tree = refl; found = ap (λ b. cond b (Some (Plain c, 2)) None) h }
simple_of (bracketed u q x) v e = absurd (true≢false (sym (ap (λ z. begins 40 (z ++ v)) q) ∙ e))

-- and back
pub record Spelt (d : ℕ) (a : Atom) (k : ℕ) (s : List ℕ) : Type 0 where
  pub text : List ℕ
  pub rest : List ℕ
  pub spelt : Spells d atom (one a) text
  pub split : s ≡ text ++ rest
  pub long : length text ≡ k

never : {a : Atom × ℕ} → None ≡ Some a → ⊥
never e = let z : ◌≡◌ {A = ℕ} 0 1 = cc in omega arith

same_found : {a b : Atom} {k l : ℕ} → ◌≡◌ {A = Option (Atom × ℕ)} (Some (a, k)) (Some (b, l)) → (a ≡ b) × (k ≡ l)
same_found {a} {b} {k} {l} e = let p : ◌≡◌ {A = Atom × ℕ} (a, k) (b, l) = cc in (ap (λ z. z.0) p, ap (λ z. z.1) p)

module _ {d : ℕ} (a : Atom) (k : ℕ) where
  from_escape : (s : List ℕ) → escape_at s ≡ Some (a, k) → Spelt d a k (92 ∷ s)
  from_escape [] e = absurd (never e)
  from_escape (c ∷ s) e = go (special c) refl e
    where
      go : (b : Bool) → special c ≡ b → cond {A = Option (Atom × ℕ)} b (Some (Plain c, 2)) None ≡ Some (a, k) → Spelt d a k (92 ∷ c ∷ s)
      go true h e =
          let p = (same_found e).0 in
          let q = (same_found e).1 in
          subst (λ z. Spelt d z k (92 ∷ c ∷ s)) p (record { text = 92 ∷ c ∷ []; rest = s; spelt = escaped c h; split = refl; long = q })
      go false h e = absurd (never e)

  from_plain : (c : ℕ) (s : List ℕ) → plainly c ≡ Some (a, k) → Spelt d a k (c ∷ s)
  from_plain c s e = go (eqb c 46) (special c) refl refl e
    where
      go : (b b' : Bool) → eqb c 46 ≡ b → special c ≡ b' → cond {A = Option (Atom × ℕ)} b (Some (Any, 1)) (cond b' None (Some (Plain c, 1))) ≡ Some (a, k) → Spelt d a k (c ∷ s)
      go true b' h g e =
          let p = (same_found e).0 in
          let q = (same_found e).1 in
          subst (λ z. Spelt d z k (c ∷ s)) p (record { text = 46 ∷ []; rest = s; spelt = dot; split = ap (λ z. z ∷ s) (eqb-true c 46 h); long = q })
      go false true h g e = absurd (never e)
      go false false h g e =
          let p = (same_found e).0 in
          let q = (same_found e).1 in
          subst (λ z. Spelt d z k (c ∷ s)) p (record { text = c ∷ []; rest = s; spelt = unit c g; split = refl; long = q })

  pub spelt_of : (s : List ℕ) → simple s ≡ Some (a, k) → Spelt d a k s
  spelt_of [] e = absurd (never e)
  spelt_of (c ∷ s) e = go (eqb c 92) refl e
    where
      go : (b : Bool) → eqb c 92 ≡ b → cond b (escape_at s) (plainly c) ≡ Some (a, k) → Spelt d a k (c ∷ s)
      go true h e = subst (λ z. Spelt d a k (z ∷ s)) (sym (eqb-true c 92 h)) (from_escape s e)
      go false h e = from_plain c s e

module _ (us : List ℕ) (at : ℕ) (away : begins 40 (drop at us) ≡ false) where
  one_unit : {D : ℕ} {t : Tree} {u : List ℕ} → Spells D atom t u → (v : List ℕ) → drop at us ≡ u ++ v → Simple t u (u ++ v)
  one_unit s v e = simple_of s v (sym (ap (begins 40) e) ∙ away)

  pub simple_refused : (d n : ℕ) → None ≡ simple (drop at us) → Refused atom us d at n
  simple_refused d n gone t u v s e h few = let w = one_unit s v e in never (gone ∙ ap simple e ∙ w.found)

  pub simple_read : {d n : ℕ} {f g : Table} {r : Piece} (a : Atom) (k : ℕ) → at ≤ length us → n < 60 → Some (a, k) ≡ simple (drop at us) → take (n + 1) g.atoms ≡ take n f.atoms ++ a ∷ [] → g.follow ≡ f.follow → Single at k n r → Read atom us d at n f g r
  simple_read {d} {n} {f} {g} {r} a k le few is put same j =
      let w : Spelt d a k (drop at us) = spelt_of a k (drop at us) (sym is) in
      let left : drop (at + length w.text) us ≡ w.rest = sym (drop-drop (length w.text) at us) ∙ ap (drop (length w.text)) w.split ∙ drop_at w.text w.rest (length w.text) refl in
      let l = sym (length-drop at us) ∙ ap length w.split ∙ length-append w.text w.rest in
      record {
        got = got_single a w.text w.spelt (w.split ∙ ap (λ z. w.text ++ z) (sym left)) few put same (subst (λ z. Single at z n r) (sym w.long) j);
        only = λ D t u v s e h.
            let o = one_unit s v e in
            let eq : ◌≡◌ {A = Option (Atom × ℕ)} (Some (o.atom, length u)) (Some (a, k)) = sym o.found ∙ sym (ap simple e) ∙ sym is in
            let p = (same_found eq).0 in
            let q = (same_found eq).1 in
            (o.tree ∙ ap one p, sym (take_at u v k q) ∙ ap (take k) (sym e ∙ w.split) ∙ take_at w.text w.rest k w.long);
        inside = (omega (arith, j.stays), omega (arith, j.stays, w.long));
      }

pub simple_inside : (us : List ℕ) (at : ℕ) (a : Atom) (k : ℕ) → at ≤ length us → Some (a, k) ≡ simple (drop at us) → at + k ≤ length us
simple_inside us at a k le is =
    let w : Spelt 0 a k (drop at us) = spelt_of a k (drop at us) (sym is) in
    let l = sym (length-drop at us) ∙ ap length w.split ∙ length-append w.text w.rest in
    let z = some_unit w.spelt in
    omega (arith, w.long)
  where
    some_unit : {t : Tree} {u : List ℕ} → Spells 0 atom t u → 0 < length u
    some_unit dot = omega arith
    some_unit (unit c h) = omega arith
    some_unit (escaped c h) = omega arith
