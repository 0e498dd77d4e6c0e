-- What has been read, put together.
use Rattle.std.proofs.Common.{◌≡◌, ℕ, suc, ◌+◌, ◌<◌, ◌≤◌, Bool, true, cond, ◌&&◌, ◌||◌, List, [], ◌∷◌, ◌++◌, length, take, drop, sym, refl, ap, ◌∙◌, subst, append_assoc, append-nil, add-zero, arith}
use lib.Bits.{bit_or}
use Rattle.std.proofs.lemmas.List.{length-drop, drop-drop}
use Rattle.std.proofs.lemmas.Bool.{eqb-true, false≢true}
use Rattle.automaton.specs.declared.Atom.{Atom}
use Rattle.automaton.specs.Language.{empty, one, either, followed, plus, opt, star}
use Rattle.automaton.specs.Places.{first, last, size, links, atoms_of}
use Rattle.pattern.specs.Signs.{begins}
use Rattle.pattern.specs.Grammar.{Kind, choice, sequence, item, atom, Spells, one_way, or_way, nothing, and_then, once, starred, plussed, queried, bracketed}
use Rattle.pattern.specs.Parts.{Piece, Table, Either, Both, Moved, Single, Grown}
use Rattle.pattern.specs.Reading.{Got}
use Rattle.pattern.proofs.Grow.{grown_none, grown_more}

starts : (c : ℕ) (s : List ℕ) → begins c s ≡ true → (r : List ℕ) × (s ≡ c ∷ r)
starts c [] h = absurd (false≢true h)
starts c (u ∷ us) h = (us, ap (λ z. z ∷ us) (eqb-true u c h))

-- one unit on
pub behind : (us : List ℕ) (i c : ℕ) (v : List ℕ) → drop i us ≡ c ∷ v → drop (i + 1) us ≡ v
behind us i c v e = sym (drop-drop 1 i us) ∙ ap (drop 1) e

-- the unit c stands at the place
pub stood : (us : List ℕ) (i c : ℕ) → begins c (drop i us) ≡ true → drop i us ≡ c ∷ drop (i + 1) us
stood us i c h =
    let r = starts c (drop i us) h in
    r.1 ∙ ap (λ z. c ∷ z) (sym (behind us i c r.0 r.1))

pub stood_within : (us : List ℕ) (i c : ℕ) → begins c (drop i us) ≡ true → i < length us
stood_within us i c h =
    let r = starts c (drop i us) h in
    let l = sym (length-drop i us) ∙ ap length r.1 in
    omega arith

abbrev pub got_empty : (us : List ℕ) (d at n : ℕ) (t : Table) (p : Piece) → n ≤ 60 → p.at ≡ at → p.next ≡ n → p.first ≡ 0 → p.last ≡ 0 → p.null ≡ true → Got sequence us d at n t t p
got_empty us d at n t p few a b f l z = record {
  tree = empty;
  text = [];
  split = ap (λ i. drop i us) (sym a);
  spelt = nothing;
  begins = f;
  ends = l;
  nulls = z;
  counts = b ∙ sym (add-zero n);
  few = subst (λ i. i ≤ 60) (sym b) few;
  takes = ap (λ i. take i t.atoms) b ∙ sym (append-nil _);
  leads = grown_none t.follow t.follow refl;
}

abbrev pub got_way : {us : List ℕ} {d at n : ℕ} {f g : Table} {p : Piece} → Got sequence us d at n f g p → Got choice us d at n f g p
got_way x = record { tree = x.tree; text = x.text; split = x.split; spelt = one_way x.spelt; begins = x.begins; ends = x.ends; nulls = x.nulls; counts = x.counts; few = x.few; takes = x.takes; leads = x.leads }

abbrev pub got_once : {us : List ℕ} {d at n : ℕ} {f g : Table} {p : Piece} → Got atom us d at n f g p → Got item us d at n f g p
got_once x = record { tree = x.tree; text = x.text; split = x.split; spelt = once x.spelt; begins = x.begins; ends = x.ends; nulls = x.nulls; counts = x.counts; few = x.few; takes = x.takes; leads = x.leads }

module _ {us : List ℕ} {d at n : ℕ} {f g k : Table} {a b : Piece} where
  -- what was read behind x has its places numbered from x's end
  pub atoms_more : {K L : Kind} {i : ℕ} (x : Got K us d at n f g a) (y : Got L us d i a.next g k b) → take b.next k.atoms ≡ take n f.atoms ++ (atoms_of x.tree ++ atoms_of y.tree)
  atoms_more x y = y.takes ∙ ap (λ z. z ++ atoms_of y.tree) x.takes ∙ append_assoc (take n f.atoms) (atoms_of x.tree) (atoms_of y.tree)

  pub leads_more : {K L : Kind} {i : ℕ} (x : Got K us d at n f g a) (y : Got L us d i a.next g k b) → Grown f.follow k.follow (links x.tree n ++ links y.tree (n + size x.tree))
  leads_more x y = grown_more f.follow g.follow k.follow _ _ x.leads (subst (λ m. Grown g.follow k.follow (links y.tree m)) x.counts y.leads)

  abbrev pub got_either : {r : Piece} (x : Got choice us d at n f g a) → begins 124 (drop a.at us) ≡ true → (y : Got sequence us d (a.at + 1) a.next g k b) → Either a b r → Got choice us d at n f k r
  got_either {r} x e y j = record {
    tree = either x.tree y.tree;
    text = x.text ++ (124 ∷ y.text);
    split =
        x.split
        ∙ ap (λ z. x.text ++ z) (stood us a.at 124 e ∙ ap (λ z. 124 ∷ z) (y.split ∙ ap (λ z. y.text ++ drop z us) (sym j.stays)))
        ∙ sym (append_assoc x.text (124 ∷ y.text) (drop r.at us));
    spelt = or_way x.text y.text refl x.spelt y.spelt;
    begins = j.begins ∙ (λ i. bit_or (x.begins i) ((y.begins ∙ ap (first y.tree) x.counts) i));
    ends = j.ends ∙ (λ i. bit_or (x.ends i) ((y.ends ∙ ap (last y.tree) x.counts) i));
    nulls = j.nulls ∙ (λ i. x.nulls i || y.nulls i);
    counts = omega (arith, j.counts, x.counts, y.counts);
    few = subst (λ i. i ≤ 60) (sym j.counts) y.few;
    takes = ap (λ i. take i k.atoms) j.counts ∙ atoms_more x y;
    leads = leads_more x y;
  }

  abbrev pub got_both : {l : Table} {r : Piece} (x : Got sequence us d at n f g a) (y : Got item us d a.at a.next g k b) → l.atoms ≡ k.atoms → Grown k.follow l.follow ((a.last, b.first) ∷ []) → Both a b r → Got sequence us d at n f l r
  got_both {l} {r} x y same grow j = record {
    tree = followed x.tree y.tree;
    text = x.text ++ y.text;
    split =
        x.split
        ∙ ap (λ z. x.text ++ z) (y.split ∙ ap (λ z. y.text ++ drop z us) (sym j.stays))
        ∙ sym (append_assoc x.text y.text (drop r.at us));
    spelt = and_then x.text y.text refl x.spelt y.spelt;
    begins = j.begins ∙ (λ i. bit_or (x.begins i) (cond (x.nulls i) ((y.begins ∙ ap (first y.tree) x.counts) i) 0));
    ends = j.ends ∙ (λ i. bit_or ((y.ends ∙ ap (last y.tree) x.counts) i) (cond (y.nulls i) (x.ends i) 0));
    nulls = j.nulls ∙ (λ i. x.nulls i && y.nulls i);
    counts = omega (arith, j.counts, x.counts, y.counts);
    few = subst (λ i. i ≤ 60) (sym j.counts) y.few;
    takes = ap (λ z. take r.next z) same ∙ ap (λ i. take i k.atoms) j.counts ∙ atoms_more x y;
    leads =
        subst (Grown f.follow l.follow) (append_assoc (links x.tree n) (links y.tree (n + size x.tree)) _)
        (grown_more f.follow k.follow l.follow _ _ (leads_more x y)
        (subst (λ z. Grown k.follow l.follow ((z, first y.tree (n + size x.tree)) ∷ [])) x.ends
        (subst (λ z. Grown k.follow l.follow ((a.last, z) ∷ [])) (y.begins ∙ ap (first y.tree) x.counts) grow)));
  }

-- an atom and the unit c behind it
pub split_on : {us : List ℕ} {d at n : ℕ} {f g : Table} {a r : Piece} {b : Bool} (c : ℕ) (x : Got atom us d at n f g a) → begins c (drop a.at us) ≡ true → Moved a b r → drop at us ≡ (x.text ++ (c ∷ [])) ++ drop r.at us
split_on {us} {d} {at} {n} {f} {g} {a} {r} c x e j =
    x.split ∙ ap (λ z. x.text ++ z) (stood us a.at c e ∙ ap (λ z. c ∷ drop z us) (sym j.stays)) ∙ sym (append_assoc x.text (c ∷ []) (drop r.at us))

module _ {us : List ℕ} {d at n : ℕ} {f g : Table} {a r : Piece} {b : Bool} (x : Got atom us d at n f g a) (j : Moved a b r) where
  pub same_count : r.next ≡ n + size x.tree
  same_count = j.counts ∙ x.counts

  pub same_few : r.next ≤ 60
  same_few = subst (λ i. i ≤ 60) (sym j.counts) x.few

  pub same_takes : (k : Table) → k.atoms ≡ g.atoms → take r.next k.atoms ≡ take n f.atoms ++ atoms_of x.tree
  same_takes k e = ap (λ z. take r.next z) e ∙ ap (λ i. take i g.atoms) j.counts ∙ x.takes

  pub round : (k : Table) → Grown g.follow k.follow ((a.last, a.first) ∷ []) → Grown f.follow k.follow (links x.tree n ++ (last x.tree n, first x.tree n) ∷ [])
  round k grow =
      grown_more f.follow g.follow k.follow _ _ x.leads
      (subst (λ z. Grown g.follow k.follow ((z, first x.tree n) ∷ [])) x.ends (subst (λ z. Grown g.follow k.follow ((a.last, z) ∷ [])) x.begins grow))

  abbrev pub got_star : (k : Table) → begins 42 (drop a.at us) ≡ true → k.atoms ≡ g.atoms → Grown g.follow k.follow ((a.last, a.first) ∷ []) → b ≡ true → Got item us d at n f k r
  got_star k e same grow h = record {
    tree = star x.tree;
    text = x.text ++ (42 ∷ []);
    split = split_on 42 x e j;
    spelt = starred x.text refl x.spelt;
    begins = j.begins ∙ x.begins;
    ends = j.ends ∙ x.ends;
    nulls = j.nulls ∙ h;
    counts = same_count;
    few = same_few;
    takes = same_takes k same;
    leads = round k grow;
  }

  abbrev pub got_plus : (k : Table) → begins 43 (drop a.at us) ≡ true → k.atoms ≡ g.atoms → Grown g.follow k.follow ((a.last, a.first) ∷ []) → b ≡ a.null → Got item us d at n f k r
  got_plus k e same grow h = record {
    tree = plus x.tree;
    text = x.text ++ (43 ∷ []);
    split = split_on 43 x e j;
    spelt = plussed x.text refl x.spelt;
    begins = j.begins ∙ x.begins;
    ends = j.ends ∙ x.ends;
    nulls = j.nulls ∙ h ∙ x.nulls;
    counts = same_count;
    few = same_few;
    takes = same_takes k same;
    leads = round k grow;
  }

  abbrev pub got_opt : begins 63 (drop a.at us) ≡ true → b ≡ true → Got item us d at n f g r
  got_opt e h = record {
    tree = opt x.tree;
    text = x.text ++ (63 ∷ []);
    split = split_on 63 x e j;
    spelt = queried x.text refl x.spelt;
    begins = j.begins ∙ x.begins;
    ends = j.ends ∙ x.ends;
    nulls = j.nulls ∙ h;
    counts = same_count;
    few = same_few;
    takes = same_takes g refl;
    leads = x.leads;
  }

abbrev pub got_group : {us : List ℕ} {d at n : ℕ} {f g : Table} {p r : Piece} {b : Bool} → begins 40 (drop at us) ≡ true → (x : Got choice us d (at + 1) n f g p) → begins 41 (drop p.at us) ≡ true → Moved p b r → b ≡ p.null → Got atom us (suc d) at n f g r
got_group {us} {d} {at} {n} {f} {g} {p} {r} e x e' j h = record {
  tree = x.tree;
  text = 40 ∷ (x.text ++ (41 ∷ []));
  split =
      stood us at 40 e
      ∙ ap (λ z. 40 ∷ z) (x.split ∙ ap (λ z. x.text ++ z) (stood us p.at 41 e' ∙ ap (λ z. 41 ∷ drop z us) (sym j.stays)) ∙ sym (append_assoc x.text (41 ∷ []) (drop r.at us)));
  spelt = bracketed x.text refl x.spelt;
  begins = j.begins ∙ x.begins;
  ends = j.ends ∙ x.ends;
  nulls = j.nulls ∙ h ∙ x.nulls;
  counts = j.counts ∙ x.counts;
  few = subst (λ i. i ≤ 60) (sym j.counts) x.few;
  takes = ap (λ i. take i g.atoms) j.counts ∙ x.takes;
  leads = x.leads;
}

-- an atom for one unit, whose spelling is known
abbrev pub got_single : {us : List ℕ} {d at n : ℕ} {f g : Table} {r : Piece} (a : Atom) (u : List ℕ) → Spells d atom (one a) u → drop at us ≡ u ++ drop (at + length u) us → n < 60 → take (n + 1) g.atoms ≡ take n f.atoms ++ a ∷ [] → g.follow ≡ f.follow → Single at (length u) n r → Got atom us d at n f g r
got_single {us} {d} {at} {n} {f} {g} {r} a u x e few put same j = record {
  tree = one a;
  text = u;
  split = e ∙ ap (λ z. u ++ drop z us) (sym j.stays);
  spelt = x;
  begins = j.begins;
  ends = j.ends;
  nulls = j.nulls;
  counts = j.counts;
  few = omega (arith, j.counts);
  takes = ap (λ i. take i g.atoms) j.counts ∙ put;
  leads = grown_none f.follow g.follow same;
}
