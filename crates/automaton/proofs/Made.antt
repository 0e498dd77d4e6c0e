-- The automaton that is computed from a tree stands for it.
use Rattle.std.proofs.Common.{◌≡◌, ℕ, zero, suc, ◌+◌, ◌^◌, ◌<◌, ◌≤◌, Bool, true, false, cond, List, [], ◌∷◌, length, take, get_or, Decides, sym, refl, ap, ◌∙◌, subst, inl, inr, add-zero, zero-add, arith}
use lib.Bits.{bit_or}
use native.Mathlib.Nat.{div-add-mod'}
use Rattle.automaton.specs.declared.Atom.{Atom}
use Rattle.automaton.specs.Language.{Tree, Matches}
use Rattle.automaton.specs.Places.{bit, Has, size, atoms_of, Link, links, Linked, atoms, follows, Stands}
use Rattle.automaton.specs.Run.{run}
use Rattle.automaton.specs.Made.{next, table, placed, made}
use Rattle.automaton.proofs.Holds.{has_none, has_split, has_left, has_right}
use Rattle.automaton.proofs.Correct.{length-atoms_of, decided}

at_table : (ls : List Link) (p n i : ℕ) → i < n → get_or (table ls p n) i 0 ≡ next ls (p + i)
at_table ls p zero i lt = absurd (omega arith)
at_table ls p (suc n) zero lt = ap (next ls) (sym (add-zero p))
at_table ls p (suc n) (suc i) lt = let e : p + 1 + i ≡ p + suc i = omega arith in at_table ls (p + 1) n i (omega arith) ∙ ap (next ls) e

split_next : (l : Link) (ls : List Link) (p q : ℕ) → (Has (next ls p) q → Linked ls p q) → (b : Bool) → bit l.0 p ≡ b → Has (cond b (bit_or l.1 (next ls p)) (next ls p)) q → Linked (l ∷ ls) p q
split_next l ls p q f true e h = elim (has_split l.1 (next ls p) q h) [ inl i ↦ inl (e, i) | inr i ↦ inr (f i) ]
split_next l ls p q f false e h = inr (f h)

linked_of : (ls : List Link) (p q : ℕ) → Has (next ls p) q → Linked ls p q
linked_of [] p q h = has_none q h
linked_of (l ∷ ls) p q h = split_next l ls p q (linked_of ls p q) (bit l.0 p) refl h

keep_next : (b : Bool) (s r q : ℕ) → Has r q → Has (cond b (bit_or s r) r) q
keep_next true s r q h = has_right s r q h
keep_next false s r q h = h

of_linked : (ls : List Link) (p q : ℕ) → Linked ls p q → Has (next ls p) q
of_linked [] p q h = absurd h
of_linked (l ∷ ls) p q (inl h) = subst (λ b. Has (cond b (bit_or l.1 (next ls p)) (next ls p)) q) (sym h.0) (has_left l.1 (next ls p) q h.1)
of_linked (l ∷ ls) p q (inr h) = keep_next (bit l.0 p) l.1 (next ls p) q (of_linked ls p q h)

length-table : (ls : List Link) (p n : ℕ) → length (table ls p n) ≡ n
length-table ls p zero = refl
length-table ls p (suc n) = ap suc (length-table ls (p + 1) n)

follows_placed : (xs : List Atom) (fs : List ℕ) → follows (placed xs fs) ≡ fs
follows_placed xs [] = refl
follows_placed [] (f ∷ fs) = λ i. div-add-mod' f (2 ^ 32) i ∷ follows_placed [] fs i
follows_placed (x ∷ xs) (f ∷ fs) = λ i. div-add-mod' f (2 ^ 32) i ∷ follows_placed xs fs i

atoms_placed : (xs : List Atom) (fs : List ℕ) → length xs ≤ length fs → take (length xs) (atoms (placed xs fs)) ≡ xs
atoms_placed [] fs le = refl
atoms_placed (x ∷ xs) [] le = absurd (omega arith)
atoms_placed (x ∷ xs) (f ∷ fs) le = ap (λ z. x ∷ z) (atoms_placed xs fs (omega arith))

stands_made : (head tail : Bool) (t : Tree) → size t ≤ 60 → Stands (made head tail t) head tail t
stands_made head tail t few = record {
  heads = refl;
  tails = refl;
  nulls = refl;
  begins = refl;
  ends = refl;
  counts = refl;
  few = few;
  takes =
      ap (λ n. take n (atoms (placed (atoms_of t) (table (links t 0) 0 60)))) (sym (length-atoms_of t))
      ∙ atoms_placed (atoms_of t) (table (links t 0) 0 60) (omega (arith, length-atoms_of t, length-table (links t 0) 0 60));
  leads = λ p q lt.
      let e =
      ap (λ z. get_or z p 0) (follows_placed (atoms_of t) (table (links t 0) 0 60))
      ∙ at_table (links t 0) 0 60 p lt ∙ ap (next (links t 0)) (zero-add p) in
      (λ h. linked_of (links t 0) p q (subst (λ z. Has z q) e h), λ h. subst (λ z. Has z q) (sym e) (of_linked (links t 0) p q h));
}

-- the match of a text can be computed
pub computed : (head tail : Bool) (t : Tree) → size t ≤ 60 → (w : List ℕ) → Decides (run (made head tail t) true 0 w) (Matches head tail t w)
computed head tail t few w = decided (made head tail t) w (run (made head tail t) true 0 w) refl head tail t (stands_made head tail t few)
