-- One turn of a loop over conditions or selections: what is left gives the same fault.
use Rattle.std.proofs.Common.{◌≡◌, ℕ, suc, ◌+◌, ◌<◌, List, [], ◌∷◌, ◌++◌, map, length, get_or, take, drop, Option, sym, ap, ◌∙◌, subst, add-one, drop-cons}
use Rattle.std.proofs.lemmas.List.{drop-map, map_more, take-map}
use Rattle.faults.specs.declared.Fault.{Fault}
use Rattle.grammar.specs.Tree as T
use Rattle.checks.specs.Earliest.{earliest_from}
use Rattle.checks.specs.Faults.{cond_faults, conds_faults, selection_faults, selections_faults}
use Rattle.checks.proofs.First.{earliest-append}

-- the item x of a list that has two names
module _ {A B : Type 0} (f : A → B) (xs ys : List A) (same : ys ≡ xs) (i : ℕ) (x d : A) (within : i < length ys) (is : x ≡ get_or ys i d) where
  left_of : (zs : List A) → i < length zs → drop i (map f zs) ≡ f (get_or zs i d) ∷ drop (i + 1) (map f zs)
  left_of zs h =
      drop-map f i zs ∙ ap (map f) (drop-cons zs i d h) ∙ ap (λ l. f (get_or zs i d) ∷ l) (sym (drop-map f (suc i) zs))
      ∙ ap (λ n. f (get_or zs i d) ∷ drop n (map f zs)) (sym (add-one i))

  taken_of : (zs : List A) → i < length zs → take (i + 1) (map f zs) ≡ take i (map f zs) ++ (f (get_or zs i d) ∷ [])
  taken_of zs h = take-map f (i + 1) zs ∙ map_more f zs i d h ∙ ap (λ l. l ++ (f (get_or zs i d) ∷ [])) (sym (take-map f i zs))

  pub left_from : drop i (map f xs) ≡ f x ∷ drop (i + 1) (map f xs)
  left_from = subst (λ zs. drop i (map f zs) ≡ f x ∷ drop (i + 1) (map f zs)) same (left_of ys within ∙ ap (λ z. f z ∷ drop (i + 1) (map f ys)) (sym is))

  pub taken_with : take (i + 1) (map f xs) ≡ take i (map f xs) ++ (f x ∷ [])
  taken_with = subst (λ zs. take (i + 1) (map f zs) ≡ take i (map f zs) ++ (f x ∷ [])) same (taken_of ys within ∙ ap (λ z. take i (map f ys) ++ (f z ∷ [])) (sym is))

module _ (cs : List T.Cond) (i : ℕ) where
  pub cond_more : (c : T.Cond) → drop i cs ≡ c ∷ drop (i + 1) cs → (o p : Option Fault) → p ≡ earliest_from o (cond_faults c)
      → earliest_from p (conds_faults (drop (i + 1) cs)) ≡ earliest_from o (conds_faults (drop i cs))
  cond_more c e o p h =
      ap (λ z. earliest_from z (conds_faults (drop (i + 1) cs))) h ∙ sym (earliest-append o (cond_faults c) (conds_faults (drop (i + 1) cs))) ∙ sym (ap (λ z. earliest_from o (conds_faults z)) e)

module _ (ss : List T.Selection) (i : ℕ) where
  pub selection_more : (s : T.Selection) → drop i ss ≡ s ∷ drop (i + 1) ss → take (i + 1) ss ≡ take i ss ++ (s ∷ []) → (o p : Option Fault) → p ≡ earliest_from o (selection_faults (take i ss) s)
      → earliest_from p (selections_faults (take (i + 1) ss) (drop (i + 1) ss)) ≡ earliest_from o (selections_faults (take i ss) (drop i ss))
  selection_more s e t o p h =
      ap (λ z. earliest_from z (selections_faults (take (i + 1) ss) (drop (i + 1) ss))) h
      ∙ ap (λ z. earliest_from (earliest_from o (selection_faults (take i ss) s)) (selections_faults z (drop (i + 1) ss))) t
      ∙ sym (earliest-append o (selection_faults (take i ss) s) (selections_faults (take i ss ++ (s ∷ [])) (drop (i + 1) ss)))
      ∙ sym (ap (λ z. earliest_from o (selections_faults (take i ss) z)) e)
