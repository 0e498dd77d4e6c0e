-- The number of a name is its position among the selections.
use Rattle.std.proofs.Common.{◌≡◌, ℕ, suc, ◌+◌, Bool, true, false, cond, not, ltb, List, [], ◌∷◌, map, take, length, Some, None, refl, ap, ◌∙◌, arith}
use Rattle.std.proofs.lemmas.Grind.{common_steps}
use Rattle.std.proofs.lemmas.List.{take-map}
use Rattle.std.specs.List.{position, position_or_len}
use Rattle.std.specs.Option.{option_map}
use Rattle.parts.specs.Resolved.{is_named, numbered}
use Rattle.cursor.specs.Pieces.{word_of}
use Rattle.conditions.specs.Shown.{selection_of}
use Rattle.conditions.specs.declared.tree.Selection.{Selection}

after_first : (n m : ℕ) → option_map suc (cond (ltb n m) (Some n) None) ≡ cond (ltb (1 + n) (suc m)) (Some (1 + n)) None
after_first n m = grind (arith, common_steps)

module _ {A : Type 0} (p : A → Bool) where
  first_or_later : (b : Bool) (xs : List A) → cond b (Some 0) (option_map suc (position p xs)) ≡ cond (ltb (cond (not b) (1 + position_or_len p xs) 0) (suc (length xs))) (Some (cond (not b) (1 + position_or_len p xs) 0)) None
  first_or_later true xs = grind (arith, common_steps)
  first_or_later false xs = after_first (position_or_len p xs) (length xs)

  pub position_cons : (x : A) (xs : List A) → cond (p x) (Some 0) (option_map suc (position p xs)) ≡ position p (x ∷ xs)
  position_cons x xs = first_or_later (p x) xs

module _ (us name : List ℕ) where
  abbrev pub has : Selection → Bool
  has s = is_named name (option_map (word_of us) s.name)

  pub numbered_position : (ss : List Selection) → numbered (map (selection_of us) ss) name ≡ position has ss
  numbered_position [] = refl
  numbered_position (s ∷ ss) = ap (λ o. cond (has s) (Some 0) (option_map suc o)) (numbered_position ss) ∙ position_cons has s ss

  pub numbered_among : (n : ℕ) (ss : List Selection) → numbered (take n (map (selection_of us) ss)) name ≡ position has (take n ss)
  numbered_among n ss = ap (λ z. numbered z name) (take-map (selection_of us) n ss) ∙ numbered_position (take n ss)
