-- What is left of a list once some of its items were taken.
use Rattle.std.proofs.Common.{◌≡◌, ℕ, zero, suc, ◌+◌, List, [], ◌∷◌, drop, Option, MatchOption, sym, refl, subst, add-one}
use Rattle.std.specs.List.{slice_get}

-- taken at r, one item goes from what is left from n on to what is left from k on
abbrev Goes : {X : Type 0} → List X → ℕ → ℕ → Option X → Type 0
Goes xs n k r = MatchOption r ((drop n xs ≡ []) × (drop k xs ≡ [])) (λ x. drop n xs ≡ x ∷ drop k xs)

goes : {X : Type 0} (xs : List X) (n : ℕ) → Goes xs n (suc n) (slice_get xs n)
goes [] zero = (refl, refl)
goes [] (suc n) = (refl, refl)
goes (x ∷ xs) zero = refl
goes (x ∷ xs) (suc n) = goes xs n

-- the item of a number is the first of what is left, and behind it lies the rest
pub yields : {X : Type 0} (xs : List X) (n : ℕ) (r : Option X) → r ≡ slice_get xs n → Goes xs n (n + 1) r
yields xs n r e = subst (Goes xs n (n + 1)) (sym e) (subst (λ k. Goes xs n k (slice_get xs n)) (sym (add-one n)) (goes xs n))
