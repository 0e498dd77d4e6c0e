-- The item of a number in a list that is made of two, or cut. Assumes nothing.
use Rattle.std.proofs.Common.{◌≡◌, ℕ, zero, suc, ◌+◌, ◌<◌, List, [], ◌∷◌, ◌++◌, length, take, Some, refl, ap, arith}
use Rattle.std.specs.List.{slice_get}

module _ {A : Type 0} where
  pub slice_get-append_right : (xs ys : List A) (k n : ℕ) → k ≡ length xs + n → slice_get (xs ++ ys) k ≡ slice_get ys n
  slice_get-append_right [] ys k n e = ap (slice_get ys) (omega arith)
  slice_get-append_right (x ∷ xs) ys zero n e = absurd (omega arith)
  slice_get-append_right (x ∷ xs) ys (suc k) n e = slice_get-append_right xs ys k n (omega arith)

  pub slice_get-append_last : (xs : List A) (x : A) (k : ℕ) → k ≡ length xs → slice_get (xs ++ x ∷ []) k ≡ Some x
  slice_get-append_last xs x k e = slice_get-append_right xs (x ∷ []) k 0 (omega arith)

  -- for whoever adds a store over slots and a length
  pub slice_get-take : (n : ℕ) (xs : List A) (k : ℕ) → k < n → slice_get (take n xs) k ≡ slice_get xs k
  slice_get-take zero xs k h = absurd (omega arith)
  slice_get-take (suc n) [] k h = refl
  slice_get-take (suc n) (x ∷ xs) zero h = refl
  slice_get-take (suc n) (x ∷ xs) (suc k) h = slice_get-take n xs k (omega arith)
