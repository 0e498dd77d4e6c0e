-- The first unit at fault, found in one pass.
use Rattle.std.proofs.Common.{◌≡◌, ℕ, zero, suc, ◌+◌, ◌<◌, Bool, true, false, cond, List, [], ◌∷◌, length, get_or, drop, Some, None, Option, sym, refl, ap, ◌∙◌, subst, add-zero, zero-add, add-one, arith}
use Rattle.std.proofs.lemmas.Bool.{cond-true, cond-false}
use Rattle.std.proofs.lemmas.List.{drop-drop, get_or-drop}
use Rattle.units.specs.Form.{ill, first_ill, FirstIll}

-- what a pass that starts behind `before` finds
abbrev IllFrom : ℕ → List ℕ → ℕ → Bool
IllFrom before us k = ill (get_or (before ∷ us) k 0) (get_or us k 0) (get_or us (suc k) 0)

abbrev FirstFrom : ℕ → ℕ → List ℕ → Option ℕ → Type 0
FirstFrom before at us None = (k : ℕ) → k < length us → IllFrom before us k ≡ false
FirstFrom before at us (Some i) = (j : ℕ) × (i ≡ at + j) × (j < length us) × (IllFrom before us j ≡ true) × ((k : ℕ) → k < j → IllFrom before us k ≡ false)

module _ (before at u : ℕ) (us : List ℕ) (no : IllFrom before (u ∷ us) 0 ≡ false) where
  below : (j : ℕ) → ((k : ℕ) → k < j → IllFrom u us k ≡ false) → (k : ℕ) → k < suc j → IllFrom before (u ∷ us) k ≡ false
  below j rest zero h = no
  below j rest (suc k) h = rest k (omega arith)

  later : (o : Option ℕ) → FirstFrom u (suc at) us o → FirstFrom before at (u ∷ us) o
  later None rest = below (length us) rest
  later (Some i) rest =
      let e = rest.1 in
      let l = rest.2 in
      (suc rest.0, omega arith, omega arith, rest.3, below rest.0 rest.4)

first_step : (before at u : ℕ) (us : List ℕ) (t : Bool) → ill before u (get_or us 0 0) ≡ t → FirstFrom u (suc at) us (first_ill u (suc at) us)
    → FirstFrom before at (u ∷ us) (cond t (Some at) (first_ill u (suc at) us))
first_step before at u us true e rest = (0, sym (add-zero at), omega arith, e, λ k h. absurd (omega arith))
first_step before at u us false e rest = later before at u us e (first_ill u (suc at) us) rest

first_from : (us : List ℕ) (before at : ℕ) → FirstFrom before at us (first_ill before at us)
first_from [] before at = λ k h. absurd (omega arith)
first_from (u ∷ us) before at = first_step before at u us (ill before u (get_or us 0 0)) refl (first_from us u (suc at))

whole : (us : List ℕ) (o : Option ℕ) → FirstFrom 0 0 us o → FirstIll us o
whole us None h = h
whole us (Some i) h =
    let e : h.0 ≡ i = sym (h.1 ∙ zero-add h.0) in
    let found : FirstIll us (Some h.0) = (h.2, h.3, h.4) in
    subst (λ j. FirstIll us (Some j)) e found

pub first_ill_found : (us : List ℕ) (o : Option ℕ) → o ≡ first_ill 0 0 us → FirstIll us o
first_ill_found us o e = rw e (whole us (first_ill 0 0 us) (first_from us 0 0))

-- one turn: what is left from n on begins with u, and `after` is the unit behind it
module _ (us xs ys : List ℕ) (n before u after : ℕ) (e : xs ≡ u ∷ ys) (d : xs ≡ drop n us) (ia : after ≡ get_or us (n + 1) 0) where
  pub left_is : ys ≡ drop (n + 1) us
  left_is = ap (drop 1) (sym e ∙ d) ∙ drop-drop 1 n us

  turn : first_ill before n xs ≡ cond (ill before u after) (Some n) (first_ill u (n + 1) ys)
  turn =
      let next : get_or ys 0 0 ≡ after = ap (λ zs. get_or zs 0 0) left_is ∙ get_or-drop (n + 1) us 0 0 ∙ ap (λ k. get_or us k 0) (add-zero (n + 1)) ∙ sym ia in
      ap (first_ill before n) e ∙ ap (λ v. cond (ill before u v) (Some n) (first_ill u (suc n) ys)) next ∙ ap (λ k. cond (ill before u after) (Some n) (first_ill u k ys)) (sym (add-one n))

  pub ill_stops : ill before u after ≡ true → first_ill before n xs ≡ Some n
  ill_stops y = turn ∙ cond-true _ _ _ y

  pub ill_goes : ill before u after ≡ false → first_ill u (n + 1) ys ≡ first_ill before n xs
  ill_goes y = sym (turn ∙ cond-false _ _ _ y)
