-- What a contract sees of a list of a few items.
use Rattle.std.specs.Prelude.{◌≡◌, ℕ, ◌≤◌, List, ◌++◌, length, take, drop, refl}
use Rattle.std.specs.Coded.{Coded, code_by, coded×, coded_list}
use Rattle.std.proofs.Common.{ap, ◌∙◌}
use Rattle.std.proofs.lemmas.List.{take-append-drop, length-take-le}

-- the items in order, and what the slots behind them hold, of which no clause says anything
pub record Few (T : Type 0) : Type 0 where
  pub items : List T
  pub spare : List T

-- a list is stored as the pair of these
abbrev pub few_code : {T : Type 0} → Coded T → Coded (Few T)
few_code {T} code =
    code_by (List T × List T) (coded× (coded_list code) (coded_list code)) (λ v. (v.items, v.spare)) (λ p. record { items = p.0; spare = p.1 }) (λ _. refl)

module _ {T : Type 0} where
  -- the slots and the count, by the items and what is behind them
  pub slots_back : (n : ℕ) (xs : List T) → n ≤ length xs → ◌≡◌ {A = List T × ℕ} (take n xs ++ drop n xs, length (take n xs)) (xs, n)
  slots_back n xs h = ap (λ ys. (ys, length (take n xs))) (take-append-drop n xs) ∙ ap (λ m. (xs, m)) (length-take-le n xs h)
