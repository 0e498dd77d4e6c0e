use Rattle.std.proofs.Common.{◌≡◌, ℕ, zero, suc, ◌+◌, ◌-◌, ◌*◌, ◌/◌, ◌%◌, ◌<◌, ◌≤◌, min, Bool, true, false, ◌&&◌, eqb, List, [], ◌∷◌, map, length, get_or, take, drop, sym, refl, ap, ◌∙◌, inl, inr, arith, eq-eqb, ne_eqb}
use Rattle.std.proofs.lemmas.List.{drop_more, drop_all, take_all, length-drop, length-map, get_or-map}
use Rattle.std.proofs.lemmas.Bool.Decides.{same_from_decides}
use Rattle.std.proofs.lemmas.Grind.{same_number_lists}
use Rattle.std.specs.Bool.{Decides}
use Rattle.units.specs.Units.{units, unit_bytes}
use Rattle.std.proofs.lemmas.Bool.{and_parts, and_from, eqb-true, cases_lt}
use Rattle.units.specs.Fold.{fold_unit, same_units, FoldAlike, FoldAlikeAt, Same}

-- both halves of what the length says
pub length-units : (bs : List ℕ) → (2 * length (units bs) ≤ length bs) × (length bs ≤ 2 * length (units bs) + 1)
length-units [] = (omega arith, omega arith)
length-units (h ∷ []) = (omega arith, omega arith)
length-units (h ∷ l ∷ bs) = let r = length-units bs in (omega arith, omega arith)

pub get_or-units : (bs : List ℕ) (i : ℕ) → i < length (units bs) → get_or (units bs) i 0 ≡ get_or bs (2 * i) 0 * 256 + get_or bs (2 * i + 1) 0
get_or-units [] i h = absurd (omega arith)
get_or-units (x ∷ []) i h = absurd (omega arith)
get_or-units (x ∷ y ∷ bs) zero h = refl
get_or-units (x ∷ y ∷ bs) (suc i) h =
    let a : 2 * suc i ≡ suc (suc (2 * i)) = omega arith in
    let b : 2 * suc i + 1 ≡ suc (suc (2 * i + 1)) = omega arith in
    let e : get_or (x ∷ y ∷ bs) (2 * suc i) 0 ≡ get_or bs (2 * i) 0 = ap (λ n. get_or (x ∷ y ∷ bs) n 0) a in
    let f : get_or (x ∷ y ∷ bs) (2 * suc i + 1) 0 ≡ get_or bs (2 * i + 1) 0 = ap (λ n. get_or (x ∷ y ∷ bs) n 0) b in
    get_or-units bs i (omega arith) ∙ ap (λ n. n * 256 + get_or bs (2 * i + 1) 0) (sym e) ∙ ap (λ n. get_or (x ∷ y ∷ bs) (2 * suc i) 0 * 256 + n) (sym f)

pub same_lengths : (xs ys : List ℕ) → (length xs ≡ length ys → ⊥) → same_units xs ys ≡ false
same_lengths [] [] h = absurd (h refl)
same_lengths [] (y ∷ ys) h = refl
same_lengths (x ∷ xs) [] h = refl
same_lengths (x ∷ xs) (y ∷ ys) h =
    let r : same_units xs ys ≡ false = same_lengths xs ys (λ e. h (ap suc e)) in
    elim (eqb (fold_unit x) (fold_unit y)) as (λ v. (v && same_units xs ys) ≡ false) [ true ↦ r | false ↦ refl ]

pub same_more : (xs ys : List ℕ) (i : ℕ) → i < length xs → i < length ys
    → same_units (drop i xs) (drop i ys) ≡ (eqb (fold_unit (get_or xs i 0)) (fold_unit (get_or ys i 0)) && same_units (drop (i + 1) xs) (drop (i + 1) ys))
same_more xs ys i h k = rw (drop_more xs i 0 h, drop_more ys i 0 k)

module _ (xs ys : List ℕ) (i u v : ℕ) (h : i < length xs) (k : i < length ys) (a : u ≡ fold_unit (get_or xs i 0)) (b : v ≡ fold_unit (get_or ys i 0)) where
  pub same_step : same_units (drop i xs) (drop i ys) ≡ (eqb u v && same_units (drop (i + 1) xs) (drop (i + 1) ys))
  same_step = same_more xs ys i h k ∙ ap (λ w. eqb w (fold_unit (get_or ys i 0)) && same_units (drop (i + 1) xs) (drop (i + 1) ys)) (sym a) ∙ ap (λ w. eqb u w && same_units (drop (i + 1) xs) (drop (i + 1) ys)) (sym b)

  pub same_stops : (u ≡ v → ⊥) → same_units (drop i xs) (drop i ys) ≡ false
  same_stops ne = same_step ∙ ap (λ w. w && same_units (drop (i + 1) xs) (drop (i + 1) ys)) (ne_eqb u v ne)

  pub same_goes : u ≡ v → same_units (drop (i + 1) xs) (drop (i + 1) ys) ≡ same_units (drop i xs) (drop i ys)
  same_goes e = sym (same_step ∙ ap (λ w. w && same_units (drop (i + 1) xs) (drop (i + 1) ys)) (eq-eqb u v e))

two_more : (k : ℕ) → 2 * suc k ≡ suc (suc (2 * k))
two_more k = omega arith

pub units-drop : (k : ℕ) (bs : List ℕ) → units (drop (2 * k) bs) ≡ drop k (units bs)
units-drop zero bs = refl
units-drop (suc k) [] = ap (λ n. units (drop n [])) (two_more k)
units-drop (suc k) (x ∷ []) = ap (λ n. units (drop n (x ∷ []))) (two_more k)
units-drop (suc k) (x ∷ y ∷ bs) = ap (λ n. units (drop n (x ∷ y ∷ bs))) (two_more k) ∙ units-drop k bs

pub units-take : (k : ℕ) (bs : List ℕ) → units (take (2 * k) bs) ≡ take k (units bs)
units-take zero bs = refl
units-take (suc k) [] = ap (λ n. units (take n [])) (two_more k)
units-take (suc k) (x ∷ []) = ap (λ n. units (take n (x ∷ []))) (two_more k)
units-take (suc k) (x ∷ y ∷ bs) = ap (λ n. units (take n (x ∷ y ∷ bs))) (two_more k) ∙ ap (λ t. (x * 256 + y) ∷ t) (units-take k bs)

pub units_part : (i j : ℕ) (bs : List ℕ) → units (take (2 * j - 2 * i) (drop (2 * i) bs)) ≡ take (j - i) (drop i (units bs))
units_part i j bs =
    let e : 2 * j - 2 * i ≡ 2 * (j - i) = omega arith in
    ap (λ n. units (take n (drop (2 * i) bs))) e ∙ units-take (j - i) (drop (2 * i) bs) ∙ ap (take (j - i)) (units-drop i bs)

-- the bytes of units, and those units again
pub length-unit_bytes : (us : List ℕ) → length (unit_bytes us) ≡ 2 * length us
length-unit_bytes [] = refl
length-unit_bytes (u ∷ us) = let r = length-unit_bytes us in omega arith

pub units_again : (us : List ℕ) → units (unit_bytes us) ≡ us
units_again [] = refl
units_again (u ∷ us) =
    let e : u / 256 * 256 + u % 256 ≡ u = omega arith in
    ap (λ v. v ∷ units (unit_bytes us)) e ∙ ap (λ t. u ∷ t) (units_again us)

-- a run that is cut off where the list ends
take_past : (n m : ℕ) (xs : List ℕ) → length xs ≤ n → length xs ≤ m → take n xs ≡ take m xs
take_past n m xs h k = take_all n xs h ∙ sym (take_all m xs k)

pub run_cut : (us : List ℕ) (from len a b : ℕ) → a ≡ min from (length us) → b ≡ min (a + len) (length us) → take (b - a) (drop a us) ≡ take len (drop from us)
run_cut us from len a b e f =
    elim (cases_lt from (length us)) [
      | inl h ↦
          let z : a ≡ from = omega arith in
          let l = length-drop from us in
          elim (cases_lt (from + len) (length us)) [
            | inl k ↦ let y : b - a ≡ len = omega arith in cc
            | inr k ↦ let y : b - a ≡ length us - from = omega arith in
                let t : take (length us - from) (drop from us) ≡ take len (drop from us) = take_past _ len (drop from us) (omega arith) (omega arith) in cc
          ]
      | inr h ↦
          let z : drop a us ≡ [] = drop_all a us (omega arith) in
          let y : drop from us ≡ [] = drop_all from us h in
          let t : take (b - a) [] ≡ take len [] = take_past (b - a) len [] (omega arith) (omega arith) in cc
    ]

-- alike when folded
same_folded : (xs ys : List ℕ) → same_units xs ys ≡ true → map fold_unit xs ≡ map fold_unit ys
same_folded [] [] e = refl
same_folded [] (y ∷ ys) e = let z : ◌≡◌ {A = ℕ} 0 1 = cc in absurd (omega arith)
same_folded (x ∷ xs) [] e = let z : ◌≡◌ {A = ℕ} 0 1 = cc in absurd (omega arith)
same_folded (x ∷ xs) (y ∷ ys) e =
    let p = and_parts (eqb (fold_unit x) (fold_unit y)) (same_units xs ys) e in
    let h = eqb-true (fold_unit x) (fold_unit y) p.0 in
    let t = same_folded xs ys p.1 in
    cc

folded_same : (xs ys : List ℕ) → map fold_unit xs ≡ map fold_unit ys → same_units xs ys ≡ true
folded_same [] [] e = refl
folded_same [] (y ∷ ys) e = let z : ◌≡◌ {A = ℕ} 0 1 = cc in absurd (omega arith)
folded_same (x ∷ xs) [] e = let z : ◌≡◌ {A = ℕ} 0 1 = cc in absurd (omega arith)
folded_same (x ∷ xs) (y ∷ ys) e =
    let h : fold_unit x ≡ fold_unit y = cc in
    let t : map fold_unit xs ≡ map fold_unit ys = cc in
    and_from (eqb (fold_unit x) (fold_unit y)) (same_units xs ys) (eq-eqb _ _ h) (folded_same xs ys t)

same_decided : (xs ys : List ℕ) → Decides (same_units xs ys) (map fold_unit xs ≡ map fold_unit ys)
same_decided xs ys = (same_folded xs ys, folded_same xs ys)

-- as many units, folding alike at each place
module _ (xs ys : List ℕ) where
  alike_folded : length xs ≡ length ys → FoldAlikeAt xs ys → map fold_unit xs ≡ map fold_unit ys
  alike_folded e h = same_number_lists (map fold_unit xs) (map fold_unit ys) (simp length-map e) (λ k l.
      let m : k < length xs = simp length-map at l in
      let n : k < length ys = omega arith in
      get_or-map fold_unit xs k 0 0 m ∙ h k m ∙ sym (get_or-map fold_unit ys k 0 0 n))

  folded_length : map fold_unit xs ≡ map fold_unit ys → length xs ≡ length ys
  folded_length e = simp length-map at (ap length e)

  folded_alike : map fold_unit xs ≡ map fold_unit ys → FoldAlikeAt xs ys
  folded_alike e k m =
      let l = folded_length e in
      let n : k < length ys = omega arith in
      sym (get_or-map fold_unit xs k 0 0 m) ∙ ap (λ zs. get_or zs k 0) e ∙ get_or-map fold_unit ys k 0 0 n

  pub same_from : (r : Bool) → (r ≡ true → FoldAlike xs ys) → (length xs ≡ length ys → FoldAlikeAt xs ys → r ≡ true) → Same xs ys r
  same_from r ya no' =
      let d : Decides r (map fold_unit xs ≡ map fold_unit ys) = (λ t. let p = ya t in alike_folded p.0 p.1, λ e. no' (folded_length e) (folded_alike e)) in
      record { value = same_from_decides r (same_units xs ys) d (same_decided xs ys); folded = d }

-- by the definition's own answer
pub same_as : (xs ys : List ℕ) (r : Bool) → r ≡ same_units xs ys → Same xs ys r
same_as xs ys r e = record { value = e; folded = (λ h. same_folded xs ys (sym e ∙ h), λ h. e ∙ folded_same xs ys h) }
