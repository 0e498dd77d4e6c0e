use Rattle.std.proofs.Common.{◌≡◌, ℕ, ◌+◌, ◌*◌, ◌<◌, ◌≤◌, leb, List, [], ◌∷◌, ◌++◌, length, take, drop, Some, cond, is_ok, Ok, Err, Result, sym, ap, ◌∙◌, subst, arith, length-append, le-leb}
use Rattle.std.proofs.lemmas.List.{drop_at, take_all}
use Rattle.std.proofs.lemmas.Bool.{cond-true}
use Rattle.claims.specs.Texts.{part_of}
use Rattle.claims.specs.declared.texts.Origin.TheVariants.{Rules}
use Rattle.claims.specs.declared.records.Claim.{Claim}
use Rattle.claims.specs.declared.values.Value.{Value}
use Rattle.claims.specs.declared.values.Value.TheVariants.{Uint64, Int64, String, Boolean}
use Rattle.listing.specs.Inside.{ValueInside, Inside, AllInside}

value_stays : (m n : ℕ) (v : Value) → m ≤ n → ValueInside m v → ValueInside n v
value_stays m n (Uint64 v) h i = tt
value_stays m n (Int64 v) h i = tt
value_stays m n (String t) h i = (i.0, omega arith)
value_stays m n (Boolean v) h i = tt

-- a text that grows holds what it held
stays : (m n : ℕ) (c : Claim) → m ≤ n → Inside m c → Inside n c
stays m n c h i = record { typ = (i.typ.0, omega arith); word = (i.word.0, omega arith); value = value_stays m n c.value h i.value }

pub all_stay : (m n : ℕ) (cs : List Claim) → m ≤ n → AllInside m cs → AllInside n cs
all_stay m n [] h i = tt
all_stay m n (c ∷ cs) h i = (stays m n c h i.0, all_stay m n cs h i.1)

all_append : (n : ℕ) (cs : List Claim) (c : Claim) → AllInside n cs → Inside n c → AllInside n (cs ++ c ∷ [])
all_append n [] c i j = (j, tt)
all_append n (d ∷ cs) c i j = (i.0, all_append n cs c i.1 j)

-- one record more, where memory allows, in a text that has grown
pub all_put : {X E : Type 0} (r : Result X E) (m n : ℕ) (cs ds : List Claim) (c : Claim) → m ≤ n → AllInside m cs → Inside n c → ds ≡ cond (is_ok r) (cs ++ c ∷ []) cs → AllInside n ds
all_put (Ok x) m n cs ds c h i j e = subst (AllInside n) (sym e) (all_append n cs c (all_stay m n cs h i) j)
all_put (Err x) m n cs ds c h i j e = subst (AllInside n) (sym e) (all_stay m n cs h i)

pub one_more : {X E : Type 0} (r : Result X E) (most m n : ℕ) → m < most → n ≡ cond (is_ok r) (m + 1) m → n ≤ most
one_more (Ok x) most m n h e = omega arith
one_more (Err x) most m n h e = omega arith

-- what is put behind a text stands there
pub stands : (a b bs packet : List ℕ) (p n : ℕ) → length a ≡ 2 * p → length b ≡ 2 * n → bs ≡ a ++ b
    → part_of bs packet (record { origin = Rules; place = p; len = n }) ≡ Some b
stands a b bs packet p n h k e =
    let l = length-append a b in
    let m = ap length e in
    let c : 2 * p + 2 * n ≤ length bs = omega arith in
    cond-true (leb (2 * p + 2 * n) (length bs)) _ _ (le-leb _ _ c)
    ∙ ap (λ t. Some (take (2 * n) (drop (2 * p) t))) e
    ∙ ap (λ t. Some (take (2 * n) t)) (drop_at a b (2 * p) h)
    ∙ ap Some (take_all (2 * n) b (omega arith))
