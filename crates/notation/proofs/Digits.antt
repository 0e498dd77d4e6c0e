use Rattle.std.proofs.Common.{◌≡◌, ℕ, zero, suc, ◌+◌, ◌-◌, ◌*◌, ◌<◌, ◌≤◌, Bool, true, false, ◌&&◌, leb, List, [], ◌∷◌, length, get_or, Some, None, Option, Ok, Err, subst, sym, refl, ap, ◌∙◌, arith, le-leb}
use Rattle.std.proofs.lemmas.Bool.{and_parts, leb-true, cond-true, cond-false}
use borrow.Author.Tests.{lt-leb}
use Rattle.std.specs.Option.{SomeIff, ok_or}
use Rattle.std.specs.Bool.{MatchBool}
use Rattle.std.specs.List.{AllWithin, HoldsAt}
use Rattle.units.specs.Units.{units}
use Rattle.notation.specs.declared.mistakes.Mistake.TheVariants.{NotANumber, NumberOutOfRange}
use Rattle.notation.specs.Numbers.{digit, digits, decimal, up_to, unsigned_of}

-- what digits say of the first, and of those after it
digit_first : (u : ℕ) (us : List ℕ) → digits (u ∷ us) ≡ true → (48 ≤ u) × (u ≤ 57) × (digits us ≡ true)
digit_first u us d =
    let p = and_parts (digit u) (digits us) d in
    let q = and_parts (leb 48 u) (leb u 57) p.0 in
    let a = leb-true _ _ q.0 in
    let b = leb-true _ _ q.1 in
    (omega arith, omega arith, p.1)

decimal_grows : (n : ℕ) (us : List ℕ) → n ≤ decimal n us
decimal_grows n [] = omega arith
decimal_grows n (u ∷ us) = let r = decimal_grows (10 * n + (u - 48)) us in omega arith

-- the first of the digits
pub digit_of : (u : ℕ) (us vs : List ℕ) → us ≡ u ∷ vs → digits us ≡ true → (48 ≤ u) × (u ≤ 57) × (digits vs ≡ true)
digit_of u us vs e d = digit_first u vs (sym (ap digits e) ∙ d)

-- a number that is too large with one digit more stays so
pub too_large : (n u : ℕ) (us vs all : List ℕ) → us ≡ u ∷ vs → decimal n us ≡ decimal 0 all → 18446744073709551615 < 10 * n + (u - 48)
    → decimal 0 all ≤ 18446744073709551615 → ⊥
too_large n u us vs all e d h k =
    let g = decimal_grows (10 * n + (u - 48)) vs in
    let f : decimal n us ≡ decimal (10 * n + (u - 48)) vs = ap (decimal n) e in
    omega arith

-- one digit more
pub decimal_next : (n u m : ℕ) (us vs : List ℕ) → us ≡ u ∷ vs → m ≡ 10 * n + (u - 48) → decimal m vs ≡ decimal n us
decimal_next n u m us vs e h = ap (λ k. decimal k vs) h ∙ sym (ap (decimal n) e)

pub none_iff : {o : Option ℕ} {P : Type 0} (v : ℕ) → o ≡ None → (P → ⊥) → SomeIff o P v
none_iff {P = P} v e h = subst (λ o. SomeIff o P v) (sym e) h

pub unsigned_not : (us : List ℕ) → digits us ≡ false → unsigned_of us ≡ Err NotANumber
unsigned_not [] d = refl
unsigned_not (u ∷ us) d = cond-false _ _ _ d

unsigned_some : (us : List ℕ) → 0 < length us → digits us ≡ true → unsigned_of us ≡ up_to 18446744073709551615 (decimal 0 us)
unsigned_some [] h d = absurd (omega arith)
unsigned_some (u ∷ us) h d = cond-true _ _ _ d

unsigned_fits : (us : List ℕ) → 0 < length us → digits us ≡ true → decimal 0 us ≤ 18446744073709551615 → unsigned_of us ≡ Ok (decimal 0 us)
unsigned_fits us h d k = unsigned_some us h d ∙ cond-true _ _ _ (le-leb _ _ k)

unsigned_over : (us : List ℕ) → 0 < length us → digits us ≡ true → (decimal 0 us ≤ 18446744073709551615 → ⊥) → unsigned_of us ≡ Err NumberOutOfRange
unsigned_over us h d k =
    unsigned_some us h d ∙ (let m : 18446744073709551615 < decimal 0 us = omega arith in cond-false _ _ _ (lt-leb _ _ m))

units_short : (bs : List ℕ) → length bs < 2 → units bs ≡ []
units_short [] h = refl
units_short (a ∷ []) h = refl
units_short (a ∷ b ∷ bs) h = absurd (omega arith)

pub units_some : (bs : List ℕ) → 2 ≤ length bs → 0 < length (units bs)
units_some [] h = absurd (omega arith)
units_some (a ∷ []) h = absurd (omega arith)
units_some (a ∷ b ∷ bs) h = omega arith

pub unsigned_short : (bs : List ℕ) → length bs < 2 → unsigned_of (units bs) ≡ Err NotANumber
unsigned_short bs h = ap unsigned_of (units_short bs h)

all_digits : (us : List ℕ) → AllWithin (λ u. digit u ≡ true) us 0 (length us) → digits us ≡ true
all_digits [] h = refl
all_digits (u ∷ us) h = ap (λ b. b && digits us) (h 0 0 (omega arith) (omega arith)) ∙ all_digits us (λ k d a b. h (suc k) d (omega arith) (omega arith))

and_not : (b : Bool) → (b && false) ≡ false
and_not true = refl
and_not false = refl

no_digit : (us : List ℕ) (k : ℕ) → k < length us → digit (get_or us k 0) ≡ false → digits us ≡ false
no_digit [] k h e = absurd (omega arith)
no_digit (u ∷ us) zero h e = ap (λ b. b && digits us) e
no_digit (u ∷ us) (suc k) h e = ap (λ b. digit u && b) (no_digit us k (omega arith) e) ∙ and_not (digit u)

-- each unit was a digit, or some unit was none
pub digits_by_cases : (us : List ℕ) (r : Bool)
    → MatchBool r (AllWithin (λ u. digit u ≡ true) us 0 (length us)) ((k : ℕ) × (k < length us) × HoldsAt (λ u. digit u ≡ false) us k) → r ≡ digits us
digits_by_cases us true h = sym (all_digits us h)
digits_by_cases us false h = sym (no_digit us h.0 h.1 (h.2 0))

pub unsigned_by : (us : List ℕ) (o : Option ℕ) → 0 < length us → digits us ≡ true → SomeIff o (decimal 0 us ≤ 18446744073709551615) (decimal 0 us)
    → ok_or o NumberOutOfRange ≡ unsigned_of us
unsigned_by us (Some n) h d e = ap Ok e.1 ∙ sym (unsigned_fits us h d e.0)
unsigned_by us None h d e = sym (unsigned_over us h d e)
