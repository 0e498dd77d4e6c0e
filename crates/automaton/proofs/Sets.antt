-- Sets of places as bits of a number.
use Rattle.std.proofs.Common.{◌≡◌, ℕ, zero, suc, ◌/◌, ◌%◌, ◌^◌, ◌<◌, ◌≤◌, false, ◌&&◌, ◌||◌, eqb, refl, ap, ◌∙◌, arith, pow_mono}
use lib.Bits.{bit_and, bit_or, or_shr, or_mod, and_shr, and_mod}
use native.Mathlib.Nat.{div-eq_of_lt}
use Rattle.automaton.specs.Places.{bit}

or_digit : (x y : ℕ) → x < 2 → y < 2 → eqb (bit_or x y) 1 ≡ (eqb x 1 || eqb y 1)
or_digit zero zero h k = refl
or_digit zero (suc zero) h k = refl
or_digit zero (suc (suc y)) h k = absurd (omega arith)
or_digit (suc zero) zero h k = refl
or_digit (suc zero) (suc zero) h k = refl
or_digit (suc zero) (suc (suc y)) h k = absurd (omega arith)
or_digit (suc (suc x)) y h k = absurd (omega arith)

and_digit : (x y : ℕ) → x < 2 → y < 2 → eqb (bit_and x y) 1 ≡ (eqb x 1 && eqb y 1)
and_digit zero zero h k = refl
and_digit zero (suc zero) h k = refl
and_digit zero (suc (suc y)) h k = absurd (omega arith)
and_digit (suc zero) zero h k = refl
and_digit (suc zero) (suc zero) h k = refl
and_digit (suc zero) (suc (suc y)) h k = absurd (omega arith)
and_digit (suc (suc x)) y h k = absurd (omega arith)

pub bit-bit_or : (a b p : ℕ) → bit (bit_or a b) p ≡ (bit a p || bit b p)
bit-bit_or a b p =
    ap (λ n. eqb (n % 2) 1) (or_shr a b p)
    ∙ ap (λ n. eqb n 1) (or_mod (a / 2 ^ p) (b / 2 ^ p) 1)
    ∙ or_digit (a / 2 ^ p % 2) (b / 2 ^ p % 2) (omega arith) (omega arith)

pub bit-bit_and : (a b p : ℕ) → bit (bit_and a b) p ≡ (bit a p && bit b p)
bit-bit_and a b p =
    ap (λ n. eqb (n % 2) 1) (and_shr a b p)
    ∙ ap (λ n. eqb n 1) (and_mod (a / 2 ^ p) (b / 2 ^ p) 1)
    ∙ and_digit (a / 2 ^ p % 2) (b / 2 ^ p % 2) (omega arith) (omega arith)

-- a set of 64 bits has no place from 64 on
pub none_above : (s p : ℕ) → s < 2 ^ 64 → 64 ≤ p → bit s p ≡ false
none_above s p lt le =
    let m : 2 ^ 64 ≤ 2 ^ p = pow_mono le in
    let z : s / 2 ^ p ≡ 0 = div-eq_of_lt (omega arith) in
    ap (λ n. eqb (n % 2) 1) z
