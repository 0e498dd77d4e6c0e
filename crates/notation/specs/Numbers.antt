-- Numbers and booleans as a list writes them: decimal digits, a sign, and the words for yes and no.
use Rattle.std.specs.Prelude.{ℕ, ◌+◌, ◌-◌, ◌*◌, Bool, true, false, cond, ◌&&◌, List, [], ◌∷◌, ℤ, pos, neg_ℤ, Ok, Err, codes, Result, ◌==◌, nat_le}
use Rattle.units.specs.Fold.{same_units}
use Rattle.notation.specs.declared.mistakes.Mistake.{Mistake}
use Rattle.notation.specs.declared.mistakes.Mistake.TheVariants.{NotANumber, NumberOutOfRange, NotABoolean}

abbrev pub digit : ℕ → Bool
digit u = nat_le 48 u && nat_le u 57

abbrev pub digits : List ℕ → Bool
digits [] = true
digits (u ∷ us) = digit u && digits us

-- the number that digits spell after those of n
abbrev pub decimal : ℕ → List ℕ → ℕ
decimal n [] = n
decimal n (u ∷ us) = decimal (10 * n + (u - 48)) us

-- at most this, or out of range
abbrev pub up_to : ℕ → ℕ → Result ℕ Mistake
up_to most n = cond (nat_le n most) (Ok n) (Err NumberOutOfRange)

-- one digit or more, and nothing else, of a number below 2^64
abbrev pub unsigned_of : List ℕ → Result ℕ Mistake
unsigned_of [] = Err NotANumber
unsigned_of (u ∷ us) = cond (digits (u ∷ us)) (up_to 18446744073709551615 (decimal 0 (u ∷ us))) (Err NotANumber)

-- a size with a sign before it, from -2^63 to 2^63 - 1
abbrev pub positive : Result ℕ Mistake → Result ℤ Mistake
positive (Ok n) = cond (nat_le n 9223372036854775807) (Ok (pos n)) (Err NumberOutOfRange)
positive (Err m) = Err m

abbrev pub negative : Result ℕ Mistake → Result ℤ Mistake
negative (Ok n) = cond (nat_le n 9223372036854775808) (Ok (neg_ℤ (pos n))) (Err NumberOutOfRange)
negative (Err m) = Err m

abbrev pub signed_of : List ℕ → Result ℤ Mistake
signed_of [] = Err NotANumber
signed_of (u ∷ us) = cond (u == 45) (negative (unsigned_of us)) (cond (u == 43) (positive (unsigned_of us)) (positive (unsigned_of (u ∷ us))))

-- true or 1, false or 0, in any case
abbrev pub boolean_of : List ℕ → Result Bool Mistake
boolean_of us =
    cond (same_units us (codes "true")) (Ok true)
    (cond (same_units us (codes "1")) (Ok true)
    (cond (same_units us (codes "false")) (Ok false)
    (cond (same_units us (codes "0")) (Ok false) (Err NotABoolean))))
