use Rattle.std.specs.Int.{w16, to_be_bytes}
use Rattle.std.proofs.Common.{◌≡◌, ℕ, ◌+◌, ◌*◌, ◌/◌, ◌%◌, ◌<◌, cond, List, [], ◌∷◌, ◌++◌, length, get_or, take, is_ok, Ok, Err, Result, sym, refl, ap, ◌∙◌, append_assoc, arith}
use Rattle.std.proofs.lemmas.List.{take_more, append-nil}
use Rattle.units.specs.Units.{units, unit_bytes}
use Rattle.units.proofs.Texts.{length-unit_bytes, units_again}
use Rattle.notation.specs.Letters.{utf16, spelling}

pub unit_bytes-append : (us vs : List ℕ) → unit_bytes (us ++ vs) ≡ unit_bytes us ++ unit_bytes vs
unit_bytes-append [] vs = refl
unit_bytes-append (u ∷ us) vs = ap (λ t. u / 256 ∷ u % 256 ∷ t) (unit_bytes-append us vs)

-- the bytes of some units are those of their own
pub whole_of : (bs us : List ℕ) → bs ≡ unit_bytes us → bs ≡ unit_bytes (units bs)
whole_of bs us e = e ∙ ap unit_bytes (sym (ap units e ∙ units_again us))

-- whole units more, where memory allows
pub whole_more : {X E : Type 0} (r : Result X E) (a m n us : List ℕ) → a ≡ unit_bytes (units a) → m ≡ unit_bytes us → n ≡ cond (is_ok r) (a ++ m) a → n ≡ unit_bytes (units n)
whole_more (Ok x) a m n us w h e = whole_of n (units a ++ us) (e ∙ ap (λ t. t ++ m) w ∙ ap (λ t. unit_bytes (units a) ++ t) h ∙ sym (unit_bytes-append (units a) us))
whole_more (Err x) a m n us w h e = whole_of n (units a) (e ∙ w)

-- whole units are an even number of bytes
pub whole_even : (a : List ℕ) → a ≡ unit_bytes (units a) → length a ≡ 2 * (length a / 2)
whole_even a w = let l = length-unit_bytes (units a) in let e = ap length w in omega arith

spelling-append : (cs ds : List ℕ) → spelling (cs ++ ds) ≡ spelling cs ++ spelling ds
spelling-append [] ds = refl
spelling-append (c ∷ cs) ds = ap (λ t. utf16 c ++ t) (spelling-append cs ds) ∙ sym (append_assoc (utf16 c) (spelling cs) (spelling ds))

-- one unit more
pub units_more : (us : List ℕ) (i x : ℕ) (a b d : List ℕ) → i < length us → x ≡ get_or us i x → b ≡ a ++ unit_bytes (take i us)
    → d ≡ b ++ unit_bytes (x ∷ []) → d ≡ a ++ unit_bytes (take (i + 1) us)
units_more us i x a b d h e p q =
    q
    ∙ ap (λ t. t ++ unit_bytes (x ∷ [])) p
    ∙ append_assoc a (unit_bytes (take i us)) (unit_bytes (x ∷ []))
    ∙ ap (λ t. a ++ t) (sym (unit_bytes-append (take i us) (x ∷ [])))
    ∙ ap (λ y. a ++ unit_bytes (take i us ++ y ∷ [])) e
    ∙ ap (λ t. a ++ unit_bytes t) (sym (take_more us i x h))

-- one character more
pub spelling_more : (cs : List ℕ) (i x : ℕ) (a b : List ℕ) → i < length cs → x ≡ get_or cs i x → a ≡ unit_bytes (spelling (take i cs))
    → b ≡ a ++ unit_bytes (utf16 x) → b ≡ unit_bytes (spelling (take (i + 1) cs))
spelling_more cs i x a b h e p q =
    q
    ∙ ap (λ t. t ++ unit_bytes (utf16 x)) p
    ∙ sym (unit_bytes-append (spelling (take i cs)) (utf16 x))
    ∙ ap (λ t. unit_bytes (spelling (take i cs) ++ t)) (sym (append-nil (utf16 x)))
    ∙ ap unit_bytes (sym (spelling-append (take i cs) (x ∷ [])))
    ∙ ap (λ y. unit_bytes (spelling (take i cs ++ y ∷ []))) e
    ∙ ap (λ t. unit_bytes (spelling t)) (sym (take_more cs i x h))

-- a unit's bytes, high byte first
pub byte_pair : (u : ℕ) (bs : List ℕ) → u < 65536 → bs ≡ to_be_bytes w16 u → bs ≡ unit_bytes (u ∷ [])
byte_pair u bs h e = let d : u / 256 % 256 ≡ u / 256 = omega arith in e ∙ ap (λ v. v ∷ u % 256 ∷ []) d
