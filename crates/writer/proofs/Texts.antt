-- The bytes of a text, and when it is short.
use Rattle.std.proofs.Common.{◌≡◌, ℕ, ◌*◌, ◌<◌, ◌≤◌, Bool, List, [], length, get_or, Some, None, Option, Decides, sym, ap, ◌∙◌, arith}
use Rattle.std.proofs.ByRecursion.{All-from_get_or}
use Rattle.std.specs.Option.{IfSome, MatchOption}
use Rattle.packet.specs.Carriable.{Short}
use Rattle.packet.proofs.Bytes.{units_wide}
use Rattle.units.proofs.Texts.{length-units}
use Rattle.units.specs.Form.{well_formed}
use Rattle.units.specs.Units.{units}

pub even_units : (bs : List ℕ) (n : ℕ) → length bs ≡ 2 * n → length bs ≡ 2 * length (units bs)
even_units bs n e = let l = length-units bs in omega arith

-- the bytes of what came, or none
pub even_of : {X : Type 0} (o : Option X) (n : ℕ) {D : Type 0} {P : X → Type 0} (bytes : X → List ℕ) (bs : List ℕ)
    → IfSome o (λ x. (length (bytes x) ≡ 2 * n) × (n < 65536)) → MatchOption o D P → (D → bs ≡ []) → ((x : X) → P x → bs ≡ bytes x) → length bs ≡ 2 * length (units bs)
even_of None n bytes bs size came none some = let e = none came in let l = ap length e in let m = length-units bs in omega arith
even_of (Some x) n bytes bs size came none some = let e = some x came in even_units bs n (ap length e ∙ size.0)

pub short_decided : (bs : List ℕ) (r : Bool) → ((i : ℕ) → get_or bs i 0 < 256) → length (units bs) ≤ 255 → r ≡ well_formed (units bs) → Decides r (Short (units bs))
short_decided bs r h few e = (
  λ y. record { few = few; wide = units_wide bs (All-from_get_or (λ b. b < 256) bs 0 (λ i _. h i)); well = sym e ∙ y },
  λ s. e ∙ s.well,
)
