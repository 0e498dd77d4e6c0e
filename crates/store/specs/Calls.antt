-- What append and cut do to a store's list, and exactly when each is refused; a refusal leaves the store as it was.
use Rattle.std.specs.Prelude.{◌≡◌, ℕ, ◌<◌, ◌≤◌, List, [], ◌∷◌, ◌++◌, length, take, Ok, Err, Result}
use Rattle.faults.specs.At.{fault_at}
use Rattle.faults.specs.declared.Cause.TheVariants.{StoreFull, CutOutside}
use Rattle.faults.specs.declared.Fault.{Fault}
use Rattle.claims.specs.declared.records.Claim.{Claim}

abbrev pub Appended : List Claim → ℕ → Claim → List Claim → Type 0 → Result (Unit {0}) Fault → Type 0
Appended list capacity c after as_it_was (Ok _) = (length list < capacity) × (after ≡ list ++ (c ∷ []))
Appended list capacity c after as_it_was (Err e) = (length list ≡ capacity) × (e ≡ fault_at StoreFull 0) × as_it_was

abbrev pub Cut : ℕ → List Claim → ℕ → List Claim → Type 0 → Result (Unit {0}) Fault → Type 0
Cut floor list n after as_it_was (Ok _) = (floor ≤ n) × (n ≤ length list) × (after ≡ take n list)
Cut floor list n after as_it_was (Err e) = ((floor ≤ n) → (n ≤ length list) → ⊥) × (e ≡ fault_at CutOutside 0) × as_it_was
