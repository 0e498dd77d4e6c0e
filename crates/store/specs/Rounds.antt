-- A claim put to a store and read back, and the store cut to its floor; refused exactly where the store is full.
use Rattle.std.specs.Prelude.{◌≡◌, ℕ, ◌<◌, List, length, take, Some, Ok, Err, Option, Result}
use Rattle.faults.specs.At.{fault_at}
use Rattle.faults.specs.declared.Cause.TheVariants.{StoreFull}
use Rattle.faults.specs.declared.Fault.{Fault}
use Rattle.claims.specs.declared.records.Claim.{Claim}

abbrev pub Round : ℕ → ℕ → List Claim → Claim → List Claim → Type 0 → Result (Option Claim) Fault → Type 0
Round floor capacity list c after as_it_was (Ok back) = (length list < capacity) × (back ≡ Some c) × (after ≡ take floor list)
Round floor capacity list c after as_it_was (Err e) = (length list ≡ capacity) × (e ≡ fault_at StoreFull 0) × as_it_was
