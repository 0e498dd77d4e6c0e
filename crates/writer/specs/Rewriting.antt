-- An accepted packet written back: the same bytes, or a buffer too short for them.
use Rattle.std.specs.Prelude.{◌≡◌, ℕ, ◌<◌, ◌≤◌, List, ◌++◌, length, drop, Ok, Err, Result}
use Rattle.faults.specs.At.{fault_at}
use Rattle.faults.specs.declared.Cause.TheVariants.{BufferTooShort}
use Rattle.faults.specs.declared.Fault.{Fault}

abbrev pub Rewrote : List ℕ → List ℕ → List ℕ → Result ℕ Fault → Type 0
Rewrote bytes old new (Ok n) = (n ≡ length bytes) × (n ≤ length old) × (new ≡ bytes ++ drop n old)
Rewrote bytes old new (Err f) = (f ≡ fault_at BufferTooShort 0) × (length old < length bytes) × (new ≡ old)
