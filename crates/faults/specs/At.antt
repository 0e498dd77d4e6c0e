-- A fault outside a step: rule and tuple are 0.
use Rattle.std.specs.Prelude.{ℕ}
use Rattle.faults.specs.declared.Cause.{Cause}
use Rattle.faults.specs.declared.Fault.{Fault}

abbrev pub fault_at : Cause → ℕ → Fault
fault_at c p = record { cause = c; place = p; rule = 0; tuple = 0 }
