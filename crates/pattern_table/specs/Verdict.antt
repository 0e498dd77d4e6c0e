-- How a verdict is shown: yes, no, or the number of the refusal.
use Rattle.std.specs.Prelude.{ℕ, Bool, true, false, List, Ok, Err, codes, decimal, Result}
use Rattle.faults.specs.declared.Cause.{Cause}
use Rattle.faults.specs.Numbers.{number_of}

abbrev pub shown : Result Bool Cause → List ℕ
shown (Ok true) = codes "yes"
shown (Ok false) = codes "no"
shown (Err c) = decimal (number_of c)
