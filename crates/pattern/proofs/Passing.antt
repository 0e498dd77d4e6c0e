-- What follows a step of the pass over the units.
use Rattle.std.proofs.Common.{ℕ, Bool, List, Option}
use Rattle.pattern.specs.Formed.{formed, goes}
use Rattle.pattern.specs.declared.scan.Pass.{Pass}

-- what follows from a step
abbrev pub On : Option Pass → List ℕ → Bool
On o us = goes o (λ s e. formed s e us)
