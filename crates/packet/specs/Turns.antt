-- The claims of a packet one by one, each as its record, and behind them the fault, if there is one.
use Rattle.std.specs.Prelude.{ℕ, zero, suc, ◌+◌, List, [], ◌∷◌, drop, Ok, Err, Result}
use Rattle.claims.specs.Meaning as meaning
use Rattle.claims.specs.declared.records.Claim.{Claim}
use Rattle.faults.specs.At.{fault_at}
use Rattle.faults.specs.declared.Cause.{Cause}
use Rattle.faults.specs.declared.Cause.TheVariants.{TooManyClaims}
use Rattle.faults.specs.declared.Fault.{Fault}
use Rattle.packet.specs.Judge.{size, one_claim_in}
use Rattle.packet.specs.Records.{claim_record}

abbrev pub turn : Result meaning.Claim Cause → ℕ → (meaning.Claim → List (Result Claim Fault)) → List (Result Claim Fault)
turn (Ok c) at f = Ok (claim_record at c) ∷ f c
turn (Err n) at f = Err (fault_at n at) ∷ []

-- from the place `at` on, where k more claims may come
abbrev pub turns : ℕ → ℕ → List ℕ → List (Result Claim Fault)
turns zero at [] = []
turns zero at (b ∷ bs) = Err (fault_at TooManyClaims at) ∷ []
turns (suc k) at [] = []
turns (suc k) at (b ∷ bs) = turn (one_claim_in (b ∷ bs)) at (λ c. turns k (at + size c) (drop (size c) (b ∷ bs)))
