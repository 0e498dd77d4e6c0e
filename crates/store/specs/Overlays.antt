-- The list of an overlay, its floor and its capacity: the claims below, then its own, at most 128 and at most 512 in all.
use Rattle.std.specs.Prelude.{ℕ, ◌+◌, ◌-◌, min, List, ◌++◌, length, take}
use Rattle.claims.specs.declared.records.Claim.{Claim}

abbrev pub laid_over : List Claim → List Claim → List Claim
laid_over below own = below ++ take (512 - length below) own

abbrev pub floor_over : List Claim → ℕ
floor_over below = length below

abbrev pub capacity_over : List Claim → ℕ
capacity_over below = min (length below + 128) 512
