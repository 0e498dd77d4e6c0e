-- The claims that an overlay holds itself, at most 128.
use Rattle.std.specs.Prelude.{List}
use Rattle.arrayvec.specs.ArrayVec.{ArrayVec}
use Rattle.claims.specs.declared.records.Claim.{Claim}

abbrev pub owned : ArrayVec Claim → List Claim
owned o = o.items
