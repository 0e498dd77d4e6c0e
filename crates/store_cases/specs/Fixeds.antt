-- The list of a store of eight records.
use Rattle.std.specs.Prelude.{List}
use Rattle.claims.specs.declared.records.Claim.{Claim}
use Rattle.store_cases.specs.declared.fixed.Fixed.{Fixed}

abbrev pub list_of : Fixed → List Claim
list_of f = f.held.items
