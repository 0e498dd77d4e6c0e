-- The list of a table, its floor and its capacity: the items in its buffer, of which it has at most 512.
use Rattle.std.specs.Prelude.{ℕ, List}
use Rattle.list.specs.Held.{items, room}
use Rattle.claims.specs.declared.records.Claim.{Claim}
use Rattle.store.specs.declared.tables.Table.{Table}

abbrev pub list_in : Table → List Claim
list_in t = items t.held

abbrev pub floor_in : Table → ℕ
floor_in t = 0

abbrev pub capacity_in : Table → ℕ
capacity_in t = room t.held
