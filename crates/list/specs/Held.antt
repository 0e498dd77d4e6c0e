-- The items of a list, and how many it has room for.
use Rattle.std.specs.Prelude.{ℕ, List, length, take}
use Rattle.list.specs.declared.lists.List.{List as Held}

abbrev pub items : {T : Type 0} → Held T → List T
items h = take h.len h.slots.now

abbrev pub room : {T : Type 0} → Held T → ℕ
room h = length h.slots.now
