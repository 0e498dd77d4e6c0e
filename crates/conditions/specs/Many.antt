-- What a list of items shows, and the room that it takes.
use denote.RattleType.{RattleType}
use Rattle.std.specs.Prelude.{ℕ, List, map}
use Rattle.std.specs.Mem.{FitsInMemory}
use Rattle.list.specs.Few.{Few}
use Rattle.list.specs.contracts.few.Few.{the_row}

-- each item, through the units of the rule text
abbrev pub all_of : {A B : Type 0} → (List ℕ → A → B) → List ℕ → Few A → List B
all_of f us xs = map (f us) xs.items

-- a list of so many of these is no larger than memory
abbrev pub ListFitsInMemory : RattleType → RattleType → Type 0
ListFitsInMemory T N = FitsInMemory (the_row T N)
