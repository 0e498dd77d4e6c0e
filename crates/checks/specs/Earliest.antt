-- The earliest of some faults: the first by place, and at one place the one of the smaller number.
use Rattle.std.specs.Prelude.{◌≡◌, ◌≤◌, Bool, cond, ◌&&◌, ◌||◌, ◌⊎◌, List, [], ◌∷◌, Some, None, Option, ◌==◌, nat_lt}
use Rattle.std.specs.List.{AllByRecursion}
use Rattle.faults.specs.Numbers.{number_of}
use Rattle.faults.specs.declared.Fault.{Fault}
use Rattle.checks.specs.declared.earliest.Earliest.{Earliest as Known}

-- does g come before f?
abbrev pub sooner : Fault → Fault → Bool
sooner g f = nat_lt g.place f.place || (g.place == f.place && nat_lt (number_of g.cause) (number_of f.cause))

-- the known fault stays unless the new one comes before it
abbrev pub earlier_of : Option Fault → Fault → Fault
earlier_of None g = g
earlier_of (Some f) g = cond (sooner g f) g f

abbrev pub earliest_from : Option Fault → List Fault → Option Fault
earliest_from known [] = known
earliest_from known (g ∷ gs) = earliest_from (Some (earlier_of known g)) gs

-- these faults were noted beside the one that was known
abbrev pub Notes : List Fault → Known → Known → Type 0
Notes faults old new = new.known ≡ earliest_from old.known faults

abbrev pub Among : List Fault → Fault → Type 0
Among [] f = ⊥
Among (g ∷ gs) f = (f ≡ g) ⊎ Among gs f

-- g has no earlier place than f, and at the same place no smaller number
pub record NotBefore (f g : Fault) : Type 0 where
  pub place : f.place ≤ g.place
  pub number : g.place ≡ f.place → number_of f.cause ≤ number_of g.cause

pub record First (fs : List Fault) (f : Fault) : Type 0 where
  pub among : Among fs f
  pub first : AllByRecursion (NotBefore f) fs

-- none exactly where there is no fault
abbrev pub Earliest : List Fault → Option Fault → Type 0
Earliest fs None = fs ≡ []
Earliest fs (Some f) = First fs f

-- a fault that is known before, if any
abbrev pub known_faults : Option Fault → List Fault
known_faults None = []
known_faults (Some f) = f ∷ []
