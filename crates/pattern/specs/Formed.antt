-- A pattern that is well formed, told in one pass over its units with a count of open brackets.
use Rattle.std.specs.Prelude.{ℕ, zero, suc, ◌+◌, ◌≤◌, Bool, true, false, if◌then◌else◌, ◌||◌, List, [], ◌∷◌, Some, None, Option, ◌==◌}
use Rattle.pattern.specs.Signs.{special}
use Rattle.pattern.specs.declared.scan.State.{State}
use Rattle.pattern.specs.declared.scan.State.TheVariants.{Fresh, Behind, Escaped, Closed}
use Rattle.pattern.specs.declared.scan.Pass.{Pass}
use Rattle.pattern.specs.declared.scan.Class.{Class}
use Rattle.pattern.specs.declared.scan.Class.TheVariants.{Opens, Closes, Parts, Escapes, Repeats, Ends, Strays, Takes}

abbrev pub class_of : ℕ → Class
class_of u =
    if u == 40 then Opens else
    if u == 41 then Closes else
    if u == 124 then Parts else
    if u == 92 then Escapes else
    if u == 42 || u == 43 || u == 63 then Repeats else
    if u == 36 then Ends else
    if u == 91 || u == 93 || u == 94 then Strays else Takes

-- the pass there, with d brackets open
abbrev pub pass : State → ℕ → Pass
pass state d = record { state = state; depth = d }

-- where d brackets are open, and an atom stands before, or not
abbrev pub free : Bool → ℕ → Class → Option Pass
free behind d Opens = Some (pass Fresh (suc d))
free behind zero Closes = None
free behind (suc d) Closes = Some (pass Behind d)
free behind d Parts = Some (pass Fresh d)
free behind d Escapes = Some (pass Escaped d)
free behind d Repeats = if behind then Some (pass Fresh d) else None
free behind d Ends = if d == 0 then Some (pass Closed 0) else None
free behind d Strays = None
free behind d Takes = Some (pass Behind d)

abbrev pub after : State → ℕ → ℕ → Option Pass
after Fresh d u = free false d (class_of u)
after Behind d u = free true d (class_of u)
after Escaped d u = if special u then Some (pass Behind d) else None
after Closed d u = None

abbrev pub done : State → ℕ → Bool
done Fresh d = d == 0
done Behind d = d == 0
done Escaped d = false
done Closed d = true

abbrev pub goes : Option Pass → (State → ℕ → Bool) → Bool
goes None rest = false
goes (Some p) rest = rest p.state p.depth

-- the units may follow, where the pass stands so
abbrev pub formed : State → ℕ → List ℕ → Bool
formed state d [] = done state d
formed state d (u ∷ us) = goes (after state d u) (λ s e. formed s e us)

-- at most one bracket more is open
abbrev pub Small : ℕ → Option Pass → Type 0
Small d None = Unit {0}
Small d (Some p) = p.depth ≤ d + 1
