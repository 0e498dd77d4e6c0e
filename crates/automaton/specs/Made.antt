-- The automaton of a tree, computed.
use Rattle.std.specs.Prelude.{ℕ, zero, suc, ◌+◌, ◌/◌, ◌%◌, ◌^◌, Bool, if◌then◌else◌, List, [], ◌∷◌, bit_or}
use Rattle.automaton.specs.declared.Atom.{Atom}
use Rattle.automaton.specs.declared.Atom.TheVariants.{Any}
use Rattle.automaton.specs.declared.Automaton.{Automaton}
use Rattle.automaton.specs.declared.Place.{Place}
use Rattle.automaton.specs.Language.{Tree}
use Rattle.automaton.specs.Places.{bit, size, atoms_of, null, first, last, Link, links}

-- what may follow p
abbrev pub next : List Link → ℕ → ℕ
next [] p = 0
next (l ∷ ls) p = if bit l.0 p then bit_or l.1 (next ls p) else next ls p

-- for each of the n places from p on
abbrev pub table : List Link → ℕ → ℕ → List ℕ
table ls p zero = []
table ls p (suc n) = next ls p ∷ table ls (p + 1) n

-- the place of an atom and a set
abbrev pub place : Atom → ℕ → Place
place a f = record { atom = a; low = f % 2 ^ 32; high = f / 2 ^ 32 }

-- a place for each set of those that may come next: the atoms in order, and behind them dots
abbrev pub placed : List Atom → List ℕ → List Place
placed xs [] = []
placed [] (f ∷ fs) = place Any f ∷ placed [] fs
placed (x ∷ xs) (f ∷ fs) = place x f ∷ placed xs fs

abbrev pub made : Bool → Bool → Tree → Automaton
made head tail t = record { head = head; tail = tail; nullable = null t; firsts = first t 0; lasts = last t 0; count = size t; places = placed (atoms_of t) (table (links t 0) 0 60) }
