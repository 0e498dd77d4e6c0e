-- The places of a tree's atoms, numbered from left to right: where a run begins and ends, and what may follow what.
use Rattle.std.specs.Prelude.{◌≡◌, ℕ, ◌+◌, ◌*◌, ◌/◌, ◌%◌, ◌^◌, ◌<◌, ◌≤◌, Bool, true, false, if◌then◌else◌, ◌&&◌, ◌||◌, ◌⊎◌, List, [], ◌∷◌, ◌++◌, map, take, ◌==◌, bit_or, slice_index}
use Rattle.automaton.specs.declared.Atom.{Atom}
use Rattle.automaton.specs.declared.Automaton.{Automaton}
use Rattle.automaton.specs.declared.Place.{Place}
use Rattle.automaton.specs.Language.{Tree, empty, one, either, followed, star, plus, opt}

-- a set of places is a number: is the place p in it?
abbrev pub bit : ℕ → ℕ → Bool
bit s p = s / 2 ^ p % 2 == 1

abbrev pub Has : ℕ → ℕ → Type 0
Has s p = bit s p ≡ true

-- how many places: the atoms that are single units or dots
abbrev pub size : Tree → ℕ
size empty = 0
size (one a) = 1
size (either s t) = size s + size t
size (followed s t) = size s + size t
size (star t) = size t
size (plus t) = size t
size (opt t) = size t

abbrev pub atoms_of : Tree → List Atom
atoms_of empty = []
atoms_of (one a) = a ∷ []
atoms_of (either s t) = atoms_of s ++ atoms_of t
atoms_of (followed s t) = atoms_of s ++ atoms_of t
atoms_of (star t) = atoms_of t
atoms_of (plus t) = atoms_of t
atoms_of (opt t) = atoms_of t

-- does the empty run belong?
abbrev pub null : Tree → Bool
null empty = true
null (one a) = false
null (either s t) = null s || null t
null (followed s t) = null s && null t
null (star t) = true
null (plus t) = null t
null (opt t) = true

-- where a run may begin, the tree's places being numbered from n
abbrev pub first : Tree → ℕ → ℕ
first empty n = 0
first (one a) n = 2 ^ n
first (either s t) n = bit_or (first s n) (first t (n + size s))
first (followed s t) n = bit_or (first s n) (if null s then first t (n + size s) else 0)
first (star t) n = first t n
first (plus t) n = first t n
first (opt t) n = first t n

-- where a run may end
abbrev pub last : Tree → ℕ → ℕ
last empty n = 0
last (one a) n = 2 ^ n
last (either s t) n = bit_or (last s n) (last t (n + size s))
last (followed s t) n = bit_or (last t (n + size s)) (if null t then last s n else 0)
last (star t) n = last t n
last (plus t) n = last t n
last (opt t) n = last t n

-- from each place of the first set one may go on to each of the second
abbrev pub Link : Type 0
Link = ℕ × ℕ

abbrev pub links : Tree → ℕ → List Link
links empty n = []
links (one a) n = []
links (either s t) n = links s n ++ links t (n + size s)
links (followed s t) n = links s n ++ (links t (n + size s) ++ (last s n, first t (n + size s)) ∷ [])
links (star t) n = links t n ++ (last t n, first t n) ∷ []
links (plus t) n = links t n ++ (last t n, first t n) ∷ []
links (opt t) n = links t n

-- some link leads from p to q
abbrev pub Linked : List Link → ℕ → ℕ → Type 0
Linked [] p q = ⊥
Linked (l ∷ ls) p q = (Has l.0 p × Has l.1 q) ⊎ Linked ls p q

-- the set of the places that may come next, which is held in two halves of 32 bits
abbrev pub follow_of : Place → ℕ
follow_of p = p.high * 2 ^ 32 + p.low

-- what each place takes, and for each which may come next
abbrev pub atoms : List Place → List Atom
atoms ps = map (λ p. p.atom) ps

abbrev pub follows : List Place → List ℕ
follows ps = map follow_of ps

-- the automaton is that of the tree t with these anchors
pub record Stands (a : Automaton) (head tail : Bool) (t : Tree) : Type 0 where
  pub heads : a.head ≡ head
  pub tails : a.tail ≡ tail
  pub nulls : a.nullable ≡ null t
  pub begins : a.firsts ≡ first t 0
  pub ends : a.lasts ≡ last t 0
  pub counts : a.count ≡ size t
  pub few : size t ≤ 60
  pub takes : take (size t) (atoms a.places) ≡ atoms_of t
  pub leads : (p q : ℕ) → p < 60 → (Has (slice_index (follows a.places) p) q → Linked (links t 0) p q) × (Linked (links t 0) p q → Has (slice_index (follows a.places) p) q)
