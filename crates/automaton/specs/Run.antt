-- The steps of an automaton over a text, from set to set.
use Rattle.std.specs.Prelude.{ℕ, zero, suc, ◌^◌, min, Bool, true, if◌then◌else◌, not, ◌&&◌, List, [], ◌∷◌, ◌==◌, bit_and, bit_or, slice_index, slice_index_or}
use Rattle.automaton.specs.declared.Atom.{Atom}
use Rattle.automaton.specs.declared.Atom.TheVariants.{Plain}
use Rattle.automaton.specs.declared.Automaton.{Automaton}
use Rattle.automaton.specs.Language.{fits}
use Rattle.automaton.specs.Places.{bit, atoms, follows}

abbrev pub room : Automaton → ℕ
room a = min a.count 60

-- the places below n whose atom takes u
abbrev pub masked : List Atom → ℕ → ℕ → ℕ
masked atoms u zero = 0
masked atoms u (suc n) = if fits (slice_index_or atoms n (Plain 0)) u then bit_or (masked atoms u n) (2 ^ n) else masked atoms u n

-- with `begun`, what may follow a place of s below n
abbrev pub reached : List ℕ → ℕ → ℕ → ℕ → ℕ
reached follow begun s zero = begun
reached follow begun s (suc n) = if bit s n then bit_or (reached follow begun s n) (slice_index follow n) else reached follow begun s n

abbrev pub stepped : Automaton → Bool → ℕ → ℕ → ℕ
stepped a fresh s u = bit_and (reached (follows a.places) (if fresh then a.firsts else 0) s (room a)) (masked (atoms a.places) u (room a))

abbrev pub ends : Automaton → Bool → ℕ → Bool
ends a fresh s = if fresh && a.nullable then true else not (bit_and a.lasts s == 0)

-- does a run that begins here (where fresh), or one that has reached a place of s, or a later one, make a match?
abbrev pub run : Automaton → Bool → ℕ → List ℕ → Bool
run a fresh s [] = ends a fresh s
run a fresh s (u ∷ w) = if not a.tail && ends a fresh s then true else run a (not a.head) (stepped a fresh s u) w
