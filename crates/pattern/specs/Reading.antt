-- What has been read of a pattern, and when nothing can be.
use Rattle.std.specs.Prelude.{◌≡◌, ℕ, ◌+◌, ◌≤◌, Bool, true, false, ◌||◌, List, ◌++◌, length, take, drop, Some, None, Option}
use Rattle.units.specs.Units.{units}
use Rattle.automaton.specs.Language.{Tree}
use Rattle.automaton.specs.Places.{first, last, null, size, links, atoms_of}
use Rattle.pattern.specs.Signs.{begins, stops}
use Rattle.pattern.specs.Grammar.{Kind, choice, sequence, item, atom, Spells}
use Rattle.pattern.specs.Parts.{Piece, piece, Table, table, Grown}
use Rattle.pattern.specs.declared.reader.Part.{Part}
use Rattle.pattern.specs.declared.reader.Reader.{Reader}

abbrev pub repeats : List ℕ → Bool
repeats v = begins 42 v || begins 43 v || begins 63 v

-- what may stand behind a part of each kind
abbrev pub Next : Kind → List ℕ → Type 0
Next choice v = (stops v ≡ true) × (begins 124 v ≡ false)
Next sequence v = stops v ≡ true
Next item v = repeats v ≡ false
Next atom v = Unit {0}

-- from `at` on, us begins with a part of that kind, its places numbered from n, and p says where it ends and what it is
pub record Got (kind : Kind) (us : List ℕ) (d at n : ℕ) (before after : Table) (p : Piece) : Type 0 where
  pub tree : Tree
  pub text : List ℕ
  pub split : drop at us ≡ text ++ drop p.at us
  pub spelt : Spells d kind tree text
  pub begins : p.first ≡ first tree n
  pub ends : p.last ≡ last tree n
  pub nulls : p.null ≡ null tree
  pub counts : p.next ≡ n + size tree
  pub few : p.next ≤ 60
  pub takes : take p.next after.atoms ≡ take n before.atoms ++ atoms_of tree
  pub leads : Grown before.follow after.follow (links tree n)

-- whatever part of that kind us begins with, it is this one
abbrev pub Only : Kind → List ℕ → ℕ → Tree → List ℕ → Type 0
Only kind us at tree text = (d : ℕ) (t : Tree) (u v : List ℕ) → Spells d kind t u → drop at us ≡ u ++ v → Next kind v → (t ≡ tree) × (u ≡ text)

pub record Read (kind : Kind) (us : List ℕ) (d at n : ℕ) (before after : Table) (p : Piece) : Type 0 where
  pub got : Got kind us d at n before after p
  pub only : Only kind us at got.tree got.text
  pub inside : (at ≤ p.at) × (p.at ≤ length us)

-- us begins with no part of that kind, within the limits
abbrev pub Refused : Kind → List ℕ → ℕ → ℕ → ℕ → Type 0
Refused kind us d at n = (t : Tree) (u v : List ℕ) → Spells d kind t u → drop at us ≡ u ++ v → Next kind v → n + size t ≤ 60 → ⊥

-- the part that stood where the reader was, which now stands behind it
pub record Went (kind : Kind) (d : ℕ) (before after : Reader) (p : Part) : Type 0 where
  pub same : after.pattern.now ≡ before.pattern.now
  pub read : Read kind (units before.pattern.now) d before.at before.count (table before.places) (table after.places) (piece after.at after.count p)

-- what a reading method answers
abbrev pub Outcome : Kind → ℕ → Reader → Reader → Option Part → Type 0
Outcome kind d before after (Some p) = Went kind d before after p
Outcome kind d before after None = Refused kind (units before.pattern.now) d before.at before.count
