-- How the parts of an automaton come together.
use Rattle.std.specs.Prelude.{◌≡◌, ℕ, ◌+◌, ◌^◌, ◌<◌, Bool, false, if◌then◌else◌, ◌&&◌, ◌||◌, ◌⊎◌, List, bit_or, slice_index}
use Rattle.automaton.specs.Places.{Has, Link, Linked, atoms as atoms_in, follows}
use Rattle.automaton.specs.declared.Atom.{Atom}
use Rattle.automaton.specs.declared.Place.{Place}
use Rattle.pattern.specs.declared.reader.Part.{Part}

-- a part with its extent: where it ends, and the first place behind its own
pub record Piece : Type 0 where
  pub at : ℕ
  pub next : ℕ
  pub first : ℕ
  pub last : ℕ
  pub null : Bool

abbrev pub piece : ℕ → ℕ → Part → Piece
piece at next p = record { at = at; next = next; first = p.first; last = p.last; null = p.null }

-- what each place takes, and which may follow it
pub record Table : Type 0 where
  pub atoms : List Atom
  pub follow : List ℕ

abbrev pub table : List Place → Table
table ps = record { atoms = atoms_in ps; follow = follows ps }

pub record Either (a b r : Piece) : Type 0 where
  pub stays : r.at ≡ b.at
  pub counts : r.next ≡ b.next
  pub begins : r.first ≡ bit_or a.first b.first
  pub ends : r.last ≡ bit_or a.last b.last
  pub nulls : r.null ≡ (a.null || b.null)

pub record Both (a b r : Piece) : Type 0 where
  pub stays : r.at ≡ b.at
  pub counts : r.next ≡ b.next
  pub begins : r.first ≡ bit_or a.first (if a.null then b.first else 0)
  pub ends : r.last ≡ bit_or b.last (if b.null then a.last else 0)
  pub nulls : r.null ≡ (a.null && b.null)

-- one unit on
pub record Moved (a : Piece) (null : Bool) (r : Piece) : Type 0 where
  pub stays : r.at ≡ a.at + 1
  pub counts : r.next ≡ a.next
  pub begins : r.first ≡ a.first
  pub ends : r.last ≡ a.last
  pub nulls : r.null ≡ null

-- an atom for one unit, written with `units` units, at the place n
pub record Single (at units n : ℕ) (r : Piece) : Type 0 where
  pub stays : r.at ≡ at + units
  pub counts : r.next ≡ n + 1
  pub begins : r.first ≡ 2 ^ n
  pub ends : r.last ≡ 2 ^ n
  pub nulls : r.null ≡ false

-- to what may follow each place, the links have been added
abbrev pub Grown : List ℕ → List ℕ → List Link → Type 0
Grown before after ls =
    (p q : ℕ) → p < 60 → (Has (slice_index after p) q → Has (slice_index before p) q ⊎ Linked ls p q) × (Has (slice_index before p) q ⊎ Linked ls p q → Has (slice_index after p) q)
