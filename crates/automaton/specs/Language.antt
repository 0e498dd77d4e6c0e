-- What a pattern means: which units belong to its tree, and which texts match it.
use Rattle.std.specs.Prelude.{◌≡◌, ℕ, Bool, true, ◌⊎◌, List, [], ◌∷◌, ◌++◌, ◌==◌}
use Rattle.units.specs.Fold.{fold_unit}
use Rattle.automaton.specs.declared.Atom.{Atom}
use Rattle.automaton.specs.declared.Atom.TheVariants.{Plain, Any}

-- the atom takes the unit: units compare folded, and the dot takes any
abbrev pub fits : Atom → ℕ → Bool
fits (Plain c) u = fold_unit c == fold_unit u
fits Any u = true

-- the empty sequence, one atom, a choice of two, one behind the other, and the repeats: any number, one or more, none or one
pub data Tree : Type 0 where
  empty : Tree
  one : Atom → Tree
  either : Tree → Tree → Tree
  followed : Tree → Tree → Tree
  star : Tree → Tree
  plus : Tree → Tree
  opt : Tree → Tree

-- any number of pieces, each in P
pub data Many (P : List ℕ → Type 0) : List ℕ → Type 0 where
  none : Many P []
  more : {w : List ℕ} (u v : List ℕ) → w ≡ u ++ v → P u → Many P v → Many P w

-- a piece in P and then one in Q
abbrev pub Then : (List ℕ → Type 0) → (List ℕ → Type 0) → List ℕ → Type 0
Then P Q w = (u : List ℕ) × (v : List ℕ) × (w ≡ u ++ v) × P u × Q v

-- the units w belong to the tree
abbrev pub In : Tree → List ℕ → Type 0
In empty w = w ≡ []
In (one a) w = (u : ℕ) × (w ≡ u ∷ []) × (fits a u ≡ true)
In (either s t) w = In s w ⊎ In t w
In (followed s t) w = Then (In s) (In t) w
In (star t) w = Many (In t) w
In (plus t) w = Then (In t) (Many (In t)) w
In (opt t) w = (w ≡ []) ⊎ In t w

-- what may be left of the text behind the run: nothing, under the closing anchor
abbrev pub After : Bool → List ℕ → Type 0
After tail v = tail ≡ true → v ≡ []

-- the text w matches: some run of neighbours belongs, from the first unit under the opening anchor, up to the last under the closing one
abbrev pub Matches : Bool → Bool → Tree → List ℕ → Type 0
Matches head tail t w = (a : List ℕ) × (b : List ℕ) × (w ≡ a ++ b) × (head ≡ true → a ≡ []) × Then (In t) (After tail) b
