-- How a pattern is spelt: which units spell which tree.
use Rattle.std.specs.Prelude.{◌≡◌, ℕ, suc, Bool, true, false, List, [], ◌∷◌, ◌++◌}
use Rattle.automaton.specs.declared.Atom.TheVariants.{Plain, Any}
use Rattle.automaton.specs.Language.{Tree, empty, one, either, followed, plus, opt, star}
use Rattle.pattern.specs.Signs.{special}

pub data Kind : Type 0 where
  choice sequence item atom : Kind

-- the units s spell the tree t as a part of that kind, with brackets nested at most d deep
pub data Spells : ℕ → Kind → Tree → List ℕ → Type 0 where
  one_way : {d : ℕ} {t : Tree} {s : List ℕ} → Spells d sequence t s → Spells d choice t s
  -- |
  or_way : {d : ℕ} {a b : Tree} {s : List ℕ} (u v : List ℕ) → s ≡ u ++ (124 ∷ v) → Spells d choice a u → Spells d sequence b v → Spells d choice (either a b) s
  nothing : {d : ℕ} → Spells d sequence empty []
  and_then : {d : ℕ} {a b : Tree} {s : List ℕ} (u v : List ℕ) → s ≡ u ++ v → Spells d sequence a u → Spells d item b v → Spells d sequence (followed a b) s
  once : {d : ℕ} {a : Tree} {s : List ℕ} → Spells d atom a s → Spells d item a s
  -- * + ?
  starred : {d : ℕ} {a : Tree} {s : List ℕ} (u : List ℕ) → s ≡ u ++ (42 ∷ []) → Spells d atom a u → Spells d item (star a) s
  plussed : {d : ℕ} {a : Tree} {s : List ℕ} (u : List ℕ) → s ≡ u ++ (43 ∷ []) → Spells d atom a u → Spells d item (plus a) s
  queried : {d : ℕ} {a : Tree} {s : List ℕ} (u : List ℕ) → s ≡ u ++ (63 ∷ []) → Spells d atom a u → Spells d item (opt a) s
  -- a dot, a plain unit, a backslash and a special unit
  dot : {d : ℕ} → Spells d atom (one Any) (46 ∷ [])
  unit : {d : ℕ} (c : ℕ) → special c ≡ false → Spells d atom (one (Plain c)) (c ∷ [])
  escaped : {d : ℕ} (c : ℕ) → special c ≡ true → Spells d atom (one (Plain c)) (92 ∷ c ∷ [])
  -- ( )
  bracketed : {d : ℕ} {a : Tree} {s : List ℕ} (u : List ℕ) → s ≡ 40 ∷ (u ++ (41 ∷ [])) → Spells d choice a u → Spells (suc d) atom a s

-- ^ if the pattern has it, and $
abbrev pub opening : Bool → List ℕ
opening true = 94 ∷ []
opening false = []

abbrev pub closing : Bool → List ℕ
closing true = 36 ∷ []
closing false = []

-- the units of a whole pattern: a choice between its anchors
abbrev pub Written : ℕ → Bool → Bool → Tree → List ℕ → Type 0
Written d head tail t s = (u : List ℕ) × (s ≡ opening head ++ (u ++ closing tail)) × Spells d choice t u
