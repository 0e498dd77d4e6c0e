-- The claims that a packet can carry.
use Rattle.std.specs.Prelude.{◌≡◌, ℕ, ◌^◌, ◌<◌, ◌≤◌, true, List, length, Some, FitsSigned}
use Rattle.std.specs.Int.{w64}
use Rattle.std.specs.List.{AllByRecursion}
use Rattle.claims.specs.Meaning.{Value, uint64, int64, string, boolean, Claim, named, type_of}
use Rattle.units.specs.Form.{well_formed}

-- a text that its length byte can count, well formed
pub record Short (us : List ℕ) : Type 0 where
  pub few : length us ≤ 255
  pub wide : AllByRecursion (λ u. u < 65536) us
  pub well : well_formed us ≡ true

abbrev pub Fits : Value → Type 0
Fits (uint64 n) = n < 2 ^ 64
Fits (int64 z) = FitsSigned w64 z
Fits (string us) = Short us
Fits (boolean b) = Unit {0}

-- short texts, and a word that names the value's own type
pub record Carriable (c : Claim) : Type 0 where
  pub type_fits : Short c.typ
  pub word_fits : Short c.word
  pub value_fits : Fits c.value
  pub spelt : named c.word ≡ Some (type_of c.value)
