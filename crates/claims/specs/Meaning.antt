-- What a claim means: texts as lists of units, and a value; no place, no buffer, no bytes.
use Rattle.std.specs.Prelude.{ℕ, Bool, if◌then◌else◌, List, ℤ, Some, None, codes, Option}
use Rattle.units.specs.Fold.{same_units}
use Rattle.claims.specs.declared.values.ValueType.{ValueType}
use Rattle.claims.specs.declared.values.ValueType.TheVariants.{Uint64, Int64, String, Boolean}

pub data Value : Type 0 where
  uint64 : ℕ → Value
  int64 : ℤ → Value
  string : List ℕ → Value
  boolean : Bool → Value

pub record Claim : Type 0 where
  pub typ : List ℕ
  pub word : List ℕ
  pub value : Value

abbrev pub claim : List ℕ → List ℕ → Value → Claim
claim t w v = record { typ = t; word = w; value = v }

abbrev pub name_of : ValueType → List ℕ
name_of Uint64 = codes "uint64"
name_of Int64 = codes "int64"
name_of String = codes "string"
name_of Boolean = codes "boolean"

-- the value type that a word spells, in any case
abbrev pub named : List ℕ → Option ValueType
named w =
    if same_units w (name_of Uint64) then Some Uint64
    else if same_units w (name_of Int64) then Some Int64
    else if same_units w (name_of String) then Some String
    else if same_units w (name_of Boolean) then Some Boolean
    else None

-- the value type that a value is of
abbrev pub type_of : Value → ValueType
type_of (uint64 n) = Uint64
type_of (int64 z) = Int64
type_of (string us) = String
type_of (boolean b) = Boolean
