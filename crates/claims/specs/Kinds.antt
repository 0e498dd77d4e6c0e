-- The type that the value of a record is of.
use Rattle.claims.specs.declared.values.Value.{Value}
use Rattle.claims.specs.declared.values.Value.TheVariants as value
use Rattle.claims.specs.declared.values.ValueType.{ValueType}
use Rattle.claims.specs.declared.values.ValueType.TheVariants as kind

abbrev pub kind_of : Value → ValueType
kind_of (value.Uint64 n) = kind.Uint64
kind_of (value.Int64 z) = kind.Int64
kind_of (value.String t) = kind.String
kind_of (value.Boolean b) = kind.Boolean
