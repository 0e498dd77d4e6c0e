-- What judging a text into a sink answers, and what it leaves there.
use Rattle.std.specs.Prelude.{◌≡◌, ℕ, List, length, Ok, Err, Result}
use Rattle.faults.specs.declared.Fault.{Fault}
use Rattle.parts.specs.Laid.{lay_rules}
use Rattle.rules.specs.Buffer.{tree_of}
use Rattle.rules.specs.Held.{Holds, room_of}
use Rattle.rules.specs.Judged.{accepted, refused, judged}
use Rattle.rules.specs.declared.sink.Sink.{Sink}

-- accepted, and the parts of so many rules were put
pub record Accepted (bytes : List ℕ) (s t : Sink) (many : ℕ) : Type 0 where
  pub verdict : judged bytes (room_of s) ≡ accepted (tree_of bytes)
  pub rules : many ≡ length (tree_of bytes)
  pub same : room_of t ≡ room_of s
  pub holds : Holds (lay_rules (tree_of bytes)) t

abbrev pub Judges : List ℕ → Sink → Sink → Result ℕ Fault → Type 0
Judges bytes s t (Ok n) = Accepted bytes s t n
Judges bytes s t (Err f) = (judged bytes (room_of s) ≡ refused f) × (room_of t ≡ room_of s)
