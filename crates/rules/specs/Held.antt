-- What a list over a lent buffer holds once parts were put to it: as many of them as there is room for, and blanks behind them.
use Rattle.std.specs.Prelude.{◌≡◌, ℕ, List, ◌++◌, length, take, nat_lt}
use Rattle.std.specs.Result.{is_err}
use Rattle.list.specs.Held.{items, room}
use Rattle.parts.specs.declared.Part.{Part}
use Rattle.rules.specs.Buffer.{padded}
use Rattle.rules.specs.declared.sink.Sink.{Sink}

abbrev pub room_of : Sink → ℕ
room_of s = room s.list

-- these parts were put to the sink
pub record Holds (ps : List Part) (s : Sink) : Type 0 where
  pub items : items s.list ≡ take (room_of s) ps
  pub slots : s.list.slots.now ≡ padded (room_of s) ps
  pub short : is_err s.last ≡ nat_lt (room_of s) (length ps)

-- these parts more, of the same text and with as much room as before
pub record Put (ps : List Part) (s t : Sink) : Type 0 where
  pub text : t.text ≡ s.text
  pub same : room_of t ≡ room_of s
  pub holds : (qs : List Part) → Holds qs s → Holds (qs ++ ps) t
