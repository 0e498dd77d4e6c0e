use Rattle.std.proofs.Common.{◌≡◌, ◌-◌}
use Rattle.cursor.specs.Reading.{rest, text_of}
use Rattle.rules.proofs.Reading.{SoFar}
use Rattle.rules.proofs.sink.Sink.read_rules.Given as goal

abbrev pub invariant-loop-i : goal.invariant-loop-i
invariant-loop-i l =
    (text_of l.cursor ≡ text_of l.initial.cursor)
    × SoFar (32 - l.i) (rest l.initial.cursor) (rest l.cursor) l.fault l.i l.initial.self l.self
