use Rattle.std.proofs.Common.{◌≡◌, length}
use Rattle.automaton.specs.Places.{atoms, follows}
use Rattle.pattern.proofs.Grow.{Spread}
use Rattle.pattern.proofs.reader.link.Given as goal

abbrev pub invariant-loop-p : goal.invariant-loop-p
invariant-loop-p l = (length l.places ≡ 60) × (atoms l.places ≡ atoms l.initial.places) × Spread l.from l.to (follows l.initial.places) (follows l.places) l.p
