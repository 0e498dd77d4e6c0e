use Rattle.std.proofs.Common.{◌≡◌, cond}
use Rattle.automaton.specs.Places.{atoms, follows}
use Rattle.automaton.specs.Run.{masked, reached}
use Rattle.automaton.proofs.Automaton.step.Given as goal

abbrev pub invariant-loop-i : goal.invariant-loop-i
invariant-loop-i l =
    (l.next ≡ reached (follows l.self.places) (cond l.r.fresh l.self.firsts 0) l.r.set l.i) × (l.mask ≡ masked (atoms l.self.places) l.u l.i)
