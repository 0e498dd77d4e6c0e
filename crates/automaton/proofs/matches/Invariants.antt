use Rattle.std.proofs.Common.{◌≡◌, true}
use Rattle.units.specs.Units.{units}
use Rattle.automaton.specs.Run.{run}
use Rattle.automaton.proofs.matches.Given as goal

abbrev pub invariant-loop-u : goal.invariant-loop-u
invariant-loop-u l = run l.a l.r.fresh l.r.set (units l.u-iterator.rest.now) ≡ run l.a true 0 (units l.text)
