use Rattle.std.proofs.Common.{◌≡◌, true, sym, ◌∙◌, rules}
use Rattle.units.specs.Units.{units}
use Rattle.automaton.specs.Run.{run, ends}
use Rattle.automaton.proofs.Correct.{decided}
use Rattle.automaton.proofs.matches.Goals as goal

pub returns-then-ended : goal.returns-then-ended
returns-then-ended c =
    let e : run c.args.a.now c.loop-u.r.fresh c.loop-u.r.set (units c.loop-u.u-iterator.rest.now) ≡ true = search rules in
    decided c.args.a.now (units c.args.text.now) true (sym e ∙ c.loop-u.invariant)

pub returns : goal.returns
returns c =
    let e : run c.args.a.now c.loop-u.r.fresh c.loop-u.r.set (units c.loop-u.u-iterator.rest.now) ≡ ends c.args.a.now c.loop-u.r.fresh c.loop-u.r.set = search rules in
    decided c.args.a.now (units c.args.text.now) c.ended-2.result (c.ended-2.ensures ∙ sym e ∙ c.loop-u.invariant)
