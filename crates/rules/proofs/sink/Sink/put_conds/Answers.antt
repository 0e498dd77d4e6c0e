use Rattle.std.proofs.Common.{refl}
use Rattle.rules.proofs.Each.{each_found, each_end, of_conds, of_cond, conds_push}
use Rattle.rules.proofs.sink.Sink.put_conds.Goals as goal

pub loop-cond-preserved : goal.loop-cond-preserved
loop-cond-preserved c =
    each_found of_conds of_cond conds_push c.args.conds.now.items c.deref-cond-items.result.now c.deref-cond-items.ensures.0 c.loop-cond.cond-index c.args.self.now c.loop-cond.self c.loop-cond.invariant _ _ c.loop-cond-test.true refl c.put_cond.new.self c.put_cond.ensures

pub returns : goal.returns
returns c = each_end of_conds of_cond conds_push c.args.conds.now.items c.deref-cond-items.result.now c.deref-cond-items.ensures.0 c.loop-cond.cond-index c.args.self.now c.loop-cond.self c.loop-cond.invariant c.loop-cond-test.false
