use Rattle.std.proofs.Common.{length-take, refl, arith, rules}
use Rattle.faults.specs.At.{fault_at}
use Rattle.faults.specs.declared.Cause.TheVariants.{StoreFull}
use Rattle.list.specs.Held.{items, room}
use Rattle.store.specs.Calls.{Appended}
use Rattle.store.proofs.Refusals.{refused_as, table_same}
use Rattle.store.proofs.tables.calls.TableStore.append.Goals as goal

pub returns-clause-cases : goal.returns-clause-cases
returns-clause-cases c =
    let t = c.args.self.now in
    let e = c.push.ensures in
    let len = length-take t.held.len t.held.slots.now in
    refused_as (Appended (items t.held) (room t.held) c.args.claim (items c.push.new.self) _)
    (fault_at StoreFull 0) c.push.result c.map_err.result c.map_err.ensures.cases (λ x f q. search rules) e.variant e.after e.refused
    (λ x lt more. (lt, more)) (λ no same. (omega arith, refl, table_same t _ same _))
