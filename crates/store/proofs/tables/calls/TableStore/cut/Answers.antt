use Rattle.std.proofs.Common.{refl, arith, rules}
use Rattle.faults.specs.At.{fault_at}
use Rattle.faults.specs.declared.Cause.TheVariants.{CutOutside}
use Rattle.list.specs.Held.{items}
use Rattle.store.specs.Calls.{Cut}
use Rattle.store.proofs.Refusals.{refused_as, table_same}
use Rattle.store.proofs.tables.calls.TableStore.cut.Goals as goal

pub returns-clause-cases : goal.returns-clause-cases
returns-clause-cases c =
    let t = c.args.self.now in
    let e = c.cut.ensures in
    refused_as (Cut 0 (items t.held) c.args.n (items c.cut.new.self) _)
    (fault_at CutOutside 0) c.cut.result c.map_err.result c.map_err.ensures.cases (λ x f q. search rules) e.variant e.after e.refused
    (λ x le less. (omega arith, le, less)) (λ no same. ((λ low high. no high), refl, table_same t _ same _))
