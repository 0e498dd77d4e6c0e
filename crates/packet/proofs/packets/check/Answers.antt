use Rattle.std.proofs.Common.{Some, None, refl}
use Rattle.std.proofs.lemmas.Result.{err_from_is_err_and}
use Rattle.packet.specs.Judge.{judge}
use Rattle.packet.proofs.Exactly.{exact, counted_ok, counted_err}
use Rattle.packet.proofs.packets.check.Goals as goal

pub invariant_of-result : goal.invariant_of-result
invariant_of-result c = let t = counted_ok (judge c.args.bytes.now) c.in_ok-count.count c.in_ok-count.ensures in record { accepted = t.0; counted = t.1 }

pub returns-in_err-count : goal.returns-in_err-count
returns-in_err-count c =
    let p = err_from_is_err_and c.from_residual.result c.from_residual.ensures.1 in
    let f = c.in_err-count.field-0.0 in
    let t = counted_err (judge c.args.bytes.now) f c.in_err-count.ensures in
    rw (p.1, p.2) (record { fault = t; packet = tt; exact = exact c.args.bytes.now (Some f) (λ i. (c.type_inv.bytes i).fits) t })

pub returns : goal.returns
returns c =
    let t = counted_ok (judge c.args.bytes.now) c.in_ok-count.count c.in_ok-count.ensures in
    record { fault = t.2; packet = refl; exact = exact c.args.bytes.now None (λ i. (c.type_inv.bytes i).fits) t.2 }
