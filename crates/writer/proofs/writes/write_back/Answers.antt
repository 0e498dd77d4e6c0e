use Rattle.std.proofs.Common.{[], is_ok, sym, ap, ◌∙◌, subst}
use Rattle.packet.specs.Judge.{judge}
use Rattle.packet.specs.Records.{records_in}
use Rattle.writer.proofs.Whole.{rewrote}
use Rattle.writer.specs.Writing.{Wrote}
use Rattle.writer.proofs.writes.write_back.Goals as goal

pub returns : goal.returns
returns c =
    let bs = c.args.bytes.now in
    let e = c.requires in
    rewrote bs c.args.out.now c.write.new.out c.write.result (λ i. (c.type_inv.bytes i).fits) (ap (λ z. is_ok (judge z)) e ∙ c.args.packet.now.accepted)
    (subst (λ z. Wrote [] bs (records_in z) c.args.out.now c.write.new.out c.write.result) (sym e) c.write.ensures)
