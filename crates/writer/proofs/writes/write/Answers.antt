use Rattle.packet.proofs.Steps.{err_is}
use Rattle.std.proofs.lemmas.Result.{err_from_is_err_and}
use Rattle.std.proofs.Common.{◌∙◌, inl, inr, arith}
use Rattle.writer.proofs.Whole.{refused_uncarriable, refused_large, refused_short, wrote}
use Rattle.writer.proofs.writes.write.Goals as goal

pub returns-in_err-size : goal.returns-in_err-size
returns-in_err-size g c =
    let is = err_is c.body_size.result c.at.result c.in_err-size.field-0.0 c.in_err-size.ensures.value c.in_err-size.ensures.ok_part in
    let p = err_from_is_err_and c.from_residual.result c.from_residual.ensures.1 in
    rw (p.1, p.2) (refused_uncarriable c.args.texts.now.rules.now c.args.texts.now.packet.now (g.S.Source.list c.args.source.now) c.args.out.now c.in_err-size.field-0.0 (is ∙ c.at.ensures) (rw c.in_err-size.ensures.ok_part at c.body_size.ensures))

pub returns-then-count-gt256 : goal.returns-then-count-gt256
returns-then-count-gt256 g c =
    refused_large c.args.texts.now.rules.now c.args.texts.now.packet.now (g.S.Source.list c.args.source.now) c.args.out.now c.at-then-count-gt256.result c.in_ok-size.size
    (rw c.in_ok-size.ensures.ok_part at c.body_size.ensures).0 c.at-then-count-gt256.ensures (rw c.in_ok-size.ensures.ok_part at c.body_size.ensures).1
    (elim c.then-count-gt256.either [ inl many ↦ inl (omega (arith, c.count.ensures.value)) | inr long ↦ inr long.1 ])

pub returns-then-out-size : goal.returns-then-out-size
returns-then-out-size g c =
    refused_short c.args.texts.now.rules.now c.args.texts.now.packet.now (g.S.Source.list c.args.source.now) c.args.out.now c.in_ok-size.size
    (rw c.in_ok-size.ensures.ok_part at c.body_size.ensures).0 (rw c.in_ok-size.ensures.ok_part at c.body_size.ensures).1 (omega (arith, c.count.ensures.value)) (omega arith) c.at-then-out-size.result c.at-then-out-size.ensures (omega arith)

pub returns : goal.returns
returns g c =
    wrote c.args.texts.now.rules.now c.args.texts.now.packet.now (g.S.Source.list c.args.source.now) c.args.out.now c.in_ok-size.size
    (rw c.in_ok-size.ensures.ok_part at c.body_size.ensures).0 (rw c.in_ok-size.ensures.ok_part at c.body_size.ensures).1 (omega (arith, c.count.ensures.value)) (omega arith) c.write_head.new.out c.write_body.new.out
    (omega arith) c.write_head.ensures c.write_body.ensures
