use Rattle.std.proofs.lemmas.Result.{err_from_is_err_and}
use Rattle.faults.specs.declared.Cause.TheVariants.{ClaimPastEnd}
use Rattle.packet.proofs.Steps.{err_is}
use Rattle.std.proofs.Common.{Err, ap}
use Rattle.std.proofs.Common.{◌≤◌, ◌∙◌, length, arith}
use Rattle.std.proofs.lemmas.Grind.{common_steps}
use Rattle.packet.proofs.FieldAt.{text_none, text_cut, text_there, text_lies, no_text, a_text}
use Rattle.packet.proofs.fields.Bytes.text_at.Goals as goal

pub returns-in_err-n : goal.returns-in_err-n
returns-in_err-n c =
    let bs = c.args.self.now.bytes.now in
    let h : length bs ≤ c.args.at = grind (arith, common_steps, rw c.in_err-n.ensures.ok_part at c.get.ensures.lookup) in
    let is = err_is c.get.result ClaimPastEnd c.in_err-n.field-0.0 c.in_err-n.ensures.value c.in_err-n.ensures.ok_part in
    let p = err_from_is_err_and c.from_residual.result c.from_residual.ensures.1 in
    rw (p.1, p.2) (record { means = ap Err is ∙ no_text bs c.args.at (text_none bs c.args.at h); lies = tt })

pub returns-then-self-at : goal.returns-then-self-at
returns-then-self-at c =
    let bs = c.args.self.now.bytes.now in
    let l = (rw c.in_ok-n.ensures.ok_part at c.get.ensures.lookup).3 in
    record { means = no_text bs c.args.at (text_cut bs c.args.at c.from-len.result l.0 (c.from-len.ensures ∙ l.1 0) (omega arith)); lies = tt }

pub returns : goal.returns
returns c =
    let bs = c.args.self.now.bytes.now in
    let l = (rw c.in_ok-n.ensures.ok_part at c.get.ensures.lookup).3 in
    record {
      means = a_text bs c.args.at _ (text_there bs c.args.at c.from-len.result l.0 (c.from-len.ensures ∙ l.1 0) (omega arith));
      lies = text_lies bs c.args.at c.from-len.result (omega arith);
    }
