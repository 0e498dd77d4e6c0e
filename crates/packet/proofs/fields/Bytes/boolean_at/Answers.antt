use Rattle.std.proofs.lemmas.Result.{err_from_is_err_and}
use Rattle.faults.specs.declared.Cause.TheVariants.{ClaimPastEnd}
use Rattle.packet.proofs.Steps.{err_is}
use Rattle.std.proofs.Common.{Err, ap}
use Rattle.std.proofs.Common.{◌≤◌, ◌∙◌, length, Ok, eqb, refl, sym, arith}
use Rattle.std.proofs.lemmas.Grind.{common_steps}
use Rattle.claims.specs.Meaning.{boolean}
use Rattle.packet.proofs.FieldAt.{truth_none, truth_over, truth_there}
use Rattle.packet.proofs.fields.Bytes.boolean_at.Goals as goal

pub returns-in_err-b : goal.returns-in_err-b
returns-in_err-b c =
    let bs = c.args.self.now.bytes.now in
    let h : length bs ≤ c.args.at = grind (arith, common_steps, rw c.in_err-b.ensures.ok_part at c.get.ensures.lookup) in
    let is = err_is c.get.result ClaimPastEnd c.in_err-b.field-0.0 c.in_err-b.ensures.value c.in_err-b.ensures.ok_part in
    let p = err_from_is_err_and c.from_residual.result c.from_residual.ensures.1 in
    rw (p.1, p.2) (record { means = ap Err is ∙ sym (truth_none bs c.args.at h); lies = tt })

pub returns-then-b-gt1 : goal.returns-then-b-gt1
returns-then-b-gt1 c =
    let bs = c.args.self.now.bytes.now in
    let l = (rw c.in_ok-b.ensures.ok_part at c.get.ensures.lookup).3 in
    record { means = sym (truth_over bs c.args.at l.0 (omega (arith, l.1 0))); lies = tt }

pub returns : goal.returns
returns c =
    let bs = c.args.self.now.bytes.now in
    let l = (rw c.in_ok-b.ensures.ok_part at c.get.ensures.lookup).3 in
    record {
      means = ap (λ b. Ok (boolean (eqb b 1))) (l.1 0) ∙ sym (truth_there bs c.args.at l.0 (omega (arith, l.1 0)));
      lies = record { place = tt; shown = tt; inside = omega arith; ends = refl };
    }
