use Rattle.std.proofs.lemmas.Result.{err_from_is_err_and}
use Rattle.faults.specs.declared.Cause.TheVariants.{ClaimPastEnd}
use Rattle.packet.proofs.Steps.{err_is}
use Rattle.std.proofs.Common.{Err, ap}
use Rattle.std.proofs.Common.{◌≡◌, ◌-◌, ◌≤◌, ◌<◌, ◌∙◌, take, drop, length, Ok, leb, sym, arith}
use Rattle.std.proofs.lemmas.List.{length-drop, take_all}
use Rattle.std.proofs.lemmas.Bool.{cond-true, cond-false, le-leb, lt-leb}
use Rattle.packet.proofs.FieldAt.{eight_number}
use Rattle.packet.proofs.fields.Bytes.number_at.Goals as goal

pub returns-in_err-eight : goal.returns-in_err-eight
returns-in_err-eight c =
    let bs = c.args.self.now.bytes.now in
    let at = c.args.at in
    let l = length-drop at bs in
    let w : take (length bs - at) (drop at bs) ≡ drop at bs = take_all (length bs - at) (drop at bs) (omega arith) in
    let k : length (take (length bs - at) (drop at bs)) < 8 = rw c.in_err-eight.ensures.ok_part at c.first_chunk.ensures.cases in
    let short : length (drop at bs) < 8 = omega (arith, ap length w) in
    let is = err_is c.first_chunk.result ClaimPastEnd c.in_err-eight.field-0.0 c.in_err-eight.ensures.value c.in_err-eight.ensures.ok_part in
    let p = err_from_is_err_and c.from_residual.result c.from_residual.ensures.1 in
    rw (p.1, p.2) (record { value = ap Err is ∙ sym (cond-false (leb 8 (length (drop at bs))) _ _ (lt-leb 8 _ short)); inside = tt })

pub returns : goal.returns
returns c =
    let bs = c.args.self.now.bytes.now in
    let at = c.args.at in
    let l = length-drop at bs in
    let w : take (length bs - at) (drop at bs) ≡ drop at bs = take_all (length bs - at) (drop at bs) (omega arith) in
    let f = rw c.in_ok-eight.ensures.ok_part at c.first_chunk.ensures.cases in
    let k : 8 ≤ length (take (length bs - at) (drop at bs)) = f.enough in
    let room : 8 ≤ length (drop at bs) = omega (arith, ap length w) in
    let e : c.in_ok-eight.eight.now ≡ take 8 (drop at bs) = f.same ∙ ap (take 8) w in
    record {
      value =
          ap Ok (c.from_be_bytes.ensures ∙ eight_number (drop at bs) c.in_ok-eight.eight.now room e)
          ∙ sym (cond-true (leb 8 (length (drop at bs))) _ _ (le-leb 8 _ room));
      inside = omega arith;
    }
