use Rattle.std.proofs.Common.{◌+◌, ◌-◌, ◌<◌, length, set, ap, ◌∙◌, arith}
use borrow.Rule.Slice.PartMut.{put_mid}
use Rattle.std.proofs.ByRecursion.{All-from_get_or}
use Rattle.units.specs.Units.{units}
use Rattle.packet.proofs.Bytes.{length-encode_text}
use Rattle.writer.proofs.Written.{written_text}
use Rattle.writer.proofs.fields.write_text.Goals as goal

pub returns : goal.returns
returns c =
    let text = c.args.text.now in
    record {
      size = let l = length-encode_text (units c.args.text.now) in omega arith;
      bytes =
          ap (put_mid 1 (1 + length text - 1) (set c.args.out.now 0 c.count.result)) c.copy_from_slice.ensures.after
          ∙ written_text c.args.out.now 0 c.count.result (1 + length text - 1) text
          (All-from_get_or (λ b. b < 256) text 0 (λ i _. (c.type_inv.text i).fits)) c.count.ensures c.requires.even (omega arith) (omega arith);
    }
