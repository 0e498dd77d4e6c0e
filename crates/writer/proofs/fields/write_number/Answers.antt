use Rattle.std.proofs.Common.{refl, ◌∙◌, arith}
use Rattle.writer.proofs.Written.{written_number, eight_bytes}
use Rattle.writer.proofs.fields.write_number.Goals as goal

pub returns : goal.returns
returns c = record {
  size = refl;
  bytes =
      written_number c.args.out.now 0 c.args.n 8 c.copy_from_slice.new.self
      (c.copy_from_slice.ensures.after ∙ c.to_be_bytes.ensures ∙ eight_bytes c.args.n) c.requires (omega arith);
}
