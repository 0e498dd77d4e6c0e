use Rattle.std.proofs.Common.{length, ap, ◌∙◌, arith}
use Rattle.packet.proofs.Bytes.{length-encode_text}
use Rattle.packet.specs.Format.{encode_text}
use Rattle.writer.specs.Shown.{shown_text}
use Rattle.writer.specs.Writing.{written}
use Rattle.writer.proofs.fields.write_part.Goals as goal

pub write_text-requires : goal.write_text-requires
write_text-requires c =
    let few = c.requires.fits.short.few in
    let u = ap length c.bytes_of.ensures.text in
    let l = c.bytes_of.ensures.even in
    record { even = l; few = omega arith; room = omega arith }

pub returns : goal.returns
returns c =
    let e = ap encode_text c.bytes_of.ensures.text in
    let l = length-encode_text (shown_text c.args.texts.now.rules.now c.args.texts.now.packet.now c.args.text) in
    let k = ap length e in
    record {
      size = omega (arith, c.write_text.ensures.size);
      bytes = c.write_text.ensures.bytes ∙ ap (written c.args.out.now 0) e;
    }
