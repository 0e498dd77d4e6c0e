use Rattle.std.proofs.Common.{◌≡◌, ℕ, ◌+◌, ◌-◌, List, length, refl, ap, ◌∙◌, arith}
use borrow.Rule.Slice.PartMut.{put_mid}
use Rattle.packet.proofs.Bytes.{length-encode_text, length-encode_value}
use Rattle.packet.specs.Format.{encode_text, encode_value}
use Rattle.writer.specs.Shown.{shown_claim}
use Rattle.writer.specs.Writing.{written}
use Rattle.writer.proofs.Written.{length-written, written_rest, written_claim}
use Rattle.writer.proofs.fields.write_claim.Goals as goal

pub returns : goal.returns
returns c =
    let is = shown_claim c.args.texts.now.rules.now c.args.texts.now.packet.now c.args.claim in
    let a = c.write_part-word.ensures.size in
    let b = c.write_part.ensures.size in
    let d = c.write_value.ensures.size in
    let lw = length-encode_text is.word in
    let lv = length-encode_value is.value in
    let p : List ℕ = c.write_part-word.new.out in
    let word : ℕ = c.write_part-word.result in
    let value : ℕ = word + c.write_part.result in
    let q : List ℕ = put_mid word (length p - word) p c.write_part.new.out in
    let r : List ℕ = put_mid value (length q - value) q c.write_value.new.out in
    let ip = c.write_part-word.auto.out in
    let room = c.requires.room in
    let sq : q ≡ written p word (encode_text is.word) = written_rest p c.write_part.new.out (encode_text is.word) word (length p - word) (omega arith) refl c.write_part.ensures.bytes in
    let iq : length q ≡ length p = ap length sq ∙ length-written p (encode_text is.word) word (omega arith) in
    let sr : r ≡ written q value (encode_value is.value) = written_rest q c.write_value.new.out (encode_value is.value) value (length q - value) (omega arith) refl c.write_value.ensures.bytes in
    record {
      size = omega arith;
      bytes = written_claim c.args.out.now 0 is p q r word value (omega arith) (omega arith) (omega arith) c.write_part-word.ensures.bytes sq sr;
    }
