use mir.Val.{bool_byte}
use Rattle.std.proofs.Common.{◌≡◌, Bool, true, false, if◌then◌else◌, [], ◌∷◌, refl, ap, ◌∙◌, arith}
use Rattle.writer.specs.Writing.{written}
use Rattle.writer.proofs.Written.{written_set}
use Rattle.writer.proofs.fields.write_boolean.Goals as goal

byte_of : (b : Bool) → bool_byte b ≡ (if b then 1 else 0)
byte_of true = refl
byte_of false = refl

pub returns : goal.returns
returns c = record {
  size = refl;
  bytes =
      written_set c.args.out.now 0 c.from.result (omega arith)
      ∙ ap (λ b. written c.args.out.now 0 (b ∷ [])) (c.from.ensures ∙ byte_of c.args.b);
}
