use Rattle.std.proofs.Common.{nat_eq, Some, ap, ◌∙◌}
use Rattle.std.specs.Option.{option_eq}
use Rattle.units.specs.Units.{units}
use Rattle.pattern.proofs.Looks.{begins_at}
use Rattle.pattern.proofs.reader.Reader.stands.Goals as goal

pub returns : goal.returns
returns c =
    c.eq.ensures ∙ ap (λ o. option_eq nat_eq o (Some c.args.u)) c.unit_at.ensures ∙ begins_at (units c.args.self.now.pattern.now) c.args.self.now.at c.args.u
