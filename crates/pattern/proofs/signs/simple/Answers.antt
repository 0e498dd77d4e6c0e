use Rattle.std.proofs.Common.{◌∙◌, rules}
use Rattle.units.specs.Units.{units}
use Rattle.pattern.proofs.Looks.{within, within_bytes, no_simple, simple_plain, simple_last, simple_escaped}
use Rattle.pattern.proofs.signs.simple.Goals as goal

pub overflow_add-at : goal.overflow_add-at
overflow_add-at c = let h = within_bytes c.args.s.now c.args.at (within (units c.args.s.now) c.args.at _ c.in_ok-u.ensures) in search rules

pub returns-in_err-u : goal.returns-in_err-u
returns-in_err-u c = c.from_residual.ensures ∙ no_simple (units c.args.s.now) c.args.at c.in_err-u.ensures

pub returns-in_err-unit_at-in-92 : goal.returns-in_err-unit_at-in-92
returns-in_err-unit_at-in-92 c =
    c.from_residual-in_err-unit_at-in-92.ensures
    ∙ simple_last (units c.args.s.now) c.args.at _ c.in_ok-u.ensures c.in-92.is c.in_err-unit_at-in-92.ensures

pub returns-in_ok-unit_at-in-92 : goal.returns-in_ok-unit_at-in-92
returns-in_ok-unit_at-in-92 c =
    c.behind_escape.ensures
    ∙ simple_escaped (units c.args.s.now) c.args.at _ _ c.in_ok-u.ensures c.in-92.is c.in_ok-unit_at-in-92.ensures

pub returns-in_default : goal.returns-in_default
returns-in_default c = c.unescaped.ensures ∙ simple_plain (units c.args.s.now) c.args.at _ c.in_ok-u.ensures (search rules)
