use Rattle.std.proofs.Common.{[], ◌∷◌, ◌++◌, refl, ap, ◌∙◌}
use Rattle.conditions.specs.Shown.{selections_of}
use Rattle.parts.specs.Laid.{lay_selections, lay_rule}
use Rattle.parts.specs.declared.Part.TheVariants.{Rule}
use Rattle.parser.specs.Shown.{rule_of}
use Rattle.units.specs.Units.{units}
use Rattle.rules.proofs.Filling.{put_as, put_twice}
use Rattle.rules.proofs.sink.Sink.put_rule.Goals as goal

pub returns : goal.returns
returns c =
    let s = c.args.self.now in
    let t = c.put.new.self in
    let u = c.put_selections.new.self in
    let us = units s.text.now in
    let r = c.args.rule.now in
    let a = c.action-does.result in
    let ss = lay_selections (selections_of (units t.text.now) r.selections) in
    put_as ((Rule r.at a ∷ []) ++ ss) (lay_rule (rule_of us r)) s u u
    (ap (λ z. Rule r.at a ∷ lay_selections (selections_of (units z.now) r.selections)) c.put.ensures.text ∙ ap (λ b. Rule r.at b ∷ lay_selections (selections_of us r.selections)) c.action-does.ensures) refl
    (put_twice (Rule r.at a ∷ []) ss s t u c.put.ensures c.put_selections.ensures)
