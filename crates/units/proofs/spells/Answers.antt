use Rattle.std.proofs.Common.{true, false, sym, ap, ◌∙◌, arith, rules}
use Rattle.std.proofs.lemmas.List.{drop_all}
use Rattle.units.specs.Units.{units}
use Rattle.units.specs.Fold.{fold_unit}
use Rattle.units.proofs.Texts.{same_lengths, same_stops, same_goes, same_as}
use Rattle.units.proofs.spells.Goals as goal

pub returns-then-count-name : goal.returns-then-count-name
returns-then-count-name c = same_as (units c.args.text.now) c.args.name.now false (search (rules, same_lengths))

pub returns-then-fold : goal.returns-then-fold
returns-then-fold c =
    let a = c.fold.ensures ∙ ap fold_unit c.unit.ensures in
    let b = c.fold-in-loop-i.ensures ∙ ap fold_unit c.from.ensures in
    same_as (units c.args.text.now) c.args.name.now false (sym (sym c.loop-i.invariant ∙ same_stops (units c.args.text.now) c.args.name.now c.loop-i.i _ _ (omega arith) (omega arith) a b c.if-fold.true))

pub loop-i-preserved : goal.loop-i-preserved
loop-i-preserved c =
    let a = c.fold.ensures ∙ ap fold_unit c.unit.ensures in
    let b = c.fold-in-loop-i.ensures ∙ ap fold_unit c.from.ensures in
    same_goes (units c.args.text.now) c.args.name.now c.loop-i.i _ _ (omega arith) (omega arith) a b c.if-fold.false ∙ c.loop-i.invariant

pub returns : goal.returns
returns c = same_as (units c.args.text.now) c.args.name.now true (search (rules, drop_all))
