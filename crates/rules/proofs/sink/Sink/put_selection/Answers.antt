use Rattle.std.proofs.Common.{[], ◌∷◌, ◌++◌, sym, refl, ap, ◌∙◌, append-nil}
use Rattle.conditions.specs.Shown.{conds_of}
use Rattle.parts.specs.Laid.{lay_conds}
use Rattle.parts.specs.declared.Part.TheVariants.{Selection}
use Rattle.units.specs.Units.{units}
use Rattle.rules.proofs.Each.{of_selection}
use Rattle.rules.proofs.Filling.{put_as, put_twice}
use Rattle.rules.proofs.sink.Sink.put_selection.Goals as goal

pub returns : goal.returns
returns c =
    let s = c.args.self.now in
    let t = c.put.new.self in
    let u = c.put_conds.new.self in
    let conds = c.args.selection.now.conds in
    let cs = lay_conds (conds_of (units t.text.now) conds) in
    let e = append-nil cs in
    put_as (Selection ∷ cs) (of_selection (units s.text.now) c.args.selection.now) s u u (ap (λ l. Selection ∷ l) (sym e ∙ ap (λ z. lay_conds (conds_of (units z.now) conds) ++ []) c.put.ensures.text)) refl
    (put_twice (Selection ∷ []) cs s t u c.put.ensures c.put_conds.ensures)
