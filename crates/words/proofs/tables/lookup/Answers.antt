use Rattle.std.proofs.Common.{◌≡◌, rules, tests}
use Rattle.std.proofs.lemmas.Iterator.{YieldsList-from_slice}
use Rattle.std.proofs.lemmas.Iterator.Search.{find_from_yields_List}
use Rattle.std.specs.List.{find}
use Rattle.std.specs.Option.{option_map}
use Rattle.units.specs.Fold.{same_units}
use Rattle.units.specs.Units.{units}
use Rattle.words.proofs.Found.{found}
use Rattle.words.proofs.tables.lookup.Goals as goal

pub returns : goal.returns
returns c =
    let us = units c.args.run.now in
    let f : option_map (λ y. y.now) c.find.result ≡ find (λ e. same_units us e.0.now) c.args.table.now =
    find_from_yields_List (λ e. same_units us e.0.now) _ _ c.find.result c.find.ensures.ran (YieldsList-from_slice c.args.table.now (cc)) (λ x b q k. search rules) in
    let t = found us c.args.table.now in
    search (rules, tests)
