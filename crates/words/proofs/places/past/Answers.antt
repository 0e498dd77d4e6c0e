use Rattle.std.proofs.Common.{◌≡◌, ◌+◌, ◌≤◌, inl, length, take, drop, ap, ◌∙◌, arith, rules}
use Rattle.std.proofs.lemmas.Iterator.Consumers.{YieldsList-from_first, count_from_yields_List}
use Rattle.std.proofs.lemmas.Iterator.Search.{YieldsList-from_take_while}
use Rattle.std.proofs.lemmas.List.Folds.{length-prefix_len}
use Rattle.std.specs.List.{prefix_len}
use Rattle.units.specs.Units.{units}
use Rattle.words.proofs.Runs.{twice_units, left, left_length}
use Rattle.words.proofs.places.past.Goals as goal

pub count-requires-clause-fits : goal.count-requires-clause-fits
count-requires-clause-fits g c =
    let l = twice_units c.args.text.now in
    let n = left_length c.args.from c.args.text.now _ _ c.take_while-run.ensures.source c.of.ensures in
    inl (omega arith)

pub overflow_add-result : goal.overflow_add-result
overflow_add-result g c =
    let l = twice_units c.args.text.now in
    let n = left_length c.args.from c.args.text.now _ _ c.take_while-run.ensures.source c.of.ensures in
    let b : c.count.result ≤ length (units c.take_while-run.result.iter.rest.now) = c.count.ensures.bound in
    omega (arith, c.requires.within)

pub returns-clause-value : goal.returns-clause-value
returns-clause-value g c p meaning =
    let us = drop c.args.from (units c.args.text.now) in
    let run = left c.args.from c.args.text.now _ _ c.take_while-run.ensures.source c.of.ensures in
    let n : c.count.result ≡ length (take (prefix_len p us) us) =
    count_from_yields_List c.take_while-run.result _ c.count.ensures.ran
    (YieldsList-from_take_while _ p (YieldsList-from_first (λ x. x) (λ s. units s.rest.now) us run) c.take_while-run.ensures.closure c.take_while-run.ensures.done (λ x b q k. search rules)) in
    ap (λ k. c.args.from + k) (n ∙ length-prefix_len p us)

pub returns-clause-bound : goal.returns-clause-bound
returns-clause-bound g c =
    let n = left_length c.args.from c.args.text.now _ _ c.take_while-run.ensures.source c.of.ensures in
    let b : c.count.result ≤ length (units c.take_while-run.result.iter.rest.now) = c.count.ensures.bound in
    omega (arith, c.requires.within)
