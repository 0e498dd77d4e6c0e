use Rattle.std.proofs.Common.{◌≡◌, rules}
use Rattle.units.specs.Units.{units}
use Rattle.cursor.proofs.Expecting.{seen_from}
use Rattle.cursor.proofs.ahead.look_from.Goals as goal

pub returns-in-Some : goal.returns-in-Some
returns-in-Some c =
    let e = c.in-Some.ensures in
    let q : c.from.result ≡ c.args.start = search rules in
    seen_from (units c.short_text-text.result.now) c.in-Some.l _ _ c.args.start c.of_token.result c.short_text-text.ensures.value q e.0 e.4 c.of_token.ensures
