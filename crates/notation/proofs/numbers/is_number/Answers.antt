use Rattle.std.proofs.Common.{◌≡◌, true, false, rules}
use Rattle.std.proofs.lemmas.Iterator.{cases_from_all}
use Rattle.std.proofs.lemmas.Iterator.Consumers.{YieldsList-from_first}
use Rattle.units.specs.Units.{units}
use Rattle.notation.specs.Numbers.{digit}
use Rattle.notation.proofs.Digits.{digits_by_cases}
use Rattle.notation.proofs.numbers.is_number.Goals as goal

pub returns : goal.returns
returns c =
    digits_by_cases _ c.all.result
    (cases_from_all c.all.new.self _ c.all.result (λ u. digit u ≡ true) (λ u. digit u ≡ false) c.all.ensures.ran
    (YieldsList-from_first (λ x. x) (λ s. units s.rest.now) {s = c.of.result} (units c.args.text.now) c.of.ensures) (λ x q k. search rules) (λ x q k. search rules))
