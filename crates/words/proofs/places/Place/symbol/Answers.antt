use Rattle.std.proofs.Common.{◌+◌, ◌<◌, length, refl, ap, ◌∙◌, arith}
use Rattle.units.specs.Units.{units}
use Rattle.words.specs.Signs.{sign_of}
use Rattle.words.specs.declared.terminals.Slip.TheVariants.{BeginsNone}
use Rattle.words.proofs.Lexemes.{token_word, slip_word}
use Rattle.words.proofs.Runs.{twice_units}
use Rattle.words.proofs.Spelling.{symbol_long, symbol_ends, symbol_spelt, symbol_none}
use Rattle.words.proofs.places.Place.symbol.Goals as goal

pub overflow_add-self-in-Some : goal.overflow_add-self-in-Some
overflow_add-self-in-Some c =
    let l = twice_units c.args.self.text.now in
    let s = symbol_long c.unit-u.result c.unit_or_zero.result c.in-Some.sign c.in-Some.ensures in
    omega (arith, s.most, c.args.self.inside)

pub returns-in-Some : goal.returns-in-Some
returns-in-Some c =
    let us = units c.args.self.text.now in
    let at = c.args.self.at in
    let h = c.args.self.inside in
    let e = c.in-Some.ensures ∙ ap (λ u. sign_of u c.unit_or_zero.result) c.unit-u.ensures in
    let s = symbol_long c.unit-u.result c.unit_or_zero.result c.in-Some.sign c.in-Some.ensures in
    let on : at < at + c.in-Some.sign.long = omega (arith, s.some) in
    let l = c.lexeme.ensures in
    token_word us at c.lexeme.result _ _ l.token l.at l.end on
    (symbol_ends us at h c.requires.no_letter c.requires.no_quote c.unit_or_zero.result c.unit_or_zero.ensures c.in-Some.sign e)
    (symbol_spelt us at h c.requires.no_letter c.requires.no_quote c.unit_or_zero.result c.unit_or_zero.ensures c.in-Some.sign e _ refl) tt

pub returns-in-None : goal.returns-in-None
returns-in-None c =
    let us = units c.args.self.text.now in
    let at = c.args.self.at in
    let h = c.args.self.inside in
    let e = c.in-None.ensures ∙ ap (λ u. sign_of u c.unit_or_zero.result) c.unit-u.ensures in
    slip_word us at c.slip.result BeginsNone h c.slip.ensures.token c.slip.ensures.at c.slip.ensures.end
    (symbol_none us at h c.requires.no_letter c.requires.no_quote c.unit_or_zero.result c.unit_or_zero.ensures e (length us) refl)
