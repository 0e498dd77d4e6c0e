use Rattle.std.proofs.Common.{◌≡◌, ◌+◌, ◌-◌, ◌<◌, ◌≤◌, length, take, drop, refl, ap, ◌∙◌, arith}
use Rattle.units.proofs.Texts.{units_part}
use Rattle.units.specs.Units.{units}
use Rattle.words.specs.Words.{in_string}
use Rattle.words.specs.declared.terminals.Slip.TheVariants.{NotClosed, TooLong}
use Rattle.words.proofs.Lexemes.{token_word, slip_word}
use Rattle.words.proofs.Spelling.{string_open, string_ends, string_long, string_type, string_literal}
use Rattle.words.proofs.places.Place.string.Goals as goal
use Rattle.words.proofs.places.Place.string.Goals.{in-Some, in-None}

pub returns-then-unit_or_zero-ne-QUOTE : goal.returns-then-unit_or_zero-ne-QUOTE
returns-then-unit_or_zero-ne-QUOTE c =
    let us = units c.args.self.text.now in
    let at = c.args.self.at in
    let h = c.args.self.inside in
    let e = c.past-to.ensures.value in_string (λ u b k. k) in
    slip_word us at c.slip.result NotClosed h c.slip.ensures.token c.slip.ensures.at c.slip.ensures.end
    (string_open us at h c.requires c.past-to.result e c.unit_or_zero.result (length us) c.unit_or_zero.ensures c.if-unit_or_zero-ne-QUOTE.true refl)

pub returns-then-to-from-gt-MAX_STRING : goal.returns-then-to-from-gt-MAX_STRING
returns-then-to-from-gt-MAX_STRING c =
    let us = units c.args.self.text.now in
    let at = c.args.self.at in
    let h = c.args.self.inside in
    let e = c.past-to.ensures.value in_string (λ u b k. k) in
    slip_word us at c.slip-then-to-from-gt-MAX_STRING.result TooLong h c.slip-then-to-from-gt-MAX_STRING.ensures.token
    c.slip-then-to-from-gt-MAX_STRING.ensures.at c.slip-then-to-from-gt-MAX_STRING.ensures.end
    (string_long us at h c.requires c.past-to.result e c.unit_or_zero.result c.unit_or_zero.ensures c.if-unit_or_zero-ne-QUOTE.false (length us) refl
    c.if-to-from-gt-MAX_STRING.true)

pub returns : goal.returns
returns c =
    let us = units c.args.self.text.now in
    let at = c.args.self.at in
    let h = c.args.self.inside in
    let to = c.past-to.result in
    let e = c.past-to.ensures.value in_string (λ u b k. k) in
    let part = units_part (at + 1) to c.args.self.text.now in
    let n : to - (at + 1) ≡ to + 1 - at - 2 = omega arith in
    let ends = string_ends us at h c.requires to e c.unit_or_zero.result c.unit_or_zero.ensures c.if-unit_or_zero-ne-QUOTE.false in
    let short = c.if-to-from-gt-MAX_STRING.false in
    let l = c.lexeme.ensures in
    let word = token_word us at c.lexeme.result in
    let on : at < to + 1 = let s = c.past-to.ensures.on in omega arith in
    let within : to + 1 ≤ length us = omega arith in
    elim c.match-value_type.branch [
      | in-Some w ↦ word _ (to + 1) (l.token ∙ w.token-is) l.at l.end on within
          (string_type us at h c.requires to e c.unit_or_zero.result c.unit_or_zero.ensures c.if-unit_or_zero-ne-QUOTE.false _ part short (to + 1) refl w.in-Some.terminal w.in-Some.ensures)
          (part ∙ ap (λ k. take k (drop (at + 1) us)) n)
      | in-None w ↦ word _ (to + 1) (l.token ∙ w.token-is) l.at l.end on within
          (string_literal us at h c.requires to e c.unit_or_zero.result c.unit_or_zero.ensures c.if-unit_or_zero-ne-QUOTE.false _ part short (to + 1) refl w.in-None.ensures)
          (part ∙ ap (λ k. take k (drop (at + 1) us)) n)
    ]
