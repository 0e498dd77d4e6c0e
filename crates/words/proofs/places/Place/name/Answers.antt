use Rattle.std.proofs.Common.{length, refl, ◌∙◌}
use Rattle.units.proofs.Texts.{units_part}
use Rattle.units.specs.Units.{units}
use Rattle.words.specs.Words.{in_name}
use Rattle.words.specs.declared.terminals.Slip.TheVariants.{TooLong}
use Rattle.words.proofs.Lexemes.{token_word, slip_word}
use Rattle.words.proofs.Spelling.{name_on, name_long, name_key, name_ident}
use Rattle.words.proofs.places.Place.name.Goals as goal
use Rattle.words.proofs.places.Place.name.Goals.{in-Some, in-None}

pub returns-then-end-at-gt-MAX_NAME : goal.returns-then-end-at-gt-MAX_NAME
returns-then-end-at-gt-MAX_NAME c =
    let us = units c.args.self.text.now in
    let at = c.args.self.at in
    let e = c.past-end.ensures.value in_name (λ u b k. k) in
    slip_word us at c.slip.result TooLong c.args.self.inside c.slip.ensures.token c.slip.ensures.at c.slip.ensures.end
    (name_long us at c.args.self.inside c.requires c.past-end.result e (length us) refl c.if-end-at-gt-MAX_NAME.true)

pub returns : goal.returns
returns c =
    let us = units c.args.self.text.now in
    let at = c.args.self.at in
    let end = c.past-end.result in
    let h = c.args.self.inside in
    let e = c.past-end.ensures.value in_name (λ u b k. k) in
    let part = units_part at end c.args.self.text.now in
    let short = c.if-end-at-gt-MAX_NAME.false in
    let l = c.lexeme.ensures in
    let word = token_word us at c.lexeme.result in
    let on = name_on us at h c.requires end e in
    elim c.match-keyword.branch [
      | in-Some w ↦ word _ end (l.token ∙ w.token-is) l.at l.end on c.past-end.ensures.bound (name_key us at h c.requires end e _ part short w.in-Some.terminal w.in-Some.ensures) tt
      | in-None w ↦ word _ end (l.token ∙ w.token-is) l.at l.end on c.past-end.ensures.bound (name_ident us at h c.requires end e _ part short w.in-None.ensures) part
    ]
