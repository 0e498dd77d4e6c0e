use borrow.Author.Rules.{rules}
use mathlib.Core.Path.{◌≡◌, subst}
use Rattle.grammar.specs.Parse.{property}
use Rattle.cursor.specs.Reading.{Reading, shown, rest, text_of}
use Rattle.cursor.specs.Pieces.{word_of}
use Rattle.actions.specs.Shown.{expr_of}
use Rattle.actions.proofs.exprs.reference.Goals as goal

pub returns : goal.returns
returns c =
    let e : text_of c.expect-2.new.self ≡ text_of c.args.cursor.now = search rules in
    let h = subst (λ us. Reading (property (word_of us c.in_ok-i.i)) (rest c.expect-2.new.self) (shown (expr_of us) c.property.result (rest c.property.new.cursor))) e c.property.ensures.reads in
    search rules
