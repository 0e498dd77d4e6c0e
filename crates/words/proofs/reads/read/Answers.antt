use Rattle.std.proofs.Common.{arith}
use Rattle.units.specs.Units.{units}
use Rattle.words.proofs.Following.{none_left, only_blanks, next_word}
use Rattle.words.specs.Words.{blank}
use Rattle.words.proofs.reads.read.Goals as goal

pub returns-then-start-count : goal.returns-then-start-count
returns-then-start-count c = none_left (units c.args.text.now) c.args.start (omega arith)

pub returns-then-at-count : goal.returns-then-at-count
returns-then-at-count c = only_blanks (units c.args.text.now) c.args.start c.past-at.result (c.past-at.ensures.value blank (λ u b k. k)) (omega arith)

pub returns : goal.returns
returns c =
    next_word (units c.args.text.now) c.args.start c.past-at.result (c.past-at.ensures.value blank (λ u b k. k)) c.word.result (omega arith) c.word.ensures
