use Rattle.std.proofs.Common.{◌≡◌, ◌-◌, length}
use Rattle.grammar.specs.Readers.{many}
use Rattle.cursor.specs.Reading.{rest, text_of}
use Rattle.conditions.specs.Many.{all_of}
use Rattle.cursor.proofs.Many.{pre}
use Rattle.conditions.proofs.many.many.Given as goal

abbrev pub invariant-loop : goal.invariant-loop
invariant-loop g l =
    (length l.all.items ≡ l.counter) × (text_of l.cursor ≡ text_of l.initial.cursor)
    × (pre (all_of g.T.Item.shown (text_of l.initial.cursor) l.all) (many l.between l.begins g.T.Item.reader (g.row.N - l.counter) (rest l.cursor)) ≡ many l.between l.begins g.T.Item.reader g.row.N (rest l.initial.cursor))
