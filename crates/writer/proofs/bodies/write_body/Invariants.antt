use Rattle.std.proofs.Common.{◌≡◌, ◌+◌, ◌++◌, length, drop}
use Rattle.writer.specs.Shown.{shown_body}
use Rattle.writer.specs.Writing.{written}
use Rattle.writer.proofs.bodies.write_body.Given as goal

abbrev pub invariant-loop-claim : goal.invariant-loop-claim
invariant-loop-claim g l =
    (goal.iterator-loop-claim g).can_next l.claim-iterator × (goal.iterator-loop-claim g).is_finite l.claim-iterator
    × (l.yielded ++ drop l.claim-iterator.next (g.S.Source.list l.claim-iterator.source.now) ≡ g.S.Source.list l.source)
    × (l.at ≡ 3 + length (shown_body l.texts.rules.now l.texts.packet.now l.yielded))
    × (l.out ≡ written l.initial.out 3 (shown_body l.texts.rules.now l.texts.packet.now l.yielded))
