use Rattle.std.proofs.Common.{◌≡◌, ◌*◌, ◌≤◌, ◌++◌, length, drop}
use Rattle.std.specs.List.{AllByRecursion}
use Rattle.writer.specs.Shown.{Writable, shown_body}
use Rattle.writer.proofs.bodies.body_size.Given as goal

abbrev pub invariant-loop-claim : goal.invariant-loop-claim
invariant-loop-claim g l =
    (goal.iterator-loop-claim g).can_next l.claim-iterator × (goal.iterator-loop-claim g).is_finite l.claim-iterator
    × (l.yielded ++ drop l.claim-iterator.next (g.S.Source.list l.claim-iterator.source.now) ≡ g.S.Source.list l.source)
    × (l.sum ≡ length (shown_body l.texts.rules.now l.texts.packet.now l.yielded))
    × AllByRecursion (Writable l.texts.rules.now l.texts.packet.now) l.yielded
    × (l.sum ≤ 393213 * length l.yielded)
