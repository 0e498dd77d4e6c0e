use Rattle.std.proofs.Common.{◌≡◌, ◌+◌, ◌≤◌, length, drop}
use Rattle.packet.specs.Judge.{walk, counted}
use Rattle.packet.specs.Turns.{turns}
use Rattle.packet.proofs.Walks.{tally}
use Rattle.packet.proofs.fields.Bytes.check_claims.Given as goal

abbrev pub invariant-loop-claim : goal.invariant-loop-claim
invariant-loop-claim l =
    (goal.iterator-loop-claim).can_next l.claim-iterator × (goal.iterator-loop-claim).is_finite l.claim-iterator
    × (l.count + length (turns l.claim-iterator.left l.claim-iterator.at (drop l.claim-iterator.at l.claim-iterator.packet.bytes.now)) ≤ 257)
    × (tally l.count (turns l.claim-iterator.left l.claim-iterator.at (drop l.claim-iterator.at l.claim-iterator.packet.bytes.now)) ≡ counted 0 (walk 256 3 (drop 3 l.self.bytes.now)))
