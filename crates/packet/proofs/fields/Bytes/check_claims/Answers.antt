use Rattle.std.proofs.Common.{length, drop, ap, ◌∙◌, arith}
use Rattle.packet.specs.Turns.{turns}
use Rattle.packet.proofs.Walks.{tally, few_turns, tally_turns}
use Rattle.packet.proofs.fields.Bytes.check_claims.Goals as goal

pub loop-claim-init : goal.loop-claim-init
loop-claim-init c =
    let start = drop 3 c.args.self.now.bytes.now in
    let e = ap (λ w. turns w.left w.at (drop w.at w.packet.bytes.now)) c.into_iter-claim-iterator.ensures.into_iter_gives ∙ c.claims-claim-items.ensures in
    let few = few_turns 256 3 start in
    (tt, tt, omega (arith, ap length e, few), ap (tally 0) e ∙ tally_turns 0 256 3 start)
