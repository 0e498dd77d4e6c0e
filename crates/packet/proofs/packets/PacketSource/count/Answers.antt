use Rattle.std.proofs.Common.{refl, ◌∙◌, arith}
use Rattle.packet.specs.Judge.{judge, claims_in}
use Rattle.packet.proofs.Standing.{length-records}
use Rattle.packet.proofs.Walks.{judge_few}
use Rattle.packet.proofs.packets.PacketSource.count.Goals as goal

pub returns : goal.returns
returns c =
    let bs = c.args.self.now.bytes.now in
    let n = c.from.ensures ∙ c.args.self.now.counted in
    let few = judge_few bs c.args.self.now.accepted in
    record { value = omega (arith, n, length-records 3 (claims_in (judge bs))); few = omega (arith, n, few); same = refl }
