use Rattle.std.proofs.Common.{arith}
use Rattle.packing.proofs.Written.{accepted_front}
use Rattle.packing.proofs.packs.pack.Goals as goal

pub returns : goal.returns
returns c =
    let w = c.as_mut_slice.ensures.len in
    let k = c.in_ok-size.ensures in
    accepted_front c.in_ok-size.size c.in_ok-packet.packet.len c.pack_into.new.out _ _ c.truncate.ensures.items (omega arith) k.accepted
