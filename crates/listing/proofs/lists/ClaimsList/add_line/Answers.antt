use Rattle.std.proofs.Common.{vec_len, arith}
use Rattle.listing.proofs.Placed.{all_stay, all_put, one_more}
use Rattle.listing.proofs.lists.ClaimsList.add_line.Goals as goal

pub invariant_of-self : goal.invariant_of-self
invariant_of-self c =
    let s = c.args.self.now in
    record { few = s.few; inside = all_stay _ _ _ c.claim_of.ensures.longer s.inside }

pub invariant_of-self-2 : goal.invariant_of-self-2
invariant_of-self-2 c =
    let s = c.args.self.now in
    let l = c.len.ensures in
    record { few = one_more c.push.result 256 (vec_len s.claims) _ (omega arith) c.push.ensures.len; inside = all_put c.push.result _ _ _ _ _ c.claim_of.ensures.longer s.inside c.in_ok-claim.ensures.inside c.push.ensures.items }
