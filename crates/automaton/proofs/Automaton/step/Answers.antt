use Rattle.std.proofs.Common.{◌≡◌, ℕ, ◌^◌, ◌<◌, length, cond, get_or, sym, ap, ◌∙◌, arith}
use lib.Bits.{bit_or}
use Rattle.std.proofs.lemmas.Nat.{one_shl}
use Rattle.std.proofs.lemmas.List.{length-take}
use Rattle.automaton.specs.Places.{follow_of}
use Rattle.automaton.specs.Run.{room}
use Rattle.automaton.proofs.Used.{blank, reach_turn, mask_turn}
use Rattle.automaton.proofs.Automaton.step.Goals as goal
use Rattle.automaton.proofs.Automaton.step.Goals.{then-has, else-has, then-takes, else-takes}

pub loop-i-preserved : goal.loop-i-preserved
loop-i-preserved c =
    let ps = c.args.self.now.places in
    let us = c.used-place-items.result.now in
    let i : ℕ = c.loop-i.i in
    let n : ℕ = c.loop-i.next in
    let m : ℕ = c.loop-i.mask in
    let below : i < 64 = omega (arith, ap length c.used-place-items.ensures, length-take (room c.args.self.now) ps) in
    let onto : c.if-has.next ≡ cond c.has.result (bit_or n (follow_of (get_or us i blank))) n =
    elim c.if-has.branch [
      | then-has w ↦ w.next-is ∙ ap (bit_or n) w.follow-next.ensures ∙ ap (λ b. cond b (bit_or n (follow_of (get_or us i blank))) n) (sym w.if-has.true)
      | else-has w ↦ w.next-is ∙ ap (λ b. cond b (bit_or n (follow_of (get_or us i blank))) n) (sym w.if-has.false)
    ] in
    let taken : c.if-takes.mask ≡ cond c.takes.result (bit_or m (2 ^ i)) m =
    elim c.if-takes.branch [
      | then-takes w ↦ w.mask-is ∙ ap (bit_or m) (one_shl i 64 below) ∙ ap (λ b. cond b (bit_or m (2 ^ i)) m) (sym w.if-takes.true)
      | else-takes w ↦ w.mask-is ∙ ap (λ b. cond b (bit_or m (2 ^ i)) m) (sym w.if-takes.false)
    ] in (
      reach_turn ps us _ i c.used-place-items.ensures (omega arith) _ c.args.r.set n _ _ c.loop-i.invariant.0 c.has.ensures onto,
      mask_turn ps us _ i c.used-place-items.ensures (omega arith) c.args.u m _ _ c.loop-i.invariant.1 c.takes.ensures taken,
    )
