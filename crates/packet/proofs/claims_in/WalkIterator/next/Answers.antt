use Rattle.std.proofs.Common.{◌≡◌, ◌-◌, [], ◌∷◌, Ok, Err, length, drop, suc, sym, ap, ◌∙◌, arith}
use Rattle.packet.specs.Held.{held_claim}
use Rattle.packet.specs.Turns.{turns}
use Rattle.packet.proofs.Standing.{claim_there}
use Rattle.packet.proofs.Walks.{turns_end, turns_full, turns_fail, turns_go, lowers}
use Rattle.packet.proofs.claims_in.WalkIterator.next.Goals as goal

pub returns-then-at-end-clause-steps : goal.returns-then-at-end-clause-steps
returns-then-at-end-clause-steps c = let w = c.args.self.now in let e = turns_end w.packet.bytes.now w.at w.left c.if-at-end.true in (e, e)

pub returns-then-self-eq0-clause-steps : goal.returns-then-self-eq0-clause-steps
returns-then-self-eq0-clause-steps c =
    let w = c.args.self.now in
    let bs = w.packet.bytes.now in
    ap (λ k. turns k w.at (drop w.at bs)) c.if-self-eq0.true ∙ turns_full bs w.at c.if-at-end.false
    ∙ ap (λ f. Err f ∷ []) (sym c.at.ensures) ∙ ap (λ xs. Err c.at.result ∷ xs) (sym (turns_end bs (length bs) w.left (omega arith)))

pub returns-then-self-eq0-clause-goes : goal.returns-then-self-eq0-clause-goes
returns-then-self-eq0-clause-goes c = lowers (λ w. turns w.left w.at (drop w.at w.packet.bytes.now)) c.args.self.now _ (Err c.at.result) (returns-then-self-eq0-clause-steps c)

pub returns-in-Ok-clause-steps : goal.returns-in-Ok-clause-steps
returns-in-Ok-clause-steps c =
    let w = c.args.self.now in
    let bs = w.packet.bytes.now in
    let claim = c.in-Ok.claim in
    let k : w.left ≡ suc (w.left - 1) = omega arith in
    turns_go bs w.at (w.left - 1) w.left c.if-at-end.false k c.past-self.result (held_claim bs claim) (sym c.in-Ok.ensures.means) (c.past-self.ensures ∙ c.in-Ok.ensures.lies.ends)
    ∙ ap (λ x. Ok x ∷ turns (w.left - 1) c.past-self.result (drop c.past-self.result bs)) (sym (claim_there bs w.at claim c.in-Ok.ensures.lies))

pub returns-in-Ok-clause-goes : goal.returns-in-Ok-clause-goes
returns-in-Ok-clause-goes c = lowers (λ w. turns w.left w.at (drop w.at w.packet.bytes.now)) c.args.self.now _ (Ok c.in-Ok.claim) (returns-in-Ok-clause-steps c)

pub returns-in-Err-clause-steps : goal.returns-in-Err-clause-steps
returns-in-Err-clause-steps c =
    let w = c.args.self.now in
    let bs = w.packet.bytes.now in
    let k : w.left ≡ suc (w.left - 1) = omega arith in
    turns_fail bs w.at (w.left - 1) w.left c.if-at-end.false k c.in-Err.cause (sym c.in-Err.ensures.means)
    ∙ ap (λ f. Err f ∷ []) (sym c.at-in-Err.ensures) ∙ ap (λ xs. Err c.at-in-Err.result ∷ xs) (sym (turns_end bs (length bs) w.left (omega arith)))

pub returns-in-Err-clause-goes : goal.returns-in-Err-clause-goes
returns-in-Err-clause-goes c = lowers (λ w. turns w.left w.at (drop w.at w.packet.bytes.now)) c.args.self.now _ (Err c.at-in-Err.result) (returns-in-Err-clause-steps c)
