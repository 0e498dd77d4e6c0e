use Rattle.std.proofs.Common.{drop, ◌∙◌}
use Rattle.std.proofs.lemmas.Iterator.Consumers.{nth_from_yields_List, YieldsList-from_first}
use Rattle.packet.specs.Records.{records_in}
use Rattle.packet.specs.Turns.{turns}
use Rattle.packet.proofs.Walks.{judge_turns, nth_there, nth_none}
use Rattle.packet.proofs.packets.PacketSource.claim_at.Goals as goal

pub returns-in_err-nth-clause-value : goal.returns-in_err-nth-clause-value
returns-in_err-nth-clause-value c =
    let bs = c.args.self.now.bytes.now in
    let all = YieldsList-from_first (λ x. x) (λ w. turns w.left w.at (drop w.at w.packet.bytes.now)) _ (c.claims.ensures ∙ judge_turns bs c.args.self.now.accepted) in
    let e = nth_from_yields_List c.nth.result c.nth.new.self c.args.n c.nth.ensures.ran all in
    c.from_residual.ensures ∙ nth_none c.nth.result (records_in bs) c.args.n e c.in_err-nth.was

pub returns-clause-value : goal.returns-clause-value
returns-clause-value c =
    let bs = c.args.self.now.bytes.now in
    let all = YieldsList-from_first (λ x. x) (λ w. turns w.left w.at (drop w.at w.packet.bytes.now)) _ (c.claims.ensures ∙ judge_turns bs c.args.self.now.accepted) in
    let e = nth_from_yields_List c.nth.result c.nth.new.self c.args.n c.nth.ensures.ran all in
    c.ok.ensures.value ∙ nth_there c.nth.result (records_in bs) c.args.n e c.in_ok-nth.field-0 c.in_ok-nth.was
