use Rattle.std.proofs.Common.{◌-◌, ◌≡◌, ◌++◌, ℕ, List, length, drop, refl, sym, ap, ◌∙◌, arith, append-nil}
use borrow.Rule.Slice.PartMut.{put_mid}
use Rattle.std.proofs.lemmas.List.{length-drop, length-take-le}
use Rattle.packet.proofs.Claims.{length-encode}
use Rattle.packet.specs.Format.{encode}
use Rattle.writer.specs.Shown.{shown_body, shown_claim}
use Rattle.writer.specs.Writing.{written}
use Rattle.writer.proofs.BodyBytes.{next_whole, next_writable, next_size, next_room, next_written}
use Rattle.writer.proofs.Records.{writable_parts}
use Rattle.writer.proofs.Written.{written_rest}
use Rattle.writer.proofs.bodies.write_body.Goals as goal

pub write_claim-at-requires : goal.write_claim-at-requires
write_claim-at-requires g c =
    let r = next_room c.args.texts.now.rules.now c.args.texts.now.packet.now (g.S.Source.list c.args.source.now) c.loop-claim.yielded _ c.in-Some.claim (ap (λ zs. c.loop-claim.yielded ++ zs) (sym c.in-Some.ensures.steps) ∙ c.loop-claim.invariant.2) in
    let inv = c.loop-claim.invariant.3 in
    let p : List ℕ = c.loop-claim.out in
    let at : ℕ = c.loop-claim.at in
    let d = length-drop at p in
    let t = length-take-le (length p - at) (drop at p) (omega arith) in
    record {
      fit = writable_parts c.args.texts.now.rules.now c.args.texts.now.packet.now c.in-Some.claim (next_writable c.args.texts.now.rules.now c.args.texts.now.packet.now (g.S.Source.list c.args.source.now) c.loop-claim.yielded _ c.in-Some.claim (ap (λ zs. c.loop-claim.yielded ++ zs) (sym c.in-Some.ensures.steps) ∙ c.loop-claim.invariant.2) c.requires.writable);
      room = omega (arith, c.requires.room, c.loop-claim.auto.out);
    }

pub overflow_add-at : goal.overflow_add-at
overflow_add-at g c =
    let r = next_room c.args.texts.now.rules.now c.args.texts.now.packet.now (g.S.Source.list c.args.source.now) c.loop-claim.yielded _ c.in-Some.claim (ap (λ zs. c.loop-claim.yielded ++ zs) (sym c.in-Some.ensures.steps) ∙ c.loop-claim.invariant.2) in
    let inv = c.loop-claim.invariant.3 in
    omega (arith, c.requires.room, c.write_claim-at.ensures.size)

pub loop-claim-preserved : goal.loop-claim-preserved
loop-claim-preserved g c =
    let s = next_size c.args.texts.now.rules.now c.args.texts.now.packet.now (g.S.Source.list c.args.source.now) c.loop-claim.yielded _ c.in-Some.claim (ap (λ zs. c.loop-claim.yielded ++ zs) (sym c.in-Some.ensures.steps) ∙ c.loop-claim.invariant.2) in
    let r = next_room c.args.texts.now.rules.now c.args.texts.now.packet.now (g.S.Source.list c.args.source.now) c.loop-claim.yielded _ c.in-Some.claim (ap (λ zs. c.loop-claim.yielded ++ zs) (sym c.in-Some.ensures.steps) ∙ c.loop-claim.invariant.2) in
    let inv = c.loop-claim.invariant.3 in
    let size = c.write_claim-at.ensures.size in
    let p : List ℕ = c.loop-claim.out in
    let at : ℕ = c.loop-claim.at in
    let is = shown_claim c.args.texts.now.rules.now c.args.texts.now.packet.now c.in-Some.claim in
    let l = length-encode is in
    let q : List ℕ = put_mid at (length p - at) p c.write_claim-at.new.out in
    let sq : q ≡ written p at (encode is) = written_rest p c.write_claim-at.new.out (encode is) at (length p - at) (omega (arith, c.requires.room, c.loop-claim.auto.out)) refl c.write_claim-at.ensures.bytes in (
      tt,
      tt,
      next_whole c.args.texts.now.rules.now c.args.texts.now.packet.now (g.S.Source.list c.args.source.now) c.loop-claim.yielded _ c.in-Some.claim (ap (λ zs. c.loop-claim.yielded ++ zs) (sym c.in-Some.ensures.steps) ∙ c.loop-claim.invariant.2),
      omega arith,
      next_written c.args.texts.now.rules.now c.args.texts.now.packet.now (g.S.Source.list c.args.source.now) c.loop-claim.yielded _ c.in-Some.claim (ap (λ zs. c.loop-claim.yielded ++ zs) (sym c.in-Some.ensures.steps) ∙ c.loop-claim.invariant.2) c.args.out.now p q at c.requires.room inv c.loop-claim.invariant.4 sq,
    )

pub returns : goal.returns
returns g c =
    let ys = c.loop-claim.yielded in
    let whole = sym (append-nil ys) ∙ ap (λ zs. ys ++ zs) (sym c.in-None.ensures.steps.0) ∙ c.loop-claim.invariant.2 in
    c.loop-claim.invariant.4 ∙ ap (λ cs. written c.args.out.now 3 (shown_body c.args.texts.now.rules.now c.args.texts.now.packet.now cs)) whole
