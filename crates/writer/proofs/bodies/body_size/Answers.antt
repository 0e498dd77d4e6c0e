use Rattle.std.proofs.Common.{◌≤◌, ◌≡◌, [], ◌∷◌, ◌++◌, length, drop, refl, sym, ap, ◌∙◌, subst, arith, length-append, append-nil}
use Rattle.std.proofs.ByRecursion.{All-push}
use Rattle.std.proofs.lemmas.Bool.Decides.{not_from_Decides}
use Rattle.std.specs.List.{AllByRecursion}
use Rattle.writer.specs.Shown.{Writable, shown_body}
use Rattle.writer.proofs.BodyBytes.{next_whole, next_writable, next_size}
use Rattle.writer.proofs.bodies.body_size.Goals as goal

pub overflow_add-sum : goal.overflow_add-sum
overflow_add-sum g c =
    let ys = c.loop-claim.yielded in
    let few = ap length c.loop-claim.invariant.2 in
    let parts = length-append ys (drop c.loop-claim.claim-iterator.next (g.S.Source.list c.loop-claim.claim-iterator.source.now)) in
    let done : length ys ≤ 512 = omega (arith, c.of-claim-items.ensures.few) in
    omega (arith, c.loop-claim.invariant.5, c.claim_size-sum.ensures.bound)

pub returns-then-not-is_writable : goal.returns-then-not-is_writable
returns-then-not-is_writable g c = λ h.
    not_from_Decides c.is_writable.result c.is_writable.ensures c.if-not-is_writable.true (next_writable c.args.texts.now.rules.now c.args.texts.now.packet.now (g.S.Source.list c.args.source.now) c.loop-claim.yielded _ c.in-Some.claim (ap (λ zs. c.loop-claim.yielded ++ zs) (sym c.in-Some.ensures.steps) ∙ c.loop-claim.invariant.2) h)

pub loop-claim-preserved : goal.loop-claim-preserved
loop-claim-preserved g c =
    let s = next_size c.args.texts.now.rules.now c.args.texts.now.packet.now (g.S.Source.list c.args.source.now) c.loop-claim.yielded _ c.in-Some.claim (ap (λ zs. c.loop-claim.yielded ++ zs) (sym c.in-Some.ensures.steps) ∙ c.loop-claim.invariant.2) in
    let l = length-append c.loop-claim.yielded (c.in-Some.claim ∷ []) in (
      tt,
      tt,
      next_whole c.args.texts.now.rules.now c.args.texts.now.packet.now (g.S.Source.list c.args.source.now) c.loop-claim.yielded _ c.in-Some.claim (ap (λ zs. c.loop-claim.yielded ++ zs) (sym c.in-Some.ensures.steps) ∙ c.loop-claim.invariant.2),
      omega (arith, c.loop-claim.invariant.3, c.claim_size-sum.ensures.value),
      All-push (Writable c.args.texts.now.rules.now c.args.texts.now.packet.now) c.loop-claim.yielded c.in-Some.claim c.loop-claim.invariant.4 (c.if-not-is_writable.ensures.0 refl),
      omega (arith, c.loop-claim.invariant.5, c.claim_size-sum.ensures.bound),
    )

pub returns : goal.returns
returns g c =
    let ys = c.loop-claim.yielded in
    let whole : ys ≡ g.S.Source.list c.args.source.now = sym (append-nil ys) ∙ ap (λ zs. ys ++ zs) (sym c.in-None.ensures.steps.0) ∙ c.loop-claim.invariant.2 in (
      subst (AllByRecursion (Writable c.args.texts.now.rules.now c.args.texts.now.packet.now)) whole c.loop-claim.invariant.4,
      c.loop-claim.invariant.3 ∙ ap (λ cs. length (shown_body c.args.texts.now.rules.now c.args.texts.now.packet.now cs)) whole,
    )
