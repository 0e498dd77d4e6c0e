use Rattle.std.proofs.Common.{◌≡◌, cond, drop, Ok, Err, refl, sym, ap, ◌∙◌, inl, inr}
use Rattle.std.proofs.lemmas.List.{get_or-replicate}
use Rattle.std.proofs.lemmas.Result.{err_from_is_err_and}
use Rattle.faults.specs.declared.Cause.TheVariants.{MalformedPattern, PatternOverLimit}
use Rattle.units.specs.Units.{units}
use Rattle.pattern.proofs.Caused.{told_cause}
use Rattle.pattern.proofs.Whole.{over_limit_is, malformed, well_formed_passed, over, accepted}
use Rattle.pattern.specs.Judged.{Refusal}
use Rattle.pattern.proofs.read.Goals as goal

pub returns-then-not-well_formed : goal.returns-then-not-well_formed
returns-then-not-well_formed c =
    let us = units c.args.pattern.now in
    let h = c.behind_head-behind.ensures in
    let st = ap (λ r. units r.now) c.unwrap_or-body.ensures ∙ h.body ∙ ap (λ z. drop (cond z 1 0) us) (sym h.head) in
    let e : Refusal us MalformedPattern = inl (refl, malformed us _ _ h.head st c.if-not-well_formed.ensures) in
    record { exact = e; value = told_cause us (Err MalformedPattern) e }

pub returns-in_err-whole : goal.returns-in_err-whole
returns-in_err-whole c =
    let us = units c.args.pattern.now in
    let h = c.behind_head-behind.ensures in
    let st = ap (λ r. units r.now) c.unwrap_or-body.ensures ∙ h.body ∙ ap (λ z. drop (cond z 1 0) us) (sym h.head) in
    let x = c.in_err-whole.ensures in
    let p = err_from_is_err_and c.from_residual.result c.from_residual.ensures.1 in
    let f = c.in_err-whole.field-0.0 in
    let is : f ≡ PatternOverLimit = over_limit_is c.choice.result f x.value x.ok_part in
    let ref = rw x.ok_part at c.choice.ensures in
    let e : Refusal us f = inr (is, well_formed_passed us _ _ h.head st c.if-not-well_formed.ensures, over us _ _ h.head st ref) in
    rw (p.1, p.2) (record { exact = e; value = told_cause us (Err f) e })

pub returns : goal.returns
returns c =
    let us = units c.args.pattern.now in
    let h = c.behind_head-behind.ensures in
    let is = c.is_some.ensures ∙ h.head in
    let st = ap (λ r. units r.now) c.unwrap_or-body.ensures ∙ h.body ∙ ap (λ z. drop (cond z 1 0) us) (sym is) in
    let read = rw c.in_ok-whole.ensures.ok_part at c.choice.ensures in
    let e =
    accepted us c.is_some.result _ is st _ c.choice.new.self c.in_ok-whole.whole
    (λ k lt. get_or-replicate 60 k _ 0 lt ∙ c.new.ensures.leads) read.read c.count.result c.count.ensures c.if-not-well_formed.ensures in
    record { exact = e; value = told_cause us (Ok _) e }
