use Rattle.std.proofs.Common.{◌≡◌, ◌+◌, ◌<◌, ◌^◌, length, get_or, drop, Some, None, inl, ap, ◌∙◌, arith, sym}
use Rattle.units.specs.Units.{units}
use Rattle.units.specs.Form.{first_ill}
use Rattle.units.proofs.Form.{first_ill_found, left_is, ill_stops, ill_goes}
use Rattle.units.proofs.Texts.{length-units}
use Rattle.units.proofs.first_ill_formed.Goals as goal

pub loop-i-init : goal.loop-i-init
loop-i-init c =
    let iter = ap (λ r. r.iter) c.into_iter-i-iterator.ensures.into_iter_gives ∙ c.enumerate-i-items.ensures.source in
    let us : units c.into_iter-i-iterator.result.iter.rest.now ≡ units c.args.text.now = ap (λ s. units s.rest.now) iter ∙ c.of.ensures in
    let z : c.into_iter-i-iterator.result.count ≡ 0 = ap (λ r. r.count) c.into_iter-i-iterator.ensures.into_iter_gives ∙ c.enumerate-i-items.ensures.count in
    let l = length-units c.args.text.now in
    let b : c.into_iter-i-iterator.result.count + length (units c.into_iter-i-iterator.result.iter.rest.now) < 2 ^ 64 = omega (arith, ap length us) in
    ((tt, tt, inl b), tt, b, us ∙ ap (λ n. drop n (units c.args.text.now)) (sym z), ap (λ n. first_ill 0 n (units c.into_iter-i-iterator.result.iter.rest.now)) z ∙ ap (first_ill 0 0) us)

pub loop-i-preserved : goal.loop-i-preserved
loop-i-preserved c =
    let us = units c.args.text.now in
    let h = c.in-Some.ensures.steps in
    let inv = c.loop-i.invariant in
    let after = ap (λ k. get_or us (k + 1) 0) h.1 in
    let goes = ill_goes us _ _ c.loop-i.i-iterator.count c.loop-i.before c.in-Some.u (get_or us (c.in-Some.i + 1) 0) h.0 inv.3 after (sym c.if-is_ill.ensures) in
    let b : c.next.new.self.count + length (units c.next.new.self.iter.rest.now) < 2 ^ 64 = omega (arith, h.2, inv.2, ap length h.0) in (
      (tt, tt, inl b),
      tt,
      b,
      left_is us _ _ c.loop-i.i-iterator.count c.loop-i.before c.in-Some.u (get_or us (c.in-Some.i + 1) 0) h.0 inv.3 after ∙ ap (λ k. drop k us) (sym h.2),
      ap (λ k. first_ill c.in-Some.u k (units c.next.new.self.iter.rest.now)) h.2 ∙ goes ∙ inv.4,
    )

pub returns-then-is_ill : goal.returns-then-is_ill
returns-then-is_ill c =
    let us = units c.args.text.now in
    let h = c.in-Some.ensures.steps in
    let inv = c.loop-i.invariant in
    let after = ap (λ k. get_or us (k + 1) 0) h.1 in
    let stops = ill_stops us _ _ c.loop-i.i-iterator.count c.loop-i.before c.in-Some.u (get_or us (c.in-Some.i + 1) 0) h.0 inv.3 after (sym c.if-is_ill.ensures) in
    let e = ap Some h.1 ∙ sym stops ∙ inv.4 in
    record { value = e; first = first_ill_found us (Some c.in-Some.i) e }

pub returns : goal.returns
returns c =
    let e = ap (first_ill c.loop-i.before c.loop-i.i-iterator.count) (sym c.in-None.ensures.steps.0.0) ∙ c.loop-i.invariant.4 in
    record { value = e; first = first_ill_found (units c.args.text.now) None e }
