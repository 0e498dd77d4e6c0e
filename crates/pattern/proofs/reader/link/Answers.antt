use Rattle.std.proofs.Common.{◌≡◌, ◌+◌, ◌<◌, length, sym, ap, ◌∙◌, subst, arith}
use lib.Bits.{bit_or}
use Rattle.std.proofs.lemmas.List.{length-map, length-set, set-get_or}
use Rattle.std.proofs.Math.Seq.{map-set_same}
use Rattle.automaton.specs.Places.{follow_of, atoms, follows}
use Rattle.automaton.specs.declared.Place.{Place}
use Rattle.automaton.proofs.Used.{blank}
use Rattle.pattern.proofs.Grow.{Spread, spread_keep, spread_add, follows_set, grown_one}
use Rattle.pattern.proofs.reader.link.Goals as goal
use Rattle.pattern.proofs.reader.link.Goals.{then-has, else-has}

pub returns-clause-leads : goal.returns-clause-leads
returns-clause-leads c =
    grown_one c.args.from c.args.to (follows c.args.places.now) (follows c.loop-p.places) c.loop-p.p (omega arith) c.loop-p.invariant.2

pub loop-p-preserved : goal.loop-p-preserved
loop-p-preserved c =
    let f = c.args.from in
    let to = c.args.to in
    let old = c.args.places.now in
    let now = c.loop-p.places in
    let p = c.loop-p.p in
    let lt : p < length (follows now) = omega (arith, length-map now follow_of) in
    elim c.if-has.branch [
      | then-has w ↦ subst (λ z. (length z ≡ 60) × (atoms z ≡ atoms old) × Spread f to (follows old) (follows z) (p + 1)) (sym w.places-is) (
        length-set now p _ ∙ c.loop-p.invariant.0,
        map-set_same (λ (q : Place). q.atom) now p _ blank w.new.ensures.takes ∙ c.loop-p.invariant.1,
        subst (λ z. Spread f to (follows old) z (p + 1)) (sym (follows_set now p to _ (w.new.ensures.leads ∙ ap (λ z. bit_or z to) w.follow.ensures))) (spread_add f to (follows old) (follows now) p c.loop-p.invariant.2 (sym w.if-has.ensures) lt),
      )
      | else-has w ↦ subst (λ z. (length z ≡ 60) × (atoms z ≡ atoms old) × Spread f to (follows old) (follows z) (p + 1)) (sym (w.places-is ∙ set-get_or now p blank))
          (c.loop-p.invariant.0, c.loop-p.invariant.1, spread_keep f to (follows old) (follows now) p c.loop-p.invariant.2 (sym w.if-has.ensures))
    ]
