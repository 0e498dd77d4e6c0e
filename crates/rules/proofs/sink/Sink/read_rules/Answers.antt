use Rattle.std.proofs.Common.{◌≡◌, ℕ, suc, ◌+◌, ◌-◌, refl, sym, ap, ◌∙◌, subst, arith}
use Rattle.std.proofs.lemmas.Result.{err_from_is_err_and}
use Rattle.units.specs.Units.{units}
use Rattle.cursor.specs.Reading.{rest, text_of}
use Rattle.parser.specs.Shown.{rule_of}
use Rattle.checks.specs.Earliest.{earliest_from}
use Rattle.checks.specs.Faults.{rule_faults}
use Rattle.parts.specs.Laid.{lay_rule}
use Rattle.rules.specs.Held.{Put}
use Rattle.rules.specs.Read.{told_of}
use Rattle.rules.proofs.Filling.{put_as}
use Rattle.rules.proofs.Reading.{SoFar, ends_here, stops_inside, one_further, one_too_many, ends_full}
use Rattle.rules.proofs.sink.Sink.read_rules.Goals as goal

pub returns-then-not-begins_rule-clause-reads : goal.returns-then-not-begins_rule-clause-reads
returns-then-not-begins_rule-clause-reads c =
    let i = c.loop-i.i in
    let z : 32 - i ≡ suc (31 - i) = omega arith in
    ends_here (32 - i) (31 - i) z (rest c.args.cursor.now) (rest c.loop-i.cursor) c.loop-i.fault i c.args.self.now c.loop-i.self c.loop-i.invariant.1 c.if-not-begins_rule.ensures c.told.result c.told.ensures

pub returns-in_err-r-clause-reads : goal.returns-in_err-r-clause-reads
returns-in_err-r-clause-reads c =
    let i = c.loop-i.i in
    let z : 32 - i ≡ suc (31 - i) = omega arith in
    let p = err_from_is_err_and c.from_residual.result c.from_residual.ensures.1 in
    rw (p.1, p.2) (stops_inside (32 - i) (31 - i) z (rest c.args.cursor.now) (rest c.loop-i.cursor) c.loop-i.fault i c.args.self.now c.loop-i.self c.loop-i.invariant.1 c.if-not-begins_rule.ensures c.in_err-r.field-0.0 (rest c.rule.new.cursor) c.in_err-r.ensures.reads)

pub loop-i-preserved : goal.loop-i-preserved
loop-i-preserved c =
    let i = c.loop-i.i in
    let z : 32 - i ≡ suc (31 - i) = omega arith in
    let y : 31 - i ≡ 32 - (i + 1) = omega arith in
    let s = c.args.self.now in
    let t = c.loop-i.self in
    let u = c.put_rule.new.self in
    let same : text_of c.loop-i.cursor ≡ units t.text.now = c.loop-i.invariant.0 ∙ c.requires ∙ ap (λ z. units z.now) (sym c.loop-i.invariant.1.put.text) in
    let r = c.in_ok-r.r in
    let all = rest c.args.cursor.now in
    let m = rest c.rule.new.cursor in
    let fault = c.rule_fault-fault.result in
    let f : fault ≡ earliest_from c.loop-i.fault (rule_faults (rule_of (text_of c.loop-i.cursor) r)) = c.rule_fault-fault.ensures.value ∙ ap (λ us. earliest_from c.loop-i.fault (rule_faults (rule_of us r))) (sym same) in
    let p : Put (lay_rule (rule_of (text_of c.loop-i.cursor) r)) t u = put_as (lay_rule (rule_of (units t.text.now) r)) (lay_rule (rule_of (text_of c.loop-i.cursor) r)) t u u (ap (λ us. lay_rule (rule_of us r)) (sym same)) refl c.put_rule.ensures in
    let k : SoFar (31 - i) all m fault (i + 1) s u = one_further (32 - i) (31 - i) z all (rest c.loop-i.cursor) c.loop-i.fault i s t c.loop-i.invariant.1 c.if-not-begins_rule.ensures (rule_of (text_of c.loop-i.cursor) r) m c.in_ok-r.ensures.reads fault f u p in
    let P : ℕ → Type 0 = λ n. SoFar n all m fault (i + 1) s u in
    (c.rule.ensures.text ∙ c.loop-i.invariant.0, subst P y k)

pub returns-then-begins_rule-clause-reads : goal.returns-then-begins_rule-clause-reads
returns-then-begins_rule-clause-reads c =
    let z : 32 - c.loop-i.i ≡ 0 = omega arith in
    one_too_many (32 - c.loop-i.i) z (rest c.args.cursor.now) (rest c.loop-i.cursor) c.loop-i.fault c.loop-i.i c.args.self.now c.loop-i.self c.loop-i.invariant.1 c.if-begins_rule.ensures

pub returns-else-begins_rule-clause-reads : goal.returns-else-begins_rule-clause-reads
returns-else-begins_rule-clause-reads c =
    let i = c.loop-i.i in
    let z : 32 - i ≡ 0 = omega arith in
    let y : i ≡ 32 = omega arith in
    let told = c.told-else-begins_rule in
    ends_full (32 - i) z (rest c.args.cursor.now) (rest c.loop-i.cursor) c.loop-i.fault i c.args.self.now c.loop-i.self c.loop-i.invariant.1 c.if-begins_rule.ensures told.result (told.ensures ∙ ap (told_of c.loop-i.fault) (sym y))
