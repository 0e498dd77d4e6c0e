use Rattle.std.proofs.Common.{◌≡◌, suc, ◌-◌, map, ap, arith, rules}
use Rattle.grammar.specs.Parse.{RuleSet}
use Rattle.cursor.specs.Reading.{rest, text_of}
use Rattle.conditions.proofs.Pushed.{one_more_of}
use Rattle.parser.specs.Shown.{rule_of, rules_of}
use Rattle.cursor.proofs.Many.{pre_none}
use Rattle.parser.proofs.Listing.{no_rule, rule_stops, one_more, rule_over, rules_done}
use Rattle.parser.proofs.rules.rules.Goals as goal

pub loop-init : goal.loop-init
loop-init c = let a = ap (map (rule_of (text_of c.args.cursor.now))) c.new-all.ensures in let n = pre_none (RuleSet (rest c.args.cursor.now)) in search rules

pub returns-then-not-begins_rule : goal.returns-then-not-begins_rule
returns-then-not-begins_rule c =
    let z : 32 - c.loop.counter ≡ suc (31 - c.loop.counter) = omega arith in
    let e = no_rule (31 - c.loop.counter) (rules_of (text_of c.args.cursor.now) c.loop.all) (rest c.loop.cursor) c.if-not-begins_rule.ensures in
    search rules

pub returns-in_err-rule : goal.returns-in_err-rule
returns-in_err-rule c =
    let z : 32 - c.loop.counter ≡ suc (31 - c.loop.counter) = omega arith in
    let e = rule_stops (31 - c.loop.counter) (rules_of (text_of c.args.cursor.now) c.loop.all) (rest c.loop.cursor) c.if-not-begins_rule.ensures _ _ c.in_err-rule.ensures.reads in
    search rules

pub loop-preserved : goal.loop-preserved
loop-preserved c =
    let z : 32 - c.loop.counter ≡ suc (31 - c.loop.counter) = omega arith in
    let a = one_more_of (rule_of (text_of c.args.cursor.now)) c.loop.all.items c.push.new.self.items _ c.push.ensures.items in
    let e = one_more (31 - c.loop.counter) (rules_of (text_of c.args.cursor.now) c.loop.all) (rest c.loop.cursor) c.if-not-begins_rule.ensures _ _ c.in_ok-rule.ensures.reads in
    search rules

pub returns-then-begins_rule : goal.returns-then-begins_rule
returns-then-begins_rule c =
    let z : 32 - c.loop.counter ≡ 0 = omega arith in
    let e = rule_over (rules_of (text_of c.args.cursor.now) c.loop.all) (rest c.loop.cursor) c.if-begins_rule.ensures in
    search rules

pub returns-else-begins_rule : goal.returns-else-begins_rule
returns-else-begins_rule c =
    let z : 32 - c.loop.counter ≡ 0 = omega arith in
    let e = rules_done (rules_of (text_of c.args.cursor.now) c.loop.all) (rest c.loop.cursor) c.if-begins_rule.ensures in
    search rules
