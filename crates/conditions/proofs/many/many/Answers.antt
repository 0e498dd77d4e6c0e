use Rattle.std.proofs.Common.{◌≡◌, suc, ◌-◌, true, false, map, ap, arith, rules}
use Rattle.grammar.specs.Readers.{many}
use Rattle.cursor.specs.Reading.{rest, text_of}
use Rattle.conditions.specs.Many.{all_of}
use Rattle.conditions.proofs.Pushed.{one_more_of}
use Rattle.cursor.proofs.Many.{pre_none, item_stops, last, between_stops, more, over}
use Rattle.conditions.proofs.many.many.Goals as goal

pub loop-init : goal.loop-init
loop-init g c =
    let a = ap (map (g.T.Item.shown (text_of c.args.cursor.now))) c.new-all.ensures in
    let n = pre_none (many c.args.between c.args.begins.now g.T.Item.reader g.row.N (rest c.args.cursor.now)) in search rules

pub returns-in_err-read : goal.returns-in_err-read
returns-in_err-read g c =
    let z : g.row.N - c.loop.counter ≡ suc (g.row.N - c.loop.counter - 1) = omega arith in
    let e = item_stops c.args.between c.args.begins.now g.T.Item.reader (g.row.N - c.loop.counter - 1) (all_of g.T.Item.shown (text_of c.args.cursor.now) c.loop.all) (rest c.loop.cursor) _ _ c.in_err-read.ensures.reads in
    search rules

pub returns-then-not-sees : goal.returns-then-not-sees
returns-then-not-sees g c =
    let z : g.row.N - c.loop.counter ≡ suc (g.row.N - c.loop.counter - 1) = omega arith in
    let a = one_more_of (g.T.Item.shown (text_of c.args.cursor.now)) c.loop.all.items c.push.new.self.items _ c.push.ensures.items in
    let e = last c.args.between c.args.begins.now g.T.Item.reader (g.row.N - c.loop.counter - 1) (all_of g.T.Item.shown (text_of c.args.cursor.now) c.loop.all) (rest c.loop.cursor) _ _ c.in_ok-read.ensures.reads c.if-not-sees.ensures in
    search rules

pub returns-in_err-expect : goal.returns-in_err-expect
returns-in_err-expect g c =
    let z : g.row.N - c.loop.counter ≡ suc (g.row.N - c.loop.counter - 1) = omega arith in
    let e = between_stops c.args.between c.args.begins.now g.T.Item.reader (g.row.N - c.loop.counter - 1) (all_of g.T.Item.shown (text_of c.args.cursor.now) c.loop.all) (rest c.loop.cursor) _ _ c.in_ok-read.ensures.reads _ _ c.if-not-sees.ensures c.in_err-expect.ensures.reads in
    search rules

pub loop-preserved : goal.loop-preserved
loop-preserved g c =
    let z : g.row.N - c.loop.counter ≡ suc (g.row.N - c.loop.counter - 1) = omega arith in
    let a = one_more_of (g.T.Item.shown (text_of c.args.cursor.now)) c.loop.all.items c.push.new.self.items _ c.push.ensures.items in
    let e = more c.args.between c.args.begins.now g.T.Item.reader (g.row.N - c.loop.counter - 1) (all_of g.T.Item.shown (text_of c.args.cursor.now) c.loop.all) (rest c.loop.cursor) _ _ c.in_ok-read.ensures.reads _ _ c.if-not-sees.ensures c.in_ok-expect.ensures.reads in
    search rules

pub returns-then-sees : goal.returns-then-sees
returns-then-sees g c =
    let z : g.row.N - c.loop.counter ≡ 0 = omega arith in
    let e = over c.args.between c.args.begins.now g.T.Item.reader (all_of g.T.Item.shown (text_of c.args.cursor.now) c.loop.all) (rest c.loop.cursor) true c.if-sees.ensures in
    search rules

pub returns-else-sees : goal.returns-else-sees
returns-else-sees g c =
    let z : g.row.N - c.loop.counter ≡ 0 = omega arith in
    let e = over c.args.between c.args.begins.now g.T.Item.reader (all_of g.T.Item.shown (text_of c.args.cursor.now) c.loop.all) (rest c.loop.cursor) false c.if-sees.ensures in
    search rules
