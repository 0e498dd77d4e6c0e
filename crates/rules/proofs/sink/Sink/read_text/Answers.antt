use Rattle.std.proofs.Common.{◌≡◌, refl, sym, ap, ◌∙◌, arith}
use Rattle.rules.proofs.Short.{short_units}
use Rattle.cursor.specs.Reading.{rest, text_of}
use Rattle.grammar.specs.Whole.{parse}
use Rattle.rules.specs.Judged.{derived}
use Rattle.units.specs.Units.{units}
use Rattle.rules.proofs.Reading.{reads_told}
use Rattle.rules.proofs.Wholly.{at_end, not_at_end, stops}
use Rattle.rules.proofs.sink.Sink.read_text.Goals as goal

pub read_rules-requires : goal.read_rules-requires
read_rules-requires c = c.new-cursor.ensures.text ∙ sym (short_units c.args.self.now.text.now (omega arith))

pub returns-in-Ok : goal.returns-in-Ok
returns-in-Ok c =
    let us = units c.args.self.now.text.now in
    let n = c.new-cursor.result in
    let v : text_of n ≡ us = c.new-cursor.ensures.text ∙ sym (short_units c.args.self.now.text.now (omega arith)) in
    let k = c.in-Ok.ensures.reads in
    reads_told (parse us) k.0 c.args.self.now c.read_rules.new.self (at_end us (text_of n) (rest n) v c.new-cursor.ensures.words k.0 (rest c.read_rules.new.cursor) k.1 c.if-at_end.ensures) k.2.put _ refl c.in-Ok.rules k.2.told

pub returns-in-Ok-2 : goal.returns-in-Ok-2
returns-in-Ok-2 c =
    let us = units c.args.self.now.text.now in
    let n = c.new-cursor.result in
    let v : text_of n ≡ us = c.new-cursor.ensures.text ∙ sym (short_units c.args.self.now.text.now (omega arith)) in
    let k = c.in-Ok.ensures.reads in
    (λ room. ap (derived room) (not_at_end us (text_of n) (rest n) v c.new-cursor.ensures.words (text_of c.read_rules.new.cursor) c.read_rules.ensures.text c.fault.result (rest c.read_rules.new.cursor) k.0 k.1 c.if-at_end.ensures c.fault.ensures), k.2.put.same)

pub returns-in-Err : goal.returns-in-Err
returns-in-Err c =
    let us = units c.args.self.now.text.now in
    let n = c.new-cursor.result in
    let v : text_of n ≡ us = c.new-cursor.ensures.text ∙ sym (short_units c.args.self.now.text.now (omega arith)) in
    let k = c.in-Err.ensures.reads in
    (λ room. ap (derived room) (stops us (text_of n) (rest n) v c.new-cursor.ensures.words (text_of c.read_rules.new.cursor) c.read_rules.ensures.text c.fault-in-Err.result (rest c.read_rules.new.cursor) c.in-Err.stop k.0 c.fault-in-Err.ensures), k.1)
