use Rattle.std.proofs.Common.{sym, refl, ◌∙◌, arith, rules}
use Rattle.units.specs.Units.{units}
use Rattle.pattern.specs.Grammar.{choice, sequence, item, atom}
use Rattle.pattern.specs.Parts.{table}
use Rattle.pattern.proofs.Looks.{half}
use Rattle.pattern.proofs.Runs.{seq_begin, seq_step, seq_on, seq_read, seq_refused, choice_begin, choice_none, choice_step, choice_read, choice_refused, refused_is, here, halted, read_on, refused_on, moved}
use Rattle.pattern.proofs.Sole.{item_refused, item_once, item_star, item_plus, item_opt, group_refused, group_open, group_read, simple_refused, simple_read, simple_inside}
use Rattle.pattern.proofs.reader.Reader.+atom_choice_item_sequence.Goals as goal

pub atom-returns-in_err-inner : goal.atom-returns-in_err-inner
atom-returns-in_err-inner t c =
    refused_is atom c.args.depth c.args.self.now _ _ c.from_residual-in_err-inner.ensures
    (group_refused (units c.args.self.now.pattern.now) c.args.self.now.at (sym c.if-stands.ensures) c.args.depth c.args.self.now.count c.in_ok-deeper.ensures c.in_err-inner.ensures)

pub atom-returns-then-stands-2 : goal.atom-returns-then-stands-2
atom-returns-then-stands-2 t c = record {
  same = c.in_ok-inner.ensures.same;
  read =
      group_read (units c.args.self.now.pattern.now) c.args.self.now.at (sym c.if-stands.ensures) c.in_ok-deeper.ensures c.in_ok-inner.ensures.read
      (here c.in_ok-inner.ensures.same 41 _ c.if-stands-2.ensures) (moved _ _ _ _) refl;
}

pub atom-returns-then-stands : goal.atom-returns-then-stands
atom-returns-then-stands t c =
    group_open (units c.args.self.now.pattern.now) c.args.self.now.at (sym c.if-stands.ensures) c.in_ok-inner.ensures.read (here c.in_ok-inner.ensures.same 41 _ c.if-stands-2.ensures)

pub atom-returns-in_err-a : goal.atom-returns-in_err-a
atom-returns-in_err-a t c =
    refused_is atom c.args.depth c.args.self.now _ _ c.from_residual-in_err-a.ensures
    (simple_refused (units c.args.self.now.pattern.now) c.args.self.now.at (sym c.if-stands.ensures) c.args.depth c.args.self.now.count c.in_err-a.ensures)

pub atom-overflow_add-self-2 : goal.atom-overflow_add-self-2
atom-overflow_add-self-2 t c =
    let h = simple_inside (units c.args.self.now.pattern.now) c.args.self.now.at c.in_ok-a.a c.in_ok-a.units c.args.self.now.inside c.in_ok-a.ensures in
    let b = half c.args.self.now.pattern.now in
    search rules

pub atom-invariant_of-self-2-clause-inside : goal.atom-invariant_of-self-2-clause-inside
atom-invariant_of-self-2-clause-inside t c = simple_inside (units c.args.self.now.pattern.now) c.args.self.now.at c.in_ok-a.a c.in_ok-a.units c.args.self.now.inside c.in_ok-a.ensures

pub atom-returns : goal.atom-returns
atom-returns t c = record {
  same = refl;
  read =
      simple_read (units c.args.self.now.pattern.now) c.args.self.now.at (sym c.if-stands.ensures) c.in_ok-a.a c.in_ok-a.units c.args.self.now.inside (search rules) c.in_ok-a.ensures c.put.ensures.takes c.put.ensures.kept
      (c.single.ensures c.args.self.now.at c.in_ok-a.units);
}

pub choice-returns-in_err-a : goal.choice-returns-in_err-a
choice-returns-in_err-a t c =
    refused_is choice c.args.depth c.args.self.now _ _ c.from_residual.ensures
    (choice_none (units c.args.self.now.pattern.now) c.args.depth c.args.self.now.at c.args.self.now.count c.in_err-a.ensures)

pub choice-loop-self-init : goal.choice-loop-self-init
choice-loop-self-init t c = (c.in_ok-a.ensures.same, choice_begin c.in_ok-a.ensures.read)

pub choice-returns-in_err-b : goal.choice-returns-in_err-b
choice-returns-in_err-b t c =
    refused_is choice c.args.depth c.args.self.now _ _ c.from_residual-in_err-b.ensures
    (choice_refused c.loop-self.invariant.1 (here c.loop-self.invariant.0 124 _ c.loop-self-test.ensures) (refused_on c.loop-self.invariant.0 _ _ c.in_err-b.ensures))

pub choice-loop-self-preserved : goal.choice-loop-self-preserved
choice-loop-self-preserved t c = (
  c.in_ok-b.ensures.same ∙ c.loop-self.invariant.0,
  choice_step c.loop-self.invariant.1 (here c.loop-self.invariant.0 124 _ c.loop-self-test.ensures) (read_on c.loop-self.invariant.0 c.in_ok-b.ensures.read) (c.either-a.ensures _ _ _ _),
)

pub choice-returns : goal.choice-returns
choice-returns t c = record {
  same = c.loop-self.invariant.0;
  read = choice_read c.loop-self.invariant.1 (here c.loop-self.invariant.0 124 _ c.loop-self-test.ensures);
}

pub item-returns-in_err-a : goal.item-returns-in_err-a
item-returns-in_err-a t c =
    refused_is item c.args.depth c.args.self.now _ _ c.from_residual.ensures
    (item_refused (units c.args.self.now.pattern.now) c.args.depth c.args.self.now.at c.args.self.now.count c.in_err-a.ensures)

pub item-returns-then-stands : goal.item-returns-then-stands
item-returns-then-stands t c = record {
  same = c.in_ok-a.ensures.same;
  read = item_star c.in_ok-a.ensures.read (moved _ _ _ _) (table c.link.new.places) (here c.in_ok-a.ensures.same 42 _ c.if-stands.ensures) c.link.ensures.kept c.link.ensures.leads refl;
}

pub item-returns-then-stands-2 : goal.item-returns-then-stands-2
item-returns-then-stands-2 t c = record {
  same = c.in_ok-a.ensures.same;
  read =
      item_plus c.in_ok-a.ensures.read (moved _ _ _ _) (table c.link-then-stands-2.new.places) (here c.in_ok-a.ensures.same 43 _ c.if-stands-2.ensures)
      c.link-then-stands-2.ensures.kept c.link-then-stands-2.ensures.leads refl;
}

pub item-returns-then-stands-3 : goal.item-returns-then-stands-3
item-returns-then-stands-3 t c = record {
  same = c.in_ok-a.ensures.same;
  read = item_opt c.in_ok-a.ensures.read (moved _ _ _ _) (here c.in_ok-a.ensures.same 63 _ c.if-stands-3.ensures) refl;
}

pub item-returns : goal.item-returns
item-returns t c = record {
  same = c.in_ok-a.ensures.same;
  read =
      item_once c.in_ok-a.ensures.read (here c.in_ok-a.ensures.same 42 _ c.if-stands.ensures) (here c.in_ok-a.ensures.same 43 _ c.if-stands-2.ensures)
      (here c.in_ok-a.ensures.same 63 _ c.if-stands-3.ensures);
}

pub sequence-loop-self-init : goal.sequence-loop-self-init
sequence-loop-self-init t c = (
  refl,
  seq_begin (units c.args.self.now.pattern.now) c.args.depth c.args.self.now.at c.args.self.now.count (table c.args.self.now.places) _ c.args.self.now.inside c.args.self.now.room refl refl refl refl refl,
)

pub sequence-returns-in_err-b : goal.sequence-returns-in_err-b
sequence-returns-in_err-b t c =
    refused_is sequence c.args.depth c.args.self.now _ _ c.from_residual.ensures
    (seq_refused c.loop-self.invariant.1 (halted c.loop-self.invariant.0 _ c.loop-self-test.ensures) (refused_on c.loop-self.invariant.0 _ _ c.in_err-b.ensures))

pub sequence-loop-self-smaller : goal.sequence-loop-self-smaller
sequence-loop-self-smaller t c =
    let h = seq_on c.loop-self.invariant.1 (read_on c.loop-self.invariant.0 c.in_ok-b.ensures.read) (c.both-a.ensures _ _ _ _) in
    omega arith

pub sequence-loop-self-preserved : goal.sequence-loop-self-preserved
sequence-loop-self-preserved t c = (
  c.in_ok-b.ensures.same ∙ c.loop-self.invariant.0,
  seq_step c.loop-self.invariant.1 (halted c.loop-self.invariant.0 _ c.loop-self-test.ensures) (read_on c.loop-self.invariant.0 c.in_ok-b.ensures.read) c.link.ensures.kept c.link.ensures.leads
      (c.both-a.ensures _ _ _ _),
)

pub sequence-returns : goal.sequence-returns
sequence-returns t c = record {
  same = c.loop-self.invariant.0;
  read = seq_read c.loop-self.invariant.1 (halted c.loop-self.invariant.0 _ c.loop-self-test.ensures);
}
