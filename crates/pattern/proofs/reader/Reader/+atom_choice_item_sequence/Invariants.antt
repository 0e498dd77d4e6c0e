use Rattle.std.proofs.Common.{◌≡◌, ◌+◌, ◌-◌, ◌*◌, length}
use Rattle.units.specs.Units.{units}
use Rattle.pattern.specs.Parts.{piece, table}
use Rattle.pattern.proofs.Runs.{Sequenced, Chosen}
use Rattle.pattern.proofs.reader.Reader.+atom_choice_item_sequence.Given as goal

abbrev pub decreases-atom : goal.decreases-atom
decreases-atom l = l.depth * 4

abbrev pub decreases-item : goal.decreases-item
decreases-item l = l.depth * 4 + 1

abbrev pub decreases-sequence : goal.decreases-sequence
decreases-sequence l = l.depth * 4 + 2

abbrev pub decreases-choice : goal.decreases-choice
decreases-choice l = l.depth * 4 + 3

abbrev pub invariant-choice-loop-self : goal.invariant-choice-loop-self
invariant-choice-loop-self l =
    (l.self.pattern.now ≡ l.fn.self.pattern.now)
    × Chosen (units l.fn.self.pattern.now) l.depth l.fn.self.at l.fn.self.count (table l.fn.self.places) (table l.self.places) (piece l.self.at l.self.count l.a)

abbrev pub decreases-choice-loop-self : goal.decreases-choice-loop-self
decreases-choice-loop-self l = length (units l.fn.self.pattern.now) - l.self.at

abbrev pub invariant-sequence-loop-self : goal.invariant-sequence-loop-self
invariant-sequence-loop-self l =
    (l.self.pattern.now ≡ l.fn.self.pattern.now)
    × Sequenced (units l.fn.self.pattern.now) l.depth l.fn.self.at l.fn.self.count (table l.fn.self.places) (table l.self.places) (piece l.self.at l.self.count l.a)

abbrev pub decreases-sequence-loop-self : goal.decreases-sequence-loop-self
decreases-sequence-loop-self l = length (units l.fn.self.pattern.now) - l.self.at
