use Rattle.std.proofs.Common.{◌≡◌, [], sym, ap, ◌∙◌}
use Rattle.units.specs.Units.{units}
use Rattle.parser.specs.Shown.{rule_of}
use Rattle.checks.specs.Earliest.{earliest_from}
use Rattle.checks.specs.Faults.{selections_faults, action_faults, rule_faults}
use Rattle.checks.proofs.First.{earliest-append, earliest_known}
use Rattle.checks.proofs.rules.rule_fault.Goals as goal

pub returns : goal.returns
returns c =
    let r = rule_of (units c.args.text.now) c.args.rule.now in
    let all = action_faults r.selections r.action in
    let o = c.note_action.new.self.known in
    let e : o ≡ earliest_from c.args.known (rule_faults r) =
    c.note_action.ensures ∙ ap (λ o. earliest_from o all) c.note_selections.ensures ∙ sym (earliest-append c.args.known (selections_faults [] r.selections) all) in
    record { value = e; earliest = earliest_known c.args.known (rule_faults r) o e }
