use Rattle.std.proofs.Common.{length, sym, ap, ◌∙◌}
use Rattle.rules.proofs.Empty.{empty_tree, empty_accepted, empty_laid, blanks_all}
use Rattle.rules.proofs.checked.load.load.Goals as goal

pub invariant_of-result-in-Err : goal.invariant_of-result-in-Err
invariant_of-result-in-Err c =
    let ps = c.into_parts-parts.result.now in
    record {
      accepted = empty_accepted (length ps);
      laid = empty_laid ps (blanks_all _ ps (c.into_parts-parts.ensures ∙ c.blank.ensures));
      counted = sym (ap length empty_tree);
    }
