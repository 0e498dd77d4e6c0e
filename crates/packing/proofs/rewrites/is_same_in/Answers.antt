use Rattle.std.proofs.Common.{sym, ◌∙◌}
use Rattle.std.proofs.lemmas.Bool.Decides.{Decides-eqb}
use Rattle.std.proofs.lemmas.Slice.Eq.{slice_eq-Decides}
use Rattle.packing.proofs.Written.{rewrote_same}
use Rattle.packing.proofs.rewrites.is_same_in.Goals as goal

pub returns-then-is_ok : goal.returns-then-is_ok
returns-then-is_ok c =
    let e = rewrote_same c.args.packet.now.bytes.now c.args.out.now _ c.rewrite.result c.requires c.rewrite.ensures in
    (slice_eq-Decides Decides-eqb _ _ _ c.eq.ensures).1 (e.1 ∙ sym c.bytes.ensures)

pub returns-else-is_ok : goal.returns-else-is_ok
returns-else-is_ok c = c.is_ok.ensures.value ∙ (rewrote_same c.args.packet.now.bytes.now c.args.out.now _ c.rewrite.result c.requires c.rewrite.ensures).0
