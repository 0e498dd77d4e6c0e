use Rattle.std.proofs.Common.{◌≡◌, take, replicate}
use Rattle.list.proofs.lists.List.blank.Given as goal

abbrev pub invariant-loop-s : goal.invariant-loop-s
invariant-loop-s g l = take l.s-index l.s-items ≡ replicate l.s-index l.x
