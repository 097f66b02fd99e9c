use Rattle.std.proofs.Common.{◌≡◌, take}
use Rattle.bounded.specs.Listed.{listed}
use Rattle.bounded.proofs.list.BoundedList.copied.Given as goal

abbrev pub invariant-loop-x : goal.invariant-loop-x
invariant-loop-x g l = listed l.out ≡ take g.row.N (take l.x-index l.items)
