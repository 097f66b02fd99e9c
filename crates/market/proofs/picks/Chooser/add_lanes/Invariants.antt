use Rattle.std.proofs.Common.{◌≡◌, Bool, ◌++◌, take}
use Rattle.std.specs.Fn.{FnReturnsAt}
use Rattle.bounded.specs.Listed.{listed}
use Rattle.sheets.specs.Model.{LaneRecord}
use Rattle.market.specs.Choosing.{Answers}
use Rattle.market.proofs.Appending.{passing_below}
use Rattle.market.proofs.picks.Chooser.add_lanes.Given as goal

abbrev pub invariant-loop-l : goal.invariant-loop-l
invariant-loop-l g l =
    (test : LaneRecord → Bool) → Answers (FnReturnsAt g.F.Fn l.passes) test → listed l.out ≡ take 80 (listed l.initial.out ++ passing_below test l.lanes l.l)
