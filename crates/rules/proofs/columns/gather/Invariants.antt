use Rattle.std.proofs.Common.{◌≡◌, ℕ, map, take}
use Rattle.std.specs.Fn.{FnReturnsAt}
use Rattle.bounded.specs.Listed.{listed}
use Rattle.rules.proofs.columns.gather.Given as goal

abbrev pub invariant-loop-x : goal.invariant-loop-x
invariant-loop-x g l = (f : g.row.T.Denot → ℕ) → ((x : g.row.T.Denot) (r : ℕ) → FnReturnsAt g.F.Fn l.number x r → r ≡ f x) → listed l.out ≡ take g.row.N (map f (take l.x-index l.items))
