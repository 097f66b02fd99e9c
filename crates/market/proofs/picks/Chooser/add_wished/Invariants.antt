use Rattle.std.proofs.Common.{◌≡◌, ◌++◌, take}
use Rattle.bounded.specs.Listed.{listed}
use Rattle.market.specs.Choosing.{gives}
use Rattle.market.specs.Lists.{gather}
use Rattle.market.proofs.picks.Chooser.add_wished.Given as goal

abbrev pub invariant-loop-school : goal.invariant-loop-school
invariant-loop-school l = listed l.out ≡ take 80 (listed l.initial.out ++ gather (gives l.self) (take l.school-index l.self.wishes.now))
