use Rattle.std.proofs.Common.{◌≡◌, ◌+◌, ◌-◌, ◌≤◌, ◌++◌, take}
use Rattle.bounded.specs.Listed.{listed}
use Rattle.market.specs.Choosing.{gives}
use Rattle.market.specs.Lists.{gather}
use Rattle.market.specs.Tables.{unnamed}
use Rattle.market.proofs.picks.Chooser.add_unnamed.Given as goal

abbrev pub invariant-loop-school : goal.invariant-loop-school
invariant-loop-school l = (listed l.out ≡ take 80 (listed l.initial.out ++ gather (gives l.self) (unnamed (l.school - 1) l.self.wishes.now))) × (l.school ≤ l.school-end + 1)
