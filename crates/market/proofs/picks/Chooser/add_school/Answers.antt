use Rattle.std.proofs.Common.{rules}
use Rattle.bounded.specs.Listed.{listed}
use Rattle.market.specs.Choosing.{lanes_of, person_of}
use Rattle.market.specs.Tables.{main_at, also_at}
use Rattle.market.proofs.Appending.{at_school_is}
use Rattle.market.proofs.picks.Chooser.add_school.Goals as goal

pub returns : goal.returns
returns c =
    let p = person_of c.args.self.now in
    at_school_is (lanes_of c.args.self.now) p c.args.school (listed c.args.out.now) (listed c.add_lanes.new.out) (listed c.add_lanes-2.new.out)
    (c.add_lanes.ensures (main_at p c.args.school) (λ x r e. let m = e.says.met in let s = e.shows in search rules)) (c.add_lanes-2.ensures (also_at p c.args.school) (λ x r e. let m = e.says.met in let s = e.shows in search rules))
