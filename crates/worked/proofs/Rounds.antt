-- The rounds worked by hand: each equation holds by computing both its sides. Assumes nothing.
use Rattle.std.proofs.Common.{refl}
use Rattle.matching.specs.Count.{sum_to}
use Rattle.matching.specs.Picks.{first}
use Rattle.matching.specs.Market.{rank, clears, offer, over_asked}
use Rattle.matching.specs.Log.{least, settled, presses, after}
use Rattle.market.specs.Lists.{join_to, gather}
use Rattle.market.specs.Tables.{completed, at_school, pick_of}
use Rattle.rules.specs.Limits.{members, cost_of, newcomers}
use Rattle.worked.specs.Worked.{WorkedRounds}

pub worked_rounds_lem : WorkedRounds
unfolding sum_to first rank clears offer over_asked least settled presses after join_to gather completed at_school pick_of members cost_of newcomers
worked_rounds_lem = record {
  three_teachers_opened = refl;
  three_teachers_settled = refl;
  other_wish = refl;
  other_wish_is_calm = refl;
  settle_with_nothing = refl;
  press_refused = refl;
  press_refused_as = refl;
  post_refused = refl;
  post_refused_as = refl;
  ten_newcomers_under_a_purse = refl;
  no_room_under_seats = refl;
  one_incumbent_under_a_cap = refl;
}
