use Rattle.std.proofs.Common.{sym, arith}
use Rattle.std.proofs.lemmas.Grind.{common_steps}
use Rattle.matching.specs.Log.{after}
use Rattle.round.proofs.Over.{raised_is}
use Rattle.round.proofs.place.Place.press.Goals as goal

pub returns : goal.returns
unfolding after
returns g c =
    let p = c.args.self.now in
    let risen = raised_is p.book (g.L.Limit.family p.limit) (g.met.L.Limit.empty p.limit) c.in_ok-at.at (sym c.if-not-over_asked.ensures) in
    grind (arith, common_steps)
