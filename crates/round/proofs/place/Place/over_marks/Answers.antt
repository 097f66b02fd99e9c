use Rattle.std.proofs.Common.{◌≡◌, Bool, false, length, replicate, ◌∙◌, arith}
use Rattle.std.proofs.lemmas.List.{length-take-le}
use Rattle.book.specs.Held.{book_model}
use Rattle.book.proofs.Filled.{fronted}
use Rattle.book.proofs.Results.{few_lanes}
use Rattle.round.specs.Calls.{over_in}
use Rattle.round.proofs.Over.{over_past}
use Rattle.round.proofs.place.Place.over_marks.Goals as goal

pub returns-clause-marks : goal.returns-clause-marks
returns-clause-marks g c =
    let p = c.args.self.now in
    let family = g.L.Limit.family p.limit in
    let n = c.lane_count.result in
    let long : length c.loop-l.mark-items ≡ n = c.loop-l.auto.mark-items ∙ length-take-le n (replicate {A = Bool} 80 false) (omega (arith, few_lanes p.book, c.lane_count.ensures)) in
    fronted (over_in family (book_model p.book)) false c.loop-l.mark-items n 80 long (λ k h. c.loop-l.invariant k (omega (arith, long, h, c.loop-l-test.false)))
    (λ l h. over_past family (book_model p.book) l (omega (arith, h, c.lane_count.ensures)))
