use Rattle.std.proofs.Common.{◌≡◌, ◌≤◌, true, false, get_or, take, sym, refl, ap, ◌∙◌, arith}
use Rattle.std.proofs.lemmas.List.{get_or-take, length-take}
use Rattle.matching.proofs.Ranking.{count_yes, count_no}
use Rattle.std.proofs.lemmas.Grind.{common_steps}
use Rattle.book.proofs.Results.{few_lanes}
use Rattle.book.specs.Held.{book_model}
use Rattle.book.specs.Model.{Model, lifted}
use Rattle.round.specs.Calls.{over_in}
use Rattle.round.specs.Loops.{swept_to}
use Rattle.round.proofs.Over.{over_inside, book_cut, lifted_bumped}
use Rattle.round.proofs.Answering.{count_none, goes_on, sweep_done, swept_start, swept_cut, swept_yes, swept_no}
use Rattle.round.proofs.place.Place.sweep.Goals as goal
use Rattle.round.proofs.place.Place.sweep.Goals.{then-over, else-over}

pub loop-l-init : goal.loop-l-init
loop-l-init g c =
    let p = c.args.self.now in
    let family = g.L.Limit.family p.limit in
    (swept_start family (book_model p.book), sym (count_none (over_in family (book_model p.book))), omega arith, refl, refl)

pub loop-l-preserved : goal.loop-l-preserved
loop-l-preserved g c =
    let p = c.args.self.now in
    let family = g.L.Limit.family p.limit in
    let m = book_model p.book in
    let l = c.loop-l.l in
    let marks = c.over_marks-marks.result in
    let n = c.lane_count.result in
    let at : get_or (take n marks) l false ≡ get_or marks l false = get_or-take n marks l false (omega (arith, length-take n marks)) in
    elim c.if-over.branch [
      | then-over w ↦
          let yes : over_in family m l ≡ true = sym (at ∙ c.over_marks-marks.ensures.marks l) ∙ w.if-over.true in
          let cut : (swept_to family m l).1.cuts l ≤ 201 = omega (arith, swept_cut family m l, book_cut p.book family (g.met.L.Limit.empty p.limit) l yes) in (
            ap (λ q. book_model q.book) w.self-is ∙ w.raise.ensures ∙ ap (λ (x : Model). lifted x l) c.loop-l.invariant.0 ∙ lifted_bumped (swept_to family m l) l (over_inside family m l yes) cut ∙ swept_yes family m l yes,
            omega (arith, count_yes (over_in family m) l yes, w.raised-is),
            omega (arith, w.raised-is),
            ap (λ q. q.standing) w.self-is ∙ c.loop-l.invariant.3,
            ap (λ q. q.limit) w.self-is ∙ c.loop-l.invariant.4,
          )
      | else-over w ↦
          let no : over_in family m l ≡ false = sym (at ∙ c.over_marks-marks.ensures.marks l) ∙ w.if-over.false in
          (ap (λ q. book_model q.book) w.self-is ∙ c.loop-l.invariant.0 ∙ swept_no family m l no, omega (arith, count_no (over_in family m) l no, w.raised-is), omega (arith, w.raised-is), ap (λ q. q.standing) w.self-is ∙ c.loop-l.invariant.3, ap (λ q. q.limit) w.self-is ∙ c.loop-l.invariant.4)
    ]

pub returns : goal.returns
returns g c =
    let p = c.args.self.now in
    let m = book_model p.book in
    let free = goes_on m c.in_ok-must_be_open.field-0 c.in_ok-must_be_open.ensures in
    let done = sweep_done (g.L.Limit.family p.limit) m (book_model c.loop-l.self.book) c.loop-l.l c.loop-l.raised free (omega (arith, few_lanes p.book, length-take c.lane_count.result c.over_marks-marks.result, c.lane_count.ensures, c.over_marks-marks.ensures.long)) c.loop-l.invariant.0 c.loop-l.invariant.1 in
    grind (arith, common_steps)
