use Rattle.std.proofs.Common.{◌≡◌, refl, [], ◌∷◌, ◌++◌, take, sym, ap, ◌∙◌, arith}
use Rattle.bounded.specs.Listed.{listed}
use Rattle.bounded.proofs.Fronts.{push_front}
use Rattle.bounded.proofs.Lengths.{listed_within}
use Rattle.sheets.specs.Model.{lane_record}
use Rattle.market.proofs.Appending.{same, passing_start, passing_more, passing_all, added_if, added_else}
use Rattle.market.proofs.picks.Chooser.add_lanes.Goals.{then-passes, else-passes}
use Rattle.market.proofs.picks.Chooser.add_lanes.Goals as goal

pub loop-l-init : goal.loop-l-init
loop-l-init g c = λ test a. passing_start test c.lanes-lanes.result.now c.args.out.now

pub loop-l-preserved : goal.loop-l-preserved
loop-l-preserved g c = λ test a.
    let xs = listed c.loop-l.out in
    let lane = c.index-lanes-l.result in
    let is : c.passes.result ≡ test (lane_record lane) = a lane c.passes.result (record { shown = _; shows = refl; says = record { met = c.passes.ensures } }) in
    passing_more test c.lanes-lanes.result.now (listed c.args.out.now) xs (listed c.if-passes.out) c.loop-l.l lane (omega arith) c.index-lanes-l.is (c.loop-l.invariant test a)
    (elim c.if-passes.branch [
      | then-passes w ↦ ap listed w.out-is ∙ added_if (test (lane_record lane)) xs (listed w.push.new.self) (c.loop-l.l ∷ []) [] (sym is ∙ w.if-passes.true)
          (push_front 80 xs (listed w.push.new.self) w.push.result c.loop-l.l (listed_within c.loop-l.out) w.push.ensures)
      | else-passes w ↦ ap listed w.out-is ∙ added_else (test (lane_record lane)) xs xs (c.loop-l.l ∷ []) [] (sym is ∙ w.if-passes.false) (same c.loop-l.out)
    ])

pub returns : goal.returns
returns g c = λ test a. c.loop-l.invariant test a ∙ ap (λ l. take 80 (listed c.args.out.now ++ l)) (passing_all test c.lanes-lanes.result.now _ c.loop-l.l c.lanes-lanes.ensures.value (omega arith))
