use Rattle.std.proofs.Common.{◌≡◌, ◌<◌, get_or, take, ◌∙◌, arith}
use Rattle.std.proofs.lemmas.List.{get_or-take, length-take}
use Rattle.rules.proofs.Marks.{counted, counted_start, counted_in, counted_out, counted_all}
use Rattle.rules.proofs.rows.tally.Goals as goal
use Rattle.rules.proofs.rows.tally.Goals.{then-mark-ne0, else-mark-ne0}

pub loop-i-init : goal.loop-i-init
loop-i-init g c = record { counts = λ w h. counted_start w c.args.row.now; small = omega arith }

pub loop-i-preserved : goal.loop-i-preserved
loop-i-preserved g c =
    let row = c.args.row.now in
    let i = c.loop-i.i in
    let inside : i < c.min.result = omega (arith, length-take c.min.result row) in
    let at : get_or (take c.min.result row) i 0 ≡ get_or row i 0 = get_or-take c.min.result row i 0 inside in
    elim c.if-mark-ne0.branch [
      | then-mark-ne0 x ↦ record {
        counts = λ w h.
            let before : c.loop-i.sum ≡ counted w row i = c.loop-i.invariant.counts w h in
            let each : x.worth.result ≡ w i = h i x.worth.result (omega arith) x.worth.ensures in
            omega (arith, x.sum-is, x.from-sum.ensures, before, each, counted_in w row i (omega arith) (omega (arith, at)));
        small = omega (arith, x.sum-is, x.from-sum.ensures);
      }
      | else-mark-ne0 x ↦ record {
        counts = λ w h.
            let before : c.loop-i.sum ≡ counted w row i = c.loop-i.invariant.counts w h in
            omega (arith, x.sum-is, before, counted_out w row i (omega (arith, at)));
        small = omega (arith, x.sum-is);
      }
    ]

pub returns : goal.returns
returns g c = λ w h. c.loop-i.invariant.counts w h ∙ counted_all w c.args.row.now c.loop-i.i (omega (arith, length-take c.min.result c.args.row.now))
