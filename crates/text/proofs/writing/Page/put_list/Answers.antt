use Rattle.std.proofs.Common.{ap, arith}
use Rattle.std.proofs.lemmas.List.{take_all}
use Rattle.text.specs.Commas.{commas}
use Rattle.text.proofs.PutLaws.{commas_first, commas_next}
use Rattle.text.proofs.PageLaws.{nothing, then, gains_same}
use Rattle.text.proofs.writing.Page.put_list.Goals as goal
use Rattle.text.proofs.writing.Page.put_list.Goals.{then-i-gt0, else-i-gt0}

pub loop-i-init : goal.loop-i-init
loop-i-init c = nothing c.args.self.now (omega arith)

pub loop-i-preserved : goal.loop-i-preserved
loop-i-preserved c =
    elim c.if-i-gt0.branch [
      | then-i-gt0 w ↦ gains_same (commas_next c.args.ns.now c.loop-i.i (omega arith) (omega arith)) (then (omega arith) c.loop-i.invariant (then (omega arith) w.put.ensures (rw w.self-is at c.put_number.ensures)))
      | else-i-gt0 w ↦ gains_same (commas_first c.args.ns.now c.loop-i.i (omega arith) (omega arith)) (then (omega arith) c.loop-i.invariant (rw w.self-is at c.put_number.ensures))
    ]

pub returns : goal.returns
returns c = gains_same (ap commas (take_all c.loop-i.i c.args.ns.now (omega arith))) c.loop-i.invariant
