use Rattle.std.proofs.Common.{flat_map, ap, arith}
use Rattle.std.proofs.lemmas.List.{take_all}
use Rattle.text.proofs.PageLaws.{nothing, then, gains_same, each_more}
use Rattle.text.proofs.writing.Page.put_each.Goals as goal

pub loop-x-init : goal.loop-x-init
loop-x-init g c = nothing c.args.self.now (omega arith)

pub loop-x-preserved : goal.loop-x-preserved
loop-x-preserved g c = gains_same (each_more g.T.Text.bytes c.args.all.now c.loop-x.x-index c.x-item.result (omega arith) c.x-item.is) (then (omega arith) c.loop-x.invariant c.put_on.ensures)

pub returns : goal.returns
returns g c = gains_same (ap (flat_map g.T.Text.bytes) (take_all c.loop-x.x-index c.args.all.now (omega arith))) c.loop-x.invariant
