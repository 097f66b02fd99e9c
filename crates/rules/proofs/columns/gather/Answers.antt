use Rattle.std.proofs.Common.{map, take, refl, ap, ◌∙◌}
use Rattle.std.proofs.lemmas.Fn.{says_at}
use Rattle.std.proofs.lemmas.List.{take_all}
use Rattle.bounded.specs.Listed.{listed}
use Rattle.bounded.proofs.Fronts.{push_front}
use Rattle.bounded.proofs.Lengths.{listed_within}
use Rattle.rules.proofs.Gathers.{gather_push}
use Rattle.rules.proofs.columns.gather.Goals as goal

pub loop-x-preserved : goal.loop-x-preserved
loop-x-preserved g c = λ f h.
    let said = h c.x-item.result c.number.result (says_at g.F.Fn c.number.ensures refl) in
    let put = push_front g.row.N (listed c.loop-x.out) (listed c.push.new.self) c.push.result c.number.result (listed_within c.loop-x.out) c.push.ensures in
    gather_push g.row.N f c.args.items.now c.loop-x.x-index c.x-item.result c.number.result (listed c.loop-x.out) (listed c.push.new.self) c.loop-x-test.true c.x-item.is said (c.loop-x.invariant f h) put

pub returns : goal.returns
returns g c = λ f h. c.loop-x.invariant f h ∙ ap (λ xs. take g.row.N (map f xs)) (take_all c.loop-x.x-index c.args.items.now c.loop-x-test.false)
