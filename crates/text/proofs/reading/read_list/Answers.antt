use Rattle.std.proofs.Common.{sym, ap, ◌∙◌, rules}
use Rattle.bounded.specs.Listed.{listed}
use Rattle.bounded.proofs.Lengths.{listed_within}
use Rattle.bounded.proofs.Pushes.{was_added, was_full}
use Rattle.text.specs.Commas.{capped}
use Rattle.text.proofs.Lists.{turn_bad, turn_last, turn_more, turn_full, within_cap}
use Rattle.text.proofs.reading.read_list.Goals as goal

pub returns-in_err-n : goal.returns-in_err-n
returns-in_err-n g c =
    rw c.from_residual.ensures (ap (capped g.row.N) (turn_bad c.args.value.now (listed c.loop-n.out) c.loop-n.rest.now c.position_of-k.result c.position_of-k.ensures.value c.position_of-k.ensures.within c.loop-n.invariant c.in_err-n.ensures))

pub returns-in_err-ok : goal.returns-in_err-ok
returns-in_err-ok g c =
    rw c.from_residual-in_err-ok.ensures (turn_full c.args.value.now (listed c.loop-n.out) c.loop-n.rest.now c.position_of-k.result c.position_of-k.ensures.value c.position_of-k.ensures.within c.loop-n.invariant g.row.N c.in_ok-n.n c.in_ok-n.ensures (was_full g.row.N (listed c.loop-n.out) (listed c.push.new.self) c.in_ok-n.n c.push.result c.push.ensures (search rules)))

pub returns-then-k-rest : goal.returns-then-k-rest
returns-then-k-rest g c =
    sym (within_cap g.row.N (listed c.push.new.self) (listed_within c.push.new.self))
    ∙ ap (capped g.row.N) (turn_last c.args.value.now (listed c.loop-n.out) c.loop-n.rest.now c.position_of-k.result c.position_of-k.ensures.value c.position_of-k.ensures.within c.loop-n.invariant c.in_ok-n.n c.in_ok-n.ensures (listed c.push.new.self) (was_added g.row.N (listed c.loop-n.out) (listed c.push.new.self) c.in_ok-n.n c.push.result c.push.ensures (search rules)) c.if-k-rest.true)

pub loop-n-preserved : goal.loop-n-preserved
loop-n-preserved g c =
    turn_more c.args.value.now (listed c.loop-n.out) c.loop-n.rest.now c.position_of-k.result c.position_of-k.ensures.value c.position_of-k.ensures.within c.loop-n.invariant c.in_ok-n.n c.in_ok-n.ensures (listed c.push.new.self) (was_added g.row.N (listed c.loop-n.out) (listed c.push.new.self) c.in_ok-n.n c.push.result c.push.ensures (search rules)) c.if-k-rest.false
