use Rattle.std.proofs.Common.{true, false, sym, ◌∙◌, arith}
use Rattle.lines.proofs.Steps.{distinct_step, distinct_all}
use Rattle.lines.proofs.entries.distinct.Goals as goal

pub returns-then-holds : goal.returns-then-holds
returns-then-holds c = sym (distinct_step c.args.ns.now c.loop-i.i (omega arith) true c.if-holds.ensures) ∙ c.loop-i.invariant

pub loop-i-preserved : goal.loop-i-preserved
loop-i-preserved c = sym (distinct_step c.args.ns.now c.loop-i.i (omega arith) false c.if-holds.ensures) ∙ c.loop-i.invariant

pub returns : goal.returns
returns c = sym (distinct_all c.args.ns.now c.loop-i.i (omega arith)) ∙ c.loop-i.invariant
