use Rattle.std.proofs.Common.{take, flat_map}
use Rattle.text.specs.Pages.{Gains}
use Rattle.text.proofs.writing.Page.put_each.Given as goal

abbrev pub invariant-loop-x : goal.invariant-loop-x
invariant-loop-x g l = Gains l.initial.self (flat_map g.T.Text.bytes (take l.x-index l.all)) l.self
