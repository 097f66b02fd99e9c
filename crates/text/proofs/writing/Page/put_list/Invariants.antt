use Rattle.std.proofs.Common.{take}
use Rattle.text.specs.Commas.{commas}
use Rattle.text.specs.Pages.{Gains}
use Rattle.text.proofs.writing.Page.put_list.Given as goal

abbrev pub invariant-loop-i : goal.invariant-loop-i
invariant-loop-i l = Gains l.initial.self (commas (take l.i l.ns)) l.self
