use Rattle.std.proofs.Common.{◌≡◌, drop}
use Rattle.lines.specs.Entries.{distinct}
use Rattle.lines.proofs.entries.distinct.Given as goal

abbrev pub invariant-loop-i : goal.invariant-loop-i
invariant-loop-i l = distinct (drop l.i l.ns) ≡ distinct l.ns
