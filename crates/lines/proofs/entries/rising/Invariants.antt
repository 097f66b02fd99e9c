use Rattle.std.proofs.Common.{◌≡◌, drop}
use Rattle.lines.specs.Entries.{above}
use Rattle.lines.proofs.entries.rising.Given as goal

abbrev pub invariant-loop-n : goal.invariant-loop-n
invariant-loop-n l = above l.last (drop l.n-index l.ns) ≡ above 0 l.ns
