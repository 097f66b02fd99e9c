use Rattle.std.proofs.Common.{◌≡◌, ℕ, ◌*◌, ◌<◌, ◌≤◌}
use Rattle.rules.proofs.Marks.{counted}
use Rattle.rules.proofs.rows.tally.Given as goal

abbrev pub invariant-loop-i : goal.invariant-loop-i
invariant-loop-i g l = record {
  counts : (w : ℕ → ℕ) → ((i r : ℕ) → i < 200 → goal.F-post g l.worth i r → r ≡ w i) → l.sum ≡ counted w l.row l.i;
  small : l.sum ≤ 65535 * l.i;
}
