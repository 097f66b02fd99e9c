use Rattle.std.proofs.Common.{refl, sym}
use Rattle.bounded.proofs.table.Table.change.Goals as goal

pub returns : goal.returns
returns g c = (c.index_mut.result.now, c.change.new.arg2, sym c.index_mut.ensures.value, record { shown = c.index_mut.result; shows = refl; left = _; met = c.change.ensures; leaves = refl }, refl)
