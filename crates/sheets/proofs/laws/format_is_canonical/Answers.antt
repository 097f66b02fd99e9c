use Rattle.sheets.proofs.Canonical.{canonical}
use Rattle.sheets.proofs.laws.format_is_canonical.Goals as goal

pub returns : goal.returns
returns c = canonical
