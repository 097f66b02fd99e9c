use Rattle.std.proofs.Common.{vec_items}
use Rattle.sheets.specs.Held.{model_of}
use Rattle.book.proofs.Blanks.{unopened_is}
use Rattle.book.proofs.book.Book.reserve.Goals as goal

pub returns : goal.returns
returns c = unopened_is (vec_items c.in_ok-ranks.ranks.table) (vec_items c.in_ok-cutoffs.cutoffs.items) (model_of c.in_ok-sheets.sheets) c.in_ok-sheets.ensures c.in_ok-cutoffs.ensures
