use Rattle.std.proofs.Common.{sym, ap, ◌∙◌}
use Rattle.sheets.specs.Model.{SheetsModel}
use Rattle.sheets.specs.Tables.{staff_sheet}
use Rattle.sheets.specs.Written.{writing}
use Rattle.book.proofs.Rewriting.{sheets_kept}
use Rattle.book.proofs.book.Book.write_staff.Goals as goal

pub returns : goal.returns
returns c = c.write_staff.ensures ∙ sym (ap (λ (m : SheetsModel). writing (staff_sheet m) c.args.buf.now) (sheets_kept c.args.self.now))
