use Rattle.std.proofs.Common.{arith}
use Rattle.sheets.specs.Held.{model_of}
use Rattle.sheets.proofs.KeptLaws.{no_staff_sheet, some_staff_sheet}
use Rattle.sheets.proofs.sheets.Sheets.write_staff.Goals as goal

pub returns-then-self-eq0 : goal.returns-then-self-eq0
returns-then-self-eq0 c = no_staff_sheet (model_of c.args.self.now) c.args.self.now.kept (omega arith) c.args.buf.now

pub returns : goal.returns
returns c = some_staff_sheet (model_of c.args.self.now) (omega arith) c.args.buf.now _ _ c.write_whole.ensures
