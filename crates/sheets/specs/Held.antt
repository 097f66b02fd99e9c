-- What the sheets hold. Assumes nothing.
use Rattle.std.specs.Prelude.{vec_items}
use Rattle.sheets.specs.declared.sheets.Sheets.{Sheets}
use Rattle.sheets.specs.Model.{SheetsModel}
use Rattle.sheets.specs.Tables.{tables_model}

abbrev pub model_of : Sheets → SheetsModel
model_of s = tables_model s.schools s.subjects (vec_items s.lanes.items) (vec_items s.teachers.items)
