use Rattle.std.proofs.Common.{map, ap, ◌∙◌}
use Rattle.sheets.specs.Model.{teacher_record}
use Rattle.rules.proofs.Gathers.{all_gathered}
use Rattle.rules.proofs.columns.column_of.Goals as goal

pub returns : goal.returns
returns g c = λ f h. c.gather.ensures (λ t. f (teacher_record t)) h ∙ all_gathered 200 f teacher_record c.teachers.result.now c.teachers.ensures.few ∙ ap (map f) c.teachers.ensures.value
