use Rattle.std.proofs.Common.{List, map, sym, ap, ◌∙◌, take, arith, ℕ}
use Rattle.std.proofs.lemmas.List.{take_all}
use Rattle.market.specs.Tables.{person, pick_of}
use Rattle.sheets.specs.declared.records.Teacher.{Teacher}
use Rattle.sheets.specs.Held.{model_of}
use Rattle.sheets.specs.Model.{TeacherRecord, teacher_record}
use Rattle.book.proofs.Changes.{picks_whole, map_record}
use Rattle.book.proofs.book.change.fill_picks.Goals as goal

pub returns : goal.returns
returns c =
    let m = model_of c.args.sheets.now in
    let ts = c.teachers-record-items.result.now in
    let f : TeacherRecord → List ℕ = λ t. take 80 (pick_of m.posts (person t) t.wish) in
    c.loop-record.invariant.0 ∙ ap (map (λ (x : Teacher). f (teacher_record x))) (take_all c.loop-record.record-index ts (omega arith)) ∙ sym (map_record f ts) ∙ ap (map f) c.teachers-record-items.ensures.value ∙ picks_whole m c.args.sheets.now.kept
