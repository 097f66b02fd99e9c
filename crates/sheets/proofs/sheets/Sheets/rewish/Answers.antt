use Rattle.std.proofs.Common.{◌≡◌, ◌<◌, true, List, length, map, set, vec_items, Ok, sym, ap, ◌∙◌, arith, rules}
use Rattle.std.proofs.lemmas.List.{length-map}
use Rattle.sheets.specs.declared.records.Teacher.{Teacher}
use Rattle.sheets.specs.Held.{model_of}
use Rattle.sheets.specs.Model.{TeacherRecord, teacher_record}
use Rattle.sheets.specs.Ranges.{wish_ok}
use Rattle.sheets.specs.Tables.{kept}
use Rattle.sheets.proofs.WishLaws.{then_kept, rewished_yes, table_then, wish_few}
use Rattle.sheets.proofs.sheets.Sheets.rewish.Goals as goal

pub invariant_of-self : goal.invariant_of-self
invariant_of-self c =
    let ts = vec_items c.args.self.now.teachers.items in
    let t = c.args.teacher in
    let w = c.args.wishes.now in
    let ok : wish_ok c.args.self.now.schools w ≡ true = sym c.if-not-wishes_ok.ensures in
    let l : t < length ts = omega arith in
    let m = model_of c.args.self.now in
    let in' : t < length m.teachers = omega (arith, length-map ts teacher_record) in
    let x = c.change.ensures.0 in
    let left : ◌≡◌ {A = Teacher} c.change.ensures.1 (record { home = x.home; main = x.main; also = x.also; wish = c.copied-list.result; points = x.points; cost = x.cost }) = search rules in
    let then' = ap (map teacher_record) (c.change.ensures.4 ∙ ap (set ts t) left) ∙ table_then ts t x l (sym c.change.ensures.2) w c.copied-list.result c.copied-list.ensures (wish_few c.args.self.now.schools w ok) in
    record { kept = ap (λ (xs : List TeacherRecord). kept (record { posts = m.posts; teachers = xs })) then' ∙ then_kept m t w in' ok c.args.self.now.kept }

pub returns : goal.returns
returns c =
    let ts = vec_items c.args.self.now.teachers.items in
    let t = c.args.teacher in
    let w = c.args.wishes.now in
    let ok : wish_ok c.args.self.now.schools w ≡ true = sym c.if-not-wishes_ok.ensures in
    let l : t < length ts = omega arith in
    let m = model_of c.args.self.now in
    let in' : t < length m.teachers = omega (arith, length-map ts teacher_record) in
    let x = c.change.ensures.0 in
    let left : ◌≡◌ {A = Teacher} c.change.ensures.1 (record { home = x.home; main = x.main; also = x.also; wish = c.copied-list.result; points = x.points; cost = x.cost }) = search rules in
    let then' = ap (map teacher_record) (c.change.ensures.4 ∙ ap (set ts t) left) ∙ table_then ts t x l (sym c.change.ensures.2) w c.copied-list.result c.copied-list.ensures (wish_few c.args.self.now.schools w ok) in
    ap (λ (xs : List TeacherRecord). (Ok tt, record { posts = m.posts; teachers = xs })) then' ∙ sym (rewished_yes m t w in' ok)
