use Rattle.std.proofs.Common.{◌≡◌, ℕ, ◌≤◌, length, vec_items, sym, ap, ◌∙◌, arith}
use Rattle.std.proofs.lemmas.List.{length-map}
use Rattle.matching.specs.Log.{opened}
use Rattle.market.specs.Tables.{person, tables_of, wishes_of}
use Rattle.sheets.specs.Held.{model_of}
use Rattle.sheets.specs.Model.{teacher_record}
use Rattle.book.specs.Model.{fixed_from}
use Rattle.book.proofs.RanksAre.{ranks_are}
use Rattle.book.proofs.book.Book.open.Goals as goal

pub returns-clause-book : goal.returns-clause-book
returns-clause-book g c =
    let m = model_of c.args.desk.now in
    let n : length m.teachers ≡ length (tables_of m).people = sym (length-map m.teachers person) in
    let few : length (tables_of m).people ≤ 200 = omega (arith, n, length-map (vec_items c.args.desk.now.teachers.items) teacher_record, c.args.desk.now.teachers.within) in
    c.take_over.ensures.book ∙ ap (λ (r : ℕ → ℕ → ℕ). (fixed_from m r, opened (wishes_of m))) (ranks_are (g.S.Standing.ahead c.args.standing.now) (tables_of m) (length m.teachers) (vec_items c.rank_all.new.ranks.table) few n c.rank_all.ensures)
