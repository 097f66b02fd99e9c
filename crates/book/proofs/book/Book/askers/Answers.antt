use Rattle.std.proofs.Common.{◌≡◌, ℕ, List, length, get_or, refl, ap, ◌∙◌}
use Rattle.matching.specs.Count.{bit}
use Rattle.book.specs.Held.{book_model}
use Rattle.book.specs.Reach.{reaches}
use Rattle.book.specs.Result.{row}
use Rattle.book.proofs.Reaching.{marks_are}
use Rattle.book.proofs.Trying.{asking_ok}
use Rattle.book.proofs.book.Book.askers.Goals as goal

pub returns : goal.returns
returns c =
    let m = book_model c.args.self.now in
    let bytes : List ℕ = c.args.row.now in
    let rs : List ℕ = c.reaches.result in
    let n : length bytes ≡ length m.0.staff = c.in_ok-check_row.ensures.0 refl ∙ c.teacher_count.ensures.value in
    asking_ok m c.args.l bytes c.write_marks.new.row n
    (c.write_marks.ensures ∙ ap (λ x. row (λ t. bit (reaches x (get_or rs t 0))) (length bytes)) c.cutoff.ensures ∙ marks_are m c.args.l (length bytes) rs c.reaches.ensures.each n)
