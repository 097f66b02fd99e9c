use Rattle.std.proofs.Common.{ℕ, List, ap, ◌∙◌, arith}
use Rattle.sheets.specs.Written.{writing}
use Rattle.book.specs.Held.{book_model}
use Rattle.book.proofs.Results.{cuts_kept, sheet_is}
use Rattle.book.proofs.book.Book.write_result.Goals as goal

pub returns : goal.returns
returns c =
    let b = c.args.self.now in
    c.write_whole.ensures
    ∙ ap (λ (s : List ℕ). writing s c.args.buf.now) (sheet_is (book_model b) c.raises.result c.as_slice.result.now c.as_slice-2.result.now (omega (arith, c.schools.ensures)) c.raises.ensures (c.as_slice.ensures.value ∙ cuts_kept b) (c.as_slice-2.ensures.value ∙ c.seats-seats.ensures))
