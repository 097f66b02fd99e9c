use Rattle.std.proofs.Common.{ℕ, leb, ◌∙◌, ap₂, arith}
use Rattle.std.proofs.lemmas.Bool.{le-ltb}
use Rattle.book.specs.Held.{book_model}
use Rattle.book.proofs.Asking.{clears_no, clears_yes}
use Rattle.book.proofs.book.Book.clears.Goals as goal

pub returns-then-rank-gt0 : goal.returns-then-rank-gt0
returns-then-rank-gt0 c =
    ap₂ (λ (x y : ℕ). leb x y) c.cutoff.ensures c.rank-rank.ensures
    ∙ clears_yes (book_model c.args.self.now) c.args.t c.args.l (λ e. omega (arith, c.rank-rank.ensures, e))

pub returns-else-rank-gt0 : goal.returns-else-rank-gt0
returns-else-rank-gt0 c =
    le-ltb 0 c.rank-rank.result (omega arith) ∙ clears_no (book_model c.args.self.now) c.args.t c.args.l (omega (arith, c.rank-rank.ensures))
