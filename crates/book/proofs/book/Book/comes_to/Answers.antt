use Rattle.std.proofs.Common.{ℕ, List, Option, sym, ap, ◌∙◌, arith}
use Rattle.matching.specs.Picks.{first, holds}
use Rattle.book.specs.Held.{book_model}
use Rattle.book.specs.Reach.{stops_at}
use Rattle.book.proofs.Asking.{first_hit, first_miss, first_none}
use Rattle.book.proofs.book.Book.comes_to.Goals as goal

pub loop-k-preserved : goal.loop-k-preserved
loop-k-preserved c = c.loop-k.invariant ∙ first_miss (stops_at (book_model c.args.self.now) c.args.l c.args.t) c.pick_list-list.result.now c.loop-k.k-index (omega arith) (sym c.if-stops_at.ensures)

pub returns-then-stops_at : goal.returns-then-stops_at
returns-then-stops_at c =
    let q = stops_at (book_model c.args.self.now) c.args.l c.args.t in
    ap (λ (o : Option ℕ). holds o c.args.l) (sym (first_hit q c.pick_list-list.result.now c.loop-k.k-index (omega arith) (sym c.if-stops_at.ensures)) ∙ sym c.loop-k.invariant)
    ∙ ap (λ (ys : List ℕ). holds (first q ys) c.args.l) c.pick_list-list.ensures

pub returns : goal.returns
returns c =
    let q = stops_at (book_model c.args.self.now) c.args.l c.args.t in
    ap (λ (o : Option ℕ). holds o c.args.l) (sym (first_none q c.pick_list-list.result.now c.loop-k.k-index (omega arith)) ∙ sym c.loop-k.invariant)
    ∙ ap (λ (ys : List ℕ). holds (first q ys) c.args.l) c.pick_list-list.ensures
