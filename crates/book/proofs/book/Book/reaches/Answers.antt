use Rattle.std.proofs.Common.{◌≡◌, ℕ, length, replicate, ◌∙◌, arith}
use Rattle.std.proofs.lemmas.List.{length-map, length-take-le}
use Rattle.sheets.specs.Held.{model_of}
use Rattle.book.specs.Held.{book_model}
use Rattle.book.specs.Model.{unwished}
use Rattle.book.specs.Reach.{reach_in}
use Rattle.book.proofs.Filled.{fronted}
use Rattle.book.proofs.Reaching.{reach_past}
use Rattle.book.proofs.book.Book.reaches.Goals as goal

pub returns-clause-each : goal.returns-clause-each
returns-clause-each c =
    let b = c.args.self.now in
    let n = c.teacher_count.result in
    let long : length c.loop-t.reach-items ≡ n = c.loop-t.auto.reach-items ∙ length-take-le n (replicate {A = ℕ} 200 0) (omega (arith, c.teacher_count.ensures.few)) in
    fronted (reach_in (book_model b) c.args.l) 0 c.loop-t.reach-items n 200 long (λ k h. c.loop-t.invariant k (omega (arith, long, h, c.loop-t-test.false)))
    (λ t h. reach_past b c.args.l t (omega (arith, h, c.teacher_count.ensures.value, length-map (model_of b.sheets).teachers unwished)))
