use Rattle.std.proofs.Common.{◌≡◌, ℕ, length, replicate, None, Option, sym, ◌∙◌, arith}
use Rattle.std.proofs.lemmas.List.{length-map, length-take-le}
use Rattle.sheets.specs.Held.{model_of}
use Rattle.book.specs.Held.{book_model, fixed_of, state_of}
use Rattle.book.specs.Model.{offer_in, unwished}
use Rattle.book.proofs.Asking.{no_offer}
use Rattle.book.proofs.Filled.{fronted}
use Rattle.book.proofs.book.Book.offers.Goals as goal

pub returns-clause-each : goal.returns-clause-each
returns-clause-each c =
    let b = c.args.self.now in
    let n = c.teacher_count.result in
    let long : length c.loop-t.offer-items ≡ n = c.loop-t.auto.offer-items ∙ length-take-le n (replicate {A = Option ℕ} 200 None) (omega (arith, c.teacher_count.ensures.few)) in
    fronted (offer_in (book_model b)) None c.loop-t.offer-items n 200 long (λ k h. c.loop-t.invariant k (omega (arith, long, h, c.loop-t-test.false)))
    (λ t h. sym (no_offer (model_of b.sheets) (fixed_of b).ranks (state_of b).cuts b.posted t (omega (arith, h, c.teacher_count.ensures.value, length-map (model_of b.sheets).teachers unwished))))
