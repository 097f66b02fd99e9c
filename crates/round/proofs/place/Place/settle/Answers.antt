use Rattle.std.proofs.Common.{◌≡◌, ◌-◌, is_some, false, Some, None, sym, ap, ◌∙◌, arith}
use Rattle.std.proofs.lemmas.Grind.{common_steps}
use Rattle.book.specs.Held.{book_model}
use Rattle.round.specs.Calls.{next_in}
use Rattle.round.proofs.Over.{raised_is, next_over}
use Rattle.round.proofs.Answering.{goes_on, settle_more, settle_stop_at, settle_end, settle_done}
use Rattle.round.proofs.place.Place.settle.Goals as goal

pub loop-i-preserved : goal.loop-i-preserved
loop-i-preserved g c =
    let p = c.args.self.now in
    let q = c.loop-i.self in
    let family = g.L.Limit.family p.limit in
    let m = book_model q.book in
    let next : next_in family m ≡ Some c.in-Some.l = ap (λ x. next_in (g.L.Limit.family x) m) (sym c.loop-i.invariant.2) ∙ sym c.in-Some.ensures in (
      settle_more family (book_model p.book) m (book_model c.raise.new.self) c.args.budget c.loop-i.i c.in-Some.l (omega arith) c.loop-i.invariant.0 next
          (c.raise.ensures ∙ raised_is q.book family (g.met.L.Limit.empty p.limit) c.in-Some.l (next_over family m c.in-Some.l next)),
      c.loop-i.invariant.1,
      c.loop-i.invariant.2,
    )

pub returns-in-None : goal.returns-in-None
returns-in-None g c =
    let p = c.args.self.now in
    let family = g.L.Limit.family p.limit in
    let m = book_model c.loop-i.self.book in
    let next : next_in family m ≡ None = ap (λ x. next_in (g.L.Limit.family x) m) (sym c.loop-i.invariant.2) ∙ sym c.in-None.ensures in
    let out = c.loop-i.invariant.0 ∙ settle_stop_at family m c.loop-i.i (c.args.budget - c.loop-i.i) next in
    let done = settle_done family (book_model p.book) m c.args.budget c.loop-i.i false (goes_on (book_model p.book) c.in_ok-must_be_open.field-0 c.in_ok-must_be_open.ensures) out (sym (ap is_some next)) in
    grind (arith, common_steps)

pub returns : goal.returns
returns g c =
    let p = c.args.self.now in
    let family = g.L.Limit.family p.limit in
    let m = book_model c.loop-i.self.book in
    let over = c.is_some-over.ensures ∙ ap is_some c.first_over-2.ensures ∙ ap (λ x. is_some (next_in (g.L.Limit.family x) m)) c.loop-i.invariant.2 in
    let out = c.loop-i.invariant.0 ∙ settle_end family m c.loop-i.i c.args.budget (omega arith) in
    let done = settle_done family (book_model p.book) m c.args.budget c.args.budget c.is_some-over.result (goes_on (book_model p.book) c.in_ok-must_be_open.field-0 c.in_ok-must_be_open.ensures) out over in
    grind (arith, common_steps)
