use Rattle.std.proofs.Common.{◌<◌, List, map, length, sym, ap, ◌∙◌, arith}
use Rattle.bounded.specs.Listed.{listed}
use Rattle.bounded.specs.declared.list.BoundedList.{BoundedList}
use Rattle.sheets.specs.Held.{model_of}
use Rattle.book.specs.Held.{fixed_of, state_of}
use Rattle.book.proofs.Asking.{list_stored, no_list}
use Rattle.book.proofs.Results.{picks_len}
use Rattle.book.proofs.book.Book.pick_list.Goals as goal

pub returns-in-Some : goal.returns-in-Some
returns-in-Some c =
    let b = c.args.self.now in
    let h = c.in-Some.ensures.lookup in
    let inside : c.args.t < length (model_of b.sheets).teachers = omega (arith, picks_len b, ap length c.as_slice.ensures.value, h.3.0) in
    c.as_slice-in-Some.ensures.value ∙ list_stored (model_of b.sheets) (fixed_of b).ranks (state_of b).cuts b.posted c.args.t c.as_slice.result.now (ap (λ (xs : List (BoundedList 80)). map listed xs) c.as_slice.ensures.value ∙ b.picked) c.in-Some.list.now inside h.1

pub returns-in-None : goal.returns-in-None
returns-in-None c =
    let b = c.args.self.now in
    sym (no_list (model_of b.sheets) (fixed_of b).ranks (state_of b).cuts b.posted c.args.t (omega (arith, picks_len b, ap length c.as_slice.ensures.value, c.in-None.ensures.lookup.3)))
