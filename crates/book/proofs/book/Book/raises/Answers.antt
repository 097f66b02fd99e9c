use Rattle.std.proofs.Common.{ℕ, ◌-◌, ◌≤◌, length, get_or, vec_items, ap, ◌∙◌, arith, rules}
use Rattle.std.proofs.lemmas.Iterator.{YieldsList-from_slice, YieldsList-from_map}
use Rattle.std.proofs.lemmas.Iterator.Consumers.{YieldsList-at, sum_by_from_yields_List, fits_by_from_yields_list}
use Rattle.std.specs.List.{sum_by}
use Rattle.sheets.specs.Held.{model_of}
use Rattle.book.specs.declared.book.Book.{Book}
use Rattle.book.proofs.Results.{sum_listed, sum_low, few_lanes}
use Rattle.book.proofs.book.Book.raises.Goals as goal

-- 80 cutoffs of at most 202 have few raises
low : (b : Book) → sum_by (λ x. x - 1) (vec_items b.cutoffs.items) ≤ 16080
low b =
    let n = length (model_of b.sheets).posts.lanes in
    let each : (l : ℕ) → get_or (vec_items b.cutoffs.items) l 1 - 1 ≤ 201 = λ l. omega (arith, b.low l) in
    omega (arith, sum_listed (λ x. x - 1) (vec_items b.cutoffs.items) 1 n (omega (arith, b.sized)), sum_low (λ l. get_or (vec_items b.cutoffs.items) l 1 - 1) n 201 each, few_lanes b)

pub sum-requires-clause-fits : goal.sum-requires-clause-fits
sum-requires-clause-fits c =
    let b = c.args.self.now in
    let less : ℕ → ℕ = λ x. x - 1 in
    fits_by_from_yields_list less c.as_slice.result.now c.map.result _
    (YieldsList-from_map _ less (YieldsList-at c.map.ensures.source (YieldsList-from_slice c.as_slice.result.now cc)) c.map.ensures.closure (λ x r q k. search rules))
    (omega (arith, low b, ap (sum_by less) c.as_slice.ensures.value))

pub returns : goal.returns
returns c =
    let b = c.args.self.now in
    let less : ℕ → ℕ = λ x. x - 1 in
    sum_by_from_yields_List less c.as_slice.result.now c.map.result c.sum.result c.sum.ensures.ran
    (YieldsList-from_map _ less (YieldsList-at c.map.ensures.source (YieldsList-from_slice c.as_slice.result.now cc)) c.map.ensures.closure (λ x r q k. search rules))
    ∙ ap (sum_by less) c.as_slice.ensures.value ∙ sum_listed less (vec_items b.cutoffs.items) 1 (length (model_of b.sheets).posts.lanes) (omega (arith, b.sized))
