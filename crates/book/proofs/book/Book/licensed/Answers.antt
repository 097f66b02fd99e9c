use Rattle.std.proofs.Common.{ℕ, Bool, ltb, refl, ap, ◌∙◌, rules, tests}
use native.Mathlib.Nat.{sub-zero}
use Rattle.std.proofs.lemmas.Iterator.{YieldsList-from_range}
use Rattle.std.proofs.lemmas.Iterator.Consumers.{YieldsList-at, YieldsList-from_filter, count_from_yields_List}
use Rattle.matching.specs.Count.{count}
use Rattle.book.specs.Held.{book_model}
use Rattle.book.proofs.Results.{count_listed}
use Rattle.book.proofs.book.Book.licensed.Goals as goal

pub returns-clause-value : goal.returns-clause-value
returns-clause-value c =
    let n = c.teacher_count.result in
    let licensed : ℕ → Bool = λ t. ltb 0 ((book_model c.args.self.now).0.ranks c.args.l t) in
    count_from_yields_List c.filter.result c.count.result c.count.ensures.ran
    (YieldsList-from_filter _ licensed (YieldsList-at c.filter.ensures.source (YieldsList-from_range 0 n n refl (sub-zero n))) c.filter.ensures.closure (λ x r q k. search (rules, tests)))
    ∙ count_listed licensed n ∙ ap (count licensed) c.teacher_count.ensures.value
