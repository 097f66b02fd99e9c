use Rattle.std.proofs.Common.{ℕ, List, ap, ◌∙◌, arith}
use Rattle.std.proofs.lemmas.List.Elements.{same_from_all_zip}
use Rattle.book.specs.Model.{entry_in}
use Rattle.book.proofs.Blanks.{blank_rows}
use Rattle.book.proofs.ranks.Ranks.reserve.Goals as goal

pub invariant_of-result : goal.invariant_of-result
invariant_of-result c =
    let e = c.in_ok-table.ensures.items_if_clones_equal (λ y h. same_from_all_zip _ _ _ h.whole (λ a b q. q)) in
    record {
      full = c.in_ok-table.ensures.len;
      small = λ l t. omega (arith, ap (λ (table : List (List ℕ)). entry_in table l t) e, blank_rows 80 200 l t);
    }

pub returns : goal.returns
returns c l t =
    let e = c.in_ok-table.ensures.items_if_clones_equal (λ y h. same_from_all_zip _ _ _ h.whole (λ a b q. q)) in
    ap (λ (table : List (List ℕ)). entry_in table l t) e ∙ blank_rows 80 200 l t
