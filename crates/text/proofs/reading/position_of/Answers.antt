use Rattle.std.proofs.Common.{◌≡◌, ℕ, ◌≤◌, ltb, eqb, cond, length, Some, None, Option, rules, tests, arith, ◌∙◌}
use Rattle.std.specs.Option.{unwrap_or}
use Rattle.std.proofs.lemmas.Iterator.{YieldsList-from_slice}
use Rattle.std.proofs.lemmas.Iterator.Search.{position_from_yields_List}
use Rattle.std.proofs.lemmas.List.Sums.{prefix_len-le-length}
use Rattle.text.specs.Number.{before}
use Rattle.text.proofs.reading.position_of.Goals as goal

found_or_all : (n all : ℕ) (r : Option ℕ) → n ≤ all → r ≡ cond (ltb n all) (Some n) None → unwrap_or r all ≡ n
found_or_all n all r l e = grind arith

pub returns-clause-value : goal.returns-clause-value
returns-clause-value c =
    c.unwrap_or.ensures
    ∙ found_or_all (before c.args.b c.args.bytes.now) (length c.args.bytes.now) c.position.result (prefix_len-le-length _ c.args.bytes.now)
    (position_from_yields_List (λ n. eqb n c.args.b) _ _ c.position.result c.position.ensures.ran (YieldsList-from_slice _ c.iter.ensures.rest) (λ x b q k. search (rules, tests)))
