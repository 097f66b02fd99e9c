use Rattle.std.proofs.Common.{◌≡◌, ℕ, ◌&&◌, List, [], ◌∷◌, refl, sym, ap, ◌∙◌, rules, tests}
use Rattle.std.specs.List.{list_all}
use Rattle.std.proofs.lemmas.Iterator.{YieldsList-from_slice}
use Rattle.std.proofs.lemmas.Iterator.Search.{all_from_yields_List}
use Rattle.lines.specs.Entries.{within, all_within}
use Rattle.lines.proofs.entries.all_in_range.Goals as goal

all_within_is : (low high : ℕ) (ns : List ℕ) → all_within low high ns ≡ list_all (within low high) ns
all_within_is low high [] = refl
all_within_is low high (n ∷ ns) = ap (λ b. within low high n && b) (all_within_is low high ns)

pub returns : goal.returns
returns c =
    all_from_yields_List (within c.args.low c.args.high) _ _ c.all.result c.all.ensures.ran (YieldsList-from_slice _ c.iter.ensures.rest) (λ x b q k. search (rules, tests))
    ∙ sym (all_within_is c.args.low c.args.high c.args.ns.now)
