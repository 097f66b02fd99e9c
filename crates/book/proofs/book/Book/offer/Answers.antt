use Rattle.std.proofs.Common.{sym, ap, ◌∙◌, rules, tests}
use Rattle.std.proofs.lemmas.Iterator.{YieldsList-from_slice}
use Rattle.std.proofs.lemmas.Iterator.Adapters.{option_map_id}
use Rattle.std.proofs.lemmas.Iterator.Consumers.{YieldsList-from_copied}
use Rattle.std.proofs.lemmas.Iterator.Search.{find_from_yields_List}
use Rattle.matching.specs.Market.{offer}
use Rattle.matching.specs.Picks.{first}
use Rattle.book.specs.Held.{book_model}
use Rattle.book.specs.Model.{clears_in}
use Rattle.book.proofs.Filled.{find_first}
use Rattle.book.proofs.book.Book.offer.Goals as goal

pub returns : goal.returns
unfolding offer
returns c =
    let test = clears_in (book_model c.args.self.now) c.args.t in
    sym (option_map_id c.find.result)
    ∙ find_from_yields_List test _ _ c.find.result c.find.ensures.ran (YieldsList-from_copied (YieldsList-from_slice c.pick_list.result.now cc)) (λ x y q k. search (rules, tests))
    ∙ find_first test c.pick_list.result.now ∙ ap (first test) c.pick_list.ensures
