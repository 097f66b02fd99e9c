use Rattle.std.proofs.Common.{ℕ, Bool, get_or, None, ap, arith, rules}
use Rattle.std.proofs.lemmas.List.{get_or_past}
use Rattle.matching.specs.Count.{bit}
use Rattle.matching.specs.Picks.{holds}
use Rattle.book.proofs.Asking.{row_told}
use Rattle.book.proofs.Filled.{made}
use Rattle.book.proofs.book.ask.asker_row.Goals as goal

pub returns : goal.returns
returns c = λ few.
    let asks : ℕ → Bool = λ t. holds (get_or c.args.offers.now t None) c.args.l in
    row_told c.from_fn.result asks (λ t h. ap (λ o. holds o c.args.l) (get_or_past c.args.offers.now t None (omega (arith, few))))
    (made _ (λ t. bit (asks t)) _ _ _ (λ x r q k. search rules) c.from_fn.ensures.items 0 (λ t h. ap (λ o. bit (holds o c.args.l)) (get_or_past c.args.offers.now t None (omega (arith, few)))))
