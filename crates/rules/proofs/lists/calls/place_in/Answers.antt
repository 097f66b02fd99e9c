use Rattle.std.proofs.Common.{◌≡◌, ◌≢◌, sym, ◌∙◌, rules, tests}
use Rattle.std.proofs.lemmas.Iterator.{YieldsList-from_slice, IsFirst-from_position}
use Rattle.rules.proofs.Places.{place_found}
use Rattle.rules.proofs.lists.calls.place_in.Goals as goal

pub returns : goal.returns
returns c =
    let t = c.args.teacher in
    c.unwrap_or.ensures ∙ sym (place_found t c.args.list.now c.position.result (IsFirst-from_position _ _ _ (λ n. n ≡ t) (λ n. n ≢ t) c.position.ensures.ran (YieldsList-from_slice c.args.list.now (cc)) (λ x q k. search (rules, tests)) (λ x q k. search (rules, tests))))
