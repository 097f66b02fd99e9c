use Rattle.std.proofs.Common.{unwrap_or, sym, ap, ◌∙◌}
use Rattle.rules.proofs.Places.{entry_get}
use Rattle.rules.proofs.rows.entry.Goals as goal

pub returns : goal.returns
returns c = c.unwrap_or.ensures ∙ ap (λ o. unwrap_or o 0) (c.copied.ensures ∙ c.numbered.ensures) ∙ sym (entry_get c.args.ns.now c.args.n 0)
