use Rattle.std.proofs.Common.{vec_items}
use Rattle.market.specs.Tables.{tables_of}
use Rattle.sheets.specs.Held.{model_of}
use Rattle.book.proofs.RankTable.{RanksTo}
use Rattle.book.proofs.ranks.fill.rank_all.Given as goal

abbrev pub invariant-loop-l : goal.invariant-loop-l
invariant-loop-l g l = RanksTo (g.S.Standing.ahead l.standing) (tables_of (model_of l.sheets)) l.l (vec_items l.ranks.table)
