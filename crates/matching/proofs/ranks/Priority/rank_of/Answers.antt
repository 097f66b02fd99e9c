use Rattle.std.proofs.Common.{ℕ, ◌&&◌, sym, rules, arith}
use Rattle.std.proofs.lemmas.Iterator.{YieldsList-from_range}
use Rattle.std.proofs.lemmas.Iterator.Consumers.{YieldsList-from_filter, count_from_yields_List}
use Rattle.std.proofs.lemmas.List.Sums.{length-filter}
use Rattle.std.specs.List.{range_with_len}
use Rattle.matching.specs.Groups.{told}
use Rattle.matching.specs.Ranking.{people, stands_before}
use Rattle.matching.proofs.Ranking.{rank_not, rank_told, count_range}
use Rattle.matching.proofs.ranks.Priority.rank_of.Goals as goal

pub returns-then-not-is_licensed : goal.returns-then-not-is_licensed
returns-then-not-is_licensed g c = sym (rank_not (g.S.Standing.ahead c.args.self.now.standing.now) c.args.self.now.lane c.args.self.now.bands.now c.args.t (search rules))

pub returns : goal.returns
returns g c =
    let p = λ (u : ℕ). told c.args.self.now.bands.now u && stands_before (g.S.Standing.ahead c.args.self.now.standing.now) c.args.self.now.lane c.args.self.now.bands.now c.args.t u in
    let n = people c.args.self.now.bands.now in
    let e = count_from_yields_List c.filter.result _ c.count-behind.ensures.ran
    (YieldsList-from_filter _ p (YieldsList-from_range 0 n n (cc) (omega arith)) c.filter.ensures.closure (λ x b q k. search rules)) in
    omega (
      arith,
      e,
      length-filter p (range_with_len 0 n),
      count_range p n,
      rank_told (g.S.Standing.ahead c.args.self.now.standing.now) c.args.self.now.lane c.args.self.now.bands.now c.args.t (search rules),
    )
