use Rattle.std.proofs.Common.{◌≡◌, ◌+◌, ◌-◌, [], ◌++◌, take, sym, ap, ◌∙◌, arith}
use Rattle.bounded.specs.Listed.{listed}
use Rattle.lines.specs.Entries.{has}
use Rattle.market.specs.Choosing.{gives}
use Rattle.market.specs.Lists.{gather}
use Rattle.market.specs.Tables.{unnamed}
use Rattle.market.proofs.Appending.{same, added_if, added_else, unwished_start, unwished_more}
use Rattle.market.proofs.picks.Chooser.add_unnamed.Goals.{Joined-not-holds, then-not-holds, else-not-holds}
use Rattle.market.proofs.picks.Chooser.add_unnamed.Goals as goal

-- one school more
more : (c : Joined-not-holds)
    → listed c.if-not-holds.out ≡ take 80 (listed c.args.out.now ++ gather (gives c.args.self.now) (unnamed c.loop-school.school c.args.self.now.wishes.now))
more c =
    let f = gives c.args.self.now in
    let w = c.args.self.now.wishes.now in
    let s = c.loop-school.school in
    let xs = listed c.loop-school.out in
    unwished_more f w (listed c.args.out.now) xs (listed c.if-not-holds.out) (s - 1) s (omega arith) c.loop-school.invariant.0
    (elim c.if-not-holds.branch [
      | then-not-holds t ↦ ap listed t.out-is ∙ added_else (has s w) xs (listed t.add_school.new.out) [] (f s) (sym c.holds.ensures ∙ t.if-not-holds.true) t.add_school.ensures
      | else-not-holds t ↦ ap listed t.out-is ∙ added_if (has s w) xs xs [] (f s) (sym c.holds.ensures ∙ t.if-not-holds.false) (same c.loop-school.out)
    ])

pub loop-school-init : goal.loop-school-init
loop-school-init c = (unwished_start (gives c.args.self.now) c.args.self.now.wishes.now c.args.out.now, omega arith)

pub loop-school-preserved : goal.loop-school-preserved
loop-school-preserved c =
    let k : c.loop-school.school ≡ c.loop-school.school + 1 - 1 = omega arith in
    let d = (goal.at.loop-school-preserved c).Joined-not-holds in
    (more d ∙ ap (λ n. take 80 (listed c.args.out.now ++ gather (gives c.args.self.now) (unnamed n c.args.self.now.wishes.now))) k, omega arith)

pub returns : goal.returns
returns c =
    let k : c.loop-school.school - 1 ≡ c.schools-school-end.result = omega arith in
    c.loop-school.invariant.0 ∙ ap (λ n. take 80 (listed c.args.out.now ++ gather (gives c.args.self.now) (unnamed n c.args.self.now.wishes.now))) (k ∙ c.schools-school-end.ensures)

pub returns-after-not-holds : goal.returns-after-not-holds
returns-after-not-holds c =
    let d = (goal.at.returns-after-not-holds c).Joined-not-holds in
    let k : c.loop-school.school ≡ c.schools-school-end.result = omega arith in
    more d ∙ ap (λ n. take 80 (listed c.args.out.now ++ gather (gives c.args.self.now) (unnamed n c.args.self.now.wishes.now))) (k ∙ c.schools-school-end.ensures)
