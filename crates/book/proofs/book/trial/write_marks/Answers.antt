use Rattle.std.proofs.Common.{◌≡◌, length, get_or, sym, ap, ◌∙◌, arith}
use Rattle.std.proofs.lemmas.List.{take_all}
use Rattle.matching.specs.Count.{bit}
use Rattle.book.specs.Reach.{reaches}
use Rattle.book.specs.Result.{row}
use Rattle.book.proofs.Reaching.{mark_more}
use Rattle.book.proofs.Results.{row_none}
use Rattle.book.proofs.book.trial.write_marks.Goals as goal

pub loop-t-init : goal.loop-t-init
loop-t-init c = row_none (λ t. bit (reaches c.args.cutoff (get_or c.args.reaches.now t 0)))

pub loop-t-preserved : goal.loop-t-preserved
loop-t-preserved c =
    mark_more (λ t. bit (reaches c.args.cutoff (get_or c.args.reaches.now t 0))) c.loop-t.row c.loop-t.t c.mark_at.result (omega arith) c.mark_at.ensures c.loop-t.invariant

pub returns : goal.returns
returns c =
    let e : c.loop-t.t ≡ length c.args.row.now = omega arith in
    sym (take_all c.loop-t.t c.loop-t.row (omega arith)) ∙ c.loop-t.invariant
    ∙ ap (row (λ t. bit (reaches c.args.cutoff (get_or c.args.reaches.now t 0)))) e
