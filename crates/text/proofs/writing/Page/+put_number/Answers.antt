use Rattle.std.proofs.Common.{◌≡◌, ◌+◌, ◌%◌, [], ◌∷◌, sym, ap, ◌∙◌, arith}
use Rattle.std.proofs.lemmas.Fmt.{decimal_digit, decimal_step}
use Rattle.text.proofs.PageLaws.{then, gains_same}
use Rattle.text.proofs.writing.Page.+put_number.Goals as goal
use Rattle.text.proofs.writing.Page.+put_number.Goals.{then-n-ge10, else-n-ge10}

pub returns : goal.returns
returns t c =
    elim c.if-n-ge10.branch [
      | then-n-ge10 w ↦ gains_same (sym (decimal_step c.args.n (omega arith) (omega arith))) (then (omega arith) w.put_number.ensures (rw w.self-is at c.put.ensures))
      | else-n-ge10 w ↦ let same : c.args.n % 10 ≡ c.args.n = omega arith in gains_same (ap (λ d. (48 + d) ∷ []) same ∙ sym (decimal_digit c.args.n (omega arith))) (rw w.self-is at c.put.ensures)
    ]
