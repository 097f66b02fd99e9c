-- What an answer of the desk says of the sheets.
use Rattle.std.proofs.Common.{◌≡◌, Ok, Err, Result, sym, ap, arith, MatchResult}
use Rattle.lines.specs.declared.faults.Fault.{Fault}
use Rattle.sheets.specs.Model.{SheetsModel}
use Rattle.sheets.specs.Read.{reading}

pub read_so : (s : Result SheetsModel Fault) (r : Result (Unit {0}) Fault) (m : SheetsModel) → (r, m) ≡ reading s → MatchResult r (λ _. s ≡ Ok m) (λ e. s ≡ Err e)
read_so (Ok n) (Ok u) m h = ap Ok (sym (ap (λ p. p.1) h))
read_so (Ok n) (Err e) m h = absurd (let g = ap (λ p. p.0) h in grind arith)
read_so (Err x) (Ok u) m h = absurd (let g = ap (λ p. p.0) h in grind arith)
read_so (Err x) (Err e) m h = let g = ap (λ p. p.0) h in let same : x ≡ e = cc in ap Err same
