-- One line of a sheet.
use Rattle.std.proofs.Common.{◌≡◌, ℕ, ◌-◌, ◌<◌, ◌≤◌, List, length, take, drop, Ok, Err, sym, ap, ◌∙◌}
use native.Mathlib.Nat.{sub-zero}
use Rattle.std.proofs.lemmas.Bool.{lt-ltb, le-ltb}
use Rattle.std.proofs.lemmas.List.{take_rest, drop_all}
use Rattle.lines.specs.declared.faults.Spot.{Spot}
use Rattle.text.specs.Number.{before}
use Rattle.lines.specs.Faults.{fault}
use Rattle.lines.specs.declared.faults.FaultKind.TheVariants.{Unended}
use Rattle.lines.specs.Lines.{first_line, line_at}

module _ (bs : List ℕ) (s : Spot) (k : ℕ) where
  abbrev rest : List ℕ
  rest = take (length bs - s.place) (drop s.place bs)

  whole : line_at bs s ≡ first_line rest s
  whole = ap (λ l. first_line l s) (sym (take_rest bs s.place))

  pub line_found : k ≡ before 10 rest → k < length rest → Ok (take (k - 0) rest) ≡ line_at bs s
  line_found is l = sym (whole ∙ rw (← is, lt-ltb k (length rest) l, sub-zero))

  pub line_missing : k ≡ before 10 rest → length rest ≤ k → Err (fault s Unended) ≡ line_at bs s
  line_missing is l = sym (whole ∙ rw (← is, le-ltb k (length rest) l))

  pub line_past : length bs ≤ s.place → Err (fault s Unended) ≡ line_at bs s
  line_past l = rw (drop_all s.place bs l)
