use Rattle.std.proofs.Common.{◌≡◌, ℕ, suc, ◌<◌, List, length, get_or, vec_items, Result, sym, refl, ap, ◌∙◌, arith}
use Rattle.std.proofs.lemmas.List.{get_or-set_same}
use Rattle.matching.specs.Log.{within}
use Rattle.std.proofs.lemmas.Bool.{false≢true}
use Rattle.book.specs.declared.book.trial.TrialRefusal.{TrialRefusal}
use Rattle.book.specs.declared.book.trial.TrialRefusal.TheVariants.{BadRow}
use Rattle.book.specs.Held.{book_model}
use Rattle.book.proofs.Reaching.{marks_tried}
use Rattle.book.proofs.Trying.{restored, left_back, trying_cutoff, trying_row, trying_ok, refused}
use Rattle.book.proofs.book.Book.trial.Goals as goal

pub returns-then-not-may_try : goal.returns-then-not-may_try
returns-then-not-may_try c =
    let b = c.args.self.now in
    let m = book_model b in
    let v = c.drop-guard.new.self.0.items in
    let e : vec_items v ≡ vec_items b.cutoffs.items = c.drop-guard.ensures ∙ restored (vec_items b.cutoffs.items) _ _ c.args.l c.args.tried c.set.ensures c.as_slice.ensures.value in
    let bytes : List ℕ = c.args.row.now in
    let inside : c.args.l < length m.0.posts.lanes = omega (arith, c.len.ensures.value, b.sized) in
    left_back b (vec_items v) e c.args.l c.args.tried bytes _ (trying_cutoff m c.args.l c.args.tried bytes inside (ap (λ n. within c.args.tried (suc n)) (sym c.licensed-licensed.ensures.value) ∙ sym c.if-not-may_try.ensures))

pub returns-in_err-check_row : goal.returns-in_err-check_row
returns-in_err-check_row c =
    let b = c.args.self.now in
    let m = book_model b in
    let v = c.drop-guard-in_err-check_row.new.self.0.items in
    let e : vec_items v ≡ vec_items b.cutoffs.items = c.drop-guard-in_err-check_row.ensures ∙ restored (vec_items b.cutoffs.items) _ _ c.args.l c.args.tried c.set.ensures c.as_slice.ensures.value in
    let bytes : List ℕ = c.args.row.now in
    let inside : c.args.l < length m.0.posts.lanes = omega (arith, c.len.ensures.value, b.sized) in
    let other : length bytes ≡ length m.0.staff → ⊥ = λ q. false≢true (c.in_err-check_row.ensures.1 (q ∙ sym c.teacher_count-teachers.ensures.value)) in
    left_back b (vec_items v) e c.args.l c.args.tried bytes (c.from_residual.result, bytes)
    (ap (λ (r : Result (Unit {0}) TrialRefusal). (r, bytes)) (refused c.from_residual.result BadRow c.from_residual.ensures.1)
    ∙ trying_row m c.args.l c.args.tried bytes inside (ap (λ n. within c.args.tried (suc n)) (sym c.licensed-licensed.ensures.value) ∙ sym c.if-not-may_try.ensures) other)

pub returns : goal.returns
returns c =
    let b = c.args.self.now in
    let m = book_model b in
    let v = c.drop-guard-2.new.self.0.items in
    let e : vec_items v ≡ vec_items b.cutoffs.items = c.drop-guard-2.ensures ∙ restored (vec_items b.cutoffs.items) _ _ c.args.l c.args.tried c.set.ensures c.as_slice.ensures.value in
    let bytes : List ℕ = c.args.row.now in
    let inside : c.args.l < length m.0.posts.lanes = omega (arith, c.len.ensures.value, b.sized) in
    let n : length bytes ≡ length m.0.staff = c.in_ok-check_row.ensures.0 refl ∙ c.teacher_count-teachers.ensures.value in
    let d : c.cutoff.result ≡ c.args.tried = c.cutoff.ensures ∙ ap (λ (xs : List ℕ). get_or xs c.args.l 0) c.set.ensures ∙ get_or-set_same (vec_items b.cutoffs.items) c.args.l c.args.tried 0 (omega (arith, c.len.ensures.value)) in
    left_back b (vec_items v) e c.args.l c.args.tried bytes _ (trying_ok m c.args.l c.args.tried bytes c.write_marks.new.row inside (ap (λ n. within c.args.tried (suc n)) (sym c.licensed-licensed.ensures.value) ∙ sym c.if-not-may_try.ensures) n
    (c.write_marks.ensures ∙ marks_tried m c.args.l c.args.tried c.cutoff.result (length bytes) c.reaches-reaches.result c.reaches-reaches.ensures.each n d))
