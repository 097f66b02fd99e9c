use Rattle.std.proofs.lemmas.Result.{err_from_is_err_and}
use Rattle.sheets.specs.Held.{model_of}
use Rattle.sheets.specs.Read.{sheets_of}
use Rattle.round.specs.Held.{place_of}
use Rattle.rules.specs.Held.{points_held, seats_held}
use Rattle.rules.specs.Standings.{ahead_by_points}
use Rattle.rules.specs.Views.{points_view, sizes_view}
use Rattle.walkthrough.proofs.Opening.{fault_so, fill_fault, open_fault, read_fault, all_opened}
use Rattle.walkthrough.proofs.walk.opened.Goals as goal

pub returns-in_err-fill : goal.returns-in_err-fill
returns-in_err-fill c =
    let s = sheets_of c.args.posts.now c.args.staff.now in
    let p = err_from_is_err_and c.from_residual.result c.from_residual.ensures.1 in
    fault_so _ s c.from_residual.result p.0 c.in_err-fill.field-0.0 p.1 p.2 (fill_fault points_view s (points_held c.new-points.result) (points_held c.fill.new.self) c.in_err-fill.field-0.0 c.in_err-fill.ensures.value)

pub returns-in_err-fill-2 : goal.returns-in_err-fill-2
returns-in_err-fill-2 c =
    let s = sheets_of c.args.posts.now c.args.staff.now in
    let p = err_from_is_err_and c.from_residual-in_err-fill-2.result c.from_residual-in_err-fill-2.ensures.1 in
    fault_so _ s c.from_residual-in_err-fill-2.result p.0 c.in_err-fill-2.field-0.0 p.1 p.2 (fill_fault sizes_view s (seats_held c.new-seats.result) (seats_held c.fill-2.new.self) c.in_err-fill-2.field-0.0 c.in_err-fill-2.ensures.value)

pub returns-in_err-open : goal.returns-in_err-open
returns-in_err-open c =
    let s = sheets_of c.args.posts.now c.args.staff.now in
    let p = err_from_is_err_and c.from_residual-in_err-open.result c.from_residual-in_err-open.ensures.1 in
    fault_so _ s c.from_residual-in_err-open.result p.0 c.in_err-open.field-0.0 p.1 p.2 (open_fault (λ x. ahead_by_points (points_held x)) s (place_of c.new-place.result) (place_of c.open.new.self) c.in_err-open.field-0.0 c.in_err-open.ensures.value)

pub returns-in_err-read : goal.returns-in_err-read
returns-in_err-read c =
    let s = sheets_of c.args.posts.now c.args.staff.now in
    let p = err_from_is_err_and c.from_residual-in_err-read.result c.from_residual-in_err-read.ensures.1 in
    fault_so _ s c.from_residual-in_err-read.result p.0 c.in_err-read.field-0.0 p.1 p.2 (read_fault s (model_of c.read.new.self) c.in_err-read.field-0.0 c.in_err-read.ensures.value)

pub returns : goal.returns
returns c =
    let s = sheets_of c.args.posts.now c.args.staff.now in
    all_opened s c.fill.new.self c.fill-2.new.self _ _ _ _ (points_held c.new-points.result) (seats_held c.new-seats.result) (place_of c.new-place.result) (place_of c.open.new.self) (model_of c.read.new.self) c.in_ok-fill.ensures.value c.in_ok-fill-2.ensures.value c.new-place.ensures c.in_ok-open.ensures.value c.in_ok-read.ensures.value
