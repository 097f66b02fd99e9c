-- Openings, with a standing and a limit that are filled from the same sheets.
use Rattle.std.proofs.Common.{◌≡◌, ℕ, Bool, List, Ok, Err, Result, sym, ap, ◌∙◌, subst, arith, MatchResult}
use Rattle.lines.specs.declared.faults.Fault.{Fault}
use Rattle.sheets.specs.Model.{SheetsModel}
use Rattle.sheets.specs.Read.{reading}
use Rattle.book.specs.Model.{opening, unopened}
use Rattle.round.specs.Held.{PlaceModel}
use Rattle.round.specs.Log.{open_call}
use Rattle.rules.specs.Filled.{filling}
use Rattle.rules.specs.Held.{points_held, seats_held}
use Rattle.rules.specs.Standings.{ahead_by_points}
use Rattle.rules.specs.Views.{PointsView, points_view, sizes_view}
use Rattle.rules.specs.declared.points.Points.{Points}
use Rattle.rules.specs.declared.seats.Seats.{Seats}
use Rattle.walkthrough.specs.Opened.{OpenedWith}

-- a fault that is handed on
pub fault_so : {X : Type 0} (Q : X → Type 0) (s : Result SheetsModel Fault) (a : Result X Fault) (x f : Fault) → a ≡ Err x → x ≡ f → s ≡ Err f → MatchResult a Q (λ e. s ≡ Err e)
fault_so {X = X} Q s a x f is same h = let P : Result X Fault → Type 0 = λ r. MatchResult r Q (λ e. s ≡ Err e) in subst P (sym is) (h ∙ ap Err (sym same))

-- where a call answered a fault, the sheets have it
pub fill_fault : {V : Type 0} (view : SheetsModel → V) (s : Result SheetsModel Fault) (old held : V) (f : Fault) → ◌≡◌ {A = Result (Unit {0}) Fault × V} (Err f, held) (filling view s old) → s ≡ Err f
fill_fault view (Ok m) old held f h = absurd (let g = ap (λ p. p.0) h in grind arith)
fill_fault view (Err x) old held f h = let g = ap (λ p. p.0) h in let same : x ≡ f = cc in ap Err same

pub open_fault : {S L : Type 0} (ahead : S → ℕ → ℕ → ℕ → Bool) (s : Result SheetsModel Fault) (p q : PlaceModel S L) (f : Fault) → ◌≡◌ {A = Result (Unit {0}) Fault × PlaceModel S L} (Err f, q) (open_call ahead s p) → s ≡ Err f
open_fault ahead (Ok m) p q f h = absurd (let g = ap (λ p. p.0) h in grind arith)
open_fault ahead (Err x) p q f h = let g = ap (λ p. p.0) h in let same : x ≡ f = cc in ap Err same

pub read_fault : (s : Result SheetsModel Fault) (m : SheetsModel) (f : Fault) → ◌≡◌ {A = Result (Unit {0}) Fault × SheetsModel} (Err f, m) (reading s) → s ≡ Err f
read_fault (Ok n) m f h = absurd (let g = ap (λ p. p.0) h in grind arith)
read_fault (Err x) m f h = let g = ap (λ p. p.0) h in let same : x ≡ f = cc in ap Err same

-- where all four calls went well
pub all_opened : (s : Result SheetsModel Fault) (points : Points) (seats : Seats) (t u v w : Unit {0}) (old : PointsView) (sizes : List ℕ) (p q : PlaceModel Points Seats) (m : SheetsModel)
    → ◌≡◌ {A = Result (Unit {0}) Fault × PointsView} (Ok t, points_held points) (filling points_view s old)
    → ◌≡◌ {A = Result (Unit {0}) Fault × List ℕ} (Ok u, seats_held seats) (filling sizes_view s sizes)
    → p ≡ record { standing = points; limit = seats; round = unopened }
    → ◌≡◌ {A = Result (Unit {0}) Fault × PlaceModel Points Seats} (Ok v, q) (open_call (λ x. ahead_by_points (points_held x)) s p)
    → ◌≡◌ {A = Result (Unit {0}) Fault × SheetsModel} (Ok w, m) (reading s)
    → OpenedWith s m q
all_opened (Err f) points seats t u v w old sizes p q m e1 e2 e3 e4 e5 = absurd (let g = ap (λ z. z.0) e5 in grind arith)
all_opened (Ok n) points seats t u v w old sizes p q m e1 e2 e3 e4 e5 =
    let same : m ≡ n = ap (λ z. z.1) e5 in
    let made = ap (λ z. z.1) e4 in
    let held : points_held p.standing ≡ points_view n = ap (λ (x : PlaceModel Points Seats). points_held x.standing) e3 ∙ ap (λ z. z.1) e1 in
    let room : seats_held p.limit ≡ sizes_view n = ap (λ (x : PlaceModel Points Seats). seats_held x.limit) e3 ∙ ap (λ z. z.1) e2 in (
      ap Ok (sym same),
      ap (λ (x : PlaceModel Points Seats). points_held x.standing) made ∙ held ∙ ap points_view (sym same),
      ap (λ (x : PlaceModel Points Seats). seats_held x.limit) made ∙ room ∙ ap sizes_view (sym same),
      ap (λ (x : PlaceModel Points Seats). x.round) made ∙ ap (λ (y : PointsView). opening (ahead_by_points y) n) held ∙ ap (λ (y : SheetsModel). opening (ahead_by_points (points_view y)) y) (sym same),
    )
