-- Openings.
use Rattle.std.proofs.Common.{◌≡◌, ℕ, Bool, Ok, Err, Result, ap, ◌∙◌, arith}
use Rattle.lines.specs.declared.faults.Fault.{Fault}
use Rattle.sheets.specs.Model.{SheetsModel, blank}
use Rattle.sheets.specs.Read.{reading}
use Rattle.book.specs.Model.{Model, opening}
use Rattle.book.specs.Rewritten.{sheets_in}
use Rattle.round.specs.Held.{PlaceModel}
use Rattle.round.specs.Log.{open_call, desk_left}

-- the sheets were read
pub open_yes : {S L : Type 0} (ahead : S → ℕ → ℕ → ℕ → Bool) (p : PlaceModel S L) (r : Result SheetsModel Fault) (u : Unit {0}) (n : SheetsModel) (x : Model)
    → ◌≡◌ {A = Result (Unit {0}) Fault × SheetsModel} (Ok u, n) (reading r) → x ≡ opening (ahead p.standing) n
    → ◌≡◌ {A = Result (Unit {0}) Fault × PlaceModel S L} (Ok tt, record { standing = p.standing; limit = p.limit; round = x }) (open_call ahead r p)
open_yes {S = S} {L = L} ahead p (Ok m) u n x e q =
    let f : Model → Result (Unit {0}) Fault × PlaceModel S L = λ y. (Ok tt, record { standing = p.standing; limit = p.limit; round = y }) in
    ap f (q ∙ ap (opening (ahead p.standing)) (ap (λ z. z.1) e))
open_yes ahead p (Err f) u n x e q = absurd (let g = ap (λ z. z.0) e in grind arith)

-- the sheets have a fault
pub open_no : {S L : Type 0} (ahead : S → ℕ → ℕ → ℕ → Bool) (p : PlaceModel S L) (r : Result SheetsModel Fault) (n : SheetsModel) (a : Result (Unit {0}) Fault) (x f : Fault)
    → a ≡ Err x → x ≡ f → ◌≡◌ {A = Result (Unit {0}) Fault × SheetsModel} (Err f, n) (reading r)
    → ◌≡◌ {A = Result (Unit {0}) Fault × PlaceModel S L} (a, p) (open_call ahead r p)
open_no {S = S} {L = L} ahead p (Err h) n a x f is same e =
    let k : Result (Unit {0}) Fault → Result (Unit {0}) Fault × PlaceModel S L = λ y. (y, p) in ap k (is ∙ ap Err same ∙ ap (λ z. z.0) e)
open_no ahead p (Ok m) n a x f is same e = absurd (let g = ap (λ z. z.0) e in grind arith)

-- what is left on the desk
pub desk_yes : (r : Result SheetsModel Fault) (before : Model) (u : Unit {0}) (n d : SheetsModel) → ◌≡◌ {A = Result (Unit {0}) Fault × SheetsModel} (Ok u, n) (reading r) → d ≡ sheets_in before → d ≡ desk_left r before
desk_yes (Ok m) before u n d e k = k
desk_yes (Err f) before u n d e k = absurd (let g = ap (λ z. z.0) e in grind arith)

pub desk_no : (r : Result SheetsModel Fault) (before : Model) (f : Fault) (d : SheetsModel) → ◌≡◌ {A = Result (Unit {0}) Fault × SheetsModel} (Err f, d) (reading r) → d ≡ desk_left r before
desk_no (Ok m) before f d e = absurd (let g = ap (λ z. z.0) e in grind arith)
desk_no (Err h) before f d e = ap (λ (z : Result (Unit {0}) Fault × SheetsModel). z.1) e

-- the same, told by the answer of the opening
pub desk_opened : {S L : Type 0} (ahead : S → ℕ → ℕ → ℕ → Bool) (r : Result SheetsModel Fault) (p q : PlaceModel S L) (u : Unit {0}) (d : SheetsModel)
    → ◌≡◌ {A = Result (Unit {0}) Fault × PlaceModel S L} (Ok u, q) (open_call ahead r p) → d ≡ desk_left r p.round → d ≡ sheets_in p.round
desk_opened ahead (Ok m) p q u d e k = k
desk_opened ahead (Err f) p q u d e k = absurd (let g = ap (λ z. z.0) e in grind arith)

pub desk_denied : {S L : Type 0} (ahead : S → ℕ → ℕ → ℕ → Bool) (r : Result SheetsModel Fault) (p q : PlaceModel S L) (f : Fault) (d : SheetsModel)
    → ◌≡◌ {A = Result (Unit {0}) Fault × PlaceModel S L} (Err f, q) (open_call ahead r p) → d ≡ desk_left r p.round → d ≡ blank
desk_denied ahead (Ok m) p q f d e k = absurd (let g = ap (λ z. z.0) e in grind arith)
desk_denied ahead (Err h) p q f d e k = k
