-- Records one after another, and a whole sheet.
use Rattle.std.proofs.Common.{◌≡◌, ℕ, suc, ◌+◌, ◌-◌, ◌<◌, ◌≤◌, List, [], ◌∷◌, ◌++◌, map, length, Ok, Err, Result, sym, ap, ◌∙◌, arith}
use Rattle.std.proofs.lemmas.List.{map_push}
use Rattle.std.proofs.lemmas.Bool.{le-leb, eq-eqb}
use Rattle.lines.specs.declared.faults.Fault.{Fault}
use Rattle.lines.specs.declared.keys.Key.TheVariants.{Teachers, Schools, Subjects, Lanes}
use Rattle.lines.specs.Faults.{bind, seen}
use Rattle.lines.specs.Entries.{single}
use Rattle.sheets.specs.Model.{TeacherRecord, LaneRecord}
use Rattle.sheets.specs.Staff.{staff_spot, teachers, staff_of}
use Rattle.sheets.specs.Posts.{posts_spot, lanes, posts_of}
use Rattle.sheets.specs.Records.{repeat}

module _ {A T : Type 0} (one : List A → ℕ → ℕ → Result (A × ℕ) Fault) (view : T → A) (lines n i : ℕ) (xs : List T) (l p : ℕ) (in' : i < n) where
  left : n - i ≡ suc (n - (i + 1))
  left = omega arith

  step : repeat one lines (n - i) (map view xs) l p ≡ bind (one (map view xs) l p) (λ t. repeat one lines (n - (i + 1)) (map view xs ++ t.0 ∷ []) (l + lines) t.1)
  step = ap (λ k. repeat one lines k (map view xs) l p) left

  -- the i-th record was read
  pub repeat_more : (x : T) (q : ℕ) → Ok (view x, q) ≡ one (map view xs) l p → (ys : List T) → ys ≡ xs ++ x ∷ [] → repeat one lines (n - i) (map view xs) l p ≡ repeat one lines (n - (i + 1)) (map view ys) (l + lines) q
  repeat_more x q h ys pushed =
      step ∙ ap (λ r. bind r (λ t. repeat one lines (n - (i + 1)) (map view xs ++ t.0 ∷ []) (l + lines) t.1)) (sym h)
      ∙ ap (λ d. repeat one lines (n - (i + 1)) d (l + lines) q) (sym (ap (map view) pushed ∙ map_push view xs x))

  -- the i-th record has a fault
  pub repeat_fails : (e : Fault) → Err e ≡ one (map view xs) l p → repeat one lines (n - i) (map view xs) l p ≡ Err e
  repeat_fails e h =
      step ∙ ap (λ r. bind r (λ t. repeat one lines (n - (i + 1)) (map view xs ++ t.0 ∷ []) (l + lines) t.1)) (sym h)

pub staff_done : (schools subjects : ℕ) (bs : List ℕ) (n p : ℕ) (all : List TeacherRecord) (q : ℕ) → length bs ≤ 30000 → Ok (n, p) ≡ single Teachers 1 200 bs (staff_spot 1 0) → Ok (all, q) ≡ teachers n schools subjects bs 2 p → q ≡ length bs → Ok all ≡ staff_of schools subjects bs
staff_done schools subjects bs n p all q l a b e = rw (le-leb (length bs) 30000 l, ← a, ← b, eq-eqb q (length bs) e)

pub posts_done : (bs : List ℕ) (s p j o n q : ℕ) (all : List LaneRecord) (r : ℕ) → length bs ≤ 30000 → Ok (s, p) ≡ single Schools 1 30 bs (posts_spot 1 0) → Ok (j, o) ≡ single Subjects 1 10 bs (posts_spot 2 p) → Ok (n, q) ≡ single Lanes 1 80 bs (posts_spot 3 o) → Ok (all, r) ≡ lanes n s j bs q → r ≡ length bs → Ok (record { schools = s; subjects = j; lanes = all }) ≡ posts_of bs
posts_done bs s p j o n q all r l a b c d e = rw (le-leb (length bs) 30000 l, ← a, ← b, ← c, ← d, eq-eqb r (length bs) e)

-- the exit of a `?` in a function whose defined answer is w
pub exits : {T M : Type 0} (view : T → M) (r : Result T Fault) (x e : Fault) → r ≡ Err x → x ≡ e → (w : Result M Fault) → w ≡ Err e → seen view r ≡ w
exits view r x e is same w k = rw (is, same) (sym k)
