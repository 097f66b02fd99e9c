-- Lanes of which no two have the same school and subject.
use Rattle.std.proofs.Common.{◌≡◌, Bool, true, false, not, ◌&&◌, eqb, List, [], ◌∷◌, ◌++◌, refl, arith}
use Rattle.std.specs.List.{AllByRecursion as All}
use Rattle.std.proofs.lemmas.Bool.Decides.{nat_tests}
use Rattle.std.proofs.lemmas.Bool.{and_parts, and_from, or_parts, or_from, not-true, not_from_false}
use Rattle.sheets.specs.Model.{LaneRecord}
use Rattle.sheets.specs.Posts.{taken}
use Rattle.sheets.specs.Ranges.{apart}
use Rattle.sheets.proofs.CanonRecords.{Each}

-- the pair of lane l is not among those of the lanes done
abbrev pub Fresh : List LaneRecord → LaneRecord → Type 0
Fresh done l = taken l.school l.subject done ≡ false

abbrev same : LaneRecord → LaneRecord → Bool
same x y = eqb x.school y.school && eqb x.subject y.subject

same_turned : (x y : LaneRecord) → same x y ≡ false → same y x ≡ false
same_turned x y h = grind (arith, nat_tests)

fresh_parts : (done : List LaneRecord) (x y : LaneRecord) → Fresh (done ++ x ∷ []) y → Fresh done y × (same x y ≡ false)
fresh_parts [] x y h = (refl, (or_parts (same x y) false h).0)
fresh_parts (d ∷ done) x y h =
    let p = or_parts (same d y) (taken y.school y.subject (done ++ x ∷ [])) h in
    let r = fresh_parts done x y p.1 in
    (or_from (same d y) (taken y.school y.subject done) p.0 r.0, r.1)

fresh_both : (done : List LaneRecord) (x y : LaneRecord) → Fresh done y → same x y ≡ false → Fresh (done ++ x ∷ []) y
fresh_both [] x y h s = or_from (same x y) false s refl
fresh_both (d ∷ done) x y h s =
    let p = or_parts (same d y) (taken y.school y.subject done) h in
    or_from (same d y) (taken y.school y.subject (done ++ x ∷ [])) p.0 (fresh_both done x y p.1 s)

-- one more is done
all_parts : (done : List LaneRecord) (x : LaneRecord) (ys : List LaneRecord) → All (Fresh (done ++ x ∷ [])) ys → All (Fresh done) ys × Fresh ys x
all_parts done x [] h = (tt, refl)
all_parts done x (y ∷ ys) h =
    let p = fresh_parts done x y h.0 in
    let r = all_parts done x ys h.1 in
    ((p.0, r.0), or_from (same y x) (taken x.school x.subject ys) (same_turned x y p.1) r.1)

all_both : (done : List LaneRecord) (x : LaneRecord) (ys : List LaneRecord) → All (Fresh done) ys → Fresh ys x → All (Fresh (done ++ x ∷ [])) ys
all_both done x [] h f = tt
all_both done x (y ∷ ys) h f =
    let p = or_parts (same y x) (taken x.school x.subject ys) f in
    (fresh_both done x y h.0 (same_turned y x p.0), all_both done x ys h.1 p.1)

to : (done xs : List LaneRecord) → Each Fresh done xs → (apart xs ≡ true) × All (Fresh done) xs
to done [] h = (refl, tt)
to done (x ∷ xs) h =
    let r = to (done ++ x ∷ []) xs h.1 in
    let p = all_parts done x xs r.1 in
    (and_from (not (taken x.school x.subject xs)) (apart xs) (not_from_false _ p.1) r.0, (h.0, p.0))

from : (done xs : List LaneRecord) → apart xs ≡ true → All (Fresh done) xs → Each Fresh done xs
from done [] a h = tt
from done (x ∷ xs) a h =
    let p = and_parts (not (taken x.school x.subject xs)) (apart xs) a in
    (h.0, from (done ++ x ∷ []) xs p.1 (all_both done x xs h.1 (not-true _ p.0)))

none_done : (xs : List LaneRecord) → All (Fresh []) xs
none_done [] = tt
none_done (x ∷ xs) = (refl, none_done xs)

pub fresh_apart : (xs : List LaneRecord) → Each Fresh [] xs → apart xs ≡ true
fresh_apart xs h = (to [] xs h).0

pub apart_fresh : (xs : List LaneRecord) → apart xs ≡ true → Each Fresh [] xs
apart_fresh xs h = from [] xs h (none_done xs)
