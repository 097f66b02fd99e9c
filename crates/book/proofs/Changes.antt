-- Changes of a book.
use Rattle.std.proofs.Common.{◌≡◌, ℕ, ◌<◌, ◌≤◌, Bool, true, ◌&&◌, leb, List, [], ◌∷◌, map, length, get_or, take, replicate, sym, refl, ap, ◌∙◌, ap₂, ⊎_elim, arith}
use mathlib.Core.Path.{fun_ext}
use lib.ListN.{length-replicate}
use Rattle.std.proofs.lemmas.List.{get_or_past, get_or-replicate, take_all}
use Rattle.std.proofs.lemmas.Bool.{cases_lt, and_parts, and_from}
use Rattle.lines.specs.Entries.{within, distinct, further}
use Rattle.market.specs.Tables.{Person, person, pick_of}
use Rattle.market.proofs.Short.{pick_lists_are_short_lem}
use Rattle.sheets.specs.declared.records.Teacher.{Teacher}
use Rattle.sheets.specs.Model.{SheetsModel, PostsModel, TeacherRecord, teacher_record}
use Rattle.sheets.specs.Ranges.{every, few_within, wish_ok, teacher_ok, staff_ok, posts_ok}
use Rattle.sheets.specs.Tables.{kept}
use Rattle.sheets.proofs.ReadLaws.{lanes_few}
use Rattle.sheets.proofs.WishLaws.{someone}
use Rattle.book.specs.Model.{picks_of}

-- ---- pick lists

-- an acceptable wish list gives a pick list with room
pub pick_short : (m : PostsModel) (p : Person) (w : List ℕ) → wish_ok m.schools w ≡ true → length m.lanes ≤ 80 → take 80 (pick_of m p w) ≡ pick_of m p w
pick_short m p w h few = take_all 80 (pick_of m p w) (omega (arith, pick_lists_are_short_lem (record { posts = m; people = p ∷ [] }) 0 w h))

pub teacher_wish : (schools subjects : ℕ) (t : TeacherRecord) → teacher_ok schools subjects t ≡ true → wish_ok schools t.wish ≡ true
teacher_wish schools subjects t h =
    by (leb t.home schools) (within 1 subjects t.main) (few_within 9 subjects t.also) (further t.main t.also) (few_within 12 schools t.wish) (distinct t.wish) (leb t.points 65535 && leb t.cost 100) h
  where
    by : (a b c d e f g : Bool) → (a && (b && (c && (d && (e && (f && g)))))) ≡ true → (e && f) ≡ true
    by a b c d e f g h =
        let h1 = (and_parts a (b && (c && (d && (e && (f && g))))) h).1 in
        let h2 = (and_parts b (c && (d && (e && (f && g)))) h1).1 in
        let h3 = (and_parts c (d && (e && (f && g))) h2).1 in
        let h4 = (and_parts d (e && (f && g)) h3).1 in
        let h5 = and_parts e (f && g) h4 in
        and_from e f h5.0 (and_parts f g h5.1).0

each_short : (m : PostsModel) → length m.lanes ≤ 80 → (ts : List TeacherRecord) → every (teacher_ok m.schools m.subjects) ts ≡ true
    → map (λ (t : TeacherRecord). take 80 (pick_of m (person t) t.wish)) ts ≡ map (λ (t : TeacherRecord). pick_of m (person t) t.wish) ts
each_short m few [] h = refl
each_short m few (t ∷ ts) h =
    let q = and_parts (teacher_ok m.schools m.subjects t) (every (teacher_ok m.schools m.subjects) ts) h in
    ap₂ (λ x xs. x ∷ xs) (pick_short m (person t) t.wish (teacher_wish m.schools m.subjects t q.0) few) (each_short m few ts q.1)

pub picks_whole : (m : SheetsModel) → kept m ≡ true → map (λ (t : TeacherRecord). take 80 (pick_of m.posts (person t) t.wish)) m.teachers ≡ picks_of m
picks_whole m h = by m.teachers refl
  where
    by : (ts : List TeacherRecord) → m.teachers ≡ ts → map (λ (t : TeacherRecord). take 80 (pick_of m.posts (person t) t.wish)) ts ≡ map (λ (t : TeacherRecord). pick_of m.posts (person t) t.wish) ts
    by [] e = refl
    by (t ∷ ts) e =
        let r = someone m h (omega (arith, ap length e)) in
        let p = (and_parts (posts_ok m.posts) (staff_ok m.posts.schools m.posts.subjects m.teachers) r).1 in
        let q = (and_parts (within 1 200 (length m.teachers)) (every (teacher_ok m.posts.schools m.posts.subjects) m.teachers) p).1 in
        each_short m.posts (lanes_few m r) (t ∷ ts) (ap (every (teacher_ok m.posts.schools m.posts.subjects)) (sym e) ∙ q)

-- the pick list of one teacher more
pub map_record : (f : TeacherRecord → List ℕ) (ts : List Teacher) → map f (map teacher_record ts) ≡ map (λ (x : Teacher). f (teacher_record x)) ts
map_record f [] = refl
map_record f (t ∷ ts) = ap (λ l. f (teacher_record t) ∷ l) (map_record f ts)

-- ---- cutoffs

pub ones : (n : ℕ) (cs : List ℕ) → cs ≡ replicate n 1 → ◌≡◌ {A = ℕ → ℕ} (λ l. get_or cs l 1) (λ _. 1)
ones n cs e = fun_ext (λ l. ap (λ (xs : List ℕ). get_or xs l 1) e ∙ ⊎_elim (λ (a : l < n). get_or-replicate n l 1 1 a) (λ (b : n ≤ l). get_or_past (replicate n 1) l 1 (omega (arith, length-replicate {A = ℕ} n 1))) (cases_lt l n))
