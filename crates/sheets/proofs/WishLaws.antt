-- Sheets with another wish list for one teacher.
use Rattle.std.proofs.Common.{◌≡◌, ℕ, zero, suc, ◌<◌, ◌≤◌, Bool, true, false, ◌&&◌, ◌||◌, eqb, leb, List, [], ◌∷◌, map, length, get_or, take, set, Ok, Err, Result, sym, refl, ap, ◌∙◌, arith, length-set}
use Rattle.std.proofs.lemmas.List.{take_all, map-set, get_or-map}
use Rattle.std.proofs.lemmas.Bool.{and_parts, and_from, lt-ltb, le-ltb, eqb-true, leb-true}
use Rattle.bounded.specs.declared.list.BoundedList.{BoundedList}
use Rattle.bounded.specs.Listed.{listed}
use Rattle.lines.specs.Entries.{within, distinct, further}
use Rattle.sheets.specs.declared.records.Teacher.{Teacher}
use Rattle.sheets.specs.declared.refusals.WishRefusal.{WishRefusal}
use Rattle.sheets.specs.declared.refusals.WishRefusal.TheVariants.{NoTeacher, BadWishes}
use Rattle.sheets.specs.Model.{SheetsModel, TeacherRecord, teacher_record}
use Rattle.sheets.specs.Ranges.{every, few_within, wish_ok, teacher_ok, staff_ok, posts_ok, in_range, is_blank}
use Rattle.sheets.specs.Tables.{kept, with_wish, nobody, rewished}

pub every_at : {A : Type 0} (p : A → Bool) (xs : List A) (i : ℕ) (d : A) → every p xs ≡ true → i < length xs → p (get_or xs i d) ≡ true
every_at p [] i d h l = absurd (omega arith)
every_at p (x ∷ xs) zero d h l = (and_parts (p x) (every p xs) h).0
every_at p (x ∷ xs) (suc i) d h l = every_at p xs i d (and_parts (p x) (every p xs) h).1 (omega arith)

every_set : {A : Type 0} (p : A → Bool) (xs : List A) (i : ℕ) (y : A) → every p xs ≡ true → p y ≡ true → every p (set xs i y) ≡ true
every_set p [] i y h k = refl
every_set p (x ∷ xs) zero y h k = and_from (p y) (every p xs) k (and_parts (p x) (every p xs) h).1
every_set p (x ∷ xs) (suc i) y h k = let q = and_parts (p x) (every p xs) h in and_from (p x) (every p (set xs i y)) q.0 (every_set p xs i y q.1 k)

swap : (a b c d e f g e' f' : Bool) → (a && (b && (c && (d && (e && (f && g)))))) ≡ true → e' ≡ true → f' ≡ true → (a && (b && (c && (d && (e' && (f' && g)))))) ≡ true
swap a b c d e f g e' f' h p q =
    let h1 = and_parts a (b && (c && (d && (e && (f && g))))) h in
    let h2 = and_parts b (c && (d && (e && (f && g)))) h1.1 in
    let h3 = and_parts c (d && (e && (f && g))) h2.1 in
    let h4 = and_parts d (e && (f && g)) h3.1 in
    let h5 = and_parts e (f && g) h4.1 in
    let h6 = and_parts f g h5.1 in
    and_from a (b && (c && (d && (e' && (f' && g))))) h1.0 (and_from b (c && (d && (e' && (f' && g)))) h2.0 (and_from c (d && (e' && (f' && g))) h3.0
    (and_from d (e' && (f' && g)) h4.0 (and_from e' (f' && g) p (and_from f' g q h6.1)))))

wish_kept : (schools subjects : ℕ) (t : TeacherRecord) (w : List ℕ) → teacher_ok schools subjects t ≡ true → wish_ok schools w ≡ true → teacher_ok schools subjects (with_wish w t) ≡ true
wish_kept schools subjects t w h k =
    let q = and_parts (few_within 12 schools w) (distinct w) k in
    swap (leb t.home schools) (within 1 subjects t.main) (few_within 9 subjects t.also) (further t.main t.also)
    (few_within 12 schools t.wish) (distinct t.wish) (leb t.points 65535 && leb t.cost 100)
    (few_within 12 schools w) (distinct w) h q.0 q.1

-- sheets with a teacher are not blank
pub someone : (m : SheetsModel) → kept m ≡ true → 0 < length m.teachers → in_range m ≡ true
someone m h l = by (is_blank m) (in_range m) refl h
  where
    by : (a b : Bool) → is_blank m ≡ a → (a || b) ≡ true → b ≡ true
    by false b e k = k
    by true b e k =
        let p = (and_parts (eqb m.posts.schools 0) (eqb m.posts.subjects 0 && (eqb (length m.posts.lanes) 0 && eqb (length m.teachers) 0)) e).1 in
        let q = (and_parts (eqb m.posts.subjects 0) (eqb (length m.posts.lanes) 0 && eqb (length m.teachers) 0) p).1 in
        let r = (and_parts (eqb (length m.posts.lanes) 0) (eqb (length m.teachers) 0) q).1 in
        absurd (omega (arith, eqb-true (length m.teachers) 0 r))

or_true : (a b : Bool) → b ≡ true → (a || b) ≡ true
or_true true b h = refl
or_true false b h = h

module _ (m : SheetsModel) (t : ℕ) (w : List ℕ) (l : t < length m.teachers) (ok : wish_ok m.posts.schools w ≡ true) where
  abbrev pub then' : SheetsModel
  then' = record { posts = m.posts; teachers = set m.teachers t (with_wish w (get_or m.teachers t nobody)) }

  pub then_in_range : in_range m ≡ true → in_range then' ≡ true
  then_in_range h =
      let s = m.posts.schools in
      let j = m.posts.subjects in
      let p = and_parts (posts_ok m.posts) (staff_ok s j m.teachers) h in
      let q = and_parts (within 1 200 (length m.teachers)) (every (teacher_ok s j) m.teachers) p.1 in
      let old = every_at (teacher_ok s j) m.teachers t nobody q.1 l in
      and_from (posts_ok m.posts) (staff_ok s j then'.teachers) p.0
      (and_from (within 1 200 (length then'.teachers)) (every (teacher_ok s j) then'.teachers)
      (ap (within 1 200) (length-set m.teachers t (with_wish w (get_or m.teachers t nobody))) ∙ q.0)
      (every_set (teacher_ok s j) m.teachers t (with_wish w (get_or m.teachers t nobody)) q.1 (wish_kept s j (get_or m.teachers t nobody) w old ok)))

  pub then_kept : kept m ≡ true → kept then' ≡ true
  then_kept h = or_true (is_blank then') (in_range then') (then_in_range (someone m h (omega arith)))

  pub rewished_yes : rewished m t w ≡ (Ok tt, then')
  rewished_yes = rw (lt-ltb t (length m.teachers) l, ok) refl

pub rewished_no_teacher : (m : SheetsModel) (t : ℕ) (w : List ℕ) → length m.teachers ≤ t → ◌≡◌ {A = Result (Unit {0}) WishRefusal × SheetsModel} (Err NoTeacher, m) (rewished m t w)
rewished_no_teacher m t w h = rw (le-ltb t (length m.teachers) h) refl

pub rewished_no_wish : (m : SheetsModel) (t : ℕ) (w : List ℕ) → t < length m.teachers → wish_ok m.posts.schools w ≡ false → ◌≡◌ {A = Result (Unit {0}) WishRefusal × SheetsModel} (Err BadWishes, m) (rewished m t w)
rewished_no_wish m t w l h = rw (lt-ltb t (length m.teachers) l, h) refl

-- the code's record with the list w
module _ (ts : List Teacher) (t : ℕ) (x : Teacher) (l : t < length ts) (is : x ≡ get_or ts t x) (w : List ℕ) (list : BoundedList 12) (copied : listed list ≡ take 12 w) (few : length w ≤ 12) where
  abbrev pub written : Teacher
  written = record { home = x.home; main = x.main; also = x.also; wish = list; points = x.points; cost = x.cost }

  pub table_then : map teacher_record (set ts t written) ≡ set (map teacher_record ts) t (with_wish w (get_or (map teacher_record ts) t nobody))
  table_then =
      map-set teacher_record ts t written
      ∙ ap (λ (y : TeacherRecord). set (map teacher_record ts) t y)
      (ap (λ ns. with_wish ns (teacher_record x)) (copied ∙ take_all 12 w few) ∙ ap (with_wish w) (ap teacher_record is ∙ sym (get_or-map teacher_record ts t x nobody l)))

pub wish_few : (schools : ℕ) (w : List ℕ) → wish_ok schools w ≡ true → length w ≤ 12
wish_few schools w h = let p = (and_parts (few_within 12 schools w) (distinct w) h).0 in leb-true (length w) 12 (and_parts (leb (length w) 12) _ p).0
