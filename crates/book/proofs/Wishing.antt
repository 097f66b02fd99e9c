-- A book with another wish list for one teacher.
use Rattle.std.proofs.Common.{◌≡◌, ℕ, ◌<◌, ◌≤◌, Bool, true, false, cond, ◌&&◌, eqb, ltb, ◌≢◌, List, [], map, length, get_or, take, set, Ok, Err, Result, sym, refl, ap, ◌∙◌, ap₂, ⊎_elim, arith, length-set, get_or-set_other, get_or-set_same}
use mathlib.Core.Path.{fun_ext}
use Rattle.std.proofs.lemmas.List.{get_or-map, length-map, map-set, set-get_or}
use Rattle.std.proofs.lemmas.Bool.{cases_eq, ltb-true, eq-eqb, ne_eqb, cond-true, cond-false, and_parts, and_from}
use Rattle.bounded.specs.Listed.{listed}
use Rattle.bounded.specs.declared.list.BoundedList.{BoundedList}
use Rattle.matching.specs.Log.{State, put}
use Rattle.market.specs.Tables.{person, pick_of, wishes_of}
use Rattle.sheets.specs.declared.records.Teacher.{Teacher}
use Rattle.sheets.specs.declared.refusals.WishRefusal.{WishRefusal}
use Rattle.sheets.specs.declared.refusals.WishRefusal.TheVariants.{NoTeacher, BadWishes}
use Rattle.sheets.specs.Model.{SheetsModel, TeacherRecord, teacher_record}
use Rattle.sheets.specs.Ranges.{wish_ok}
use Rattle.sheets.specs.Tables.{with_wish, nobody, rewished}
use Rattle.book.specs.Model.{Fixed, Model, unwished, fixed_from, rank_in, picks_of, wished}
use Rattle.book.proofs.Changes.{pick_short}

-- there is such a teacher (a) and the list is acceptable (b): the answer, with y or z
abbrev judged : {C : Type 0} → Bool → Bool → C → C → Result (Unit {0}) WishRefusal × C
judged a b y z = cond a (cond b (Ok tt, y) (Err BadWishes, z)) (Err NoTeacher, z)

no_ok : (x : WishRefusal) → ◌≡◌ {A = Result (Unit {0}) WishRefusal} (Ok tt) (Err x) → ⊥
no_ok x e = grind arith

module _ (m : SheetsModel) (t : ℕ) (w : List ℕ) where
  -- there is such a teacher, and the list is acceptable
  abbrev pub test : Bool
  test = ltb t (length m.teachers) && wish_ok m.posts.schools w

  abbrev pub record' : TeacherRecord
  record' = with_wish w (get_or m.teachers t nobody)

  abbrev pub after : SheetsModel
  after = record { posts = m.posts; teachers = set m.teachers t record' }

  -- what the answer of the sheets says
  pub said_yes : (n : SheetsModel) → ◌≡◌ {A = Result (Unit {0}) WishRefusal × SheetsModel} (Ok tt, n) (rewished m t w) → (test ≡ true) × (n ≡ after)
  said_yes n e = by (ltb t (length m.teachers)) (wish_ok m.posts.schools w) refl refl e
    where
      by : (a b : Bool) → ltb t (length m.teachers) ≡ a → wish_ok m.posts.schools w ≡ b → ◌≡◌ {A = Result (Unit {0}) WishRefusal × SheetsModel} (Ok tt, n) (judged a b after m) → (test ≡ true) × (n ≡ after)
      by true true h k e = (and_from _ _ h k, ap (λ p. p.1) e)
      by true false h k e = absurd (no_ok BadWishes (ap (λ p. p.0) e))
      by false b h k e = absurd (no_ok NoTeacher (ap (λ p. p.0) e))

  pub teacher_in : test ≡ true → t < length m.teachers
  teacher_in h = ltb-true t (length m.teachers) (and_parts (ltb t (length m.teachers)) (wish_ok m.posts.schools w) h).0

  pub list_ok : test ≡ true → wish_ok m.posts.schools w ≡ true
  list_ok h = (and_parts (ltb t (length m.teachers)) (wish_ok m.posts.schools w) h).1

  -- what stays the same
  staff_same : test ≡ true → map unwished after.teachers ≡ map unwished m.teachers
  staff_same h =
      map-set unwished m.teachers t record'
      ∙ ap (set (map unwished m.teachers) t) (sym (get_or-map unwished m.teachers t nobody nobody (teacher_in h)))
      ∙ set-get_or (map unwished m.teachers) t nobody

  wishes_put : test ≡ true → wishes_of after ≡ put (wishes_of m) t w
  wishes_put h = fun_ext (λ u. ap (λ (xs : List (List ℕ)). get_or xs u []) (map-set (λ (r : TeacherRecord). r.wish) m.teachers t record') ∙ at u)
    where
      at : (u : ℕ) → get_or (set (map (λ (r : TeacherRecord). r.wish) m.teachers) t w) u [] ≡ cond (eqb u t) w (get_or (map (λ (r : TeacherRecord). r.wish) m.teachers) u [])
      at u = ⊎_elim
          (λ (e : u ≡ t). ap (λ i. get_or (set (map (λ (r : TeacherRecord). r.wish) m.teachers) t w) i []) e
          ∙ get_or-set_same (map (λ (r : TeacherRecord). r.wish) m.teachers) t w [] (omega (arith, teacher_in h, length-map m.teachers (λ (r : TeacherRecord). r.wish)))
          ∙ sym (cond-true (eqb u t) w (get_or (map (λ (r : TeacherRecord). r.wish) m.teachers) u []) (eq-eqb u t e)))
          (λ (e : u ≢ t). get_or-set_other (map (λ (r : TeacherRecord). r.wish) m.teachers) t u w [] e ∙ sym (cond-false (eqb u t) w (get_or (map (λ (r : TeacherRecord). r.wish) m.teachers) u []) (ne_eqb u t e)))
          (cases_eq u t)

  -- ---- the book's answer

  module _ (table : List (List ℕ)) (cuts : ℕ → ℕ) (posted : Bool) where
    abbrev pub held : SheetsModel → (ℕ → ℕ) → Model
    held x c = (fixed_from x (rank_in table (length x.posts.lanes) (length x.teachers)), record { wishes = wishes_of x; cuts = c; posted = posted })

    abbrev changed : Model
    changed = ((held m cuts).0, record { wishes = put (wishes_of m) t w; cuts = λ _. 1; posted = posted })

    judged_wished : wished (held m cuts) t w ≡ judged (ltb t (length m.teachers)) (wish_ok m.posts.schools w) changed (held m cuts)
    judged_wished = ap (λ k. judged (ltb t k) (wish_ok m.posts.schools w) changed (held m cuts)) (length-map m.teachers unwished)

    held_after : test ≡ true → held after (λ _. 1) ≡ changed
    held_after h =
        ap₂ {C = Model} (λ (F : Fixed) (s : State). (F, s))
        (ap₂ {C = Fixed} (λ (xs : List TeacherRecord) (k : ℕ). record { posts = m.posts; staff = xs; ranks = rank_in table (length m.posts.lanes) k }) (staff_same h) (length-set m.teachers t record'))
        (ap (λ (v : ℕ → List ℕ). record { wishes = v; cuts = λ _. 1; posted = posted }) (wishes_put h))

    pub wished_yes : test ≡ true → (n : SheetsModel) → n ≡ after → (c : ℕ → ℕ) → c ≡ (λ _. 1) → ◌≡◌ {A = Result (Unit {0}) WishRefusal × Model} (Ok tt, held n c) (wished (held m cuts) t w)
    wished_yes h n e c f =
        let both = and_parts (ltb t (length m.teachers)) (wish_ok m.posts.schools w) h in
        ap₂ (λ x d. (Ok tt, held x d)) e f ∙ ap (λ x. (Ok tt, x)) (held_after h)
        ∙ sym (judged_wished ∙ ap₂ (λ a b. judged a b changed (held m cuts)) both.0 both.1)

  -- ---- the pick lists

  module _ (h : test ≡ true) (few : length m.posts.lanes ≤ 80) (picks : List (BoundedList 80)) (picked : map listed picks ≡ picks_of m) where
    -- the record that was read after the change
    module _ (n : SheetsModel) (is : n ≡ after) (ts : List Teacher) (value : map teacher_record ts ≡ n.teachers) where
      pub after_in : t < length ts
      after_in = omega (arith, teacher_in h, length-map ts teacher_record, ap length value, ap (λ (s : SheetsModel). length s.teachers) is, length-set m.teachers t record')

      after_read : (x : Teacher) → teacher_record (get_or ts t x) ≡ record'
      after_read x =
          sym (get_or-map teacher_record ts t x nobody after_in) ∙ ap (λ (rs : List TeacherRecord). get_or rs t nobody) (value ∙ ap (λ (s : SheetsModel). s.teachers) is)
          ∙ get_or-set_same m.teachers t record' nobody (teacher_in h)

      pub picks_after : (list : BoundedList 80) (y : Teacher) → y ≡ get_or ts t y → listed list ≡ take 80 (pick_of n.posts (person (teacher_record y)) w) → map listed (set picks t list) ≡ picks_of n
      picks_after list y e q =
          map-set listed picks t list
          ∙ ap₂ (λ (xs : List (List ℕ)) (z : List ℕ). set xs t z) picked
          (q ∙ ap₂ (λ (s : SheetsModel) (r : TeacherRecord). take 80 (pick_of s.posts (person r) w)) is (ap teacher_record e ∙ after_read y) ∙ pick_short m.posts (person record') w (list_ok h) few)
          ∙ sym (map-set (λ (r : TeacherRecord). pick_of m.posts (person r) r.wish) m.teachers t record')
          ∙ sym (ap picks_of is)
