-- Ranks and offers that are read from a book.
use Rattle.std.proofs.Common.{◌≡◌, ℕ, ◌+◌, ◌<◌, ◌≤◌, Bool, true, false, cond, not, ◌&&◌, eqb, ltb, leb, List, [], map, length, get_or, drop, replicate, Some, None, sym, refl, ap, ◌∙◌, ap₂, ⊎_elim, arith}
use lib.ListN.{length-replicate}
use Rattle.std.proofs.lemmas.List.{get_or_past, get_or-map, get_or-replicate, length-map, at_drop_more, at_drop_all}
use Rattle.std.proofs.lemmas.Bool.{cases_lt, lt-ltb, le-ltb, cond-true, cond-false}
use Rattle.bounded.specs.Listed.{listed}
use Rattle.bounded.specs.declared.list.BoundedList.{BoundedList}
use Rattle.matching.specs.Groups.{told}
use Rattle.matching.specs.Log.{picks}
use Rattle.matching.specs.Market.{clears, offer}
use Rattle.matching.specs.Picks.{first}
use Rattle.market.specs.Lists.{gather}
use Rattle.market.specs.Tables.{person, stranger, person_at, pick_of, completed, wishes_of}
use Rattle.sheets.specs.Model.{SheetsModel, TeacherRecord}
use Rattle.sheets.specs.Tables.{nobody}
use Rattle.book.specs.Model.{Model, unwished, fixed_from, tables_in, board_in, anyone, clears_in, offer_in, entry_in, rank_in, picks_of}

-- ---- ranks

module _ (table : List (List ℕ)) (lanes teachers l t : ℕ) where
  pub rank_no_lane : lanes ≤ l → 0 ≡ rank_in table lanes teachers l t
  rank_no_lane a = sym (cond-false (ltb l lanes && ltb t teachers) (entry_in table l t) 0 (ap (λ x. x && ltb t teachers) (le-ltb l lanes a)))

  pub rank_no_teacher : teachers ≤ t → 0 ≡ rank_in table lanes teachers l t
  rank_no_teacher b = sym (cond-false (ltb l lanes && ltb t teachers) (entry_in table l t) 0 (no (ltb l lanes) (ltb t teachers) (le-ltb t teachers b)))
    where
      no : (x y : Bool) → y ≡ false → (x && y) ≡ false
      no true y e = e
      no false y e = refl

module _ (m : Model) (t l : ℕ) where
  pub clears_no : m.0.ranks l t ≡ 0 → false ≡ clears_in m t l
  unfolding clears
  clears_no e = sym (ap (λ r. ltb 0 r && leb (m.1.cuts l) r) e)

  pub clears_yes : (m.0.ranks l t ≡ 0 → ⊥) → leb (m.1.cuts l) (m.0.ranks l t) ≡ clears_in m t l
  unfolding clears
  clears_yes n = sym (ap (λ b. b && leb (m.1.cuts l) (m.0.ranks l t)) (lt-ltb 0 (m.0.ranks l t) (omega (arith, n))))

-- ---- offers

module _ (p : ℕ → Bool) (xs : List ℕ) (i : ℕ) where
  pub first_hit : i < length xs → p (get_or xs i 0) ≡ true → first p (drop i xs) ≡ Some (get_or xs i 0)
  unfolding first
  first_hit h e = at_drop_more (first p) xs i 0 h ∙ cond-true _ _ _ e

  pub first_miss : i < length xs → p (get_or xs i 0) ≡ false → first p (drop i xs) ≡ first p (drop (i + 1) xs)
  unfolding first
  first_miss h e = at_drop_more (first p) xs i 0 h ∙ cond-false _ _ _ e

  pub first_none : length xs ≤ i → first p (drop i xs) ≡ None
  unfolding first
  first_none h = at_drop_all (first p) xs i h

-- the stored pick list is the one by the wishes
module _ (m : SheetsModel) (ranks : ℕ → ℕ → ℕ) (cuts : ℕ → ℕ) (posted : Bool) (t : ℕ) where
  abbrev pub book : Model
  book = (fixed_from m ranks, record { wishes = wishes_of m; cuts = cuts; posted = posted })

  abbrev pub list : List ℕ
  list = picks (board_in anyone book.0) book.1 t

  person_at_lem : t < length m.teachers → person_at (tables_in book.0) t ≡ person (get_or m.teachers t nobody)
  person_at_lem h =
      get_or-map person (map unwished m.teachers) t nobody stranger (omega (arith, length-map m.teachers unwished))
      ∙ ap person (get_or-map unwished m.teachers t nobody nobody h)

  pub list_stored : (ps : List (BoundedList 80)) → map listed ps ≡ picks_of m → (x : BoundedList 80) → t < length m.teachers → x ≡ get_or ps t x → listed x ≡ list
  list_stored ps e x h r =
      let f : TeacherRecord → List ℕ = λ y. pick_of m.posts (person y) y.wish in
      let n : length ps ≡ length m.teachers = sym (length-map ps listed) ∙ ap length e ∙ length-map m.teachers f in
      ap listed r ∙ sym (get_or-map listed ps t x [] (omega (arith, n))) ∙ ap (λ (xs : List (List ℕ)). get_or xs t []) e ∙ get_or-map f m.teachers t nobody [] h
      ∙ sym (ap₂ (pick_of m.posts) (person_at_lem h) (get_or-map (λ (y : TeacherRecord). y.wish) m.teachers t nobody [] h))

  -- past the teachers there is no offer
  pub no_list : length m.teachers ≤ t → list ≡ []
  unfolding pick_of completed gather
  no_list h =
      ap₂ (pick_of m.posts) (get_or_past (tables_in book.0).people t stranger (omega (arith, length-map (map unwished m.teachers) person, length-map m.teachers unwished)))
      (get_or_past (map (λ (y : TeacherRecord). y.wish) m.teachers) t [] (omega (arith, length-map m.teachers (λ (y : TeacherRecord). y.wish))))

  pub no_offer : length m.teachers ≤ t → None ≡ offer_in book t
  unfolding offer first
  no_offer h = sym (ap (first (clears_in book t)) (no_list h))

-- ---- the offers of all

module _ {A : Type 0} (f : ℕ → A) (d : A) where
  -- the first i entries are those of f, the others d
  abbrev pub EachTo : List A → ℕ → Type 0
  EachTo xs i = (t : ℕ) → get_or xs t d ≡ cond (ltb t i) (f t) d

  pub each_none : (n : ℕ) → EachTo (replicate n d) 0
  each_none n t = ⊎_elim (λ (a : t < n). get_or-replicate n t d d a) (λ (b : n ≤ t). get_or_past (replicate n d) t d (omega (arith, length-replicate n d))) (cases_lt t n)
      ∙ sym (cond-false (ltb t 0) (f t) d (le-ltb t 0 (omega arith)))

  pub each_all : (xs : List A) (n : ℕ) → ((t : ℕ) → n ≤ t → f t ≡ d) → EachTo xs n → (t : ℕ) → get_or xs t d ≡ f t
  each_all xs n past s t = ⊎_elim
      (λ (a : t < n). s t ∙ cond-true (ltb t n) (f t) d (lt-ltb t n a))
      (λ (b : n ≤ t). s t ∙ cond-false (ltb t n) (f t) d (le-ltb t n b) ∙ sym (past t b))
      (cases_lt t n)

-- a row of marks
pub row_told : (row : List ℕ) (g : ℕ → Bool) → ((t : ℕ) → 200 ≤ t → g t ≡ false) → ((t : ℕ) → get_or row t 0 ≡ cond (g t) 1 0) → (t : ℕ) → told row t ≡ g t
row_told row g past s t = ⊎_elim
    (λ (a : t < 200). ap (λ b. b && not (eqb (get_or row t 0) 0)) (lt-ltb t 200 a) ∙ ap (λ k. not (eqb k 0)) (s t) ∙ bit (g t))
    (λ (b : 200 ≤ t). ap (λ x. x && not (eqb (get_or row t 0) 0)) (le-ltb t 200 b) ∙ sym (past t b))
    (cases_lt t 200)
  where
    bit : (x : Bool) → not (eqb (cond x 1 0) 0) ≡ x
    bit true = refl
    bit false = refl
