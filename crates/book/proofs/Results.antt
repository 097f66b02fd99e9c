-- What the result sheet tells, line by line.
use Rattle.std.proofs.Common.{◌≡◌, ℕ, zero, suc, ◌+◌, ◌*◌, ◌<◌, ◌≤◌, Bool, eqb, ltb, ◌≢◌, List, [], ◌∷◌, ◌++◌, map, length, get_or, take, Some, Ok, Err, Result, vec_items, sym, refl, ap, ◌∙◌, ap₂, ⊎_elim, add-one, mul-suc, arith, length-append}
use Rattle.std.proofs.lemmas.List.{length-map, take_more, take_all}
use Rattle.std.proofs.lemmas.List.FromFn.{sum_by-map-range_with_len_more}
use Rattle.std.proofs.lemmas.List.Sums.{length-filter, sum_by_more}
use Rattle.std.specs.List.{filter, range_with_len, sum_by, count_by}
use Rattle.std.proofs.lemmas.Bool.{cases_lt, lt-ltb, ne_eqb, cond-true, cond-false}
use Rattle.bounded.specs.declared.list.Full.{Full}
use Rattle.bounded.specs.Listed.{listed, pushed}
use Rattle.matching.specs.Count.{bit, count, sum_to}
use Rattle.matching.specs.Log.{picks}
use Rattle.matching.specs.Market.{Board, clears, offer}
use Rattle.matching.proofs.Lists.{first_on}
use Rattle.matching.proofs.Offers.{board_clears_parts}
use Rattle.market.specs.Lists.{join_to}
use Rattle.market.specs.Tables.{person, pick_of}
use Rattle.sheets.specs.Held.{model_of}
use Rattle.sheets.specs.Model.{TeacherRecord, lane_record, teacher_record}
use Rattle.book.specs.declared.book.Book.{Book}
use Rattle.book.specs.Held.{book_model, state_of}
use Rattle.book.specs.Model.{Model, anyone, board_in, offer_in}
use Rattle.book.specs.Result.{row, raises, cuts, seats, result_bytes, result_sheet}
use Rattle.book.proofs.Asking.{rank_no_lane}

-- ---- offers are lanes of the round

module _ (b : Book) where
  abbrev bd : Board
  bd = board_in anyone (book_model b).0

  pub few_lanes : length (model_of b.sheets).posts.lanes ≤ 80
  few_lanes = omega (arith, length-map (vec_items b.sheets.lanes.items) lane_record, b.sheets.lanes.within)

  pub few_teachers : length (model_of b.sheets).teachers ≤ 200
  few_teachers = omega (arith, length-map (vec_items b.sheets.teachers.items) teacher_record, b.sheets.teachers.within)

  pub picks_len : length (vec_items b.picks.items) ≡ length (model_of b.sheets).teachers
  picks_len =
      let m = model_of b.sheets in
      sym (length-map (vec_items b.picks.items) listed) ∙ ap length b.picked ∙ length-map m.teachers (λ (y : TeacherRecord). pick_of m.posts (person y) y.wish)

  pub offer_inside : (t l : ℕ) → offer_in (book_model b) t ≡ Some l → l < length (model_of b.sheets).posts.lanes
  unfolding offer
  offer_inside t l e =
      let c = board_clears_parts bd (state_of b).cuts t l (first_on (clears bd (state_of b).cuts t) (picks bd (state_of b) t) l e).0 in
      ⊎_elim (λ (a : l < length (model_of b.sheets).posts.lanes). a)
      (λ (p : length (model_of b.sheets).posts.lanes ≤ l). omega (arith, c.0, rank_no_lane (vec_items b.ranks.table) (length (model_of b.sheets).posts.lanes) (length (model_of b.sheets).teachers) l t p))
      (cases_lt l (length (model_of b.sheets).posts.lanes))

-- ---- rows

module _ (f : ℕ → ℕ) where
  pub row_none : [] ≡ row f 0
  unfolding join_to
  row_none = refl

  row_suc : (n : ℕ) → row f (suc n) ≡ row f n ++ f n ∷ []
  unfolding join_to
  row_suc n = refl

  pub row_length : (n : ℕ) → length (row f n) ≡ n
  row_length zero = sym (ap length row_none)
  row_length (suc n) = ap length (row_suc n) ∙ length-append (row f n) (f n ∷ []) ∙ omega (arith, row_length n)

  pub row_more : (n : ℕ) → row f n ++ f n ∷ [] ≡ row f (n + 1)
  row_more n = sym (ap (row f) (add-one n) ∙ row_suc n)

  -- one number pushed
  pub row_push : (N n x : ℕ) (xs ys : List ℕ) (r : Result (Unit {0}) Full) → xs ≡ row f n → n < N → x ≡ f n → ◌≡◌ {A = Result (Unit {0}) Full × List ℕ} (r, ys) (pushed N xs x) → ys ≡ row f (n + 1)
  row_push N n x xs ys r e h d p =
      ap (λ (q : Result (Unit {0}) Full × List ℕ). q.1) (p ∙ cond-true (ltb (length xs) N) (Ok tt, xs ++ x ∷ []) (Err (record {}), xs) (lt-ltb (length xs) N (omega (arith, ap length e, row_length n))))
      ∙ ap (λ l. l ++ x ∷ []) e ∙ ap (λ k. row f n ++ k ∷ []) d ∙ row_more n

-- the entries of a list, in a row
pub row_entries : (xs : List ℕ) (d n : ℕ) → n ≤ length xs → take n xs ≡ row (λ l. get_or xs l d) n
row_entries xs d zero h = row_none (λ l. get_or xs l d)
row_entries xs d (suc n) h = ap (λ k. take k xs) (sym (add-one n)) ∙ take_more xs n d (omega arith) ∙ ap (λ l. l ++ get_or xs n d ∷ []) (row_entries xs d n (omega arith)) ∙ row_more (λ l. get_or xs l d) n ∙ ap (row (λ l. get_or xs l d)) (add-one n)

pub row_whole : (xs : List ℕ) (d n : ℕ) → length xs ≡ n → xs ≡ row (λ l. get_or xs l d) n
row_whole xs d n e = sym (take_all n xs (omega arith)) ∙ row_entries xs d n (omega arith)

-- ---- sums

module _ (f : ℕ → ℕ) where
  sum_taken : (xs : List ℕ) (d n : ℕ) → n ≤ length xs → sum_by f (take n xs) ≡ sum_to (λ l. f (get_or xs l d)) n
  unfolding sum_to
  sum_taken xs d zero h = refl
  sum_taken xs d (suc n) h =
      ap (λ k. sum_by f (take k xs)) (sym (add-one n)) ∙ sum_by_more f xs n d (omega arith) ∙ omega (arith, sum_taken xs d n (omega arith))

  pub sum_listed : (xs : List ℕ) (d n : ℕ) → length xs ≡ n → sum_by f xs ≡ sum_to (λ l. f (get_or xs l d)) n
  sum_listed xs d n e = ap (sum_by f) (sym (take_all n xs (omega arith))) ∙ sum_taken xs d n (omega arith)

  pub sum_low : (n m : ℕ) → ((l : ℕ) → f l ≤ m) → sum_to f n ≤ m * n
  unfolding sum_to
  sum_low zero m h = omega arith
  sum_low (suc n) m h = omega (arith, mul-suc m n, h n, sum_low n m h)

-- how many of the numbers below n pass
map_same : (xs : List ℕ) → map (λ x. x) xs ≡ xs
map_same [] = refl
map_same (x ∷ xs) = ap (λ ys. x ∷ ys) (map_same xs)

count_below : (p : ℕ → Bool) (n : ℕ) → count_by p (range_with_len 0 n) ≡ count p n
unfolding sum_to
count_below p zero = refl
count_below p (suc n) =
    ap (λ k. count_by p (range_with_len 0 k)) (sym (add-one n)) ∙ ap (count_by p) (sym (map_same (range_with_len 0 (n + 1))))
    ∙ sum_by-map-range_with_len_more (λ x. bit (p x)) (λ x. x) 0 n n (omega arith)
    ∙ omega (arith, ap (count_by p) (map_same (range_with_len 0 n)), count_below p n)

pub count_listed : (p : ℕ → Bool) (n : ℕ) → length (filter p (range_with_len 0 n)) ≡ count p n
count_listed p n = length-filter p (range_with_len 0 n) ∙ count_below p n

-- ---- the whole sheet

pub cuts_kept : (b : Book) → vec_items b.cutoffs.items ≡ cuts (book_model b)
cuts_kept b = row_whole (vec_items b.cutoffs.items) 1 (length (model_of b.sheets).posts.lanes) (omega (arith, b.sized))

pub sheet_is : (m : Model) (r : ℕ) (cs ss : List ℕ) → m.0.posts.schools ≢ 0 → r ≡ raises m → cs ≡ cuts m → ss ≡ seats m → result_bytes r cs ss ≡ result_sheet m
sheet_is m r cs ss n a b c =
    ap (λ x. result_bytes x cs ss) a ∙ ap₂ (λ x y. result_bytes (raises m) x y) b c ∙ sym (cond-false (eqb m.0.posts.schools 0) [] (result_bytes (raises m) (cuts m) (seats m)) (ne_eqb m.0.posts.schools 0 n))
