-- Pick lists are at most as long as the lanes are many. Assumes nothing.
use Rattle.std.proofs.Common.{◌≡◌, ℕ, zero, suc, ◌+◌, ◌<◌, ◌≤◌, Bool, true, false, cond, not, ◌&&◌, eqb, List, [], ◌∷◌, ◌++◌, length, get_or, sym, refl, inl, inr, arith, length-append}
use Rattle.std.proofs.lemmas.Bool.{both_ways, cases_Bool, and_parts, and_from, or_cases, or_left, or_right, eqb-true, eq-eqb, not-true, not_from_false}
use Rattle.lines.specs.Entries.{has, distinct}
use Rattle.matching.specs.Count.{sum_to, count, bit}
use Rattle.matching.proofs.Counts.{count_apart, count_bound}
use Rattle.sheets.specs.Model.{LaneRecord}
use Rattle.sheets.specs.Ranges.{few_within}
use Rattle.market.specs.Described.{PickListsAreShort}
use Rattle.market.specs.Lists.{join_to, keep_to, gather}
use Rattle.market.specs.Tables.{Person, no_lane, newcomer, unnamed, completed, main_at, also_at, at_school, pick_of, person_at}
use Rattle.market.proofs.Pieces.{has_either, has_join}

-- ---- the completed wish list names no school twice

pub distinct-++ : (xs ys : List ℕ) → distinct xs ≡ true → distinct ys ≡ true → ((x : ℕ) → has x xs ≡ true → has x ys ≡ true → ⊥) → distinct (xs ++ ys) ≡ true
distinct-++ [] ys h k d = k
distinct-++ (x ∷ xs) ys h k d =
    let u = and_parts (not (has x xs)) (distinct xs) h in
    and_from (not (has x (xs ++ ys))) (distinct (xs ++ ys)) (not_from_false _ (fresh (not-true _ u.0)))
    (distinct-++ xs ys u.1 k (λ y i j. d y (or_right (eqb x y) (has y xs) i) j))
  where
    fresh : has x xs ≡ false → has x (xs ++ ys) ≡ false
    fresh n = elim (cases_Bool (has x (xs ++ ys))) [
      | inl e ↦ absurd (elim (has_either x xs ys e) [
        | inl f ↦ both_ways _ n f
        | inr f ↦ d x (or_left (eqb x x) (has x xs) (eq-eqb x x refl)) f
      ])
      | inr e ↦ e
    ]

-- pieces without repeats that share no number
pub distinct_join : (f : ℕ → List ℕ) (n : ℕ) → ((i : ℕ) → distinct (f i) ≡ true) → ((i j x : ℕ) → i < j → has x (f i) ≡ true → has x (f j) ≡ true → ⊥) → distinct (join_to f n) ≡ true
unfolding join_to
distinct_join f zero h d = refl
distinct_join f (suc n) h d = distinct-++ (join_to f n) (f n) (distinct_join f n h d) (h n) (λ x i j. let r = has_join x f n i in d r.0 n x r.1 r.2 j)

module _ (w : List ℕ) where
  piece : ℕ → List ℕ
  piece k = cond (has (k + 1) w) [] ((k + 1) ∷ [])

  -- a number of a piece is the piece's, and is not named
  in_piece : (k x : ℕ) → has x (piece k) ≡ true → (k + 1 ≡ x) × (has x w ≡ false)
  unfolding piece
  in_piece k x h = go (has (k + 1) w) refl h
    where
      go : (b : Bool) → has (k + 1) w ≡ b → has x (cond b [] ((k + 1) ∷ [])) ≡ true → (k + 1 ≡ x) × (has x w ≡ false)
      go true e i = absurd (both_ways false refl i)
      go false e i = elim (or_cases (eqb (k + 1) x) false i) [
        | inl j ↦ let q = eqb-true (k + 1) x j in (q, rw q at e)
        | inr j ↦ absurd (both_ways false refl j)
      ]

  piece_distinct : (k : ℕ) → distinct (piece k) ≡ true
  unfolding piece
  piece_distinct k = elim (cases_Bool (has (k + 1) w)) [ inl e ↦ rw e refl | inr e ↦ rw e refl ]

  unnamed_distinct : (schools : ℕ) → distinct (unnamed schools w) ≡ true
  unfolding piece
  unnamed_distinct schools = distinct_join piece schools piece_distinct (λ i j x k a b. omega (arith, (in_piece i x a).0, (in_piece j x b).0))

  unnamed_fresh : (schools x : ℕ) → has x w ≡ true → has x (unnamed schools w) ≡ true → ⊥
  unfolding piece
  unnamed_fresh schools x h k = let r = has_join x piece schools k in both_ways _ (in_piece r.0 x r.2).1 h

  pub completed_distinct : (schools : ℕ) (p : Person) → distinct w ≡ true → distinct (completed schools p w) ≡ true
  unfolding completed
  completed_distinct schools p h = go (newcomer p)
    where
      go : (b : Bool) → distinct (w ++ cond b [] (unnamed schools w)) ≡ true
      go true = distinct-++ w [] h refl (λ x i j. both_ways false refl j)
      go false = distinct-++ w (unnamed schools w) h (unnamed_distinct schools) (unnamed_fresh schools)

-- ---- how long the lists are

pub length_keep : (p : ℕ → Bool) (n : ℕ) → length (keep_to p n) ≡ count p n
unfolding join_to sum_to
length_keep p zero = refl
length_keep p (suc n) = omega (arith, length-append (keep_to p n) (cond (p n) (n ∷ []) []), one (p n), length_keep p n)
  where
    one : (b : Bool) → length (cond b (n ∷ []) []) ≡ bit b
    one true = refl
    one false = refl

module _ (ls : List LaneRecord) (p : Person) where
  -- the lane is at one of the schools
  abbrev sited : List ℕ → ℕ → Bool
  sited ss l = has (get_or ls l no_lane).school ss

  abbrev stands : ℕ → ℕ → Bool
  stands s l = eqb (get_or ls l no_lane).school s

  at_school_short : (s : ℕ) → length (at_school ls p s) ≤ count (stands s) (length ls)
  unfolding at_school
  at_school_short s = omega (
    arith,
    length-append (keep_to main (length ls)) (keep_to also (length ls)),
    length_keep main (length ls),
    length_keep also (length ls),
    count_apart main also (stands s) (length ls)
        (λ l _ h. (and_parts (stands s l) (same l) h).0)
        (λ l _ h. (and_parts (stands s l) (not (same l) && has (get_or ls l no_lane).subject p.also) h).0)
        (λ l _ h k. both_ways (same l)
        (not-true _ (and_parts (not (same l)) (has (get_or ls l no_lane).subject p.also) (and_parts (stands s l) (not (same l) && has (get_or ls l no_lane).subject p.also) k).1).0)
        (and_parts (stands s l) (same l) h).1),
  )
    where
      main : ℕ → Bool
      main = λ l. main_at p s (get_or ls l no_lane)

      also : ℕ → Bool
      also = λ l. also_at p s (get_or ls l no_lane)

      same : ℕ → Bool
      same l = eqb (get_or ls l no_lane).subject p.main

  -- no lane is at two schools, so what the schools give adds up
  gather_short : (ss : List ℕ) → distinct ss ≡ true → length (gather (at_school ls p) ss) ≤ count (sited ss) (length ls)
  unfolding gather
  gather_short [] h = omega arith
  gather_short (s ∷ ss) h =
      let u = and_parts (not (has s ss)) (distinct ss) h in
      omega (
        arith,
        length-append (at_school ls p s) (gather (at_school ls p) ss),
        at_school_short s,
        gather_short ss u.1,
        count_apart (stands s) (sited ss) (sited (s ∷ ss)) (length ls)
            (λ l _ k. or_left (eqb s (get_or ls l no_lane).school) (sited ss l) (eq-eqb _ _ (sym (eqb-true _ _ k))))
            (λ l _ k. or_right (eqb s (get_or ls l no_lane).school) (sited ss l) k)
            (λ l _ i k. both_ways (has s ss) (not-true _ u.0) (rw (eqb-true (get_or ls l no_lane).school s i) at k)),
      )

pub pick_lists_are_short_lem : PickListsAreShort
unfolding pick_of
pick_lists_are_short_lem T t w h =
    let d = (and_parts (few_within 12 T.posts.schools w) (distinct w) h).1 in
    let ss = completed T.posts.schools (person_at T t) w in
    omega (
      arith,
      gather_short T.posts.lanes (person_at T t) ss (completed_distinct w T.posts.schools (person_at T t) d),
      count_bound (sited T.posts.lanes (person_at T t) ss) (length T.posts.lanes),
    )
