-- Sheets within their ranges describe a lawful market. Assumes nothing.
use Rattle.std.proofs.Common.{◌≡◌, ℕ, zero, suc, ◌+◌, ◌-◌, ◌<◌, ◌≤◌, Bool, true, false, cond, not, ◌&&◌, eqb, ltb, leb, List, [], ◌∷◌, length, get_or, sym, refl, ◌∙◌, inl, inr, arith}
use Rattle.std.proofs.lemmas.Bool.{cases_Bool, both_ways, and_parts, and_from, or_left, or_right, ltb-true, leb-true, lt-ltb, eqb-true, eq-eqb, not-true, cond-true}
use Rattle.std.proofs.lemmas.List.{get_or-map}
use Rattle.lines.specs.Entries.{has, within}
use Rattle.matching.specs.Groups.{Group}
use Rattle.matching.specs.Market.{Laws, OwnLaws, Picked, OwnPicked, own}
use Rattle.matching.specs.Orders.{Total}
use Rattle.matching.specs.Ranking.{stands_before}
use Rattle.matching.proofs.Ranking.{stands_total}
use Rattle.sheets.specs.Model.{LaneRecord, PostsModel, SheetsModel}
use Rattle.sheets.specs.Ranges.{in_range, posts_ok, staff_ok, lane_ok, every, apart}
use Rattle.market.specs.Described.{Policies, SheetsDescribeALawfulMarket}
use Rattle.market.specs.Lists.{keep_to}
use Rattle.market.specs.Tables.{Person, Tables, tables_of, market_of, no_lane, stranger, newcomer, teaches, band_of, band_in, unnamed, completed, main_at, also_at, at_school, pick_of, lane_at, person_at, licensed_for, bands_of}
use Rattle.market.proofs.Pieces.{on_has, has_on, has_either, has_first, has_second, join_has, has_gather, gather_has, has_keep, keep_has}

-- ---- pick lists

-- what a school gives is lanes of the round, of subjects that the teacher is licensed for
pub at_school_lem : (ls : List LaneRecord) (p : Person) (s l : ℕ) → has l (at_school ls p s) ≡ true → (l < length ls) × (teaches p (get_or ls l no_lane).subject ≡ true)
unfolding at_school
at_school_lem ls p s l h = elim (has_either l (keep_to main (length ls)) (keep_to also (length ls)) h) [
  | inl e ↦ let r = has_keep l main (length ls) e in
      let u = and_parts (eqb x.school s) (eqb x.subject p.main) r.1 in
      (r.0, or_left (eqb p.main x.subject) (has x.subject p.also) (eq-eqb _ _ (sym (eqb-true _ _ u.1))))
  | inr e ↦ let r = has_keep l also (length ls) e in
      let u = and_parts (eqb x.school s) (not (eqb x.subject p.main) && has x.subject p.also) r.1 in
      (r.0, or_right (eqb p.main x.subject) (has x.subject p.also) (and_parts (not (eqb x.subject p.main)) (has x.subject p.also) u.1).1)
]
  where
    x : LaneRecord
    x = get_or ls l no_lane

    main : ℕ → Bool
    main = λ k. main_at p s (get_or ls k no_lane)

    also : ℕ → Bool
    also = λ k. also_at p s (get_or ls k no_lane)

-- the lane of the main subject is given at its school
pub main_at_school : (ls : List LaneRecord) (p : Person) (l : ℕ) → l < length ls → eqb p.main (get_or ls l no_lane).subject ≡ true
    → has l (at_school ls p (get_or ls l no_lane).school) ≡ true
unfolding at_school
main_at_school ls p l k h =
    has_first l (keep_to main (length ls)) (keep_to (λ j. also_at p s (get_or ls j no_lane)) (length ls))
    (keep_has l main (length ls) k (and_from (eqb s s) (eqb (get_or ls l no_lane).subject p.main) (eq-eqb _ _ refl) (eq-eqb _ _ (sym (eqb-true _ _ h)))))
  where
    s : ℕ
    s = (get_or ls l no_lane).school

    main : ℕ → Bool
    main = λ j. main_at p s (get_or ls j no_lane)

-- an incumbent's completed wish list has every school of the round
pub completed_has : (schools : ℕ) (p : Person) (w : List ℕ) → newcomer p ≡ false → (s : ℕ) → 0 < s → s ≤ schools → has s (completed schools p w) ≡ true
unfolding completed
completed_has schools p w n s low high = elim (cases_Bool (has s w)) [
  | inl e ↦ has_first s w (cond (newcomer p) [] (unnamed schools w)) e
  | inr e ↦ has_second s w (cond (newcomer p) [] (unnamed schools w))
      (rw n (join_has s (λ k. cond (has (k + 1) w) [] ((k + 1) ∷ [])) schools (s - 1) (omega arith) (rw back (rw e (or_left (eqb s s) false (eq-eqb s s refl))))))
]
  where
    back : s - 1 + 1 ≡ s
    back = omega arith

module _ (m : PostsModel) (p : Person) (w : List ℕ) where
  pub picked_of : (l : ℕ) → has l (pick_of m p w) ≡ true → (l < length m.lanes) × (teaches p (get_or m.lanes l no_lane).subject ≡ true)
  unfolding pick_of
  picked_of l h = let r = has_gather l (at_school m.lanes p) (completed m.schools p w) h in at_school_lem m.lanes p r.0 l r.2

  -- an incumbent's list has every lane of the main subject whose school is one of the round
  pub own_picked_of : newcomer p ≡ false → (l : ℕ) → l < length m.lanes → eqb p.main (get_or m.lanes l no_lane).subject ≡ true
      → 0 < (get_or m.lanes l no_lane).school → (get_or m.lanes l no_lane).school ≤ m.schools → has l (pick_of m p w) ≡ true
  unfolding pick_of
  own_picked_of n l k e low high =
      gather_has l (at_school m.lanes p) (get_or m.lanes l no_lane).school (completed m.schools p w)
      (completed_has m.schools p w n (get_or m.lanes l no_lane).school low high) (main_at_school m.lanes p l k e)

-- ---- bands

first_band : (p : Person) (k : ℕ) → (not (newcomer p) && eqb p.main k) ≡ true → band_of p k ≡ 1
first_band p k h = go (newcomer p) (eqb p.main k) h
  where
    go : (x y : Bool) → (not x && y) ≡ true → ◌≡◌ {A = ℕ} (cond x (cond y 3 4) (cond y 1 2)) 1
    go true y h = absurd (both_ways false refl h)
    go false true h = refl
    go false false h = absurd (both_ways false refl h)

later_band : (p : Person) (k : ℕ) → (not (newcomer p) && eqb p.main k) ≡ false → 1 < band_of p k
later_band p k h = go (newcomer p) (eqb p.main k) h
  where
    go : (x y : Bool) → (not x && y) ≡ false → 1 < cond x (cond y 3 4) (cond y 1 2)
    go true true h = omega arith
    go true false h = omega arith
    go false true h = absurd (both_ways true h refl)
    go false false h = omega arith

-- ---- the laws

-- each lane is at a school of the round
abbrev Placed : Tables → Type 0
Placed T = (l : ℕ) → l < length T.posts.lanes → (0 < (lane_at T l).school) × ((lane_at T l).school ≤ T.posts.schools)

module _ (T : Tables) where
  licensed_parts : (t l : ℕ) → licensed_for T t l ≡ true → (t < length T.people) × (l < length T.posts.lanes) × (teaches (person_at T t) (lane_at T l).subject ≡ true)
  licensed_parts t l h =
      let u = and_parts (ltb t (length T.people)) (ltb l (length T.posts.lanes) && teaches (person_at T t) (lane_at T l).subject) h in
      let v = and_parts (ltb l (length T.posts.lanes)) (teaches (person_at T t) (lane_at T l).subject) u.1 in
      (ltb-true _ _ u.0, ltb-true _ _ v.0, v.1)

  licensed_from : (t l : ℕ) → t < length T.people → l < length T.posts.lanes → teaches (person_at T t) (lane_at T l).subject ≡ true → licensed_for T t l ≡ true
  licensed_from t l j k h =
      and_from (ltb t (length T.people)) (ltb l (length T.posts.lanes) && teaches (person_at T t) (lane_at T l).subject) (lt-ltb _ _ j)
      (and_from (ltb l (length T.posts.lanes)) (teaches (person_at T t) (lane_at T l).subject) (lt-ltb _ _ k) h)

  -- a licensed teacher's entry in the row of bands is the band
  band_at : (t l : ℕ) → licensed_for T t l ≡ true → get_or (bands_of T l) t 0 ≡ band_of (person_at T t) (lane_at T l).subject
  band_at t l h = let u = licensed_parts t l h in
      get_or-map (band_in (lane_at T l).subject) T.people t stranger 0 u.0
      ∙ cond-true (teaches (person_at T t) (lane_at T l).subject) (band_of (person_at T t) (lane_at T l).subject) 0 u.2

  module _ (ahead : ℕ → ℕ → ℕ → Bool) (family : ℕ → Group → Bool) where
    laws_of : Policies ahead family → Laws (market_of ahead family T)
    laws_of P = record {
      range = λ t l h. let u = licensed_parts t l h in (u.0, u.1);
      one_way = λ l a b _ _. (order l).one_way a b;
      chain = λ l a b c _ _ _. (order l).chain a b c;
      linear = λ l a b _ _. (order l).linear a b;
      empty = λ l. P.empty (l + 1);
      part = λ l g h i k. P.part (l + 1) h g i k;
    }
      where
        order : (l : ℕ) → Total (stands_before ahead (l + 1) (bands_of T l))
        order l = stands_total ahead P.one_way P.between (l + 1) (bands_of T l)

    own_laws_of : OwnLaws (market_of ahead family T)
    own_laws_of = record {
      own_licensed = λ t l j k o. licensed_from t l j k (or_left (eqb (person_at T t).main (lane_at T l).subject) (has (lane_at T l).subject (person_at T t).also)
          (and_parts (not (newcomer (person_at T t))) (eqb (person_at T t).main (lane_at T l).subject) o).1);
      own_first = λ l a b i j o n. let e = lower l a b i j o n in rw e refl;
    }
      where
        lower : (l a b : ℕ) → licensed_for T a l ≡ true → licensed_for T b l ≡ true → own (market_of ahead family T) a l ≡ true → own (market_of ahead family T) b l ≡ false
            → ltb (get_or (bands_of T l) a 0) (get_or (bands_of T l) b 0) ≡ true
        lower l a b i j o n = lt-ltb _ _ (omega (
          arith,
          band_at a l i,
          band_at b l j,
          first_band (person_at T a) (lane_at T l).subject o,
          later_band (person_at T b) (lane_at T l).subject n,
        ))

    pub picked : (w : ℕ → List ℕ) → Picked (market_of ahead family T) (λ t. pick_of T.posts (person_at T t) (w t))
    picked w t l j o =
        let u = picked_of T.posts (person_at T t) (w t) l (on_has l (pick_of T.posts (person_at T t) (w t)) o) in
        licensed_from t l j u.0 u.1

    pub own_picked : Placed T → (w : ℕ → List ℕ) → OwnPicked (market_of ahead family T) (λ t. pick_of T.posts (person_at T t) (w t))
    own_picked pl w t l j k o =
        let u = and_parts (not (newcomer (person_at T t))) (eqb (person_at T t).main (lane_at T l).subject) o in
        let v = pl l k in
        has_on l (pick_of T.posts (person_at T t) (w t))
        (own_picked_of T.posts (person_at T t) (w t) (not-true _ u.0) l k u.1 v.0 v.1)

-- ---- the ranges

every_at : (p : LaneRecord → Bool) (xs : List LaneRecord) (i : ℕ) → every p xs ≡ true → i < length xs → p (get_or xs i no_lane) ≡ true
every_at p [] i h k = absurd (omega arith)
every_at p (x ∷ xs) zero h k = (and_parts (p x) (every p xs) h).0
every_at p (x ∷ xs) (suc i) h k = every_at p xs i (and_parts (p x) (every p xs) h).1 (omega arith)

lanes_ok : (m : SheetsModel) → in_range m ≡ true → every (lane_ok m.posts.schools m.posts.subjects) m.posts.lanes ≡ true
lanes_ok m h =
    let a = (and_parts (posts_ok m.posts) (staff_ok m.posts.schools m.posts.subjects m.teachers) h).0 in
    let b = (and_parts (within 1 30 m.posts.schools) _ a).1 in
    let c = (and_parts (within 1 10 m.posts.subjects) _ b).1 in
    let d = (and_parts (within 1 80 (length m.posts.lanes)) _ c).1 in
    (and_parts (every (lane_ok m.posts.schools m.posts.subjects) m.posts.lanes) (apart m.posts.lanes) d).0

placed : (m : SheetsModel) → in_range m ≡ true → Placed (tables_of m)
placed m h l k =
    let x = get_or m.posts.lanes l no_lane in
    let a = every_at (lane_ok m.posts.schools m.posts.subjects) m.posts.lanes l (lanes_ok m h) k in
    let b = (and_parts _ _ (and_parts _ _ a).0).0 in
    let c = and_parts (leb 1 x.school) (leb x.school m.posts.schools) b in
    (leb-true _ _ c.0, leb-true _ _ c.1)

pub sheets_describe_a_lawful_market_lem : SheetsDescribeALawfulMarket
sheets_describe_a_lawful_market_lem ahead family P m h = record {
  laws = laws_of (tables_of m) ahead family P;
  own_laws = own_laws_of (tables_of m) ahead family;
  picked = picked (tables_of m) ahead family;
  own_picked = own_picked (tables_of m) ahead family (placed m h);
}
