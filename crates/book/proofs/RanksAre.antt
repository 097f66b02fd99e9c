-- The table of ranks holds the ranks by bands, standing and number.
use Rattle.std.proofs.Common.{◌≡◌, ℕ, ◌+◌, ◌<◌, ◌≤◌, Bool, true, false, cond, not, ◌&&◌, eqb, ltb, List, length, get_or, sym, refl, ap, ◌∙◌, ap₂, ⊎_elim, arith}
use mathlib.Core.Path.{fun_ext}
use Rattle.std.proofs.lemmas.List.{get_or_past, get_or-map, length-map}
use Rattle.std.proofs.lemmas.Bool.{cases_Bool, cases_lt, lt-ltb, le-ltb, cond-true, cond-false}
use Rattle.matching.specs.Groups.{told}
use Rattle.matching.specs.Market.{rank}
use Rattle.matching.specs.Ranking.{rank_by}
use Rattle.matching.proofs.Ranking.{rank_is}
use Rattle.market.specs.Tables.{Tables, Person, stranger, teaches, band_of, band_in, bands_of, lane_at, person_at, licensed_for, market_of}
use Rattle.book.specs.Model.{anyone, entry_in, rank_in, ranks_by}
use Rattle.book.proofs.RankTable.{RanksTo}

band_some : (p : Person) (k : ℕ) → eqb (band_of p k) 0 ≡ false
band_some p k = by (eqb p.home 0) (eqb p.main k)
  where
    by : (a b : Bool) → eqb (cond a (cond b 3 4) (cond b 1 2)) 0 ≡ false
    by true true = refl
    by true false = refl
    by false true = refl
    by false false = refl

-- the band tells who is licensed
pub band_tells : (p : Person) (k : ℕ) → not (eqb (band_in k p) 0) ≡ teaches p k
band_tells p k = by (teaches p k) (band_of p k) (band_some p k)
  where
    by : (a : Bool) (n : ℕ) → eqb n 0 ≡ false → not (eqb (cond a n 0) 0) ≡ a
    by true n e = ap not e
    by false n e = refl

module _ (ahead : ℕ → ℕ → ℕ → Bool) (T : Tables) (few : length T.people ≤ 200) (l : ℕ) (hl : l < length T.posts.lanes) where
  abbrev k : ℕ
  k = (lane_at T l).subject

  abbrev bands : List ℕ
  bands = bands_of T l

  long : length bands ≡ length T.people
  long = length-map T.people (band_in k)

  pub told_licensed : (t : ℕ) → licensed_for T t l ≡ told bands t
  told_licensed t = ⊎_elim
      (λ (h : t < length T.people).
      ap (λ b. b && (ltb l (length T.posts.lanes) && teaches (person_at T t) k)) (lt-ltb t (length T.people) h)
      ∙ ap (λ b. b && teaches (person_at T t) k) (lt-ltb l (length T.posts.lanes) hl)
      ∙ sym (ap (λ b. b && not (eqb (get_or bands t 0) 0)) (lt-ltb t 200 (omega arith)) ∙ ap (λ n. not (eqb n 0)) (get_or-map (band_in k) T.people t stranger 0 h) ∙ band_tells (person_at T t) k))
      (λ (h : length T.people ≤ t).
      ap (λ b. b && (ltb l (length T.posts.lanes) && teaches (person_at T t) k)) (le-ltb t (length T.people) h)
      ∙ sym (ap (λ n. ltb t 200 && not (eqb n 0)) (get_or_past bands t 0 (omega (arith, long))) ∙ no (ltb t 200)))
      (cases_lt t (length T.people))
    where
      no : (a : Bool) → (a && not (eqb 0 0)) ≡ false
      no true = refl
      no false = refl

  none : (t : ℕ) → told bands t ≡ false → rank_by ahead (l + 1) bands t ≡ 0
  unfolding rank_by
  none t e = cond-false (told bands t) _ 0 e

  pub rank_by_bands : (t : ℕ) → rank_by ahead (l + 1) bands t ≡ ranks_by ahead T l t
  rank_by_bands t = ⊎_elim
      (λ (y : licensed_for T t l ≡ true).
      sym (rank_is ahead (l + 1) bands (market_of ahead anyone T) l (omega (arith, long)) told_licensed (λ a b. refl) t (sym (told_licensed t) ∙ y))
      ∙ sym (cond-true (licensed_for T t l) (rank (market_of ahead anyone T) l t) 0 y))
      (λ (n : licensed_for T t l ≡ false). none t (sym (told_licensed t) ∙ n) ∙ sym (cond-false (licensed_for T t l) (rank (market_of ahead anyone T) l t) 0 n))
      (cases_Bool (licensed_for T t l))

pub ranks_are : (ahead : ℕ → ℕ → ℕ → Bool) (T : Tables) (n : ℕ) (table : List (List ℕ)) → length T.people ≤ 200 → n ≡ length T.people → RanksTo ahead T (length T.posts.lanes) table
    → rank_in table (length T.posts.lanes) n ≡ ranks_by ahead T
ranks_are ahead T n table few same h = fun_ext (λ l. fun_ext (λ t. ⊎_elim
    (λ (a : l < length T.posts.lanes). ⊎_elim
    (λ (b : t < n).
    cond-true (ltb l (length T.posts.lanes) && ltb t n) (entry_in table l t) 0 (ap₂ (λ x y. x && y) (lt-ltb l (length T.posts.lanes) a) (lt-ltb t n b))
    ∙ h l t a ∙ rank_by_bands ahead T few l a t)
    (λ (b : n ≤ t).
    cond-false (ltb l (length T.posts.lanes) && ltb t n) (entry_in table l t) 0 (ap₂ (λ x y. x && y) (lt-ltb l (length T.posts.lanes) a) (le-ltb t n b))
    ∙ sym (cond-false (licensed_for T t l) (rank (market_of ahead anyone T) l t) 0 (ap (λ x. x && (ltb l (length T.posts.lanes) && teaches (person_at T t) (lane_at T l).subject)) (le-ltb t (length T.people) (omega arith)))))
    (cases_lt t n))
    (λ (a : length T.posts.lanes ≤ l).
    cond-false (ltb l (length T.posts.lanes) && ltb t n) (entry_in table l t) 0 (ap (λ x. x && ltb t n) (le-ltb l (length T.posts.lanes) a))
    ∙ sym (cond-false (licensed_for T t l) (rank (market_of ahead anyone T) l t) 0 (no (ltb t (length T.people)) (ltb l (length T.posts.lanes)) (teaches (person_at T t) (lane_at T l).subject) (le-ltb l (length T.posts.lanes) a))))
    (cases_lt l (length T.posts.lanes))))
  where
    no : (a b c : Bool) → b ≡ false → (a && (b && c)) ≡ false
    no true b c e = ap (λ x. x && c) e
    no false b c e = refl
