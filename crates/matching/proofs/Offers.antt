-- Offers, and the claims that hold as cutoffs rise. Assumes nothing.
use Rattle.std.proofs.Common.{◌≡◌, ℕ, suc, ◌-◌, ◌<◌, ◌≤◌, Bool, true, false, ltb, leb, ◌≢◌, List, Some, None, Option, refl, inl, inr, arith}
use Rattle.std.proofs.lemmas.Bool.{cases_Bool, and_parts, and_from, and_cases, both_ways, leb-true, le-leb, ltb-true, lt-ltb, not-true, not-false}
use Rattle.matching.specs.Picks.{place_of, place, On, holds}
use Rattle.matching.specs.Market.{Market, Board, board_of, Laws, Picked, rank, clears, offer, askers, over_asked, Fair}
use Rattle.matching.specs.Log.{raise}
use Rattle.matching.proofs.Lists.{holds_true, holds_some, place_any, strictly, first_on, first_best, first_stays}
use Rattle.matching.proofs.RankLaws.{rank_before, before_rank, rank_same, rank_low}

-- who clears, by any board
pub board_clears_parts : (bd : Board) (s : ℕ → ℕ) (t l : ℕ) → clears bd s t l ≡ true → (0 < bd.rank_at l t) × (s l ≤ bd.rank_at l t)
unfolding clears
board_clears_parts bd s t l e = let h = and_parts (ltb 0 (bd.rank_at l t)) (leb (s l) (bd.rank_at l t)) e in (ltb-true _ _ h.0, leb-true _ _ h.1)

-- the rank on a market's board
module _ (mk : Market) (l t : ℕ) where
  pub rank_yes : mk.licensed t l ≡ true → (board_of mk).rank_at l t ≡ rank mk l t
  rank_yes h = rw h

  pub rank_no : mk.licensed t l ≡ false → (board_of mk).rank_at l t ≡ 0
  rank_no h = rw h

  pub rank_some : rank mk l t ≡ suc (rank mk l t - 1)
  unfolding rank
  rank_some = omega arith

module _ (mk : Market) where
  pub clears_parts : (s : ℕ → ℕ) (t l : ℕ) → clears (board_of mk) s t l ≡ true → (mk.licensed t l ≡ true) × (s l ≤ rank mk l t)
  clears_parts s t l e = let h = board_clears_parts (board_of mk) s t l e in elim (cases_Bool (mk.licensed t l)) [
    | inl y ↦ (y, omega (arith, h.1, rank_yes mk l t y))
    | inr n ↦ absurd (omega (arith, h.0, rank_no mk l t n))
  ]

  pub clears_from : (s : ℕ → ℕ) (t l : ℕ) → mk.licensed t l ≡ true → s l ≤ rank mk l t → clears (board_of mk) s t l ≡ true
  unfolding clears
  clears_from s t l h k = let e = rank_yes mk l t h in let r = rank_some mk l t in
      and_from (ltb 0 ((board_of mk).rank_at l t)) (leb (s l) ((board_of mk).rank_at l t)) (lt-ltb _ _ (omega (arith, e, r))) (le-leb _ _ (omega (arith, e)))

module _ (mk : Market) (ps : ℕ → List ℕ) where
  pub offer_on : (s : ℕ → ℕ) (t l : ℕ) → offer (board_of mk) ps s t ≡ Some l → (clears (board_of mk) s t l ≡ true) × On l (ps t)
  unfolding offer
  offer_on s t l e = first_on _ _ l e

  pub offer_best : (s : ℕ → ℕ) (t l : ℕ) → clears (board_of mk) s t l ≡ true → On l (ps t)
      → place (offer (board_of mk) ps s t) (ps t) ≤ place_of l (ps t)
  unfolding offer
  offer_best s t l h k = first_best _ _ l h k

  pub over_parts : (s : ℕ → ℕ) (l : ℕ) → over_asked (board_of mk) ps s l ≡ true → (l < mk.lanes) × (mk.fits l (askers (board_of mk) ps s l) ≡ false)
  unfolding over_asked
  over_parts s l e = let h = and_parts _ _ e in (ltb-true _ _ h.0, not-true _ h.1)

  pub not_over : (s : ℕ → ℕ) (l : ℕ) → l < mk.lanes → over_asked (board_of mk) ps s l ≡ false → mk.fits l (askers (board_of mk) ps s l) ≡ true
  unfolding over_asked
  not_over s l h e = elim (and_cases _ _ e) [ inl f ↦ absurd (both_ways _ f (lt-ltb _ _ h)) | inr f ↦ not-false _ f ]

-- ---- a raise of some over-asked lanes
module _ (mk : Market) where
  module _ (p : ℕ → Bool) (s : ℕ → ℕ) where
    pub raise_yes : (l : ℕ) → p l ≡ true → raise p s l ≡ suc (s l)
    raise_yes l e = rw e

    pub raise_no : (l : ℕ) → p l ≡ false → raise p s l ≡ s l
    raise_no l e = rw e

    pub raise_low : (l : ℕ) → s l ≤ raise p s l
    raise_low l = elim (cases_Bool (p l)) [ inl e ↦ omega (arith, raise_yes l e) | inr e ↦ omega (arith, raise_no l e) ]

    pub was_clear : (t l : ℕ) → clears (board_of mk) (raise p s) t l ≡ true → clears (board_of mk) s t l ≡ true
    was_clear t l e = let h = clears_parts mk (raise p s) t l e in clears_from mk s t l h.0 (omega (arith, h.1, raise_low l))

    -- who clears goes on to, but for the one whose rank is the cutoff
    pub still_clear : (t l : ℕ) → clears (board_of mk) s t l ≡ true → (p l ≡ true → rank mk l t ≢ s l) → clears (board_of mk) (raise p s) t l ≡ true
    still_clear t l e n = let h = clears_parts mk s t l e in clears_from mk (raise p s) t l h.0
        (elim (cases_Bool (p l)) [ inl f ↦ omega (arith, raise_yes l f, h.1, n f) | inr f ↦ omega (arith, raise_no l f, h.1) ])

module _ (mk : Market) (ps : ℕ → List ℕ) (p : ℕ → Bool) (s : ℕ → ℕ) where
  pub offer_stays : (t l : ℕ) → offer (board_of mk) ps s t ≡ Some l → clears (board_of mk) (raise p s) t l ≡ true → offer (board_of mk) ps (raise p s) t ≡ Some l
  unfolding offer
  offer_stays t l e h = first_stays (clears (board_of mk) s t) (clears (board_of mk) (raise p s) t) _ l (λ k. was_clear mk p s t k) h e

-- ---- no fair assignment is better

abbrev pub Sees : Market → (ℕ → List ℕ) → (ℕ → ℕ) → Type 0
Sees mk ps s = (μ : ℕ → Option ℕ) → Fair mk ps μ → (t l : ℕ) → μ t ≡ Some l → clears (board_of mk) s t l ≡ true

module _ (mk : Market) (L : Laws mk) (ps : ℕ → List ℕ) (P : Picked mk ps) where
  asker_licensed : (s : ℕ → ℕ) (t l : ℕ) → offer (board_of mk) ps s t ≡ Some l → mk.licensed t l ≡ true
  asker_licensed s t l e = (clears_parts mk s t l (offer_on mk ps s t l e).0).0

  pub sees_open : (s : ℕ → ℕ) → ((l : ℕ) → s l ≡ 1) → Sees mk ps s
  sees_open s h μ f t l e = let k = f.listed t l e in clears_from mk s t l (P t l k.0 k.1) (omega (arith, h l, rank_low mk L l t))

  -- who is seen by fair assignments has an offer at least as good
  pub best_of : (s : ℕ → ℕ) → Sees mk ps s → (μ : ℕ → Option ℕ) → Fair mk ps μ → (t : ℕ)
      → place (offer (board_of mk) ps s t) (ps t) ≤ place (μ t) (ps t)
  best_of s v μ f t = go (μ t) refl
    where
      xs : List ℕ
      xs = ps t

      go : (o : Option ℕ) → μ t ≡ o → place (offer (board_of mk) ps s t) xs ≤ place o xs
      go None e = place_any (offer (board_of mk) ps s t) xs
      go (Some l) e = offer_best mk ps s t l (v μ f t l e) (f.listed t l e).1

  -- an asker of l who is not put there likes l better
  likes : (s : ℕ → ℕ) → Sees mk ps s → (μ : ℕ → Option ℕ) → Fair mk ps μ → (i l : ℕ) → offer (board_of mk) ps s i ≡ Some l → holds (μ i) l ≡ false
      → place_of l (ps i) < place (μ i) (ps i)
  likes s v μ f i l e n = strictly (ps i) (μ i) l (offer_on mk ps s i l e).1 (rw e at (best_of s v μ f i)) n

  pub sees_raise : (p : ℕ → Bool) (s : ℕ → ℕ) → ((l : ℕ) → p l ≡ true → over_asked (board_of mk) ps s l ≡ true) → Sees mk ps s → Sees mk ps (raise p s)
  sees_raise p s o v μ f t l e = still_clear mk p s t l (v μ f t l e) out
    where
      lic : mk.licensed t l ≡ true
      lic = (clears_parts mk s t l (v μ f t l e)).0

      out : p l ≡ true → rank mk l t ≢ s l
      out h r = both_ways (mk.fits l (askers (board_of mk) ps s l)) (over_parts mk ps s l (o l h)).1 (L.part l _ _ inside (f.fitting l (L.range t l lic).1))
        where
          inside : (i : ℕ) → holds (offer (board_of mk) ps s i) l ≡ true → holds (μ i) l ≡ true
          inside i a = elim (cases_Bool (holds (μ i) l)) [
            | inl y ↦ y
            | inr n ↦
                let ask : offer (board_of mk) ps s i ≡ Some l = holds_true _ l a in
                let c = clears_parts mk s i l (offer_on mk ps s i l ask).0 in
                let ne : rank mk l i ≢ rank mk l t = λ q. both_ways _ n (holds_some (μ i) l (rw (rank_same mk L l i t c.0 lic q) e)) in
                absurd (f.no_envy i t l (L.range i l c.0).0 e (likes s v μ f i l ask n)
                (before_rank mk L l i t c.0 lic (omega (arith, c.1, r, ne))))
          ]

  -- ---- with no lane over-asked the offers are fair
  pub offers_fair : (s : ℕ → ℕ) → ((l : ℕ) → l < mk.lanes → over_asked (board_of mk) ps s l ≡ false) → Fair mk ps (offer (board_of mk) ps s)
  offers_fair s n = record {
    listed = λ t l e. ((L.range t l (asker_licensed s t l e)).0, (offer_on mk ps s t l e).1);
    fitting = λ l h. not_over mk ps s l h (n l h);
    no_envy = λ i t l h e k b.
        let c = clears_parts mk s t l (offer_on mk ps s t l e).0 in
        let on : On l (ps i) = omega (arith, k, place_any (offer (board_of mk) ps s i) (ps i)) in
        let li : mk.licensed i l ≡ true = P i l h on in
        omega (arith, k, offer_best mk ps s i l (clears_from mk s i l li (omega (arith, c.1, rank_before mk L l i t li c.0 b))) on);
  }
