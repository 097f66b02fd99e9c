-- Every incumbent has an offer where there is room. Assumes nothing.
use Rattle.std.proofs.Common.{◌≡◌, ℕ, ◌+◌, ◌<◌, ◌≤◌, Bool, true, cond, ◌&&◌, eqb, ◌≢◌, ◌⊎◌, List, Some, None, sym, refl, inl, inr, arith}
use Rattle.std.proofs.lemmas.Bool.{cases_Bool, cases_eq, cases_lt, and_parts, and_from, both_ways, eqb-true, eq-eqb, ne_eqb}
use Rattle.matching.specs.Picks.{holds}
use Rattle.matching.specs.Count.{count}
use Rattle.matching.specs.Market.{Market, board_of, Laws, OwnLaws, OwnPicked, own, rank, clears, offer, askers, over_asked}
use Rattle.matching.specs.Log.{raise}
use Rattle.matching.specs.Promise.{Room}
use Rattle.matching.proofs.Counts.{count_le, count_but, some_or_none}
use Rattle.matching.proofs.Lists.{holds_true, holds_some, missing}
use Rattle.matching.proofs.RankLaws.{rank_before, rank_same, rank_low}
use Rattle.matching.proofs.Offers.{clears_parts, clears_from, offer_on, offer_best, over_parts, still_clear, offer_stays}

-- all own incumbents clear the lane, or q of them ask for it
abbrev pub Held : Market → (ℕ → List ℕ) → (ℕ → ℕ) → (ℕ → ℕ) → Type 0
Held mk ps q s = (l : ℕ) → l < mk.lanes
    → ((t : ℕ) → t < mk.teachers → own mk t l ≡ true → clears (board_of mk) s t l ≡ true)
    ⊎ (q l ≤ count (λ t. own mk t l && askers (board_of mk) ps s l t) mk.teachers)

module _ (mk : Market) (L : Laws mk) (O : OwnLaws mk) (ps : ℕ → List ℕ) (q : ℕ → ℕ) (room : Room mk q) where
  pub held_open : (s : ℕ → ℕ) → ((l : ℕ) → s l ≡ 1) → Held mk ps q s
  held_open s h l k = inl (λ t j o. clears_from mk s t l (O.own_licensed t l j k o) (omega (arith, h l, rank_low mk L l t)))

  module _ (p : ℕ → Bool) (s : ℕ → ℕ) (o : (l : ℕ) → p l ≡ true → over_asked (board_of mk) ps s l ≡ true) where
    -- where nobody of rank cutoff is pushed out, all is as before
    unmoved : (l : ℕ) → l < mk.lanes → ((t : ℕ) → t < mk.teachers → own mk t l ≡ true → p l ≡ true → rank mk l t ≢ s l)
        → ((t : ℕ) → t < mk.teachers → own mk t l ≡ true → clears (board_of mk) s t l ≡ true) ⊎ (q l ≤ count (λ t. own mk t l && askers (board_of mk) ps s l t) mk.teachers)
        → ((t : ℕ) → t < mk.teachers → own mk t l ≡ true → clears (board_of mk) (raise p s) t l ≡ true)
        ⊎ (q l ≤ count (λ t. own mk t l && askers (board_of mk) ps (raise p s) l t) mk.teachers)
    unmoved l k n (inl all) = inl (λ t j w. still_clear mk p s t l (all t j w) (n t j w))
    unmoved l k n (inr few) = inr (omega (
      arith,
      few,
      count_le (λ t. own mk t l && askers (board_of mk) ps s l t) (λ t. own mk t l && askers (board_of mk) ps (raise p s) l t) mk.teachers
          (λ t j h. let w = and_parts (own mk t l) (askers (board_of mk) ps s l t) h in
          let a : offer (board_of mk) ps s t ≡ Some l = holds_true _ l w.1 in
          and_from _ _ w.0 (holds_some _ l (offer_stays mk ps p s t l a (still_clear mk p s t l (offer_on mk ps s t l a).0 (n t j w.0))))),
    ))

    -- the own incumbent x of rank cutoff is pushed out: all askers are own incumbents, and more than q
    module _ (l x : ℕ) (k : l < mk.lanes) (y : p l ≡ true) (j : x < mk.teachers) (ox : own mk x l ≡ true) (rx : rank mk l x ≡ s l) where
      lx : mk.licensed x l ≡ true
      lx = O.own_licensed x l j k ox

      all_own : (t : ℕ) → offer (board_of mk) ps s t ≡ Some l → own mk t l ≡ true
      all_own t a = elim (cases_Bool (own mk t l)) [
        | inl e ↦ e
        | inr e ↦ let c = clears_parts mk s t l (offer_on mk ps s t l a).0 in
            absurd (omega (arith, c.1, rx, rank_before mk L l x t lx c.0 (O.own_first l x t lx c.0 ox e)))
      ]

      many : q l < count (askers (board_of mk) ps s l) mk.teachers
      many = elim (cases_lt (q l) (count (askers (board_of mk) ps s l) mk.teachers)) [
        | inl e ↦ e
        | inr e ↦ absurd (both_ways _ (over_parts mk ps s l (o l y)).1 (room.roomy l k (askers (board_of mk) ps s l)
            (λ t h. let a : offer (board_of mk) ps s t ≡ Some l = holds_true _ l h in
            ((L.range t l (clears_parts mk s t l (offer_on mk ps s t l a).0).0).0, all_own t a)) e))
      ]

      left : count (askers (board_of mk) ps s l) mk.teachers ≤ 1 + count (λ t. own mk t l && askers (board_of mk) ps (raise p s) l t) mk.teachers
      left = count_but (askers (board_of mk) ps s l) (λ t. own mk t l && askers (board_of mk) ps (raise p s) l t) mk.teachers x (λ t _ ne h.
          let a : offer (board_of mk) ps s t ≡ Some l = holds_true _ l h in
          let c = (offer_on mk ps s t l a).0 in
          and_from _ _ (all_own t a) (holds_some _ l (offer_stays mk ps p s t l a (still_clear mk p s t l c
          (λ _ r. ne (rank_same mk L l t x (clears_parts mk s t l c).0 lx (omega arith)))))))

      pushed : q l ≤ count (λ t. own mk t l && askers (board_of mk) ps (raise p s) l t) mk.teachers
      pushed = omega (arith, many, left)

    pub held_raise : Held mk ps q s → Held mk ps q (raise p s)
    held_raise v l k = elim (some_or_none (λ t. own mk t l && (p l && eqb (rank mk l t) (s l))) mk.teachers) [
      | inl e ↦ let a = and_parts _ _ e.2 in let b = and_parts _ _ a.1 in
          inr (pushed l e.0 k b.0 e.1 a.0 (eqb-true _ _ b.1))
      | inr n ↦ unmoved l k (λ t j w y r. both_ways _ (n t j) (and_from _ _ w (and_from _ _ y (eq-eqb _ _ r)))) (v l k)
    ]

  -- ---- the count
  pub kept_of : OwnPicked mk ps → (s : ℕ → ℕ) → Held mk ps q s → (x : ℕ) → x < mk.teachers → mk.incumbent x ≡ true → offer (board_of mk) ps s x ≡ None → ⊥
  kept_of op s v x j i e = omega (arith, room.enough g, missing (offer (board_of mk) ps s) member mk.teachers seats mk.lanes enough x j (and_from _ _ i (eq-eqb g g refl)) e)
    where
      g : ℕ
      g = mk.main x

      member : ℕ → Bool
      member t = mk.incumbent t && eqb (mk.main t) g

      seats : ℕ → ℕ
      seats l = cond (eqb (mk.subject l) g) (q l) 0

      -- x clears no lane of the subject, since each is on the pick list
      asked : (l : ℕ) → l < mk.lanes → own mk x l ≡ true → q l ≤ count (λ t. own mk t l && askers (board_of mk) ps s l t) mk.teachers
      asked l k w = elim (v l k) [
        | inl all ↦ absurd (omega (arith, op x l j k w, rw e at (offer_best mk ps s x l (all x j w) (op x l j k w))))
        | inr few ↦ few
      ]

      enough : (l : ℕ) → l < mk.lanes → seats l ≤ count (λ t. member t && holds (offer (board_of mk) ps s t) l) mk.teachers
      enough l k = elim (cases_eq (mk.subject l) g) [
        | inl f ↦ rw (eq-eqb _ _ f) (rw f at (asked l k (and_from _ _ i (eq-eqb _ _ (sym f)))))
        | inr f ↦ rw (ne_eqb _ _ f) (omega arith)
      ]
