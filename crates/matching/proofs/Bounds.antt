-- The cutoffs stay in bounds, settle ends, and its presses are the rise of the cutoffs. Assumes nothing.
use Rattle.std.proofs.Common.{◌≡◌, ℕ, zero, suc, ◌+◌, ◌*◌, ◌<◌, ◌≤◌, Bool, true, false, eqb, List, Some, None, Option, refl, ap, inl, inr, arith}
use Rattle.std.proofs.lemmas.Bool.{cases_Bool, both_ways, eqb-true, eq-eqb, ne_eqb}
use Rattle.matching.specs.Count.{sum_to}
use Rattle.matching.specs.Market.{Market, board_of, Laws, crowd, askers, over_asked}
use Rattle.matching.specs.Log.{raise, pressed, next, on_some, settled, presses}
use Rattle.matching.proofs.Counts.{sum_bound, sum_least, sum_one, some_or_none}
use Rattle.matching.proofs.Lists.{holds_true, least_some, least_none}
use Rattle.matching.proofs.RankLaws.{rank_high, crowd_high}
use Rattle.matching.proofs.Offers.{clears_parts, offer_on, over_parts, raise_yes, raise_no}

abbrev pub Bounded : Market → (ℕ → ℕ) → Type 0
Bounded mk s = (l : ℕ) → l < mk.lanes → (1 ≤ s l) × (s l ≤ suc (crowd mk l))

-- a claim that outlives every raise of over-asked lanes
abbrev pub Lasts : Market → (ℕ → List ℕ) → ((ℕ → ℕ) → Type 0) → Type 0
Lasts mk ps P = (p : ℕ → Bool) (s : ℕ → ℕ) → ((l : ℕ) → p l ≡ true → over_asked (board_of mk) ps s l ≡ true) → P s → P (raise p s)

module _ (mk : Market) (L : Laws mk) (ps : ℕ → List ℕ) where
  -- an over-asked lane has an asker, whose rank is at least the cutoff
  over_low : (s : ℕ → ℕ) (l : ℕ) → over_asked (board_of mk) ps s l ≡ true → s l ≤ crowd mk l
  over_low s l o = elim (some_or_none (askers (board_of mk) ps s l) mk.teachers) [
    | inl e ↦ let c = clears_parts mk s e.0 l (offer_on mk ps s e.0 l (holds_true _ l e.2)).0 in omega (arith, c.1, rank_high mk L l e.0 c.0)
    | inr n ↦ absurd (both_ways _ (over_parts mk ps s l o).1 (L.part l _ _
        (λ t h. absurd (both_ways _ (n t (L.range t l (clears_parts mk s t l (offer_on mk ps s t l (holds_true _ l h)).0).0).0) h)) (L.empty l)))
  ]

  pub bounded_raise : Lasts mk ps (Bounded mk)
  bounded_raise p s o v l k = elim (cases_Bool (p l)) [
    | inl e ↦ rw (raise_yes mk p s l e) (omega (arith, v l k, over_low s l (o l e)))
    | inr e ↦ rw (raise_no mk p s l e) (v l k)
  ]

  -- ---- settle

  one_lane : (s : ℕ → ℕ) (l : ℕ) → next (board_of mk) ps s ≡ Some l → (k : ℕ) → eqb k l ≡ true → over_asked (board_of mk) ps s k ≡ true
  one_lane s l e k h = rw (eqb-true k l h) (least_some _ _ l e).0

  pub lasts_settled : (P : (ℕ → ℕ) → Type 0) → Lasts mk ps P → (b : ℕ) (s : ℕ → ℕ) → P s → P (settled (board_of mk) ps b s)
  unfolding settled
  lasts_settled P f zero s v = v
  lasts_settled P f (suc b) s v = go (next (board_of mk) ps s) refl (lasts_settled P f b)
    where
      go : (o : Option ℕ) → next (board_of mk) ps s ≡ o → ((u : ℕ → ℕ) → P u → P (settled (board_of mk) ps b u)) → P (on_some o s (λ l. settled (board_of mk) ps b (pressed l s)))
      go None e ih = v
      go (Some l) e ih = ih (pressed l s) (f (λ k. eqb k l) s (one_lane s l e) v)

  rise : (s : ℕ → ℕ) (l : ℕ) → next (board_of mk) ps s ≡ Some l → sum_to (pressed l s) mk.lanes ≡ suc (sum_to (s) mk.lanes)
  rise s l e = sum_one s (pressed l s) mk.lanes l (least_some _ _ l e).1 (λ t n. rw (ne_eqb t l n)) (rw (eq-eqb l l refl))

  pub counted_of : (b : ℕ) (s : ℕ → ℕ) → sum_to (settled (board_of mk) ps b s) mk.lanes ≡ sum_to (s) mk.lanes + presses (board_of mk) ps b s
  unfolding settled presses
  counted_of zero s = omega arith
  counted_of (suc b) s = go (next (board_of mk) ps s) refl (counted_of b)
    where
      go : (o : Option ℕ) → next (board_of mk) ps s ≡ o → ((u : ℕ → ℕ) → sum_to (settled (board_of mk) ps b u) mk.lanes ≡ sum_to (u) mk.lanes + presses (board_of mk) ps b u)
          → sum_to ((on_some o s (λ l. settled (board_of mk) ps b (pressed l s)))) mk.lanes
          ≡ sum_to (s) mk.lanes + on_some o zero (λ l. suc (presses (board_of mk) ps b (pressed l s)))
      go None e ih = omega arith
      go (Some l) e ih = omega (arith, ih (pressed l s), rise s l e)

  -- where a lane is still over-asked the budget is used
  pub used_up : (b : ℕ) (s : ℕ → ℕ) (x : ℕ) → next (board_of mk) ps (settled (board_of mk) ps b s) ≡ Some x → presses (board_of mk) ps b s ≡ b
  unfolding settled presses
  used_up zero s x e = refl
  used_up (suc b) s x e = go (next (board_of mk) ps s) refl e (λ u. used_up b u x)
    where
      go : (o : Option ℕ) → next (board_of mk) ps s ≡ o → next (board_of mk) ps (on_some o s (λ l. settled (board_of mk) ps b (pressed l s))) ≡ Some x
          → ((u : ℕ → ℕ) → next (board_of mk) ps (settled (board_of mk) ps b u) ≡ Some x → presses (board_of mk) ps b u ≡ b) → on_some o zero (λ l. suc (presses (board_of mk) ps b (pressed l s))) ≡ suc b
      go None e f ih = cc
      go (Some l) e f ih = ap suc (ih (pressed l s) f)

  pub used_of : (b : ℕ) (s : ℕ → ℕ) (l : ℕ) → over_asked (board_of mk) ps (settled (board_of mk) ps b s) l ≡ true → presses (board_of mk) ps b s ≡ b
  used_of b s l h = go (next (board_of mk) ps (settled (board_of mk) ps b s)) refl
    where
      go : (o : Option ℕ) → next (board_of mk) ps (settled (board_of mk) ps b s) ≡ o → presses (board_of mk) ps b s ≡ b
      go None e = absurd (both_ways _ (least_none _ _ e l (over_parts mk ps (settled (board_of mk) ps b s) l h).0) h)
      go (Some x) e = used_up b s x e

  pub budgeted_of : (b : ℕ) (s : ℕ → ℕ) → presses (board_of mk) ps b s ≤ b
  unfolding presses
  budgeted_of zero s = omega arith
  budgeted_of (suc b) s = go (next (board_of mk) ps s) (budgeted_of b)
    where
      go : (o : Option ℕ) → ((u : ℕ → ℕ) → presses (board_of mk) ps b u ≤ b) → on_some o zero (λ l. suc (presses (board_of mk) ps b (pressed l s))) ≤ suc b
      go None ih = omega arith
      go (Some l) ih = omega (arith, ih (pressed l s))

  pub ends_of : (s : ℕ → ℕ) → Bounded mk s → (b : ℕ) → mk.lanes * mk.teachers ≤ b → (l : ℕ) → l < mk.lanes → over_asked (board_of mk) ps (settled (board_of mk) ps b s) l ≡ false
  ends_of s v b big l k = go (next (board_of mk) ps u) refl
    where
      u : ℕ → ℕ
      u = settled (board_of mk) ps b s

      go : (o : Option ℕ) → next (board_of mk) ps u ≡ o → over_asked (board_of mk) ps u l ≡ false
      go None e = least_none (over_asked (board_of mk) ps u) mk.lanes e l k
      go (Some x) e =
          let w = bounded_raise (λ y. eqb y x) u (one_lane u x e) (lasts_settled (Bounded mk) bounded_raise b s v) in
          absurd (omega (
            arith,
            rise u x e,
            counted_of b s,
            used_up b s x e,
            sum_least (s) mk.lanes (λ t j. (v t j).0),
            sum_bound (pressed x u) mk.lanes (suc mk.teachers) (λ t j. omega (arith, (w t j).1, crowd_high mk L t)),
            big,
          ))
