-- The end of pressing is the lowest calm table above the start. Assumes nothing.
use Rattle.std.proofs.Common.{◌≡◌, ℕ, ◌≤◌, true, List, Some, inl, inr, le_refl, arith}
use mathlib.Core.Path.{fun_ext}
use Rattle.std.proofs.lemmas.Bool.{cases_Bool, cases_lt, both_ways}
use Rattle.matching.specs.Market.{Market, board_of, Laws, clears, offer, askers, Calm}
use Rattle.matching.specs.Order.{Leads, stop, more, PressesStayLowest, PressesEndAlike}
use Rattle.matching.proofs.Lists.{holds_true, holds_some, first_stays}
use Rattle.matching.proofs.Offers.{clears_parts, clears_from, offer_on, over_parts, not_over, raise_yes, raise_no, raise_low}

module _ (mk : Market) (L : Laws mk) (ps : ℕ → List ℕ) (e : ℕ → ℕ) (calm : Calm (board_of mk) ps e) where
  -- who asks for a lane goes on to where the cutoffs of the other lanes rise
  asks_on : (c : ℕ → ℕ) (l t : ℕ) → ((k : ℕ) → c k ≤ e k) → e l ≤ c l → askers (board_of mk) ps c l t ≡ true → askers (board_of mk) ps e l t ≡ true
  unfolding offer
  asks_on c l t up q h =
      let a : offer (board_of mk) ps c t ≡ Some l = holds_true _ l h in
      let v = clears_parts mk c t l (offer_on mk ps c t l a).0 in
      holds_some _ l (first_stays (clears (board_of mk) c t) (clears (board_of mk) e t) (ps t) l
      (λ k w. let u = clears_parts mk e t k w in clears_from mk c t k u.0 (omega (arith, u.1, up k)))
      (clears_from mk e t l v.0 (omega (arith, v.1))) a)

  pub never_above : {c d : ℕ → ℕ} → Leads (board_of mk) ps c d → ((l : ℕ) → c l ≤ e l) → (l : ℕ) → d l ≤ e l
  never_above stop up = up
  never_above (more {c = c} p o r) up = never_above r (λ l. elim (cases_Bool (p l)) [
    | inr n ↦ omega (arith, raise_no mk p c l n, up l)
    | inl y ↦ elim (cases_lt (c l) (e l)) [
      | inl h ↦ omega (arith, raise_yes mk p c l y)
      | inr h ↦ let w = over_parts mk ps c l (o l y) in
          absurd (both_ways _ w.1 (L.part l _ _ (λ t. asks_on c l t up h) (not_over mk ps e l w.0 (calm l w.0))))
    ]
  ])

pub presses_stay_lowest_lem : PressesStayLowest
presses_stay_lowest_lem mk L ps c d e r up calm = never_above mk L ps e calm r up

never_falls : (mk : Market) (ps : ℕ → List ℕ) {c d : ℕ → ℕ} → Leads (board_of mk) ps c d → (l : ℕ) → c l ≤ d l
never_falls mk ps stop l = le_refl _
never_falls mk ps (more {c = c} p o r) l = omega (arith, raise_low mk p c l, never_falls mk ps r l)

pub presses_end_alike_lem : PressesEndAlike
presses_end_alike_lem mk L ps c d e r x q y = fun_ext (λ l.
    omega (arith, presses_stay_lowest_lem mk L ps c d e r (never_falls mk ps q) y l, presses_stay_lowest_lem mk L ps c e d q (never_falls mk ps r) x l))
