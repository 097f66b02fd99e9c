-- Over-asked lanes: what the limit's answer tells, and that their cutoffs can rise.
use Rattle.std.proofs.Common.{◌≡◌, ℕ, zero, suc, ◌+◌, ◌-◌, ◌<◌, ◌≤◌, min, Bool, true, false, cond, not, ◌&&◌, eqb, ltb, ◌≢◌, List, length, get_or, Some, None, Option, sym, refl, ap, ◌∙◌, ap₂, inl, inr, ⊎_elim, add-zero, arith}
use mathlib.Core.Path.{fun_ext}
use Rattle.std.specs.Option.{MatchOption}
use Rattle.std.proofs.lemmas.Bool.{cases_lt, cases_eq, both_ways, lt-ltb, le-ltb, ltb-true, eq-eqb, ne_eqb, cond-true, cond-false, and_parts, not-true}
use Rattle.matching.specs.Groups.{Group, nobody, told}
use Rattle.matching.specs.Log.{picks, least, on_some, pressed}
use Rattle.matching.specs.Market.{Board, clears, offer, askers, over_asked}
use Rattle.matching.specs.Picks.{holds}
use Rattle.matching.proofs.Counts.{some_or_none}
use Rattle.matching.proofs.Lists.{holds_true, least_some, first_on}
use Rattle.matching.proofs.Offers.{board_clears_parts}
use Rattle.sheets.specs.Held.{model_of}
use Rattle.book.specs.declared.book.Book.{Book}
use Rattle.book.specs.Held.{book_model, fixed_of, state_of}
use Rattle.book.specs.Model.{Model, board_in, offer_in, with_cuts, lifted}
use Rattle.book.proofs.Asking.{no_offer}
use Rattle.round.specs.Calls.{over_in, next_in}

module _ (family : ℕ → Group → Bool) (m : Model) where
  abbrev bd : Board
  bd = board_in family m.0

  -- offers do not ask the limit
  pub offer_any : (t : ℕ) → offer_in m t ≡ offer bd (picks bd m.1) m.1.cuts t
  unfolding offer clears
  offer_any t = refl

  -- the limit was asked with the row of the askers
  pub crowded_is : (l : ℕ) (row : List ℕ) (offers : List (Option ℕ)) → l < length m.0.posts.lanes → ((t : ℕ) → told row t ≡ holds (get_or offers t None) l)
      → ((t : ℕ) → get_or offers t None ≡ offer_in m t) → not (family (l + 1) (told row)) ≡ over_in family m l
  unfolding over_asked
  crowded_is l row offers h r o =
      ap (λ g. not (family (l + 1) g)) (fun_ext (λ t. r t ∙ ap (λ x. holds x l) (o t ∙ offer_any t)))
      ∙ sym (ap (λ b. b && not (family (l + 1) (askers bd (picks bd m.1) m.1.cuts l))) (lt-ltb l (length m.0.posts.lanes) h))

  -- past the lanes nothing is over-asked
  pub over_past : (l : ℕ) → length m.0.posts.lanes ≤ l → over_in family m l ≡ false
  unfolding over_asked
  over_past l h = ap (λ b. b && not (family (l + 1) (askers bd (picks bd m.1) m.1.cuts l))) (le-ltb l (length m.0.posts.lanes) h)

  pub over_inside : (l : ℕ) → over_in family m l ≡ true → l < length m.0.posts.lanes
  unfolding over_asked
  over_inside l e = ltb-true l (length m.0.posts.lanes) (and_parts (ltb l (length m.0.posts.lanes)) (not (family (l + 1) (askers bd (picks bd m.1) m.1.cuts l))) e).0

  over_unfit : (l : ℕ) → over_in family m l ≡ true → family (l + 1) (askers bd (picks bd m.1) m.1.cuts l) ≡ false
  unfolding over_asked
  over_unfit l e = not-true _ (and_parts (ltb l (length m.0.posts.lanes)) (not (family (l + 1) (askers bd (picks bd m.1) m.1.cuts l))) e).1

  pub next_over : (l : ℕ) → next_in family m ≡ Some l → over_in family m l ≡ true
  next_over l e = (least_some _ _ l e).0

  -- an over-asked lane has an asker, so its cutoff is at most the highest rank
  module _ (empty : (lane : ℕ) → family lane nobody ≡ true) (n : ℕ) (past : (t : ℕ) → n ≤ t → offer_in m t ≡ None) (small : (l t : ℕ) → m.0.ranks l t ≤ 201) where
    asker : (l : ℕ) → over_in family m l ≡ true → (t : ℕ) × (offer bd (picks bd m.1) m.1.cuts t ≡ Some l)
    asker l e = elim (some_or_none (askers bd (picks bd m.1) m.1.cuts l) n) [
      | inl x ↦ (x.0, holds_true _ l x.2)
      | inr none ↦ absurd (both_ways _ (over_unfit l e) (ap (family (l + 1)) (fun_ext (λ t. ⊎_elim (λ (a : t < n). none t a) (λ (b : n ≤ t). ap (λ o. holds o l) (sym (offer_any t) ∙ past t b)) (cases_lt t n))) ∙ empty (l + 1)))
    ]

    pub over_cut : (l : ℕ) → over_in family m l ≡ true → m.1.cuts l ≤ 201
    unfolding offer
    over_cut l e =
        let x = asker l e in
        let c = board_clears_parts bd m.1.cuts x.0 l (first_on (clears bd m.1.cuts x.0) (picks bd m.1 x.0) l x.1).0 in
        omega (arith, c.1, small l x.0)

-- one lane's cutoff goes up by 1
abbrev pub bumped : Model → ℕ → Model
bumped m l = (m.0, with_cuts m.1 (pressed l m.1.cuts))

pub lifted_bumped : (m : Model) (l : ℕ) → l < length m.0.posts.lanes → m.1.cuts l ≤ 201 → lifted m l ≡ bumped m l
lifted_bumped m l h c = ap (λ (d : ℕ → ℕ). (m.0, with_cuts m.1 d)) (fun_ext (λ k. ⊎_elim
    (λ (e : k ≡ l).
    cond-true (ltb l (length m.0.posts.lanes) && eqb k l) (min (suc (m.1.cuts k)) 202) (m.1.cuts k) (ap₂ (λ a b. a && b) (lt-ltb l (length m.0.posts.lanes) h) (eq-eqb k l e))
    ∙ omega (arith, ap m.1.cuts e) ∙ sym (cond-true (eqb k l) (suc (m.1.cuts k)) (m.1.cuts k) (eq-eqb k l e)))
    (λ (n : k ≢ l).
    cond-false (ltb l (length m.0.posts.lanes) && eqb k l) (min (suc (m.1.cuts k)) 202) (m.1.cuts k) (no (ltb l (length m.0.posts.lanes)) (eqb k l) (ne_eqb k l n))
    ∙ sym (cond-false (eqb k l) (suc (m.1.cuts k)) (m.1.cuts k) (ne_eqb k l n)))
    (cases_eq k l)))
  where
    no : (a b : Bool) → b ≡ false → (a && b) ≡ false
    no true b e = e
    no false b e = refl

-- ---- a book's model

module _ (b : Book) where
  pub ranks_small : (l t : ℕ) → (book_model b).0.ranks l t ≤ 201
  ranks_small l t =
      by (ltb l (length (model_of b.sheets).posts.lanes) && ltb t (length (model_of b.sheets).teachers)) _ (b.ranks.small l t)
    where
      by : (a : Bool) (x : ℕ) → x ≤ 201 → cond a x 0 ≤ 201
      by true x h = h
      by false x h = omega arith

  pub offers_past : (t : ℕ) → length (model_of b.sheets).teachers ≤ t → offer_in (book_model b) t ≡ None
  offers_past t h = sym (no_offer (model_of b.sheets) (fixed_of b).ranks (state_of b).cuts b.posted t h)

  pub raised_is : (family : ℕ → Group → Bool) → ((lane : ℕ) → family lane nobody ≡ true) → (l : ℕ) → over_in family (book_model b) l ≡ true → lifted (book_model b) l ≡ bumped (book_model b) l
  raised_is family empty l e =
      lifted_bumped (book_model b) l (over_inside family (book_model b) l e) (over_cut family (book_model b) empty (length (model_of b.sheets).teachers) offers_past ranks_small l e)

-- ---- the first over-asked lane

module _ (p : ℕ → Bool) where
  least_start : least p 0 ≡ None
  unfolding least
  least_start = refl

  least_next : (i : ℕ) (b : Bool) → least p i ≡ None → p i ≡ b → least p (suc i) ≡ cond b (Some i) None
  unfolding least
  least_next i b h e = ap (λ o. on_some o (cond (p i) (Some i) None) (λ k. Some k)) h ∙ ap (λ x. cond x (Some i) None) e

  least_none : (i : ℕ) → ((k : ℕ) → k < i → p k ≡ false) → least p i ≡ None
  least_none zero h = least_start
  least_none (suc i) h = least_next i false (least_none i (λ k l. h k (omega arith))) (h i (omega arith))

  least_stays : (m k d : ℕ) → least p m ≡ Some k → least p (m + d) ≡ Some k
  unfolding least
  least_stays m k zero h = ap (least p) (add-zero m) ∙ h
  least_stays m k (suc d) h = let e : m + suc d ≡ suc (m + d) = omega arith in
      ap (least p) e ∙ ap (λ o. on_some o (cond (p (m + d)) (Some (m + d)) None) (λ k. Some k)) (least_stays m k d h)

  least_hit : (i n : ℕ) → least p i ≡ None → p i ≡ true → i < n → least p n ≡ Some i
  least_hit i n h e k = let q : n ≡ suc i + (n - suc i) = omega arith in ap (least p) q ∙ least_stays (suc i) i (n - suc i) (least_next i true h e)

  -- the first number of a range that passes
  pub least_is : (n m : ℕ) (r : Option ℕ) → m ≡ n
      → MatchOption r ((k : ℕ) → 0 ≤ k → k < m → p k ≡ false) (λ i. (0 ≤ i) × (i < m) × (p i ≡ true) × ((k : ℕ) → 0 ≤ k → k < i → p k ≡ false)) → r ≡ least p n
  least_is n m None e h = sym (least_none n (λ k l. h k (omega arith) (omega arith)))
  least_is n m (Some i) e h = sym (least_hit i n (least_none i (λ k l. h.3 k (omega arith) l)) h.2 (omega (arith, h.1)))

pub book_cut : (b : Book) (family : ℕ → Group → Bool) → ((lane : ℕ) → family lane nobody ≡ true) → (l : ℕ) → over_in family (book_model b) l ≡ true → (book_model b).1.cuts l ≤ 201
book_cut b family empty l e = over_cut family (book_model b) empty (length (model_of b.sheets).teachers) (offers_past b) (ranks_small b) l e
