-- What settle and sweep answer and leave, step by step.
use Rattle.std.proofs.Common.{◌≡◌, ℕ, zero, suc, ◌+◌, ◌-◌, ◌<◌, ◌≤◌, Bool, true, false, cond, ◌&&◌, ltb, ◌≢◌, ◌⊎◌, Some, None, Ok, Err, Option, Result, sym, refl, ap, ◌∙◌, inl, inr, add-zero, one-add, arith}
use mathlib.Core.Path.{fun_ext}
use Rattle.std.proofs.lemmas.Bool.{cond-true, cond-false, and_left, and_right, not_from_false, cases_eq, cases_lt, cases_Bool, lt-ltb, le-ltb, eq-eqb, ne_eqb}
use Rattle.matching.specs.Count.{count, sum_to}
use Rattle.matching.specs.Groups.{Group}
use Rattle.matching.specs.Log.{State, sweep, settle, picks, pressed, on_some, settled, presses, raise}
use Rattle.matching.specs.Market.{Board}
use Rattle.matching.proofs.Ranking.{count_no}
use Rattle.matching.proofs.Wished.{after_yes}
use Rattle.book.specs.Model.{Model, board_in, with_cuts}
use Rattle.round.specs.declared.answers.Refusal.{Refusal}
use Rattle.round.specs.declared.answers.Refusal.TheVariants.{Posted}
use Rattle.round.specs.declared.answers.Settled.{Settled}
use Rattle.round.specs.Calls.{over_in, next_in, any_over, still_open, sweep_call, settled_in, presses_in, settle_call}
use Rattle.round.specs.Loops.{settle_out, more_presses, up_to, swept_to}
use Rattle.round.proofs.Over.{bumped, over_inside, over_past}

-- a call goes on only where the round is not posted
pub goes_on : (m : Model) (u : Unit {0}) → ◌≡◌ {A = Result (Unit {0}) Refusal} (Ok u) (still_open m) → m.1.posted ≡ false
goes_on m u e = by m.1.posted refl e
  where
    by : (b : Bool) → m.1.posted ≡ b → ◌≡◌ {A = Result (Unit {0}) Refusal} (Ok u) (cond b (Err Posted) (Ok tt)) → m.1.posted ≡ false
    by false h e = h
    by true h e = cc

module _ (family : ℕ → Group → Bool) where
  abbrev bd : Model → Board
  bd m = board_in family m.0

  -- an answer with the round that is left
  pub leaves : {A : Type 0} (m : Model) (a b : A) (s t : State) → a ≡ b → s ≡ t → ◌≡◌ {A = A × Model} (a, (m.0, s)) (b, (m.0, t))
  leaves {A = A} m a b s t p q = let f : A → A × Model = λ x. (x, (m.0, s)) in let h : State → A × Model = λ u. (b, (m.0, u)) in ap f p ∙ ap h q

  -- ---- settle
  module _ (m : Model) where
    settle_step : (b l : ℕ) → next_in family m ≡ Some l → settle_out family m (suc b) ≡ more_presses 1 (settle_out family (bumped m l) b)
    unfolding settle_out
    settle_step b l e = let f : Option ℕ → ℕ × Model = λ o. on_some o (0, m) (λ k. more_presses 1 (settle_out family (bumped m k) b)) in ap f e

    pub settle_stop : (b : ℕ) → next_in family m ≡ None → settle_out family m b ≡ (0, m)
    unfolding settle_out
    settle_stop zero e = refl
    settle_stop (suc b) e = let f : Option ℕ → ℕ × Model = λ o. on_some o (0, m) (λ k. more_presses 1 (settle_out family (bumped m k) b)) in ap f e

  pub settle_more : (o m n : Model) (b i l : ℕ) → i < b → settle_out family o b ≡ more_presses i (settle_out family m (b - i)) → next_in family m ≡ Some l → n ≡ bumped m l
      → settle_out family o b ≡ more_presses (i + 1) (settle_out family n (b - (i + 1)))
  settle_more o m n b i l h inv e q =
      let d : b - i ≡ suc (b - (i + 1)) = omega arith in
      let r = settle_out family (bumped m l) (b - (i + 1)) in
      let a : i + (1 + r.0) ≡ i + 1 + r.0 = omega arith in
      let f : ℕ → ℕ × Model = λ x. (x, r.1) in
      inv ∙ ap (λ x. more_presses i (settle_out family m x)) d ∙ ap (more_presses i) (settle_step m (b - (i + 1)) l e) ∙ ap f a
      ∙ ap (λ x. more_presses (i + 1) (settle_out family x (b - (i + 1)))) (sym q)

  pub settle_stop_at : (m : Model) (i b : ℕ) → next_in family m ≡ None → more_presses i (settle_out family m b) ≡ (i, m)
  settle_stop_at m i b e = let f : ℕ → ℕ × Model = λ x. (x, m) in ap (more_presses i) (settle_stop m b e) ∙ ap f (add-zero i)

  pub settle_end : (m : Model) (i b : ℕ) → i ≡ b → more_presses i (settle_out family m (b - i)) ≡ (b, m)
  unfolding settle_out
  settle_end m i b e = let f : ℕ → ℕ × Model = λ x. (x, m) in let z : b - i ≡ 0 = omega arith in let a : i + 0 ≡ b = omega arith in
      ap (λ x. more_presses i (settle_out family m x)) z ∙ ap f a

  pub settle_is : (b : ℕ) (m : Model) → settle_out family m b ≡ (presses_in family m b, settled_in family m b)
  unfolding settle_out settled presses
  settle_is zero m = refl
  settle_is (suc b) m = go (next_in family m) (settle_is b)
    where
      go : (o : Option ℕ) → ((u : Model) → settle_out family u b ≡ (presses_in family u b, settled_in family u b))
          → ◌≡◌ {A = ℕ × Model} (on_some o (0, m) (λ l. more_presses 1 (settle_out family (bumped m l) b))) (
            on_some o zero (λ l. suc (presses (bd m) (picks (bd m) m.1) b (pressed l m.1.cuts))),
            (m.0, with_cuts m.1 (on_some o m.1.cuts (λ l. settled (bd m) (picks (bd m) m.1) b (pressed l m.1.cuts)))),
          )
      go None ih = refl
      go (Some l) ih = let f : ℕ → ℕ × Model = λ x. (x, settled_in family (bumped m l) b) in
          ap (more_presses 1) (ih (bumped m l)) ∙ ap f (one-add (presses_in family (bumped m l) b))

  pub settle_done : (o m : Model) (b k : ℕ) (x : Bool) → o.1.posted ≡ false → settle_out family o b ≡ (k, m) → x ≡ any_over family m
      → ◌≡◌ {A = Result Settled Refusal × Model} (Ok (record { presses = k; over = x }), m) (settle_call family b o)
  settle_done o m b k x h e q =
      let f : ℕ × Model → Result Settled Refusal × Model = λ r. (Ok (record { presses = r.0; over = any_over family r.1 }), r.1) in
      let u : Bool → Result Settled Refusal × Model = λ y. (Ok (record { presses = k; over = y }), m) in
      ap u q ∙ ap f (sym e ∙ settle_is b o) ∙ leaves o _ _ _ _ (sym (cond-false _ _ _ h)) (sym (after_yes (bd o) o.1 (settle b) (not_from_false _ h)))

  -- ---- sweep
  module _ (o : ℕ → Bool) (i : ℕ) where
    up_same : (k : ℕ) → k ≢ i → up_to o (i + 1) k ≡ up_to o i k
    up_same k q = ap (λ b. b && o k) (elim (cases_lt k i) [
      | inl j ↦ lt-ltb k (i + 1) (omega arith) ∙ sym (lt-ltb k i j)
      | inr j ↦ le-ltb k (i + 1) (omega (arith, q)) ∙ sym (le-ltb k i j)
    ])

    up_here : up_to o (i + 1) i ≡ o i
    up_here = ap (λ b. b && o i) (lt-ltb i (i + 1) (omega arith))

    up_not : up_to o i i ≡ false
    up_not = and_left _ _ (le-ltb i i (omega arith))

  module _ (m : Model) (i : ℕ) where
    pub swept_cut : (swept_to family m i).1.cuts i ≡ m.1.cuts i
    swept_cut = cond-false _ _ _ (up_not (over_in family m) i)

    pub swept_no : over_in family m i ≡ false → swept_to family m i ≡ swept_to family m (i + 1)
    swept_no e = let f : (ℕ → ℕ) → Model = λ cut. (m.0, with_cuts m.1 cut) in
        ap f (fun_ext (λ k. elim (cases_eq k i) [
          | inl q ↦ ap (λ j. raise (up_to (over_in family m) i) m.1.cuts j) q ∙ cond-false _ _ _ (up_not (over_in family m) i) ∙ sym (cond-false _ _ _ (up_here (over_in family m) i ∙ e))
              ∙ ap (λ j. raise (up_to (over_in family m) (i + 1)) m.1.cuts j) (sym q)
          | inr q ↦ ap (λ b. cond b (suc (m.1.cuts k)) (m.1.cuts k)) (sym (up_same (over_in family m) i k q))
        ]))

    pub swept_yes : over_in family m i ≡ true → bumped (swept_to family m i) i ≡ swept_to family m (i + 1)
    swept_yes e = let f : (ℕ → ℕ) → Model = λ cut. (m.0, with_cuts m.1 cut) in
        ap f (fun_ext (λ k. elim (cases_eq k i) [
          | inl q ↦ cond-true _ _ _ (eq-eqb k i q) ∙ ap (λ j. suc (raise (up_to (over_in family m) i) m.1.cuts j)) q ∙ ap suc (cond-false _ _ _ (up_not (over_in family m) i))
              ∙ sym (cond-true _ _ _ (up_here (over_in family m) i ∙ e)) ∙ ap (λ j. raise (up_to (over_in family m) (i + 1)) m.1.cuts j) (sym q)
          | inr q ↦ cond-false _ _ _ (ne_eqb k i q) ∙ ap (λ b. cond b (suc (m.1.cuts k)) (m.1.cuts k)) (sym (up_same (over_in family m) i k q))
        ]))

  pub swept_start : (m : Model) → m ≡ swept_to family m 0
  swept_start m = let f : (ℕ → ℕ) → Model = λ cut. (m.0, with_cuts m.1 cut) in
      ap f (fun_ext (λ k. sym (cond-false _ _ _ (and_left _ _ (le-ltb k 0 (omega arith))))))

  -- lanes past the last are not counted
  count_past : (m : Model) (d : ℕ) → count (over_in family m) ((bd m).lanes + d) ≡ count (over_in family m) (bd m).lanes
  count_past m zero = ap (count (over_in family m)) (add-zero (bd m).lanes)
  count_past m (suc d) =
      let e : (bd m).lanes + suc d ≡ (bd m).lanes + d + 1 = omega arith in
      ap (count (over_in family m)) e ∙ count_no (over_in family m) ((bd m).lanes + d) (over_past family m ((bd m).lanes + d) (omega arith)) ∙ count_past m d

  pub sweep_done : (m n : Model) (i k : ℕ) → m.1.posted ≡ false → (bd m).lanes ≤ i → n ≡ swept_to family m i → k ≡ count (over_in family m) i
      → ◌≡◌ {A = Result ℕ Refusal × Model} (Ok k, n) (sweep_call family m)
  sweep_done m n i k h e q r =
      let f : Model → Result ℕ Refusal × Model = λ x. (Ok k, x) in
      let u : ℕ → Result ℕ Refusal × Model = λ x. (Ok x, swept_to family m i) in
      let w : (ℕ → ℕ) → Result ℕ Refusal × Model = λ cut. (Ok (count (over_in family m) (bd m).lanes), (m.0, with_cuts m.1 cut)) in
      let d : i ≡ (bd m).lanes + (i - (bd m).lanes) = omega arith in
      ap f q ∙ ap u (r ∙ ap (count (over_in family m)) d ∙ count_past m (i - (bd m).lanes))
      ∙ ap w (fun_ext (λ k. ap (λ b. cond b (suc (m.1.cuts k)) (m.1.cuts k)) (whole k (cases_Bool (over_in family m k)))))
      ∙ leaves m _ _ _ _ (sym (cond-false _ _ _ h)) (sym (after_yes (bd m) m.1 sweep (not_from_false _ h)))
    where
      whole : (k : ℕ) → (over_in family m k ≡ true) ⊎ (over_in family m k ≡ false) → up_to (over_in family m) i k ≡ over_in family m k
      whole k (inl o) = ap (λ b. b && over_in family m k) (lt-ltb k i (omega (arith, over_inside family m k o)))
      whole k (inr o) = and_right (ltb k i) _ o ∙ sym o

pub count_none : (p : ℕ → Bool) → count p 0 ≡ 0
unfolding sum_to
count_none p = refl
