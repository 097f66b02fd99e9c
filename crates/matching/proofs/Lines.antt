-- Every line of every log. Assumes nothing.
use Rattle.std.proofs.Common.{◌≡◌, ℕ, ◌-◌, Bool, true, false, not, ◌&&◌, List, [], ◌∷◌, Some, None, Option, refl, arith}
use Rattle.std.proofs.lemmas.Nat.{mul-le}
use Rattle.std.proofs.lemmas.Bool.{cond_both, and_parts, both_ways, eqb-true, not-true, not-false}
use Rattle.matching.specs.Market.{Market, board_of, Laws, OwnLaws, Picked, OwnPicked, over_asked, Calm}
use Rattle.matching.specs.Log.{Call, wish, press, sweep, settle, post, State, picks, opened, accepted, done, after, line, within, next, on_some}
use Rattle.matching.specs.Promise.{Room, Best, IncumbentsKept, EveryLineKeepsThePromise, BestAndFairWithoutBands, CutoffsStayBounded, SettleEnds, SixteenThousandSuffice, PostedIsCalm}
use Rattle.matching.proofs.Offers.{Sees, sees_open, sees_raise, best_of, offers_fair}
use Rattle.matching.proofs.Incumbents.{Held, held_open, held_raise, kept_of}
use Rattle.matching.proofs.Bounds.{Bounded, Lasts, bounded_raise, lasts_settled, counted_of, budgeted_of, used_of, ends_of}
use Rattle.matching.proofs.Lists.{least_none}
use Rattle.matching.proofs.Wished.{wish_now}

pub record Sound (mk : Market) (ps : ℕ → List ℕ) (cut : ℕ → ℕ) : Type 0 where
  pub sees : Sees mk ps cut
  pub held : OwnLaws mk → (q : ℕ → ℕ) → Room mk q → Held mk ps q cut
  pub bounded : Bounded mk cut

last_of : (x y z : Bool) → (x && (y && z)) ≡ true → z ≡ true
last_of x y z h = (and_parts y z (and_parts x (y && z) h).1).1

-- a claim on pick lists and cutoffs that holds at cutoffs 1 and outlives every raise holds at every line
module _ (mk : Market) (L : Laws mk) (P : (ℕ → List ℕ) → (ℕ → ℕ) → Type 0)
    (start : (w : ℕ → List ℕ) → P (λ t. mk.pick t (w t)) (λ _. 1)) (lasts : (w : ℕ → List ℕ) → Lasts mk (λ t. mk.pick t (w t)) (P (λ t. mk.pick t (w t)))) where
  at_after : (s : State) (c : Call) → P (picks (board_of mk) s) s.cuts → P (picks (board_of mk) (after (board_of mk) s c)) (after (board_of mk) s c).cuts
  unfolding after
  at_after s c v = cond_both (accepted (board_of mk) s c) (done (board_of mk) s c) s (λ u. P (picks (board_of mk) u) u.cuts) (one c) (λ _. v)
    where
      one : (c : Call) → accepted (board_of mk) s c ≡ true → P (picks (board_of mk) (done (board_of mk) s c)) (done (board_of mk) s c).cuts
      one (wish t w) h = start _
      one (press l) h = lasts _ _ s.cuts (λ k e. rw (eqb-true k (l - 1) e) (last_of (not s.posted) (within l mk.lanes) (over_asked (board_of mk) (picks (board_of mk) s) s.cuts (l - 1)) h)) v
      one sweep h = lasts _ _ s.cuts (λ k e. e) v
      one (settle b) h = lasts_settled mk L (picks (board_of mk) s) (P (picks (board_of mk) s)) (lasts _) b s.cuts v
      one post h = v

  pub at_line : (cs : List Call) (s : State) → P (picks (board_of mk) s) s.cuts → P (picks (board_of mk) (line (board_of mk) s cs)) (line (board_of mk) s cs).cuts
  unfolding line
  at_line [] s v = v
  at_line (c ∷ cs) s v = at_line cs (after (board_of mk) s c) (at_after s c v)

module _ (mk : Market) (L : Laws mk) (ps : ℕ → List ℕ) (P : Picked mk ps) where
  pub sound_open : Sound mk ps (λ _. 1)
  sound_open = record {
    sees = sees_open mk L ps P (λ _. 1) (λ _. refl);
    held = λ O q r. held_open mk L O ps q r (λ _. 1) (λ _. refl);
    bounded = λ l k. (omega arith, omega arith);
  }

  pub sound_raise : Lasts mk ps (Sound mk ps)
  sound_raise p s o v = record {
    sees = sees_raise mk L ps P p s o v.sees;
    held = λ O q r. held_raise mk L O ps q r p s o (v.held O q r);
    bounded = bounded_raise mk L ps p s o v.bounded;
  }

  pub best_at : (s : ℕ → ℕ) → Sound mk ps s → Best mk ps s
  best_at s v μ f t _ = best_of mk L ps P s v.sees μ f t

  pub kept_at : OwnLaws mk → OwnPicked mk ps → (s : ℕ → ℕ) → Sound mk ps s → IncumbentsKept mk ps s
  kept_at O op s v q r = kept_of mk L O ps q r op s (v.held O q r)

module _ (mk : Market) (L : Laws mk) (P : (w : ℕ → List ℕ) → Picked mk (λ t. mk.pick t (w t))) (w : ℕ → List ℕ) (cs : List Call) where
  sound_line : Sound mk (picks (board_of mk) (line (board_of mk) (opened w) cs)) (line (board_of mk) (opened w) cs).cuts
  sound_line = at_line mk L (Sound mk) (λ v. sound_open mk L _ (P v)) (λ v. sound_raise mk L _ (P v)) cs (opened w) (sound_open mk L _ (P w))

pub every_line_keeps_the_promise_lem : EveryLineKeepsThePromise
every_line_keeps_the_promise_lem mk L O P Q w cs = record {
  wishes = λ t. wish_now (board_of mk) w cs t;
  cutoffs = refl;
  best = best_at mk L _ (P _) _ (sound_line mk L P w cs);
  fair = offers_fair mk L _ (P _) _;
  kept = kept_at mk L _ (P _) O (Q _) _ (sound_line mk L P w cs);
}

pub best_and_fair_without_bands_lem : BestAndFairWithoutBands
best_and_fair_without_bands_lem mk L P w cs =
    (λ t. wish_now (board_of mk) w cs t, best_at mk L _ (P _) _ (sound_line mk L P w cs), offers_fair mk L _ (P _) _)

-- ---- bounds

pub cutoffs_stay_bounded_lem : CutoffsStayBounded
cutoffs_stay_bounded_lem mk L w cs = record {
  low = λ l k. (v l k).0;
  high = λ l k. (v l k).1;
  ends = ends_of mk L ps s v;
  counted = λ b. counted_of mk L ps b s;
  budgeted = λ b. budgeted_of mk L ps b s;
  used = λ b l h. used_of mk L ps b s l h;
}
  where
    ps : ℕ → List ℕ
    ps = picks (board_of mk) (line (board_of mk) (opened w) cs)

    s : ℕ → ℕ
    s = (line (board_of mk) (opened w) cs).cuts

    v : Bounded mk s
    v = at_line mk L (λ _ c. Bounded mk c) (λ _ l k. (omega arith, omega arith)) (λ u. bounded_raise mk L _) cs (opened w) (λ l k. (omega arith, omega arith))

-- ---- an ended round

abbrev Ended : Market → State → Type 0
Ended mk s = s.posted ≡ true → Calm (board_of mk) (picks (board_of mk) s) s.cuts

module _ (mk : Market) where
  not_posted : (s : State) (x : Bool) → (not s.posted && x) ≡ true → s.posted ≡ false
  not_posted s x h = not-true s.posted (and_parts (not s.posted) x h).0

  none_over : (s : State) → on_some (next (board_of mk) (picks (board_of mk) s) s.cuts) true (λ _. false) ≡ true → Calm (board_of mk) (picks (board_of mk) s) s.cuts
  none_over s h l k = go (next (board_of mk) (picks (board_of mk) s) s.cuts) refl h
    where
      go : (o : Option ℕ) → next (board_of mk) (picks (board_of mk) s) s.cuts ≡ o → on_some o true (λ _. false) ≡ true → over_asked (board_of mk) (picks (board_of mk) s) s.cuts l ≡ false
      go None e _ = least_none (over_asked (board_of mk) (picks (board_of mk) s) s.cuts) mk.lanes e l k
      go (Some x) e f = absurd (both_ways false refl f)

  ended_done : (s : State) (c : Call) → accepted (board_of mk) s c ≡ true → Ended mk (done (board_of mk) s c)
  ended_done s (wish t v) h p = absurd (both_ways _ (not_posted s (within t mk.teachers && mk.may_wish (t - 1) v) h) p)
  ended_done s (press l) h p = absurd (both_ways _ (not_posted s (within l mk.lanes && over_asked (board_of mk) (picks (board_of mk) s) s.cuts (l - 1)) h) p)
  ended_done s sweep h p = absurd (both_ways _ (not-true _ h) p)
  ended_done s (settle b) h p = absurd (both_ways _ (not-true _ h) p)
  ended_done s post h p = none_over s (and_parts (not s.posted) (on_some (next (board_of mk) (picks (board_of mk) s) s.cuts) true (λ _. false)) h).1

  ended_after : (s : State) (c : Call) → Ended mk s → Ended mk (after (board_of mk) s c)
  unfolding after
  ended_after s c v = cond_both (accepted (board_of mk) s c) (done (board_of mk) s c) s (Ended mk) (ended_done s c) (λ _. v)

  ended_line : (cs : List Call) (s : State) → Ended mk s → Ended mk (line (board_of mk) s cs)
  unfolding line
  ended_line [] s v = v
  ended_line (c ∷ cs) s v = ended_line cs (after (board_of mk) s c) (ended_after s c v)

pub posted_is_calm_lem : PostedIsCalm
posted_is_calm_lem mk w cs = ended_line mk cs (opened w) (λ h. absurd (both_ways false refl h))

pub settle_ends_lem : SettleEnds
unfolding after
settle_ends_lem mk L w cs b big = cond_both (not s.posted) (done (board_of mk) s (settle b)) s (λ u. Calm (board_of mk) (picks (board_of mk) u) u.cuts)
    (λ _. (cutoffs_stay_bounded_lem mk L w cs).ends b big) (λ h. posted_is_calm_lem mk w cs (not-false _ h))
  where
    s : State
    s = line (board_of mk) (opened w) cs

pub sixteen_thousand_suffice_lem : SixteenThousandSuffice
sixteen_thousand_suffice_lem mk L few small w cs b big = settle_ends_lem mk L w cs b (omega (arith, mul-le mk.lanes mk.teachers 80 200 few small))
