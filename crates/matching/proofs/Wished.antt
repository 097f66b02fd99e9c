-- The wishes of a log's last line are those of the last accepted wishes. Assumes nothing.
use Rattle.std.proofs.Common.{◌≡◌, ℕ, zero, suc, ◌+◌, ◌-◌, ◌<◌, ◌≤◌, true, false, not, ◌&&◌, eqb, ltb, leb, ◌⊎◌, List, [], ◌∷◌, ◌++◌, length, get_or, take, sym, refl, ap, ◌∙◌, subst, inl, inr, le_refl, arith, take_all, take-suc}
use Rattle.std.proofs.lemmas.Bool.{cases_Bool, cases_eq, both_ways, and_parts, ltb-true, eq-eqb, ne_eqb, cond-true, cond-false, cond_both}
use Rattle.matching.specs.Market.{Board}
use Rattle.matching.specs.Log.{Call, wish, press, sweep, settle, post, State, opened, accepted, done, after, line, within}
use Rattle.matching.specs.Wishes.{AcceptedWish, WishNow}

module _ (bd : Board) where
  pub after_yes : (s : State) (c : Call) → accepted bd s c ≡ true → after bd s c ≡ done bd s c
  unfolding after
  after_yes s c e = cond-true (accepted bd s c) (done bd s c) s e

  pub after_no : (s : State) (c : Call) → accepted bd s c ≡ false → after bd s c ≡ s
  unfolding after
  after_no s c e = cond-false (accepted bd s c) (done bd s c) s e

  pub line_push : (s : State) (xs : List Call) (c : Call) → line bd s (xs ++ c ∷ []) ≡ after bd (line bd s xs) c
  unfolding line
  line_push s [] c = refl
  line_push s (x ∷ xs) c = line_push (after bd s x) xs c

  -- the call is an accepted wish of t, and its list then stands; or it is none, and the list of t stays
  abbrev Step : State → Call → ℕ → Type 0
  Step s c t = ((u : List ℕ) × (c ≡ wish (t + 1) u) × (accepted bd s c ≡ true) × ((after bd s c).wishes t ≡ u))
      ⊎ (((u : List ℕ) → c ≡ wish (t + 1) u → accepted bd s c ≡ true → ⊥) × ((after bd s c).wishes t ≡ s.wishes t))

  numbered : (s : State) (m : ℕ) (v : List ℕ) → accepted bd s (wish m v) ≡ true → 0 < m
  numbered s m v e = ltb-true 0 m (and_parts (ltb 0 m) (leb m bd.teachers)
      (and_parts (within m bd.teachers) (bd.may_wish (m - 1) v) (and_parts (not s.posted) (within m bd.teachers && bd.may_wish (m - 1) v) e).1).0).0

  step_wish : (s : State) (m : ℕ) (v : List ℕ) (t : ℕ) → Step s (wish m v) t
  step_wish s m v t = elim (cases_Bool (accepted bd s (wish m v))) [
    | inl e ↦ elim (cases_eq m (t + 1)) [
      | inl q ↦ inl (v, ap (λ (x : ℕ). wish x v) q, e, ap (λ (x : State). x.wishes t) (after_yes s (wish m v) e) ∙ cond-true (eqb t (m - 1)) v (s.wishes t) (eq-eqb t (m - 1) (omega arith)))
      | inr q ↦ inr (
        (λ u h _. let z : m ≡ t + 1 = cc in q z),
        ap (λ (x : State). x.wishes t) (after_yes s (wish m v) e) ∙ cond-false (eqb t (m - 1)) v (s.wishes t) (ne_eqb t (m - 1) (λ h. q (omega (arith, numbered s m v e)))),
      )
    ]
    | inr e ↦ inr ((λ u h k. both_ways _ e k), ap (λ (x : State). x.wishes t) (after_no s (wish m v) e))
  ]

  step_of : (s : State) (c : Call) (t : ℕ) → Step s c t
  unfolding after
  step_of s (wish m v) t = step_wish s m v t
  step_of s (press l) t = inr ((λ u h _. let z : ◌≡◌ {A = ℕ} 0 1 = cc in omega arith), cond_both (accepted bd s (press l)) (done bd s (press l)) s (λ x. x.wishes t ≡ s.wishes t) (λ _. refl) (λ _. refl))
  step_of s sweep t = inr ((λ u h _. let z : ◌≡◌ {A = ℕ} 0 1 = cc in omega arith), cond_both (accepted bd s sweep) (done bd s sweep) s (λ x. x.wishes t ≡ s.wishes t) (λ _. refl) (λ _. refl))
  step_of s (settle b) t = inr ((λ u h _. let z : ◌≡◌ {A = ℕ} 0 1 = cc in omega arith), cond_both (accepted bd s (settle b)) (done bd s (settle b)) s (λ x. x.wishes t ≡ s.wishes t) (λ _. refl) (λ _. refl))
  step_of s post t = inr ((λ u h _. let z : ◌≡◌ {A = ℕ} 0 1 = cc in omega arith), cond_both (accepted bd s post) (done bd s post) s (λ x. x.wishes t ≡ s.wishes t) (λ _. refl) (λ _. refl))

module _ (bd : Board) (w : ℕ → List ℕ) (cs : List Call) (t : ℕ) where
  -- the same of the first n calls
  abbrev Until : ℕ → List ℕ → Type 0
  Until n v = ((k : ℕ) × (k < n) × (AcceptedWish bd w cs k t v) × ((j : ℕ) (u : List ℕ) → k < j → j < n → AcceptedWish bd w cs j t u → ⊥))
      ⊎ (((j : ℕ) (u : List ℕ) → j < n → AcceptedWish bd w cs j t u → ⊥) × (v ≡ w t))

  before : ℕ → State
  before n = line bd (opened w) (take n cs)

  more : (n : ℕ) → n < length cs → Until n ((before n).wishes t) → Until (suc n) ((after bd (before n) (get_or cs n post)).wishes t)
  unfolding before
  more n h r = elim (step_of bd (before n) (get_or cs n post) t) [
    | inl e ↦ let P : List ℕ → Type 0 = Until (suc n) in
        subst P (sym e.3) (inl (n, le_refl _, record { made = h; call = e.1; taken = subst (λ (x : Call). accepted bd (before n) x ≡ true) e.1 e.2 }, λ j u k i _. omega arith))
    | inr e ↦ let P : List ℕ → Type 0 = Until (suc n) in
        let not_here : (u : List ℕ) → AcceptedWish bd w cs n t u → ⊥ = λ u a. e.0 u a.call (subst (λ (x : Call). accepted bd (before n) x ≡ true) (sym a.call) a.taken) in
        subst P (sym e.1) (elim r [
          | inl x ↦ inl (
            x.0,
            omega (arith, x.1),
            x.2,
            λ j u k i a. elim (cases_eq j n) [
              | inl q ↦ not_here u (subst (λ (y : ℕ). AcceptedWish bd w cs y t u) q a)
              | inr q ↦ x.3 j u k (omega arith) a
            ],
          )
          | inr y ↦ inr (
            (λ j u i a. elim (cases_eq j n) [
              | inl q ↦ not_here u (subst (λ (y : ℕ). AcceptedWish bd w cs y t u) q a)
              | inr q ↦ y.0 j u (omega arith) a
            ]),
            y.1,
          )
        ])
  ]

  until : (n : ℕ) → n ≤ length cs → Until n ((before n).wishes t)
  unfolding before line
  until zero h = inr ((λ j u i _. omega arith), refl)
  until (suc n) h =
      let e : before (suc n) ≡ after bd (before n) (get_or cs n post) = ap (line bd (opened w)) (take-suc cs n post h) ∙ line_push bd (opened w) (take n cs) (get_or cs n post) in
      subst (λ (x : State). Until (suc n) (x.wishes t)) (sym e) (more n h (until n (omega arith)))

  all_calls : Until (length cs) ((line bd (opened w) cs).wishes t)
  unfolding before
  all_calls = subst (λ (x : List Call). Until (length cs) ((line bd (opened w) x).wishes t)) (take_all (length cs) cs (le_refl _)) (until (length cs) (le_refl _))

  pub wish_now : WishNow bd w cs t ((line bd (opened w) cs).wishes t)
  wish_now = elim all_calls [
    | inl x ↦ inl (record { index = x.0; accepts = x.2; none_later = λ j u k a. x.3 j u k a.made a })
    | inr y ↦ inr (record { none = λ j u a. y.0 j u a.made a; begun = y.1 })
  ]
