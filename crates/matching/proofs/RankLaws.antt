-- Ranks tell who stands before, and are the numbers from 1 to the number of the licensed. Assumes nothing.
use Rattle.std.proofs.Common.{◌≡◌, ℕ, zero, suc, ◌+◌, ◌-◌, ◌<◌, ◌≤◌, Bool, true, false, not, ◌&&◌, eqb, ◌≢◌, ◌⊎◌, refl, ap, inl, inr, le_refl, arith}
use Rattle.std.proofs.lemmas.Bool.{cases_Bool, cases_eq, and_parts, and_from, and_right, both_ways, eqb-true, eq-eqb, ne_eqb, not-true, not_from_false}
use Rattle.matching.specs.Count.{count, bit}
use Rattle.matching.specs.Market.{Market, Laws, rank, crowd}
use Rattle.matching.specs.Ranks.{OneToN, RanksAreOneToN}
use Rattle.matching.proofs.Counts.{count_lt, count_but, count_bound, sum_bound, some_or_none}

-- ---- different numbers below m

module _ (n : ℕ) (f : ℕ → ℕ) where
  -- those who pass have different numbers
  abbrev Apart : (ℕ → Bool) → Type 0
  Apart p = (t u : ℕ) → p t ≡ true → p u ≡ true → f t ≡ f u → t ≡ u

  -- without x
  but : (ℕ → Bool) → ℕ → ℕ → Bool
  but p x t = p t && not (eqb t x)

  but_parts : (p : ℕ → Bool) (x t : ℕ) → but p x t ≡ true → (p t ≡ true) × (t ≢ x)
  unfolding but
  but_parts p x t h = let w = and_parts (p t) (not (eqb t x)) h in (w.0, λ e. both_ways _ (not-true _ w.1) (eq-eqb t x e))

  -- all but x number at most one less
  but_count : (p : ℕ → Bool) (x : ℕ) → count p n ≤ 1 + count (but p x) n
  unfolding but
  but_count p x = count_but p (but p x) n x (λ t _ ne h. and_from _ _ h (not_from_false _ (ne_eqb t x ne)))

  but_apart : (p : ℕ → Bool) (x : ℕ) → Apart p → Apart (but p x)
  but_apart p x a t u h k = a t u (but_parts p x t h).0 (but_parts p x u k).0

  -- who has number m, if anyone
  at : (p : ℕ → Bool) (m : ℕ) → ((x : ℕ) × (x < n) × ((p x ≡ true) × (f x ≡ m))) ⊎ ((t : ℕ) → t < n → p t ≡ true → f t ≢ m)
  at p m = elim (some_or_none (λ t. p t && eqb (f t) m) n) [
    | inl e ↦ let w = and_parts (p e.0) (eqb (f e.0) m) e.2 in inl (e.0, e.1, (w.0, eqb-true _ _ w.1))
    | inr h ↦ inr (λ t k q e. both_ways _ (h t k) (and_from _ _ q (eq-eqb _ _ e)))
  ]

  -- there are at most m of them
  pub at_most : (m : ℕ) (p : ℕ → Bool) → ((t : ℕ) → t < n → p t ≡ true → f t < m) → Apart p → count p n ≤ m
  at_most zero p h a = omega (arith, sum_bound (λ t. bit (p t)) n 0 (λ t k. none t k (p t) refl))
    where
      none : (t : ℕ) → t < n → (b : Bool) → p t ≡ b → bit b ≤ 0
      none t k true e = absurd (omega (arith, h t k e))
      none t k false e = le_refl _
  at_most (suc m) p h a = elim (at p m) [
    | inl x ↦ omega (
      arith,
      but_count p x.0,
      at_most m (but p x.0) (λ t k q. let w = but_parts p x.0 t q in
          let ne : f t ≢ m = λ e. w.1 (a t x.0 w.0 x.2.0 (omega (arith, e, x.2.1))) in
          omega (arith, h t k w.0, ne)) (but_apart p x.0 a),
    )
    | inr g ↦ omega (arith, at_most m p (λ t k q. omega (arith, h t k q, g t k q)) a)
  ]

  -- and fewer if nobody has number r
  pub fewer : (m r : ℕ) (p : ℕ → Bool) → ((t : ℕ) → t < n → p t ≡ true → f t < m) → Apart p → r < m → ((t : ℕ) → t < n → p t ≡ true → f t ≢ r)
      → count p n < m
  fewer zero r p h a k g = absurd (omega arith)
  fewer (suc m) r p h a k g = elim (cases_eq r m) [
    | inl e ↦ omega (arith, at_most m p (λ t j q. let ne : f t ≢ m = λ z. g t j q (omega arith) in omega (arith, h t j q, ne)) a)
    | inr e ↦ elim (at p m) [
      | inl x ↦ omega (
        arith,
        but_count p x.0,
        fewer m r (but p x.0) (λ t j q. let w = but_parts p x.0 t q in
            let ne : f t ≢ m = λ z. w.1 (a t x.0 w.0 x.2.0 (omega (arith, z, x.2.1))) in
            omega (arith, h t j w.0, ne)) (but_apart p x.0 a) (omega arith) (λ t j q. g t j (but_parts p x.0 t q).0),
      )
      | inr y ↦ omega (arith, fewer m r p (λ t j q. omega (arith, h t j q, y t j q)) a (omega arith) g)
    ]
  ]

-- ---- ranks in any strict total order of those who pass

module _ (n : ℕ) (p : ℕ → Bool) (b : ℕ → ℕ → Bool) (range : (t : ℕ) → p t ≡ true → t < n)
    (one_way : (x y : ℕ) → p x ≡ true → p y ≡ true → b x y ≡ true → b y x ≡ false)
    (chain : (x y z : ℕ) → p x ≡ true → p y ≡ true → p z ≡ true → b x y ≡ true → b y z ≡ true → b x z ≡ true)
    (linear : (x y : ℕ) → p x ≡ true → p y ≡ true → (x ≡ y) ⊎ ((b x y ≡ true) ⊎ (b y x ≡ true))) where
  -- 1 and the number of those who stand after
  abbrev pub rank_in : ℕ → ℕ
  rank_in t = suc (count (λ u. p u && b t u) n)

  no_self : (x : ℕ) → p x ≡ true → b x x ≡ false
  no_self x h = elim (cases_Bool (b x x)) [ inl e ↦ one_way x x h h e | inr e ↦ e ]

  in_higher : (x y : ℕ) → p x ≡ true → p y ≡ true → b x y ≡ true → rank_in y < rank_in x
  in_higher x y h k e =
      let c = count_lt (λ u. p u && b y u) (λ u. p u && b x u) n y
      (λ t _ q. let w = and_parts (p t) (b y t) q in and_from _ _ w.0 (chain x y t h k w.0 e w.1))
      (range y k) (and_right _ _ (no_self y k)) (and_from _ _ k e) in
      omega arith

  in_stands : (x y : ℕ) → p x ≡ true → p y ≡ true → rank_in y < rank_in x → b x y ≡ true
  in_stands x y h k q = elim (linear x y h k) [
    | inl e ↦ absurd (omega (arith, ap rank_in e))
    | inr o ↦ elim o [ inl e ↦ e | inr e ↦ absurd (omega (arith, in_higher y x k h e)) ]
  ]

  in_apart : (x y : ℕ) → p x ≡ true → p y ≡ true → rank_in x ≡ rank_in y → x ≡ y
  in_apart x y h k q = elim (linear x y h k) [
    | inl e ↦ e
    | inr o ↦ absurd (elim o [ inl e ↦ omega (arith, in_higher x y h k e) | inr e ↦ omega (arith, in_higher y x k h e) ])
  ]

  in_most : (x : ℕ) → p x ≡ true → rank_in x ≤ count p n
  in_most x h = count_lt (λ u. p u && b x u) p n x (λ t _ q. (and_parts (p t) (b x t) q).0) (range x h) (and_right _ _ (no_self x h)) h

  in_each : (r : ℕ) → 1 ≤ r → r ≤ count p n → (t : ℕ) × (p t ≡ true) × (rank_in t ≡ r)
  in_each r low high = elim (at n rank_in p r) [
    | inl x ↦ (x.0, x.2.0, x.2.1)
    | inr g ↦ absurd (omega (arith, less g))
  ]
    where
      -- the numbers one lower are below the count
      down : ℕ → ℕ
      down t = count (λ u. p u && b t u) n

      less : ((t : ℕ) → t < n → p t ≡ true → rank_in t ≢ r) → count p n < count p n
      less g = fewer n down (count p n) (r - 1) p (λ t _ q. in_most t q) (λ t u h k e. in_apart t u h k (ap suc e)) (omega arith)
          (λ t k q e. g t k q (omega (arith, e)))

  pub one_to_n : OneToN n p b rank_in
  one_to_n = record {
    least = λ t _. omega arith;
    most = in_most;
    apart = in_apart;
    each = in_each;
    higher = in_higher;
    stands = in_stands;
  }

-- the same of another table with the same ranks
pub one_to_n_alike : (n : ℕ) (p : ℕ → Bool) (b : ℕ → ℕ → Bool) (f g : ℕ → ℕ) → ((t : ℕ) → p t ≡ true → g t ≡ f t) → OneToN n p b f → OneToN n p b g
one_to_n_alike n p b f g e o = record {
  least = λ t h. omega (arith, e t h, o.least t h);
  most = λ t h. omega (arith, e t h, o.most t h);
  apart = λ t u h k q. o.apart t u h k (omega (arith, e t h, e u k));
  each = λ r i j. let x = o.each r i j in (x.0, x.1, omega (arith, e x.0 x.1, x.2));
  higher = λ t u h k q. omega (arith, e t h, e u k, o.higher t u h k q);
  stands = λ t u h k q. o.stands t u h k (omega (arith, e t h, e u k));
}

-- ---- ranks of a market

pub ranks_are_one_to_n_lem : RanksAreOneToN
unfolding rank
ranks_are_one_to_n_lem mk L l = one_to_n mk.teachers (λ t. mk.licensed t l) (mk.before l) (λ t h. (L.range t l h).0) (L.one_way l) (L.chain l) (L.linear l)

module _ (mk : Market) (L : Laws mk) where
  pub rank_before : (l a b : ℕ) → mk.licensed a l ≡ true → mk.licensed b l ≡ true → mk.before l a b ≡ true → rank mk l b < rank mk l a
  rank_before l = (ranks_are_one_to_n_lem mk L l).higher

  pub before_rank : (l a b : ℕ) → mk.licensed a l ≡ true → mk.licensed b l ≡ true → rank mk l b < rank mk l a → mk.before l a b ≡ true
  before_rank l = (ranks_are_one_to_n_lem mk L l).stands

  pub rank_same : (l a b : ℕ) → mk.licensed a l ≡ true → mk.licensed b l ≡ true → rank mk l a ≡ rank mk l b → a ≡ b
  rank_same l = (ranks_are_one_to_n_lem mk L l).apart

  pub rank_low : (l a : ℕ) → 1 ≤ rank mk l a
  unfolding rank
  rank_low l a = omega arith

  pub rank_high : (l a : ℕ) → mk.licensed a l ≡ true → rank mk l a ≤ crowd mk l
  rank_high l = (ranks_are_one_to_n_lem mk L l).most

  pub crowd_high : (l : ℕ) → crowd mk l ≤ mk.teachers
  crowd_high l = count_bound (λ t. mk.licensed t l) mk.teachers
