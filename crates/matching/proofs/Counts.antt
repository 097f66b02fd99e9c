-- Laws of sums and counts. Assumes nothing.
use Rattle.std.proofs.Common.{◌≡◌, ℕ, zero, suc, ◌+◌, ◌*◌, ◌<◌, ◌≤◌, Bool, true, false, ◌≢◌, ◌⊎◌, sym, refl, ◌∙◌, inl, inr, le_refl, arith}
use Rattle.std.proofs.lemmas.Bool.{cases_eq, cases_Bool, true≢false}
use Rattle.matching.specs.Count.{sum_to, count, bit}

pub sum_le : (f g : ℕ → ℕ) (n : ℕ) → ((t : ℕ) → t < n → f t ≤ g t) → sum_to f n ≤ sum_to g n
unfolding sum_to
sum_le f g zero h = le_refl _
sum_le f g (suc n) h = omega (arith, sum_le f g n (λ t k. h t (omega arith)), h n (le_refl _))

-- the same, with one place where more is allowed for
pub sum_le_but : (f g : ℕ → ℕ) (n x d : ℕ) → ((t : ℕ) → t < n → t ≢ x → f t ≤ g t) → f x ≤ d + g x → sum_to f n ≤ d + sum_to g n
unfolding sum_to
sum_le_but f g zero x d h e = omega arith
sum_le_but f g (suc n) x d h e = elim (cases_eq n x) [
  | inl p ↦ omega (arith, sum_le f g n (λ t k. h t (omega arith) (omega arith)), rw (← p) at e)
  | inr p ↦ omega (arith, sum_le_but f g n x d (λ t k. h t (omega arith)) e, h n (le_refl _) p)
]

pub sum_lt : (f g : ℕ → ℕ) (n x : ℕ) → ((t : ℕ) → t < n → f t ≤ g t) → x < n → f x < g x → sum_to f n < sum_to g n
unfolding sum_to
sum_lt f g zero x h k e = omega arith
sum_lt f g (suc n) x h k e = elim (cases_eq n x) [
  | inl p ↦ omega (arith, sum_le f g n (λ t j. h t (omega arith)), rw (← p) at e)
  | inr p ↦ omega (arith, sum_lt f g n x (λ t j. h t (omega arith)) (omega arith) e, h n (le_refl _))
]

pub sum_add : (f g : ℕ → ℕ) (n : ℕ) → sum_to (λ t. f t + g t) n ≡ sum_to f n + sum_to g n
unfolding sum_to
sum_add f g zero = refl
sum_add f g (suc n) = omega (arith, sum_add f g n)

pub sum_bound : (f : ℕ → ℕ) (n k : ℕ) → ((t : ℕ) → t < n → f t ≤ k) → sum_to f n ≤ n * k
unfolding sum_to
sum_bound f zero k h = omega arith
sum_bound f (suc n) k h = omega (arith, sum_bound f n k (λ t j. h t (omega arith)), h n (le_refl _))

pub sum_least : (f : ℕ → ℕ) (n : ℕ) → ((t : ℕ) → t < n → 1 ≤ f t) → n ≤ sum_to f n
unfolding sum_to
sum_least f zero h = omega arith
sum_least f (suc n) h = omega (arith, sum_least f n (λ t j. h t (omega arith)), h n (le_refl _))

-- one place has one more, the others are alike
pub sum_one : (f g : ℕ → ℕ) (n x : ℕ) → x < n → ((t : ℕ) → t ≢ x → g t ≡ f t) → g x ≡ suc (f x) → sum_to g n ≡ suc (sum_to f n)
sum_one f g n x k h e =
    let a : sum_to g n ≤ 1 + sum_to f n = sum_le_but g f n x 1 (λ t _ p. omega (arith, h t p)) (omega arith) in
    let b : sum_to f n < sum_to g n = sum_lt f g n x (λ t _. elim (cases_eq t x) [ inl p ↦ rw p (omega arith) | inr p ↦ omega (arith, h t p) ]) k (omega arith) in
    omega arith

-- ---- tests

pub bit_le : (a b : Bool) → (a ≡ true → b ≡ true) → bit a ≤ bit b
bit_le true true h = le_refl _
bit_le true false h = absurd (true≢false (sym (h refl)))
bit_le false true h = omega arith
bit_le false false h = le_refl _

pub count_le : (p q : ℕ → Bool) (n : ℕ) → ((t : ℕ) → t < n → p t ≡ true → q t ≡ true) → count p n ≤ count q n
count_le p q n h = sum_le _ _ n (λ t k. bit_le (p t) (q t) (h t k))

pub count_lt : (p q : ℕ → Bool) (n x : ℕ) → ((t : ℕ) → t < n → p t ≡ true → q t ≡ true) → x < n → p x ≡ false → q x ≡ true → count p n < count q n
count_lt p q n x h k e f = sum_lt _ _ n x (λ t j. bit_le (p t) (q t) (h t j)) k (rw (e, f) (le_refl _))

pub count_same : (p q : ℕ → Bool) (n : ℕ) → ((t : ℕ) → t < n → p t ≡ q t) → count p n ≡ count q n
count_same p q n h = let a = count_le p q n (λ t k e. sym (h t k) ∙ e) in let b = count_le q p n (λ t k e. h t k ∙ e) in omega arith

-- at most one leaves
pub count_but : (p q : ℕ → Bool) (n x : ℕ) → ((t : ℕ) → t < n → t ≢ x → p t ≡ true → q t ≡ true) → count p n ≤ 1 + count q n
count_but p q n x h = sum_le_but _ _ n x 1 (λ t k j. bit_le (p t) (q t) (h t k j)) (one (p x) (bit (q x)))
  where
    one : (b : Bool) (m : ℕ) → bit b ≤ 1 + m
    one true m = omega arith
    one false m = omega arith

-- two groups that share nobody, within a third
pub count_apart : (p q r : ℕ → Bool) (n : ℕ) → ((t : ℕ) → t < n → p t ≡ true → r t ≡ true) → ((t : ℕ) → t < n → q t ≡ true → r t ≡ true)
    → ((t : ℕ) → t < n → p t ≡ true → q t ≡ true → ⊥) → count p n + count q n ≤ count r n
count_apart p q r n a b c =
    rw (← sum_add (λ t. bit (p t)) (λ t. bit (q t)) n) (sum_le _ _ n (λ t k. one (p t) (q t) (r t) (a t k) (b t k) (c t k)))
  where
    one : (x y z : Bool) → (x ≡ true → z ≡ true) → (y ≡ true → z ≡ true) → (x ≡ true → y ≡ true → ⊥) → bit x + bit y ≤ bit z
    one true true z h k d = absurd (d refl refl)
    one true false z h k d = rw (h refl) (le_refl _)
    one false true z h k d = rw (k refl) (le_refl _)
    one false false z h k d = omega arith

pub count_bound : (p : ℕ → Bool) (n : ℕ) → count p n ≤ n
count_bound p n = omega (arith, sum_bound (λ t. bit (p t)) n 1 (λ t _. one (p t)))
  where
    one : (b : Bool) → bit b ≤ 1
    one true = le_refl _
    one false = omega arith

-- the test passes somewhere below n, or nowhere
pub some_or_none : (p : ℕ → Bool) (n : ℕ) → ((x : ℕ) × (x < n) × (p x ≡ true)) ⊎ ((t : ℕ) → t < n → p t ≡ false)
some_or_none p zero = inr (λ t k. absurd (omega arith))
some_or_none p (suc n) = elim (some_or_none p n) [
  | inl e ↦ inl (e.0, omega (arith, e.1), e.2)
  | inr h ↦ elim (cases_Bool (p n)) [
    | inl e ↦ inl (n, le_refl _, e)
    | inr e ↦ inr (λ t k. elim (cases_eq t n) [ inl q ↦ rw q e | inr q ↦ h t (omega arith) ])
  ]
]
