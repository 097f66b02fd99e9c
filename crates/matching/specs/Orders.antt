-- Orders by one test after another. Assumes nothing.
use Rattle.std.specs.Prelude.{◌≡◌, ℕ, Bool, true, false, cond, ◌||◌, ◌⊎◌}

-- a strict weak order: two may be level, and who is before another is before or behind any third
pub record Weak (p : ℕ → ℕ → Bool) : Type 0 where
  pub one_way : (a b : ℕ) → p a b ≡ true → p b a ≡ false
  pub between : (a b c : ℕ) → p a b ≡ true → (p a c || p c b) ≡ true

-- a strict total order: of any two the one is before the other
pub record Total (p : ℕ → ℕ → Bool) : Type 0 where
  pub one_way : (a b : ℕ) → p a b ≡ true → p b a ≡ false
  pub chain : (a b c : ℕ) → p a b ≡ true → p b c ≡ true → p a c ≡ true
  pub linear : (a b : ℕ) → (a ≡ b) ⊎ ((p a b ≡ true) ⊎ (p b a ≡ true))

-- by p, and where p has them level by q
abbrev pub then_by : (ℕ → ℕ → Bool) → (ℕ → ℕ → Bool) → ℕ → ℕ → Bool
then_by p q a b = cond (p a b) true (cond (p b a) false (q a b))
