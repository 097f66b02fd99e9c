-- Lists that are put together piece by piece. Assumes nothing.
use Rattle.std.specs.Prelude.{ℕ, zero, suc, Bool, cond, List, [], ◌∷◌, ◌++◌}

-- what f gives at 0, 1 and so on below n, one list after the other
unfoldable pub join_to : (ℕ → List ℕ) → ℕ → List ℕ
join_to f zero = []
join_to f (suc n) = join_to f n ++ f n

-- the numbers below n that pass the test, in order
abbrev pub keep_to : (ℕ → Bool) → ℕ → List ℕ
keep_to p n = join_to (λ i. cond (p i) (i ∷ []) []) n

-- what f gives of each number of the list, one list after the other
unfoldable pub gather : (ℕ → List ℕ) → List ℕ → List ℕ
gather f [] = []
gather f (x ∷ xs) = f x ++ gather f xs
