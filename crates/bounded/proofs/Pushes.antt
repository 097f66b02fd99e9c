-- What a push was told by its answer.
use Rattle.std.proofs.Common.{◌≡◌, ℕ, ◌≤◌, List, [], ◌∷◌, ◌++◌, length, Some, None, Result, arith}
use Rattle.std.specs.Result.{result_ok}
use Rattle.bounded.specs.declared.list.Full.{Full}
use Rattle.bounded.specs.Listed.{pushed}

-- what a push that was taken, or refused, says of the list before and after
pub was_added : (bound : ℕ) (xs ys : List ℕ) (x : ℕ) (r : Result (Unit {0}) Full) → ◌≡◌ {A = Result (Unit {0}) Full × List ℕ} (r, ys) (pushed bound xs x) → result_ok r ≡ Some tt → ys ≡ xs ++ x ∷ []
was_added bound xs ys x r e k = grind arith

pub was_full : (bound : ℕ) (xs ys : List ℕ) (x : ℕ) (r : Result (Unit {0}) Full) → ◌≡◌ {A = Result (Unit {0}) Full × List ℕ} (r, ys) (pushed bound xs x) → result_ok r ≡ None → bound ≤ length xs
was_full bound xs ys x r e k = grind arith
