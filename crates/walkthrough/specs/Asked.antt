-- What is made of a question's answer. Assumes nothing.
use Rattle.std.specs.Prelude.{ℕ, Bool, false, Some, None, Ok, Err, Option, Result}
use Rattle.round.specs.declared.answers.Refusal.{Refusal}

-- an offer; a number that is no teacher's has none
abbrev pub offered : Result (Option ℕ) Refusal → Option ℕ
offered (Ok o) = o
offered (Err e) = None

-- a cutoff; a number that is no lane's has none
abbrev pub known : Result ℕ Refusal → Option ℕ
known (Ok n) = Some n
known (Err e) = None

-- a number that is no lane's is not over-asked
abbrev pub holds : Result Bool Refusal → Bool
holds (Ok b) = b
holds (Err e) = false
