-- Several records one after another. Assumes nothing.
use Rattle.std.specs.Prelude.{ℕ, zero, suc, ◌+◌, List, [], ◌∷◌, ◌++◌, Ok, Result}
use Rattle.lines.specs.declared.faults.Fault.{Fault}
use Rattle.lines.specs.Faults.{bind}

-- n records more of `lines` lines each, from line l and place p on, behind those that are done; each is read in the light of those.
-- Gives all of them and the place behind
abbrev pub repeat : {A : Type 0} → (List A → ℕ → ℕ → Result (A × ℕ) Fault) → ℕ → ℕ → List A → ℕ → ℕ → Result (List A × ℕ) Fault
repeat one lines zero done l p = Ok (done, p)
repeat one lines (suc n) done l p = bind (one done l p) (λ t. repeat one lines n (done ++ t.0 ∷ []) (l + lines) t.1)
