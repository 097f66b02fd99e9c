-- A key in front of a value.
use Rattle.std.proofs.Common.{◌≡◌, ℕ, true, false, eqb, List, [], ◌∷◌, ◌++◌, Some, refl, ap₂, ⊎_elim, arith}
use Rattle.std.proofs.lemmas.Bool.{cases_Bool, eq-eqb, eqb-true}
use Rattle.lines.specs.Keys.{after}

pub after_front : (p v : List ℕ) → after p (p ++ v) ≡ Some v
after_front [] v = refl
after_front (c ∷ p) v = rw (eq-eqb c c refl) (after_front p v)

pub after_some : (p s v : List ℕ) → after p s ≡ Some v → s ≡ p ++ v
after_some [] s v e = grind arith
after_some (c ∷ p) [] v e = absurd (grind arith)
after_some (c ∷ p) (b ∷ s) v e =
    ⊎_elim
    (λ (t : eqb b c ≡ true). ap₂ (λ x l. x ∷ l) (eqb-true b c t) (after_some p s v (rw t at e)))
    (λ (f : eqb b c ≡ false). absurd (let g = rw f at e in grind arith))
    (cases_Bool (eqb b c))
