-- A loop over the first 200 marks of a row: what it has counted, turn by turn and at its end.
use Rattle.std.proofs.Common.{◌≡◌, ◌≢◌, ℕ, zero, suc, ◌+◌, ◌-◌, ◌<◌, ◌≤◌, Bool, true, false, cond, not, ◌&&◌, List, length, get_or, min, sym, refl, ap, ◌∙◌, inl, inr, arith, add-zero, add-one}
use Rattle.std.proofs.lemmas.List.{get_or_past}
use Rattle.std.proofs.lemmas.Bool.{cases_lt, le-ltb, lt-ltb, and_left, and_right, and_from, eq-eqb, ne_eqb}
use Rattle.matching.specs.Count.{sum_to, bit}
use Rattle.matching.specs.Groups.{Group, told}

-- what the first n teachers of the row count together, where w says what each counts
abbrev pub counted : (ℕ → ℕ) → List ℕ → ℕ → ℕ
counted w row n = sum_to (λ t. cond (told row t) (w t) 0) n

told_past : (row : List ℕ) (k : ℕ) → min 200 (length row) ≤ k → told row k ≡ false
told_past row k h = elim (cases_lt k 200) [
  | inl l ↦ and_right _ _ (ap not (eq-eqb _ _ (get_or_past row k 0 (omega arith))))
  | inr m ↦ and_left _ _ (le-ltb k 200 m)
]

module _ (w : ℕ → ℕ) (row : List ℕ) where
  pub counted_start : 0 ≡ counted w row 0
  unfolding sum_to
  counted_start = refl

  more : (n : ℕ) (b : Bool) → told row n ≡ b → counted w row (n + 1) ≡ cond b (w n) 0 + counted w row n
  unfolding sum_to
  more n b e = ap (counted w row) (add-one n) ∙ ap (λ c. cond c (w n) 0 + counted w row n) e

  pub counted_in : (n : ℕ) → n < 200 → get_or row n 0 ≢ 0 → counted w row (n + 1) ≡ counted w row n + w n
  counted_in n l m = omega (arith, more n true (and_from _ _ (lt-ltb n 200 l) (ap not (ne_eqb _ _ m))))

  pub counted_out : (n : ℕ) → get_or row n 0 ≡ 0 → counted w row (n + 1) ≡ counted w row n
  counted_out n z = omega (arith, more n false (and_right _ _ (ap not (eq-eqb _ _ z))))

  past : (n : ℕ) → min 200 (length row) ≤ n → (d : ℕ) → counted w row (n + d) ≡ counted w row n
  past n h zero = ap (counted w row) (add-zero n)
  past n h (suc d) = let e : n + suc d ≡ (n + d) + 1 = omega arith in ap (counted w row) e ∙ omega (arith, more (n + d) false (told_past row (n + d) (omega arith)), past n h d)

  pub counted_all : (n : ℕ) → n ≡ min 200 (length row) → counted w row n ≡ counted w row 200
  counted_all n e = let f : n + (200 - n) ≡ 200 = omega arith in sym (past n (omega arith) (200 - n)) ∙ ap (counted w row) f

-- a test of each member, counted
pub counted_test : (p : ℕ → Bool) (g : Group) (n : ℕ) → sum_to (λ t. cond (g t) (bit (p t)) 0) n ≡ sum_to (λ t. bit (g t && p t)) n
unfolding sum_to
counted_test p g zero = refl
counted_test p g (suc n) = omega (arith, both (g n) (p n), counted_test p g n)
  where
    both : (b c : Bool) → cond b (bit c) 0 ≡ bit (b && c)
    both true c = refl
    both false c = refl
