-- What is on lists that are put together piece by piece. Assumes nothing.
use Rattle.std.proofs.Common.{◌≡◌, ℕ, zero, suc, ◌<◌, Bool, true, false, cond, ◌||◌, eqb, ◌⊎◌, List, [], ◌∷◌, ◌++◌, length, refl, inl, inr, arith}
use Rattle.std.proofs.lemmas.Bool.{cases_eq, both_ways, or_cases, or_left, or_right, eqb-true, eq-eqb}
use Rattle.lines.specs.Entries.{has}
use Rattle.matching.specs.Picks.{place_of, On}
use Rattle.market.specs.Lists.{join_to, keep_to, gather}

pub on_has : (l : ℕ) (xs : List ℕ) → On l xs → has l xs ≡ true
unfolding place_of
on_has l [] h = absurd (omega arith)
on_has l (x ∷ xs) h = go (eqb x l) (on_has l xs) h
  where
    go : (b : Bool) → (On l xs → has l xs ≡ true) → cond b 0 (suc (place_of l xs)) < suc (length xs) → (b || has l xs) ≡ true
    go true r k = refl
    go false r k = r (omega arith)

pub has_on : (l : ℕ) (xs : List ℕ) → has l xs ≡ true → On l xs
unfolding place_of
has_on l [] h = absurd (both_ways false refl h)
has_on l (x ∷ xs) h = go (eqb x l) (has_on l xs) h
  where
    go : (b : Bool) → (has l xs ≡ true → On l xs) → (b || has l xs) ≡ true → cond b 0 (suc (place_of l xs)) < suc (length xs)
    go true r k = omega arith
    go false r k = omega (arith, r k)

pub has-++ : (x : ℕ) (xs ys : List ℕ) → has x (xs ++ ys) ≡ (has x xs || has x ys)
has-++ x [] ys = refl
has-++ x (y ∷ xs) ys = go (eqb y x) (has-++ x xs ys)
  where
    go : (b : Bool) → has x (xs ++ ys) ≡ (has x xs || has x ys) → (b || has x (xs ++ ys)) ≡ ((b || has x xs) || has x ys)
    go true r = refl
    go false r = r

-- a number of two joined lists is of the one or of the other
pub has_either : (x : ℕ) (xs ys : List ℕ) → has x (xs ++ ys) ≡ true → (has x xs ≡ true) ⊎ (has x ys ≡ true)
has_either x xs ys h = or_cases (has x xs) (has x ys) (rw (has-++ x xs ys) at h)

pub has_first : (x : ℕ) (xs ys : List ℕ) → has x xs ≡ true → has x (xs ++ ys) ≡ true
has_first x xs ys h = rw (has-++ x xs ys) (or_left (has x xs) (has x ys) h)

pub has_second : (x : ℕ) (xs ys : List ℕ) → has x ys ≡ true → has x (xs ++ ys) ≡ true
has_second x xs ys h = rw (has-++ x xs ys) (or_right (has x xs) (has x ys) h)

-- where a number of the joined lists comes from
pub has_join : (x : ℕ) (f : ℕ → List ℕ) (n : ℕ) → has x (join_to f n) ≡ true → (i : ℕ) × (i < n) × (has x (f i) ≡ true)
unfolding join_to
has_join x f zero h = absurd (both_ways false refl h)
has_join x f (suc n) h = elim (has_either x (join_to f n) (f n) h) [
  | inl e ↦ let r = has_join x f n e in (r.0, omega (arith, r.1), r.2)
  | inr e ↦ (n, omega arith, e)
]

pub join_has : (x : ℕ) (f : ℕ → List ℕ) (n i : ℕ) → i < n → has x (f i) ≡ true → has x (join_to f n) ≡ true
unfolding join_to
join_has x f zero i k h = absurd (omega arith)
join_has x f (suc n) i k h = elim (cases_eq i n) [
  | inl e ↦ has_second x (join_to f n) (f n) (rw e at h)
  | inr e ↦ has_first x (join_to f n) (f n) (join_has x f n i (omega arith) h)
]

pub has_gather : (x : ℕ) (f : ℕ → List ℕ) (ss : List ℕ) → has x (gather f ss) ≡ true → (s : ℕ) × (has s ss ≡ true) × (has x (f s) ≡ true)
unfolding gather
has_gather x f [] h = absurd (both_ways false refl h)
has_gather x f (s ∷ ss) h = elim (has_either x (f s) (gather f ss) h) [
  | inl e ↦ (s, or_left (eqb s s) (has s ss) (eq-eqb s s refl), e)
  | inr e ↦ let r = has_gather x f ss e in (r.0, or_right (eqb s r.0) (has r.0 ss) r.1, r.2)
]

pub gather_has : (x : ℕ) (f : ℕ → List ℕ) (s : ℕ) (ss : List ℕ) → has s ss ≡ true → has x (f s) ≡ true → has x (gather f ss) ≡ true
unfolding gather
gather_has x f s [] k h = absurd (both_ways false refl k)
gather_has x f s (y ∷ ys) k h = elim (or_cases (eqb y s) (has s ys) k) [
  | inl e ↦ has_first x (f y) (gather f ys) (rw (eqb-true y s e) h)
  | inr e ↦ has_second x (f y) (gather f ys) (gather_has x f s ys e h)
]

-- the piece that one number makes up
has_one : (x i : ℕ) (b : Bool) → has x (cond b (i ∷ []) []) ≡ true → (b ≡ true) × (i ≡ x)
has_one x i true h = elim (or_cases (eqb i x) false h) [ inl e ↦ (refl, eqb-true i x e) | inr e ↦ absurd (both_ways false refl e) ]
has_one x i false h = absurd (both_ways false refl h)

one_has : (x : ℕ) (b : Bool) → b ≡ true → has x (cond b (x ∷ []) []) ≡ true
one_has x true e = or_left (eqb x x) false (eq-eqb x x refl)
one_has x false e = absurd (both_ways false refl e)

pub has_keep : (x : ℕ) (p : ℕ → Bool) (n : ℕ) → has x (keep_to p n) ≡ true → (x < n) × (p x ≡ true)
has_keep x p n h =
    let r = has_join x (λ i. cond (p i) (i ∷ []) []) n h in
    let q = has_one x r.0 (p r.0) r.2 in
    (omega (arith, r.1, q.1), rw q.1 at q.0)

pub keep_has : (x : ℕ) (p : ℕ → Bool) (n : ℕ) → x < n → p x ≡ true → has x (keep_to p n) ≡ true
keep_has x p n k h = join_has x (λ i. cond (p i) (i ∷ []) []) n x k (one_has x (p x) h)
