-- Laws of pick lists. Assumes nothing.
use Rattle.std.proofs.Common.{◌≡◌, ℕ, zero, suc, ◌<◌, ◌≤◌, Bool, true, false, cond, ◌&&◌, eqb, ltb, List, [], ◌∷◌, length, Some, None, Option, sym, refl, ap, inl, inr, le_refl, arith}
use Rattle.matching.specs.Count.{sum_to, count}
use Rattle.matching.proofs.Counts.{count_apart, count_lt}
use Rattle.std.proofs.lemmas.Bool.{cases_eq, cases_Bool, true≢false, eqb-true, eq-eqb, both_ways, ltb-true, lt-ltb, and_parts, and_from, and_right}
use Rattle.matching.specs.Picks.{place_of, place, On, first, holds}
use Rattle.matching.specs.Log.{least, on_some}

pub holds_true : (o : Option ℕ) (l : ℕ) → holds o l ≡ true → o ≡ Some l
holds_true None l e = absurd (true≢false (sym e))
holds_true (Some k) l e = ap Some (eqb-true k l e)

pub holds_some : (o : Option ℕ) (l : ℕ) → o ≡ Some l → holds o l ≡ true
holds_some o l e = rw e (eq-eqb l l refl)

pub place_le : (l : ℕ) (xs : List ℕ) → place_of l xs ≤ length xs
unfolding place_of
place_le l [] = le_refl _
place_le l (x ∷ xs) = elim (cases_Bool (eqb x l)) [ inl e ↦ rw e (omega arith) | inr e ↦ rw e (omega (arith, place_le l xs)) ]

pub place_any : (o : Option ℕ) (xs : List ℕ) → place o xs ≤ length xs
place_any None xs = le_refl _
place_any (Some l) xs = place_le l xs

-- two lanes on the list at one place are one
pub place_same : (k l : ℕ) (xs : List ℕ) → place_of k xs ≡ place_of l xs → On l xs → k ≡ l
unfolding place_of
place_same k l [] e h = absurd (omega arith)
place_same k l (x ∷ xs) e h = go (eqb x k) (eqb x l) refl refl e h (place_same k l xs)
  where
    go : (a b : Bool) → eqb x k ≡ a → eqb x l ≡ b → cond a 0 (suc (place_of k xs)) ≡ cond b 0 (suc (place_of l xs)) → cond b 0 (suc (place_of l xs)) < suc (length xs)
        → (place_of k xs ≡ place_of l xs → On l xs → k ≡ l) → k ≡ l
    go true true p q e h r = omega (arith, eqb-true x k p, eqb-true x l q)
    go true false p q e h r = absurd (omega arith)
    go false true p q e h r = absurd (omega arith)
    go false false p q e h r = r (omega arith) (omega arith)

-- a lane at least as good as o that is not o is better
pub strictly : (xs : List ℕ) (o : Option ℕ) (l : ℕ) → On l xs → place_of l xs ≤ place o xs → holds o l ≡ false → place_of l xs < place o xs
strictly xs None l on h n = on
strictly xs (Some k) l on h n = elim (cases_eq (place_of k xs) (place_of l xs)) [
  | inl j ↦ absurd (both_ways _ n (eq-eqb k l (place_same k l xs j on)))
  | inr j ↦ omega arith
]

-- the first that passes does pass, and is on the list
pub first_on : (p : ℕ → Bool) (xs : List ℕ) (l : ℕ) → first p xs ≡ Some l → (p l ≡ true) × On l xs
unfolding first place_of
first_on p [] l e = cc
first_on p (x ∷ xs) l e = go (p x) refl e (first_on p xs l)
  where
    go : (b : Bool) → p x ≡ b → cond b (Some x) (first p xs) ≡ Some l → (first p xs ≡ Some l → (p l ≡ true) × On l xs)
        → (p l ≡ true) × (cond (eqb x l) 0 (suc (place_of l xs)) < suc (length xs))
    go true q e r = let k : x ≡ l = cc in (rw k at q, rw (eq-eqb x l k) (omega arith))
    go false q e r = ((r e).0, elim (cases_Bool (eqb x l)) [ inl f ↦ rw f (omega arith) | inr f ↦ rw f (omega (arith, (r e).1)) ])

-- no lane on the list that passes is better
pub first_best : (p : ℕ → Bool) (xs : List ℕ) (l : ℕ) → p l ≡ true → On l xs → place (first p xs) xs ≤ place_of l xs
unfolding first place_of
first_best p [] l q h = absurd (omega arith)
first_best p (x ∷ xs) l q h = go (p x) (eqb x l) refl refl h (first_best p xs l q)
  where
    go : (a b : Bool) → p x ≡ a → eqb x l ≡ b → cond b 0 (suc (place_of l xs)) < suc (length xs) → (On l xs → place (first p xs) xs ≤ place_of l xs)
        → place (cond a (Some x) (first p xs)) (x ∷ xs) ≤ cond b 0 (suc (place_of l xs))
    go true b e f h r = rw (eq-eqb x x refl) (omega arith)
    go false true e f h r = absurd (both_ways (p x) e (rw (eqb-true x l f) q))
    go false false e f h r = later (first p xs) (r (omega arith))
      where
        later : (o : Option ℕ) → place o xs ≤ place_of l xs → place o (x ∷ xs) ≤ suc (place_of l xs)
        later None k = omega arith
        later (Some y) k = elim (cases_Bool (eqb x y)) [ inl f ↦ rw f (omega arith) | inr f ↦ rw f (omega arith) ]

-- with fewer that pass, the first that still passes stays the first
pub first_stays : (p r : ℕ → Bool) (xs : List ℕ) (l : ℕ) → ((k : ℕ) → r k ≡ true → p k ≡ true) → r l ≡ true → first p xs ≡ Some l → first r xs ≡ Some l
unfolding first
first_stays p r [] l h q e = e
first_stays p r (x ∷ xs) l h q e = go (p x) (r x) refl refl e (first_stays p r xs l h q)
  where
    go : (a b : Bool) → p x ≡ a → r x ≡ b → cond a (Some x) (first p xs) ≡ Some l → (first p xs ≡ Some l → first r xs ≡ Some l)
        → cond b (Some x) (first r xs) ≡ Some l
    go true true f g e i = e
    go true false f g e i = let k : x ≡ l = cc in absurd (both_ways (r x) g (rw k q))
    go false true f g e i = absurd (both_ways (p x) f (h x g))
    go false false f g e i = i e

-- ---- the least

pub least_some : (p : ℕ → Bool) (n l : ℕ) → least p n ≡ Some l → (p l ≡ true) × (l < n)
unfolding least
least_some p zero l e = cc
least_some p (suc n) l e = go (least p n) (p n) refl refl e (least_some p n l)
  where
    go : (o : Option ℕ) (b : Bool) → least p n ≡ o → p n ≡ b → on_some o (cond b (Some n) None) (λ k. Some k) ≡ Some l
        → (least p n ≡ Some l → (p l ≡ true) × (l < n)) → (p l ≡ true) × (l < suc n)
    go None true f g e r = let k : n ≡ l = cc in (rw k at g, omega arith)
    go None false f g e r = cc
    go (Some k) b f g e r = let q = r (cc) in (q.0, omega (arith, q.1))

pub least_none : (p : ℕ → Bool) (n : ℕ) → least p n ≡ None → (k : ℕ) → k < n → p k ≡ false
unfolding least
least_none p zero e k h = absurd (omega arith)
least_none p (suc n) e k h = go (least p n) (p n) refl refl e (least_none p n)
  where
    go : (o : Option ℕ) (b : Bool) → least p n ≡ o → p n ≡ b → on_some o (cond b (Some n) None) (λ k. Some k) ≡ None
        → (least p n ≡ None → (k : ℕ) → k < n → p k ≡ false) → p k ≡ false
    go None true f g e r = cc
    go None false f g e r = elim (cases_eq k n) [ inl q ↦ rw q g | inr q ↦ r f k (omega arith) ]
    go (Some j) b f g e r = cc

-- ---- who asks for which

abbrev pub below : ℕ → Option ℕ → Bool
below m o = on_some o false (λ k. ltb k m)

below_up : (o : Option ℕ) (m : ℕ) → below m o ≡ true → below (suc m) o ≡ true
below_up None m h = h
below_up (Some k) m h = lt-ltb _ _ (omega (arith, ltb-true _ _ h))

below_of : (o : Option ℕ) (m : ℕ) → holds o m ≡ true → below (suc m) o ≡ true
below_of None m h = h
below_of (Some k) m h = lt-ltb _ _ (omega (arith, eqb-true _ _ h))

below_not : (o : Option ℕ) (m : ℕ) → holds o m ≡ true → below m o ≡ true → ⊥
below_not None m h k = both_ways false refl h
below_not (Some j) m h k = omega (arith, eqb-true _ _ h, ltb-true _ _ k)

-- nobody asks for two lanes, so the askers of the lanes add up
pub askers_add : (o : ℕ → Option ℕ) (b : ℕ → Bool) (n : ℕ) (f : ℕ → ℕ) (m : ℕ) → ((l : ℕ) → l < m → f l ≤ count (λ t. b t && holds (o t) l) n)
    → sum_to f m ≤ count (λ t. b t && below m (o t)) n
unfolding sum_to
askers_add o b n f zero h = omega arith
askers_add o b n f (suc m) h =
    omega (
      arith,
      h m (le_refl _),
      askers_add o b n f m (λ l k. h l (omega arith)),
      count_apart (λ t. b t && holds (o t) m) (λ t. b t && below m (o t)) (λ t. b t && below (suc m) (o t)) n
          (λ t _ w. let v = and_parts (b t) _ w in and_from _ _ v.0 (below_of (o t) m v.1))
          (λ t _ w. let v = and_parts (b t) _ w in and_from _ _ v.0 (below_up (o t) m v.1))
          (λ t _ w z. below_not (o t) m (and_parts (b t) _ w).1 (and_parts (b t) _ z).1),
    )

-- if one of the group has none, the lanes have fewer of them than the group
pub missing : (o : ℕ → Option ℕ) (b : ℕ → Bool) (n : ℕ) (f : ℕ → ℕ) (m : ℕ) → ((l : ℕ) → l < m → f l ≤ count (λ t. b t && holds (o t) l) n)
    → (x : ℕ) → x < n → b x ≡ true → o x ≡ None → sum_to f m < count b n
missing o b n f m h x k w e =
    omega (arith, askers_add o b n f m h, count_lt (λ t. b t && below m (o t)) b n x (λ t _ v. (and_parts (b t) _ v).0) k (and_right (b x) (below m (o x)) (rw e refl)) w)
