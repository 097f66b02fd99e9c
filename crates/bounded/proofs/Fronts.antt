-- Lists that are filled up to a bound.
use Rattle.std.proofs.Common.{◌≡◌, ℕ, zero, suc, ◌+◌, ◌<◌, ◌≤◌, List, [], ◌∷◌, ◌++◌, length, get_or, take, Ok, Err, Result, sym, refl, ap, ◌∙◌, ⊎_elim, append_assoc, append-nil, arith, length-append}
use Rattle.std.proofs.lemmas.List.{take_all, take-append-le, take_more}
use Rattle.std.proofs.lemmas.Bool.{cases_lt, lt-ltb, le-ltb, cond-true, cond-false}
use Rattle.bounded.specs.declared.list.Full.{Full}
use Rattle.bounded.specs.Listed.{pushed}

pub take_front : (b : ℕ) (xs ys : List ℕ) → take b (take b xs ++ ys) ≡ take b (xs ++ ys)
take_front zero xs ys = refl
take_front (suc b) [] ys = refl
take_front (suc b) (x ∷ xs) ys = ap (λ l. x ∷ l) (take_front b xs ys)

-- nothing more
pub same_front : (b : ℕ) (xs : List ℕ) → length xs ≤ b → xs ≡ take b (xs ++ [])
same_front b xs h = sym (ap (take b) (append-nil xs) ∙ take_all b xs h)

-- one number more, if there is room
pub push_front : (b : ℕ) (xs ys : List ℕ) (r : Result (Unit {0}) Full) (x : ℕ) → length xs ≤ b → ◌≡◌ {A = Result (Unit {0}) Full × List ℕ} (r, ys) (pushed b xs x) → ys ≡ take b (xs ++ x ∷ [])
push_front b xs ys r x h e = ap (λ p. p.1) e ∙ ⊎_elim
    (λ (l : length xs < b). ap (λ (p : Result (Unit {0}) Full × List ℕ). p.1) (cond-true _ (Ok tt, xs ++ x ∷ []) (Err (record {}), xs) (lt-ltb (length xs) b l)) ∙ sym (take_all b (xs ++ x ∷ []) (simp length-append (omega arith))))
    (λ (g : b ≤ length xs). ap (λ (p : Result (Unit {0}) Full × List ℕ). p.1) (cond-false _ (Ok tt, xs ++ x ∷ []) (Err (record {}), xs) (le-ltb (length xs) b g)) ∙ sym (take-append-le b xs (x ∷ []) g ∙ take_all b xs h))
    (cases_lt (length xs) b)

-- a piece B behind what was filled with A
pub more_front : (b : ℕ) (start A B xs ys : List ℕ) → xs ≡ take b (start ++ A) → ys ≡ take b (xs ++ B) → ys ≡ take b (start ++ (A ++ B))
more_front b start A B xs ys e f = f ∙ ap (λ l. take b (l ++ B)) e ∙ take_front b (start ++ A) B ∙ ap (take b) (append_assoc start A B)

-- one number more of a list that is copied
pub copy_more : (b : ℕ) (items : List ℕ) (i : ℕ) (xs ys : List ℕ) (r : Result (Unit {0}) Full) → i < length items → length xs ≤ b → xs ≡ take b (take i items) → ◌≡◌ {A = Result (Unit {0}) Full × List ℕ} (r, ys) (pushed b xs (get_or items i 0)) → ys ≡ take b (take (i + 1) items)
copy_more b items i xs ys r l h e p =
    more_front b [] (take i items) (get_or items i 0 ∷ []) xs ys e (push_front b xs ys r (get_or items i 0) h p) ∙ ap (take b) (sym (take_more items i 0 l))
