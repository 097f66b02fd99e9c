-- Who asks for a lane at a cutoff, by how far each teacher reaches.
use Rattle.std.proofs.Common.{◌≡◌, ℕ, ◌+◌, ◌<◌, ◌≤◌, Bool, true, false, cond, ◌&&◌, ◌||◌, eqb, ltb, leb, ◌≢◌, List, [], ◌∷◌, ◌++◌, length, get_or, take, set, Some, vec_items, sym, refl, ap, ◌∙◌, ap₂, inl, inr, ⊎_elim}
use mathlib.Core.Path.{fun_ext}
use Rattle.std.proofs.lemmas.List.{take_more_set}
use Rattle.std.proofs.lemmas.Bool.{cases_Bool, cases_eq, both_ways, eq-eqb, ne_eqb, eqb-true, cond-true, cond-false}
use Rattle.matching.specs.Count.{bit}
use Rattle.matching.specs.Log.{picks}
use Rattle.matching.specs.Market.{clears, offer}
use Rattle.matching.specs.Picks.{first, holds}
use Rattle.matching.proofs.Lists.{holds_true, first_on}
use Rattle.sheets.specs.Held.{model_of}
use Rattle.book.specs.declared.book.Book.{Book}
use Rattle.book.specs.Askers.{asker_bytes, tried}
use Rattle.book.specs.Held.{book_model}
use Rattle.book.specs.Model.{Model, anyone, board_in, clears_in, offer_in}
use Rattle.book.specs.Reach.{stops_at, comes_to, reach_in, reaches}
use Rattle.book.specs.Result.{row}
use Rattle.book.proofs.Asking.{rank_no_teacher}
use Rattle.book.proofs.Results.{row_more}

-- the first that passes is l, exactly if the first that passes or is l is l, and l passes
pub first_at : (p : ℕ → Bool) (l : ℕ) (xs : List ℕ) → holds (first p xs) l ≡ (holds (first (λ k. eqb k l || p k) xs) l && p l)
unfolding first
first_at p l [] = refl
first_at p l (x ∷ xs) = by (p x) (eqb x l) refl refl (first_at p l xs)
  where
    passes_not : p l ≡ false → holds (first p xs) l ≡ false
    passes_not e = elim (cases_Bool (holds (first p xs) l)) [
      | inl y ↦ absurd (both_ways (p l) e (first_on p xs l (holds_true (first p xs) l y)).0)
      | inr n ↦ n
    ]

    by : (a b : Bool) → p x ≡ a → eqb x l ≡ b → holds (first p xs) l ≡ (holds (first (λ k. eqb k l || p k) xs) l && p l)
        → holds (cond a (Some x) (first p xs)) l ≡ (holds (cond (b || a) (Some x) (first (λ k. eqb k l || p k) xs)) l && p l)
    by true true e f r = f ∙ sym (ap₂ (λ u v. u && v) f (ap p (sym (eqb-true x l f)) ∙ e))
    by true false e f r = f ∙ sym (ap (λ u. u && p l) f)
    by false true e f r = passes_not (ap p (sym (eqb-true x l f)) ∙ e) ∙ sym (ap₂ (λ u v. u && v) f (ap p (sym (eqb-true x l f)) ∙ e))
    by false false e f r = r

-- who asks for a lane is told by reach and cutoff
pub asks_is : (m : Model) (l t : ℕ) → reaches (m.1.cuts l) (reach_in m l t) ≡ holds (offer_in m t) l
unfolding offer clears
asks_is m l t = by (comes_to m l t) refl ∙ sym (first_at (clears_in m t) l (picks (board_in anyone m.0) m.1 t))
  where
    by : (b : Bool) → comes_to m l t ≡ b → reaches (m.1.cuts l) (cond b (m.0.ranks l t) 0) ≡ (b && clears_in m t l)
    by true e = refl
    by false e = refl

-- the reach does not depend on the lane's own cutoff
pub reach_same : (m : Model) (l c t : ℕ) → reach_in (tried m l c) l t ≡ reach_in m l t
unfolding clears
reach_same m l c t = ap (λ (q : ℕ → Bool). cond (holds (first q (picks (board_in anyone m.0) m.1 t)) l) (m.0.ranks l t) 0) (fun_ext same)
  where
    same : (k : ℕ) → stops_at (tried m l c) l t k ≡ stops_at m l t k
    same k = ⊎_elim
        (λ (e : k ≡ l). ap (λ b. b || clears_in (tried m l c) t k) (eq-eqb k l e) ∙ sym (ap (λ b. b || clears_in m t k) (eq-eqb k l e)))
        (λ (n : k ≢ l). ap (λ x. eqb k l || (ltb 0 (m.0.ranks k t) && leb x (m.0.ranks k t))) (cond-false (eqb k l) c (m.1.cuts k) (ne_eqb k l n)))
        (cases_eq k l)

-- past the teachers nobody asks
pub reach_past : (b : Book) (l t : ℕ) → length (model_of b.sheets).teachers ≤ t → reach_in (book_model b) l t ≡ 0
reach_past b l t h = by (comes_to (book_model b) l t) ((book_model b).0.ranks l t) (sym (rank_no_teacher (vec_items b.ranks.table) (length (model_of b.sheets).posts.lanes) (length (model_of b.sheets).teachers) l t h))
  where
    by : (c : Bool) (r : ℕ) → r ≡ 0 → cond c r 0 ≡ 0
    by true r e = e
    by false r e = refl

-- rows that agree entry by entry
pub row_same : (f g : ℕ → ℕ) (n : ℕ) → ((t : ℕ) → f t ≡ g t) → row f n ≡ row g n
row_same f g n h = ap (λ (k : ℕ → ℕ). row k n) (fun_ext h)

-- a row, a mark further
pub mark_more : (f : ℕ → ℕ) (xs : List ℕ) (i x : ℕ) → i < length xs → x ≡ f i → take i xs ≡ row f i → take (i + 1) (set xs i x) ≡ row f (i + 1)
mark_more f xs i x h e s = take_more_set xs i x h ∙ ap₂ (λ ys y. ys ++ y ∷ []) s e ∙ row_more f i

-- the marks at the lane's cutoff are the row of its askers
pub marks_are : (m : Model) (l n : ℕ) (rs : List ℕ) → ((t : ℕ) → get_or rs t 0 ≡ reach_in m l t) → n ≡ length m.0.staff
    → row (λ t. bit (reaches (m.1.cuts l) (get_or rs t 0))) n ≡ asker_bytes m l
marks_are m l n rs h e =
    row_same (λ t. bit (reaches (m.1.cuts l) (get_or rs t 0))) (λ t. bit (holds (offer_in m t) l)) n (λ t. ap bit (ap (reaches (m.1.cuts l)) (h t) ∙ asks_is m l t))
    ∙ ap (row (λ t. bit (holds (offer_in m t) l))) e

-- and at a cutoff that is tried
pub marks_tried : (m : Model) (l c d n : ℕ) (rs : List ℕ) → ((t : ℕ) → get_or rs t 0 ≡ reach_in m l t) → n ≡ length m.0.staff → d ≡ c
    → row (λ t. bit (reaches d (get_or rs t 0))) n ≡ asker_bytes (tried m l c) l
marks_tried m l c d n rs h e w =
    ap (λ x. row (λ t. bit (reaches x (get_or rs t 0))) n) (w ∙ sym (cond-true (eqb l l) c (m.1.cuts l) (eq-eqb l l refl)))
    ∙ marks_are (tried m l c) l n rs (λ t. h t ∙ sym (reach_same m l c t)) e
