-- Several records: what is read is what is written.
use Rattle.std.proofs.Common.{◌≡◌, ℕ, zero, suc, ◌+◌, Bool, true, List, [], ◌∷◌, ◌++◌, length, drop, Ok, Result, sym, refl, ap, ◌∙◌, subst, ap₂, append_assoc, append-nil, add-zero, arith, length-append}
use Rattle.std.proofs.lemmas.Bool.{and_parts, and_from}
use Rattle.lines.specs.declared.faults.Fault.{Fault}
use Rattle.lines.proofs.Readers.{Step, Reads, step_then, drop_behind, bound, bind_to, ok_same}
use Rattle.sheets.specs.Records.{repeat}
use Rattle.sheets.specs.Ranges.{every}
use Rattle.sheets.specs.Written.{written_each}

-- each is valid in the light of those before it
abbrev pub Each : {A : Type 0} → (List A → A → Type 0) → List A → List A → Type 0
Each V done [] = Unit {0}
Each V done (x ∷ xs) = V done x × Each V (done ++ x ∷ []) xs

-- a test that looks at no other
pub each_every : {A : Type 0} (f : A → Bool) (done xs : List A) → Each (λ d x. f x ≡ true) done xs → every f xs ≡ true
each_every f done [] h = refl
each_every f done (x ∷ xs) h = and_from (f x) (every f xs) h.0 (each_every f (done ++ x ∷ []) xs h.1)

pub every_each : {A : Type 0} (f : A → Bool) (done xs : List A) → every f xs ≡ true → Each (λ d x. f x ≡ true) done xs
every_each f done [] h = tt
every_each f done (x ∷ xs) h = let p = and_parts (f x) (every f xs) h in (p.0, every_each f (done ++ x ∷ []) xs p.1)

-- two conditions at once
module _ {A : Type 0} (V U : List A → A → Type 0) where
  pub each_parts : (done xs : List A) → Each (λ d x. V d x × U d x) done xs → Each V done xs × Each U done xs
  each_parts done [] h = (tt, tt)
  each_parts done (x ∷ xs) h = let t = each_parts (done ++ x ∷ []) xs h.1 in ((h.0.0, t.0), (h.0.1, t.1))

  pub each_both : (done xs : List A) → Each V done xs → Each U done xs → Each (λ d x. V d x × U d x) done xs
  each_both done [] v u = tt
  each_both done (x ∷ xs) v u = ((v.0, u.0), each_both (done ++ x ∷ []) xs v.1 u.1)

module _ {A : Type 0} (bs : List ℕ) (one : List A → ℕ → ℕ → Result (A × ℕ) Fault) (lines : ℕ) (W : A → List ℕ) (V : List A → A → Type 0) (reads : (done : List A) (l p : ℕ) → Reads bs p (one done l p) W (V done)) where
  -- the rows behind those that are done
  record Rows (n : ℕ) (done : List A) (p : ℕ) (all : List A) (q : ℕ) : Type 0 where
    rows : List A
    added : all ≡ done ++ rows
    count : length rows ≡ n
    each : Each V done rows
    step : Step bs p (written_each W rows) q

  rows_to : (n : ℕ) (done : List A) (l p : ℕ) (all : List A) (q : ℕ) → repeat one lines n done l p ≡ Ok (all, q) → Rows n done p all q
  rows_to zero done l p all q e =
      let same = ok_same _ _ e in
      record {
        rows = [];
        added = sym (ap (λ z. z.0) same) ∙ sym (append-nil done);
        count = refl;
        each = tt;
        step = record { far = sym (ap (λ z. z.1) same) ∙ sym (add-zero p); bytes = ap (λ k. drop k bs) (ap (λ z. z.1) same) };
      }
  rows_to (suc n) done l p all q e =
      bound (one done l p) (λ t. repeat one lines n (done ++ t.0 ∷ []) (l + lines) t.1) (all, q) e (λ t e1 f1.
      let h = (reads done l p).to t.0 t.1 e1 in
      let r = rows_to n (done ++ t.0 ∷ []) (l + lines) t.1 all q f1 in
      record {
        rows = t.0 ∷ r.rows;
        added = r.added ∙ append_assoc done (t.0 ∷ []) r.rows;
        count = ap suc r.count;
        each = (h.0, r.each);
        step = step_then bs p (W t.0) t.1 (written_each W r.rows) q h.1 r.step;
      })

  rows_from : (xs done : List A) (l p : ℕ) (rest : List ℕ) → Each V done xs → drop p bs ≡ written_each W xs ++ rest → repeat one lines (length xs) done l p ≡ Ok (done ++ xs, p + length (written_each W xs))
  rows_from [] done l p rest h e = ap₂ (λ x k. Ok (x, k)) (sym (append-nil done)) (sym (add-zero p))
  rows_from (x ∷ xs) done l p rest h e =
      let f = e ∙ append_assoc (W x) (written_each W xs) rest in
      bind_to (one done l p) (λ t. repeat one lines (length xs) (done ++ t.0 ∷ []) (l + lines) t.1) (x, p + length (W x)) ((reads done l p).from x (written_each W xs ++ rest) h.0 f)
      ∙ rows_from xs (done ++ x ∷ []) (l + lines) (p + length (W x)) rest h.1 (drop_behind bs p (W x) (written_each W xs ++ rest) f)
      ∙ ap₂ (λ x k. Ok (x, k)) (append_assoc done (x ∷ []) xs) (omega (arith, length-append (W x) (written_each W xs)))

  pub repeat_reads : (n l p : ℕ) → Reads bs p (repeat one lines n [] l p) (written_each W) (λ xs. Each V [] xs × (length xs ≡ n))
  repeat_reads n l p = record {
    to = λ xs q e.
        let r = rows_to n [] l p xs q e in
        let is = sym r.added in
        ((subst (Each V []) is r.each, ap length r.added ∙ r.count), subst (λ ys. Step bs p (written_each W ys) q) is r.step);
    from = λ xs rest v e. ap (λ k. repeat one lines k [] l p) (sym v.1) ∙ rows_from xs [] l p rest v.0 e;
  }
