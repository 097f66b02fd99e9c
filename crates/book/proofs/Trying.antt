-- A trial puts a cutoff and takes it back: what it answers and leaves.
use Rattle.std.proofs.Common.{◌≡◌, ℕ, suc, ◌<◌, true, false, List, length, get_or, set, Ok, Err, vec_items, Result, sym, ap, ◌∙◌, ap₂}
use Rattle.std.proofs.lemmas.List.{set-set, set-get_or}
use Rattle.std.proofs.lemmas.Bool.{lt-ltb, eq-eqb, ne_eqb, cond-true, cond-false}
use Rattle.matching.specs.Log.{within}
use Rattle.std.specs.Result.{IsErrAnd}
use Rattle.book.specs.declared.book.Book.{Book}
use Rattle.book.specs.declared.book.trial.TrialRefusal.{TrialRefusal}
use Rattle.book.specs.declared.book.trial.TrialRefusal.TheVariants.{BadCutoff, BadRow as BadRowTried}
use Rattle.book.specs.Askers.{asker_bytes, licensed_in, asking, tried, trying, trial_left}
use Rattle.book.specs.Held.{book_model, fixed_of, state_of}
use Rattle.book.specs.Model.{Model}

-- a number, and then the old one back
pub restored : (xs ys old : List ℕ) (i v : ℕ) → ys ≡ set xs i v → old ≡ xs → set ys i (get_or old i 0) ≡ xs
restored xs ys old i v p q =
    ap (λ (zs : List ℕ). set zs i (get_or old i 0)) p
    ∙ set-set xs i v (get_or old i 0)
    ∙ ap (λ (zs : List ℕ). set xs i (get_or zs i 0)) q
    ∙ set-get_or xs i 0

module _ (b : Book) (cs : List ℕ) (same : cs ≡ vec_items b.cutoffs.items) where
  pub cuts_back : ◌≡◌ {A = Model} (fixed_of b, record { wishes = (state_of b).wishes; cuts = λ l. get_or cs l 1; posted = b.posted }) (book_model b)
  cuts_back = ap (λ (xs : List ℕ). (fixed_of b, record { wishes = (state_of b).wishes; cuts = λ l. get_or xs l 1; posted = b.posted })) same

  -- an answer of the trial, with the cutoffs as they were
  pub left_back : (l c : ℕ) (bytes : List ℕ) (r : Result (Unit {0}) TrialRefusal × List ℕ) → r ≡ trying (book_model b) l c bytes
      → ◌≡◌ {A = (Result (Unit {0}) TrialRefusal × List ℕ) × Model} (r, (fixed_of b, record { wishes = (state_of b).wishes; cuts = λ k. get_or cs k 1; posted = b.posted })) (trial_left (book_model b) l c bytes)
  left_back l c bytes r e = ap₂ (λ (x : Result (Unit {0}) TrialRefusal × List ℕ) (y : Model). (x, y)) e cuts_back

module _ (m : Model) (l c : ℕ) (bytes : List ℕ) where
  pub trying_cutoff : l < length m.0.posts.lanes → within c (suc (licensed_in m l)) ≡ false → (Err BadCutoff, bytes) ≡ trying m l c bytes
  trying_cutoff h w = sym (cond-true _ _ _ (lt-ltb l (length m.0.posts.lanes) h) ∙ cond-false _ _ _ w)

  pub trying_row : l < length m.0.posts.lanes → within c (suc (licensed_in m l)) ≡ true → (length bytes ≡ length m.0.staff → ⊥) → (Err BadRowTried, bytes) ≡ trying m l c bytes
  trying_row h w n = sym (cond-true _ _ _ (lt-ltb l (length m.0.posts.lanes) h) ∙ cond-true _ _ _ w ∙ cond-false _ _ _ (ne_eqb (length bytes) (length m.0.staff) n))

  pub trying_ok : (ys : List ℕ) → l < length m.0.posts.lanes → within c (suc (licensed_in m l)) ≡ true → length bytes ≡ length m.0.staff → ys ≡ asker_bytes (tried m l c) l → (Ok tt, ys) ≡ trying m l c bytes
  trying_ok ys h w e y =
      ap (λ (zs : List ℕ). (Ok tt, zs)) y
      ∙ sym (cond-true _ _ _ (lt-ltb l (length m.0.posts.lanes) h) ∙ cond-true _ _ _ w ∙ cond-true _ _ _ (eq-eqb (length bytes) (length m.0.staff) e))

-- the refusal that a `?` makes
pub refused : (r : Result (Unit {0}) TrialRefusal) (e : TrialRefusal) → IsErrAnd r (λ x. x ≡ e) → r ≡ Err e
refused (Ok x) e h = absurd h
refused (Err x) e h = ap Err h

pub asking_ok : (m : Model) (l : ℕ) (bytes ys : List ℕ) → length bytes ≡ length m.0.staff → ys ≡ asker_bytes m l → (Ok tt, ys) ≡ asking m l bytes
asking_ok m l bytes ys e y = ap (λ (zs : List ℕ). (Ok tt, zs)) y ∙ sym (cond-true _ _ _ (eq-eqb (length bytes) (length m.0.staff) e))
