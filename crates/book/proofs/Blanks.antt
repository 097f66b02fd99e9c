-- A book with nothing opened.
use Rattle.std.proofs.Common.{◌≡◌, ℕ, ◌<◌, ◌≤◌, true, cond, ◌&&◌, ltb, List, [], length, get_or, replicate, ap, ◌∙◌, ap₂, ⊎_elim, arith}
use mathlib.Core.Path.{fun_ext}
use lib.ListN.{length-replicate}
use Rattle.std.proofs.lemmas.List.{get_or_past, get_or-replicate}
use Rattle.std.proofs.lemmas.Bool.{cases_lt, le-ltb}
use Rattle.matching.specs.Log.{State}
use Rattle.market.specs.Tables.{wishes_of}
use Rattle.sheets.specs.Model.{SheetsModel, blank}
use Rattle.book.specs.Model.{Model, fixed_from, unopened, entry_in, rank_in}

pub zeros : (n k : ℕ) → ◌≡◌ {A = ℕ} (get_or (replicate n 0) k 0) 0
zeros n k = ⊎_elim (λ (l : k < n). get_or-replicate n k 0 0 l) (λ (g : n ≤ k). get_or_past (replicate n 0) k 0 (omega (arith, length-replicate {A = ℕ} n 0))) (cases_lt k n)

-- a table of rows of zeros has no other entry
pub blank_rows : (m n l t : ℕ) → entry_in (replicate m (replicate n 0)) l t ≡ 0
blank_rows m n l t = ⊎_elim
    (λ (h : l < m). ap (λ (row : List ℕ). get_or row t 0) (get_or-replicate m l (replicate n 0) [] h) ∙ zeros n t)
    (λ (h : m ≤ l). ap (λ (row : List ℕ). get_or row t 0) (get_or_past (replicate m (replicate n 0)) l [] (omega (arith, length-replicate {A = List ℕ} m (replicate n 0)))) ∙ zeros 0 t)
    (cases_lt l m)

no_ranks : (table : List (List ℕ)) → rank_in table 0 0 ≡ (λ _ _. 0)
no_ranks table = fun_ext (λ l. fun_ext (λ t. ap (λ b. cond (b && ltb t 0) (entry_in table l t) 0) (le-ltb l 0 (omega arith))))

module _ (table : List (List ℕ)) (cuts : List ℕ) where
  abbrev holds : SheetsModel → List ℕ → Model
  holds m cs = (fixed_from m (rank_in table (length m.posts.lanes) (length m.teachers)), record { wishes = wishes_of m; cuts = λ l. get_or cs l 1; posted = true })

  pub unopened_is : (m : SheetsModel) → m ≡ blank → cuts ≡ [] → holds m cuts ≡ unopened
  unopened_is m e f =
      ap₂ holds e f ∙ ap₂ {C = Model} (λ (r : ℕ → ℕ → ℕ) (s : State). (fixed_from blank r, s)) (no_ranks table)
      (ap₂ {C = State} (λ (w : ℕ → List ℕ) (c : ℕ → ℕ). record { wishes = w; cuts = c; posted = true }) (fun_ext (λ t. get_or_past [] t [] (omega arith))) (fun_ext (λ l. get_or_past [] l 1 (omega arith))))
