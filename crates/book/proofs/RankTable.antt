-- The table of ranks, lane by lane.
use Rattle.std.proofs.Common.{◌≡◌, ℕ, ◌+◌, ◌<◌, ◌≤◌, min, Bool, ◌≢◌, List, length, get_or, replicate, sym, ap, ◌∙◌, ⊎_elim, arith}
use lib.ListN.{length-replicate}
use Rattle.std.proofs.lemmas.List.{get_or_past}
use Rattle.std.proofs.lemmas.Bool.{cases_lt, cases_eq}
use Rattle.matching.specs.Ranking.{people, rank_by, ranked}
use Rattle.matching.proofs.Ranking.{behind_high, rank_none, rank_some, set_to_in, set_to_out}
use Rattle.market.specs.Tables.{Tables, bands_of}
use Rattle.book.specs.Model.{entry_in}
use Rattle.book.proofs.Blanks.{zeros}

module _ (ahead : ℕ → ℕ → ℕ → Bool) (lane : ℕ) (bands : List ℕ) (few : length bands ≤ 200) where
  pub rank_past : (t : ℕ) → length bands ≤ t → rank_by ahead lane bands t ≡ 0
  rank_past t h = rank_none ahead lane bands t (get_or_past bands t 0 h)

  pub rank_high : (t : ℕ) → rank_by ahead lane bands t ≤ 201
  rank_high t = ⊎_elim
      (λ (l : t < length bands). ⊎_elim
      (λ (z : get_or bands t 0 ≡ 0). omega (arith, rank_none ahead lane bands t z))
      (λ (n : get_or bands t 0 ≢ 0). omega (arith, rank_some ahead lane bands t (omega arith) n, behind_high ahead lane bands t (people bands)))
      (cases_eq (get_or bands t 0) 0))
      (λ (g : length bands ≤ t). omega (arith, rank_past t g))
      (cases_lt t (length bands))

  -- a row of zeros, filled
  pub row_at : (row : List ℕ) → row ≡ ranked ahead lane bands (replicate 200 0) → (t : ℕ) → get_or row t 0 ≡ rank_by ahead lane bands t
  row_at row e t = ap (λ xs. get_or xs t 0) e ∙ ⊎_elim
      (λ (l : t < length bands). set_to_in (rank_by ahead lane bands) (min (people bands) (length (replicate {A = ℕ} 200 0))) (replicate 200 0) t (omega (arith, length-replicate {A = ℕ} 200 0)) (omega (arith, length-replicate {A = ℕ} 200 0)))
      (λ (g : length bands ≤ t). set_to_out (rank_by ahead lane bands) (min (people bands) (length (replicate {A = ℕ} 200 0))) (replicate 200 0) t (omega arith) ∙ zeros 200 t ∙ sym (rank_past t g))
      (cases_lt t (length bands))

-- ---- one lane more

-- a table whose first n lanes have their ranks
abbrev pub RanksTo : (ℕ → ℕ → ℕ → Bool) → Tables → ℕ → List (List ℕ) → Type 0
RanksTo ahead T n table = (l t : ℕ) → l < n → entry_in table l t ≡ rank_by ahead (l + 1) (bands_of T l) t
