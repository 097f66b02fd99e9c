-- Ranks number the licensed teachers of a lane from 1, the last in the priority order first. Assumes nothing.
use Rattle.std.specs.Prelude.{◌≡◌, ℕ, ◌<◌, ◌≤◌, Bool, true}
use Rattle.matching.specs.Count.{count}
use Rattle.matching.specs.Groups.{Group}
use Rattle.matching.specs.Market.{Market, Laws, rank}

-- teachers are the numbers below n; who is licensed, who stands before whom, and each one's rank
pub record OneToN (n : ℕ) (licensed : Group) (before : ℕ → ℕ → Bool) (rank_of : ℕ → ℕ) : Type 0 where
  -- a licensed teacher's rank is at least 1 and at most the number of licensed teachers
  pub least : (t : ℕ) → licensed t ≡ true → 1 ≤ rank_of t
  pub most : (t : ℕ) → licensed t ≡ true → rank_of t ≤ count licensed n
  -- no two licensed teachers have the same rank
  pub apart : (t u : ℕ) → licensed t ≡ true → licensed u ≡ true → rank_of t ≡ rank_of u → t ≡ u
  -- each of these ranks is that of a licensed teacher
  pub each : (r : ℕ) → 1 ≤ r → r ≤ count licensed n → (t : ℕ) × (licensed t ≡ true) × (rank_of t ≡ r)
  -- t stands before u exactly if the rank of t is the higher
  pub higher : (t u : ℕ) → licensed t ≡ true → licensed u ≡ true → before t u ≡ true → rank_of u < rank_of t
  pub stands : (t u : ℕ) → licensed t ≡ true → licensed u ≡ true → rank_of u < rank_of t → before t u ≡ true

-- the ranks of each lane of a market are such numbers
abbrev pub RanksAreOneToN : Type 0
RanksAreOneToN = (mk : Market) → Laws mk → (l : ℕ) → OneToN mk.teachers (λ t. mk.licensed t l) (mk.before l) (rank mk l)
