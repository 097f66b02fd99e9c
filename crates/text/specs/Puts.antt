-- Bytes written into a lent buffer. Assumes nothing.
use Rattle.std.specs.Prelude.{◌≡◌, ℕ, ◌+◌, ◌-◌, ◌^◌, ◌≤◌, min, List, ◌++◌, length, take, drop}

-- the buffer d with s in it from `at` on
abbrev pub put : List ℕ → ℕ → List ℕ → List ℕ
put d at s = take at d ++ (s ++ drop (at + length s) d)

-- s was put into the buffer d at `at` if there is room; e is the buffer then, and r the place behind s
pub record Put (d : List ℕ) (at : ℕ) (s : List ℕ) (e : List ℕ) (r : ℕ) : Type 0 where
  -- the place behind, which stops at the largest number that a place can be
  pub end : r ≡ min (at + length s) (2 ^ 64 - 1)
  pub long : length e ≡ length d
  pub written : at + length s ≤ length d → e ≡ put d at s
