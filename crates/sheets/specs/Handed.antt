-- The line that is handed out. Assumes nothing.
use Rattle.std.specs.Prelude.{ℕ, cond, List, take, drop, ◌==◌}
use Rattle.text.specs.Number.{before}

-- sheet number 2 means staff, every other one posts
abbrev pub chosen : ℕ → List ℕ → List ℕ → List ℕ
chosen sheet posts staff = cond (sheet == 2) staff posts

-- from the place to before the next byte 10 or the end; past the end there is nothing
abbrev pub text_at : List ℕ → ℕ → List ℕ
text_at bs place = take (before 10 (drop place bs)) (drop place bs)
