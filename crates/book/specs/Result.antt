-- The result sheet of a round: its raises, the cutoff of each lane, and the seat of each teacher. Assumes nothing.
use Rattle.std.specs.Prelude.{ℕ, ◌+◌, ◌-◌, cond, List, [], ◌∷◌, ◌++◌, length, Some, None, codes, Option, ◌==◌}
use Rattle.text.specs.Commas.{commas}
use Rattle.matching.specs.Count.{sum_to}
use Rattle.market.specs.Lists.{join_to}
use Rattle.book.specs.Model.{Model, offer_in}

-- what f gives at 0, 1 and so on below n
abbrev pub row : (ℕ → ℕ) → ℕ → List ℕ
row f n = join_to (λ i. f i ∷ []) n

-- the number of the lane that is offered, from 1; 0 for none
abbrev pub seat : Option ℕ → ℕ
seat None = 0
seat (Some l) = l + 1

-- the raises of a round: over all lanes, the cutoff less 1
abbrev pub raises : Model → ℕ
raises m = sum_to (λ l. m.1.cuts l - 1) (length m.0.posts.lanes)

abbrev pub cuts : Model → List ℕ
cuts m = row m.1.cuts (length m.0.posts.lanes)

abbrev pub seats : Model → List ℕ
seats m = row (λ t. seat (offer_in m t)) (length m.0.staff)

-- the key with its equals sign, the numbers with commas between them, the byte 10
abbrev pub result_line : List ℕ → List ℕ → List ℕ
result_line key ns = key ++ (commas ns ++ (10 ∷ []))

abbrev pub result_bytes : ℕ → List ℕ → List ℕ → List ℕ
result_bytes r cs ss = result_line (codes "raises=") (r ∷ []) ++ (result_line (codes "cut=") cs ++ result_line (codes "seat=") ss)

-- the result sheet, empty until something is opened
abbrev pub result_sheet : Model → List ℕ
result_sheet m = cond (m.0.posts.schools == 0) [] (result_bytes (raises m) (cuts m) (seats m))
