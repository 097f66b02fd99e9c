-- The sheets of a round are those that its book keeps.
use Rattle.std.proofs.Common.{◌≡◌, List, [], ◌∷◌, map, get_or, refl, ap}
use Rattle.sheets.specs.Held.{model_of}
use Rattle.sheets.specs.Model.{TeacherRecord}
use Rattle.book.specs.declared.book.Book.{Book}
use Rattle.book.specs.Held.{book_model}
use Rattle.book.specs.Model.{unwished}
use Rattle.book.specs.Rewritten.{with_wishes, sheets_in}

-- taking the wishes away and putting them back
pub wishes_back : (ts : List TeacherRecord) → with_wishes (λ k. get_or (map (λ (r : TeacherRecord). r.wish) ts) k []) (map unwished ts) ≡ ts
wishes_back [] = refl
wishes_back (t ∷ ts) = ap (λ xs. t ∷ xs) (wishes_back ts)

pub sheets_kept : (b : Book) → sheets_in (book_model b) ≡ model_of b.sheets
sheets_kept b = ap (λ (ts : List TeacherRecord). record { posts = (model_of b.sheets).posts; teachers = ts }) (wishes_back (model_of b.sheets).teachers)
