-- Teachers without their wishes are the same people.
use Rattle.std.proofs.Common.{◌≡◌, List, [], ◌∷◌, map, refl, ap}
use Rattle.market.specs.Tables.{person}
use Rattle.sheets.specs.Model.{TeacherRecord}
use Rattle.book.specs.Model.{unwished}

pub people_same : (ts : List TeacherRecord) → map person (map unwished ts) ≡ map person ts
people_same [] = refl
people_same (t ∷ ts) = ap (λ ps. person t ∷ ps) (people_same ts)
