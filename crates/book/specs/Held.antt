-- What a book holds. Assumes nothing.
use Rattle.std.specs.Prelude.{length, vec_items, slice_index_or}
use Rattle.matching.specs.Log.{State}
use Rattle.market.specs.Tables.{wishes_of}
use Rattle.sheets.specs.Held.{model_of}
use Rattle.book.specs.declared.book.Book.{Book}
use Rattle.book.specs.Model.{Fixed, Model, fixed_from, rank_in}

abbrev pub fixed_of : Book → Fixed
fixed_of b =
    let m = model_of b.sheets in
    fixed_from m (rank_in (vec_items b.ranks.table) (length m.posts.lanes) (length m.teachers))

abbrev pub state_of : Book → State
state_of b = record { wishes = wishes_of (model_of b.sheets); cuts = λ l. slice_index_or (vec_items b.cutoffs.items) l 1; posted = b.posted }

abbrev pub book_model : Book → Model
book_model b = (fixed_of b, state_of b)
