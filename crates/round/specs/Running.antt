-- How far a log has come. Assumes nothing.
use Rattle.std.specs.Prelude.{◌≡◌, ℕ, ◌<◌, Bool, List, take, Some, None, Option, slice_index_or}
use Rattle.matching.specs.Groups.{Group}
use Rattle.matching.specs.Log.{Call, post, line}
use Rattle.book.specs.Model.{Model, board_in}
use Rattle.round.specs.declared.log.Answer.{Answer}
use Rattle.round.specs.Held.{PlaceModel}
use Rattle.round.specs.Log.{answer_to}

-- the round after the calls
abbrev pub ran : (ℕ → Group → Bool) → Model → List Call → Model
ran family m cs = (m.0, line (board_in family m.0) m.1 cs)

-- the place after the calls
abbrev pub ran_place : {S L : Type 0} → (L → ℕ → Group → Bool) → PlaceModel S L → List Call → PlaceModel S L
ran_place family p cs = record { standing = p.standing; limit = p.limit; round = ran (family p.limit) p.round cs }

-- the first n calls have their answers
abbrev pub AnsweredTo : (ℕ → Group → Bool) → Model → List Call → ℕ → List (Option Answer) → Type 0
AnsweredTo family m cs n answers = (k : ℕ) → k < n → slice_index_or answers k None ≡ Some (answer_to family (slice_index_or cs k post) (ran family m (take k cs)))
