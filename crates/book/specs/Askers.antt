-- The askers of a lane as a row of bytes, and trials of a cutoff. Lanes and teachers go by their index. Assumes nothing.
use Rattle.std.specs.Prelude.{ℕ, suc, Bool, cond, ltb, List, length, Ok, Err, Result, ◌==◌, nat_lt}
use Rattle.matching.specs.Count.{count, bit}
use Rattle.matching.specs.Log.{put, within}
use Rattle.matching.specs.Picks.{holds}
use Rattle.book.specs.declared.book.trial.TrialRefusal.{TrialRefusal}
use Rattle.book.specs.declared.book.trial.TrialRefusal.TheVariants.{NoLane, BadCutoff, BadRow as BadRowTried}
use Rattle.book.specs.declared.book.trial.BadRow.{BadRow}
use Rattle.book.specs.Model.{Model, offer_in, with_cuts}
use Rattle.book.specs.Result.{row}

-- one byte a teacher: 1 for those whose offer is lane l, 0 for the others
abbrev pub asker_bytes : Model → ℕ → List ℕ
asker_bytes m l = row (λ t. bit (holds (offer_in m t) l)) (length m.0.staff)

-- how many teachers are licensed for lane l
abbrev pub licensed_in : Model → ℕ → ℕ
licensed_in m l = count (λ t. ltb 0 (m.0.ranks l t)) (length m.0.staff)

-- the row has one byte a teacher
abbrev pub row_due : Model → List ℕ → Bool
row_due m bytes = length bytes == length m.0.staff

-- the refusal of a row that has not one byte a teacher
abbrev pub bad_row : BadRow
bad_row = record {}

-- writing the askers of lane l into a lent row: Ok if it has one byte a teacher, and the row then
abbrev pub asking : Model → ℕ → List ℕ → Result (Unit {0}) BadRow × List ℕ
asking m l bytes = cond (row_due m bytes) (Ok tt, asker_bytes m l) (Err bad_row, bytes)

-- the round with the cutoff of lane l at c
abbrev pub tried : Model → ℕ → ℕ → Model
tried m l c = (m.0, with_cuts m.1 (put m.1.cuts l c))

-- a trial of the cutoff c for lane l: the answer, and the lent row then. The cutoff may be from 1 to one more than the lane's licensed teachers
abbrev pub trying : Model → ℕ → ℕ → List ℕ → Result (Unit {0}) TrialRefusal × List ℕ
trying m l c bytes =
    cond (nat_lt l (length m.0.posts.lanes))
    (cond (within c (suc (licensed_in m l))) (cond (row_due m bytes) (Ok tt, asker_bytes (tried m l c) l) (Err BadRowTried, bytes)) (Err BadCutoff, bytes))
    (Err NoLane, bytes)

-- the same, and the round after it: the old cutoff stands again
abbrev pub trial_left : Model → ℕ → ℕ → List ℕ → (Result (Unit {0}) TrialRefusal × List ℕ) × Model
trial_left m l c bytes = (trying m l c bytes, m)
