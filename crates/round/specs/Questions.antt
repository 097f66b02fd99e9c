-- What the questions answer. Teachers and lanes go by their numbers, from 1; a question changes nothing and may be asked at any time. Assumes nothing.
use Rattle.std.specs.Prelude.{ℕ, suc, ◌+◌, ◌-◌, Bool, cond, List, length, Some, None, Ok, Err, Option, Result, ◌==◌}
use Rattle.matching.specs.Groups.{Group}
use Rattle.matching.specs.Log.{within}
use Rattle.book.specs.Askers.{asker_bytes, licensed_in, row_due, tried}
use Rattle.book.specs.Model.{Model, offer_in}
use Rattle.round.specs.Held.{PlaceModel}
use Rattle.round.specs.Calls.{over_in}
use Rattle.round.specs.declared.answers.Refusal.{Refusal}
use Rattle.round.specs.declared.answers.Refusal.TheVariants.{NoTeacher, NoLane, BadCutoff, NotLicensed, BadRow}

-- the number of a lane that is given by its index
abbrev pub numbered : Option ℕ → Option ℕ
numbered None = None
numbered (Some l) = Some (l + 1)

-- the first lane of the teacher's pick list that the teacher clears, or none
abbrev pub offer_asked : ℕ → Model → Result (Option ℕ) Refusal
offer_asked n m = cond (within n (length m.0.staff)) (Ok (numbered (offer_in m (n - 1)))) (Err NoTeacher)

-- the lane's cutoff
abbrev pub cutoff_asked : ℕ → Model → Result ℕ Refusal
cutoff_asked n m = cond (within n (length m.0.posts.lanes)) (Ok (m.1.cuts (n - 1))) (Err NoLane)

-- the teacher's rank in the lane: 1 is the last of the licensed
abbrev pub rank_asked : ℕ → ℕ → Model → Result ℕ Refusal
rank_asked l t m =
    let rank = m.0.ranks (l - 1) (t - 1) in
    cond (within l (length m.0.posts.lanes)) (cond (within t (length m.0.staff)) (cond (rank == 0) (Err NotLicensed) (Ok rank)) (Err NoTeacher)) (Err NoLane)

-- do the lane's askers not fit?
abbrev pub over_asked_asked : (ℕ → Group → Bool) → ℕ → Model → Result Bool Refusal
over_asked_asked family n m = cond (within n (length m.0.posts.lanes)) (Ok (over_in family m (n - 1))) (Err NoLane)

-- writing the row of the lane's askers, one byte a teacher, 1 for an asker: the answer, and the lent row then
abbrev pub askers_asked : ℕ → Model → List ℕ → Result (Unit {0}) Refusal × List ℕ
askers_asked n m bytes =
    cond (within n (length m.0.posts.lanes)) (cond (row_due m bytes) (Ok tt, asker_bytes m (n - 1)) (Err BadRow, bytes)) (Err NoLane, bytes)

-- a trial of the cutoff c for the lane: the same of the round with that cutoff, which may be from 1 to one more than the lane's licensed teachers
abbrev pub trial_asked : ℕ → ℕ → Model → List ℕ → Result (Unit {0}) Refusal × List ℕ
trial_asked n c m bytes =
    cond (within n (length m.0.posts.lanes))
    (cond (within c (suc (licensed_in m (n - 1)))) (cond (row_due m bytes) (Ok tt, asker_bytes (tried m (n - 1) c) (n - 1)) (Err BadRow, bytes)) (Err BadCutoff, bytes))
    (Err NoLane, bytes)

-- the answer of a trial, the lent row then, and the place then, which is as it was before
abbrev pub trial_call : {S L : Type 0} → ℕ → ℕ → List ℕ → PlaceModel S L → (Result (Unit {0}) Refusal × List ℕ) × PlaceModel S L
trial_call n c bytes p = (trial_asked n c p.round bytes, p)
