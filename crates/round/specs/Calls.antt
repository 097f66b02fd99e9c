-- What each call answers, and the round that it leaves. Teachers and lanes go by their numbers, from 1. Assumes nothing.
use Rattle.std.specs.Prelude.{ℕ, ◌-◌, Bool, cond, List, is_some, Ok, Err, Option, Result}
use Rattle.matching.specs.Count.{count}
use Rattle.matching.specs.Groups.{Group}
use Rattle.matching.specs.Log.{Call, wish, press, sweep, settle, post, picks, within, after, next, presses, settled}
use Rattle.matching.specs.Market.{over_asked}
use Rattle.book.specs.Model.{Model, board_in, with_cuts}
use Rattle.round.specs.declared.answers.Refusal.{Refusal}
use Rattle.round.specs.declared.answers.Refusal.TheVariants.{Posted, NoTeacher, BadWishes, NoLane, NotOverAsked, OverAsked, BadCutoff, NotLicensed, BadRow}
use Rattle.round.specs.declared.answers.Settled.{Settled}

-- the number of each refusal
abbrev pub refusal_number : Refusal → ℕ
refusal_number Posted = 9
refusal_number NoTeacher = 10
refusal_number BadWishes = 11
refusal_number NoLane = 12
refusal_number NotOverAsked = 13
refusal_number OverAsked = 14
refusal_number BadCutoff = 15
refusal_number NotLicensed = 16
refusal_number BadRow = 17

-- the index, from 0, of the number n, which counts from 1 to the last; or the refusal
abbrev pub index_of : ℕ → ℕ → Refusal → Result ℕ Refusal
index_of n last refusal = cond (within n last) (Ok (n - 1)) (Err refusal)

-- a round that is posted is closed to the calls
abbrev pub still_open : Model → Result (Unit {0}) Refusal
still_open m = cond m.1.posted (Err Posted) (Ok tt)

-- under a limit with this meaning
module _ (family : ℕ → Group → Bool) where
  -- lane, from 0: its askers do not fit
  abbrev pub over_in : Model → ℕ → Bool
  over_in m l = over_asked (board_in family m.0) (picks (board_in family m.0) m.1) m.1.cuts l

  -- the first over-asked lane
  abbrev pub next_in : Model → Option ℕ
  next_in m = next (board_in family m.0) (picks (board_in family m.0) m.1) m.1.cuts

  -- a lane is over-asked
  abbrev pub any_over : Model → Bool
  any_over m = is_some (next_in m)

  -- the round that a call leaves, accepted or denied
  abbrev pub left : Model → Call → Model
  left m c = (m.0, after (board_in family m.0) m.1 c)

  abbrev pub wish_call : ℕ → List ℕ → Model → Result (Unit {0}) Refusal × Model
  wish_call n w m =
      (cond m.1.posted (Err Posted) (cond (within n (board_in family m.0).teachers) (cond ((board_in family m.0).may_wish (n - 1) w) (Ok tt) (Err BadWishes)) (Err NoTeacher)), left m (wish n w))

  abbrev pub press_call : ℕ → Model → Result (Unit {0}) Refusal × Model
  press_call n m =
      (cond m.1.posted (Err Posted) (cond (within n (board_in family m.0).lanes) (cond (over_in m (n - 1)) (Ok tt) (Err NotOverAsked)) (Err NoLane)), left m (press n))

  -- how many lanes rose
  abbrev pub sweep_call : Model → Result ℕ Refusal × Model
  sweep_call m = (cond m.1.posted (Err Posted) (Ok (count (over_in m) (board_in family m.0).lanes)), left m sweep)

  abbrev pub settled_in : Model → ℕ → Model
  settled_in m b = (m.0, with_cuts m.1 (settled (board_in family m.0) (picks (board_in family m.0) m.1) b m.1.cuts))

  abbrev pub presses_in : Model → ℕ → ℕ
  presses_in m b = presses (board_in family m.0) (picks (board_in family m.0) m.1) b m.1.cuts

  -- the presses made, and whether a lane is still over-asked
  abbrev pub settle_call : ℕ → Model → Result Settled Refusal × Model
  settle_call b m = (cond m.1.posted (Err Posted) (Ok (record { presses = presses_in m b; over = any_over (settled_in m b) })), left m (settle b))

  abbrev pub post_call : Model → Result (Unit {0}) Refusal × Model
  post_call m = (cond m.1.posted (Err Posted) (cond (any_over m) (Err OverAsked) (Ok tt)), left m post)
