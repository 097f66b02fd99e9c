-- Calls, answers and openings, as a log has them. Assumes nothing.
use Rattle.std.specs.Prelude.{ℕ, Bool, Ok, Err, Result}
use Rattle.lines.specs.declared.faults.Fault.{Fault}
use Rattle.matching.specs.Groups.{Group}
use Rattle.matching.specs.Log.{Call, wish, press, sweep, settle, post}
use Rattle.sheets.specs.Model.{SheetsModel, blank}
use Rattle.book.specs.Model.{Model, opening}
use Rattle.book.specs.Rewritten.{sheets_in}
use Rattle.round.specs.declared.log.Command.{Command}
use Rattle.round.specs.declared.log.Command.TheVariants.{Wish as WishCommand, Press as PressCommand, Sweep as SweepCommand, Settle as SettleCommand, Post as PostCommand}
use Rattle.round.specs.declared.log.Answer.{Answer}
use Rattle.round.specs.declared.log.Answer.TheVariants.{Wish, Press, Sweep, Settle, Post}
use Rattle.round.specs.Calls.{left, wish_call, press_call, sweep_call, settle_call, post_call}
use Rattle.round.specs.Held.{PlaceModel}

-- the code's command, as a call
abbrev pub call_of : Command → Call
call_of (WishCommand n w) = wish n w.now
call_of (PressCommand n) = press n
call_of SweepCommand = sweep
call_of (SettleCommand b) = settle b
call_of PostCommand = post

-- what the call answers
abbrev pub answer_to : (ℕ → Group → Bool) → Call → Model → Answer
answer_to family (wish n w) m = Wish (wish_call family n w m).0
answer_to family (press n) m = Press (press_call family n m).0
answer_to family sweep m = Sweep (sweep_call family m).0
answer_to family (settle b) m = Settle (settle_call family b m).0
answer_to family post m = Post (post_call family m).0

-- and the round that it leaves
abbrev pub answer_call : (ℕ → Group → Bool) → Call → Model → Answer × Model
answer_call family c m = (answer_to family c m, left family m c)

-- opening: by what the two sheets describe, or their fault, which leaves the place as it was
abbrev pub open_call : {S L : Type 0} → (S → ℕ → ℕ → ℕ → Bool) → Result SheetsModel Fault → PlaceModel S L → Result (Unit {0}) Fault × PlaceModel S L
open_call ahead (Ok m) p = (Ok tt, record { standing = p.standing; limit = p.limit; round = opening (ahead p.standing) m })
open_call ahead (Err e) p = (Err e, p)

-- what opening leaves on the lent desk: the sheets of the round before, or nothing after a fault
abbrev pub desk_left : Result SheetsModel Fault → Model → SheetsModel
desk_left (Ok m) before = sheets_in before
desk_left (Err e) before = blank
