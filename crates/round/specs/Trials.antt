-- The refusals of the book, as the calls have them. Assumes nothing.
use Rattle.book.specs.declared.book.trial.TrialRefusal.{TrialRefusal}
use Rattle.book.specs.declared.book.trial.TrialRefusal.TheVariants.{NoLane as NoLaneTried, BadCutoff as BadCutoffTried, BadRow as BadRowTried}
use Rattle.sheets.specs.declared.refusals.WishRefusal.{WishRefusal}
use Rattle.sheets.specs.declared.refusals.WishRefusal.TheVariants.{NoTeacher as NoSuchTeacher, BadWishes as BadList}
use Rattle.round.specs.declared.answers.Refusal.{Refusal}
use Rattle.round.specs.declared.answers.Refusal.TheVariants.{NoTeacher, BadWishes, NoLane, BadCutoff, BadRow}

-- a trial's refusal, among those of the calls
abbrev pub refusal_of : TrialRefusal → Refusal
refusal_of NoLaneTried = NoLane
refusal_of BadCutoffTried = BadCutoff
refusal_of BadRowTried = BadRow

-- the book's refusal of a wish list, among those of the calls
abbrev pub wish_refusal_of : WishRefusal → Refusal
wish_refusal_of NoSuchTeacher = NoTeacher
wish_refusal_of BadList = BadWishes

-- the book's refusal of a row, among those of the calls
abbrev pub row_refusal : Refusal
row_refusal = BadRow
