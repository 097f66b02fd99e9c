-- The promise, of any log of a round that two sheets open, under any standing and any limit. Assumes nothing.
use Rattle.std.specs.Prelude.{◌≡◌, ℕ, ◌<◌, ◌≤◌, Bool, List, map, length, take, Some, None, Ok, Err, Option, Result, slice_index_or}
use Rattle.lines.specs.declared.faults.Fault.{Fault}
use Rattle.matching.specs.Groups.{Group}
use Rattle.matching.specs.Log.{Call, post, State, opened, line}
use Rattle.matching.specs.Market.{Market, board_of}
use Rattle.matching.specs.Promise.{Promise}
use Rattle.sheets.specs.Described.{Describes, Undescribed}
use Rattle.sheets.specs.Model.{SheetsModel, blank}
use Rattle.sheets.specs.Read.{sheets_of}
use Rattle.market.specs.Tables.{tables_of, wishes_of, market_of}
use Rattle.book.specs.Model.{Model, opening}
use Rattle.book.specs.Rewritten.{sheets_in, posts_in, staff_in}
use Rattle.round.specs.declared.log.Answer.{Answer}
use Rattle.round.specs.declared.log.Entry.{Entry}
use Rattle.round.specs.Held.{PlaceModel}
use Rattle.round.specs.Log.{call_of, answer_to}

-- the calls of the entries, and their answers; none where the call has not been carried out
abbrev pub calls_of : List Entry → List Call
calls_of es = map (λ (e : Entry). call_of e.call) es

abbrev pub answers_of : List Entry → List (Option Answer)
answers_of es = map (λ (e : Entry). e.answer) es

module _ (ahead : ℕ → ℕ → ℕ → Bool) (family : ℕ → Group → Bool) (m : SheetsModel) where
  -- the market that the sheets describe
  abbrev pub market : Market
  market = market_of ahead family (tables_of m)

  -- the line of the log after these calls: wishes, cutoffs and whether the round is posted
  abbrev pub line_after : List Call → State
  line_after cs = line (board_of market) (opened (wishes_of m)) cs

  -- the round there
  abbrev pub round_after : List Call → Model
  round_after cs = ((opening ahead m).0, line_after cs)

-- the two sheets opened the round, the calls were carried out one by one, and this is what they answered and the round at the end
pub record Logged (ahead : ℕ → ℕ → ℕ → Bool) (family : ℕ → Group → Bool) (posts staff : List ℕ) (cs : List Call) (answers : List (Option Answer)) (end : Model) : Type 0 where
  -- what the two sheets describe
  pub model : SheetsModel
  pub described : Describes posts staff model
  -- every line keeps the promise: the opening's, after no call, and the one after each front of the calls
  pub lines : (k : ℕ) → k ≤ length cs → Promise (market ahead family model) (wishes_of model) (take k cs) (line_after ahead family model (take k cs))
  -- the round at the end is the last line's
  pub last : end ≡ round_after ahead family model cs
  -- each call was answered by the round at the line before it
  pub answered : (k : ℕ) → k < length cs → slice_index_or answers k None ≡ Some (answer_to family (slice_index_or cs k post) (round_after ahead family model (take k cs)))

-- what keeping a log leaves: the log of the round that the sheets describe; or their fault, and then nothing has changed
module _ {S L : Type 0} (ahead : S → ℕ → ℕ → ℕ → Bool) (family : L → ℕ → Group → Bool) (posts staff : List ℕ) (before after : PlaceModel S L) (asked done : List Entry) where
  pub record Carried : Type 0 where
    pub standing : after.standing ≡ before.standing
    pub limit : after.limit ≡ before.limit
    pub calls : calls_of done ≡ calls_of asked
    pub log : Logged (ahead before.standing) (family before.limit) posts staff (calls_of asked) (answers_of done) after.round

  pub record Denied (fault : Fault) : Type 0 where
    pub faulty : sheets_of posts staff ≡ Err fault
    pub undescribed : Undescribed posts staff
    pub place : after ≡ before
    pub entries : done ≡ asked

  abbrev pub LogKept : Result (Unit {0}) Fault → Type 0
  LogKept (Ok u) = Carried
  LogKept (Err e) = Denied e

-- the pair of sheets that a round writes
pub record WrittenBack (ahead : ℕ → ℕ → ℕ → Bool) (m : Model) : Type 0 where
  -- it describes the round: its posts, and its teachers with the wishes as they now are
  pub describes : Describes (posts_in m) (staff_in m) (sheets_in m)
  -- no other pair does
  pub only : (posts staff : List ℕ) → Describes posts staff (sheets_in m) → (posts ≡ posts_in m) × (staff ≡ staff_in m)
  -- it is read as that
  pub read : sheets_of (posts_in m) (staff_in m) ≡ Ok (sheets_in m)
  -- and opens as the same round, with every cutoff 1 and not posted
  pub opens : opening ahead (sheets_in m) ≡ (m.0, opened m.1.wishes)

-- what keeping a log leaves besides: the round at the end writes the one pair of sheets that describes it, and the lent desk has the sheets of the
-- round before; or, after a fault, nothing
abbrev pub LogWritten : {S L : Type 0} → (S → ℕ → ℕ → ℕ → Bool) → PlaceModel S L → PlaceModel S L → SheetsModel → Result (Unit {0}) Fault → Type 0
LogWritten ahead before after desk (Ok u) = WrittenBack (ahead before.standing) after.round × (desk ≡ sheets_in before.round)
LogWritten ahead before after desk (Err e) = desk ≡ blank
