-- What holds at every line of every log. Assumes nothing.
use Rattle.std.specs.Prelude.{◌≡◌, ℕ, suc, ◌+◌, ◌*◌, ◌<◌, ◌≤◌, true, cond, ◌&&◌, List, None, Option, ◌==◌, ◌≢◌}
use Rattle.matching.specs.Count.{sum_to, count}
use Rattle.matching.specs.Groups.{Group}
use Rattle.matching.specs.Picks.{place}
use Rattle.matching.specs.Market.{Market, board_of, Laws, OwnLaws, Picked, OwnPicked, own, crowd, offer, over_asked, Calm, Fair}
use Rattle.matching.specs.Log.{Call, settle, State, opened, picks, after, line, settled, presses}
use Rattle.matching.specs.Wishes.{WishNow}

-- the lanes have room for the incumbents: lane l can take any q l of its own incumbents, and over the lanes of a subject these numbers make up at least
-- the incumbents with that main subject
pub record Room (mk : Market) (q : ℕ → ℕ) : Type 0 where
  pub roomy : (l : ℕ) → l < mk.lanes → (g : Group) → ((t : ℕ) → g t ≡ true → (t < mk.teachers) × (own mk t l ≡ true))
      → count g mk.teachers ≤ q l → mk.fits l g ≡ true
  pub enough : (k : ℕ) → count (λ t. mk.incumbent t && mk.main t == k) mk.teachers
      ≤ sum_to (λ l. cond (mk.subject l == k) (q l) 0) mk.lanes

-- by pick lists and cutoffs
module _ (mk : Market) (ps : ℕ → List ℕ) (cut : ℕ → ℕ) where
  -- every teacher's offer is at least as good as what any fair assignment gives
  abbrev pub Best : Type 0
  Best = (μ : ℕ → Option ℕ) → Fair mk ps μ → (t : ℕ) → t < mk.teachers → place (offer (board_of mk) ps cut t) (ps t) ≤ place (μ t) (ps t)

  -- once no lane is over-asked, the offers are a fair assignment
  abbrev pub FairWhenCalm : Type 0
  FairWhenCalm = Calm (board_of mk) ps cut → Fair mk ps (offer (board_of mk) ps cut)

  -- where there is room for the incumbents, no incumbent is without an offer
  abbrev pub IncumbentsKept : Type 0
  IncumbentsKept = (q : ℕ → ℕ) → Room mk q → (t : ℕ) → t < mk.teachers → mk.incumbent t ≡ true → offer (board_of mk) ps cut t ≢ None

  -- cutoffs stay in bounds, and settle ends
  pub record Bounds : Type 0 where
    -- the lowest cutoff is 1, at which every licensed teacher clears the lane
    pub low : (l : ℕ) → l < mk.lanes → 1 ≤ cut l
    -- the highest is 1 more than the licensed teachers are, at which nobody does
    pub high : (l : ℕ) → l < mk.lanes → cut l ≤ suc (crowd mk l)
    -- a budget of lanes times teachers leaves no lane over-asked
    pub ends : (b : ℕ) → mk.lanes * mk.teachers ≤ b → Calm (board_of mk) ps (settled (board_of mk) ps b cut)
    -- the presses of settle are the rise of the cutoffs
    pub counted : (b : ℕ) → sum_to (settled (board_of mk) ps b cut) mk.lanes ≡ sum_to cut mk.lanes + presses (board_of mk) ps b cut
    -- no more presses than the budget, and all of it where a lane is still over-asked
    pub budgeted : (b : ℕ) → presses (board_of mk) ps b cut ≤ b
    pub used : (b l : ℕ) → over_asked (board_of mk) ps (settled (board_of mk) ps b cut) l ≡ true → presses (board_of mk) ps b cut ≡ b

-- what s, the last line of a log, keeps: the log began with the wishes w, and cs are its calls
pub record Promise (mk : Market) (w : ℕ → List ℕ) (cs : List Call) (s : State) : Type 0 where
  -- each teacher's wishes are those of the last accepted wish
  pub wishes : (t : ℕ) → WishNow (board_of mk) w cs t (s.wishes t)
  -- the cutoffs are those that the calls left
  pub cutoffs : s.cuts ≡ (line (board_of mk) (opened w) cs).cuts
  -- by the pick lists and cutoffs of this line
  pub best : Best mk (picks (board_of mk) s) s.cuts
  pub fair : FairWhenCalm mk (picks (board_of mk) s) s.cuts
  pub kept : IncumbentsKept mk (picks (board_of mk) s) s.cuts

-- ---- the statements, of every market, every opening and every list of calls

-- every line of the log keeps the promise, since the calls may be any front of a log
abbrev pub EveryLineKeepsThePromise : Type 0
EveryLineKeepsThePromise = (mk : Market) → Laws mk → OwnLaws mk
    → ((w : ℕ → List ℕ) → Picked mk (λ t. mk.pick t (w t))) → ((w : ℕ → List ℕ) → OwnPicked mk (λ t. mk.pick t (w t)))
    → (w : ℕ → List ℕ) (cs : List Call) → Promise mk w cs (line (board_of mk) (opened w) cs)

-- the same with no law on incumbents and bands, and so with no claim on incumbents
abbrev pub BestAndFairWithoutBands : Type 0
BestAndFairWithoutBands = (mk : Market) → Laws mk → ((w : ℕ → List ℕ) → Picked mk (λ t. mk.pick t (w t)))
    → (w : ℕ → List ℕ) (cs : List Call) → let s = line (board_of mk) (opened w) cs in
    ((t : ℕ) → WishNow (board_of mk) w cs t (s.wishes t)) × Best mk (picks (board_of mk) s) s.cuts × FairWhenCalm mk (picks (board_of mk) s) s.cuts

-- at every line the cutoffs are in bounds, and settle would end
abbrev pub CutoffsStayBounded : Type 0
CutoffsStayBounded = (mk : Market) → Laws mk → (w : ℕ → List ℕ) (cs : List Call) → let s = line (board_of mk) (opened w) cs in Bounds mk (picks (board_of mk) s) s.cuts

-- a settle with a budget of lanes times teachers leaves no lane over-asked; in an ended round it changes nothing, and none is
abbrev pub SettleEnds : Type 0
SettleEnds = (mk : Market) → Laws mk → (w : ℕ → List ℕ) (cs : List Call) (b : ℕ) → mk.lanes * mk.teachers ≤ b
    → let s = after (board_of mk) (line (board_of mk) (opened w) cs) (settle b) in Calm (board_of mk) (picks (board_of mk) s) s.cuts

-- with at most 80 lanes and 200 teachers a budget of 16000 is enough
abbrev pub SixteenThousandSuffice : Type 0
SixteenThousandSuffice = (mk : Market) → Laws mk → mk.lanes ≤ 80 → mk.teachers ≤ 200 → (w : ℕ → List ℕ) (cs : List Call) (b : ℕ) → 16000 ≤ b
    → let s = after (board_of mk) (line (board_of mk) (opened w) cs) (settle b) in Calm (board_of mk) (picks (board_of mk) s) s.cuts

-- once the round is ended no lane is over-asked
abbrev pub PostedIsCalm : Type 0
PostedIsCalm = (mk : Market) (w : ℕ → List ℕ) (cs : List Call) → let s = line (board_of mk) (opened w) cs in s.posted ≡ true → Calm (board_of mk) (picks (board_of mk) s) s.cuts
