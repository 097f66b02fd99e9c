-- In whatever order over-asked lanes are pressed, the end is the same. Assumes nothing.
use Rattle.std.specs.Prelude.{◌≡◌, ℕ, ◌≤◌, Bool, true, List}
use Rattle.matching.specs.Market.{Market, Board, board_of, Laws, over_asked, Calm}
use Rattle.matching.specs.Log.{raise}

-- raises of over-asked lanes, one or more at a time, lead from the first cutoffs to the second
pub data Leads (bd : Board) (ps : ℕ → List ℕ) : (ℕ → ℕ) → (ℕ → ℕ) → Type 0 where
  stop : {c : ℕ → ℕ} → Leads bd ps c c
  more : {c d : ℕ → ℕ} (p : ℕ → Bool) → ((l : ℕ) → p l ≡ true → over_asked bd ps c l ≡ true) → Leads bd ps (raise p c) d → Leads bd ps c d

-- no press passes the cutoffs of any table above the start with no lane over-asked
abbrev pub PressesStayLowest : Type 0
PressesStayLowest = (mk : Market) → Laws mk → (ps : ℕ → List ℕ) (c d e : ℕ → ℕ) → Leads (board_of mk) ps c d
    → ((l : ℕ) → c l ≤ e l) → Calm (board_of mk) ps e → (l : ℕ) → d l ≤ e l

-- two runs of presses from one start that both end with no lane over-asked end with the same cutoffs
abbrev pub PressesEndAlike : Type 0
PressesEndAlike = (mk : Market) → Laws mk → (ps : ℕ → List ℕ) (c d e : ℕ → ℕ) → Leads (board_of mk) ps c d → Calm (board_of mk) ps d → Leads (board_of mk) ps c e → Calm (board_of mk) ps e → d ≡ e
