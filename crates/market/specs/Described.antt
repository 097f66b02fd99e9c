-- Sheets describe a lawful market, under every standing and every limit that keep their laws. Assumes nothing.
use Rattle.std.specs.Prelude.{◌≡◌, ℕ, ◌≤◌, Bool, true, false, ◌||◌, List, length}
use Rattle.matching.specs.Groups.{Group, nobody, Part}
use Rattle.matching.specs.Market.{Laws, OwnLaws, Picked, OwnPicked}
use Rattle.sheets.specs.Model.{SheetsModel}
use Rattle.sheets.specs.Ranges.{in_range, wish_ok}
use Rattle.market.specs.Tables.{Tables, tables_of, market_of, person_at, pick_of}

-- the two laws of a standing, and the two of a limit
pub record Policies (ahead : ℕ → ℕ → ℕ → Bool) (family : ℕ → Group → Bool) : Type 0 where
  pub one_way : (lane a b : ℕ) → ahead lane a b ≡ true → ahead lane b a ≡ false
  pub between : (lane a b c : ℕ) → ahead lane a b ≡ true → (ahead lane a c || ahead lane c b) ≡ true
  pub empty : (lane : ℕ) → family lane nobody ≡ true
  pub part : (lane : ℕ) (g h : Group) → Part h g → family lane g ≡ true → family lane h ≡ true

-- what the theory asks of a market
pub record Lawful (ahead : ℕ → ℕ → ℕ → Bool) (family : ℕ → Group → Bool) (T : Tables) : Type 0 where
  pub laws : Laws (market_of ahead family T)
  pub own_laws : OwnLaws (market_of ahead family T)
  pub picked : (w : ℕ → List ℕ) → Picked (market_of ahead family T) (λ t. pick_of T.posts (person_at T t) (w t))
  pub own_picked : (w : ℕ → List ℕ) → OwnPicked (market_of ahead family T) (λ t. pick_of T.posts (person_at T t) (w t))

abbrev pub SheetsDescribeALawfulMarket : Type 0
SheetsDescribeALawfulMarket =
    (ahead : ℕ → ℕ → ℕ → Bool) (family : ℕ → Group → Bool) → Policies ahead family
    → (m : SheetsModel) → in_range m ≡ true → Lawful ahead family (tables_of m)

-- a pick list is never longer than the lanes are many
abbrev pub PickListsAreShort : Type 0
PickListsAreShort =
    (T : Tables) (t : ℕ) (w : List ℕ) → wish_ok T.posts.schools w ≡ true → length (pick_of T.posts (person_at T t) w) ≤ length T.posts.lanes
