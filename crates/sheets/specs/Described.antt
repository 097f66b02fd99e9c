-- The format is canonical: two sheets describe at most one model, and each model within its ranges is described by exactly one pair of
-- sheets, the one that is written of it. Assumes nothing.
use Rattle.std.specs.Prelude.{◌≡◌, ℕ, ◌≤◌, true, List, length, Ok}
use Rattle.sheets.specs.Model.{SheetsModel}
use Rattle.sheets.specs.Ranges.{in_range}
use Rattle.sheets.specs.Read.{sheets_of}
use Rattle.sheets.specs.Written.{posts_bytes, staff_bytes}

-- the pair of sheets describes the model
pub record Describes (posts staff : List ℕ) (m : SheetsModel) : Type 0 where
  pub ranges : in_range m ≡ true
  pub posts_sheet : posts ≡ posts_bytes m.posts
  pub staff_sheet : staff ≡ staff_bytes m.teachers

-- the pair of sheets describes no model
abbrev pub Undescribed : List ℕ → List ℕ → Type 0
Undescribed posts staff = (m : SheetsModel) → Describes posts staff m → ⊥

-- what is read is what the sheets describe, and nothing else is read
pub record Canonical : Type 0 where
  pub read_is_described : (posts staff : List ℕ) (m : SheetsModel) → sheets_of posts staff ≡ Ok m → Describes posts staff m
  pub described_is_read : (posts staff : List ℕ) (m : SheetsModel) → Describes posts staff m → sheets_of posts staff ≡ Ok m
  -- a model within its ranges never writes more than a sheet may have
  pub short : (m : SheetsModel) → in_range m ≡ true → (length (posts_bytes m.posts) ≤ 30000) × (length (staff_bytes m.teachers) ≤ 30000)
