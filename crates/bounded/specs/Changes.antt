-- An item that is changed where it stands. Assumes nothing.
use Rattle.std.specs.Prelude.{◌≡◌, ℕ, List, slice_index_or, slice_set}

-- what a call gives for an item and leaves of it; the item at the place is what the call left, and the others stay
abbrev pub Changes : {T : Type 0} → (T → Unit {0} → T → Type 0) → List T → ℕ → List T → Type 0
Changes leaves old at new = (x : _) × (y : _) × (slice_index_or old at x ≡ x) × leaves x tt y × (new ≡ slice_set old at y)
