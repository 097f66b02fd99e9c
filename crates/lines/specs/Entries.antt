-- The numbers of a line: their ranges and their order. Assumes nothing.
use Rattle.std.specs.Prelude.{ℕ, Bool, true, false, cond, not, ◌&&◌, ◌||◌, List, [], ◌∷◌, Ok, Err, Result, ◌==◌, nat_le, nat_lt, slice_index}
use Rattle.lines.specs.declared.keys.Key.{Key}
use Rattle.lines.specs.declared.keys.Key.TheVariants.{Also}
use Rattle.lines.specs.declared.faults.Fault.{Fault}
use Rattle.lines.specs.declared.faults.FaultKind.TheVariants.{OutOfRange, Disordered}
use Rattle.lines.specs.declared.faults.Spot.{Spot}
use Rattle.lines.specs.Faults.{fault, bind}
use Rattle.lines.specs.Lines.{field}

-- n is from low to high
abbrev pub within : ℕ → ℕ → ℕ → Bool
within low high n = nat_le low n && nat_le n high

-- every number is from low to high
abbrev pub all_within : ℕ → ℕ → List ℕ → Bool
all_within low high [] = true
all_within low high (n ∷ ns) = within low high n && all_within low high ns

-- x is one of the numbers
abbrev pub has : ℕ → List ℕ → Bool
has x [] = false
has x (n ∷ ns) = n == x || has x ns

-- no number comes twice
abbrev pub distinct : List ℕ → Bool
distinct [] = true
distinct (n ∷ ns) = not (has n ns) && distinct ns

-- each is above the one before it, and the first above the bound
abbrev pub above : ℕ → List ℕ → Bool
above b [] = true
above b (n ∷ ns) = nat_lt b n && above n ns

-- further licences rise and are without the main subject
abbrev pub further : ℕ → List ℕ → Bool
further main ns = above 0 ns && not (has main ns)

-- a line with one number in its range
abbrev pub single : Key → ℕ → ℕ → List ℕ → Spot → Result (ℕ × ℕ) Fault
single k low high bs s =
    bind (field k 1 1 bs s) (λ p. cond (within low high (slice_index p.0 0)) (Ok (slice_index p.0 0, p.1)) (Err (fault s OutOfRange)))

-- a line with up to `most` numbers, each from 1 on
abbrev pub ranged : Key → ℕ → ℕ → List ℕ → Spot → Result (List ℕ × ℕ) Fault
ranged k most high bs s = bind (field k 0 most bs s) (λ p. cond (all_within 1 high p.0) (Ok p) (Err (fault s OutOfRange)))

-- the same without repeats
abbrev pub unrepeated : Key → ℕ → ℕ → List ℕ → Spot → Result (List ℕ × ℕ) Fault
unrepeated k most high bs s = bind (ranged k most high bs s) (λ p. cond (distinct p.0) (Ok p) (Err (fault s Disordered)))

-- the line of further licences
abbrev pub licences : ℕ → ℕ → List ℕ → Spot → Result (List ℕ × ℕ) Fault
licences main high bs s = bind (ranged Also 9 high bs s) (λ p. cond (further main p.0) (Ok p) (Err (fault s Disordered)))
