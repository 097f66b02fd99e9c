-- The posts sheet, as read. Assumes nothing.
use Rattle.std.specs.Prelude.{ℕ, ◌+◌, ◌*◌, Bool, false, cond, ◌&&◌, ◌||◌, List, [], ◌∷◌, length, Ok, Err, Result, ◌==◌, nat_le, slice_index}
use Rattle.lines.specs.declared.keys.Key.TheVariants.{Schools, Subjects, Lanes, Lane as LaneKey, List as ListKey}
use Rattle.lines.specs.declared.faults.Fault.{Fault}
use Rattle.lines.specs.declared.faults.FaultKind.TheVariants.{TooLong, OutOfRange, PairTaken, Trailing}
use Rattle.lines.specs.declared.faults.Spot.{Spot}
use Rattle.lines.specs.Faults.{fault, bind}
use Rattle.lines.specs.Lines.{field}
use Rattle.lines.specs.Entries.{within, single, unrepeated}
use Rattle.sheets.specs.Model.{LaneRecord, PostsModel}
use Rattle.sheets.specs.Records.{repeat}

-- line l of the posts sheet, which begins at place p
abbrev pub posts_spot : ℕ → ℕ → Spot
posts_spot l p = record { sheet = 1; line = l; place = p }

-- one of the lanes has this school and subject
abbrev pub taken : ℕ → ℕ → List LaneRecord → Bool
taken school subject [] = false
taken school subject (t ∷ ts) = (t.school == school && t.subject == subject) || taken school subject ts

-- school, subject and size of a lane in their ranges
abbrev pub lane_within : ℕ → ℕ → ℕ → ℕ → ℕ → Bool
lane_within schools subjects school subject size = within 1 schools school && (within 1 subjects subject && nat_le size 60000)

-- the lane line: three numbers in their ranges, of which the first two are a new pair
abbrev pub lane_line : ℕ → ℕ → List ℕ → List LaneRecord → Spot → Result (List ℕ × ℕ) Fault
lane_line schools subjects bs done s =
    bind (field LaneKey 3 3 bs s) (λ p.
    cond (lane_within schools subjects (slice_index p.0 0) (slice_index p.0 1) (slice_index p.0 2))
    (cond (taken (slice_index p.0 0) (slice_index p.0 1) done) (Err (fault s PairTaken)) (Ok p))
    (Err (fault s OutOfRange)))

-- the two lines of a lane, from line l and place p on, and the place behind them
abbrev pub lane : ℕ → ℕ → List ℕ → List LaneRecord → ℕ → ℕ → Result (LaneRecord × ℕ) Fault
lane schools subjects bs done l p =
    bind (lane_line schools subjects bs done (posts_spot l p)) (λ a.
    bind (unrepeated ListKey 20 200 bs (posts_spot (l + 1) a.1)) (λ b.
    Ok (record { school = slice_index a.0 0; subject = slice_index a.0 1; size = slice_index a.0 2; list = b.0 }, b.1)))

-- n lanes from line 4 and place p on, and the place behind them
abbrev pub lanes : ℕ → ℕ → ℕ → List ℕ → ℕ → Result (List LaneRecord × ℕ) Fault
lanes n schools subjects bs p = repeat (lane schools subjects bs) 2 n [] 4 p

-- behind the last line, at line l, the sheet ends
abbrev pub posts_end : ℕ → ℕ → ℕ → List ℕ → List LaneRecord × ℕ → Result PostsModel Fault
posts_end schools subjects l bs r =
    cond (r.1 == length bs) (Ok (record { schools = schools; subjects = subjects; lanes = r.0 })) (Err (fault (posts_spot l r.1) Trailing))

-- the posts sheet, or what is first wrong with it
abbrev pub posts_of : List ℕ → Result PostsModel Fault
posts_of bs =
    cond (nat_le (length bs) 30000)
    (bind (single Schools 1 30 bs (posts_spot 1 0)) (λ s.
    bind (single Subjects 1 10 bs (posts_spot 2 s.1)) (λ j.
    bind (single Lanes 1 80 bs (posts_spot 3 j.1)) (λ n.
    bind (lanes n.0 s.0 j.0 bs n.1) (posts_end s.0 j.0 (4 + 2 * n.0) bs)))))
    (Err (fault (posts_spot 0 0) TooLong))
