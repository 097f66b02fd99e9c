-- One line of a sheet. Assumes nothing.
use Rattle.std.specs.Prelude.{ℕ, ◌+◌, cond, ◌&&◌, List, length, take, drop, Some, None, Ok, Err, Option, Result, nat_le, nat_lt}
use Rattle.text.specs.Number.{before}
use Rattle.text.specs.Commas.{numbers}
use Rattle.lines.specs.declared.keys.Key.{Key}
use Rattle.lines.specs.declared.keys.Key.TheVariants.{Schools, Subjects, Lanes, Lane as LaneKey, List as ListKey, Teachers, Home, Main, Also, Wish, Points, Cost}
use Rattle.lines.specs.declared.lines.Line.{Line}
use Rattle.lines.specs.declared.lines.Line.TheVariants.{Head, Lane, Teacher}
use Rattle.lines.specs.declared.faults.Fault.{Fault}
use Rattle.lines.specs.declared.faults.FaultKind.TheVariants.{Unended, WrongKey, Malformed}
use Rattle.lines.specs.declared.faults.Spot.{Spot}
use Rattle.lines.specs.Keys.{after, key_bytes}
use Rattle.lines.specs.Faults.{fault, bind}

-- a line by its kind, with the bytes of its value and their place in the sheet
pub data Shape : Type 0 where
  head lane teacher : List ℕ → ℕ → Shape

abbrev pub shape : Line → Shape
shape (Head v p) = head v.now p
shape (Lane v p) = lane v.now p
shape (Teacher v p) = teacher v.now p

abbrev pub value_of : Shape → List ℕ
value_of (head v p) = v
value_of (lane v p) = v
value_of (teacher v p) = v

abbrev pub place_of : Shape → ℕ
place_of (head v p) = p
place_of (lane v p) = p
place_of (teacher v p) = p

-- counts head a sheet, two lines tell a lane, and six a teacher
abbrev pub shaped : Key → List ℕ → ℕ → Shape
shaped Schools = head
shaped Subjects = head
shaped Lanes = head
shaped Teachers = head
shaped LaneKey = lane
shaped ListKey = lane
shaped Home = teacher
shaped Main = teacher
shaped Also = teacher
shaped Wish = teacher
shaped Points = teacher
shaped Cost = teacher

-- the bytes before the first byte 10, which has to be there
abbrev pub first_line : List ℕ → Spot → Result (List ℕ) Fault
first_line rest s = cond (nat_lt (before 10 rest) (length rest)) (Ok (take (before 10 rest) rest)) (Err (fault s Unended))

abbrev pub line_at : List ℕ → Spot → Result (List ℕ) Fault
line_at bs s = first_line (drop s.place bs) s

-- the line as one with the due key
abbrev pub keyed : Key → Spot → Option (List ℕ) → Result Shape Fault
keyed k s None = Err (fault s WrongKey)
keyed k s (Some v) = Ok (shaped k v (s.place + length (key_bytes k)))

-- the line at the spot, of which the due key is known: does it end, and does it begin with that key?
abbrev pub line_of : Key → List ℕ → Spot → Result Shape Fault
line_of k bs s = bind (line_at bs s) (λ l. keyed k s (after (key_bytes k) l))

-- from `least` to `most` numbers
abbrev pub counted : ℕ → ℕ → Spot → Option (List ℕ) → Result (List ℕ) Fault
counted least most s None = Err (fault s Malformed)
counted least most s (Some ns) = cond (nat_le least (length ns) && nat_le (length ns) most) (Ok ns) (Err (fault s Malformed))

-- the numbers of the line, and the place behind the line and its end
abbrev pub field : Key → ℕ → ℕ → List ℕ → Spot → Result (List ℕ × ℕ) Fault
field k least most bs s =
    bind (line_of k bs s) (λ x. bind (counted least most s (numbers (value_of x))) (λ ns. Ok (ns, place_of x + length (value_of x) + 1)))
