-- The posts sheet: what is read is what is written.
use Rattle.std.proofs.Common.{◌≡◌, ℕ, ◌+◌, ◌*◌, ◌^◌, ◌<◌, ◌≤◌, Bool, true, false, cond, ◌&&◌, leb, List, [], ◌∷◌, ◌++◌, length, get_or, Ok, Err, Result, sym, refl, ap, ◌∙◌, subst, ap₂, arith}
use Rattle.std.proofs.lemmas.Bool.{and_parts, and_from, leb-true}
use Rattle.lines.specs.declared.keys.Key.TheVariants.{Schools, Subjects, Lanes, Lane as LaneKey, List as ListKey}
use Rattle.lines.specs.declared.faults.Fault.{Fault}
use Rattle.lines.specs.declared.faults.FaultKind.TheVariants.{TooLong, OutOfRange, PairTaken, Trailing}
use Rattle.lines.specs.declared.faults.Spot.{Spot}
use Rattle.lines.specs.Faults.{fault, bind}
use Rattle.lines.specs.Entries.{within, distinct, single, unrepeated}
use Rattle.lines.specs.Written.{line}
use Rattle.lines.proofs.Readers.{Reads, Ends, ok_same, alike, mapped, followed, ended, followed_to_end, sheet_to, sheet_from}
use Rattle.lines.proofs.Canon.{Fits, field_reads}
use Rattle.lines.proofs.CanonEntries.{within_high, single_reads, unrepeated_reads}
use Rattle.sheets.specs.Model.{LaneRecord, PostsModel}
use Rattle.sheets.specs.Posts.{posts_spot, taken, lane_within, lane_line, lane, lanes, posts_end, posts_of}
use Rattle.sheets.specs.Written.{written_each, lane_bytes, posts_bytes}
use Rattle.sheets.specs.Ranges.{few_within, lane_ok, posts_ok}
use Rattle.sheets.proofs.CanonRecords.{Each, each_every, every_each, each_parts, each_both, repeat_reads}
use Rattle.sheets.proofs.Pairs.{Fresh, fresh_apart, apart_fresh}

three_only : (ns : List ℕ) → Fits 3 3 ns → get_or ns 0 0 ∷ get_or ns 1 0 ∷ get_or ns 2 0 ∷ [] ≡ ns
three_only [] h = absurd (omega arith)
three_only (a ∷ []) h = absurd (omega arith)
three_only (a ∷ b ∷ []) h = absurd (omega arith)
three_only (a ∷ b ∷ c ∷ []) h = refl
three_only (a ∷ b ∷ c ∷ d ∷ ns) h = absurd (omega arith)

-- both tests of the lane line
two_tests : {B : Type 0} (t u : Bool) (x y : B) (d e : Fault) → cond t (cond u (Err d) (Ok x)) (Err e) ≡ Ok y → (t ≡ true) × ((u ≡ false) × (x ≡ y))
two_tests true true x y d e h = absurd (grind arith)
two_tests true false x y d e h = (refl, (refl, ok_same x y h))
two_tests false u x y d e h = absurd (grind arith)

-- the numbers of the lane line
abbrev head : LaneRecord → List ℕ
head l = l.school ∷ l.subject ∷ l.size ∷ []

abbrev made : List ℕ → List ℕ → LaneRecord
made ns ms = record { school = get_or ns 0 0; subject = get_or ns 1 0; size = get_or ns 2 0; list = ms }

module _ (schools subjects : ℕ) (few : schools < 2 ^ 16) (fewer : subjects < 2 ^ 16) (bs : List ℕ) (done : List LaneRecord) where
  -- what the lane line's tests ask
  abbrev Tested : List ℕ → Type 0
  Tested ns = (lane_within schools subjects (get_or ns 0 0) (get_or ns 1 0) (get_or ns 2 0) ≡ true) × (taken (get_or ns 0 0) (get_or ns 1 0) done ≡ false)

  line_reads : (s : Spot) → Reads bs s.place (lane_line schools subjects bs done s) (line LaneKey) (λ ns. Fits 3 3 ns × Tested ns)
  line_reads s =
      mapped (field_reads LaneKey 3 3 bs s) (λ p. cond (lane_within schools subjects (get_or p.0 0 0) (get_or p.0 1 0) (get_or p.0 2 0)) (cond (taken (get_or p.0 0 0) (get_or p.0 1 0) done) (Err (fault s PairTaken)) (Ok p)) (Err (fault s OutOfRange))) (λ ns. ns) Tested
      (λ ns q ms n v e.
      let z = two_tests (lane_within schools subjects (get_or ns 0 0) (get_or ns 1 0) (get_or ns 2 0)) (taken (get_or ns 0 0) (get_or ns 1 0) done) (ns, q) (ms, n) (fault s PairTaken) (fault s OutOfRange) e in
      let same : ns ≡ ms = ap (λ x. x.0) z.1.1 in
      (same, (ap (λ x. x.1) z.1.1, subst Tested same (z.0, z.1.0))))
      (λ ns q v t. ap₂ (λ a b. cond a (cond b (Err (fault s PairTaken)) (Ok (ns, q))) (Err (fault s OutOfRange))) t.0 t.1)

  -- what the two lines of a lane say, the second first
  abbrev V2 : List ℕ → LaneRecord → Type 0
  V2 ns l = ((few_within 20 200 l.list ≡ true) × (distinct l.list ≡ true)) × (l ≡ made ns l.list)

  abbrev V1 : LaneRecord → Type 0
  V1 l = (Fits 3 3 (head l) × Tested (head l)) × V2 (head l) l

  -- the reading of the second line
  abbrev R2 : ℕ → List ℕ → ℕ → Result (LaneRecord × ℕ) Fault
  R2 l ns p = bind (unrepeated ListKey 20 200 bs (posts_spot (l + 1) p)) (λ b. Ok (made ns b.0, b.1))

  reads2 : (l : ℕ) (ns : List ℕ) (p : ℕ) → Reads bs p (R2 l ns p) (λ x. line ListKey x.list) (V2 ns)
  reads2 l ns p =
      mapped (unrepeated_reads ListKey bs (posts_spot (l + 1) p) 20 200 (omega arith)) (λ b. Ok (made ns b.0, b.1)) (λ x. x.list) (λ x. x ≡ made ns x.list)
      (λ ms o x n v e.
      let same = ok_same (made ns ms, o) (x, n) e in
      let is : made ns ms ≡ x = ap (λ z. z.0) same in
      let m : ms ≡ x.list = ap (λ (z : LaneRecord). z.list) is in
      (m, (ap (λ z. z.1) same, sym is ∙ ap (made ns) m)))
      (λ x o v is. ap (λ z. Ok (z, o)) (sym is))

  reads1 : (l p : ℕ) → Reads bs p (lane schools subjects bs done l p) lane_bytes V1
  reads1 l p =
      followed (line_reads (posts_spot l p)) (λ a. R2 l a.0 a.1) head (λ x. line ListKey x.list) V2
      (λ ns x v u. ap head u.1 ∙ three_only ns v.0)
      (λ ns q v. reads2 l ns q)

  -- a lane within the ranges whose pair is new
  abbrev pub Sound : LaneRecord → Type 0
  Sound l = (lane_ok schools subjects l ≡ true) × Fresh done l

  valid_ok : (l : LaneRecord) → V1 l → Sound l
  valid_ok l v = (and_from _ _ v.0.1.0 (and_from _ _ v.1.0.0 v.1.0.1), v.0.1.1)

  ok_valid : (l : LaneRecord) → Sound l → V1 l
  ok_valid l v =
      let h = and_parts (lane_within schools subjects l.school l.subject l.size) (few_within 20 200 l.list && distinct l.list) v.0 in
      let g = and_parts (few_within 20 200 l.list) (distinct l.list) h.1 in
      let a = and_parts (within 1 schools l.school) (within 1 subjects l.subject && leb l.size 60000) h.0 in
      let b = and_parts (within 1 subjects l.subject) (leb l.size 60000) a.1 in
      let x = within_high 1 schools l.school a.0 in
      let y = within_high 1 subjects l.subject b.0 in
      let z = leb-true l.size 60000 b.1 in
      ((record { low = omega arith; high = omega arith; small = (omega arith, (omega arith, (omega arith, tt))) }, (h.0, v.1)), (g, refl))

  pub lane_reads : (l p : ℕ) → Reads bs p (lane schools subjects bs done l p) lane_bytes Sound
  lane_reads l p = alike Sound valid_ok ok_valid (reads1 l p)

abbrev whole : ℕ → ℕ → List LaneRecord → PostsModel
whole s j ls = record { schools = s; subjects = j; lanes = ls }

-- what the lanes and the three lines before them say, the last first
abbrev Told4 : ℕ → ℕ → ℕ → PostsModel → Type 0
Told4 s j n m = (Each (λ done l. (lane_ok s j l ≡ true) × Fresh done l) [] m.lanes × (length m.lanes ≡ n)) × (whole s j m.lanes ≡ m)

abbrev Told3 : ℕ → ℕ → PostsModel → Type 0
Told3 s j m = (within 1 80 (length m.lanes) ≡ true) × Told4 s j (length m.lanes) m

abbrev Told2 : ℕ → PostsModel → Type 0
Told2 s m = (within 1 10 m.subjects ≡ true) × Told3 s m.subjects m

abbrev Told : PostsModel → Type 0
Told m = (within 1 30 m.schools ≡ true) × Told2 m.schools m

-- what is written of a posts sheet, from each part on
abbrev W4 : PostsModel → List ℕ
W4 m = written_each lane_bytes m.lanes

abbrev W3 : PostsModel → List ℕ
W3 m = line Lanes (length m.lanes ∷ []) ++ W4 m

abbrev W2 : PostsModel → List ℕ
W2 m = line Subjects (m.subjects ∷ []) ++ W3 m

module _ (bs : List ℕ) where
  -- the rest of the reading, from each part on
  abbrev B4 : ℕ → ℕ → ℕ → ℕ → Result PostsModel Fault
  B4 s j n p = bind (lanes n s j bs p) (posts_end s j (4 + 2 * n) bs)

  abbrev B3 : ℕ → ℕ → ℕ → Result PostsModel Fault
  B3 s j p = bind (single Lanes 1 80 bs (posts_spot 3 p)) (λ n. B4 s j n.0 n.1)

  abbrev B2 : ℕ → ℕ → Result PostsModel Fault
  B2 s p = bind (single Subjects 1 10 bs (posts_spot 2 p)) (λ j. B3 s j.0 j.1)

  abbrev B1 : Result PostsModel Fault
  B1 = bind (single Schools 1 30 bs (posts_spot 1 0)) (λ s. B2 s.0 s.1)

  ends4 : (s j n p : ℕ) → s < 2 ^ 16 → j < 2 ^ 16 → Ends bs p (B4 s j n p) W4 (Told4 s j n)
  ends4 s j n p a b =
      ended (repeat_reads bs (lane s j bs) 2 lane_bytes (λ done l. (lane_ok s j l ≡ true) × Fresh done l) (λ done. lane_reads s j a b bs done) n 4 p) (λ r. fault (posts_spot (4 + 2 * n) r.1) Trailing) (whole s j) (λ m. m.lanes) (λ ls. refl)

  ends3 : (s j p : ℕ) → s < 2 ^ 16 → j < 2 ^ 16 → Ends bs p (B3 s j p) W3 (Told3 s j)
  ends3 s j p a b =
      followed_to_end (single_reads Lanes bs (posts_spot 3 p) 1 80 (omega arith)) (λ n. B4 s j n.0 n.1) (λ m. length m.lanes) W4 (Told4 s j)
      (λ n m v u. u.0.1)
      (λ n q v. ends4 s j n q a b)

  ends2 : (s p : ℕ) → s < 2 ^ 16 → Ends bs p (B2 s p) W2 (Told2 s)
  ends2 s p a =
      followed_to_end (single_reads Subjects bs (posts_spot 2 p) 1 10 (omega arith)) (λ j. B3 s j.0 j.1) (λ m. m.subjects) W3 (Told3 s)
      (λ j m v u. ap (λ (x : PostsModel). x.subjects) (sym u.1.1))
      (λ j q v. ends3 s j q a (omega (arith, within_high 1 10 j v)))

  ends1 : Ends bs 0 B1 posts_bytes Told
  ends1 =
      followed_to_end (single_reads Schools bs (posts_spot 1 0) 1 30 (omega arith)) (λ s. B2 s.0 s.1) (λ m. m.schools) W2 Told2
      (λ s m v u. ap (λ (x : PostsModel). x.schools) (sym u.1.1.1))
      (λ s q v. ends2 s q (omega (arith, within_high 1 30 s v)))

  told_ok : (m : PostsModel) → Told m → posts_ok m ≡ true
  told_ok m v =
      let v3 = v.1.1 in
      let e = each_parts (λ done l. lane_ok m.schools m.subjects l ≡ true) Fresh [] m.lanes v3.1.0.0 in
      and_from _ _ v.0 (and_from _ _ v.1.0 (and_from _ _ v3.0 (and_from _ _ (each_every (lane_ok m.schools m.subjects) [] m.lanes e.0) (fresh_apart m.lanes e.1))))

  ok_told : (m : PostsModel) → posts_ok m ≡ true → Told m
  ok_told m h =
      let h1 = and_parts _ _ h in
      let h2 = and_parts _ _ h1.1 in
      let h3 = and_parts _ _ h2.1 in
      let h4 = and_parts _ _ h3.1 in
      let e = each_both (λ done l. lane_ok m.schools m.subjects l ≡ true) Fresh [] m.lanes (every_each (lane_ok m.schools m.subjects) [] m.lanes h4.0) (apart_fresh m.lanes h4.1) in
      (h1.0, (h2.0, (h3.0, ((e, refl), refl))))

  pub posts_to : (m : PostsModel) → posts_of bs ≡ Ok m → (posts_ok m ≡ true) × (bs ≡ posts_bytes m)
  posts_to m e = let h = sheet_to ends1 30000 (fault (posts_spot 0 0) TooLong) m e in (told_ok m h.0, h.1)

  pub posts_from : (m : PostsModel) → length bs ≤ 30000 → posts_ok m ≡ true → bs ≡ posts_bytes m → posts_of bs ≡ Ok m
  posts_from m l v e = sheet_from ends1 30000 (fault (posts_spot 0 0) TooLong) m l (ok_told m v) e
