-- How many bytes the sheets of a model within its ranges have.
use Rattle.std.proofs.Common.{◌≡◌, ℕ, ◌+◌, ◌*◌, ◌<◌, ◌≤◌, Bool, true, ◌&&◌, leb, List, [], ◌∷◌, length, decimal, mul-le-mul_left, arith, lit<, length-append}
use Rattle.std.specs.List.{AllByRecursion as All}
use Rattle.std.proofs.lemmas.Bool.{and_parts, leb-true}
use Rattle.std.proofs.lemmas.Fmt.{length-decimal-le}
use Rattle.text.specs.Commas.{commas}
use Rattle.lines.specs.declared.keys.Key.{Key}
use Rattle.lines.specs.declared.keys.Key.TheVariants.{Schools, Subjects, Lanes, Lane as LaneKey, List as ListKey, Teachers, Home, Main, Also, Wish, Points, Cost}
use Rattle.lines.specs.Keys.{key_bytes}
use Rattle.lines.specs.Entries.{within, all_within, distinct, further}
use Rattle.lines.specs.Written.{line}
use Rattle.lines.proofs.CanonEntries.{within_high}
use Rattle.sheets.specs.Model.{LaneRecord, TeacherRecord, PostsModel}
use Rattle.sheets.specs.Posts.{lane_within}
use Rattle.sheets.specs.Ranges.{every, few_within, lane_ok, apart, posts_ok, teacher_ok, staff_ok}
use Rattle.sheets.specs.Written.{written_each, lane_bytes, teacher_bytes, posts_bytes, staff_bytes}

-- a number takes fewer than c bytes, so c with the comma
abbrev Short : ℕ → ℕ → Type 0
Short c n = length (decimal n) < c

two_digits : (n : ℕ) → n ≤ 30 → Short 3 n
two_digits n h = omega (arith, length-decimal-le 2 n (lit< tt) (omega arith) (omega arith))

three_digits : (n : ℕ) → n ≤ 200 → Short 4 n
three_digits n h = omega (arith, length-decimal-le 3 n (lit< tt) (omega arith) (omega arith))

five_digits : (n : ℕ) → n ≤ 65535 → Short 6 n
five_digits n h = omega (arith, length-decimal-le 5 n (lit< tt) (omega arith) (omega arith))

commas_le : (c : ℕ) (ns : List ℕ) → All (Short c) ns → length (commas ns) ≤ c * length ns
commas_le c [] h = omega arith
commas_le c (n ∷ []) h = omega (arith, h.0)
commas_le c (n ∷ m ∷ ns) h = omega (arith, h.0, length-append (decimal n) (44 ∷ commas (m ∷ ns)), commas_le c (m ∷ ns) h.1)

line_le : (k : Key) (c most : ℕ) (ns : List ℕ) → All (Short c) ns → length ns ≤ most → length (line k ns) ≤ length (key_bytes k) + c * most + 1
line_le k c most ns h l = simp length-append (omega (arith, commas_le c ns h, mul-le-mul_left c l))

-- each of at most `most` numbers is short
few_short : (most high c : ℕ) → ((n : ℕ) → n ≤ high → Short c n) → (k : Key) (ns : List ℕ) → few_within most high ns ≡ true → length (line k ns) ≤ length (key_bytes k) + c * most + 1
few_short most high c short k ns h =
    let p = and_parts (leb (length ns) most) (all_within 1 high ns) h in
    line_le k c most ns (all ns p.1) (leb-true (length ns) most p.0)
  where
    all : (ns : List ℕ) → all_within 1 high ns ≡ true → All (Short c) ns
    all [] h = tt
    all (n ∷ ns) h = let p = and_parts (within 1 high n) (all_within 1 high ns) h in (short n (within_high 1 high n p.0), all ns p.1)

one_short : (c : ℕ) (k : Key) (n : ℕ) → Short c n → length (line k (n ∷ [])) ≤ length (key_bytes k) + c * 1 + 1
one_short c k n h = line_le k c 1 (n ∷ []) (h, tt) (omega arith)

each_le : {A : Type 0} (f : A → List ℕ) (ok : A → Bool) (b : ℕ) → ((x : A) → ok x ≡ true → length (f x) ≤ b) → (xs : List A) → every ok xs ≡ true → length (written_each f xs) ≤ b * length xs
each_le f ok b short [] h = omega arith
each_le f ok b short (x ∷ xs) h =
    let p = and_parts (ok x) (every ok xs) h in
    omega (arith, short x p.0, length-append (f x) (written_each f xs), each_le f ok b short xs p.1)

module _ (schools subjects : ℕ) (few : schools ≤ 30) (fewer : subjects ≤ 10) where
  lane_short : (l : LaneRecord) → lane_ok schools subjects l ≡ true → length (lane_bytes l) ≤ 110
  lane_short l v =
      let h = and_parts (lane_within schools subjects l.school l.subject l.size) (few_within 20 200 l.list && distinct l.list) v in
      let g = and_parts (few_within 20 200 l.list) (distinct l.list) h.1 in
      let a = and_parts (within 1 schools l.school) (within 1 subjects l.subject && leb l.size 60000) h.0 in
      let b = and_parts (within 1 subjects l.subject) (leb l.size 60000) a.1 in
      let x = five_digits l.school (omega (arith, within_high 1 schools l.school a.0)) in
      let y = five_digits l.subject (omega (arith, within_high 1 subjects l.subject b.0)) in
      let z = five_digits l.size (omega (arith, leb-true l.size 60000 b.1)) in
      let first = line_le LaneKey 6 3 (l.school ∷ l.subject ∷ l.size ∷ []) (x, (y, (z, tt))) (omega arith) in
      let second = few_short 20 200 4 three_digits ListKey l.list g.0 in
      omega (arith, length-append (line LaneKey (l.school ∷ l.subject ∷ l.size ∷ [])) (line ListKey l.list))

  teacher_short : (t : TeacherRecord) → teacher_ok schools subjects t ≡ true → length (teacher_bytes t) ≤ 120
  teacher_short t v =
      let h1 = and_parts (leb t.home schools) _ v in
      let h2 = and_parts (within 1 subjects t.main) _ h1.1 in
      let h3 = and_parts (few_within 9 subjects t.also) _ h2.1 in
      let h4 = and_parts (further t.main t.also) _ h3.1 in
      let h5 = and_parts (few_within 12 schools t.wish) _ h4.1 in
      let h6 = and_parts (distinct t.wish) _ h5.1 in
      let h7 = and_parts (leb t.points 65535) (leb t.cost 100) h6.1 in
      let l1 = one_short 3 Home t.home (two_digits t.home (omega (arith, leb-true t.home schools h1.0))) in
      let l2 = one_short 3 Main t.main (two_digits t.main (omega (arith, within_high 1 subjects t.main h2.0))) in
      let l3 = few_short 9 subjects 3 (λ n l. two_digits n (omega arith)) Also t.also h3.0 in
      let l4 = few_short 12 schools 3 (λ n l. two_digits n (omega arith)) Wish t.wish h5.0 in
      let l5 = one_short 6 Points t.points (five_digits t.points (leb-true t.points 65535 h7.0)) in
      let l6 = one_short 4 Cost t.cost (three_digits t.cost (omega (arith, leb-true t.cost 100 h7.1))) in
      simp length-append (omega (arith, simp length-append at l1, simp length-append at l2, simp length-append at l3, simp length-append at l4, simp length-append at l5, simp length-append at l6))

  pub staff_short : (ts : List TeacherRecord) → staff_ok schools subjects ts ≡ true → length (staff_bytes ts) ≤ 30000
  staff_short ts v =
      let h = and_parts (within 1 200 (length ts)) (every (teacher_ok schools subjects) ts) v in
      let n = within_high 1 200 (length ts) h.0 in
      let a = one_short 4 Teachers (length ts) (three_digits (length ts) n) in
      let b = each_le teacher_bytes (teacher_ok schools subjects) 120 teacher_short ts h.1 in
      omega (arith, length-append (line Teachers (length ts ∷ [])) (written_each teacher_bytes ts))

-- the counts of a posts sheet
pub few_schools : (m : PostsModel) → posts_ok m ≡ true → m.schools ≤ 30
few_schools m v = within_high 1 30 m.schools (and_parts (within 1 30 m.schools) _ v).0

pub few_subjects : (m : PostsModel) → posts_ok m ≡ true → m.subjects ≤ 10
few_subjects m v = within_high 1 10 m.subjects (and_parts (within 1 10 m.subjects) _ (and_parts (within 1 30 m.schools) _ v).1).0

pub posts_short : (m : PostsModel) → posts_ok m ≡ true → length (posts_bytes m) ≤ 30000
posts_short m v =
    let h1 = and_parts (within 1 30 m.schools) _ v in
    let h2 = and_parts (within 1 10 m.subjects) _ h1.1 in
    let h3 = and_parts (within 1 80 (length m.lanes)) _ h2.1 in
    let h4 = and_parts (every (lane_ok m.schools m.subjects) m.lanes) (apart m.lanes) h3.1 in
    let n = within_high 1 80 (length m.lanes) h3.0 in
    let s = few_schools m v in
    let j = few_subjects m v in
    let a = one_short 3 Schools m.schools (two_digits m.schools s) in
    let b = one_short 3 Subjects m.subjects (two_digits m.subjects (omega arith)) in
    let c = one_short 4 Lanes (length m.lanes) (three_digits (length m.lanes) (omega arith)) in
    let d = each_le lane_bytes (lane_ok m.schools m.subjects) 110 (lane_short m.schools m.subjects s j) m.lanes h4.0 in
    simp length-append (omega (arith, simp length-append at a, simp length-append at b, simp length-append at c))
