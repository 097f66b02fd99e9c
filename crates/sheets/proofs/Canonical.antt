-- The format is canonical.
use Rattle.std.proofs.Common.{◌≡◌, ℕ, ◌^◌, ◌<◌, ◌≤◌, true, List, length, Ok, sym, ◌∙◌, subst, arith}
use Rattle.std.proofs.lemmas.Bool.{and_parts, and_from}
use Rattle.lines.specs.Faults.{bind}
use Rattle.lines.proofs.Readers.{bound, bind_to, ok_same}
use Rattle.sheets.specs.Model.{PostsModel, TeacherRecord, SheetsModel}
use Rattle.sheets.specs.Posts.{posts_of}
use Rattle.sheets.specs.Staff.{staff_of}
use Rattle.sheets.specs.Read.{sheets_of}
use Rattle.sheets.specs.Ranges.{posts_ok, staff_ok, in_range}
use Rattle.sheets.specs.Written.{posts_bytes, staff_bytes}
use Rattle.sheets.specs.Described.{Describes, Canonical}
use Rattle.sheets.proofs.CanonPosts.{posts_to, posts_from}
use Rattle.sheets.proofs.CanonStaff.{staff_to, staff_from}
use Rattle.sheets.proofs.Lengths.{few_schools, few_subjects, posts_short, staff_short}

abbrev both : PostsModel → List TeacherRecord → SheetsModel
both p ts = record { posts = p; teachers = ts }

parts : (m : SheetsModel) → in_range m ≡ true → (posts_ok m.posts ≡ true) × (staff_ok m.posts.schools m.posts.subjects m.teachers ≡ true)
parts m h = and_parts (posts_ok m.posts) (staff_ok m.posts.schools m.posts.subjects m.teachers) h

few_both : (p : PostsModel) → posts_ok p ≡ true → (p.schools < 2 ^ 16) × (p.subjects < 2 ^ 16)
few_both p v = (omega (arith, few_schools p v), omega (arith, few_subjects p v))

short : (m : SheetsModel) → in_range m ≡ true → (length (posts_bytes m.posts) ≤ 30000) × (length (staff_bytes m.teachers) ≤ 30000)
short m h =
    let v = parts m h in
    let p = m.posts in
    (posts_short p v.0, staff_short p.schools p.subjects (few_schools p v.0) (few_subjects p v.0) m.teachers v.1)

module _ (posts staff : List ℕ) where
  apart_described : (p : PostsModel) (ts : List TeacherRecord) → posts_of posts ≡ Ok p → staff_of p.schools p.subjects staff ≡ Ok ts → Describes posts staff (both p ts)
  apart_described p ts a b =
      let v = posts_to posts p a in
      let f = few_both p v.0 in
      let w = staff_to p.schools p.subjects f.0 f.1 staff ts b in
      record { ranges = and_from (posts_ok p) (staff_ok p.schools p.subjects ts) v.0 w.0; posts_sheet = v.1; staff_sheet = w.1 }

  read : (m : SheetsModel) → sheets_of posts staff ≡ Ok m → Describes posts staff m
  read m e =
      bound (posts_of posts) (λ p. bind (staff_of p.schools p.subjects staff) (λ ts. Ok (both p ts))) m e (λ p e1 f1.
      bound (staff_of p.schools p.subjects staff) (λ ts. Ok (both p ts)) m f1 (λ ts e2 f2.
      subst (Describes posts staff) (ok_same (both p ts) m f2) (apart_described p ts e1 e2)))

  described : (m : SheetsModel) → Describes posts staff m → sheets_of posts staff ≡ Ok m
  described m d =
      let v = parts m d.ranges in
      let l = short m d.ranges in
      let p = m.posts in
      let f = few_both p v.0 in
      bind_to (posts_of posts) (λ p. bind (staff_of p.schools p.subjects staff) (λ ts. Ok (both p ts))) p
      (posts_from posts p (subst (λ b. length b ≤ 30000) (sym d.posts_sheet) l.0) v.0 d.posts_sheet)
      ∙ bind_to (staff_of p.schools p.subjects staff) (λ ts. Ok (both p ts)) m.teachers
      (staff_from p.schools p.subjects f.0 f.1 staff m.teachers (subst (λ b. length b ≤ 30000) (sym d.staff_sheet) l.1) v.1 d.staff_sheet)

pub canonical : Canonical
canonical = record { read_is_described = read; described_is_read = described; short = short }
