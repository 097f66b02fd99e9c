-- What holds after a reading.
use Rattle.std.proofs.Common.{◌≡◌, ℕ, ◌≤◌, Bool, true, false, ◌||◌, leb, List, [], length, Ok, Err, Result, sym, refl, ap, ◌∙◌, ap₂, arith}
use Rattle.std.proofs.lemmas.Bool.{and_parts, leb-true}
use Rattle.lines.specs.declared.faults.Fault.{Fault}
use Rattle.lines.specs.Entries.{within}
use Rattle.sheets.specs.declared.records.Lane.{Lane}
use Rattle.sheets.specs.declared.records.Teacher.{Teacher}
use Rattle.sheets.specs.Described.{Describes, Undescribed}
use Rattle.sheets.specs.Model.{SheetsModel}
use Rattle.sheets.specs.Ranges.{in_range, is_blank, posts_ok, staff_ok}
use Rattle.sheets.specs.Read.{sheets_of, reading}
use Rattle.sheets.specs.Tables.{tables_model, kept}
use Rattle.sheets.proofs.Canonical.{canonical}

-- how many lanes there can be
pub lanes_few : (m : SheetsModel) → in_range m ≡ true → length m.posts.lanes ≤ 80
lanes_few m h =
    let p = (and_parts (posts_ok m.posts) (staff_ok m.posts.schools m.posts.subjects m.teachers) h).0 in
    let q = (and_parts (within 1 30 m.posts.schools) _ p).1 in
    let r = (and_parts (within 1 10 m.posts.subjects) _ q).1 in
    let s = (and_parts (within 1 80 (length m.posts.lanes)) _ r).0 in
    leb-true (length m.posts.lanes) 80 (and_parts (leb 1 (length m.posts.lanes)) (leb (length m.posts.lanes) 80) s).1

kept_in_range : (m : SheetsModel) → in_range m ≡ true → kept m ≡ true
kept_in_range m h = by (is_blank m) (in_range m) h
  where
    by : (a b : Bool) → b ≡ true → (a || b) ≡ true
    by true b e = refl
    by false b e = e

-- a sound pair of sheets was read
module _ (posts staff : List ℕ) (schools subjects : ℕ) (ls : List Lane) (ts : List Teacher) (e : Ok (tables_model schools subjects ls ts) ≡ sheets_of posts staff) where
  pub read_describes : Describes posts staff (tables_model schools subjects ls ts)
  read_describes = canonical.read_is_described posts staff (tables_model schools subjects ls ts) (sym e)

  pub read_kept : kept (tables_model schools subjects ls ts) ≡ true
  read_kept = kept_in_range (tables_model schools subjects ls ts) read_describes.ranges

-- the sheets were refused
module _ (posts staff : List ℕ) (f : Fault) (e : Err f ≡ sheets_of posts staff) where
  pub refused_blank : (ls : List Lane) (ts : List Teacher) → ls ≡ [] → ts ≡ [] → ◌≡◌ {A = Result (Unit {0}) Fault × SheetsModel} (Err f, tables_model 0 0 ls ts) (reading (sheets_of posts staff))
  refused_blank ls ts a b = ap₂ (λ x y. (Err f, tables_model 0 0 x y)) a b ∙ ap reading e

  pub refused_describes_none : Undescribed posts staff
  refused_describes_none m d = let g : Err f ≡ Ok m = e ∙ canonical.described_is_read posts staff m d in absurd (grind arith)
