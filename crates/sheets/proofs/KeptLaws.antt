-- Sheets that are kept are blank exactly if they have no school.
use Rattle.std.proofs.Common.{◌≡◌, ℕ, ◌≤◌, Bool, true, false, cond, ◌&&◌, ◌||◌, eqb, leb, List, [], length, Ok, Result, sym, refl, ap, ◌∙◌, arith}
use Rattle.std.proofs.lemmas.Bool.{ne_eqb, le-leb, and_parts, leb-true}
use Rattle.lines.specs.Entries.{within}
use Rattle.sheets.specs.declared.refusals.WriteRefusal.{WriteRefusal}
use Rattle.sheets.specs.Model.{SheetsModel}
use Rattle.sheets.specs.Ranges.{in_range, is_blank, posts_ok, staff_ok}
use Rattle.sheets.specs.Tables.{kept, posts_sheet, staff_sheet}
use Rattle.sheets.specs.Written.{writing, posts_bytes, staff_bytes}

pub schools_in_range : (m : SheetsModel) → in_range m ≡ true → 1 ≤ m.posts.schools
schools_in_range m h =
    let p = (and_parts (posts_ok m.posts) (staff_ok m.posts.schools m.posts.subjects m.teachers) h).0 in
    let q = (and_parts (within 1 30 m.posts.schools) _ p).0 in
    leb-true 1 m.posts.schools (and_parts (leb 1 m.posts.schools) (leb m.posts.schools 30) q).0

pub blank_kept : (m : SheetsModel) → kept m ≡ true → m.posts.schools ≡ 0 → is_blank m ≡ true
blank_kept m h e = by (is_blank m) (in_range m) refl h
  where
    by : (a b : Bool) → in_range m ≡ b → (a || b) ≡ true → a ≡ true
    by true b r k = refl
    by false true r k = absurd (omega (arith, schools_in_range m r))
    by false false r k = k

pub unblank : (m : SheetsModel) → (m.posts.schools ≡ 0 → ⊥) → is_blank m ≡ false
unblank m h = ap (λ b. b && (eqb m.posts.subjects 0 && (eqb (length m.posts.lanes) 0 && eqb (length m.teachers) 0))) (ne_eqb m.posts.schools 0 h)

-- the sheets of the blank model are empty, and writing them changes nothing
module _ (m : SheetsModel) (k : kept m ≡ true) (e : m.posts.schools ≡ 0) (d : List ℕ) where
  nothing : (s : List ℕ) → ◌≡◌ {A = Result ℕ WriteRefusal × List ℕ} (Ok 0, d) (writing (cond (is_blank m) [] s) d)
  nothing s = sym (ap (λ b. writing (cond b [] s) d) (blank_kept m k e) ∙ rw (le-leb 0 (length d) (omega arith)))

  pub no_posts_sheet : ◌≡◌ {A = Result ℕ WriteRefusal × List ℕ} (Ok 0, d) (writing (posts_sheet m) d)
  no_posts_sheet = nothing (posts_bytes m.posts)

  pub no_staff_sheet : ◌≡◌ {A = Result ℕ WriteRefusal × List ℕ} (Ok 0, d) (writing (staff_sheet m) d)
  no_staff_sheet = nothing (staff_bytes m.teachers)

module _ (m : SheetsModel) (e : m.posts.schools ≡ 0 → ⊥) (d : List ℕ) (r : Result ℕ WriteRefusal) (b : List ℕ) where
  pub some_posts_sheet : ◌≡◌ {A = Result ℕ WriteRefusal × List ℕ} (r, b) (writing (posts_bytes m.posts) d) → ◌≡◌ {A = Result ℕ WriteRefusal × List ℕ} (r, b) (writing (posts_sheet m) d)
  some_posts_sheet h = h ∙ sym (ap (λ x. writing (cond x [] (posts_bytes m.posts)) d) (unblank m e))

  pub some_staff_sheet : ◌≡◌ {A = Result ℕ WriteRefusal × List ℕ} (r, b) (writing (staff_bytes m.teachers) d) → ◌≡◌ {A = Result ℕ WriteRefusal × List ℕ} (r, b) (writing (staff_sheet m) d)
  some_staff_sheet h = h ∙ sym (ap (λ x. writing (cond x [] (staff_bytes m.teachers)) d) (unblank m e))
