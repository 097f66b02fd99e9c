-- The pair of sheets that a round writes.
use Rattle.std.proofs.Common.{◌≡◌, ℕ, ◌≤◌, Bool, true, false, ◌||◌, List, [], sym, ap, ◌∙◌, arith}
use Rattle.std.proofs.lemmas.Bool.{cond-false}
use Rattle.matching.specs.Log.{opened}
use Rattle.market.specs.Tables.{Person, tables_of, wishes_of}
use Rattle.sheets.specs.Described.{Describes}
use Rattle.sheets.specs.Held.{model_of}
use Rattle.sheets.specs.Model.{SheetsModel}
use Rattle.sheets.specs.Ranges.{in_range, is_blank}
use Rattle.sheets.specs.Tables.{kept, posts_sheet, staff_sheet}
use Rattle.sheets.specs.Written.{posts_bytes, staff_bytes}
use Rattle.sheets.proofs.Canonical.{canonical}
use Rattle.sheets.proofs.KeptLaws.{schools_in_range, unblank}
use Rattle.book.specs.declared.book.Book.{Book}
use Rattle.book.specs.Held.{book_model}
use Rattle.book.specs.Model.{Fixed, fixed_from, tables_in, ranks_by, opening}
use Rattle.book.specs.Rewritten.{sheets_in, posts_in, staff_in}
use Rattle.book.proofs.Rewriting.{sheets_kept}
use Rattle.round.specs.Promise.{WrittenBack}
use Rattle.round.proofs.Peoples.{people_same}

kept_in_range : (m : SheetsModel) → kept m ≡ true → is_blank m ≡ false → in_range m ≡ true
kept_in_range m k e = sym (ap (λ b. b || in_range m) e) ∙ k

-- within their ranges, sheets are described by what is written of them
described : (m : SheetsModel) → in_range m ≡ true → Describes (posts_sheet m) (staff_sheet m) m
described m r =
    let n = unblank m (λ z. omega (arith, schools_in_range m r)) in
    record { ranges = r; posts_sheet = cond-false (is_blank m) [] (posts_bytes m.posts) n; staff_sheet = cond-false (is_blank m) [] (staff_bytes m.teachers) n }

module _ (ahead : ℕ → ℕ → ℕ → Bool) (b : Book) (m : SheetsModel) (r : in_range m ≡ true) (same : (book_model b).0 ≡ (opening ahead m).0) where
  abbrev now' : SheetsModel
  now' = model_of b.sheets

  schools : 1 ≤ now'.posts.schools
  schools = omega (arith, schools_in_range m r, ap (λ (F : Fixed). F.posts.schools) same)

  ranges : in_range (sheets_in (book_model b)) ≡ true
  ranges = ap in_range (sheets_kept b) ∙ kept_in_range now' b.sheets.kept (unblank now' (λ z. omega (arith, schools)))

  -- the tables are those of the opening
  tables : tables_of now' ≡ tables_of m
  tables =
      ap (λ (ps : List Person). record { posts = now'.posts; people = ps }) (sym (people_same now'.teachers))
      ∙ ap tables_in same ∙ ap (λ (ps : List Person). record { posts = m.posts; people = ps }) (people_same m.teachers)

  pub written_back : WrittenBack ahead (book_model b)
  written_back =
      let d = described (sheets_in (book_model b)) ranges in
      record {
        describes = d;
        only = λ posts staff e. (e.posts_sheet ∙ sym d.posts_sheet, e.staff_sheet ∙ sym d.staff_sheet);
        read = canonical.described_is_read (posts_in (book_model b)) (staff_in (book_model b)) (sheets_in (book_model b)) d;
        opens = ap (opening ahead) (sheets_kept b)
            ∙ ap (λ (ranks : ℕ → ℕ → ℕ). (fixed_from now' ranks, opened (wishes_of now'))) (ap (ranks_by ahead) tables ∙ sym (ap (λ (F : Fixed). F.ranks) same));
      }
