-- One step of the search for a pair of school and subject, and its end.
use Rattle.std.proofs.Common.{◌≡◌, ℕ, ◌+◌, ◌<◌, ◌≤◌, Bool, false, ◌&&◌, ◌||◌, eqb, List, map, length, get_or, drop, sym, ap, ◌∙◌}
use Rattle.std.proofs.lemmas.List.{at_drop_more, at_drop_all}
use Rattle.sheets.specs.declared.records.Lane.{Lane}
use Rattle.sheets.specs.Model.{lane_record}
use Rattle.sheets.specs.Posts.{taken}

pub taken_step : (school subject : ℕ) (ls : List Lane) (i : ℕ) (x : Lane) (b : Bool) → i < length ls → x ≡ get_or ls i x → b ≡ (eqb x.school school && eqb x.subject subject) → taken school subject (map lane_record (drop i ls)) ≡ (b || taken school subject (map lane_record (drop (i + 1) ls)))
taken_step school subject ls i x b l e h =
    at_drop_more (λ xs. taken school subject (map lane_record xs)) ls i x l
    ∙ ap (λ y. (eqb y.school school && eqb y.subject subject) || taken school subject (map lane_record (drop (i + 1) ls))) (sym e)
    ∙ ap (λ c. c || taken school subject (map lane_record (drop (i + 1) ls))) (sym h)

pub taken_all : (school subject : ℕ) (ls : List Lane) (i : ℕ) → length ls ≤ i → taken school subject (map lane_record (drop i ls)) ≡ false
taken_all school subject ls i l = at_drop_all (λ xs. taken school subject (map lane_record xs)) ls i l
