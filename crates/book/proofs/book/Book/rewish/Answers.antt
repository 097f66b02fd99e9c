use Rattle.std.proofs.Common.{ℕ, ◌≤◌, length, map, get_or, vec_items, ap, ◌∙◌, arith}
use lib.ListN.{length-replicate}
use Rattle.std.proofs.lemmas.List.{length-map}
use Rattle.bounded.specs.Listed.{listed}
use Rattle.sheets.specs.Held.{model_of}
use Rattle.sheets.specs.Model.{lane_record}
use Rattle.book.proofs.Changes.{ones}
use Rattle.book.proofs.Wishing.{said_yes, wished_yes, picks_after}
use Rattle.book.proofs.book.Book.rewish.Goals as goal

pub invariant_of-self-2 : goal.invariant_of-self-2
invariant_of-self-2 c =
    let b = c.args.self.now in
    let m = model_of b.sheets in
    let n = model_of c.rewish.new.self in
    let s = said_yes m c.args.t c.args.wishes.now n c.in_ok-rewish.ensures in
    let few : length m.posts.lanes ≤ 80 = omega (arith, length-map (vec_items b.sheets.lanes.items) lane_record, b.sheets.lanes.within) in
    record {
      sized = omega (arith, ap length c.fill_ones.ensures, length-replicate {A = ℕ} (length c.lanes.result.now) 1, length-map c.lanes.result.now lane_record, ap length c.lanes.ensures.value);
      low = λ l. omega (arith, ap (λ (f : ℕ → ℕ). f l) (ones (length c.lanes.result.now) (vec_items c.fill_ones.new.cutoffs.items) c.fill_ones.ensures));
      picked = ap (map listed) c.set.ensures ∙ picks_after m c.args.t c.args.wishes.now s.0 few (vec_items b.picks.items) b.picked n s.1 c.teachers.result.now c.teachers.ensures.value c.pick_list-list.result c.index-teachers-t.result c.index-teachers-t.is c.pick_list-list.ensures;
    }

pub returns : goal.returns
returns c =
    let b = c.args.self.now in
    let m = model_of b.sheets in
    let n = model_of c.rewish.new.self in
    let s = said_yes m c.args.t c.args.wishes.now n c.in_ok-rewish.ensures in
    wished_yes m c.args.t c.args.wishes.now (vec_items b.ranks.table) (λ l. get_or (vec_items b.cutoffs.items) l 1) b.posted s.0 n s.1 (λ l. get_or (vec_items c.fill_ones.new.cutoffs.items) l 1) (ones (length c.lanes.result.now) (vec_items c.fill_ones.new.cutoffs.items) c.fill_ones.ensures)
