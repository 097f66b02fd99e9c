use Rattle.std.proofs.Common.{vec_items, ap}
use Rattle.sheets.specs.Read.{reading}
use Rattle.sheets.proofs.ReadLaws.{read_describes, read_kept, refused_blank, refused_describes_none}
use Rattle.sheets.proofs.sheets.Sheets.read.Goals as goal

pub invariant_of-self : goal.invariant_of-self
invariant_of-self c =
    let p = c.args.posts.now in
    let s = c.args.staff.now in
    let ls = vec_items c.read_pair.new.lanes.items in
    let ts = vec_items c.read_pair.new.teachers.items in
    let e = c.in-Ok.ensures in
    record {
      kept = read_kept p s c.in-Ok.counts.schools c.in-Ok.counts.subjects ls ts e;
    }

pub returns-in-Ok : goal.returns-in-Ok
returns-in-Ok c = record {
  value = ap reading c.in-Ok.ensures;
  described = read_describes c.args.posts.now c.args.staff.now c.in-Ok.counts.schools c.in-Ok.counts.subjects (vec_items c.read_pair.new.lanes.items) (vec_items c.read_pair.new.teachers.items) c.in-Ok.ensures;
}

pub returns-in-Err : goal.returns-in-Err
returns-in-Err c = record {
  value = refused_blank c.args.posts.now c.args.staff.now c.in-Err.fault c.in-Err.ensures (vec_items c.clear.new.self.items) (vec_items c.clear-in-Err.new.self.items) c.clear.ensures c.clear-in-Err.ensures;
  described = refused_describes_none c.args.posts.now c.args.staff.now c.in-Err.fault c.in-Err.ensures;
}
