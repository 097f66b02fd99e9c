use Rattle.std.proofs.Common.{Result, sym, refl, subst}
use Rattle.std.proofs.lemmas.Result.{err_from_is_err_and}
use Rattle.lines.specs.declared.faults.Fault.{Fault}
use Rattle.market.specs.Described.{Policies}
use Rattle.sheets.specs.Held.{model_of}
use Rattle.sheets.specs.Read.{sheets_of}
use Rattle.round.specs.Held.{place_of}
use Rattle.round.specs.Promise.{LogKept, LogWritten}
use Rattle.round.proofs.Logging.{opened_log, denied_log, written_log}
use Rattle.round.proofs.Opening.{desk_opened, desk_denied}
use Rattle.round.proofs.Rewritten.{written_back}
use Rattle.round.proofs.place.Place.keep_log.Goals as goal

pub returns-in_err-open : goal.returns-in_err-open
returns-in_err-open g c =
    let p = err_from_is_err_and c.from_residual.result c.from_residual.ensures.1 in
    let opened = c.in_err-open.ensures in
    let s = sheets_of c.args.posts.now c.args.staff.now in
    let P : Result (Unit {0}) Fault → Type 0 = λ r. LogKept g.S.Standing.ahead g.L.Limit.family c.args.posts.now c.args.staff.now (place_of c.args.self.now) (place_of c.open.new.self) c.args.entries.now c.args.entries.now r in
    let Q : Result (Unit {0}) Fault → Type 0 = λ r. LogWritten g.S.Standing.ahead (place_of c.args.self.now) (place_of c.open.new.self) (model_of c.open.new.desk) r in
    record {
      log = subst P (sym p.1) (denied_log g.S.Standing.ahead g.L.Limit.family c.args.posts.now c.args.staff.now (place_of c.args.self.now) (place_of c.open.new.self) (place_of c.open.new.self) c.args.entries.now c.args.entries.now p.0 c.in_err-open.field-0.0 opened.value p.2 refl);
      written = subst Q (sym p.1) (desk_denied g.S.Standing.ahead s (place_of c.args.self.now) (place_of c.open.new.self) c.in_err-open.field-0.0 (model_of c.open.new.desk) opened.value opened.desk);
    }

pub returns : goal.returns
returns g c =
    let p = place_of c.args.self.now in
    let opened = c.in_ok-open.ensures in
    let s = sheets_of c.args.posts.now c.args.staff.now in
    let P : Policies (g.S.Standing.ahead p.standing) (g.L.Limit.family p.limit) = record {
      one_way = g.met.S.Standing.oneway p.standing;
      between = g.met.S.Standing.between p.standing;
      empty = g.met.L.Limit.empty p.limit;
      part = g.met.L.Limit.part p.limit;
    } in
    record {
      log = opened_log g.S.Standing.ahead g.L.Limit.family c.args.posts.now c.args.staff.now p (place_of c.open.new.self) (place_of c.carry_out_all.new.self) c.args.entries.now c.carry_out_all.new.entries
          P _ opened.value c.carry_out_all.ensures.place c.carry_out_all.ensures.calls c.carry_out_all.ensures.answers;
      written = (
        written_log g.S.Standing.ahead g.L.Limit.family c.args.posts.now c.args.staff.now p (place_of c.open.new.self) (place_of c.carry_out_all.new.self) c.args.entries.now c.carry_out_all.new.entries
            _ opened.value c.carry_out_all.ensures.place (written_back (g.S.Standing.ahead p.standing) c.carry_out_all.new.self.book),
        desk_opened g.S.Standing.ahead s p (place_of c.open.new.self) _ (model_of c.open.new.desk) opened.value opened.desk,
      );
    }
