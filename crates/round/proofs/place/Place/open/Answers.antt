use Rattle.std.proofs.Common.{sym, ◌∙◌}
use Rattle.std.proofs.lemmas.Result.{err_from_is_err_and}
use Rattle.book.specs.Held.{book_model}
use Rattle.book.proofs.Rewriting.{sheets_kept}
use Rattle.sheets.specs.Held.{model_of}
use Rattle.sheets.specs.Read.{sheets_of}
use Rattle.round.specs.Held.{place_of}
use Rattle.round.proofs.Opening.{open_yes, open_no, desk_yes, desk_no}
use Rattle.round.proofs.place.Place.open.Goals as goal

pub returns-in_err-read : goal.returns-in_err-read
returns-in_err-read g c =
    let p = err_from_is_err_and c.from_residual.result c.from_residual.ensures.1 in
    let s = sheets_of c.args.posts.now c.args.staff.now in
    let place = place_of c.args.self.now in
    let read = c.in_err-read.ensures.value in
    record {
      value = open_no g.S.Standing.ahead place s (model_of c.read.new.self) c.from_residual.result p.0 c.in_err-read.field-0.0 p.1 p.2 read;
      desk = desk_no s place.round c.in_err-read.field-0.0 (model_of c.read.new.self) read;
    }

pub returns : goal.returns
returns g c =
    let s = sheets_of c.args.posts.now c.args.staff.now in
    let place = place_of c.args.self.now in
    let read = c.in_ok-read.ensures.value in
    record {
      value = open_yes g.S.Standing.ahead place s _ (model_of c.read.new.self) (book_model c.open.new.self) read c.open.ensures.book;
      desk = desk_yes s place.round _ (model_of c.read.new.self) (model_of c.open.new.desk) read (c.open.ensures.desk ∙ sym (sheets_kept c.args.self.now.book));
    }
