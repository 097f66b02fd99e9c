use Rattle.std.proofs.Common.{◌≡◌, map, take}
use Rattle.sheets.specs.Model.{teacher_record}
use Rattle.market.specs.Tables.{person, band_in}
use Rattle.market.proofs.bands.bands_of.Given as goal

abbrev pub invariant-loop-t : goal.invariant-loop-t
invariant-loop-t l = take l.t l.band-items ≡ map (λ x. band_in l.subject (person (teacher_record x))) (take l.t l.teachers)
