use Rattle.std.proofs.Common.{◌≡◌, ℕ, map, length, take, ap, ◌∙◌, arith}
use Rattle.std.proofs.lemmas.List.{take-append-le, take_all, length-take-le}
use Rattle.std.proofs.lemmas.Simd.{map-map}
use Rattle.sheets.specs.declared.records.Teacher.{Teacher}
use Rattle.sheets.specs.Model.{teacher_record}
use Rattle.market.specs.Tables.{person, band_in}
use Rattle.market.proofs.bands.bands_of.Goals as goal

pub returns : goal.returns
returns c = λ few.
    let f : Teacher → ℕ = λ x. band_in c.args.subject (person (teacher_record x)) in
    let ts = c.args.teachers.now in
    let n : length ts ≡ c.loop-t.t = omega (arith, length-take-le {A = ℕ}) in
    simp map-map (take-append-le (length ts) c.loop-t.band-items _ (omega (arith, length-take-le {A = ℕ})) ∙ ap (λ k. take k c.loop-t.band-items) n ∙ c.loop-t.invariant ∙ ap (map f) (take_all c.loop-t.t ts (omega (arith, n))))
