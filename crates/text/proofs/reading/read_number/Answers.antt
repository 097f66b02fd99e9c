use Rattle.std.proofs.Common.{◌<◌, length, get_or, Some, sym, ap, ◌∙◌, arith}
use Rattle.std.specs.Str.Parse.{digits_value}
use Rattle.std.proofs.lemmas.Int.Digits.{digits_value_more, digits_more}
use Rattle.std.proofs.lemmas.List.{take_all}
use Rattle.std.proofs.lemmas.Str.Parse.{digit_at}
use Rattle.text.proofs.Numbers.{own, number_none, number_of, digit_value, digits_short}
use Rattle.text.proofs.reading.read_number.Goals as goal

pub returns-then-not-is_ascii_digit : goal.returns-then-not-is_ascii_digit
returns-then-not-is_ascii_digit c =
    sym (number_none c.args.piece.now (λ w. grind (arith, digit_at c.args.piece.now c.loop-b.b-index (own.to c.args.piece.now w.digits) (omega arith))))

pub overflow_mul-n : goal.overflow_mul-n
overflow_mul-n c = omega (arith, digits_short c.args.piece.now c.loop-b.b-index c.loop-b.invariant.1 (grind arith))

pub overflow_add-n : goal.overflow_add-n
overflow_add-n c = omega (arith, digits_short c.args.piece.now c.loop-b.b-index c.loop-b.invariant.1 (grind arith))

pub loop-b-preserved : goal.loop-b-preserved
loop-b-preserved c =
    let e = digit_value (get_or c.args.piece.now c.loop-b.b-index 0) (grind arith) (grind arith) in
    let l : c.loop-b.b-index < length c.args.piece.now = omega arith in
    (grind (arith, e, digits_value_more 10 c.args.piece.now c.loop-b.b-index l), digits_more 10 c.args.piece.now c.loop-b.b-index l c.loop-b.invariant.1 (grind arith))

pub returns-then-n-gt65535 : goal.returns-then-n-gt65535
returns-then-n-gt65535 c =
    let all = take_all c.loop-b.b-index c.args.piece.now (omega arith) in
    sym (number_none c.args.piece.now (λ w. omega (arith, ap (digits_value 10) all, w.small)))

pub returns : goal.returns
returns c =
    let all = take_all c.loop-b.b-index c.args.piece.now (omega arith) in
    ap Some (c.loop-b.invariant.0 ∙ ap (digits_value 10) all)
    ∙ sym (number_of c.args.piece.now (record { some = grind arith; few = omega arith; lead = λ z. grind arith; digits = own.from c.args.piece.now (rw all at c.loop-b.invariant.1); small = omega (arith, ap (digits_value 10) all) }))
