-- A number is read from its decimal digits, and from no other bytes.
use Rattle.std.proofs.Common.{◌≡◌, ℕ, ◌-◌, ◌^◌, ◌<◌, ◌≤◌, true, not, eqb, List, length, get_or, take, Some, None, Ok, Err, decimal, Result, sym, ap, ◌∙◌, ⊎_elim, arith, lit<, length-take}
use Rattle.std.specs.Str.Parse.{digits_value, AllDigits, ParsesUnsigned}
use Rattle.std.specs.Int.{IsInRange}
use Rattle.std.specs.Char.{digit_value as ascii_digit_value}
use Rattle.std.specs.Str.{all_ascii_digits}
use Rattle.std.proofs.lemmas.Bool.{cases_Bool, cases_lt, ne_eqb}
use Rattle.std.proofs.lemmas.Bool.Decides.{nat_tests}
use Rattle.std.proofs.lemmas.Str.Parse.{IsNumeralModel, numerals_by_value, tells_all_ascii_digits, tells_digits, digit_at, parse_plain, digits_value_short}
use Rattle.std.proofs.lemmas.Result.{OkIff-at_ok, OkIff-at_err}
use Rattle.std.proofs.lemmas.Fmt.{decimal-digits_value, digits_value-decimal, digits_decimal, length-decimal-le, decimal_nonempty, first_decimal, decimal_digit}
use Rattle.text.specs.Number.{well_formed, number}

pub own : IsNumeralModel (λ ds. all_ascii_digits ds ≡ true) (digits_value 10)
own = numerals_by_value _ tells_all_ascii_digits

pub record Well (ds : List ℕ) : Type 0 where
  pub some : 0 < length ds
  pub few : length ds ≤ 5
  pub lead : get_or ds 0 0 ≡ 48 → length ds ≡ 1
  pub digits : all_ascii_digits ds ≡ true
  pub small : digits_value 10 ds < 2 ^ 16

pub well_from : (ds : List ℕ) → well_formed ds ≡ true → Well ds
well_from ds h = record {
  some = grind (arith, nat_tests);
  few = grind (arith, nat_tests);
  lead = λ z. grind (arith, nat_tests);
  digits = grind (arith, nat_tests);
  small = grind (arith, nat_tests);
}

pub from_well : (ds : List ℕ) → Well ds → well_formed ds ≡ true
from_well ds w = grind (arith, nat_tests)

pub number_of : (ds : List ℕ) → Well ds → number ds ≡ Some (digits_value 10 ds)
number_of ds w = rw (from_well ds w)

pub number_none : (ds : List ℕ) → (Well ds → ⊥) → number ds ≡ None
number_none ds no' =
    ⊎_elim (λ t. absurd (no' (well_from ds t))) (λ f. rw f) (cases_Bool (well_formed ds))

pub number_some : (ds : List ℕ) (n : ℕ) → number ds ≡ Some n → Well ds × (n ≡ digits_value 10 ds)
number_some ds n e =
    ⊎_elim (λ t. (well_from ds t, grind arith)) (λ f. absurd (grind arith)) (cases_Bool (well_formed ds))

-- only the canonical digits are read
pub number_canonical : (ds : List ℕ) (n : ℕ) → number ds ≡ Some n → (ds ≡ decimal n) × (n < 2 ^ 16)
number_canonical ds n e =
    let p = number_some ds n e in
    let w = p.0 in
    (sym (decimal-digits_value own ds w.digits w.some w.lead (omega (arith, w.small))) ∙ ap decimal (sym p.1), omega (arith, w.small, p.1))

zero_lead : (n : ℕ) → n < 2 ^ 16 → get_or (decimal n) 0 0 ≡ 48 → length (decimal n) ≡ 1
zero_lead n s z =
    ⊎_elim (λ l. ap length (decimal_digit n l)) (λ g. absurd (omega (arith, first_decimal n (omega arith) (omega arith)))) (cases_lt n 10)

pub number_decimal : (n : ℕ) → n < 2 ^ 16 → number (decimal n) ≡ Some n
number_decimal n s =
    let v = digits_value-decimal own n (omega arith) in
    number_of (decimal n) (record {
      some = decimal_nonempty n (omega arith);
      few = length-decimal-le 5 n (lit< tt) (omega arith) (omega arith);
      lead = zero_lead n s;
      digits = digits_decimal own n (omega arith);
      small = omega arith;
    }) ∙ ap Some v

apart : (x b : ℕ) → (x ≡ b → ⊥) → not (eqb x b) ≡ true
apart x b h = ap not (ne_eqb x b h)

pub first_of : (ds : List ℕ) → Well ds → IsInRange 48 57 (get_or ds 0 0)
first_of ds w = digit_at ds 0 (own.to ds w.digits) w.some

-- what `parse` says of a text with no plus and no leading zero
module _ {E : Type 0} (ds : List ℕ) (few : length ds ≤ 5) (plus : get_or ds 0 0 ≡ 43 → ⊥) (lead : get_or ds 0 0 ≡ 48 → length ds ≡ 1) where
  pub parsed : (r : Result ℕ E) (n : ℕ) → r ≡ Ok n → (t : List ℕ) → t ≡ ds → ParsesUnsigned 16 10 t r → Some n ≡ number ds
  parsed r n e t same h =
      let p = OkIff-at_ok r _ _ n (parse_plain own 16 ds r (rw same at h) plus) e in
      ap Some p.1 ∙ sym (number_of ds (record { some = p.0.1; few = few; lead = lead; digits = p.0.0; small = p.0.2 }))

  pub unparsed : (r : Result ℕ E) (d : E) → r ≡ Err d → (t : List ℕ) → t ≡ ds → ParsesUnsigned 16 10 t r → None ≡ number ds
  unparsed r d e t same h =
      sym (number_none ds (λ w. OkIff-at_err r _ _ d (parse_plain own 16 ds r (rw same at h) plus) e (w.digits, w.some, w.small)))

-- one digit more
pub digit_value : (c : ℕ) → 48 ≤ c → c ≤ 57 → ascii_digit_value c ≡ c - 48
digit_value c l h = grind (arith, nat_tests)

pub digits_short : (ds : List ℕ) (i : ℕ) → AllDigits 10 (take i ds) → length ds ≤ 5 → digits_value 10 (take i ds) < 10 ^ 5
digits_short ds i d few =
    digits_value_short (numerals_by_value (AllDigits 10) tells_digits) (take i ds) 5 d (simp length-take (omega arith))
