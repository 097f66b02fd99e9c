-- Lines whose numbers are in their ranges and in order: what is read is what is written.
use Rattle.std.proofs.Common.{◌≡◌, ℕ, ◌^◌, ◌<◌, ◌≤◌, Bool, true, cond, ◌&&◌, leb, List, [], ◌∷◌, length, get_or, Ok, Err, Result, sym, refl, ap, ◌∙◌, arith}
use Rattle.std.specs.List.{AllByRecursion as All}
use Rattle.std.proofs.lemmas.Bool.{leb-true, le-leb, and_parts, and_from}
use Rattle.lines.specs.declared.keys.Key.{Key}
use Rattle.lines.specs.declared.keys.Key.TheVariants.{Also}
use Rattle.lines.specs.declared.faults.Fault.{Fault}
use Rattle.lines.specs.declared.faults.FaultKind.TheVariants.{OutOfRange, Disordered}
use Rattle.lines.specs.declared.faults.Spot.{Spot}
use Rattle.lines.specs.Faults.{fault, bind}
use Rattle.lines.specs.Entries.{within, all_within, distinct, further, single, ranged, unrepeated, licences}
use Rattle.lines.specs.Written.{line}
use Rattle.lines.proofs.Readers.{Reads, cond_ok, alike, mapped}
use Rattle.lines.proofs.Canon.{Fits, field_reads}

-- a further test
pub tested : {A : Type 0} {bs : List ℕ} {p : ℕ} {r : Result (A × ℕ) Fault} {W : A → List ℕ} {V : A → Type 0} → Reads bs p r W V → (test : A → Bool) (d : Fault) → Reads bs p (bind r (λ x. cond (test x.0) (Ok x) (Err d))) W (λ a. V a × (test a ≡ true))
tested c test d =
    mapped c (λ x. cond (test x.0) (Ok x) (Err d)) (λ a. a) (λ a. test a ≡ true)
    (λ a q b n v e.
    let z = cond_ok (test a) (a, q) (b, n) d e in
    let same : a ≡ b = ap (λ x. x.0) z.1 in
    (same, (ap (λ x. x.1) z.1, ap test (sym same) ∙ z.0)))
    (λ b q v t. ap (λ t. cond t (Ok (b, q)) (Err d)) t)

-- a number in its range, one of a range of small numbers, is small
pub within_low : (low high n : ℕ) → within low high n ≡ true → low ≤ n
within_low low high n h = leb-true low n (and_parts (leb low n) (leb n high) h).0

pub within_high : (low high n : ℕ) → within low high n ≡ true → n ≤ high
within_high low high n h = leb-true n high (and_parts (leb low n) (leb n high) h).1

all_small : (low high : ℕ) (ns : List ℕ) → high < 2 ^ 16 → all_within low high ns ≡ true → All (λ n. n < 2 ^ 16) ns
all_small low high [] s h = tt
all_small low high (n ∷ ns) s h =
    let p = and_parts (within low high n) (all_within low high ns) h in
    (omega (arith, within_high low high n p.0), all_small low high ns s p.1)

one_only : (ns : List ℕ) → Fits 1 1 ns → ns ≡ get_or ns 0 0 ∷ []
one_only [] h = absurd (omega arith)
one_only (n ∷ []) h = refl
one_only (n ∷ m ∷ ns) h = absurd (omega arith)

module _ (k : Key) (bs : List ℕ) (s : Spot) where
  pub single_reads : (low high : ℕ) → high < 2 ^ 16 → Reads bs s.place (single k low high bs s) (λ n. line k (n ∷ [])) (λ n. within low high n ≡ true)
  single_reads low high small =
      alike (λ n. within low high n ≡ true) (λ n v. v.1) (λ n v. (record { low = omega arith; high = omega arith; small = (omega (arith, within_high low high n v), tt) }, v))
      (mapped (field_reads k 1 1 bs s) (λ p. cond (within low high (get_or p.0 0 0)) (Ok (get_or p.0 0 0, p.1)) (Err (fault s OutOfRange))) (λ n. n ∷ []) (λ n. within low high n ≡ true)
      (λ ns q m n v e.
      let z = cond_ok (within low high (get_or ns 0 0)) (get_or ns 0 0, q) (m, n) (fault s OutOfRange) e in
      let same : get_or ns 0 0 ≡ m = ap (λ x. x.0) z.1 in
      (one_only ns v ∙ ap (λ x. x ∷ []) same, (ap (λ x. x.1) z.1, ap (within low high) (sym same) ∙ z.0)))
      (λ n q v t. ap (λ t. cond t (Ok (n, q)) (Err (fault s OutOfRange))) t))

  pub up_to_reads : (high : ℕ) → high < 2 ^ 16 → Reads bs s.place (single k 0 high bs s) (λ n. line k (n ∷ [])) (λ n. leb n high ≡ true)
  up_to_reads high small =
      alike (λ n. leb n high ≡ true) (λ n v. (and_parts (leb 0 n) (leb n high) v).1) (λ n v. and_from (leb 0 n) (leb n high) (le-leb 0 n (omega arith)) v) (single_reads 0 high small)

  -- at most so many numbers from 1 on
  pub ranged_reads : (most high : ℕ) → high < 2 ^ 16 → Reads bs s.place (ranged k most high bs s) (line k) (λ ns. (leb (length ns) most && all_within 1 high ns) ≡ true)
  ranged_reads most high small =
      alike (λ ns. (leb (length ns) most && all_within 1 high ns) ≡ true)
      (λ ns v. and_from (leb (length ns) most) (all_within 1 high ns) (le-leb (length ns) most v.0.high) v.1)
      (λ ns v.
      let p = and_parts (leb (length ns) most) (all_within 1 high ns) v in
      (record { low = omega arith; high = leb-true (length ns) most p.0; small = all_small 1 high ns small p.1 }, p.1))
      (tested (field_reads k 0 most bs s) (all_within 1 high) (fault s OutOfRange))

  pub unrepeated_reads : (most high : ℕ) → high < 2 ^ 16 → Reads bs s.place (unrepeated k most high bs s) (line k) (λ ns. ((leb (length ns) most && all_within 1 high ns) ≡ true) × (distinct ns ≡ true))
  unrepeated_reads most high small = tested (ranged_reads most high small) distinct (fault s Disordered)

pub licences_reads : (bs : List ℕ) (s : Spot) (main high : ℕ) → high < 2 ^ 16 → Reads bs s.place (licences main high bs s) (line Also) (λ ns. ((leb (length ns) 9 && all_within 1 high ns) ≡ true) × (further main ns ≡ true))
licences_reads bs s main high small = tested (ranged_reads Also bs s 9 high small) (further main) (fault s Disordered)
