-- The staff sheet: what is read is what is written.
use Rattle.std.proofs.Common.{◌≡◌, ℕ, ◌+◌, ◌*◌, ◌^◌, ◌<◌, ◌≤◌, true, leb, List, [], ◌∷◌, ◌++◌, length, Ok, Result, sym, refl, ap, ◌∙◌, arith}
use Rattle.std.proofs.lemmas.Bool.{and_parts, and_from}
use Rattle.lines.specs.declared.keys.Key.TheVariants.{Teachers, Home, Main, Also, Wish, Points, Cost}
use Rattle.lines.specs.declared.faults.Fault.{Fault}
use Rattle.lines.specs.declared.faults.FaultKind.TheVariants.{TooLong, Trailing}
use Rattle.lines.specs.Faults.{fault, bind}
use Rattle.lines.specs.Entries.{within, distinct, further, single, unrepeated, licences}
use Rattle.lines.specs.Written.{line}
use Rattle.lines.proofs.Readers.{Reads, Ends, ok_same, alike, mapped, followed, ended, followed_to_end, sheet_to, sheet_from}
use Rattle.lines.proofs.CanonEntries.{single_reads, up_to_reads, unrepeated_reads, licences_reads}
use Rattle.sheets.specs.Model.{TeacherRecord}
use Rattle.sheets.specs.Staff.{staff_spot, teacher, teachers, staff_end, staff_of}
use Rattle.sheets.specs.Written.{written_each, teacher_bytes, staff_bytes}
use Rattle.sheets.specs.Ranges.{every, few_within, teacher_ok, staff_ok}
use Rattle.sheets.proofs.CanonRecords.{Each, each_every, every_each, repeat_reads}

abbrev made : ℕ → ℕ → List ℕ → List ℕ → ℕ → ℕ → TeacherRecord
made h m a w q k = record { home = h; main = m; also = a; wish = w; points = q; cost = k }

module _ (schools subjects : ℕ) (few : schools < 2 ^ 16) (fewer : subjects < 2 ^ 16) (bs : List ℕ) where
  -- what the lines of a teacher say, from the last line back to the first
  abbrev V6 : ℕ → ℕ → List ℕ → List ℕ → ℕ → TeacherRecord → Type 0
  V6 h m a w q t = (leb t.cost 100 ≡ true) × (t ≡ made h m a w q t.cost)

  abbrev V5 : ℕ → ℕ → List ℕ → List ℕ → TeacherRecord → Type 0
  V5 h m a w t = (leb t.points 65535 ≡ true) × V6 h m a w t.points t

  abbrev V4 : ℕ → ℕ → List ℕ → TeacherRecord → Type 0
  V4 h m a t = ((few_within 12 schools t.wish ≡ true) × (distinct t.wish ≡ true)) × V5 h m a t.wish t

  abbrev V3 : ℕ → ℕ → TeacherRecord → Type 0
  V3 h m t = ((few_within 9 subjects t.also ≡ true) × (further m t.also ≡ true)) × V4 h m t.also t

  abbrev V2 : ℕ → TeacherRecord → Type 0
  V2 h t = (within 1 subjects t.main ≡ true) × V3 h t.main t

  abbrev V1 : TeacherRecord → Type 0
  V1 t = (leb t.home schools ≡ true) × V2 t.home t

  -- what is written of a teacher, from each line on
  abbrev W6 : TeacherRecord → List ℕ
  W6 t = line Cost (t.cost ∷ [])

  abbrev W5 : TeacherRecord → List ℕ
  W5 t = line Points (t.points ∷ []) ++ W6 t

  abbrev W4 : TeacherRecord → List ℕ
  W4 t = line Wish t.wish ++ W5 t

  abbrev W3 : TeacherRecord → List ℕ
  W3 t = line Also t.also ++ W4 t

  abbrev W2 : TeacherRecord → List ℕ
  W2 t = line Main (t.main ∷ []) ++ W3 t

  module _ (l : ℕ) where
    -- the rest of the reading, from each line on
    abbrev R6 : ℕ → ℕ → List ℕ → List ℕ → ℕ → ℕ → Result (TeacherRecord × ℕ) Fault
    R6 h m a w q p = bind (single Cost 0 100 bs (staff_spot (l + 5) p)) (λ k. Ok (made h m a w q k.0, k.1))

    abbrev R5 : ℕ → ℕ → List ℕ → List ℕ → ℕ → Result (TeacherRecord × ℕ) Fault
    R5 h m a w p = bind (single Points 0 65535 bs (staff_spot (l + 4) p)) (λ q. R6 h m a w q.0 q.1)

    abbrev R4 : ℕ → ℕ → List ℕ → ℕ → Result (TeacherRecord × ℕ) Fault
    R4 h m a p = bind (unrepeated Wish 12 schools bs (staff_spot (l + 3) p)) (λ w. R5 h m a w.0 w.1)

    abbrev R3 : ℕ → ℕ → ℕ → Result (TeacherRecord × ℕ) Fault
    R3 h m p = bind (licences m subjects bs (staff_spot (l + 2) p)) (λ a. R4 h m a.0 a.1)

    abbrev R2 : ℕ → ℕ → Result (TeacherRecord × ℕ) Fault
    R2 h p = bind (single Main 1 subjects bs (staff_spot (l + 1) p)) (λ m. R3 h m.0 m.1)

    reads6 : (h m : ℕ) (a w : List ℕ) (q p : ℕ) → Reads bs p (R6 h m a w q p) W6 (V6 h m a w q)
    reads6 h m a w q p =
        mapped (up_to_reads Cost bs (staff_spot (l + 5) p) 100 (omega arith)) (λ k. Ok (made h m a w q k.0, k.1)) (λ t. t.cost) (λ t. t ≡ made h m a w q t.cost)
        (λ k o t n v e.
        let same = ok_same (made h m a w q k, o) (t, n) e in
        let is : made h m a w q k ≡ t = ap (λ x. x.0) same in
        let kk : k ≡ t.cost = ap (λ (x : TeacherRecord). x.cost) is in
        (kk, (ap (λ x. x.1) same, sym is ∙ ap (made h m a w q) kk)))
        (λ t o v is. ap (λ x. Ok (x, o)) (sym is))

    reads5 : (h m : ℕ) (a w : List ℕ) (p : ℕ) → Reads bs p (R5 h m a w p) W5 (V5 h m a w)
    reads5 h m a w p =
        followed (up_to_reads Points bs (staff_spot (l + 4) p) 65535 (omega arith)) (λ q. R6 h m a w q.0 q.1) (λ t. t.points) W6 (V6 h m a w)
        (λ q t v u. ap (λ (x : TeacherRecord). x.points) u.1)
        (λ q o v. reads6 h m a w q o)

    reads4 : (h m : ℕ) (a : List ℕ) (p : ℕ) → Reads bs p (R4 h m a p) W4 (V4 h m a)
    reads4 h m a p =
        followed (unrepeated_reads Wish bs (staff_spot (l + 3) p) 12 schools few) (λ w. R5 h m a w.0 w.1) (λ t. t.wish) W5 (V5 h m a)
        (λ w t v u. ap (λ (x : TeacherRecord). x.wish) u.1.1)
        (λ w o v. reads5 h m a w o)

    reads3 : (h m p : ℕ) → Reads bs p (R3 h m p) W3 (V3 h m)
    reads3 h m p =
        followed (licences_reads bs (staff_spot (l + 2) p) m subjects fewer) (λ a. R4 h m a.0 a.1) (λ t. t.also) W4 (V4 h m)
        (λ a t v u. ap (λ (x : TeacherRecord). x.also) u.1.1.1)
        (λ a o v. reads4 h m a o)

    reads2 : (h p : ℕ) → Reads bs p (R2 h p) W2 (V2 h)
    reads2 h p =
        followed (single_reads Main bs (staff_spot (l + 1) p) 1 subjects fewer) (λ m. R3 h m.0 m.1) (λ t. t.main) W3 (V3 h)
        (λ m t v u. ap (λ (x : TeacherRecord). x.main) u.1.1.1.1)
        (λ m o v. reads3 h m o)

    reads1 : (p : ℕ) → Reads bs p (teacher schools subjects bs l p) teacher_bytes V1
    reads1 p =
        followed (up_to_reads Home bs (staff_spot l p) schools few) (λ h. R2 h.0 h.1) (λ t. t.home) W2 V2
        (λ h t v u. ap (λ (x : TeacherRecord). x.home) u.1.1.1.1.1)
        (λ h o v. reads2 h o)

  -- a teacher within the ranges
  abbrev Sound : TeacherRecord → Type 0
  Sound t = teacher_ok schools subjects t ≡ true

  valid_ok : (t : TeacherRecord) → V1 t → Sound t
  valid_ok t v =
      let v2 = v.1 in
      let v3 = v2.1 in
      let v4 = v3.1 in
      let v5 = v4.1 in
      and_from _ _ v.0 (and_from _ _ v2.0 (and_from _ _ v3.0.0 (and_from _ _ v3.0.1 (and_from _ _ v4.0.0 (and_from _ _ v4.0.1 (and_from _ _ v5.0 v5.1.0))))))

  ok_valid : (t : TeacherRecord) → Sound t → V1 t
  ok_valid t h =
      let h1 = and_parts _ _ h in
      let h2 = and_parts _ _ h1.1 in
      let h3 = and_parts _ _ h2.1 in
      let h4 = and_parts _ _ h3.1 in
      let h5 = and_parts _ _ h4.1 in
      let h6 = and_parts _ _ h5.1 in
      let h7 = and_parts _ _ h6.1 in
      (h1.0, (h2.0, ((h3.0, h4.0), ((h5.0, h6.0), (h7.0, (h7.1, refl))))))

  teacher_reads : (done : List TeacherRecord) (l p : ℕ) → Reads bs p (teacher schools subjects bs l p) teacher_bytes Sound
  teacher_reads done l p = alike Sound valid_ok ok_valid (reads1 l p)

  -- what the n teachers of the sheet say
  abbrev Rows : ℕ → List TeacherRecord → Type 0
  Rows n ts = (Each (λ done. Sound) [] ts × (length ts ≡ n)) × (ts ≡ ts)

  sheet : Ends bs 0 (bind (single Teachers 1 200 bs (staff_spot 1 0)) (λ n. bind (teachers n.0 schools subjects bs 2 n.1) (staff_end (2 + 6 * n.0) bs))) staff_bytes (λ ts. (within 1 200 (length ts) ≡ true) × Rows (length ts) ts)
  sheet =
      followed_to_end (single_reads Teachers bs (staff_spot 1 0) 1 200 (omega arith)) (λ n. bind (teachers n.0 schools subjects bs 2 n.1) (staff_end (2 + 6 * n.0) bs)) length (written_each teacher_bytes) Rows
      (λ n ts v u. u.0.1)
      (λ n q v. ended (repeat_reads bs (λ done. teacher schools subjects bs) 6 teacher_bytes (λ done. Sound) teacher_reads n 2 q) (λ r. fault (staff_spot (2 + 6 * n) r.1) Trailing) (λ ts. ts) (λ ts. ts) (λ ts. refl))

  pub staff_to : (ts : List TeacherRecord) → staff_of schools subjects bs ≡ Ok ts → (staff_ok schools subjects ts ≡ true) × (bs ≡ staff_bytes ts)
  staff_to ts e =
      let h = sheet_to sheet 30000 (fault (staff_spot 0 0) TooLong) ts e in
      (and_from (within 1 200 (length ts)) (every (teacher_ok schools subjects) ts) h.0.0 (each_every (teacher_ok schools subjects) [] ts h.0.1.0.0), h.1)

  pub staff_from : (ts : List TeacherRecord) → length bs ≤ 30000 → staff_ok schools subjects ts ≡ true → bs ≡ staff_bytes ts → staff_of schools subjects bs ≡ Ok ts
  staff_from ts l v e =
      let h = and_parts (within 1 200 (length ts)) (every (teacher_ok schools subjects) ts) v in
      sheet_from sheet 30000 (fault (staff_spot 0 0) TooLong) ts l (h.0, ((every_each (teacher_ok schools subjects) [] ts h.1, refl), refl)) e
