-- A line: what is read is what is written.
use Rattle.std.proofs.Common.{◌≡◌, ℕ, ◌+◌, ◌^◌, ◌<◌, ◌≤◌, true, false, ◌&&◌, eqb, ltb, leb, List, [], ◌∷◌, ◌++◌, length, take, drop, Some, None, Ok, decimal, Option, Result, sym, refl, ap, ◌∙◌, subst, ap₂, ⊎_elim, append_assoc, add-one, one-add, arith, length-append}
use Rattle.std.specs.List.{AllByRecursion as All}
use Rattle.std.proofs.lemmas.Bool.{cases_Bool, ne_eqb, eq-eqb, eqb-true, ltb-true, lt-ltb, leb-true, le-leb, and_parts}
use Rattle.std.proofs.lemmas.Fmt.{digits_decimal}
use Rattle.std.proofs.lemmas.Str.Parse.{not_in_digits}
use Rattle.std.proofs.ByRecursion.{All-from_get_or, All-append}
use Rattle.std.proofs.lemmas.List.{drop-drop, take_at, length-take-le}
use Rattle.text.specs.Number.{before}
use Rattle.text.specs.Commas.{commas, numbers}
use Rattle.text.proofs.Numbers.{own}
use Rattle.text.proofs.Lists.{numbers_canonical, numbers_commas}
use Rattle.lines.specs.declared.keys.Key.{Key}
use Rattle.lines.specs.declared.keys.Key.TheVariants.{Schools, Subjects, Lanes, Lane, List as ListKey, Teachers, Home, Main, Also, Wish, Points, Cost}
use Rattle.lines.specs.declared.faults.Fault.{Fault}
use Rattle.lines.specs.declared.faults.Spot.{Spot}
use Rattle.lines.specs.Keys.{after, key_bytes}
use Rattle.lines.specs.Faults.{bind}
use Rattle.lines.specs.Lines.{Shape, value_of, place_of, shaped, first_line, line_at, keyed, line_of, counted, field}
use Rattle.lines.specs.Written.{line}
use Rattle.lines.proofs.Fronts.{after_front, after_some}
use Rattle.lines.proofs.Readers.{Step, Reads, bound, bind_to, ok_same, cond_ok}

-- the first byte b
before_split : (b : ℕ) (bs : List ℕ) → before b bs < length bs → bs ≡ take (before b bs) bs ++ (b ∷ drop (before b bs + 1) bs)
before_split b [] l = absurd (omega arith)
before_split b (c ∷ cs) l =
    ⊎_elim
    (λ (t : eqb c b ≡ true). rw t (ap (λ x. x ∷ cs) (eqb-true c b t)))
    (λ (f : eqb c b ≡ false). let q : before b cs < length cs = omega (arith, rw f at l) in simp (f, one-add, add-one) (ap (λ x. c ∷ x) (simp add-one at (before_split b cs q))))
    (cases_Bool (eqb c b))

abbrev Without : ℕ → List ℕ → Type 0
Without b l = All (λ c. c ≡ b → ⊥) l

before_at : (b : ℕ) (l r : List ℕ) → Without b l → before b (l ++ (b ∷ r)) ≡ length l
before_at b [] r h = rw (eq-eqb b b refl)
before_at b (c ∷ l) r h = rw (ne_eqb c b h.0, before_at b l r h.1, one-add)

-- no key and no number has the byte that ends a line
decimal_without : (n : ℕ) → n < 2 ^ 16 → Without 10 (decimal n)
decimal_without n h =
    All-from_get_or (λ c. c ≡ 10 → ⊥) (decimal n) 0 (not_in_digits own (decimal n) 10 (digits_decimal own n (omega arith)) (omega arith))

commas_without : (ns : List ℕ) → All (λ n. n < 2 ^ 16) ns → Without 10 (commas ns)
commas_without [] h = tt
commas_without (n ∷ []) h = decimal_without n h.0
commas_without (n ∷ m ∷ ns) h =
    All-append (λ c. c ≡ 10 → ⊥) (decimal n) (44 ∷ commas (m ∷ ns)) (decimal_without n h.0) (omega arith, commas_without (m ∷ ns) h.1)

key_without : (k : Key) → Without 10 (key_bytes k)
key_without Schools = omega arith
key_without Subjects = omega arith
key_without Lanes = omega arith
key_without Lane = omega arith
key_without ListKey = omega arith
key_without Teachers = omega arith
key_without Home = omega arith
key_without Main = omega arith
key_without Also = omega arith
key_without Wish = omega arith
key_without Points = omega arith
key_without Cost = omega arith

-- the line with its end
first_to : (rest : List ℕ) (s : Spot) (l : List ℕ) → first_line rest s ≡ Ok l → rest ≡ l ++ (10 ∷ drop (length l + 1) rest)
first_to rest s l e =
    let z = cond_ok (ltb (before 10 rest) (length rest)) (take (before 10 rest) rest) l _ e in
    let lt = ltb-true (before 10 rest) (length rest) z.0 in
    let n : length l ≡ before 10 rest = sym (ap length z.1) ∙ length-take-le (before 10 rest) rest (omega arith) in
    before_split 10 rest lt ∙ ap₂ (λ x k. x ++ (10 ∷ drop (k + 1) rest)) z.1 (sym n)

line_to : (bs : List ℕ) (s : Spot) (l : List ℕ) → line_at bs s ≡ Ok l → drop s.place bs ≡ l ++ (10 ∷ drop (s.place + (length l + 1)) bs)
line_to bs s l e = first_to (drop s.place bs) s l e ∙ ap (λ r. l ++ (10 ∷ r)) (drop-drop (length l + 1) s.place bs)

line_from : (bs : List ℕ) (s : Spot) (l rest : List ℕ) → Without 10 l → drop s.place bs ≡ l ++ (10 ∷ rest) → line_at bs s ≡ Ok l
line_from bs s l rest h e =
    let n : before 10 (l ++ (10 ∷ rest)) ≡ length l = before_at 10 l rest h in
    let m : length l < length (l ++ (10 ∷ rest)) = simp length-append (omega arith) in
    ap (λ r. first_line r s) e ∙ rw (n, lt-ltb (length l) (length (l ++ (10 ∷ rest))) m, take_at l (10 ∷ rest) (length l) refl)

-- a line's shape keeps its value and their place
value_shaped : (k : Key) (v : List ℕ) (p : ℕ) → value_of (shaped k v p) ≡ v
value_shaped Schools v p = refl
value_shaped Subjects v p = refl
value_shaped Lanes v p = refl
value_shaped Lane v p = refl
value_shaped ListKey v p = refl
value_shaped Teachers v p = refl
value_shaped Home v p = refl
value_shaped Main v p = refl
value_shaped Also v p = refl
value_shaped Wish v p = refl
value_shaped Points v p = refl
value_shaped Cost v p = refl

place_shaped : (k : Key) (v : List ℕ) (p : ℕ) → place_of (shaped k v p) ≡ p
place_shaped Schools v p = refl
place_shaped Subjects v p = refl
place_shaped Lanes v p = refl
place_shaped Lane v p = refl
place_shaped ListKey v p = refl
place_shaped Teachers v p = refl
place_shaped Home v p = refl
place_shaped Main v p = refl
place_shaped Also v p = refl
place_shaped Wish v p = refl
place_shaped Points v p = refl
place_shaped Cost v p = refl

-- the numbers of a line
pub record Fits (least most : ℕ) (ns : List ℕ) : Type 0 where
  pub low : least ≤ length ns
  pub high : length ns ≤ most
  pub small : All (λ n. n < 2 ^ 16) ns

counted_to : (least most : ℕ) (s : Spot) (v ns : List ℕ) → counted least most s (numbers v) ≡ Ok ns → (v ≡ commas ns) × Fits least most ns
counted_to least most s v ns e = by (numbers v) refl e
  where
    by : (o : Option (List ℕ)) → numbers v ≡ o → counted least most s o ≡ Ok ns → (v ≡ commas ns) × Fits least most ns
    by None is e = absurd (grind arith)
    by (Some ms) is e =
        let z = cond_ok (leb least (length ms) && leb (length ms) most) ms ns _ e in
        let c = numbers_canonical v ns (is ∙ ap Some z.1) in
        let t = and_parts (leb least (length ms)) (leb (length ms) most) z.0 in
        (c.0, record { low = subst (λ l. least ≤ length l) z.1 (leb-true _ _ t.0); high = subst (λ l. length l ≤ most) z.1 (leb-true _ _ t.1); small = c.1 })

counted_from : (least most : ℕ) (s : Spot) (ns : List ℕ) → Fits least most ns → counted least most s (numbers (commas ns)) ≡ Ok ns
counted_from least most s ns h =
    rw (numbers_commas ns h.small, le-leb least (length ns) h.low, le-leb (length ns) most h.high)

keyed_to : (k : Key) (s : Spot) (l : List ℕ) (x : Shape) → keyed k s (after (key_bytes k) l) ≡ Ok x → (l ≡ key_bytes k ++ value_of x) × (place_of x ≡ s.place + length (key_bytes k))
keyed_to k s l x e = by (after (key_bytes k) l) refl e
  where
    by : (o : Option (List ℕ)) → after (key_bytes k) l ≡ o → keyed k s o ≡ Ok x → (l ≡ key_bytes k ++ value_of x) × (place_of x ≡ s.place + length (key_bytes k))
    by None is e = absurd (grind arith)
    by (Some v) is e =
        let p = s.place + length (key_bytes k) in
        let same = ok_same (shaped k v p) x e in (
          after_some (key_bytes k) l v is ∙ ap (λ y. key_bytes k ++ y) (sym (value_shaped k v p) ∙ ap value_of same),
          sym (ap place_of same) ∙ place_shaped k v p,
        )

module _ (k : Key) (least most : ℕ) (bs : List ℕ) (s : Spot) where
  abbrev numbered : Shape → Result (List ℕ × ℕ) Fault
  numbered x = bind (counted least most s (numbers (value_of x))) (λ ns. Ok (ns, place_of x + length (value_of x) + 1))

  joined : (ns r : List ℕ) → (key_bytes k ++ commas ns) ++ (10 ∷ r) ≡ line k ns ++ r
  joined ns r = simp append_assoc

  -- the place behind the line
  far : (ns : List ℕ) → s.place + length (line k ns) ≡ s.place + length (key_bytes k) + length (commas ns) + 1
  far ns = simp length-append (omega arith)

  step : (l : List ℕ) (x : Shape) (ns : List ℕ) (q : ℕ) → line_at bs s ≡ Ok l → (l ≡ key_bytes k ++ value_of x) × (place_of x ≡ s.place + length (key_bytes k)) → value_of x ≡ commas ns → place_of x + length (value_of x) + 1 ≡ q → Step bs s.place (line k ns) q
  step l x ns q a b v e =
      let is : l ≡ key_bytes k ++ commas ns = b.0 ∙ ap (λ y. key_bytes k ++ y) v in
      let q_is : q ≡ s.place + length (line k ns) = omega (arith, far ns, ap length v) in
      let n : s.place + (length l + 1) ≡ q = omega (arith, far ns, ap length is, length-append (key_bytes k) (commas ns)) in
      record { far = q_is; bytes = line_to bs s l a ∙ ap₂ (λ x n. x ++ (10 ∷ drop n bs)) is n ∙ joined ns (drop q bs) }

  pub field_reads : Reads bs s.place (field k least most bs s) (line k) (Fits least most)
  field_reads = record {
    to = λ ns q e.
        bound (line_of k bs s) numbered (ns, q) e (λ x e1 f1.
        bound (line_at bs s) (λ l. keyed k s (after (key_bytes k) l)) x e1 (λ l e2 f2.
        bound (counted least most s (numbers (value_of x))) (λ ns. Ok (ns, place_of x + length (value_of x) + 1)) (ns, q) f1 (λ ms e3 f3.
        let same = ok_same _ _ f3 in
        let v = counted_to least most s (value_of x) ns (e3 ∙ ap (λ z. Ok z.0) same) in
        (v.1, step l x ns q e2 (keyed_to k s l x f2) v.0 (ap (λ z. z.1) same)))));
    from = λ ns rest h e.
        let l = key_bytes k ++ commas ns in
        let p = s.place + length (key_bytes k) in
        let x = shaped k (commas ns) p in
        let f = line_from bs s l rest (All-append (λ c. c ≡ 10 → ⊥) (key_bytes k) (commas ns) (key_without k) (commas_without ns h.small)) (e ∙ sym (joined ns rest)) in
        let of : line_of k bs s ≡ Ok x = bind_to (line_at bs s) (λ l. keyed k s (after (key_bytes k) l)) l f ∙ ap (keyed k s) (after_front (key_bytes k) (commas ns)) in
        let v : value_of x ≡ commas ns = value_shaped k (commas ns) p in
        let w : place_of x ≡ p = place_shaped k (commas ns) p in
        bind_to (line_of k bs s) numbered x of
        ∙ bind_to (counted least most s (numbers (value_of x))) (λ ns. Ok (ns, place_of x + length (value_of x) + 1)) ns (ap (λ y. counted least most s (numbers y)) v ∙ counted_from least most s ns h)
        ∙ ap₂ (λ (y : List ℕ) (o : ℕ). Ok (ns, o + length y + 1)) v w
        ∙ ap (λ n. Ok (ns, n)) (sym (far ns));
  }
