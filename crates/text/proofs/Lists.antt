-- A list is read from its numbers with commas between them, and from no other bytes.
use Rattle.std.proofs.Common.{◌≡◌, ℕ, ◌+◌, ◌-◌, ◌^◌, ◌<◌, ◌≤◌, true, false, eqb, List, [], ◌∷◌, ◌++◌, map, length, take, drop, Some, None, decimal, Option, sym, refl, ap, ◌∙◌, ap₂, ⊎_elim, append_assoc, add-one, one-add, arith, length-append}
use native.Mathlib.Nat.{sub-zero}
use Rattle.std.specs.List.{AllByRecursion as All}
use Rattle.std.proofs.lemmas.Bool.{cases_Bool, cases_lt, cond_both, ne_eqb, eqb-true, le-leb, lt-leb}
use Rattle.std.proofs.lemmas.Fmt.{digits_decimal, decimal_nonempty}
use Rattle.std.proofs.lemmas.Str.Parse.{not_in_digits}
use Rattle.std.proofs.ByRecursion.{All-from_get_or}
use Rattle.std.proofs.lemmas.List.{take_all, take_rest}
use Rattle.text.specs.Number.{number, before}
use Rattle.text.specs.Commas.{join, commas, onto, pieces, both, each, numbers, prepend, capped}
use Rattle.text.proofs.Numbers.{own, number_canonical, number_decimal}

-- the pieces joined are the bytes
join_onto : (c : ℕ) (ps : List (List ℕ)) → join (onto c ps) ≡ c ∷ join ps
join_onto c [] = refl
join_onto c (p ∷ []) = refl
join_onto c (p ∷ q ∷ ps) = refl

pieces_some : (bs : List ℕ) → 0 < length (pieces bs)
pieces_some [] = omega arith
pieces_some (c ∷ cs) = cond_both (eqb c 44) ([] ∷ pieces cs) (onto c (pieces cs)) (λ l. 0 < length l) (λ _. omega arith) (λ _. onto_some (pieces cs))
  where
    onto_some : (ps : List (List ℕ)) → 0 < length (onto c ps)
    onto_some [] = omega arith
    onto_some (p ∷ ps) = omega arith

join_empty : (ps : List (List ℕ)) → 0 < length ps → join ([] ∷ ps) ≡ 44 ∷ join ps
join_empty [] h = absurd (omega arith)
join_empty (p ∷ ps) h = refl

pub join_pieces : (bs : List ℕ) → join (pieces bs) ≡ bs
join_pieces [] = refl
join_pieces (c ∷ cs) =
    ⊎_elim
    (λ t. rw t (join_empty (pieces cs) (pieces_some cs) ∙ ap₂ (λ x l. x ∷ l) (sym (eqb-true c 44 t)) (join_pieces cs)))
    (λ f. rw f (join_onto c (pieces cs) ∙ ap (λ l. c ∷ l) (join_pieces cs)))
    (cases_Bool (eqb c 44))

-- a piece has no comma in it
abbrev pub Plain : List ℕ → Type 0
Plain p = All (λ c. c ≡ 44 → ⊥) p

pub pieces_one : (p : List ℕ) → Plain p → pieces p ≡ p ∷ []
pieces_one [] h = refl
pieces_one (c ∷ p) h = rw (ne_eqb c 44 h.0, pieces_one p h.1)

pub pieces_more : (p bs : List ℕ) → Plain p → pieces (p ++ (44 ∷ bs)) ≡ p ∷ pieces bs
pieces_more [] bs h = refl
pieces_more (c ∷ p) bs h = rw (ne_eqb c 44 h.0, pieces_more p bs h.1)

pub pieces_join : (p : List ℕ) (ps : List (List ℕ)) → All Plain (p ∷ ps) → pieces (join (p ∷ ps)) ≡ p ∷ ps
pieces_join p [] h = pieces_one p h.0
pieces_join p (q ∷ ps) h = pieces_more p (join (q ∷ ps)) h.0 ∙ ap (λ l. p ∷ l) (pieces_join q ps h.1)

-- at the first comma
pub pieces_last : (bs : List ℕ) → before 44 bs ≡ length bs → pieces bs ≡ bs ∷ []
pieces_last [] e = refl
pieces_last (c ∷ cs) e =
    ⊎_elim
    (λ (t : eqb c 44 ≡ true). absurd (omega (arith, rw t at e)))
    (λ (f : eqb c 44 ≡ false). let q : before 44 cs ≡ length cs = omega (arith, rw f at e) in rw (f, pieces_last cs q))
    (cases_Bool (eqb c 44))

pub pieces_cut : (bs : List ℕ) → before 44 bs < length bs → pieces bs ≡ take (before 44 bs) bs ∷ pieces (drop (before 44 bs + 1) bs)
pieces_cut [] l = absurd (omega arith)
pieces_cut (c ∷ cs) l =
    ⊎_elim
    (λ t. rw t refl)
    (λ (f : eqb c 44 ≡ false). let q : before 44 cs < length cs = omega (arith, rw f at l) in simp (f, one-add, pieces_cut cs q, add-one))
    (cases_Bool (eqb c 44))

both_parts : (o : Option ℕ) (q : Option (List ℕ)) (ns : List ℕ) → both o q ≡ Some ns → (n : ℕ) × (ms : List ℕ) × (o ≡ Some n) × (q ≡ Some ms) × (ns ≡ n ∷ ms)
both_parts None q ns e = absurd (grind arith)
both_parts (Some n) None ns e = absurd (grind arith)
both_parts (Some n) (Some ms) ns e = (n, ms, refl, refl, grind arith)

-- canonical, for the pieces
pub each_canonical : (ps : List (List ℕ)) (ns : List ℕ) → each ps ≡ Some ns → (ps ≡ map decimal ns) × All (λ n. n < 2 ^ 16) ns
each_canonical [] ns e = let z : ns ≡ [] = cc in rw z (refl, tt)
each_canonical (p ∷ ps) ns e =
    let b = both_parts (number p) (each ps) ns e in
    let h = number_canonical p b.0 b.2 in
    let t = each_canonical ps b.1 b.3 in
    rw b.4 (ap₂ (λ x l. x ∷ l) h.0 t.0, (h.1, t.1))

pub each_decimal : (ns : List ℕ) → All (λ n. n < 2 ^ 16) ns → each (map decimal ns) ≡ Some ns
each_decimal [] h = refl
each_decimal (n ∷ ns) h = rw (number_decimal n h.0, each_decimal ns h.1)

plain_decimal : (n : ℕ) → n < 2 ^ 16 → Plain (decimal n)
plain_decimal n h =
    All-from_get_or (λ c. c ≡ 44 → ⊥) (decimal n) 0 (not_in_digits own (decimal n) 44 (digits_decimal own n (omega arith)) (omega arith))

plain_decimals : (ns : List ℕ) → All (λ n. n < 2 ^ 16) ns → All Plain (map decimal ns)
plain_decimals [] h = tt
plain_decimals (n ∷ ns) h = (plain_decimal n h.0, plain_decimals ns h.1)

pub numbers_canonical : (v ns : List ℕ) → numbers v ≡ Some ns → (v ≡ commas ns) × All (λ n. n < 2 ^ 16) ns
numbers_canonical [] ns e = let z : ns ≡ [] = cc in rw z (refl, tt)
numbers_canonical (b ∷ bs) ns e =
    let p = each_canonical (pieces (b ∷ bs)) ns e in
    (sym (join_pieces (b ∷ bs)) ∙ ap join p.0, p.1)

join_some : (p : List ℕ) (ps : List (List ℕ)) → 0 < length p → 0 < length (join (p ∷ ps))
join_some p [] h = h
join_some p (q ∷ ps) h = simp length-append (omega arith)

some_numbers : (v : List ℕ) → 0 < length v → numbers v ≡ each (pieces v)
some_numbers [] h = absurd (omega arith)
some_numbers (b ∷ bs) h = refl

pub numbers_commas : (ns : List ℕ) → All (λ n. n < 2 ^ 16) ns → numbers (commas ns) ≡ Some ns
numbers_commas [] h = refl
numbers_commas (n ∷ ns) h =
    some_numbers (commas (n ∷ ns)) (join_some (decimal n) (map decimal ns) (decimal_nonempty n (omega (arith, h.0))))
    ∙ ap each (pieces_join (decimal n) (map decimal ns) (plain_decimals (n ∷ ns) h))
    ∙ each_decimal (n ∷ ns) h

-- one turn of the loop over the pieces: ns are the numbers so far, rest is what is left, k the place of its first comma
module _ (v ns rest : List ℕ) (k : ℕ) (is : k ≡ before 44 rest) (within : k ≤ length rest) (sofar : numbers v ≡ prepend ns (each (pieces rest))) where
  at_end : (o : Option ℕ) → o ≡ number (take (k - 0) rest) → k ≡ length rest → each (pieces rest) ≡ both o (Some [])
  at_end o h e =
      let whole : take (k - 0) rest ≡ rest = take_all (k - 0) rest (omega arith) in
      ap each (pieces_last rest (sym is ∙ e)) ∙ ap (λ x. both x (Some [])) (ap number (sym whole) ∙ sym h)

  inside : (o : Option ℕ) → o ≡ number (take (k - 0) rest) → k < length rest → each (pieces rest) ≡ both o (each (pieces (drop (k + 1) rest)))
  inside o h l =
      let cut : pieces rest ≡ take k rest ∷ pieces (drop (k + 1) rest) = rw is (pieces_cut rest (omega arith)) in
      ap each cut ∙ ap (λ x. both x (each (pieces (drop (k + 1) rest)))) (sym (rw sub-zero at h))

  pub turn_bad : None ≡ number (take (k - 0) rest) → None ≡ numbers v
  turn_bad h =
      sym (sofar ∙ ap (prepend ns) {y = None} (⊎_elim (λ l. inside None h l) (λ g. at_end None h (omega arith)) (cases_lt k (length rest))))

  -- no place is left for the number n
  pub turn_full : (most n : ℕ) → Some n ≡ number (take (k - 0) rest) → most ≤ length ns → None ≡ capped most (numbers v)
  turn_full most n h full =
      sym (ap (capped most) sofar ∙ ⊎_elim (λ l. ap (λ o. capped most (prepend ns o)) (inside (Some n) h l) ∙ over (each (pieces (drop (k + 1) rest)))) (λ g. ap (λ o. capped most (prepend ns o)) (at_end (Some n) h (omega arith)) ∙ over (Some [])) (cases_lt k (length rest)))
    where
      over : (o : Option (List ℕ)) → capped most (prepend ns (both (Some n) o)) ≡ None
      over None = refl
      over (Some ms) = rw (lt-leb (length (ns ++ n ∷ ms)) most (simp length-append (omega arith)))

  module _ (n : ℕ) (h : Some n ≡ number (take (k - 0) rest)) (out : List ℕ) (pushed : out ≡ ns ++ n ∷ []) where
    pub turn_last : k ≡ length rest → Some out ≡ numbers v
    turn_last e = ap Some pushed ∙ sym (sofar ∙ ap (prepend ns) (at_end (Some n) h e))

    pub turn_more : (k ≡ length rest → ⊥) → numbers v ≡ prepend out (each (pieces (take (length rest - (k + 1)) (drop (k + 1) rest))))
    turn_more ne =
        let rest' = drop (k + 1) rest in
        rw (take_rest rest (k + 1), pushed) (sofar ∙ ap (prepend ns) (inside (Some n) h (omega arith)) ∙ prepend_both (each (pieces rest')))
      where
        prepend_both : (o : Option (List ℕ)) → prepend ns (both (Some n) o) ≡ prepend (ns ++ n ∷ []) o
        prepend_both None = refl
        prepend_both (Some ms) = ap Some (sym (append_assoc ns (n ∷ []) ms))

pub within_cap : (most : ℕ) (ns : List ℕ) → length ns ≤ most → capped most (Some ns) ≡ Some ns
within_cap most ns l = rw (le-leb (length ns) most l)
