-- Sums over a group: a teacher who is out adds nothing.
use Rattle.std.specs.Prelude.{◌≡◌, ℕ, zero, suc, ◌+◌, ◌-◌, ◌<◌, ◌≤◌, Bool, true, false, cond, not, ◌&&◌, List, length, ◌==◌, ◌≢◌, nat_le, slice_index, slice_index_or, refl}
use Rattle.std.proofs.Common.{sym, ap, ◌∙◌, inl, inr, arith, add-zero, add-one}
use Rattle.std.proofs.lemmas.List.{get_or_past}
use Rattle.std.proofs.lemmas.Bool.{cases_lt, le-ltb, lt-ltb, and_left, and_right, and_from, eq-eqb, eqb-true, ne_eqb, true≢false, le-leb, leb-true}
use Rattle.matching.specs.Count.{sum_to, bit}
use Rattle.matching.specs.Groups.{Group, nobody, told, Part}
use Rattle.matching.proofs.Counts.{sum_le}

-- what each limit counts
abbrev pub heads : Bool → ℕ → ℕ
heads b t = bit b

abbrev pub worth : List ℕ → Bool → ℕ → ℕ
worth costs b t = cond b (slice_index costs t) 0

abbrev pub newcomer : List ℕ → Bool → ℕ → ℕ
newcomer homes b t = bit (b && slice_index_or homes t 1 == 0)

-- what the members below n add, where f b t is what t adds, in or out
abbrev pub tally : (Bool → ℕ → ℕ) → Group → ℕ → ℕ
tally f g n = sum_to (λ t. f (g t) t) n

pub tally_start : (f : Bool → ℕ → ℕ) (g : Group) → 0 ≡ tally f g 0
unfolding sum_to
tally_start f g = refl

told_past : (row : List ℕ) (n k : ℕ) → (n < 200 → length row ≤ n) → n ≤ k → told row k ≡ false
told_past row n k short h = elim (cases_lt n 200) [
  | inl l ↦ and_right _ _ (ap not (eq-eqb _ _ (get_or_past row k 0 (omega (arith, short l)))))
  | inr m ↦ and_left _ _ (le-ltb k 200 (omega arith))
]

sum_more : (f : ℕ → ℕ) (n : ℕ) → sum_to f (suc n) ≡ f n + sum_to f n
unfolding sum_to
sum_more f n = refl

-- from n on nothing is added
sum_stop : (f : ℕ → ℕ) (n : ℕ) → ((k : ℕ) → n ≤ k → f k ≡ 0) → (d : ℕ) → sum_to f (n + d) ≡ sum_to f n
sum_stop f n none zero = ap (sum_to f) (add-zero n)
sum_stop f n none (suc d) =
    let e : n + suc d ≡ suc (n + d) = omega arith in
    ap (sum_to f) e ∙ omega (arith, sum_more f (n + d), none (n + d) (omega arith), sum_stop f n none d)

sum_none : (n : ℕ) → sum_to (λ _. 0) n ≡ 0
unfolding sum_to
sum_none zero = refl
sum_none (suc n) = omega (arith, sum_none n)

part_le : (b c : Bool) (x : Bool → ℕ) → x false ≡ 0 → (b ≡ true → c ≡ true) → x b ≤ x c
part_le true true x none h = omega arith
part_le true false x none h = absurd (true≢false (sym (h refl)))
part_le false c x none h = omega arith

module _ (f : Bool → ℕ → ℕ) (none : (t : ℕ) → f false t ≡ 0) where
  pub tally_nobody : (n : ℕ) → tally f nobody n ≤ 0
  tally_nobody n = omega (arith, sum_le (λ t. f false t) (λ _. 0) n (λ t _. omega (arith, none t)), sum_none n)

  -- a part adds no more
  pub tally_part : (g h : Group) → Part h g → (n : ℕ) → tally f h n ≤ tally f g n
  tally_part g h p n = sum_le _ _ n (λ t _. part_le (h t) (g t) (λ b. f b t) (none t) (p t))

  -- at most so much: the empty group, and the parts of a group that keeps to it
  pub most_nobody : (n most : ℕ) → nat_le (tally f nobody n) most ≡ true
  most_nobody n most = le-leb _ _ (omega (arith, tally_nobody n))

  pub most_part : (n most : ℕ) (g h : Group) → Part h g → nat_le (tally f g n) most ≡ true → nat_le (tally f h n) most ≡ true
  most_part n most g h p e = le-leb _ _ (omega (arith, tally_part g h p n, leb-true (tally f g n) most e))

  pub none_nobody : (n : ℕ) → (tally f nobody n == 0) ≡ true
  none_nobody n = eq-eqb _ _ (omega (arith, tally_nobody n))

  pub none_part : (n : ℕ) (g h : Group) → Part h g → (tally f g n == 0) ≡ true → (tally f h n == 0) ≡ true
  none_part n g h p e = eq-eqb _ _ (omega (arith, tally_part g h p n, eqb-true (tally f g n) 0 e))

  -- one turn of a loop over the row
  pub tally_in : (row : List ℕ) (i : ℕ) → i < 200 → (slice_index row i ≢ 0) → tally f (told row) (i + 1) ≡ tally f (told row) i + f true i
  tally_in row i l ne =
      let e : told row i ≡ true = and_from _ _ (lt-ltb i 200 l) (ap not (ne_eqb _ _ ne)) in
      ap (tally f (told row)) (add-one i) ∙ omega (arith, sum_more (λ t. f (told row t) t) i, ap (λ b. f b i) e)

  pub tally_out : (row : List ℕ) (i : ℕ) → slice_index row i ≡ 0 → tally f (told row) (i + 1) ≡ tally f (told row) i
  tally_out row i z =
      let e : told row i ≡ false = and_right _ _ (ap not (eq-eqb _ _ z)) in
      ap (tally f (told row)) (add-one i) ∙ omega (arith, sum_more (λ t. f (told row t) t) i, ap (λ b. f b i) e, none i)

  -- a loop over the row's first bytes, at most 200, has seen the whole group
  pub tally_row : (row : List ℕ) (n : ℕ) → n ≤ 200 → (n < 200 → length row ≤ n) → tally f (told row) n ≡ tally f (told row) 200
  tally_row row n le short =
      let e : n + (200 - n) ≡ 200 = omega arith in
      let out : (k : ℕ) → n ≤ k → f (told row k) k ≡ 0 = λ k h. ap (λ b. f b k) (told_past row n k short h) ∙ none k in
      sym (sum_stop (λ t. f (told row t) t) n out (200 - n)) ∙ ap (tally f (told row)) e
