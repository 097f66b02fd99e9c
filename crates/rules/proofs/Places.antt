-- What a table has at a number, and where a list names a teacher.
use Rattle.std.proofs.Common.{◌≡◌, ◌≢◌, ℕ, ◌+◌, ◌-◌, ◌<◌, Bool, true, false, cond, List, [], ◌∷◌, map, length, Some, None, Option, slice_get, slice_index_or, nat_lt, unwrap_or, option_map, option_copied, Bor, sym, refl, ap, ◌∙◌, add-one}
use Rattle.std.specs.List.{AllWithin, HoldsAt}
use Rattle.std.specs.Option.{MatchOption}
use Rattle.std.proofs.lemmas.Bool.{cond-true, cond-false, eq-eqb, ne_eqb}
use Rattle.std.proofs.lemmas.Iterator.{index_from_first}
use Rattle.std.proofs.lemmas.Option.{unwrap_or-slice_get, slice_get-map}
use Rattle.matching.specs.Picks.{place_of}
use Rattle.rules.specs.Views.{entry}

pub entry_get : {A : Type 0} (xs : List A) (n : ℕ) (d : A) → entry xs n d ≡ unwrap_or (cond (nat_lt 0 n) (slice_get xs (n - 1)) None) d
entry_get xs n d = of (nat_lt 0 n)
  where
    of : (b : Bool) → cond b (slice_index_or xs (n - 1) d) d ≡ unwrap_or (cond b (slice_get xs (n - 1)) None) d
    of true = sym (unwrap_or-slice_get xs (n - 1) d)
    of false = refl

map_get : {A B : Type 0} (f : A → B) (xs : List A) (n : ℕ) (b : Bool) → cond b (slice_get (map f xs) n) None ≡ option_map f (cond b (slice_get xs n) None)
map_get f xs n true = slice_get-map f xs n
map_get f xs n false = refl

-- a table's row, by what each row holds
module _ {X : Type 0} (f : X → List ℕ) (r : List ℕ) {P : Type 0} {Q : Bor X → Type 0} (none : P → r ≡ []) (some : (x : Bor X) → Q x → r ≡ f x.now) where
  shown : (o : Option (Bor X)) → MatchOption o P Q → r ≡ unwrap_or (option_map f (option_copied o)) []
  shown None p = none p
  shown (Some x) q = some x q

  pub row_read : (xs : List X) (n : ℕ) (o : Option (Bor X)) → option_copied o ≡ cond (nat_lt 0 n) (slice_get xs (n - 1)) None → MatchOption o P Q → r ≡ entry (map f xs) n []
  row_read xs n o e m = shown o m ∙ ap (λ p. unwrap_or (option_map f p) []) e ∙ ap (λ p. unwrap_or p []) (sym (map_get f xs (n - 1) (nat_lt 0 n))) ∙ sym (entry_get (map f xs) n [])

-- where a list names a teacher
module _ (t : ℕ) where
  place_start : place_of t [] ≡ 0
  unfolding place_of
  place_start = refl

  place_here : (x : ℕ) (xs : List ℕ) → x ≡ t → place_of t (x ∷ xs) ≡ 0
  unfolding place_of
  place_here x xs e = cond-true _ _ _ (eq-eqb _ _ e)

  place_more : (x : ℕ) (xs : List ℕ) → x ≢ t → place_of t (x ∷ xs) ≡ place_of t xs + 1
  unfolding place_of
  place_more x xs n = cond-false _ _ _ (ne_eqb _ _ n) ∙ sym (add-one _)

  pub place_found : (xs : List ℕ) (r : Option ℕ) → MatchOption r (AllWithin (λ x. x ≢ t) xs 0 (length xs)) (λ i. (i < length xs) × HoldsAt (λ x. x ≡ t) xs i × AllWithin (λ x. x ≢ t) xs 0 i) → place_of t xs ≡ unwrap_or r (length xs)
  place_found xs r h = index_from_first (place_of t) (λ x. x ≡ t) (λ x. x ≢ t) place_start place_here place_more xs r h
