-- A list gathered item by item.
use Rattle.std.proofs.Common.{◌≡◌, ℕ, ◌+◌, ◌<◌, ◌≤◌, List, [], ◌∷◌, ◌++◌, map, length, get_or, take, sym, ap, ◌∙◌}
use Rattle.std.proofs.lemmas.List.{take_all, take_more, map_push, length-map}
use Rattle.std.proofs.lemmas.Simd.{map-map}
use Rattle.bounded.proofs.Fronts.{more_front}

-- a front of the list with the next item
pub map_more : {A B : Type 0} (f : A → B) (xs : List A) (i : ℕ) (x : A) → i < length xs → x ≡ get_or xs i x → map f (take (i + 1) xs) ≡ map f (take i xs) ++ f x ∷ []
map_more f xs i x l e = ap (map f) (take_more xs i x l ∙ ap (λ y. take i xs ++ y ∷ []) (sym e)) ∙ map_push f (take i xs) x

-- one more into a bounded list
pub gather_push : {A : Type 0} (bound : ℕ) (f : A → ℕ) (xs : List A) (i : ℕ) (x : A) (n : ℕ) (old new : List ℕ)
    → i < length xs → x ≡ get_or xs i x → n ≡ f x → old ≡ take bound (map f (take i xs)) → new ≡ take bound (old ++ n ∷ [])
    → new ≡ take bound (map f (take (i + 1) xs))
gather_push bound f xs i x n old new l e said is p =
    more_front bound [] (map f (take i xs)) (n ∷ []) old new is p ∙ ap (λ m. take bound (map f (take i xs) ++ m ∷ [])) said ∙ ap (take bound) (sym (map_more f xs i x l e))

-- all of them, by way of what each shows
pub all_gathered : {A B : Type 0} (bound : ℕ) (f : B → ℕ) (g : A → B) (xs : List A) → length xs ≤ bound → take bound (map (λ x. f (g x)) xs) ≡ map f (map g xs)
all_gathered bound f g xs h = take_all bound _ (simp length-map h) ∙ sym (map-map f g xs)
