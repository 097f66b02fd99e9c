-- Arrays that a closure makes or of which the front is filled, and lists that a closure searches.
use Rattle.std.proofs.Common.{◌≡◌, ℕ, zero, suc, ◌+◌, ◌-◌, ◌<◌, ◌≤◌, Bool, cond, ◌≢◌, List, [], ◌∷◌, ◌++◌, length, get_or, drop, replicate, Some, sym, refl, ap, ◌∙◌, subst, ⊎_elim, arith}
use lib.ListN.{length-replicate}
use Rattle.std.proofs.lemmas.List.{get_or_past, get_or_append_left, get_or-append_right, get_or-replicate, drop-replicate}
use Rattle.std.proofs.lemmas.Bool.{cases_lt, cases_eq}
use Rattle.std.specs.Array.{IsFromFnResultFrom, IsFromFnResult}
use Rattle.std.specs.Iterator.{ActsAs}
use Rattle.std.specs.List.{find}
use Rattle.matching.specs.Picks.{first}
use denote.Param.Members.{Mut}

-- ---- an array made place by place

module _ {F B : Type 0} (g : Mut F (ℕ × Unit {0}) B) (h : ℕ → B) where
  made_from : (ys : List B) (i n : ℕ) (f : F) → ActsAs g f h → IsFromFnResultFrom g f ys i n → (t : ℕ) (d : B) → i ≤ t → t < i + n → get_or ys t d ≡ h t
  made_from ys i zero f acts w t d low high = absurd (omega arith)
  made_from ys i (suc n) f acts w t d low high = ⊎_elim
      (λ (e : t ≡ i). ap (λ (j : ℕ). get_or ys j d) e ∙ w.2.1 d ∙ (acts i w.1 w.0 w.3).1 ∙ ap h (sym e))
      (λ (k : t ≢ i). made_from ys (i + 1) n w.0 (subst (λ (p : F). ActsAs g p h) (sym (acts i w.1 w.0 w.3).0) acts) w.4 t d (omega arith) (omega arith))
      (cases_eq t i)

  pub made : (ys : List B) (n : ℕ) (f : F) → ActsAs g f h → IsFromFnResult g f ys n → (d : B) → ((t : ℕ) → n ≤ t → h t ≡ d) → (t : ℕ) → get_or ys t d ≡ h t
  made ys n f acts w d past t = ⊎_elim
      (λ (a : t < n). made_from ys 0 n f acts w.each t d (omega arith) (omega arith))
      (λ (b : n ≤ t). get_or_past ys t d (omega (arith, w.long)) ∙ sym (past t b))
      (cases_lt t n)

-- ---- an array of which the first n places are filled, and the others keep the default

spare : {B : Type 0} (n t : ℕ) (d : B) → get_or (replicate n d) t d ≡ d
spare n t d = ⊎_elim (λ (a : t < n). get_or-replicate n t d d a) (λ (b : n ≤ t). get_or_past (replicate n d) t d (omega (arith, b, length-replicate n d))) (cases_lt t n)

module _ {B : Type 0} (h : ℕ → B) (d : B) (xs : List B) (n m : ℕ) where
  pub fronted : length xs ≡ n → ((k : ℕ) → k < n → get_or xs k d ≡ h k) → ((t : ℕ) → n ≤ t → h t ≡ d) → (t : ℕ) → get_or (xs ++ drop n (replicate m d)) t d ≡ h t
  fronted long each past t = ⊎_elim
      (λ (a : t < n). get_or_append_left xs (drop n (replicate m d)) d t (omega (arith, long, a)) ∙ each t a)
      (λ (b : n ≤ t). get_or-append_right xs (drop n (replicate m d)) n t d long b ∙ ap (λ (ys : List B). get_or ys (t - n) d) (drop-replicate n m d) ∙ spare (m - n) (t - n) d ∙ sym (past t b))
      (cases_lt t n)

-- ---- a search

pub find_first : (p : ℕ → Bool) (xs : List ℕ) → find p xs ≡ first p xs
unfolding first
find_first p [] = refl
find_first p (x ∷ xs) = ap (cond (p x) (Some x)) (find_first p xs)
