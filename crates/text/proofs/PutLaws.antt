-- Bytes written into a buffer, one after another.
use Rattle.std.proofs.Common.{◌≡◌, ℕ, zero, suc, ◌+◌, ◌^◌, ◌<◌, ◌≤◌, List, [], ◌∷◌, ◌++◌, length, get_or, take, drop, decimal, sym, refl, ap, ◌∙◌, ap₂, append_assoc, add-zero, arith, length-append, take-append-drop}
use Rattle.std.proofs.lemmas.List.{drop-drop, take_at, drop_at, length-take-le, take_more}
use Rattle.text.specs.Commas.{commas}
use Rattle.text.specs.Puts.{put, Put}

pub put_none : (d : List ℕ) (at : ℕ) → at < 2 ^ 64 → Put d at [] d at
put_none d at l = record { end = omega arith; long = refl; written = λ h. rw add-zero (sym (take-append-drop at d)) }

module _ (d : List ℕ) (at : ℕ) (s t : List ℕ) (room : at + length s ≤ length d) where
  front : List ℕ
  front = take at d ++ s

  front_length : length front ≡ at + length s
  unfolding front
  front_length = length-append (take at d) s ∙ ap (λ k. k + length s) (length-take-le at d (omega arith))

  split : put d at s ≡ front ++ drop (at + length s) d
  unfolding front
  split = sym (append_assoc (take at d) s (drop (at + length s) d))

  pub put_put : put (put d at s) (at + length s) t ≡ put d at (s ++ t)
  unfolding front
  put_put =
      let n = at + length s in
      let rest = drop n d in
      let head : take n (put d at s) ≡ front = ap (take n) split ∙ take_at front rest n front_length in
      let tail : drop (n + length t) (put d at s) ≡ drop (at + length (s ++ t)) d =
      sym (drop-drop (length t) n (put d at s)) ∙ ap (λ l. drop (length t) l) (ap (drop n) split ∙ drop_at front rest n front_length) ∙ drop-drop (length t) n d ∙ ap (λ k. drop k d) (omega (arith, length-append s t)) in
      ap₂ (λ x y. x ++ (t ++ y)) head tail ∙ append_assoc (take at d) s (t ++ drop (at + length (s ++ t)) d) ∙ ap (λ l. take at d ++ l) (sym (append_assoc s t (drop (at + length (s ++ t)) d)))

pub then : {d : List ℕ} {at : ℕ} {s e : List ℕ} {q : ℕ} {t f : List ℕ} {r : ℕ} → length d < 2 ^ 63 → Put d at s e q → Put e q t f r → Put d at (s ++ t) f r
then {d} {at} {s} {e} {q} {t} {f} {r} small a b = record {
  end = omega (arith, length-append s t, a.end, b.end);
  long = b.long ∙ a.long;
  written = λ h.
      let room : at + length s ≤ length d = omega (arith, length-append s t) in
      let more : q + length t ≤ length e = omega (arith, length-append s t, a.end, a.long) in
      let is : q ≡ at + length s = omega (arith, a.end) in
      b.written more ∙ ap₂ (λ x k. put x k t) (a.written room) is ∙ put_put d at s t room;
}

-- the i-th number of a list, counted from 0, with the comma before it
abbrev entry : ℕ → ℕ → List ℕ
entry zero n = decimal n
entry (suc i) n = 44 ∷ decimal n

commas_push : (xs : List ℕ) (x : ℕ) → commas (xs ++ x ∷ []) ≡ commas xs ++ entry (length xs) x
commas_push [] x = refl
commas_push (y ∷ []) x = refl
commas_push (y ∷ z ∷ ys) x = ap (λ l. decimal y ++ (44 ∷ l)) (commas_push (z ∷ ys) x) ∙ sym (append_assoc (decimal y) (44 ∷ commas (z ∷ ys)) (44 ∷ decimal x))

-- one number more
module _ (ns : List ℕ) (i : ℕ) (l : i < length ns) where
  more : (b : List ℕ) → b ≡ entry i (get_or ns i 0) → commas (take i ns) ++ b ≡ commas (take (i + 1) ns)
  more b e =
      ap (λ x. commas (take i ns) ++ x) e
      ∙ sym (ap commas (take_more ns i 0 l) ∙ commas_push (take i ns) (get_or ns i 0) ∙ ap (λ k. commas (take i ns) ++ entry k (get_or ns i 0)) (length-take-le i ns (omega arith)))

  pub commas_first : i ≤ 0 → commas (take i ns) ++ decimal (get_or ns i 0) ≡ commas (take (i + 1) ns)
  commas_first h = more _ (first i h)
    where
      first : (j : ℕ) → j ≤ 0 → decimal (get_or ns i 0) ≡ entry j (get_or ns i 0)
      first zero k = refl
      first (suc j) k = absurd (omega arith)

  pub commas_next : 0 < i → commas (take i ns) ++ ((44 ∷ []) ++ decimal (get_or ns i 0)) ≡ commas (take (i + 1) ns)
  commas_next h = more _ (later i h)
    where
      later : (j : ℕ) → 0 < j → 44 ∷ decimal (get_or ns i 0) ≡ entry j (get_or ns i 0)
      later zero k = absurd (omega arith)
      later (suc j) k = refl
