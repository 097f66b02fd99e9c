-- Texts put on a page, one behind another.
use Rattle.std.proofs.Common.{◌≡◌, ℕ, ◌+◌, ◌^◌, ◌<◌, List, [], ◌∷◌, ◌++◌, length, get_or, take, flat_map, sym, refl, ap, ◌∙◌, subst, append-nil}
use Rattle.std.proofs.lemmas.List.{take_more}
use Rattle.std.proofs.lemmas.Grind.{flat_map-append}
use Rattle.text.specs.declared.writing.Page.{Page}
use Rattle.text.specs.Pages.{Gains}
use Rattle.text.proofs.PutLaws as puts

pub nothing : (p : Page) → p.at < 2 ^ 64 → Gains p [] p
nothing p l = record { same_buffer = refl; put = puts.put_none p.buf.now p.at l }

pub then : {p q r : Page} {s t : List ℕ} → length p.buf.now < 2 ^ 63 → Gains p s q → Gains q t r → Gains p (s ++ t) r
then small a b = record { same_buffer = b.same_buffer ∙ a.same_buffer; put = puts.then small a.put b.put }

-- the same bytes, told otherwise
pub gains_same : {p q : Page} {s s' : List ℕ} → s ≡ s' → Gains p s q → Gains p s' q
gains_same {p} {q} same h = subst (λ x. Gains p x q) same h

-- one text more
pub each_more : {A : Type 0} (bytes : A → List ℕ) (all : List A) (i : ℕ) (x : A) → i < length all → x ≡ get_or all i x → flat_map bytes (take i all) ++ bytes x ≡ flat_map bytes (take (i + 1) all)
each_more bytes all i x l e =
    ap (λ y. flat_map bytes (take i all) ++ bytes y) e
    ∙ sym (ap (flat_map bytes) (take_more all i x l) ∙ flat_map-append bytes (take i all) (get_or all i x ∷ []) ∙ ap (λ l. flat_map bytes (take i all) ++ l) (append-nil (bytes (get_or all i x))))
