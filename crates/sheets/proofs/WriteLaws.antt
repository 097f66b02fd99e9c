-- Records and lines of one number, put on a page.
use Rattle.std.proofs.Common.{◌≡◌, ℕ, List, [], ◌∷◌, ◌++◌, map, length, flat_map, refl, sym, ap, ◌∙◌}
use Rattle.std.proofs.lemmas.List.{length-map}
use Rattle.text.specs.declared.writing.Page.{Page}
use Rattle.text.specs.Pages.{Gains}
use Rattle.text.proofs.PageLaws.{gains_same}
use Rattle.lines.specs.declared.keys.Key.{Key}
use Rattle.lines.specs.Written.{line}
use Rattle.sheets.specs.Written.{written_each}

each_viewed : {A T : Type 0} (bytes : A → List ℕ) (view : T → A) (all : List T) → flat_map (λ t. bytes (view t)) all ≡ written_each bytes (map view all)
each_viewed bytes view [] = refl
each_viewed bytes view (t ∷ all) = ap (λ l. bytes (view t) ++ l) (each_viewed bytes view all)

module _ {p q : Page} where
  -- a line of one number, which another name has too
  pub number_line : (k : Key) {n m : ℕ} → n ≡ m → Gains p (line k (n ∷ [])) q → Gains p (line k (m ∷ [])) q
  number_line k same = gains_same (ap (λ x. line k (x ∷ [])) same)

  module _ {A T : Type 0} (view : T → A) (all : List T) (xs : List A) (same : map view all ≡ xs) where
    -- how many records there are
    pub count_line : (k : Key) → Gains p (line k (length all ∷ [])) q → Gains p (line k (length xs ∷ [])) q
    count_line k = number_line k (sym (length-map all view) ∙ ap length same)

    -- the records
    pub records : (bytes : A → List ℕ) → Gains p (flat_map (λ t. bytes (view t)) all) q → Gains p (written_each bytes xs) q
    records bytes = gains_same (each_viewed bytes view all ∙ ap (written_each bytes) same)
