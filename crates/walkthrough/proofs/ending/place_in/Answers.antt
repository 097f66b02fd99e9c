use Rattle.std.proofs.Common.{◌≡◌, ℕ, ltb, eqb, cond, List, length, Some, None, refl, sym, ap, ◌∙◌, one-add, rules, tests}
use Rattle.std.specs.List.{position_or_len}
use Rattle.std.proofs.lemmas.Iterator.{YieldsList-from_slice}
use Rattle.std.proofs.lemmas.Iterator.Search.{position_from_yields_List}
use Rattle.std.proofs.lemmas.List.Recursion.{is_position_or_len}
use Rattle.matching.specs.Picks.{place_of}
use Rattle.walkthrough.specs.Sources.{wished_at}
use Rattle.walkthrough.proofs.ending.place_in.Goals as goal

place_is : (s : ℕ) (xs : List ℕ) → place_of s xs ≡ position_or_len (λ x. eqb x s) xs
unfolding place_of
place_is s xs = is_position_or_len (place_of s) (λ x. eqb x s) refl (λ x ys. ap (λ n. cond (eqb x s) 0 n) (sym (one-add (place_of s ys)))) xs

wished_is : (s : ℕ) (xs : List ℕ) → wished_at s xs ≡ cond (ltb (position_or_len (λ x. eqb x s) xs) (length xs)) (Some (position_or_len (λ x. eqb x s) xs)) None
wished_is s xs = ap (λ n. cond (ltb n (length xs)) (Some n) None) (place_is s xs)

pub returns : goal.returns
returns c =
    position_from_yields_List (λ x. eqb x c.args.school) _ _ c.position.result c.position.ensures.ran (YieldsList-from_slice _ c.iter.ensures.rest) (λ x b q k. search (rules, tests))
    ∙ sym (wished_is c.args.school c.args.wishes.now)
