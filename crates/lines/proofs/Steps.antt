-- One step of each test over a list, and its end.
use Rattle.std.proofs.Common.{◌≡◌, ℕ, ◌+◌, ◌-◌, ◌<◌, ◌≤◌, Bool, true, not, ◌&&◌, ltb, List, length, get_or, take, drop, sym, ap, ◌∙◌}
use Rattle.std.proofs.lemmas.List.{at_drop_more, at_drop_all, take_rest}
use Rattle.lines.specs.Entries.{within, all_within, has, distinct, above}

module _ (ns : List ℕ) (i : ℕ) where
  pub distinct_more : i < length ns → distinct (drop i ns) ≡ (not (has (get_or ns i 0) (drop (i + 1) ns)) && distinct (drop (i + 1) ns))
  distinct_more l = at_drop_more distinct ns i 0 l

  -- b is what a search through the rest says
  pub distinct_step : i < length ns → (b : Bool) → b ≡ has (get_or ns i 0) (take (length ns - (i + 1)) (drop (i + 1) ns)) → distinct (drop i ns) ≡ (not b && distinct (drop (i + 1) ns))
  distinct_step l b h = distinct_more l ∙ ap (λ x. not x && distinct (drop (i + 1) ns)) (sym (rw (take_rest ns (i + 1)) at h))

  pub distinct_all : length ns ≤ i → distinct (drop i ns) ≡ true
  distinct_all l = at_drop_all distinct ns i l

pub all_within_more : (low high : ℕ) (ns : List ℕ) (i : ℕ) → i < length ns → all_within low high (drop i ns) ≡ (within low high (get_or ns i 0) && all_within low high (drop (i + 1) ns))
all_within_more low high ns i l = at_drop_more (all_within low high) ns i 0 l

pub all_within_all : (low high : ℕ) (ns : List ℕ) (i : ℕ) → length ns ≤ i → all_within low high (drop i ns) ≡ true
all_within_all low high ns i l = at_drop_all (all_within low high) ns i l

pub above_more : (b : ℕ) (ns : List ℕ) (i : ℕ) → i < length ns → above b (drop i ns) ≡ (ltb b (get_or ns i 0) && above (get_or ns i 0) (drop (i + 1) ns))
above_more b ns i l = at_drop_more (above b) ns i 0 l

pub above_all : (b : ℕ) (ns : List ℕ) (i : ℕ) → length ns ≤ i → above b (drop i ns) ≡ true
above_all b ns i l = at_drop_all (above b) ns i l
