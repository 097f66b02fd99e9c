-- Pick lists, put together piece by piece. Assumes nothing.
use Rattle.std.proofs.Common.{◌≡◌, ℕ, ◌+◌, ◌<◌, Bool, true, false, cond, List, [], ◌∷◌, ◌++◌, map, length, get_or, take, sym, refl, ap, ◌∙◌, append_assoc, append-nil, add-one}
use Rattle.std.proofs.lemmas.List.{take_more, length-map, get_or-map}
use Rattle.std.proofs.lemmas.Bool.{cond-true, cond-false, eq-eqb, ne_eqb}
use Rattle.bounded.specs.declared.list.BoundedList.{BoundedList}
use Rattle.bounded.specs.Listed.{listed}
use Rattle.bounded.proofs.Fronts.{same_front, more_front}
use Rattle.bounded.proofs.Lengths.{listed_within}
use Rattle.lines.specs.Entries.{has}
use Rattle.market.specs.Lists.{join_to, keep_to, gather}
use Rattle.market.specs.Choosing.{passing}
use Rattle.market.specs.Tables.{Person, no_lane, newcomer, unnamed, completed, main_at, also_at, at_school, pick_of}
use Rattle.sheets.specs.declared.records.Lane.{Lane}
use Rattle.sheets.specs.Model.{LaneRecord, lane_record, PostsModel}

-- ---- the pieces

pub join_start : (f : ℕ → List ℕ) → join_to f 0 ≡ []
unfolding join_to
join_start f = refl

pub join_next : (f : ℕ → List ℕ) (i : ℕ) → join_to f (i + 1) ≡ join_to f i ++ f i
unfolding join_to
join_next f i = rw add-one

pub gather-++ : (f : ℕ → List ℕ) (xs ys : List ℕ) → gather f (xs ++ ys) ≡ gather f xs ++ gather f ys
unfolding gather
gather-++ f [] ys = refl
gather-++ f (x ∷ xs) ys = ap (λ l. f x ++ l) (gather-++ f xs ys) ∙ sym (append_assoc (f x) (gather f xs) (gather f ys))

pub gather_one : (f : ℕ → List ℕ) (x : ℕ) → gather f (x ∷ []) ≡ f x
unfolding gather
gather_one f x = append-nil (f x)

pub gather_none : (f : ℕ → List ℕ) → gather f [] ≡ []
unfolding gather
gather_none f = refl

-- one wish more
pub gather_more : (f : ℕ → List ℕ) (w : List ℕ) (i : ℕ) → i < length w → gather f (take (i + 1) w) ≡ gather f (take i w) ++ f (get_or w i 0)
gather_more f w i h = ap (gather f) (take_more w i 0 h) ∙ gather-++ f (take i w) (get_or w i 0 ∷ []) ∙ ap (λ l. gather f (take i w) ++ l) (gather_one f (get_or w i 0))

-- one school more
pub unnamed_more : (f : ℕ → List ℕ) (w : List ℕ) (k : ℕ) → gather f (unnamed (k + 1) w) ≡ gather f (unnamed k w) ++ cond (has (k + 1) w) [] (f (k + 1))
unnamed_more f w k =
    ap (gather f) (join_next (λ j. cond (has (j + 1) w) [] ((j + 1) ∷ [])) k)
    ∙ gather-++ f (unnamed k w) (cond (has (k + 1) w) [] ((k + 1) ∷ []))
    ∙ ap (λ l. gather f (unnamed k w) ++ l) (one (has (k + 1) w))
  where
    one : (b : Bool) → gather f (cond b [] ((k + 1) ∷ [])) ≡ cond b [] (f (k + 1))
    one true = gather_none f
    one false = gather_one f (k + 1)

-- the lane of the main subject, then the others
pub at_school_is : (ls : List LaneRecord) (p : Person) (s : ℕ) (start xs ys : List ℕ)
    → xs ≡ take 80 (start ++ passing (main_at p s) ls) → ys ≡ take 80 (xs ++ passing (also_at p s) ls) → ys ≡ take 80 (start ++ at_school ls p s)
unfolding at_school
at_school_is ls p s start xs ys e f = more_front 80 start (passing (main_at p s) ls) (passing (also_at p s) ls) xs ys e f

-- nothing more
pub same : (out : BoundedList 80) → listed out ≡ take 80 (listed out ++ [])
same out = same_front 80 (listed out) (listed_within out)

-- ---- the lanes that pass a test

-- the first n of them
abbrev pub passing_below : (LaneRecord → Bool) → List Lane → ℕ → List ℕ
passing_below test ls n = keep_to (λ i. test (get_or (map lane_record ls) i no_lane)) n

module _ (test : LaneRecord → Bool) (ls : List Lane) where
  pub passing_start : (out : BoundedList 80) → listed out ≡ take 80 (listed out ++ passing_below test ls 0)
  passing_start out = same out ∙ ap (λ l. take 80 (listed out ++ l)) (sym (join_start (λ i. cond (test (get_or (map lane_record ls) i no_lane)) (i ∷ []) [])))

  -- one lane more
  pub passing_more : (start xs ys : List ℕ) (i : ℕ) (lane : Lane) → i < length ls → lane ≡ get_or ls i lane → xs ≡ take 80 (start ++ passing_below test ls i)
      → ys ≡ take 80 (xs ++ cond (test (lane_record lane)) (i ∷ []) []) → ys ≡ take 80 (start ++ passing_below test ls (i + 1))
  passing_more start xs ys i lane h is e f =
      more_front 80 start (join_to piece i) (piece i) xs ys e (f ∙ ap (λ r. take 80 (xs ++ cond (test r) (i ∷ []) [])) (sym read)) ∙ ap (λ l. take 80 (start ++ l)) (sym (join_next piece i))
    where
      piece : ℕ → List ℕ
      piece = λ j. cond (test (get_or (map lane_record ls) j no_lane)) (j ∷ []) []

      read : get_or (map lane_record ls) i no_lane ≡ lane_record lane
      read = get_or-map lane_record ls i lane no_lane h ∙ ap lane_record (sym is)

  pub passing_all : (all : List LaneRecord) (n : ℕ) → map lane_record ls ≡ all → n ≡ length ls → passing_below test ls n ≡ passing test all
  passing_all all n e k = ap (passing_below test ls) (k ∙ sym (length-map ls lane_record)) ∙ ap (passing test) e

-- ---- what is added under a condition

pub added_if : (b : Bool) (xs ys zs us : List ℕ) → b ≡ true → ys ≡ take 80 (xs ++ zs) → ys ≡ take 80 (xs ++ cond b zs us)
added_if b xs ys zs us e f = f ∙ ap (λ l. take 80 (xs ++ l)) (sym (cond-true b zs us e))

pub added_else : (b : Bool) (xs ys zs us : List ℕ) → b ≡ false → ys ≡ take 80 (xs ++ us) → ys ≡ take 80 (xs ++ cond b zs us)
added_else b xs ys zs us e f = f ∙ ap (λ l. take 80 (xs ++ l)) (sym (cond-false b zs us e))

-- ---- what the schools give, one after the other

pub wished_start : (f : ℕ → List ℕ) (out : BoundedList 80) → listed out ≡ take 80 (listed out ++ gather f [])
wished_start f out = same out ∙ ap (λ l. take 80 (listed out ++ l)) (sym (gather_none f))

module _ (f : ℕ → List ℕ) (w : List ℕ) where
  pub wished_more : (start xs ys : List ℕ) (i : ℕ) → i < length w → xs ≡ take 80 (start ++ gather f (take i w)) → ys ≡ take 80 (xs ++ f (get_or w i 0))
      → ys ≡ take 80 (start ++ gather f (take (i + 1) w))
  wished_more start xs ys i h e g = more_front 80 start (gather f (take i w)) (f (get_or w i 0)) xs ys e g ∙ ap (λ l. take 80 (start ++ l)) (sym (gather_more f w i h))

  pub unwished_start : (out : BoundedList 80) → listed out ≡ take 80 (listed out ++ gather f (unnamed 0 w))
  unwished_start out = wished_start f out ∙ ap (λ l. take 80 (listed out ++ gather f l)) (sym (join_start (λ k. cond (has (k + 1) w) [] ((k + 1) ∷ []))))

  pub unwished_more : (start xs ys : List ℕ) (k s : ℕ) → k + 1 ≡ s → xs ≡ take 80 (start ++ gather f (unnamed k w)) → ys ≡ take 80 (xs ++ cond (has s w) [] (f s))
      → ys ≡ take 80 (start ++ gather f (unnamed s w))
  unwished_more start xs ys k s n e g =
      more_front 80 start (gather f (unnamed k w)) (cond (has s w) [] (f s)) xs ys e g
      ∙ ap (λ l. take 80 (start ++ l)) (ap (λ j. gather f (unnamed k w) ++ cond (has j w) [] (f j)) (sym n) ∙ sym (unnamed_more f w k) ∙ ap (λ j. gather f (unnamed j w)) n)

-- the whole pick list
module _ (m : PostsModel) (p : Person) (w : List ℕ) (xs : List ℕ) (e : xs ≡ take 80 ([] ++ gather (at_school m.lanes p) w)) where
  pub picks_of_newcomer : p.home ≡ 0 → xs ≡ take 80 (pick_of m p w)
  unfolding pick_of completed
  picks_of_newcomer h = e ∙ ap (λ l. take 80 (gather (at_school m.lanes p) l)) (sym (append-nil w) ∙ ap (λ l. w ++ l) (sym (cond-true (newcomer p) [] (unnamed m.schools w) (eq-eqb p.home 0 h))))

  pub picks_of_incumbent : (p.home ≡ 0 → ⊥) → (ys : List ℕ) → ys ≡ take 80 (xs ++ gather (at_school m.lanes p) (unnamed m.schools w)) → ys ≡ take 80 (pick_of m p w)
  unfolding pick_of completed
  picks_of_incumbent h ys f =
      more_front 80 [] (gather (at_school m.lanes p) w) (gather (at_school m.lanes p) (unnamed m.schools w)) xs ys e f
      ∙ ap (take 80) (sym (gather-++ (at_school m.lanes p) w (unnamed m.schools w)))
      ∙ ap (λ l. take 80 (gather (at_school m.lanes p) (w ++ l))) (sym (cond-false (newcomer p) [] (unnamed m.schools w) (ne_eqb p.home 0 h)))
