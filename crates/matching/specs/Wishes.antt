-- Whose wishes stand after a list of calls, told by the calls themselves. Assumes nothing.
use Rattle.std.specs.Prelude.{◌≡◌, ℕ, ◌+◌, ◌<◌, true, ◌⊎◌, List, length, take, slice_index_or}
use Rattle.matching.specs.Market.{Board}
use Rattle.matching.specs.Log.{Call, wish, post, opened, accepted, line}

-- a round of this board that began with the wishes w, and these calls
module _ (bd : Board) (w : ℕ → List ℕ) (cs : List Call) where
  -- call k, from 0, is a wish of teacher t for the list v, and the line before it accepts it
  pub record AcceptedWish (k t : ℕ) (v : List ℕ) : Type 0 where
    pub made : k < length cs
    pub call : slice_index_or cs k post ≡ wish (t + 1) v
    pub taken : accepted bd (line bd (opened w) (take k cs)) (wish (t + 1) v) ≡ true

  -- the last accepted wish of teacher t is for the list v
  pub record LastWish (t : ℕ) (v : List ℕ) : Type 0 where
    pub index : ℕ
    pub accepts : AcceptedWish index t v
    pub none_later : (j : ℕ) (u : List ℕ) → index < j → AcceptedWish j t u → ⊥

  -- teacher t has no accepted wish, and v is the list that the round began with
  pub record NoWish (t : ℕ) (v : List ℕ) : Type 0 where
    pub none : (j : ℕ) (u : List ℕ) → AcceptedWish j t u → ⊥
    pub begun : v ≡ w t

  -- the wish list of teacher t now is v: that of the last accepted wish, or else the first list
  abbrev pub WishNow : ℕ → List ℕ → Type 0
  WishNow t v = LastWish t v ⊎ NoWish t v

-- the calls leave no doubt which list that is
abbrev pub OneWishNow : Type 0
OneWishNow = (bd : Board) (w : ℕ → List ℕ) (cs : List Call) (t : ℕ) (u v : List ℕ) → WishNow bd w cs t u → WishNow bd w cs t v → u ≡ v
