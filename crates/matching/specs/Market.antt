-- A matching market: teachers are the numbers below `teachers`, lanes the numbers below `lanes`. Each lane has a priority order of the teachers licensed for it,
-- and says which groups of teachers it can take (a general upper bound). Assumes nothing.
use Rattle.std.specs.Prelude.{◌≡◌, ℕ, suc, ◌<◌, Bool, true, false, cond, not, ◌&&◌, ◌⊎◌, List, Some, Option, ◌==◌, ◌≢◌, nat_le, nat_lt}
use Rattle.matching.specs.Count.{count}
use Rattle.matching.specs.Groups.{Group, nobody, Part}
use Rattle.matching.specs.Picks.{place, On, first, holds}

pub record Market : Type 0 where
  pub teachers : ℕ
  pub lanes : ℕ
  -- teacher, lane: the teacher may be given the lane
  pub licensed : ℕ → ℕ → Bool
  -- lane, teacher, teacher: in the lane's priority order the first stands before the second
  pub before : ℕ → ℕ → ℕ → Bool
  -- lane, group: the lane can take this group of teachers together (the group is feasible)
  pub fits : ℕ → Group → Bool
  -- teacher, wish list: the pick list, the teacher's preferences over lanes
  pub pick : ℕ → List ℕ → List ℕ
  -- teacher, wish list: a wish of this list is accepted
  pub may_wish : ℕ → List ℕ → Bool
  -- teacher: the main subject
  pub main : ℕ → ℕ
  -- teacher: has a post already
  pub incumbent : ℕ → Bool
  -- lane: the subject
  pub subject : ℕ → ℕ

-- the teacher is an incumbent whose main subject is the lane's: an own incumbent of the lane
abbrev pub own : Market → ℕ → ℕ → Bool
own mk t l = mk.incumbent t && mk.main t == mk.subject l

-- what every market must keep
pub record Laws (mk : Market) : Type 0 where
  -- only teachers of the market are licensed, and only for lanes of the market
  pub range : (t l : ℕ) → mk.licensed t l ≡ true → (t < mk.teachers) × (l < mk.lanes)
  -- the priority order is a strict total order of the licensed teachers: never both ways, passed on along a chain, and between any two
  pub one_way : (l a b : ℕ) → mk.licensed a l ≡ true → mk.licensed b l ≡ true → mk.before l a b ≡ true → mk.before l b a ≡ false
  pub chain : (l a b c : ℕ) → mk.licensed a l ≡ true → mk.licensed b l ≡ true → mk.licensed c l ≡ true
      → mk.before l a b ≡ true → mk.before l b c ≡ true → mk.before l a c ≡ true
  pub linear : (l a b : ℕ) → mk.licensed a l ≡ true → mk.licensed b l ≡ true → (a ≡ b) ⊎ ((mk.before l a b ≡ true) ⊎ (mk.before l b a ≡ true))
  -- the feasible groups are a hereditary family: the empty group fits, and so does every part of a group that fits
  pub empty : (l : ℕ) → mk.fits l nobody ≡ true
  pub part : (l : ℕ) (g h : Group) → Part g h → mk.fits l h ≡ true → mk.fits l g ≡ true

-- what a market with bands keeps besides: own incumbents are licensed, and stand before all others
pub record OwnLaws (mk : Market) : Type 0 where
  pub own_licensed : (t l : ℕ) → t < mk.teachers → l < mk.lanes → own mk t l ≡ true → mk.licensed t l ≡ true
  pub own_first : (l a b : ℕ) → mk.licensed a l ≡ true → mk.licensed b l ≡ true → own mk a l ≡ true → own mk b l ≡ false → mk.before l a b ≡ true

-- pick lists name only lanes that their teachers are licensed for
abbrev pub Picked : Market → (ℕ → List ℕ) → Type 0
Picked mk ps = (t l : ℕ) → t < mk.teachers → On l (ps t) → mk.licensed t l ≡ true

-- pick lists of incumbents name each lane of the main subject
abbrev pub OwnPicked : Market → (ℕ → List ℕ) → Type 0
OwnPicked mk ps = (t l : ℕ) → t < mk.teachers → l < mk.lanes → own mk t l ≡ true → On l (ps t)

module _ (mk : Market) where
  -- lane, teacher: 1 and the number of licensed teachers who stand after, so that a higher rank is a higher priority
  unfoldable pub rank : ℕ → ℕ → ℕ
  rank l t = suc (count (λ u. mk.licensed u l && mk.before l t u) mk.teachers)

  -- lane: how many teachers are licensed for it
  abbrev pub crowd : ℕ → ℕ
  crowd l = count (λ t. mk.licensed t l) mk.teachers

-- what the cutoffs work on: ranks in the place of priorities
pub record Board : Type 0 where
  pub teachers : ℕ
  pub lanes : ℕ
  -- lane, teacher: the rank, and 0 for a teacher who is not licensed
  pub rank_at : ℕ → ℕ → ℕ
  pub fits : ℕ → Group → Bool
  pub pick : ℕ → List ℕ → List ℕ
  pub may_wish : ℕ → List ℕ → Bool

-- the board of a market
abbrev pub board_of : Market → Board
board_of mk = record {
  teachers = mk.teachers;
  lanes = mk.lanes;
  rank_at = λ l t. cond (mk.licensed t l) (rank mk l t) 0;
  fits = mk.fits;
  pick = mk.pick;
  may_wish = mk.may_wish;
}

module _ (bd : Board) where
  -- cutoffs, teacher, lane: the teacher is licensed and has a rank of at least the lane's cutoff
  unfoldable pub clears : (ℕ → ℕ) → ℕ → ℕ → Bool
  clears cut t l = nat_lt 0 (bd.rank_at l t) && nat_le (cut l) (bd.rank_at l t)

  -- by pick lists and cutoffs
  module _ (ps : ℕ → List ℕ) where
    -- cutoffs, teacher: the offer, which is the best liked lane that the teacher clears (the demand at these cutoffs)
    unfoldable pub offer : (ℕ → ℕ) → ℕ → Option ℕ
    offer cut t = first (clears cut t) (ps t)

    -- cutoffs, lane: the teachers who have the offer of this lane
    abbrev pub askers : (ℕ → ℕ) → ℕ → Group
    askers cut l t = holds (offer cut t) l

    -- cutoffs, lane: the lane cannot take all its askers together
    unfoldable pub over_asked : (ℕ → ℕ) → ℕ → Bool
    over_asked cut l = nat_lt l bd.lanes && not (bd.fits l (askers cut l))

    -- cutoffs: no lane is over-asked
    abbrev pub Calm : (ℕ → ℕ) → Type 0
    Calm cut = (l : ℕ) → l < bd.lanes → over_asked cut l ≡ false

-- an assignment of teachers to lanes or to none is fair, by these pick lists
pub record Fair (mk : Market) (ps : ℕ → List ℕ) (μ : ℕ → Option ℕ) : Type 0 where
  -- who is given a lane has it on the pick list
  pub listed : (t l : ℕ) → μ t ≡ Some l → (t < mk.teachers) × On l (ps t)
  -- each lane can take those who are given it
  pub fitting : (l : ℕ) → l < mk.lanes → mk.fits l (λ t. holds (μ t) l) ≡ true
  -- no justified envy: nobody likes a lane better than what is given and stands there before one who is given it
  pub no_envy : (i t l : ℕ) → i < mk.teachers → μ t ≡ Some l → place (Some l) (ps i) < place (μ i) (ps i)
      → mk.before l i t ≢ true
