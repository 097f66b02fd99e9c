-- The calls and the log: what each call does to the wishes and the cutoffs, and what stands after a list of calls. Assumes nothing.
use Rattle.std.specs.Prelude.{ℕ, zero, suc, ◌-◌, Bool, true, false, cond, not, ◌&&◌, List, [], ◌∷◌, Some, None, Option, ◌==◌, nat_eq, nat_le, nat_lt}
use Rattle.matching.specs.Market.{Board, over_asked}

-- a call names teachers and lanes by their numbers, from 1; the tables count from 0
pub data Call : Type 0 where
  -- teacher, wish list: the teacher's wishes are now these
  wish : ℕ → List ℕ → Call
  -- lane: raise the cutoff of this over-asked lane by 1
  press : ℕ → Call
  -- raise the cutoff of every over-asked lane by 1
  sweep : Call
  -- budget: press the first over-asked lane, again and again, at most so many times
  settle : ℕ → Call
  -- end the round
  post : Call

-- f of the number, or a if there is none
abbrev pub on_some : {A : Type 0} → Option ℕ → A → (ℕ → A) → A
on_some None a f = a
on_some (Some l) a f = f l

-- the least number below n that passes the test
unfoldable pub least : (ℕ → Bool) → ℕ → Option ℕ
least p zero = None
least p (suc n) = on_some (least p n) (cond (p n) (Some n) None) (λ k. Some k)

-- the cutoffs of the lanes that pass the test go up by 1, the others stay
abbrev pub raise : (ℕ → Bool) → (ℕ → ℕ) → ℕ → ℕ
raise p cut l = cond (p l) (suc (cut l)) (cut l)

-- f, but a at t
abbrev pub put : {A : Type 0} → (ℕ → A) → ℕ → A → ℕ → A
put f t a u = cond (u == t) a (f u)

-- the cutoff of this lane goes up by 1
abbrev pub pressed : ℕ → (ℕ → ℕ) → ℕ → ℕ
pressed l cut = raise (λ k. nat_eq k l) cut

module _ (bd : Board) (ps : ℕ → List ℕ) where
  -- the first over-asked lane
  abbrev pub next : (ℕ → ℕ) → Option ℕ
  next cut = least (over_asked bd ps cut) bd.lanes

  -- budget, cutoffs: the cutoffs that settle leaves
  unfoldable pub settled : ℕ → (ℕ → ℕ) → ℕ → ℕ
  settled zero cut = cut
  settled (suc b) cut = on_some (next cut) cut (λ l. settled b (pressed l cut))

  -- budget, cutoffs: how many presses settle makes
  unfoldable pub presses : ℕ → (ℕ → ℕ) → ℕ
  presses zero cut = zero
  presses (suc b) cut = on_some (next cut) zero (λ l. suc (presses b (pressed l cut)))

-- ---- the log

-- n is one of the numbers 1 to m
abbrev pub within : ℕ → ℕ → Bool
within n m = nat_lt 0 n && nat_le n m

-- what changes from call to call: the wish lists, the cutoffs, and whether the round is ended
pub record State : Type 0 where
  pub wishes : ℕ → List ℕ
  pub cuts : ℕ → ℕ
  pub posted : Bool

-- a round begins with these wishes and every cutoff at 1
abbrev pub opened : (ℕ → List ℕ) → State
opened w = record { wishes = w; cuts = λ _. 1; posted = false }

module _ (bd : Board) where
  -- the pick lists that the wishes give
  abbrev pub picks : State → ℕ → List ℕ
  picks s t = bd.pick t (s.wishes t)

  -- the call is accepted: none is after the post; a wish must be one that its teacher may have, a press needs an over-asked lane, a post none
  abbrev pub accepted : State → Call → Bool
  accepted s (wish t w) = not s.posted && (within t bd.teachers && bd.may_wish (t - 1) w)
  accepted s (press l) = not s.posted && (within l bd.lanes && over_asked bd (picks s) s.cuts (l - 1))
  accepted s sweep = not s.posted
  accepted s (settle b) = not s.posted
  accepted s post = not s.posted && on_some (next bd (picks s) s.cuts) true (λ _. false)

  -- what an accepted call leaves; a wish sets every cutoff back to 1
  abbrev pub done : State → Call → State
  done s (wish t w) = record { wishes = put s.wishes (t - 1) w; cuts = λ _. 1; posted = s.posted }
  done s (press l) = record { wishes = s.wishes; cuts = pressed (l - 1) s.cuts; posted = s.posted }
  done s sweep = record { wishes = s.wishes; cuts = raise (over_asked bd (picks s) s.cuts) s.cuts; posted = s.posted }
  done s (settle b) = record { wishes = s.wishes; cuts = settled bd (picks s) b s.cuts; posted = s.posted }
  done s post = record { wishes = s.wishes; cuts = s.cuts; posted = true }

  -- what a call leaves: a call that is not accepted changes nothing
  unfoldable pub after : State → Call → State
  after s c = cond (accepted s c) (done s c) s

  -- the last line of the log with these calls; every line is the last line of a front of the calls
  unfoldable pub line : State → List Call → State
  line s [] = s
  line s (c ∷ cs) = line (after s c) cs
