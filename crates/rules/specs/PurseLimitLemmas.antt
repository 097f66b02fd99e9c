-- Choices between two tests, for the laws of the purse. Assumes nothing.
use Rattle.std.specs.Prelude.{◌≡◌, Bool, true, false, cond}

-- what both of two tests keep, a choice of them keeps
unfoldable pub choice_true : (b x y : Bool) → x ≡ true → y ≡ true → cond b x y ≡ true
choice_true true x y p q = p
choice_true false x y p q = q

unfoldable pub choice_part : (b x y x' y' : Bool) → (x ≡ true → x' ≡ true) → (y ≡ true → y' ≡ true) → cond b x y ≡ true → cond b x' y' ≡ true
choice_part true x y x' y' p q e = p e
choice_part false x y x' y' p q e = q e
