-- A page: a lent buffer, and the place up to which it is written, or would be if it had room. Assumes nothing.
use Rattle.std.specs.Prelude.{◌≡◌, ℕ, List}
use Rattle.text.specs.declared.writing.Page.{Page}
use Rattle.text.specs.Puts.{Put}

-- the bytes s were put on the page p behind what stood there, and q is the page then
pub record Gains (p : Page) (s : List ℕ) (q : Page) : Type 0 where
  -- the same buffer is lent
  pub same_buffer : q.buf.ghost_name ≡ p.buf.ghost_name
  pub put : Put p.buf.now p.at s q.buf.now q.at
