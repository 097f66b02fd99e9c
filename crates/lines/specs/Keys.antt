-- The keys of the lines. Assumes nothing.
use Rattle.std.specs.Prelude.{ℕ, cond, List, [], ◌∷◌, Some, None, codes, Option, ◌==◌}
use Rattle.lines.specs.declared.keys.Key.{Key}
use Rattle.lines.specs.declared.keys.Key.TheVariants.{Schools, Subjects, Lanes, Lane, List as ListKey, Teachers, Home, Main, Also, Wish, Points, Cost}

-- what stands after the front, if the bytes begin with it
abbrev pub after : List ℕ → List ℕ → Option (List ℕ)
after [] bs = Some bs
after (c ∷ cs) [] = None
after (c ∷ cs) (b ∷ bs) = cond (b == c) (after cs bs) None

-- the key and its equals sign
abbrev pub key_bytes : Key → List ℕ
key_bytes Schools = codes "schools="
key_bytes Subjects = codes "subjects="
key_bytes Lanes = codes "lanes="
key_bytes Lane = codes "lane="
key_bytes ListKey = codes "list="
key_bytes Teachers = codes "teachers="
key_bytes Home = codes "home="
key_bytes Main = codes "main="
key_bytes Also = codes "also="
key_bytes Wish = codes "wish="
key_bytes Points = codes "points="
key_bytes Cost = codes "cost="
