-- A line, as written. Assumes nothing.
use Rattle.std.specs.Prelude.{ℕ, List, [], ◌∷◌, ◌++◌}
use Rattle.text.specs.Commas.{commas}
use Rattle.lines.specs.declared.keys.Key.{Key}
use Rattle.lines.specs.Keys.{key_bytes}

-- the key, the numbers with commas between them, the byte 10
abbrev pub line : Key → List ℕ → List ℕ
line k ns = key_bytes k ++ (commas ns ++ (10 ∷ []))
