-- The words of a line.
use Rattle.std.specs.Prelude.{ℕ, not, ◌==◌, List, length}
use Rattle.std.specs.List.{filter}
use Rattle.hwp_geom.specs.Words.{cut}

-- the words of a line: what stands between spaces
abbrev pub words_of : List ℕ → List (List ℕ)
words_of bytes = filter (λ word. not (length word == 0)) (cut bytes)
