-- Where two texts differ.
use Rattle.std.specs.Prelude.{ℕ, ◌+◌, ◌==◌, List, [], ◌∷◌, length, filter, Option, Some, None, if◌then◌else◌}
use Rattle.std.specs.Str.{bytes_eq}

-- the first line, the lines counted from `line` on, at which two lists of lines differ
unfoldable pub first_difference : ℕ → List (List ℕ) → List (List ℕ) → Option ℕ
first_difference line [] [] = None
first_difference line [] (b ∷ bs) = Some line
first_difference line (a ∷ as') [] = Some line
first_difference line (a ∷ as') (b ∷ bs) = if bytes_eq a b then first_difference (line + 1) as' bs else Some line

-- the same of two texts, byte by byte: a line ends with the byte 10
unfoldable pub byte_difference : ℕ → List ℕ → List ℕ → Option ℕ
byte_difference line [] [] = None
byte_difference line [] (b ∷ bs) = Some line
byte_difference line (a ∷ as') [] = Some line
byte_difference line (a ∷ as') (b ∷ bs) = if a == b then byte_difference (if a == 10 then line + 1 else line) as' bs else Some line

-- how many line ends a text has
abbrev pub line_ends : List ℕ → ℕ
line_ends text = length (filter (λ byte. byte == 10) text)
