-- Texts of lines that each have a form, and the line at which another text fails. A form is told how many lines stand before.
use Rattle.std.specs.Prelude.{◌≡◌, ◌≢◌, ◌+◌, ◌<◌, ◌≤◌, ℕ, Bool, ◌⊎◌, List, [], ◌∷◌, ◌++◌, ⊤, All, IsTrue, flat_map, length}

-- Lines, each with its line end, the byte 10.
abbrev pub joined : List (List ℕ) → List ℕ
joined all = flat_map (λ line. line ++ 10 ∷ []) all

-- No line end stands in the line.
abbrev pub Unbroken : List ℕ → Type 0
Unbroken line = All (λ byte. byte ≢ 10) line

-- Each line has the form of its place, where so many lines stand before the first.
abbrev pub AllFormed : (ℕ → List ℕ → Type 0) → ℕ → List (List ℕ) → Type 0
AllFormed form before [] = ⊤
AllFormed form before (line ∷ lines) = form before line × AllFormed form (before + 1) lines

-- The text is these lines, each of the form of its place, and there are from `least` to `most` of them.
pub record IsLines (form : ℕ → List ℕ → Type 0) (least most : ℕ) (lines : List (List ℕ)) (text : List ℕ) : Type 0 where
  pub formed : AllFormed form 0 lines
  pub enough : least ≤ length lines
  pub few : length lines ≤ most
  pub written : text ≡ joined lines

-- What comes next is no line of this form with its line end.
abbrev pub ComesNo : (List ℕ → Type 0) → List ℕ → Type 0
ComesNo form rest = (line more : List ℕ) → form line → rest ≢ line ++ 10 ∷ more

-- The first line that fails, counted from 1: the lines before it have their forms. Then nothing follows, and more lines
-- must stand; or something follows that doesn't begin with a line of its form, or no more lines may stand.
pub record FailsAt (form : ℕ → List ℕ → Type 0) (least most number : ℕ) (text : List ℕ) : Type 0 where
  pub earlier : List (List ℕ)
  pub formed : AllFormed form 0 earlier
  pub few : length earlier ≤ most
  pub counted : number ≡ length earlier + 1
  pub rest : List ℕ
  pub parts : text ≡ joined earlier ++ rest
  pub wanted : rest ≡ [] → length earlier < least
  pub fails : length earlier < most → ComesNo (form (length earlier)) rest

-- The form of the lines that pass a test.
abbrev pub passing : (ℕ → List ℕ → Bool) → ℕ → List ℕ → Type 0
passing test before line = IsTrue (test before line)

-- No line that passes has a line end in it.
abbrev pub PassUnbroken : (ℕ → List ℕ → Bool) → Type 0
PassUnbroken test = (before : ℕ) (line : List ℕ) → IsTrue (test before line) → Unbroken line

-- The text is such lines, or fails at a line.
abbrev pub IsOrFails : (ℕ → List ℕ → Bool) → ℕ → ℕ → List ℕ → Type 0
IsOrFails test least most text = ((lines : List (List ℕ)) × IsLines (passing test) least most lines text) ⊎ ((number : ℕ) × FailsAt (passing test) least most number text)
