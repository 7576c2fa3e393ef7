-- The names of program counters.
use Rattle.std.specs.Prelude.{◌≡◌, ℕ, ◌+◌, ◌≤◌, ◌==◌, ◌&&◌, ◌||◌, max, nat_le, nat_lt, List, [], ◌∷◌, Bool, true, false, Option, Some, None, find, if◌then◌else◌}
use Rattle.std.specs.List.{slice_get}
use Rattle.elf32.specs.declared.symbols.Symbol.{Symbol}

-- a function has a byte at an address; one of size 0 begins there
abbrev pub covers : Symbol → ℕ → Bool
covers s pc = (nat_le s.value pc && nat_lt pc (s.value + s.size)) || (s.size == 0 && s.value == pc)

-- the greatest first address of the functions that have a program counter
unfoldable pub highest : List Symbol → ℕ → ℕ
highest [] pc = 0
highest (s ∷ rest) pc = if covers s pc then max s.value (highest rest pc) else highest rest pc

-- the function of a program counter: of those that have it the first that begins at that address
unfoldable pub name_of : List Symbol → ℕ → Option Symbol
name_of symbols pc = find (λ s. covers s pc && s.value == highest symbols pc) symbols

-- ---- what that means

-- a function that has a program counter: none of the others that do begins above it, and none that begins with it stands before it
pub record IsName (symbols : List Symbol) (pc : ℕ) (s : Symbol) : Type 0 where
  pub place : ℕ
  pub stands : slice_get symbols place ≡ Some s
  pub has : covers s pc ≡ true
  pub greatest : (i : ℕ) (t : Symbol) → slice_get symbols i ≡ Some t → covers t pc ≡ true → t.value ≤ s.value
  pub first : (i : ℕ) (t : Symbol) → slice_get symbols i ≡ Some t → covers t pc ≡ true → t.value ≡ s.value → place ≤ i

-- that function, or none where none has the program counter
abbrev pub IsNameOf : List Symbol → ℕ → Option Symbol → Type 0
IsNameOf symbols pc (Some s) = IsName symbols pc s
IsNameOf symbols pc None = (i : ℕ) (t : Symbol) → slice_get symbols i ≡ Some t → covers t pc ≡ false
