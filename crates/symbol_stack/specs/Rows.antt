-- Functions as rows, sorted by where they begin.
use Rattle.std.specs.Prelude.{◌≡◌, ℕ, ◌+◌, ◌<◌, ◌≤◌, ◌⊎◌, max, List, [], ◌∷◌, length, slice_index, slice_index_or}
use Rattle.std.specs.List.{AllWithin}
use Rattle.std.specs.List.Sorted.{IsPermutation}
use Rattle.elf32.specs.declared.symbols.Symbol.{Symbol}
use Rattle.symbol_stack.specs.declared.names.Row.{Row}

-- the address after a function's last byte, where one of size 0 counts as one byte
abbrev pub end_of : Symbol → ℕ
end_of s = s.value + max s.size 1

-- the row of a function, with so many behind it in the list
abbrev pub row_of : Symbol → ℕ → Row
row_of s behind = record { start = s.value; behind = behind; end = end_of s }

-- the rows of a list's functions
unfoldable pub rows_of : List Symbol → List Row
rows_of [] = []
rows_of (s ∷ rest) = row_of s (length rest) ∷ rows_of rest

-- a row begins below another, or with it and stands behind it in the list
abbrev pub IsBefore : Row → Row → Type 0
IsBefore a b = (a.start < b.start) ⊎ ((a.start ≡ b.start) × (a.behind ≤ b.behind))

-- each row is before the later ones
abbrev pub AreInOrder : List Row → Type 0
AreInOrder rows = (i j : ℕ) (d : Row) → i ≤ j → j < length rows → IsBefore (slice_index_or rows i d) (slice_index_or rows j d)

-- for each of the first rows, the number of rows up to the last one before it that ends above its end: those between end no later than it does
abbrev pub AreOuter : List Row → List ℕ → Type 0
AreOuter rows outer = (i : ℕ) (d : Row) → i < length outer → (slice_index outer i ≤ i) × AllWithin (λ r. r.end ≤ (slice_index_or rows i d).end) rows (slice_index outer i) i

-- the sorted rows of a list's functions, and for each that number
pub record AreRowsOf (symbols : List Symbol) (rows : List Row) (outer : List ℕ) : Type 0 where
  pub permutation : IsPermutation (rows_of symbols) rows
  pub order : AreInOrder rows
  pub surrounds : AreOuter rows outer
  pub long : length outer ≡ length rows
