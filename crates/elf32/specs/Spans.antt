-- Ranges of addresses.
use Rattle.std.specs.Prelude.{ℕ, ◌+◌, ◌<◌, ◌≤◌, List, [], ◌∷◌, length, slice_index_or, nat_lt, min, max, Bool, false, ◌||◌}
use Rattle.std.specs.List.{list_any}
use Rattle.elf32.specs.declared.span.Span.{Span}

-- the stack, which no segment may share a byte with
abbrev pub stack : Span
stack = record { base = 0x7ff00000; size = 0x100000 }

-- the address after the last
abbrev pub end_of : Span → ℕ
end_of s = s.base + s.size

-- the address is one of the span's
abbrev pub LiesIn : ℕ → Span → Type 0
LiesIn address s = (s.base ≤ address) × (address < end_of s)

-- some address is one of both spans
abbrev pub HaveCommon : Span → Span → Type 0
HaveCommon s t = (address : ℕ) × LiesIn address s × LiesIn address t

-- the two spans share an address: the later begin is below the earlier end
abbrev pub share : Span → Span → Bool
share s t = nat_lt (max s.base t.base) (min (end_of s) (end_of t))

-- two of the spans share an address
unfoldable pub overlap : List Span → Bool
overlap [] = false
overlap (s ∷ ss) = list_any (share s) ss || overlap ss

-- some address is one of two of the spans, at different places of the list
pub record TwoHaveCommon (ss : List Span) : Type 0 where
  pub first : ℕ
  pub second : ℕ
  pub later : first < second
  pub within : second < length ss
  pub common : HaveCommon (slice_index_or ss first stack) (slice_index_or ss second stack)
