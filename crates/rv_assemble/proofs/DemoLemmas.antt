-- The demonstration programs can be built.
use Rattle.std.proofs.Common.{◌≡◌, ℕ, ◌+◌, ◌*◌, ◌≤◌, ◌^◌, ℤ, pos, negsuc, neg_ℤ, ◌≤ℤ◌, ◌<ℤ◌, [], ◌∷◌, length, refl, arith, rules, min, le-ltb, ◌++◌}
use Rattle.std.specs.List.{All}
use Rattle.std.proofs.lemmas.List.FromFn.{map-range_with_len_more}
use Rattle.std.proofs.lemmas.Int.{ints}
use Rattle.std.proofs.lemmas.List.Elements.{All-from_recursion}
use Rattle.elf32.specs.declared.span.Span.{Span}
use Rattle.elf32.specs.Spans.{overlap}
use Rattle.rv_decode.specs.Rows.{IsWithin, IsMultiple, IsWellFormed}
use Rattle.rv_assemble.specs.Parts.{places, CanLoad}
use Rattle.rv_assemble.specs.declared.demo.DemoKind.{DemoKind}
use Rattle.rv_assemble.specs.Demo.{lo, single_code, triple_code, demo_regions, demo_byte, demo_input}

within : (half : ℕ) (z : ℤ) → neg_ℤ (pos half) ≤ℤ z → z <ℤ pos half → IsWithin half z
within half (pos n) low high = omega (arith, ints)
within half (negsuc n) low high = omega (arith, ints)

lo_within : (v : ℕ) → IsWithin 2048 (lo v)
lo_within v = within 2048 (lo v) (omega (arith, ints)) (omega (arith, ints))

upper_multiple : (upper : ℕ) → IsMultiple 4096 (pos (4096 * upper))
upper_multiple upper = omega arith

pub single_formed : (n : ℕ) → All IsWellFormed (single_code n)
unfolding single_code
single_formed n = All-from_recursion IsWellFormed (single_code n) (search (rules, lo_within, upper_multiple))

pub triple_formed : (n groups : ℕ) → All IsWellFormed (triple_code n groups)
unfolding triple_code
triple_formed n groups = All-from_recursion IsWellFormed (triple_code n groups) (search (rules, lo_within, upper_multiple))

pub single_length : (n : ℕ) → length (single_code n) ≡ 13
unfolding single_code
single_length n = refl

pub triple_length : (n groups : ℕ) → length (triple_code n groups) ≡ 26
unfolding triple_code
triple_length n groups = refl

pub ruleset codes = (single_formed, triple_formed, single_length, triple_length)

abbrev Ends : Span → Type 0
Ends s = s.base + s.size ≤ 2 ^ 32

-- the code ends below the bytes, and they end below the stack
pub demo_loads : (count n : ℕ) → count ≤ 26 → n ≤ 65536 → CanLoad (places count (demo_regions n))
unfolding overlap
demo_loads count n few small =
    record {
      within = All-from_recursion Ends (places count (demo_regions n)) (omega arith, (omega arith, tt));
      apart =
          let code : min 0x80000000 (0x10000 + 4 * count) ≤ 0x7ff00000 = omega arith in
          let bytes : min 0x80000000 (0x20000 + n) ≤ 0x7ff00000 = omega arith in
          let both : min (0x10000 + 4 * count) (0x20000 + n) ≤ 0x20000 = omega arith in
          rw (le-ltb 0x7ff00000 _ code, le-ltb 0x7ff00000 _ bytes, le-ltb 0x20000 _ both) refl;
      small = omega arith;
    }

-- one more byte of the input
pub one_more : (kind : DemoKind) (i : ℕ) → demo_input kind (i + 1) ≡ demo_input kind i ++ demo_byte kind i ∷ []
one_more kind i = map-range_with_len_more (demo_byte kind) 0 i i (omega arith)
