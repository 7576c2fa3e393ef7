-- The parts of an image.
use Rattle.std.proofs.Common.{◌≡◌, ℕ, ◌+◌, ◌-◌, ◌<◌, ◌≤◌, ◌^◌, List, [], length, get_or, map, refl, sym, ap, ◌∙◌, subst, arith, length-append, inl, inr}
use Rattle.std.proofs.lemmas.Bool.{cases_lt}
use Rattle.std.proofs.lemmas.List.{get_or-map, length-map, length-replicate}
use Rattle.elf32.specs.declared.segments.Segment.{Segment}
use Rattle.elf32.specs.Segments.{AreApart, AreOffStack, AreSized, IsOffStack, IsSized}
use Rattle.memory_map.specs.Part.{Part}
use Rattle.memory_map.specs.Cells.{filled}
use Rattle.memory_map.specs.Layout.{end_of, part_of, IsLaidOut}

rejoined : (a b : ℕ) → a ≤ b → a + (b - a) ≡ b
rejoined a b h = omega arith

pub no_segment : Segment
no_segment = record { base = 0; size = 0; rights = 0; bytes = [] }

-- a part that ends where its segment does
pub record EndsWith (p : Part) (s : Segment) : Type 0 where
  pub base : p.base ≡ s.base
  pub end : end_of p ≡ s.base + s.size

pub filled_size : (s : Segment) → length s.bytes ≤ s.size → length (filled s) ≡ s.size
filled_size s h = length-append s.bytes _ ∙ ap (λ n. length s.bytes + n) (length-replicate (s.size - length s.bytes) 0) ∙ rejoined (length s.bytes) s.size h

ends_with : (s : Segment) → length s.bytes ≤ s.size → EndsWith (part_of s) s
ends_with s h = record { base = refl; end = ap (λ n. s.base + n) (filled_size s h) }

-- the part at a place is that of the segment there
pub at_place : (ss : List Segment) (k : ℕ) (d : Part) → AreSized ss → k < length ss → EndsWith (get_or (map part_of ss) k d) (get_or ss k no_segment)
at_place ss k d each l = subst (λ (p : Part). EndsWith p (get_or ss k no_segment)) (sym (get_or-map part_of ss k no_segment d l)) (ends_with (get_or ss k no_segment) (each k no_segment l).held)

apart : (p q : Part) (s t : Segment) → EndsWith p s → EndsWith q t → s.base + s.size ≤ t.base → end_of p ≤ q.base
apart p q s t a b h = omega (arith, a.end, b.base)

off : (p stack : Part) (s : Segment) → EndsWith p s → IsOffStack s → stack.base ≡ 0x7ff00000 → length stack.bytes ≡ 0x100000 → p.base < end_of stack → end_of p ≤ stack.base
off p stack s a is base size h = elim (cases_lt 0x7ff00000 (s.base + s.size)) as (λ _. end_of p ≤ stack.base) [
  | inl over ↦ (let f = is over in absurd (omega (arith, f, a.base, base, size, h)))
  | inr within ↦ omega (arith, a.end, base)
]

below : (p : Part) (s : Segment) → EndsWith p s → IsSized s → end_of p ≤ 2 ^ 32
below p s a is = omega (arith, a.end, is.within)

pub laid_out_start : (stack : Part) (ss : List Segment) → AreSized ss → AreApart ss → AreOffStack ss → stack.base ≡ 0x7ff00000 → length stack.bytes ≡ 0x100000 → IsLaidOut stack (map part_of ss)
laid_out_start stack ss sized ordered off_stack base size =
    let len : length (map part_of ss) ≡ length ss = length-map ss part_of in
    record {
      ascending = λ j k d l h. apart _ _ _ _ (at_place ss j d sized (omega (arith, len))) (at_place ss k d sized (omega (arith, len))) (ordered j k no_segment l (omega (arith, len)));
      off_stack = λ k d h. off _ stack _ (at_place ss k d sized (omega (arith, len))) (off_stack k no_segment (omega (arith, len))) base size;
      within = λ k d h. below _ _ (at_place ss k d sized (omega (arith, len))) (sized k no_segment (omega (arith, len)));
      stack_within = omega (arith, base, size);
    }
