-- What a test of each region says of its span, and of a program's memory.
use Rattle.std.proofs.Common.{◌≡◌, ◌≤◌, ◌+◌, ◌*◌, ◌^◌, ◌||◌, ◌∙◌, Bool, true, false, ℕ, List, [], ◌∷◌, length, map, min, refl, sym, ap, subst, arith, le-ltb, ltb-false, Option, Some, IfSome}
use Rattle.std.specs.List.{All, list_any, sum_by}
use Rattle.std.proofs.lemmas.List.{length-map}
use Rattle.std.proofs.lemmas.List.Elements.{All-nil, All-cons}
use Rattle.std.proofs.lemmas.List.Sums.{sum_by-cons}
use Rattle.rv_decode.specs.declared.instr.Instr.{Instr}
use Rattle.rv_decode.specs.Table.{decoded}
use Rattle.elf32.specs.declared.span.Span.{Span}
use Rattle.elf32.specs.Spans.{stack, share, overlap}
use Rattle.rv_assemble.specs.declared.region.Region.{Region}
use Rattle.rv_assemble.specs.Parts.{span_of, places, IsRegion, CanLoad}
use Rattle.test_programs.specs.Program.{is_outside, cannot_load}

pub any_span : (p : Span → Bool) (rs : List Region) → list_any (λ r. p (span_of r)) rs ≡ list_any p (map span_of rs)
any_span p [] = refl
any_span p (r ∷ rs) = ap (λ b. p (span_of r) || b) (any_span p rs)

sum_of_spans : (rs : List Region) → sum_by (λ s. s.size) (map span_of rs) ≡ sum_by (λ r. r.size) rs
sum_of_spans [] = refl
sum_of_spans (r ∷ rs) =
    sum_by-cons (λ (s : Span). s.size) (span_of r) (map span_of rs) ∙ ap (λ n. r.size + n) (sum_of_spans rs) ∙ sym (sum_by-cons (λ (q : Region). q.size) r rs)

abbrev code : ℕ → Span
code size = record { base = 0x10000; size = size }

-- code ends below the stack
off_stack : (size : ℕ) → size ≤ 67108864 → share stack (code size) ≡ false
off_stack size small =
    let below : min 0x80000000 (0x10000 + size) ≤ 0x7ff00000 = omega (arith, small) in
    rw (le-ltb 0x7ff00000 (min 0x80000000 (0x10000 + size)) below) refl

-- an overlap is one with the stack, with the code, or of two regions
overlap_of : (size : ℕ) (rs : List Region) → size ≤ 67108864
    → overlap (stack ∷ code size ∷ map span_of rs) ≡ (list_any (share stack) (map span_of rs) || (list_any (share (code size)) (map span_of rs) || overlap (map span_of rs)))
unfolding overlap
overlap_of size rs small =
    ap (λ b. (b || list_any (share stack) (map span_of rs)) || (list_any (share (code size)) (map span_of rs) || overlap (map span_of rs))) (off_stack size small)

pub overlap_on_stack : (size : ℕ) (rs : List Region) → size ≤ 67108864 → true ≡ list_any (share stack) (map span_of rs) → true ≡ overlap (stack ∷ code size ∷ map span_of rs)
overlap_on_stack size rs small found =
    sym (overlap_of size rs small ∙ ap (λ b. b || (list_any (share (code size)) (map span_of rs) || overlap (map span_of rs))) (sym found))

pub overlap_on_code : (size : ℕ) (rs : List Region) → size ≤ 67108864 → false ≡ list_any (share stack) (map span_of rs)
    → true ≡ list_any (share (code size)) (map span_of rs) → true ≡ overlap (stack ∷ code size ∷ map span_of rs)
overlap_on_code size rs small off found =
    sym (overlap_of size rs small ∙ ap (λ b. b || (list_any (share (code size)) (map span_of rs) || overlap (map span_of rs))) (sym off)
    ∙ ap (λ b. b || overlap (map span_of rs)) (sym found))

pub overlap_of_regions : (size : ℕ) (rs : List Region) (b : Bool) → size ≤ 67108864 → false ≡ list_any (share stack) (map span_of rs)
    → false ≡ list_any (share (code size)) (map span_of rs) → b ≡ overlap (map span_of rs) → b ≡ overlap (stack ∷ code size ∷ map span_of rs)
overlap_of_regions size rs b small off on is =
    is ∙ sym (overlap_of size rs small ∙ ap (λ b. b || (list_any (share (code size)) (map span_of rs) || overlap (map span_of rs))) (sym off)
    ∙ ap (λ b. b || overlap (map span_of rs)) (sym on))

neither : (a b : Bool) → (a || b) ≡ false → (a ≡ false) × (b ≡ false)
neither true b h = absurd (cc)
neither false b h = (refl, h)

is_region : (r : Region) → is_outside r ≡ false → IsRegion r × (r.base + r.size ≤ 2 ^ 32)
is_region r inside =
    let one = neither _ _ inside in
    let two = neither _ _ one.0 in
    (record { held = ltb-false _ _ two.0; rights = let h = ltb-false _ _ two.1 in omega (arith, h) }, ltb-false _ _ one.1)

pub are_regions : (rs : List Region) → list_any is_outside rs ≡ false → All IsRegion rs
are_regions [] inside = All-nil IsRegion
are_regions (r ∷ rs) inside =
    let h = neither (is_outside r) (list_any is_outside rs) inside in
    All-cons IsRegion r rs (is_region r h.0).0 (are_regions rs h.1)

abbrev IsWithin : Span → Type 0
IsWithin s = s.base + s.size ≤ 2 ^ 32

are_within : (rs : List Region) → list_any is_outside rs ≡ false → All IsWithin (map span_of rs)
are_within [] inside = All-nil IsWithin
are_within (r ∷ rs) inside =
    let h = neither (is_outside r) (list_any is_outside rs) inside in
    All-cons IsWithin (span_of r) (map span_of rs) (is_region r h.0).1 (are_within rs h.1)

-- what the assembler asks of regions
pub record Loads (count : ℕ) (rs : List Region) : Type 0 where
  pub few : length rs ≤ 63
  pub regions : All IsRegion rs
  pub memory : CanLoad (places count rs)

pub loads : (count : ℕ) (rs : List Region) → cannot_load count rs ≡ false → Loads count rs
loads count rs h =
    let one = neither _ _ h in
    let two = neither _ _ one.0 in
    let three = neither _ _ two.0 in
    let small = ltb-false _ _ two.1 in
    let sum = sum_by-cons (λ (s : Span). s.size) (code (4 * count)) (map span_of rs) in
    let spans = sum_of_spans rs in
    record {
      few = ltb-false _ _ three.0;
      regions = are_regions rs three.1;
      memory = record {
        within = All-cons IsWithin (code (4 * count)) (map span_of rs) (omega (arith, small)) (are_within rs three.1);
        apart = one.1;
        small = omega (arith, small, sum, spans);
      };
    }

-- and for the instructions that words stand for
pub loads_code : {V : Type 0} (words : List ℕ) (code : List Instr) (items : V → List Instr) (o : Option V) (v : V) (rs : List Region) → false ≡ cannot_load (length words) rs
    → IfSome o (λ w. map decoded words ≡ map Some (items w)) → o ≡ Some v → code ≡ items v → CanLoad (places (length code) rs)
loads_code words code items o v rs h stand some is =
    let stands : map decoded words ≡ map Some (items v) = subst (λ p. IfSome p (λ w. map decoded words ≡ map Some (items w))) some stand in
    let same : length code ≡ length words =
    ap (λ (l : List Instr). length l) is ∙ sym (length-map (items v) Some) ∙ ap (λ (l : List (Option Instr)). length l) (sym stands) ∙ length-map words decoded in
    let l = loads (length words) rs (sym h) in
    subst (λ n. CanLoad (places n rs)) (sym same) l.memory
