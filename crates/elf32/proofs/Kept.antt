-- What the rules give for the segments of a file.
use Rattle.std.proofs.Common.{◌≡◌, ℕ, ◌+◌, ◌<◌, ◌≤◌, ◌^◌, List, [], ◌∷◌, length, get_or, drop, map, refl, ap, ◌∙◌, arith, Bool, true, false, subst, inl, inr, nat_lt, ◌||◌, ◌&&◌, ltb-true, ltb-false, zero, suc, min, max}
use Rattle.std.proofs.Math.Nat.{min_comm, max_comm}
use Rattle.std.specs.List.{filter, list_any, sum_by, All}
use Rattle.std.specs.List.Sorted.{IsPermutation, IsNonDecreasingBy}
use Rattle.std.proofs.lemmas.Bool.{and_parts, or_parts, cond_both, cases_Bool}
use Rattle.std.proofs.lemmas.List.{length-take}
use Rattle.std.proofs.lemmas.List.Elements.{All-nil, All-cons}
use Rattle.std.proofs.lemmas.List.Sums.{sum_by-cons}
use Rattle.std.proofs.lemmas.List.Sorted.{All-permutation, Contains-permutation, IsPermutation-sym, sum_by-IsPermutation}
use Rattle.elf32.specs.declared.header.Header.{Header}
use Rattle.elf32.specs.declared.span.Span.{Span}
use Rattle.elf32.specs.declared.segments.Segment.{Segment}
use Rattle.elf32.specs.Spans.{stack, share, overlap}
use Rattle.elf32.specs.Segments.{AreApart, IsOffStack, AreOffStack, IsSized, AreSized, total_size}
use Rattle.elf32.specs.Rules.{is_load, is_loaded, is_outside, span_of, spans_of, memory_size}
use Rattle.elf32.specs.Loads.{segment_of, segments_of, in_order}
use Rattle.elf32.proofs.Order.{in_order_permutes, in_order_rises, same_members}
use Rattle.elf32.proofs.Pairs.{EachTwo, each_two_permuted}

-- the addresses of a segment
abbrev pub addresses : Segment → Span
addresses s = record { base = s.base; size = s.size }

-- the two share no byte
abbrev pub Apart : Segment → Segment → Type 0
Apart s t = share (addresses s) (addresses t) ≡ false

true_and : (a b : Bool) → (a && b) ≡ false → a ≡ true → b ≡ false
true_and true b e h = e
true_and false b e h = absurd (cc)

-- a header of a segment that isn't outside
sized : (bytes : List ℕ) (h : Header) → is_loaded h ≡ true → is_outside (length bytes) h ≡ false → IsSized (segment_of bytes h)
sized bytes h loaded inside =
    let l = and_parts (is_load h) (nat_lt 0 h.memsz) loaded in
    let past_file = nat_lt (length bytes) (h.offset + h.filesz) in
    let past_memory = nat_lt (2 ^ 32) (h.vaddr + h.memsz) in
    let o = true_and (is_load h) (nat_lt h.memsz h.filesz || past_file || past_memory) inside l.0 in
    let p = or_parts (nat_lt h.memsz h.filesz || past_file) past_memory o in
    let q = or_parts (nat_lt h.memsz h.filesz) past_file p.0 in
    let more : 0 < h.memsz = ltb-true _ _ l.1 in
    let fits : h.filesz ≤ h.memsz = ltb-false _ _ q.0 in
    let below : h.vaddr + h.memsz ≤ 2 ^ 32 = ltb-false _ _ p.1 in
    record {
      some = more;
      within = below;
      held = omega (arith, length-take h.filesz (drop h.offset bytes));
      rights = omega arith;
    }

all_sized : (bytes : List ℕ) (hs : List Header) → list_any (is_outside (length bytes)) hs ≡ false → All IsSized (segments_of bytes hs)
all_sized bytes [] e = All-nil IsSized
all_sized bytes (h ∷ hs) e =
    let o = or_parts (is_outside (length bytes) h) (list_any (is_outside (length bytes)) hs) e in
    let rest = all_sized bytes hs o.1 in
    cond_both (is_loaded h) (h ∷ filter is_loaded hs) (filter is_loaded hs) (λ l. All IsSized (map (segment_of bytes) l))
    (λ yes. All-cons IsSized _ _ (sized bytes h yes o.0) rest)
    (λ no. rest)

size_of_all : (bytes : List ℕ) (hs : List Header) → total_size (map (segment_of bytes) hs) ≡ sum_by (λ h. h.memsz) hs
size_of_all bytes [] = refl
size_of_all bytes (h ∷ hs) =
    omega (arith, size_of_all bytes hs, sum_by-cons (λ (s : Segment). s.size) (segment_of bytes h) (map (segment_of bytes) hs), sum_by-cons (λ (g : Header). g.memsz) h hs)

-- a header without memory adds nothing
loaded_size : (hs : List Header) → sum_by (λ h. h.memsz) (filter is_loaded hs) ≡ memory_size hs
loaded_size [] = refl
loaded_size (h ∷ hs) =
    let rest = loaded_size hs in
    let one = sum_by-cons (λ (g : Header). g.memsz) h (filter is_loaded hs) in
    let other = sum_by-cons (λ (g : Header). g.memsz) h (filter is_load hs) in
    elim (cases_Bool (is_load h)) [
      | inl load ↦
          elim (cases_Bool (nat_lt 0 h.memsz)) [
            | inl more ↦ rw (load, more) (omega arith)
            | inr none ↦ let zero_size : h.memsz ≤ 0 = ltb-false _ _ none in rw (load, none) (omega arith)
          ]
      | inr other_kind ↦ rw other_kind rest
    ]

same_spans : (bytes : List ℕ) (hs : List Header) → map addresses (map (segment_of bytes) hs) ≡ map span_of hs
same_spans bytes [] = refl
same_spans bytes (h ∷ hs) = ap (λ l. span_of h ∷ l) (same_spans bytes hs)

-- what a test of the spans says of the segments
none_passes : (p : Span → Bool) (ss : List Segment) → list_any p (map addresses ss) ≡ false → All (λ s. p (addresses s) ≡ false) ss
none_passes p [] e = All-nil (λ s. p (addresses s) ≡ false)
none_passes p (s ∷ ss) e =
    let h = or_parts (p (addresses s)) (list_any p (map addresses ss)) e in
    All-cons (λ s. p (addresses s) ≡ false) s ss h.0 (none_passes p ss h.1)

-- of two ranges that share no address, the one that begins first ends before the other begins
ends_first : (a b c d : ℕ) → nat_lt (max a b) (min c d) ≡ false → a < c → a < d → b < d → c ≤ b
ends_first a b c d e own other later = let h : min c d ≤ max a b = ltb-false _ _ e in grind (arith, h)

off_stack : (s : Segment) → 0 < s.size → share stack (addresses s) ≡ false → IsOffStack s
off_stack s some e = λ over. ends_first 0x7ff00000 s.base 0x80000000 (s.base + s.size) e (omega arith) over (omega arith)

apart_flip : (s t : Segment) → Apart s t → Apart t s
apart_flip s t e = rw (max_comm t.base s.base, min_comm (t.base + t.size) (s.base + s.size)) e

each_two : (s : Segment) (ss : List Segment) → All (Apart s) ss → EachTwo Apart ss → EachTwo Apart (s ∷ ss)
each_two s ss one rest zero zero d ne li lj = absurd (ne refl)
each_two s ss one rest zero (suc j) d ne li lj = one j d (omega arith)
each_two s ss one rest (suc i) zero d ne li lj = apart_flip s (get_or ss i d) (one i d (omega arith))
each_two s ss one rest (suc i) (suc j) d ne li lj = rest i j d (λ e. ne (ap suc e)) (omega arith) (omega arith)

all_apart : (ss : List Segment) → overlap (map addresses ss) ≡ false → EachTwo Apart ss
unfolding overlap
all_apart [] e = λ i j d ne li lj. absurd (omega arith)
all_apart (s ∷ ss) e =
    let h = or_parts (list_any (share (addresses s)) (map addresses ss)) (overlap (map addresses ss)) e in
    each_two s ss (none_passes (share (addresses s)) ss h.0) (all_apart ss h.1)

-- in ascending order, segments that share no byte follow each other
follows : (ss : List Segment) → IsNonDecreasingBy (λ s. s.base) ss → All IsSized ss → EachTwo Apart ss → AreApart ss
follows ss up all two = λ i j d lt lj.
    let later = all j d lj in
    let le : (get_or ss i d).base ≤ (get_or ss j d).base = up i j d (omega arith) lj in
    let apart = two i j d (omega arith) (omega arith) lj in
    let first = all i d (omega arith) in
    let e : nat_lt (max (get_or ss i d).base (get_or ss j d).base) (min ((get_or ss i d).base + (get_or ss i d).size) ((get_or ss j d).base + (get_or ss j d).size)) ≡ false = apart in
    ends_first _ _ _ _ e (omega (arith, first.some)) (omega (arith, later.some)) (omega (arith, later.some))

-- the facts of an image, but for the entry
pub record Kept (segments : List Segment) : Type 0 where
  pub apart : AreApart segments
  pub off_stack : AreOffStack segments
  pub sized : AreSized segments
  pub small : total_size segments ≤ 67108864

pub kept : (bytes : List ℕ) (hs : List Header) (found segments : List Segment) → found ≡ segments_of bytes hs → IsPermutation found segments → IsNonDecreasingBy (λ s. s.base) segments → list_any (is_outside (length bytes)) hs ≡ false → overlap (stack ∷ spans_of hs) ≡ false → memory_size hs ≤ 67108864 → Kept segments
unfolding overlap
kept bytes hs found segments is moved up inside apart small =
    let o = or_parts (list_any (share stack) (spans_of hs)) (overlap (spans_of hs)) apart in
    let from : IsPermutation (segments_of bytes hs) segments = subst (λ (l : List Segment). IsPermutation l segments) is moved in
    let spans = same_spans bytes (filter is_loaded hs) in
    let all = All-permutation IsSized _ segments from (all_sized bytes hs inside) in
    let far = none_passes (share stack) (segments_of bytes hs) (ap (λ l. list_any (share stack) l) spans ∙ o.0) in
    let two = all_apart (segments_of bytes hs) (ap overlap spans ∙ o.1) in
    let size = size_of_all bytes (filter is_loaded hs) in
    let same = sum_by-IsPermutation (λ (s : Segment). s.size) _ segments from in
    record {
      apart = follows segments up all (each_two_permuted Apart _ segments from two);
      off_stack = λ i d l. off_stack (get_or segments i d) (all i d l).some (All-permutation (λ s. share stack (addresses s) ≡ false) _ segments from far i d l);
      sized = all;
      small = omega (arith, size, same, loaded_size hs);
    }

climbs : (segments : List Segment) → Kept segments → (i j : ℕ) (d : Segment) → i < j → j < length segments → (get_or segments i d).base < (get_or segments j d).base
climbs segments k i j d lt lj =
    let first = k.sized i d (omega arith) in
    omega (arith, k.apart i j d lt lj, first.some)

-- the sorted segments are those of the definition, which are in the one order that is possible
pub sorted_is : (bytes : List ℕ) (hs : List Header) (found segments : List Segment) → found ≡ segments_of bytes hs → IsPermutation found segments → IsNonDecreasingBy (λ s. s.base) segments → list_any (is_outside (length bytes)) hs ≡ false → overlap (stack ∷ spans_of hs) ≡ false → memory_size hs ≤ 67108864 → segments ≡ in_order (segments_of bytes hs)
sorted_is bytes hs found segments is moved up inside apart small =
    let one = kept bytes hs found segments is moved up inside apart small in
    let other = kept bytes hs found (in_order found) is (in_order_permutes found) (in_order_rises found) inside apart small in
    same_members segments (in_order found) (climbs segments one) (climbs (in_order found) other)
    (λ z h. Contains-permutation found (in_order found) z (in_order_permutes found) (Contains-permutation segments found z (IsPermutation-sym found segments moved) h))
    (λ z h. Contains-permutation found segments z moved (Contains-permutation (in_order found) found z (IsPermutation-sym found (in_order found) (in_order_permutes found)) h))
    ∙ ap in_order is
