-- What a written file is read as.
use Rattle.std.proofs.Common.{◌≡◌, not, eqb, inl, inr, ℕ, ◌+◌, ◌*◌, ◌%◌, ◌^◌, ◌<◌, ◌≤◌, List, [], ◌∷◌, ◌++◌, length, get_or, take, drop, map, refl, sym, ap, ◌∙◌, arith, Bool, false, nat_lt, zero, suc, None, append_assoc, length-append, ltb-true, le-ltb}
use Rattle.std.specs.List.{filter, list_any, sum_by, All}
use Rattle.std.proofs.lemmas.Bool.{cases_Bool, or_from, or_parts, and_right}
use Rattle.std.proofs.lemmas.List.{get_or-append-add, drop-append-le, drop_all, take-append-le, take_all}
use Rattle.std.proofs.lemmas.List.Concat.{length-flat_map}
use Rattle.std.proofs.lemmas.List.Elements.{All-head, All-tail}
use Rattle.std.proofs.lemmas.List.Sums.{sum_by-cons}
use Rattle.std.proofs.lemmas.List.FromFn.{fill_by_all}
use Rattle.elf32.specs.declared.header.Header.{Header}
use Rattle.elf32.specs.declared.span.Span.{Span}
use Rattle.elf32.specs.declared.segments.Segment.{Segment}
use Rattle.elf32.specs.Spans.{stack, share, overlap}
use Rattle.elf32.specs.Fields.{word_in, header_at, headers_at, headers, e_phoff, e_phnum, e_phentsize, e_entry}
use Rattle.elf32.specs.Rules as rule
use Rattle.elf32.specs.Loads as load
use Rattle.rv_assemble.specs.declared.region.Region.{Region}
use Rattle.rv_assemble.specs.Layout.{file_header, program_header, program_headers, contents, file_of}
use Rattle.rv_assemble.specs.Parts.{segment_of, segments_of, span_of, held}

-- what is asked of each region
pub record Fits (r : Region) : Type 0 where
  pub held : length r.bytes ≤ r.size
  pub rights : r.rights < 8
  pub within : r.base + r.size ≤ 2 ^ 32
  pub small : r.size ≤ 67108864

-- the header that is read
abbrev pub header_of : ℕ → Region → Header
header_of offset r = record { kind = 1; offset = offset; vaddr = r.base % 2 ^ 32; filesz = length r.bytes; memsz = r.size; flags = r.rights }

abbrev pub headers_of : ℕ → List Region → List Header
headers_of offset [] = []
headers_of offset (r ∷ rs) = header_of offset r ∷ headers_of (offset + length r.bytes) rs

-- reading past a front

at_skip : (front xs : List ℕ) (p k : ℕ) → p ≡ length front + k → get_or (front ++ xs) p 0 ≡ get_or xs k 0
at_skip front xs p k e = ap (λ n. get_or (front ++ xs) n 0) e ∙ get_or-append-add front xs k 0

word_skip : (front xs : List ℕ) (p k : ℕ) → p ≡ length front + k → word_in (front ++ xs) p ≡ word_in xs k
word_skip front xs p k e =
    let a = at_skip front xs p k e in
    let b = at_skip front xs (p + 1) (k + 1) (omega arith) in
    let c = at_skip front xs (p + 2) (k + 2) (omega arith) in
    let d = at_skip front xs (p + 3) (k + 3) (omega arith) in
    omega arith

same_header : (k l o p v w f g m n r s : ℕ) → k ≡ l → o ≡ p → v ≡ w → f ≡ g → m ≡ n → r ≡ s →
    (let a : Header = record { kind = k; offset = o; vaddr = v; filesz = f; memsz = m; flags = r } in
    let b : Header = record { kind = l; offset = p; vaddr = w; filesz = g; memsz = n; flags = s } in a ≡ b)
same_header k l o p v w f g m n r s e1 e2 e3 e4 e5 e6 = cc

header_skip : (front xs : List ℕ) (p k : ℕ) → p ≡ length front + k → header_at (front ++ xs) p ≡ header_at xs k
unfolding header_at
header_skip front xs p k e =
    same_header _ _ _ _ _ _ _ _ _ _ _ _
    (word_skip front xs p k e)
    (word_skip front xs (p + 4) (k + 4) (omega arith))
    (word_skip front xs (p + 8) (k + 8) (omega arith))
    (word_skip front xs (p + 16) (k + 16) (omega arith))
    (word_skip front xs (p + 20) (k + 20) (omega arith))
    (word_skip front xs (p + 24) (k + 24) (omega arith))

header_front : (offset : ℕ) (r : Region) (rest : List ℕ) → offset < 2 ^ 32 → Fits r → header_at (program_header offset r ++ rest) 0 ≡ header_of offset r
unfolding header_at
header_front offset r rest small fits =
    let n : length r.bytes < 2 ^ 32 = omega (arith, fits.held, fits.small) in
    let s : r.size < 2 ^ 32 = omega (arith, fits.small) in
    let t : r.rights < 2 ^ 32 = omega (arith, fits.rights) in
    same_header _ _ _ _ _ _ _ _ _ _ _ _ refl (omega arith) (omega arith) (omega arith) (omega arith) (omega arith)

length-program_header : (offset : ℕ) (r : Region) → length (program_header offset r) ≡ 32
length-program_header offset r = refl

-- the header at each place of the table
header_in_table : (offset : ℕ) (rs : List Region) (rest : List ℕ) (i : ℕ) (d : Header) → All Fits rs → offset + held rs < 2 ^ 32 → i < length rs → header_at (program_headers offset rs ++ rest) (32 * i) ≡ get_or (headers_of offset rs) i d
unfolding program_headers
header_in_table offset [] rest i d all small lt = absurd (omega arith)
header_in_table offset (r ∷ rs) rest zero d all small lt =
    let fits : Fits r = All-head Fits r rs all in
    ap (λ bytes. header_at bytes 0) (append_assoc (program_header offset r) (program_headers (offset + length r.bytes) rs) rest)
    ∙ header_front offset r (program_headers (offset + length r.bytes) rs ++ rest) (omega arith) fits
header_in_table offset (r ∷ rs) rest (suc i) d all small lt =
    let sum = sum_by-cons (λ (q : Region). length q.bytes) r rs in
    ap (λ bytes. header_at bytes (32 * suc i)) (append_assoc (program_header offset r) (program_headers (offset + length r.bytes) rs) rest)
    ∙ header_skip (program_header offset r) (program_headers (offset + length r.bytes) rs ++ rest) (32 * suc i) (32 * i) (omega arith)
    ∙ header_in_table (offset + length r.bytes) rs rest i d (All-tail Fits r rs all) (omega arith) (omega arith)

length-headers_of : (offset : ℕ) (rs : List Region) → length (headers_of offset rs) ≡ length rs
length-headers_of offset [] = refl
length-headers_of offset (r ∷ rs) = ap suc (length-headers_of (offset + length r.bytes) rs)

-- what the rules see

none_dynamic : (offset : ℕ) (rs : List Region) → list_any rule.is_dynamic (headers_of offset rs) ≡ false
none_dynamic offset [] = refl
none_dynamic offset (r ∷ rs) = none_dynamic (offset + length r.bytes) rs

none_outside : (file_length offset : ℕ) (rs : List Region) → All Fits rs → offset + held rs ≤ file_length → list_any (rule.is_outside file_length) (headers_of offset rs) ≡ false
none_outside file_length offset [] all within = refl
none_outside file_length offset (r ∷ rs) all within =
    let fits : Fits r = All-head Fits r rs all in
    let sum = sum_by-cons (λ (q : Region). length q.bytes) r rs in
    let modulo : r.base % 2 ^ 32 ≤ r.base = omega arith in
    or_from _ _
    (or_from _ _ (or_from _ _ (le-ltb _ _ fits.held) (le-ltb _ _ (omega arith))) (le-ltb _ _ (omega (arith, fits.within))))
    (none_outside file_length (offset + length r.bytes) rs (All-tail Fits r rs all) (omega arith))

spans_read : (offset : ℕ) (rs : List Region) → All Fits rs → rule.spans_of (headers_of offset rs) ≡ filter (λ s. nat_lt 0 s.size) (map span_of rs)
spans_read offset [] all = refl
spans_read offset (r ∷ rs) all =
    let fits : Fits r = All-head Fits r rs all in
    let rest = spans_read (offset + length r.bytes) rs (All-tail Fits r rs all) in
    elim (cases_Bool (nat_lt 0 r.size)) [
      | inl some ↦
          let more : 0 < r.size = ltb-true _ _ some in
          let same : r.base % 2 ^ 32 ≡ r.base = omega (arith, fits.within) in
          rw some (ap (λ n. let span : Span = record { base = n; size = r.size } in span ∷ rule.spans_of (headers_of (offset + length r.bytes) rs)) same
          ∙ ap (λ l. span_of r ∷ l) rest)
      | inr none ↦ rw none rest
    ]

none_of_fewer : (test : Span → Bool) (ss : List Span) → list_any test ss ≡ false → list_any test (filter (λ s. nat_lt 0 s.size) ss) ≡ false
none_of_fewer test [] none = refl
none_of_fewer test (s ∷ ss) none =
    let h = or_parts (test s) (list_any test ss) none in
    elim (cases_Bool (nat_lt 0 s.size)) [
      | inl some ↦ rw some (or_from _ _ h.0 (none_of_fewer test ss h.1))
      | inr empty ↦ rw empty (none_of_fewer test ss h.1)
    ]

-- leaving out empty spans makes no overlap
fewer_overlap : (ss : List Span) → overlap ss ≡ false → overlap (filter (λ s. nat_lt 0 s.size) ss) ≡ false
unfolding overlap
fewer_overlap [] none = refl
fewer_overlap (s ∷ ss) none =
    let h = or_parts (list_any (share s) ss) (overlap ss) none in
    elim (cases_Bool (nat_lt 0 s.size)) [
      | inl some ↦ rw some (or_from _ _ (none_of_fewer (share s) ss h.0) (fewer_overlap ss h.1))
      | inr empty ↦ rw empty (fewer_overlap ss h.1)
    ]

size_read : (offset : ℕ) (rs : List Region) → rule.memory_size (headers_of offset rs) ≡ sum_by (λ s. s.size) (map span_of rs)
size_read offset [] = refl
size_read offset (r ∷ rs) =
    omega (
      arith,
      size_read (offset + length r.bytes) rs,
      sum_by-cons (λ (h : Header). h.memsz) (header_of offset r) (filter rule.is_load (headers_of (offset + length r.bytes) rs)),
      sum_by-cons (λ (s : Span). s.size) (span_of r) (map span_of rs),
    )

-- the bytes of each region

same_segment : (b c s t r q : ℕ) (x y : List ℕ) → b ≡ c → s ≡ t → r ≡ q → x ≡ y →
    (let v : Segment = record { base = b; size = s; rights = r; bytes = x } in
    let w : Segment = record { base = c; size = t; rights = q; bytes = y } in v ≡ w)
same_segment b c s t r q x y e1 e2 e3 e4 = cc

drop_front : (front rest : List ℕ) → drop (length front) (front ++ rest) ≡ rest
drop_front front rest = drop-append-le (length front) front rest (omega arith) ∙ ap (λ l. l ++ rest) (drop_all (length front) front (omega arith))

take_front : (front rest : List ℕ) → take (length front) (front ++ rest) ≡ front
take_front front rest = take-append-le (length front) front rest (omega arith) ∙ take_all (length front) front (omega arith)

taken : (front bytes rest : List ℕ) → take (length bytes) (drop (length front) (front ++ (bytes ++ rest))) ≡ bytes
taken front bytes rest = ap (take (length bytes)) (drop_front front (bytes ++ rest)) ∙ take_front bytes rest

segment_read : (front : List ℕ) (r : Region) (rest : List ℕ) → Fits r → 0 < r.size → load.segment_of (front ++ (r.bytes ++ rest)) (header_of (length front) r) ≡ segment_of r
segment_read front r rest fits some =
    same_segment _ _ _ _ _ _ _ _ (omega (arith, fits.within)) refl (omega (arith, fits.rights)) (taken front r.bytes rest)

segments_read : (front : List ℕ) (rs : List Region) → All Fits rs → load.segments_of (front ++ contents rs) (headers_of (length front) rs) ≡ segments_of rs
segments_read front [] all = refl
segments_read front (r ∷ rs) all =
    let bytes : List ℕ = front ++ (r.bytes ++ contents rs) in
    let rest : load.segments_of bytes (headers_of (length front + length r.bytes) rs) ≡ segments_of rs =
    ap (λ b. load.segments_of b (headers_of (length front + length r.bytes) rs)) (sym (append_assoc front r.bytes (contents rs)))
    ∙ ap (λ n. load.segments_of ((front ++ r.bytes) ++ contents rs) (headers_of n rs)) (sym (length-append front r.bytes))
    ∙ segments_read (front ++ r.bytes) rs (All-tail Fits r rs all) in
    elim (cases_Bool (nat_lt 0 r.size)) [
      | inl some ↦
          rw some
          (ap (λ s. s ∷ load.segments_of bytes (headers_of (length front + length r.bytes) rs)) (segment_read front r (contents rs) (All-head Fits r rs all) (ltb-true _ _ some))
          ∙ ap (λ l. segment_of r ∷ l) rest)
      | inr none ↦ rw none rest
    ]

-- the file's header

length-file_header : (n : ℕ) → length (file_header n) ≡ 52
unfolding file_header
length-file_header n = refl

phoff : (n : ℕ) (rest : List ℕ) → e_phoff (file_header n ++ rest) ≡ 52
unfolding file_header
phoff n rest = refl

phnum : (n : ℕ) (rest : List ℕ) → n ≤ 64 → e_phnum (file_header n ++ rest) ≡ n
unfolding file_header
phnum n rest few = omega arith

entry : (n : ℕ) (rest : List ℕ) → e_entry (file_header n ++ rest) ≡ 0x10000
unfolding file_header
entry n rest = refl

first_rules : (bytes : List ℕ) → rule.is_short bytes ≡ false → rule.lacks_magic bytes ≡ false → rule.has_other_class bytes ≡ false → rule.has_other_encoding bytes ≡ false → rule.has_other_type bytes ≡ false → rule.has_other_machine bytes ≡ false → rule.has_other_instructions bytes ≡ false → rule.lacks_table bytes ≡ false → rule.refusal bytes ≡ rule.segment_refusal (length bytes) (e_entry bytes) (headers bytes)
unfolding rule.refusal
first_rules bytes e1 e2 e3 e4 e5 e6 e7 e8 = rw (e1, e2, e3, e4, e5, e6, e7, e8) refl

has_table : (n : ℕ) (rest : List ℕ) → n ≤ 64 → 32 * n ≤ length rest → rule.lacks_table (file_header n ++ rest) ≡ false
unfolding file_header
has_table n rest few long =
    let bytes : List ℕ = file_header n ++ rest in
    let count : e_phnum bytes ≤ 64 = omega (arith, phnum n rest few) in
    let end : e_phoff bytes + 32 * e_phnum bytes ≤ length bytes =
    omega (arith, phnum n rest few, phoff n rest, length-append (file_header n) rest, length-file_header n) in
    or_from (nat_lt 64 (e_phnum bytes)) _ (le-ltb _ _ count) (and_right (nat_lt 0 (e_phnum bytes)) _ (or_from (not (eqb (e_phentsize bytes) 32)) _ refl (le-ltb (length bytes) (e_phoff bytes + 32 * e_phnum bytes) end)))

header_accepted : (n : ℕ) (rest : List ℕ) → n ≤ 64 → 32 * n ≤ length rest →
    (let bytes : List ℕ = file_header n ++ rest in rule.refusal bytes ≡ rule.segment_refusal (length bytes) (e_entry bytes) (headers bytes))
unfolding file_header
header_accepted n rest few long =
    first_rules (file_header n ++ rest) (le-ltb _ _ (omega arith)) refl refl refl refl refl refl (has_table n rest few long)

other_rules : (file_length at : ℕ) (hs : List Header) → list_any rule.is_dynamic hs ≡ false → list_any (rule.is_outside file_length) hs ≡ false → overlap (stack ∷ rule.spans_of hs) ≡ false → rule.memory_size hs ≤ 67108864 → at ≡ 0x10000 → rule.segment_refusal file_length at hs ≡ None
unfolding rule.segment_refusal
other_rules file_length at hs e1 e2 e3 small e5 = rw (e1, e2, e3, le-ltb _ _ small, e5) refl

-- the file

-- what is asked of the regions
pub record CanBe (rs : List Region) : Type 0 where
  pub all : All Fits rs
  pub few : length rs ≤ 64
  pub apart : overlap (stack ∷ map span_of rs) ≡ false
  pub small : sum_by (λ s. s.size) (map span_of rs) ≤ 67108864
  pub held : held rs ≤ 67108864

length-program_headers : (offset : ℕ) (rs : List Region) → length (program_headers offset rs) ≡ 32 * length rs
unfolding program_headers
length-program_headers offset [] = refl
length-program_headers offset (r ∷ rs) =
    let rest = length-program_headers (offset + length r.bytes) rs in
    omega (arith, length-append (program_header offset r) (program_headers (offset + length r.bytes) rs))

length-contents : (rs : List Region) → length (contents rs) ≡ held rs
length-contents rs = length-flat_map (λ r. r.bytes) rs

no_header : Header
no_header = record { kind = 0; offset = 0; vaddr = 0; filesz = 0; memsz = 0; flags = 0 }

-- the start of the file, and what follows its header
after : List Region → List ℕ
after rs = program_headers (52 + 32 * length rs) rs ++ contents rs

file_is : (rs : List Region) → file_of rs ≡ file_header (length rs) ++ after rs
unfolding file_of after
file_is rs = append_assoc (file_header (length rs)) (program_headers (52 + 32 * length rs) rs) (contents rs)

length-after : (rs : List Region) → length (after rs) ≡ 32 * length rs + held rs
unfolding after
length-after rs =
    omega (arith, length-append (program_headers (52 + 32 * length rs) rs) (contents rs), length-program_headers (52 + 32 * length rs) rs, length-contents rs)

table_read : (rs : List Region) → CanBe rs → headers_at (file_header (length rs) ++ after rs) 52 (length rs) ≡ headers_of (52 + 32 * length rs) rs
unfolding after
table_read rs can =
    let start : ℕ = 52 + 32 * length rs in
    sym (fill_by_all (λ i. header_at (file_header (length rs) ++ after rs) (52 + 32 * i)) (headers_of start rs) (length rs) no_header (length-headers_of start rs)
    (λ k lt.
    sym (header_skip (file_header (length rs)) (after rs) (52 + 32 * k) (32 * k) (omega (arith, length-file_header (length rs)))
    ∙ header_in_table start rs (contents rs) k no_header can.all (omega (arith, can.few, can.held)) lt)))

headers_read : (rs : List Region) → CanBe rs → headers (file_of rs) ≡ headers_of (52 + 32 * length rs) rs
unfolding headers
headers_read rs can =
    ap headers (file_is rs)
    ∙ ap (λ p. headers_at (file_header (length rs) ++ after rs) p (e_phnum (file_header (length rs) ++ after rs))) (phoff (length rs) (after rs))
    ∙ ap (λ n. headers_at (file_header (length rs) ++ after rs) 52 n) (phnum (length rs) (after rs) can.few)
    ∙ table_read rs can

pub length-file : (rs : List Region) → length (file_of rs) ≡ 52 + 32 * length rs + held rs
length-file rs =
    let e = ap length (file_is rs) in
    omega (arith, length-append (file_header (length rs)) (after rs), length-file_header (length rs), length-after rs)

pub entry_read : (rs : List Region) → e_entry (file_of rs) ≡ 0x10000
entry_read rs = ap e_entry (file_is rs) ∙ entry (length rs) (after rs)

pub accepted : (rs : List Region) → CanBe rs → rule.refusal (file_of rs) ≡ None
accepted rs can =
    let start : ℕ = 52 + 32 * length rs in
    let bytes : List ℕ = file_of rs in
    let read = headers_read rs can in
    let first : rule.refusal bytes ≡ rule.segment_refusal (length bytes) (e_entry bytes) (headers bytes) =
    ap rule.refusal (file_is rs)
    ∙ header_accepted (length rs) (after rs) can.few (omega (arith, length-after rs))
    ∙ ap (λ l. rule.segment_refusal (length l) (e_entry l) (headers l)) (sym (file_is rs)) in
    let size : rule.memory_size (headers bytes) ≤ 67108864 = omega (arith, ap rule.memory_size read, size_read start rs, can.small) in
    let inside : start + held rs ≤ length bytes = omega (arith, length-file rs) in
    first
    ∙ other_rules (length bytes) (e_entry bytes) (headers bytes)
    (ap (λ hs. list_any rule.is_dynamic hs) read ∙ none_dynamic start rs)
    (ap (λ hs. list_any (rule.is_outside (length bytes)) hs) read ∙ none_outside (length bytes) start rs can.all inside)
    (ap (λ hs. overlap (stack ∷ rule.spans_of hs)) read ∙ ap (λ ss. overlap (stack ∷ ss)) (spans_read start rs can.all) ∙ fewer_overlap (stack ∷ map span_of rs) can.apart)
    size
    (entry_read rs)

pub image_read : (rs : List Region) → CanBe rs → (load.loaded_program (file_of rs)).segments ≡ load.in_order (segments_of rs)
unfolding file_of
image_read rs can =
    let start : ℕ = 52 + 32 * length rs in
    let front : List ℕ = file_header (length rs) ++ program_headers start rs in
    let len : start ≡ length front =
    omega (arith, length-append (file_header (length rs)) (program_headers start rs), length-file_header (length rs), length-program_headers start rs) in
    ap load.in_order
    (ap (λ hs. load.segments_of (file_of rs) hs) (headers_read rs can ∙ ap (λ n. headers_of n rs) len)
    ∙ segments_read front rs can.all)
