-- Sorted rows, and what a search in them finds.
use Rattle.std.proofs.Common.{◌≡◌, ◌∙◌, ℕ, zero, suc, ◌+◌, ◌-◌, ◌<◌, ◌≤◌, List, [], ◌∷◌, ◌++◌, length, drop, get_or, true, false, Ordering, inl, inr, refl, sym, ap, subst, arith}
use Rattle.std.specs.Prelude.{Some, None}
use Rattle.std.specs.List.{slice_get, AllWithin, Contains}
use Rattle.std.specs.List.Sorted.{IsPermutation, IsSorted, IsNonDecreasingBy}
use Rattle.std.specs.Ordering.{nat_cmp, ordering_then, is_lt}
use Rattle.std.proofs.lemmas.Bool.{cases_Bool, cases_lt}
use Rattle.std.proofs.lemmas.Bool.Decides.{nat_tests}
use Rattle.std.proofs.lemmas.Cmp.{nat_cmp_total, on_total, then_total}
use Rattle.std.proofs.lemmas.List.{get_or_default, get_or_append_left, get_or_push, length_push, append_assoc, drop_more, length-drop}
use Rattle.std.proofs.lemmas.List.Elements.{Contains-get_or}
use Rattle.std.proofs.lemmas.List.Sorted.{Contains-permutation, IsPermutation-sym, sorted_far, ranks_by}
use Rattle.std.proofs.lemmas.Option.{none-some, same_Some, slice_get_within}
use Rattle.std.specs.Cmp.{IsTotalOrder}
use Rattle.elf32.specs.declared.symbols.Symbol.{Symbol}
use Rattle.symbol_stack.specs.declared.names.Row.{Row}
use Rattle.symbol_stack.specs.Names.{covers, IsName, IsNameOf}
use Rattle.symbol_stack.specs.Rows.{end_of, row_of, rows_of, IsBefore, AreInOrder, AreOuter}

-- ---- the order

-- by the first address, then by what stands behind, then by the end
abbrev pub row_cmp : Row → Row → Ordering
row_cmp a b = ordering_then (nat_cmp a.start b.start) (ordering_then (nat_cmp a.behind b.behind) (nat_cmp a.end b.end))

rows_total : IsTotalOrder row_cmp
rows_total = then_total (on_total (λ (r : Row). r.start) nat_cmp_total) (then_total (on_total (λ (r : Row). r.behind) nat_cmp_total) (on_total (λ (r : Row). r.end) nat_cmp_total))

before : (a b : Row) → is_lt (row_cmp b a) ≡ false → IsBefore a b
before a b h =
    elim (cases_lt a.start b.start) [
      | inl lower ↦ inl lower
      | inr other ↦
          elim (cases_lt b.start a.start) [
            | inl higher ↦ absurd (grind (arith, nat_tests, h))
            | inr even ↦
                elim (cases_lt b.behind a.behind) [
                  | inl further ↦ absurd (grind (arith, nat_tests, h))
                  | inr near ↦ inr (omega arith, near)
                ]
          ]
    ]

pub in_order : (rows : List Row) → IsSorted row_cmp rows → AreInOrder rows
in_order rows up = λ i j d le lt. before (get_or rows i d) (get_or rows j d) (sorted_far (λ a b. is_lt (row_cmp a b)) (ranks_by rows_total (λ (r : Row). r)) rows up i j d le lt)

pub rises : (rows : List Row) → AreInOrder rows → IsNonDecreasingBy (λ (r : Row). r.start) rows
rises rows order = λ i j d le lt. elim (order i j d le lt) [ inl lower ↦ omega arith | inr even ↦ omega (arith, even.0) ]

-- ---- a function and its row

covers_from : (s : Symbol) (pc : ℕ) → s.value ≤ pc → pc < end_of s → covers s pc ≡ true
covers_from s pc low high = grind (arith, nat_tests)

begins : (s : Symbol) (pc : ℕ) → covers s pc ≡ true → s.value ≤ pc
begins s pc has = grind (arith, nat_tests)

ends : (s : Symbol) (pc : ℕ) → covers s pc ≡ true → pc < end_of s
ends s pc has = grind (arith, nat_tests)

-- the rows of a list with one function more
pub rows_more : (rows : List Row) (symbols : List Symbol) (i : ℕ) (s : Symbol) → i < length symbols → s ≡ get_or symbols i s → (rows ++ row_of s (length symbols - 1 - i) ∷ []) ++ rows_of (drop (i + 1) symbols) ≡ rows ++ rows_of (drop i symbols)
unfolding rows_of
rows_more rows symbols i s lt is =
    let n : length (drop (i + 1) symbols) ≡ length symbols - 1 - i = omega (arith, length-drop (i + 1) symbols) in
    let e : drop i symbols ≡ s ∷ drop (i + 1) symbols = drop_more symbols i s lt ∙ ap (λ (u : Symbol). u ∷ drop (i + 1) symbols) (sym is) in
    rw e (rw n (append_assoc rows (row_of s (length symbols - 1 - i) ∷ []) (rows_of (drop (i + 1) symbols))))

-- the row of a function is among the rows
has_row : (symbols : List Symbol) (i : ℕ) (t : Symbol) → slice_get symbols i ≡ Some t → Contains (rows_of symbols) (row_of t (length symbols - 1 - i))
unfolding rows_of
has_row [] i t e = absurd (none-some t e)
has_row (s ∷ rest) zero t e =
    let n : length (s ∷ rest) - 1 - 0 ≡ length rest = omega arith in
    rw n (0, omega arith, ap (λ (u : Symbol). row_of u (length rest)) (same_Some s t e))
has_row (s ∷ rest) (suc i) t e =
    let h = has_row rest i t e in
    let n : length (s ∷ rest) - 1 - suc i ≡ length rest - 1 - i = omega arith in
    rw n (suc h.0, omega (arith, h.1), h.2)

-- a row is that of the function at its place
abbrev IsRowAt : List Symbol → Row → Type 0
IsRowAt symbols r = (r.behind < length symbols) × (s : Symbol) × (slice_get symbols (length symbols - 1 - r.behind) ≡ Some s) × (r ≡ row_of s r.behind)

row_at_later : (s : Symbol) (rest : List Symbol) (r : Row) → IsRowAt rest r → IsRowAt (s ∷ rest) r
row_at_later s rest r h =
    let n : length (s ∷ rest) - 1 - r.behind ≡ suc (length rest - 1 - r.behind) = omega (arith, h.0) in
    (omega (arith, h.0), h.1, rw n h.2, h.3)

has_place : (symbols : List Symbol) (r : Row) (k : ℕ) → k < length (rows_of symbols) → get_or (rows_of symbols) k r ≡ r → IsRowAt symbols r
unfolding rows_of
has_place [] r k lt e = absurd (omega arith)
has_place (s ∷ rest) r zero lt e =
    let n : length (s ∷ rest) - 1 - length rest ≡ 0 = omega arith in
    subst (λ (q : Row). IsRowAt (s ∷ rest) q) e (omega arith, s, rw n refl, refl)
has_place (s ∷ rest) r (suc k) lt e = row_at_later s rest r (has_place rest r k (omega arith) e)

-- ---- a search

-- how many rows begin at most at an address, and how many of them are up to the last that ends above it
pub record IsSearch (rows : List Row) (pc count reached : ℕ) : Type 0 where
  pub within : count ≤ length rows
  pub fewer : reached ≤ count
  pub begun : AllWithin (λ (r : Row). r.start ≤ pc) rows 0 count
  pub later : AllWithin (λ (r : Row). pc < r.start) rows count (length rows)
  pub passed : AllWithin (λ (r : Row). r.end ≤ pc) rows reached count

pub is_search : (rows : List Row) (pc address count reached : ℕ) → address ≡ pc → count ≤ length rows → reached ≤ count → AllWithin (λ (r : Row). r.start ≤ pc) rows 0 count → AllWithin (λ (r : Row). pc < r.start) rows count (length rows) → AllWithin (λ (r : Row). r.end ≤ address) rows reached count → IsSearch rows pc count reached
is_search rows pc address count reached same within fewer begun later passed = record {
  within = within;
  fewer = fewer;
  begun = begun;
  later = later;
  passed = subst (λ (n : ℕ). AllWithin (λ (r : Row). r.end ≤ n) rows reached count) same passed;
}

-- a function that has the address is one of those rows
is_reached : (symbols : List Symbol) (rows : List Row) (pc count reached : ℕ) → IsPermutation (rows_of symbols) rows → IsSearch rows pc count reached → (i : ℕ) (t : Symbol) → slice_get symbols i ≡ Some t → covers t pc ≡ true → (k : ℕ) × (k < reached) × (get_or rows k (row_of t (length symbols - 1 - i)) ≡ row_of t (length symbols - 1 - i))
is_reached symbols rows pc count reached same search_of i t e c =
    let q = row_of t (length symbols - 1 - i) in
    let h = Contains-permutation (rows_of symbols) rows q same (has_row symbols i t e) in
    elim (cases_lt h.0 reached) [
      | inl low ↦ (h.0, low, h.2)
      | inr high ↦
          elim (cases_lt h.0 count) [
            | inl within ↦
                let past : (get_or rows h.0 q).end ≤ pc = search_of.passed h.0 q high within in
                let over : q.end ≤ pc = subst (λ (r : Row). r.end ≤ pc) h.2 past in
                let under = ends t pc c in
                absurd (omega arith)
            | inr beyond ↦
                let past : pc < (get_or rows h.0 q).start = search_of.later h.0 q beyond h.1 in
                let over : pc < q.start = subst (λ (r : Row). pc < r.start) h.2 past in
                let under = begins t pc c in
                absurd (omega arith)
          ]
    ]

pub none_reached : (symbols : List Symbol) (rows : List Row) (pc count reached : ℕ) → IsPermutation (rows_of symbols) rows → IsSearch rows pc count reached → reached ≡ 0 → IsNameOf symbols pc None
none_reached symbols rows pc count reached same search_of none =
    λ i t e.
    elim (cases_Bool (covers t pc)) [
      | inl passes ↦ let h = is_reached symbols rows pc count reached same search_of i t e passes in absurd (omega (arith, h.1))
      | inr fails ↦ fails
    ]

-- the place of a row's function
has_symbol : (symbols : List Symbol) (rows : List Row) (k : ℕ) (d : Row) → IsPermutation (rows_of symbols) rows → k < length rows → IsRowAt symbols (get_or rows k d)
has_symbol symbols rows k d same lt =
    let h = Contains-permutation rows (rows_of symbols) (get_or rows k d) (IsPermutation-sym (rows_of symbols) rows same) (Contains-get_or rows k d lt) in
    has_place symbols (get_or rows k d) h.0 h.1 h.2

-- no row's number of functions behind it is the list's length or more
pub is_behind : (symbols : List Symbol) (rows : List Row) (k : ℕ) → IsPermutation (rows_of symbols) rows → k < length rows → (get_or rows k (record { start = 0; behind = 0; end = 0 })).behind < length symbols
is_behind symbols rows k same lt = (has_symbol symbols rows k (record { start = 0; behind = 0; end = 0 }) same lt).0

stands_first : (symbols : List Symbol) (r q : Row) (s t : Symbol) (i : ℕ) → r ≡ row_of s r.behind → q ≡ row_of t (length symbols - 1 - i) → i < length symbols → r.behind < length symbols → IsBefore q r → (t.value ≤ s.value) × (t.value ≡ s.value → length symbols - 1 - r.behind ≤ i)
stands_first symbols r q s t i is_r is_q lt in_r (inl lower) =
    let a : r.start ≡ s.value = ap (λ (x : Row). x.start) is_r in
    let b : q.start ≡ t.value = ap (λ (x : Row). x.start) is_q in
    (omega arith, λ e. absurd (omega arith))
stands_first symbols r q s t i is_r is_q lt in_r (inr even) =
    let a : r.start ≡ s.value = ap (λ (x : Row). x.start) is_r in
    let b : q.start ≡ t.value = ap (λ (x : Row). x.start) is_q in
    let n : q.behind ≡ length symbols - 1 - i = ap (λ (x : Row). x.behind) is_q in
    (omega (arith, even.0), λ e. omega (arith, even.1))

pub one_reached : (symbols : List Symbol) (rows : List Row) (pc count reached : ℕ) (d : Row) (s : Symbol) → IsPermutation (rows_of symbols) rows → AreInOrder rows → IsSearch rows pc count reached → 0 < reached → pc < (get_or rows (reached - 1) d).end → slice_get symbols (length symbols - 1 - (get_or rows (reached - 1) d).behind) ≡ Some s → IsName symbols pc s
one_reached symbols rows pc count reached d s same order search_of some_row over stands =
    let r = get_or rows (reached - 1) d in
    let last : reached - 1 < length rows = omega (arith, search_of.within, search_of.fewer) in
    let at = has_symbol symbols rows (reached - 1) d same last in
    let is_s : at.1 ≡ s = same_Some at.1 s (sym at.2 ∙ stands) in
    let is_r : r ≡ row_of s r.behind = at.3 ∙ ap (λ (u : Symbol). row_of u r.behind) is_s in
    let begun : r.start ≤ pc = search_of.begun (reached - 1) d (omega arith) (omega (arith, search_of.fewer)) in
    let low : s.value ≤ pc = subst (λ (x : Row). x.start ≤ pc) is_r begun in
    let high : pc < end_of s = subst (λ (x : Row). pc < x.end) is_r over in
    let each = λ (i : ℕ) (t : Symbol) (e : slice_get symbols i ≡ Some t) (c : covers t pc ≡ true).
    let q = row_of t (length symbols - 1 - i) in
    let h = is_reached symbols rows pc count reached same search_of i t e c in
    let up = order h.0 (reached - 1) q (omega (arith, h.1)) last in
    let here : get_or rows (reached - 1) q ≡ r = get_or_default rows (reached - 1) q d last in
    stands_first symbols r q s t i is_r refl (slice_get_within symbols i t e) at.0 (subst (λ (x : Row). IsBefore q x) here (subst (λ (x : Row). IsBefore x (get_or rows (reached - 1) q)) h.2 up)) in
    record {
      place = length symbols - 1 - r.behind;
      stands = stands;
      has = covers_from s pc low high;
      greatest = λ i t e c. (each i t e c).0;
      first = λ i t e c even. (each i t e c).1 even;
    }

-- ---- the steps of a search

-- a row that ends no later than the address is passed, with those before it that end no later than it does
pub passed_on : (rows : List Row) (count reached inner address : ℕ) (e : Row) → 0 < reached → reached ≤ length rows → AllWithin (λ (r : Row). r.end ≤ address) rows reached count → (get_or rows (reached - 1) e).end ≤ address → ((d : Row) → AllWithin (λ (r : Row). r.end ≤ (get_or rows (reached - 1) d).end) rows inner (reached - 1)) → AllWithin (λ (r : Row). r.end ≤ address) rows inner count
passed_on rows count reached inner address e some within far here near =
    λ k d low high.
    elim (cases_lt k (reached - 1)) [
      | inl below ↦ let a = near e k d low below in omega (arith, a, here)
      | inr other ↦
          elim (cases_lt k reached) [
            | inl under ↦
                let k_is : k ≡ reached - 1 = omega arith in
                rw k_is (subst (λ (r : Row). r.end ≤ address) (get_or_default rows (reached - 1) e d (omega arith)) here)
            | inr above ↦ far k d above high
          ]
    ]

pub outer_more : (rows : List Row) (outer new : List ℕ) (reached i : ℕ) → length outer ≡ i → AreOuter rows outer → reached ≤ i → ((d : Row) → AllWithin (λ (r : Row). r.end ≤ (get_or rows i d).end) rows reached i) → new ≡ outer ++ reached ∷ [] → AreOuter rows new
outer_more rows outer new reached i long old fewer passed is =
    rw is (λ j d lt.
    elim (cases_lt j i) [
      | inl below ↦ rw (get_or_append_left outer (reached ∷ []) 0 j (omega arith)) (old j d (omega arith))
      | inr above ↦
          let j_is : j ≡ i = omega (arith, length_push outer reached) in
          rw j_is (rw (get_or_push outer reached 0 i long) (fewer, passed d))
    ])
