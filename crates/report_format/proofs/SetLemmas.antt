-- The lines of the sets.
use Rattle.std.proofs.Common.{◌≡◌, ◌∙◌, ◌⊎◌, inl, inr, ◌+◌, ◌-◌, ◌^◌, ◌<◌, ◌≤◌, ◌==◌, ℕ, zero, suc, Bool, true, false, cond, List, [], ◌∷◌, ◌++◌, All, length, filter, replicate, take, get_or, arith, refl, sym, ap, Result, Ok, Err, map, ⊎_elim}
use Rattle.std.specs.Prelude.{codes, OnOk, if◌then◌else◌}
use Rattle.std.specs.Fmt.{decimal}
use mathlib.Core.Path.{fun_ext}
use Rattle.std.proofs.lemmas.Bool.{cases_lt, eqb-true, eqb-false, eq-eqb, ne_eqb, lt-ltb, le-ltb}
use Rattle.std.proofs.lemmas.Fmt.{decimal_injective}
use Rattle.std.proofs.lemmas.List.{append_cancel_left, take_all, map-append}
use Rattle.std.proofs.lemmas.List.Sums.{length-filter, count_by-le-length}
use Rattle.std.proofs.lemmas.List.FromFn.{length-range_with_len, get_or-range_with_len}
use Rattle.std.proofs.lemmas.List.Elements.{All-nil, All-cons, All-head, All-tail, All-get_or}
use Rattle.input_laws.specs.Inputs.{bytes}
use Rattle.input_laws.specs.Sets.{size, IsByteSet, IsChoice}
use Rattle.std.specs.Result.{is_ok}
use Rattle.byte_sets.specs.declared.ByteSet.{ByteSet}
use Rattle.byte_sets.specs.ByteSet.{has}
use Rattle.byte_sets.proofs.Digits.{set_told}
use Rattle.text_lines.proofs.Cuts.{first_cut, dark-decimal, spaceless}
use Rattle.text_lines.proofs.DigitLemmas.{bytes-from_all, encode-injective}
use Rattle.report_format.specs.Text.{set_line, lines_of_set, set_lines}
use Rattle.report_format.specs.Stages.{full}
use Rattle.report_format.proofs.FormLemmas.{size_small, set_bytes-low}
use Rattle.report_format.proofs.TextLemmas.{set_lines-end}
use Rattle.report_format.proofs.HeadLemmas.{full-choice}

-- ---- full sets

all-pass : (p : ℕ → Bool) (xs : List ℕ) → length xs ≤ length (filter p xs) → All (λ x. p x ≡ true) xs
all-pass p [] many = All-nil (λ x. p x ≡ true)
all-pass p (x ∷ xs) many = by (p x) refl many (λ more. all-pass p xs more)
  where
    by : (t : Bool) → p x ≡ t → suc (length xs) ≤ length (cond t (x ∷ filter p xs) (filter p xs)) → (length xs ≤ length (filter p xs) → All (λ x. p x ≡ true) xs) → All (λ x. p x ≡ true) (x ∷ xs)
    by true is many rest = All-cons (λ x. p x ≡ true) x xs is (rest (omega arith))
    by false is many rest = absurd (omega (arith, length-filter p xs, count_by-le-length p xs))

-- a set of 256 values has them all
pub all-values : (set : ℕ → Bool) → IsByteSet set → size set ≡ 256 → set ≡ full
unfolding bytes
all-values set low many = fun_ext (λ v. ⊎_elim
    (λ (h : v < 256).
    let here : v < length bytes = omega (arith, h, length-range_with_len 0 256) in
    let passed = All-get_or (λ x. set x ≡ true) bytes v 0 here (all-pass set bytes (omega (arith, many, length-range_with_len 0 256))) in
    let at : get_or bytes v 0 ≡ v = get_or-range_with_len 0 256 v 0 h ∙ omega arith in
    (rw at at passed) ∙ sym (lt-ltb v 256 h))
    (λ (h : 256 ≤ v). outside (set v) (λ is. omega (arith, low v is, h)) ∙ sym (le-ltb v 256 h))
    (cases_lt v 256))
  where
    outside : (t : Bool) → (t ≡ true → ⊥) → t ≡ false
    outside true no-t = absurd (no-t refl)
    outside false no-t = refl

size-full : size full ≡ 256
unfolding bytes
size-full = refl

size-most : (set : ℕ → Bool) → size set ≤ 256
unfolding bytes
size-most set = omega (arith, length-filter set bytes, count_by-le-length set bytes, length-range_with_len 0 256)

-- ---- the lines of sets

-- the lines where the first k sets are full
pub lines-skip : (k place : ℕ) (rest : List (ℕ → Bool)) → set_lines place (replicate k full ++ rest) ≡ set_lines (place + k) rest
unfolding set_lines
lines-skip zero place rest = let same : place ≡ place + 0 = omega arith in ap (λ p. set_lines p rest) same
lines-skip (suc k) place rest =
    let same : place + 1 + k ≡ place + suc k = omega arith in
    let one : lines_of_set place full ≡ [] = rw (eq-eqb (size full) 256 size-full) refl in
    ap (λ ls. ls ++ set_lines (place + 1) (replicate k full ++ rest)) one ∙ (lines-skip k (place + 1) rest ∙ ap (λ p. set_lines p rest) same)

pub lines-told : (place : ℕ) (set : ℕ → Bool) (rest : List (ℕ → Bool)) → size set < 256 → set_lines place (set ∷ rest) ≡ set_line place set ∷ set_lines (place + 1) rest
unfolding set_lines
lines-told place set rest few = rw (ne_eqb (size set) 256 (omega arith)) refl

-- all sets are full
pub record AllFull (place : ℕ) (sets : List (ℕ → Bool)) : Type 0 where
  pub are : sets ≡ replicate (length sets) full
  pub none : set_lines place sets ≡ []

-- the first set that isn't full
pub record FirstTold (place : ℕ) (sets : List (ℕ → Bool)) : Type 0 where
  pub skipped : ℕ
  pub set : ℕ → Bool
  pub others : List (ℕ → Bool)
  pub are : sets ≡ replicate skipped full ++ (set ∷ others)
  pub bytes : IsByteSet set
  pub few : size set < 256
  pub first : set_lines place sets ≡ set_line (place + skipped) set ∷ set_lines (place + skipped + 1) others

pub next-set : (place : ℕ) (sets : List (ℕ → Bool)) → All IsByteSet sets → AllFull place sets ⊎ FirstTold place sets
next-set place [] all = inl (record { are = refl; none = set_lines-end place })
next-set place (set ∷ sets) all = by (size set == 256) refl (next-set (place + 1) sets (All-tail IsByteSet set sets all))
  where
    here : IsByteSet set
    here = All-head IsByteSet set sets all

    by : (t : Bool) → (size set == 256) ≡ t → AllFull (place + 1) sets ⊎ FirstTold (place + 1) sets → AllFull place (set ∷ sets) ⊎ FirstTold place (set ∷ sets)
    by false is next =
        let few : size set < 256 = omega (arith, size-most set, eqb-false (size set) 256 is) in
        let at : place + 0 ≡ place = omega arith in
        inr (record { skipped = 0; set = set; others = sets; are = refl; bytes = here; few = few; first = rw at (lines-told place set sets few) })
    by true is next =
        let whole : set ≡ full = all-values set here (eqb-true (size set) 256 is) in
        let skip : set_lines place (set ∷ sets) ≡ set_lines (place + 1) sets = ap (λ s. set_lines place (s ∷ sets)) whole ∙ lines-skip 1 place sets in
        ⊎_elim
        (λ (none : AllFull (place + 1) sets). inl (record { are = ap (λ s. s ∷ sets) whole ∙ ap (λ ss. full ∷ ss) none.are; none = skip ∙ none.none }))
        (λ (told : FirstTold (place + 1) sets).
        let at : place + 1 + told.skipped ≡ place + suc told.skipped = omega arith in
        inr (record {
          skipped = suc told.skipped;
          set = told.set;
          others = told.others;
          are = ap (λ s. s ∷ sets) whole ∙ ap (λ ss. full ∷ ss) told.are;
          bytes = told.bytes;
          few = told.few;
          first = skip ∙ rw at at told.first;
        }))
        next

-- a line tells the place and the set
pub line-tells : (p q : ℕ) (s t : ℕ → Bool) → p < 2 ^ 64 → q < 2 ^ 64 → IsByteSet s → IsByteSet t → set_line p s ≡ set_line q t → (p ≡ q) × (s ≡ t)
line-tells p q s t small-p small-q low-s low-t same =
    let place = first_cut 32 (decimal p) (decimal q) _ _ (spaceless _ (dark-decimal p small-p)) (spaceless _ (dark-decimal q small-q)) (append_cancel_left (codes "set ") _ _ same) in
    let count = first_cut 32 (decimal (size s)) (decimal (size t)) _ _ (spaceless _ (dark-decimal (size s) (size_small s))) (spaceless _ (dark-decimal (size t) (size_small t))) place.1 in
    (decimal_injective p q small-p small-q place.0, set_told s t low-s low-t (encode-injective _ _ (bytes-from_all _ (set_bytes-low s)) (bytes-from_all _ (set_bytes-low t)) count.1))

-- ---- choices

pub choice-front : (sets others : List (ℕ → Bool)) (a b : List ℕ) → length sets ≡ length a → IsChoice (sets ++ others) (a ++ b) → IsChoice sets a × IsChoice others b
choice-front [] others [] b long h = (tt, h)
choice-front [] others (x ∷ a) b long h = absurd (omega arith)
choice-front (set ∷ sets) others [] b long h = absurd (omega arith)
choice-front (set ∷ sets) others (x ∷ a) b long h = let more = choice-front sets others a b (omega arith) h.1 in ((h.0, more.0), more.1)

pub choice-append : (sets others : List (ℕ → Bool)) (a b : List ℕ) → IsChoice sets a → IsChoice others b → IsChoice (sets ++ others) (a ++ b)
choice-append [] others [] b h g = g
choice-append [] others (x ∷ a) b h g = absurd h
choice-append (set ∷ sets) others [] b h g = absurd h
choice-append (set ∷ sets) others (x ∷ a) b h g = (h.0, choice-append sets others a b h.1 g)

pub full-rest : (input : List ℕ) (n : ℕ) → All (λ b. b < 256) input → n ≡ length input → IsChoice (replicate n full) input
full-rest input n low is = rw is (full-choice input low)

-- ---- sets in a vector

pub filled_to : {E : Type 0} (r : Result (Unit {0}) E) (new old : List ByteSet) (n len : ℕ) (d : ByteSet) → new ≡ (if is_ok r then take n old ++ replicate (n - len) d else old) → length old ≡ len → len ≤ n → has d ≡ full
    → OnOk r (map has new ≡ map has old ++ replicate (n - len) full)
filled_to (Ok u) new old n len d is long few whole =
    let all : take n old ≡ old = take_all n old (omega arith) in
    ap (map has) (is ∙ ap (λ l. l ++ replicate (n - len) d) all) ∙ (map-append has old (replicate (n - len) d) ∙ ap (λ l. map has old ++ l) (fills (n - len)))
  where
    fills : (k : ℕ) → map has (replicate k d) ≡ replicate k full
    fills zero = refl
    fills (suc k) = ap (λ s. s ∷ map has (replicate k d)) whole ∙ ap (λ l. full ∷ l) (fills k)
filled_to (Err e) new old n len d is long few whole = tt
