-- Names in a string table, and lists of symbols.
use Rattle.std.proofs.Common.{◌≡◌, ◌∙◌, ℕ, zero, suc, ◌+◌, ◌-◌, ◌*◌, ◌<◌, ◌≤◌, ◌==◌, Bool, true, false, cond, List, [], ◌∷◌, ◌++◌, Option, Some, None, All, length, take, drop, map, min, refl, sym, ap, subst, arith, append_assoc, append-nil, length-append, ⊎_elim}
use Rattle.std.specs.Prelude.{find, ◌&&◌, nat_lt, nat_le, if◌then◌else◌}
use Rattle.std.specs.List.{range_with_len, filter_map, list_all, cons_option}
use Rattle.std.specs.Option.{option_map}
use Rattle.std.proofs.lemmas.Bool.{cases_lt, lt-leb, ne_eqb}
use Rattle.std.specs.List.{slice_get}
use Rattle.elf32.specs.declared.error.ElfError.{ElfError}
use Rattle.elf32.specs.declared.sections.Section.{Section}
use Rattle.elf32.specs.declared.symbols.Symbol.{Symbol}
use Rattle.elf32.specs.Rules.{refusal}
use Rattle.std.proofs.lemmas.List.{length-take, take_all, drop_all, take-append-drop}
use Rattle.std.proofs.lemmas.List.Elements.{All-head, All-tail}
use Rattle.elf32.specs.Symbols.{before_zero, is_name, checked_name, one_or_none, has_symbols}

-- ---- names

zero_test : (b : ℕ) → (b ≡ 0 → ⊥) → (b == 0) ≡ false
zero_test b free = ne_eqb b 0 free

-- what stands before a zero that is the first
pub before_zero-cut : (name rest : List ℕ) → All (λ b. b ≡ 0 → ⊥) name → before_zero (name ++ (0 ∷ rest)) ≡ Some name
unfolding before_zero
before_zero-cut [] rest free = refl
before_zero-cut (b ∷ name) rest free =
    ap (λ t. cond t (Some []) (option_map (λ n. b ∷ n) (before_zero (name ++ (0 ∷ rest))))) (zero_test b (All-head (λ b. b ≡ 0 → ⊥) b name free))
    ∙ ap (option_map (λ n. b ∷ n)) (before_zero-cut name rest (All-tail (λ b. b ≡ 0 → ⊥) b name free))

map_map : (f g : List ℕ → List ℕ) (o : Option (List ℕ)) → option_map f (option_map g o) ≡ option_map (λ n. f (g n)) o
map_map f g None = refl
map_map f g (Some n) = refl

same_map : (o : Option (List ℕ)) → o ≡ option_map (λ n. n) o
same_map None = refl
same_map (Some n) = refl

-- bytes without a zero go on
pub before_zero-more : (first rest : List ℕ) → All (λ b. b ≡ 0 → ⊥) first → before_zero (first ++ rest) ≡ option_map (λ n. first ++ n) (before_zero rest)
unfolding before_zero
before_zero-more [] rest free = same_map (before_zero rest)
before_zero-more (b ∷ first) rest free =
    ap (λ t. cond t (Some []) (option_map (λ n. b ∷ n) (before_zero (first ++ rest)))) (zero_test b (All-head (λ b. b ≡ 0 → ⊥) b first free))
    ∙ (ap (option_map (λ n. b ∷ n)) (before_zero-more first rest (All-tail (λ b. b ≡ 0 → ⊥) b first free))
    ∙ map_map (λ n. b ∷ n) (λ n. first ++ n) (before_zero rest))

too_long : (first n : List ℕ) → length first ≡ 256 → is_name (first ++ n) ≡ false
too_long first n is =
    let long : length (first ++ n) ≡ 256 + length n = length-append first n ∙ ap (λ k. k + length n) is in
    name_false (first ++ n) (omega (arith, long))
  where
    not_le : (a : ℕ) → 255 < a → nat_le a 255 ≡ false
    not_le a h = lt-leb a 255 h

    and_false : (a b : Bool) → b ≡ false → (a && b) ≡ false
    and_false true b h = h
    and_false false b h = refl

    name_false : (xs : List ℕ) → 255 < length xs → is_name xs ≡ false
    name_false xs h = and_false (nat_lt 0 (length xs)) _ (ap (λ t. t && list_all (λ b. nat_le 33 b && nat_le b 126) xs) (not_le (length xs) h))

long_name : (first : List ℕ) (o : Option (List ℕ)) → length first ≡ 256 → checked_name (option_map (λ n. first ++ n) o) ≡ None
long_name first None is = refl
long_name first (Some n) is = ap (λ t. cond t (Some (first ++ n)) None) (too_long first n is)

-- where the first bytes of a string table's rest, as many as a name and its zero may have, hold no zero, there is no name
pub no_name : (rest : List ℕ) (k : ℕ) → k ≡ min (length rest) 256 → All (λ b. b ≡ 0 → ⊥) (take k rest) → checked_name (before_zero rest) ≡ None
unfolding before_zero
no_name rest k is free = ⊎_elim
    (λ (less : length rest < 256).
    let all : take k rest ≡ rest = take_all k rest (omega (arith, is)) in
    let none : before_zero (rest ++ []) ≡ option_map (λ n. rest ++ n) None = before_zero-more rest [] (subst (λ xs. All (λ b. b ≡ 0 → ⊥) xs) all free) in
    ap checked_name (ap before_zero (sym (append-nil rest)) ∙ none))
    (λ (long : 256 ≤ length rest).
    let size : length (take k rest) ≡ 256 = length-take k rest ∙ omega (arith, is) in
    ap checked_name (ap before_zero (sym (take-append-drop k rest)) ∙ before_zero-more (take k rest) (drop k rest) free)
    ∙ long_name (take k rest) (before_zero (drop k rest)) size)
    (cases_lt (length rest) 256)

-- the name before the first zero of those bytes
pub some_name : (rest first name more : List ℕ) (k : ℕ) → first ≡ take k rest → first ≡ name ++ (0 ∷ more) → All (λ b. b ≡ 0 → ⊥) name → before_zero rest ≡ Some name
some_name rest first name more k is cut free =
    ap before_zero (sym (take-append-drop k rest) ∙ (ap (λ f. f ++ drop k rest) (sym is ∙ cut) ∙ append_assoc name (0 ∷ more) (drop k rest)))
    ∙ before_zero-cut name (more ++ drop k rest) free

-- a place past the table has no name
pub past_table : (strings : List ℕ) (place : ℕ) → length strings ≤ place → checked_name (before_zero (drop place strings)) ≡ None
unfolding before_zero
past_table strings place past = ap (λ xs. checked_name (before_zero xs)) (drop_all place strings past)

pub checked : (o : Option (List ℕ)) (name : List ℕ) → o ≡ Some name → is_name name ≡ true → checked_name o ≡ Some name
checked o name is t = ap checked_name is ∙ ap (λ b. cond b (Some name) None) t

pub unchecked : (o : Option (List ℕ)) (name : List ℕ) → o ≡ Some name → is_name name ≡ false → checked_name o ≡ None
unchecked o name is t = ap checked_name is ∙ ap (λ b. cond b (Some name) None) t

-- ---- sections

-- the first of the sections that are left, after one that has no symbols
pub next_section : (f : ℕ → Section) (i n : ℕ) → i < n → has_symbols (f i) ≡ false → find has_symbols (map f (range_with_len i (n - i))) ≡ find has_symbols (map f (range_with_len (i + 1) (n - (i + 1))))
next_section f i n below other =
    let e : n - i ≡ suc (n - (i + 1)) = omega arith in
    ap (λ k. find has_symbols (map f (range_with_len i k))) e
    ∙ ap (λ b. cond b (Some (f i)) (find has_symbols (map f (range_with_len (i + 1) (n - (i + 1)))))) other

-- the section of a number
pub section_of : (f : ℕ → Section) (a n k : ℕ) → k < n → slice_get (map f (range_with_len a n)) k ≡ Some (f (a + k))
section_of f a zero k below = absurd (omega arith)
section_of f a (suc n) zero below = (let e : a ≡ a + 0 = omega arith in ap (λ j. Some (f j)) e)
section_of f a (suc n) (suc k) below = (let e : a + 1 + k ≡ a + suc k = omega arith in section_of f (a + 1) n k (omega arith) ∙ ap (λ j. Some (f j)) e)

pub no_section : (f : ℕ → Section) (a n k : ℕ) → n ≤ k → slice_get (map f (range_with_len a n)) k ≡ None
no_section f a zero k past = refl
no_section f a (suc n) zero past = absurd (omega arith)
no_section f a (suc n) (suc k) past = no_section f (a + 1) n k (omega arith)

-- ---- lists of symbols

-- the symbols of the entries that are left, by the next one
pub next_symbol : (f : ℕ → Option Symbol) (i n : ℕ) → i < n → filter_map f (range_with_len i (n - i)) ≡ one_or_none (f i) ++ filter_map f (range_with_len (i + 1) (n - (i + 1)))
next_symbol f i n below =
    let e : n - i ≡ suc (n - (i + 1)) = omega arith in
    ap (λ k. filter_map f (range_with_len i k)) e ∙ cons_is (f i) (filter_map f (range_with_len (i + 1) (n - (i + 1))))
  where
    cons_is : (o : Option Symbol) (rest : List Symbol) → cons_option o rest ≡ one_or_none o ++ rest
    cons_is None rest = refl
    cons_is (Some s) rest = refl

-- no entry is left
pub last_symbol : (f : ℕ → Option Symbol) (i n : ℕ) → n ≤ i → filter_map f (range_with_len i (n - i)) ≡ []
last_symbol f i n past = (let e : n - i ≡ 0 = omega arith in ap (λ k. filter_map f (range_with_len i k)) e)
