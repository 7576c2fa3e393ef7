-- The function of a program counter, as a rule that fits one answer alone.
use Rattle.std.proofs.Common.{◌≡◌, ◌∙◌, ℕ, zero, suc, ◌≤◌, ◌==◌, ◌&&◌, List, [], ◌∷◌, Bool, true, false, ◌⊎◌, inl, inr, refl, sym, ap, subst, arith}
use Rattle.std.specs.Prelude.{Option, Some, None, find}
use Rattle.std.specs.List.{slice_get}
use Rattle.std.proofs.lemmas.Bool.{cases_Bool, cases_lt}
use Rattle.std.proofs.lemmas.Bool.Decides.{nat_tests}
use Rattle.std.proofs.lemmas.Option.{none-some, same_Some}
use Rattle.elf32.specs.declared.symbols.Symbol.{Symbol}
use Rattle.symbol_stack.specs.Names.{covers, highest, name_of, IsNameOf}

-- ---- the first that passes

-- an element passes a test, and each before it fails it; or each fails it
abbrev FindsFirst : (Symbol → Bool) → List Symbol → Option Symbol → Type 0
FindsFirst p xs (Some s) = (k : ℕ) × (slice_get xs k ≡ Some s) × (p s ≡ true) × ((i : ℕ) (t : Symbol) → slice_get xs i ≡ Some t → p t ≡ true → k ≤ i)
FindsFirst p xs None = (i : ℕ) (t : Symbol) → slice_get xs i ≡ Some t → p t ≡ false

later_fail : (p : Symbol → Bool) (x : Symbol) (xs : List Symbol) → p x ≡ false → ((i : ℕ) (t : Symbol) → slice_get xs i ≡ Some t → p t ≡ false) → (i : ℕ) (t : Symbol) → slice_get (x ∷ xs) i ≡ Some t → p t ≡ false
later_fail p x xs fails f zero t e = subst (λ (u : Symbol). p u ≡ false) (same_Some x t e) fails
later_fail p x xs fails f (suc i) t e = f i t e

later_pass : (p : Symbol → Bool) (x : Symbol) (xs : List Symbol) (k : ℕ) → p x ≡ false → ((i : ℕ) (t : Symbol) → slice_get xs i ≡ Some t → p t ≡ true → k ≤ i) → (i : ℕ) (t : Symbol) → slice_get (x ∷ xs) i ≡ Some t → p t ≡ true → suc k ≤ i
later_pass p x xs k fails f zero t e passes = let h : p t ≡ false = subst (λ (u : Symbol). p u ≡ false) (same_Some x t e) fails in absurd (grind (arith, h, passes))
later_pass p x xs k fails f (suc i) t e passes = let h = f i t e passes in omega arith

one_later : (p : Symbol → Bool) (x : Symbol) (xs : List Symbol) (found : Option Symbol) → p x ≡ false → FindsFirst p xs found → FindsFirst p (x ∷ xs) found
one_later p x xs None fails f = later_fail p x xs fails f
one_later p x xs (Some s) fails f = (suc f.0, f.1, f.2, later_pass p x xs f.0 fails f.3)

finds_first : (p : Symbol → Bool) (xs : List Symbol) → FindsFirst p xs (find p xs)
finds_first p [] = λ i t e. absurd (none-some t e)
finds_first p (x ∷ xs) =
    elim (cases_Bool (p x)) [
      | inl passes ↦ rw passes (0, refl, passes, λ i t _ _. omega arith)
      | inr fails ↦ rw fails (one_later p x xs (find p xs) fails (finds_first p xs))
    ]

-- ---- the greatest first address

up_to_highest : (symbols : List Symbol) (pc i : ℕ) (t : Symbol) → slice_get symbols i ≡ Some t → covers t pc ≡ true → t.value ≤ highest symbols pc
unfolding highest
up_to_highest [] pc i t e c = absurd (none-some t e)
up_to_highest (s ∷ rest) pc zero t e c =
    let same : s ≡ t = same_Some s t e in
    let has : covers s pc ≡ true = subst (λ (u : Symbol). covers u pc ≡ true) (sym same) c in
    subst (λ (u : Symbol). u.value ≤ highest (s ∷ rest) pc) same (rw has (omega arith))
up_to_highest (s ∷ rest) pc (suc i) t e c =
    let below : t.value ≤ highest rest pc = up_to_highest rest pc i t e c in
    elim (cases_Bool (covers s pc)) [
      | inl passes ↦ rw passes (omega arith)
      | inr fails ↦ rw fails below
    ]

-- some function that has the program counter begins there, or none has it
abbrev IsAttained : List Symbol → ℕ → Type 0
IsAttained symbols pc = ((i : ℕ) × (t : Symbol) × (slice_get symbols i ≡ Some t) × (covers t pc ≡ true) × (t.value ≡ highest symbols pc)) ⊎ ((highest symbols pc ≡ 0) × ((i : ℕ) (t : Symbol) → slice_get symbols i ≡ Some t → covers t pc ≡ false))

attained_by : (s : Symbol) (rest : List Symbol) (pc : ℕ) → covers s pc ≡ true → IsAttained rest pc → IsAttained (s ∷ rest) pc
unfolding highest
attained_by s rest pc passes (inl h) =
    elim (cases_lt s.value (highest rest pc)) [
      | inl below ↦ inl (suc h.0, h.1, h.2, h.3, rw passes (omega (arith, h.4)))
      | inr above ↦ inl (0, s, refl, passes, rw passes (omega arith))
    ]
attained_by s rest pc passes (inr h) = inl (0, s, refl, passes, rw passes (omega (arith, h.0)))

not_attained_by : (s : Symbol) (rest : List Symbol) (pc : ℕ) → covers s pc ≡ false → IsAttained rest pc → IsAttained (s ∷ rest) pc
unfolding highest
not_attained_by s rest pc fails (inl h) = inl (suc h.0, h.1, h.2, h.3, rw fails h.4)
not_attained_by s rest pc fails (inr h) = inr (rw fails h.0, later_fail (λ (u : Symbol). covers u pc) s rest fails h.1)

attained : (symbols : List Symbol) (pc : ℕ) → IsAttained symbols pc
unfolding highest
attained [] pc = inr (refl, λ i t e. absurd (none-some t e))
attained (s ∷ rest) pc =
    elim (cases_Bool (covers s pc)) [
      | inl passes ↦ attained_by s rest pc passes (attained rest pc)
      | inr fails ↦ not_attained_by s rest pc fails (attained rest pc)
    ]

-- ---- the function of a program counter

abbrev is_top : List Symbol → ℕ → Symbol → Bool
is_top symbols pc s = covers s pc && s.value == highest symbols pc

top_from : (symbols : List Symbol) (pc : ℕ) (s : Symbol) → covers s pc ≡ true → s.value ≡ highest symbols pc → is_top symbols pc s ≡ true
top_from symbols pc s has e = rw has (grind (arith, nat_tests, e))

top_has : (symbols : List Symbol) (pc : ℕ) (s : Symbol) → is_top symbols pc s ≡ true → (covers s pc ≡ true) × (s.value ≡ highest symbols pc)
top_has symbols pc s top =
    elim (cases_Bool (covers s pc)) [
      | inl passes ↦ let h : (s.value == highest symbols pc) ≡ true = rw passes at top in (passes, grind (arith, nat_tests, h))
      | inr fails ↦ let h : false ≡ true = rw fails at top in absurd (grind (arith, h))
    ]

named_by : (symbols : List Symbol) (pc : ℕ) (found : Option Symbol) → FindsFirst (is_top symbols pc) symbols found → IsNameOf symbols pc found
named_by symbols pc (Some s) f =
    let top = top_has symbols pc s f.2 in
    record {
      place = f.0;
      stands = f.1;
      has = top.0;
      greatest = λ i t e c. let h = up_to_highest symbols pc i t e c in omega (arith, top.1);
      first = λ i t e c same. f.3 i t e (top_from symbols pc t c (same ∙ top.1));
    }
named_by symbols pc None f =
    elim (attained symbols pc) [
      | inl h ↦ let fails = f h.0 h.1 h.2 in let passes = top_from symbols pc h.1 h.3 h.4 in absurd (grind (arith, fails, passes))
      | inr h ↦ h.1
    ]

pub is_named : (symbols : List Symbol) (pc : ℕ) → IsNameOf symbols pc (name_of symbols pc)
unfolding name_of
is_named symbols pc = named_by symbols pc (find (is_top symbols pc) symbols) (finds_first (is_top symbols pc) symbols)

one_place : (symbols : List Symbol) (i j : ℕ) (s t : Symbol) → slice_get symbols i ≡ Some s → slice_get symbols j ≡ Some t → i ≡ j → s ≡ t
one_place symbols i j s t at_i at_j e = same_Some s t (sym at_i ∙ (ap (slice_get symbols) e ∙ at_j))

pub one_name : (symbols : List Symbol) (pc : ℕ) (a b : Option Symbol) → IsNameOf symbols pc a → IsNameOf symbols pc b → a ≡ b
one_name symbols pc None None f g = refl
one_name symbols pc None (Some t) f g = let fails = f g.place t g.stands in absurd (grind (arith, fails, g.has))
one_name symbols pc (Some s) None f g = let fails = g f.place s f.stands in absurd (grind (arith, fails, f.has))
one_name symbols pc (Some s) (Some t) f g =
    let low : t.value ≤ s.value = f.greatest g.place t g.stands g.has in
    let high : s.value ≤ t.value = g.greatest f.place s f.stands f.has in
    let before : f.place ≤ g.place = f.first g.place t g.stands g.has (omega arith) in
    let behind : g.place ≤ f.place = g.first f.place s f.stands f.has (omega arith) in
    ap Some (one_place symbols f.place g.place s t f.stands g.stands (omega arith))
