-- The last calls of a stack.
use Rattle.std.proofs.Common.{◌≡◌, ◌∙◌, ℕ, ◌+◌, ◌-◌, ◌<◌, ◌≤◌, List, ◌++◌, length, min, take, reverse, get_or, sym, ap, arith, ⊎_elim}
use Rattle.std.specs.Prelude.{flat_map}
use Rattle.std.proofs.lemmas.Bool.{cases_lt}
use Rattle.std.proofs.lemmas.List.{take_more, take_all, flat_map_more, length-reverse, get_or-reverse}

-- one more call
pub one_more : (f : ℕ → List ℕ) (front : List ℕ) (stack : List ℕ) (i : ℕ) → i < length stack → (front ++ flat_map f (take i (reverse stack))) ++ f (get_or stack (length stack - 1 - i) 0) ≡ front ++ flat_map f (take (i + 1) (reverse stack))
one_more f front stack i below =
    let within : i < length (reverse stack) = omega (arith, length-reverse stack) in
    ap (λ x. (front ++ flat_map f (take i (reverse stack))) ++ f x) (sym (get_or-reverse stack i 0 below))
    ∙ (flat_map_more f front (take i (reverse stack)) (get_or (reverse stack) i 0)
    ∙ ap (λ l. front ++ flat_map f l) (sym (take_more (reverse stack) i 0 within)))

-- all calls that are told
pub all_told : (stack : List ℕ) (i : ℕ) → min (length stack) 64 ≤ i → i ≤ min (length stack) 64 → take i (reverse stack) ≡ take 64 (reverse stack)
all_told stack i low high = ⊎_elim
    (λ (less : length stack < 64).
    take_all i (reverse stack) (omega (arith, length-reverse stack, low)) ∙ sym (take_all 64 (reverse stack) (omega (arith, length-reverse stack))))
    (λ (long : 64 ≤ length stack). let same : i ≡ 64 = omega (arith, low, high) in ap (λ k. take k (reverse stack)) same)
    (cases_lt (length stack) 64)
