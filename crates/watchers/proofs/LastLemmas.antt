-- Where the last sixteen program counters stand.
use Rattle.std.proofs.Common.{◌≡◌, ◌∙◌, ◌+◌, ◌-◌, ◌<◌, ◌≤◌, ℕ, List, [], ◌∷◌, ◌++◌, length, take, drop, set, sym, ap, arith, length-drop}
use Rattle.std.specs.List.{copy_within}
use Rattle.std.proofs.lemmas.List.{length-take-le, take_all, take-append-le, take_more_set, drop-take}
use Rattle.std.proofs.lemmas.List.Edits.{paste_all}
use Rattle.watchers.specs.Counters.{last_sixteen}
use Rattle.watchers.proofs.RunLemmas.{last_again}

-- the upper half, moved to the front
pub moved : (xs ys : List ℕ) (end : ℕ) → length xs ≡ 32 → 32 ≤ end → ys ≡ copy_within xs 16 32 0 → last_sixteen (take 16 ys) ≡ last_sixteen (take end xs)
moved xs ys end l e is =
    let size : length (drop 16 xs) ≡ 16 = length-drop 16 xs ∙ ap (λ n. n - 16) l in
    let whole : ys ≡ drop 16 xs ++ drop 16 xs = is ∙ paste_all xs 0 (drop 16 xs) 16 (sym size) in
    let front : take 16 ys ≡ drop 16 xs = ap (take 16) whole ∙ (take-append-le 16 (drop 16 xs) (drop 16 xs) (omega (arith, size)) ∙ take_all 16 (drop 16 xs) (omega (arith, size))) in
    let rest : take end xs ≡ xs = take_all end xs (omega (arith, l, e)) in
    ap last_sixteen front ∙ (ap (λ n. drop (n - 16) (drop 16 xs)) size ∙ sym (ap last_sixteen rest ∙ ap (λ n. drop (n - 16) xs) l))

-- one more number behind the last ones
pub next_last : (xs ys old : List ℕ) (i end x : ℕ) → i < length ys → last_sixteen (take i ys) ≡ last_sixteen (take end xs) → last_sixteen (take end xs) ≡ old
    → last_sixteen (take (i + 1) (set ys i x)) ≡ last_sixteen (old ++ x ∷ [])
next_last xs ys old i end x inside same is =
    ap last_sixteen (take_more_set ys i x inside) ∙ (sym (last_again (take i ys) x) ∙ ap (λ l. last_sixteen (l ++ x ∷ [])) (same ∙ is))

-- the last sixteen before an end
pub before_end : (xs : List ℕ) (end : ℕ) → end ≤ length xs → take (end - (end - 16)) (drop (end - 16) xs) ≡ last_sixteen (take end xs)
before_end xs end within =
    let size : length (take end xs) ≡ end = length-take-le end xs within in
    let whole : end - 16 + (end - (end - 16)) ≡ end = omega arith in
    sym (ap (λ n. drop (n - 16) (take end xs)) size ∙ (ap (λ n. drop (end - 16) (take n xs)) (sym whole) ∙ drop-take (end - 16) (end - (end - 16)) xs))
