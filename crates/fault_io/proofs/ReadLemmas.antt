-- What reads in turn do to the count of those that failed.
use Rattle.std.proofs.Common.{◌≡◌, ◌∙◌, ◌<◌, ◌≤◌, ◌+◌, ◌-◌, ◌^◌, ℕ, zero, suc, Bool, true, false, List, ⊎_elim, arith, refl, ap, subst}
use Rattle.std.specs.Prelude.{if◌then◌else◌, nat_lt, nat_eq, ◌&&◌}
use Rattle.std.specs.List.{list_any}
use Rattle.std.proofs.lemmas.Bool.{cases_lt, lt-ltb, le-ltb}
use Rattle.fault_io.specs.Faults.{Rose}
use Rattle.fault_io.specs.Reads.{fails, failed_among, NoneFails, LastFails}

-- the read of a number that isn't in the list doesn't fail, nor one of the last number
pub fails_not_listed : (failing : List ℕ) (number : ℕ) → list_any (λ entry. nat_eq entry number) failing ≡ false → fails failing number ≡ false
fails_not_listed failing number none = by (nat_lt number (2 ^ 64 - 1)) _ none
  where
    by : (b c : Bool) → c ≡ false → (b && c) ≡ false
    by true c is = is
    by false c is = refl

pub fails_not_last : (failing : List ℕ) (number : ℕ) → 2 ^ 64 - 1 ≤ number → fails failing number ≡ false
fails_not_last failing number late = ap (λ b. b && list_any (λ entry. nat_eq entry number) failing) (le-ltb number (2 ^ 64 - 1) late)

pub fails_listed : (failing : List ℕ) (number : ℕ) → number < 2 ^ 64 - 1 → list_any (λ entry. nat_eq entry number) failing ≡ true → fails failing number ≡ true
fails_listed failing number early some = ap (λ b. b && list_any (λ entry. nat_eq entry number) failing) (lt-ltb number (2 ^ 64 - 1) early) ∙ some

-- one more read that doesn't fail
pub one_more : (failing : List ℕ) (first made next : ℕ) → NoneFails failing first made → next ≤ made + 1 → fails failing next ≡ false → NoneFails failing first next
one_more failing first made next quiet near is number above within =
    ⊎_elim (λ (before : number < made + 1). quiet number above (omega arith)) (λ (last : made + 1 ≤ number). let e : next ≡ number = omega arith in subst (λ n. fails failing n ≡ false) e is) (cases_lt number (made + 1))

plus_none : (b : Bool) (n : ℕ) → b ≡ false → n + (if b then 1 else 0) ≡ n
plus_none true n is = cc
plus_none false n is = omega arith

plus_one : (b : Bool) (n : ℕ) → b ≡ true → n + (if b then 1 else 0) ≡ n + 1
plus_one true n is = refl
plus_one false n is = cc

next_same : (failing : List ℕ) (last : ℕ) → fails failing (suc last) ≡ false → failed_among failing (suc last) ≡ failed_among failing last
unfolding failed_among
next_same failing last is = plus_none (fails failing (suc last)) (failed_among failing last) is

next_one : (failing : List ℕ) (last : ℕ) → fails failing (suc last) ≡ true → failed_among failing (suc last) ≡ failed_among failing last + 1
unfolding failed_among
next_one failing last is = plus_one (fails failing (suc last)) (failed_among failing last) is

-- reads that don't fail leave the count
pub count_same : (failing : List ℕ) (first last : ℕ) → first ≤ last → NoneFails failing first last → failed_among failing last ≡ failed_among failing first
count_same failing first zero le none = let e : first ≡ zero = omega arith in rw e refl
count_same failing first (suc last) le none =
    let earlier = λ (later : first ≤ last). count_same failing first last later (λ number above within. none number above (omega arith)) in
    ⊎_elim
    (λ (later : first < suc last). next_same failing last (none (suc last) later (omega arith)) ∙ earlier (omega arith))
    (λ (same : suc last ≤ first). let e : first ≡ suc last = omega arith in rw e refl)
    (cases_lt first (suc last))

-- a read that fails raises it by one
pub count_one : (failing : List ℕ) (first last : ℕ) → LastFails failing first last → failed_among failing last ≡ failed_among failing first + 1
count_one failing first zero fault = absurd (omega (arith, fault.later))
count_one failing first (suc last) fault =
    next_one failing last fault.fault ∙ ap (λ n. n + 1) (count_same failing first last (omega (arith, fault.later)) (λ number above within. fault.others number above (omega arith)))

-- so the count rose
pub count_rose : (failing : List ℕ) (first last : ℕ) → LastFails failing first last → Rose (failed_among failing first) (failed_among failing last)
count_rose failing first last fault = let one = count_one failing first last fault in omega arith
