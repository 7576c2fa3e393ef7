-- The number of choices from the sets, and the bound that it gives.
use Rattle.std.proofs.Common.{◌≡◌, ℕ, zero, suc, ◌+◌, ◌-◌, ◌*◌, ◌^◌, ◌<◌, ◌≤◌, Bool, true, false, cond, List, [], ◌∷◌, length, map, refl, ap, sym, arith, ⊎_elim}
use Rattle.std.specs.Prelude.{filter, flat_map, All, nat_le}
use Rattle.std.proofs.Math.Nat.{pow-suc}
use Rattle.std.proofs.Math.Pow.{pow_mono}
use Rattle.std.proofs.lemmas.Nat.{pow-add, mul-le}
use Rattle.std.proofs.lemmas.List.{length-append}
use Rattle.std.proofs.lemmas.List.Elements.{filter-append, All-head, All-tail}
use Rattle.std.specs.List.{range_with_len}
use Rattle.std.proofs.lemmas.List.FromFn.{length-range_with_len, get_or-range_with_len}
use Rattle.std.proofs.lemmas.List.Sums.{sum_by-cons}
use Rattle.std.proofs.lemmas.Bool.{cond_both, leb-true, le-leb, lt-leb, cases_lt}
use Rattle.input_laws.specs.Inputs.{bytes, all_inputs, class_size}
use Rattle.input_laws.specs.Sets.{size, IsChoice, log2_up_to, floor_log2, revealed}

-- ---- the values of a byte

-- The numbers of a range from 0 are below any bound that its length is within.
range_in_range : (n m : ℕ) → n ≤ m → All (λ b. b < m) (range_with_len 0 n)
range_in_range n m h = λ k d b. let l : k < n = rw (length-range_with_len 0 n) at b in rw (get_or-range_with_len 0 n k d l) (omega arith)

-- The values of a byte are below 256.
pub bytes_in_range : All (λ b. b < 256) bytes
unfolding bytes
bytes_in_range = range_in_range 256 256 (omega arith)

-- ---- choices

-- How many choices the sets have.
choices : List (ℕ → Bool) → ℕ
choices [] = 1
choices (set ∷ sets) = size set * choices sets

-- Two lists of one length stay so where both are one longer or neither is.
length-cond : {X Y : Type 0} (t : Bool) (x : X) (y : Y) (p : List X) (q : List Y) → length p ≡ length q → length (cond t (x ∷ p) p) ≡ length (cond t (y ∷ q) q)
length-cond true x y p q e = ap suc e
length-cond false x y p q e = e

-- The kept lists that begin with b.
kept_with : (member : List ℕ → Bool) (b : ℕ) (xs : List (List ℕ)) → length (filter member (map (λ y. b ∷ y) xs)) ≡ length (filter (λ y. member (b ∷ y)) xs)
kept_with member b [] = refl
kept_with member b (x ∷ xs) = length-cond (member (b ∷ x)) (b ∷ x) x (filter member (map (λ y. b ∷ y) xs)) (filter (λ y. member (b ∷ y)) xs) (kept_with member b xs)

-- A value in the set brings as many members as each value does.
one_more : (t : Bool) (b : ℕ) (bs : List ℕ) (count here rest : ℕ) → (t ≡ true → count ≤ here) → length bs * count ≤ rest → length (cond t (b ∷ bs) bs) * count ≤ here + rest
one_more true b bs count here rest h r = let k : count ≤ here = h refl in omega arith
one_more false b bs count here rest h r = omega arith

-- Each value in the set brings at least `count` members.
kept_by_values : (member : List ℕ → Bool) (set : ℕ → Bool) (rest : List (List ℕ)) (count : ℕ) (values : List ℕ) → All (λ b. b < 256) values → ((b : ℕ) → b < 256 → set b ≡ true → count ≤ length (filter (λ y. member (b ∷ y)) rest)) → length (filter set values) * count ≤ length (filter member (flat_map (λ b. map (λ y. b ∷ y) rest) values))
kept_by_values member set rest count [] h many = omega arith
kept_by_values member set rest count (b ∷ bs) h many =
    rw (filter-append member (map (λ y. b ∷ y) rest) (flat_map (λ b. map (λ y. b ∷ y) rest) bs), length-append, kept_with member b rest)
    (one_more (set b) b (filter set bs) count _ _ (many b (All-head (λ b. b < 256) b bs h)) (kept_by_values member set rest count bs (All-tail (λ b. b < 256) b bs h) many))

-- The class has at least as many members as the sets have choices.
choices-le : (member : List ℕ → Bool) (sets : List (ℕ → Bool)) → ((y : List ℕ) → IsChoice sets y → member y ≡ true) → choices sets ≤ class_size member (length sets)
unfolding all_inputs choices
choices-le member [] h = rw (h [] tt) (omega arith)
choices-le member (set ∷ sets) h = kept_by_values member set (all_inputs (length sets)) (choices sets) bytes bytes_in_range (λ b below is. choices-le (λ y. member (b ∷ y)) sets (λ y c. h (b ∷ y) ((below, is), c)))

-- ---- the logarithm

-- 2 to the logarithm is at most the number.
log2_up_to-le : (top n : ℕ) → 0 < n → 2 ^ log2_up_to top n ≤ n
unfolding log2_up_to
log2_up_to-le zero n h = h
log2_up_to-le (suc top) n h = cond_both (nat_le (2 ^ suc top) n) (suc top) (log2_up_to top n) (λ k. 2 ^ k ≤ n) (λ e. leb-true (2 ^ suc top) n e) (λ e. log2_up_to-le top n h)

-- A number is below 2 to the number.
below_pow : (k : ℕ) → k < 2 ^ k
below_pow zero = omega arith
below_pow (suc k) = let h : k < 2 ^ k = below_pow k in rw pow-suc (omega arith)

-- A number below twice 2 ^ k is below each later power of 2.
too_high : (top n k : ℕ) → k < suc top → n < 2 * 2 ^ k → n < 2 ^ suc top
too_high top n k b high =
    let e : 2 ^ suc k ≡ 2 ^ k * 2 = pow-suc 2 k in
    let m : 2 ^ suc k ≤ 2 ^ suc top = pow_mono b in
    omega arith

-- The exponent whose power is at most the number, and more than half of it, is the logarithm.
log2_up_to-is : (top n k : ℕ) → k ≤ top → 2 ^ k ≤ n → n < 2 * 2 ^ k → log2_up_to top n ≡ k
unfolding log2_up_to
log2_up_to-is zero n k h low high = omega arith
log2_up_to-is (suc top) n k h low high =
    ⊎_elim
    (λ (b : k < suc top). rw (lt-leb (2 ^ suc top) n (too_high top n k b high)) (log2_up_to-is top n k (omega arith) low high))
    (λ (b : suc top ≤ k). let e : k ≡ suc top = omega arith in rw (le-leb (2 ^ suc top) n (rw e at low)) (sym e))
    (cases_lt k (suc top))

-- What `ilog2` ensures of its result settles it.
pub floor_log2-is : (n k : ℕ) → 2 ^ k ≤ n → n < 2 * 2 ^ k → floor_log2 n ≡ k
floor_log2-is n k low high = log2_up_to-is n n k (omega (arith, below_pow k)) low high

-- ---- the bound

-- A set of n values, times 2 to the bits that it reveals, is at least all values of a byte.
set_covers : (n k : ℕ) → 2 ^ k ≤ n → 256 ≤ n * 2 ^ (8 - k)
set_covers n k h =
    let within : 8 ≤ k + (8 - k) = omega arith in
    let whole : 2 ^ 8 ≤ 2 ^ (k + (8 - k)) = pow_mono within in
    let parts : 2 ^ (k + (8 - k)) ≡ 2 ^ k * 2 ^ (8 - k) = pow-add 2 k (8 - k) in
    let more : 2 ^ k * 2 ^ (8 - k) ≤ n * 2 ^ (8 - k) = mul-le (2 ^ k) (2 ^ (8 - k)) n (2 ^ (8 - k)) h (omega arith) in
    omega arith

-- A bound on one set and one on the others give one on them all.
both_cover : (s a c r p : ℕ) → 256 ≤ s * a → p ≤ c * r → p * 256 ≤ s * c * (a * r)
both_cover s a c r p h k = let m : p * 256 ≤ (c * r) * (s * a) = mul-le p 256 (c * r) (s * a) k h in omega arith

-- The choices from the sets, times 2 to the bits that they reveal, are at least all inputs.
sets_cover : (sets : List (ℕ → Bool)) → All (λ set. 0 < size set) sets → 256 ^ length sets ≤ choices sets * 2 ^ revealed sets
unfolding choices
sets_cover [] h = omega arith
sets_cover (set ∷ sets) h =
    rw (pow-suc 256 (length sets), sum_by-cons (λ set. 8 - floor_log2 (size set)) set sets, pow-add 2 (8 - floor_log2 (size set)) (revealed sets))
    (both_cover (size set) (2 ^ (8 - floor_log2 (size set))) (choices sets) (2 ^ revealed sets) (256 ^ length sets)
    (set_covers (size set) (floor_log2 (size set)) (log2_up_to-le (size set) (size set) (All-head (λ set. 0 < size set) set sets h)))
    (sets_cover sets (All-tail (λ set. 0 < size set) set sets h)))

-- The class has each choice from the sets, so it is as large.
pub bound : (member : List ℕ → Bool) (sets : List (ℕ → Bool)) → All (λ set. 0 < size set) sets → ((y : List ℕ) → IsChoice sets y → member y ≡ true) → 256 ^ length sets ≤ class_size member (length sets) * 2 ^ revealed sets
bound member sets filled h =
    let more : choices sets * 2 ^ revealed sets ≤ class_size member (length sets) * 2 ^ revealed sets = mul-le (choices sets) (2 ^ revealed sets) (class_size member (length sets)) (2 ^ revealed sets) (choices-le member sets h) (omega arith) in
    omega (arith, sets_cover sets filled)
