-- The places that a term reads.
use Rattle.std.proofs.Common.{◌≡◌, ℕ, ◌<◌, Bool, true, false, ◌||◌, nat_eq, List, refl, arith}
use Rattle.std.proofs.lemmas.Bool.Decides.{nat_tests}
use Rattle.term_model.specs.Tree.{Tree, Const, Input, Apply}
use Rattle.term_model.specs.Value.{val}
use Rattle.term_model.specs.Places.{reads, ReadsBelow, ReadsNothing, AreAlikeFor}

left_of : (s t : Bool) → s ≡ true → (s || t) ≡ true
left_of true t e = refl
left_of false t e = cc

right_of : (s t : Bool) → t ≡ true → (s || t) ≡ true
right_of true t e = refl
right_of false t e = e

either_of : {P : Type 0} (s t : Bool) → (s || t) ≡ true → (s ≡ true → P) → (t ≡ true → P) → P
either_of true t e h g = h refl
either_of false t e h g = g e

itself : (i : ℕ) → nat_eq i i ≡ true
itself i = grind (arith, nat_tests)

same : (i j : ℕ) → nat_eq i j ≡ true → i ≡ j
same i j e = grind (arith, nat_tests)

not_false : (s : Bool) → s ≡ true → s ≡ false → ⊥
not_false true e f = cc
not_false false e f = cc

-- the value follows what is read
pub value_follows : (t : Tree) (x y : List ℕ) → AreAlikeFor t x y → val t x ≡ val t y
value_follows (Const c) x y h = refl
value_follows (Input i) x y h = h i (itself i)
value_follows (Apply op a b) x y h =
    let first : val a x ≡ val a y = value_follows a x y (λ i e. h i (left_of (reads a i) (reads b i) e)) in
    let second : val b x ≡ val b y = value_follows b x y (λ i e. h i (right_of (reads a i) (reads b i) e)) in
    rw (first, second) refl

-- a term that reads only below n reads no place from n on
pub reads_are_below : (n : ℕ) (t : Tree) → ReadsBelow n t → (i : ℕ) → reads t i ≡ true → i < n
reads_are_below n (Const c) h i e = cc
reads_are_below n (Input j) h i e = let at : j ≡ i = same j i e in omega arith
reads_are_below n (Apply op a b) h i e = either_of (reads a i) (reads b i) e (reads_are_below n a h.0 i) (reads_are_below n b h.1 i)

-- and the other way round
pub below_by_reads : (n : ℕ) (t : Tree) → ((i : ℕ) → reads t i ≡ true → i < n) → ReadsBelow n t
below_by_reads n (Const c) h = tt
below_by_reads n (Input j) h = h j (itself j)
below_by_reads n (Apply op a b) h =
    (below_by_reads n a (λ i e. h i (left_of (reads a i) (reads b i) e)), below_by_reads n b (λ i e. h i (right_of (reads a i) (reads b i) e)))

both_false : (s t : Bool) → s ≡ false → t ≡ false → (s || t) ≡ false
both_false true t e f = cc
both_false false t e f = f

left_false : (s t : Bool) → (s || t) ≡ false → s ≡ false
left_false true t e = cc
left_false false t e = refl

right_false : (s t : Bool) → (s || t) ≡ false → t ≡ false
right_false true t e = cc
right_false false t e = e

-- a term that reads nothing reads no place
pub nothing_is_read : (t : Tree) → ReadsNothing t → (i : ℕ) → reads t i ≡ false
nothing_is_read (Const c) h i = refl
nothing_is_read (Input j) h i = absurd h
nothing_is_read (Apply op a b) h i = both_false (reads a i) (reads b i) (nothing_is_read a h.0 i) (nothing_is_read b h.1 i)

-- and the other way round
pub nothing_by_reads : (t : Tree) → ((i : ℕ) → reads t i ≡ false) → ReadsNothing t
nothing_by_reads (Const c) h = tt
nothing_by_reads (Input j) h = not_false (nat_eq j j) (itself j) (h j)
nothing_by_reads (Apply op a b) h =
    (nothing_by_reads a (λ i. left_false (reads a i) (reads b i) (h i)), nothing_by_reads b (λ i. right_false (reads a i) (reads b i) (h i)))
