-- Lists of which each item stands in a relation to every later one, and each input once.
use Rattle.std.proofs.Common.{◌≡◌, ◌≢◌, ℕ, zero, suc, ◌+◌, ◌<◌, ◌≤◌, ◌⊎◌, inl, inr, List, [], ◌∷◌, ◌++◌, length, map, get_or, refl, arith, ⊎_elim}
use Rattle.std.specs.Prelude.{AllPairs}
use Rattle.std.specs.List.{range_with_len}
use Rattle.input_laws.specs.Inputs.{bytes, all_inputs}
use Rattle.input_laws.proofs.Inputs.{Among, beginning}

-- Each item of the list stands in the relation to every later one.
abbrev pub Ordered : {X : Type 0} → (X → X → Type 0) → List X → Type 0
Ordered R [] = Unit {0}
Ordered {X} R (x ∷ xs) = ((z : X) → Among z xs → R x z) × Ordered R xs

-- An item by its index is among the items.
among_get : {X : Type 0} (xs : List X) (i : ℕ) (d : X) → i < length xs → Among (get_or xs i d) xs
among_get [] i d h = absurd (omega arith)
among_get (x ∷ xs) zero d h = inl refl
among_get (x ∷ xs) (suc i) d h = inr (among_get xs i d (omega arith))

-- The relation holds of each pair of indices.
pub pairs_from_ordered : {X : Type 0} (R : X → X → Type 0) (xs : List X) → Ordered R xs → AllPairs R xs
pairs_from_ordered R [] k i j d h l = absurd (omega arith)
pairs_from_ordered R (x ∷ xs) k zero zero d h l = absurd (omega arith)
pairs_from_ordered R (x ∷ xs) k zero (suc j) d h l = k.0 (get_or xs j d) (among_get xs j d (omega arith))
pairs_from_ordered R (x ∷ xs) k (suc i) zero d h l = absurd (omega arith)
pairs_from_ordered R (x ∷ xs) k (suc i) (suc j) d h l = pairs_from_ordered R xs k.1 i j d (omega arith) (omega arith)

-- An item of two lists in a row is in the one or in the other.
append_cases : {X : Type 0} (z : X) (xs ys : List X) → Among z (xs ++ ys) → Among z xs ⊎ Among z ys
append_cases z [] ys a = inr a
append_cases z (x ∷ xs) ys (inl e) = inl (inl e)
append_cases z (x ∷ xs) ys (inr a) = ⊎_elim (λ (l : Among z xs). inl (inr l)) (λ (r : Among z ys). inr r) (append_cases z xs ys a)

-- Two ordered lists in a row are ordered where each item of the one stands in the relation to each of the other.
ordered_append : {X : Type 0} (R : X → X → Type 0) (xs ys : List X) → Ordered R xs → Ordered R ys → ((x y : X) → Among x xs → Among y ys → R x y) → Ordered R (xs ++ ys)
ordered_append R [] ys h k across = k
ordered_append R (x ∷ xs) ys h k across = (
  λ z a. ⊎_elim (λ (l : Among z xs). h.0 z l) (λ (r : Among z ys). across x z (inl refl) r) (append_cases z xs ys a),
  ordered_append R xs ys h.1 k (λ y z l r. across y z (inr l) r),
)

-- A list that begins with b goes on with one of the rest.
begins : (z : List ℕ) (b : ℕ) (rest : List (List ℕ)) → Among z (map (λ y. b ∷ y) rest) → (y : List ℕ) × (z ≡ b ∷ y) × Among y rest
begins z b [] a = absurd a
begins z b (x ∷ xs) (inl e) = (x, e, inl refl)
begins z b (x ∷ xs) (inr a) = let r : (y : List ℕ) × (z ≡ b ∷ y) × Among y xs = begins z b xs a in (r.0, r.1, inr r.2)

-- A list of them begins with the byte of one of the values.
begins_among : (byte : ℕ → ℕ) (z : List ℕ) (values : List ℕ) (rest : List (List ℕ)) → Among z (beginning byte values rest) → (v : ℕ) × (y : List ℕ) × (z ≡ byte v ∷ y) × Among v values
begins_among byte z [] rest a = absurd a
begins_among byte z (v ∷ values) rest a =
    ⊎_elim
    (λ (l : Among z (map (λ y. byte v ∷ y) rest)). let r : (y : List ℕ) × (z ≡ byte v ∷ y) × Among y rest = begins z (byte v) rest l in (v, r.0, r.1, inl refl))
    (λ (l : Among z (beginning byte values rest)). let r : (w : ℕ) × (y : List ℕ) × (z ≡ byte w ∷ y) × Among w values = begins_among byte z values rest l in (r.0, r.1, r.2, inr r.3))
    (append_cases z (map (λ y. byte v ∷ y) rest) (beginning byte values rest) a)

-- With the same byte before each item, they are as ordered as before.
ordered_map : (R S : List ℕ → List ℕ → Type 0) (b : ℕ) → ((y z : List ℕ) → R y z → S (b ∷ y) (b ∷ z)) → (rest : List (List ℕ)) → Ordered R rest → Ordered S (map (λ y. b ∷ y) rest)
ordered_map R S b same [] h = tt
ordered_map R S b same (x ∷ xs) h = (
  λ z a. let r : (y : List ℕ) × (z ≡ b ∷ y) × Among y xs = begins z b xs a in rw r.1 (same x r.0 (h.0 r.0 r.2)),
  ordered_map R S b same xs h.1,
)

-- What begins with the bytes of ordered values, and goes on with the ordered rest, is ordered.
pub ordered_beginning : (byte : ℕ → ℕ) (R S : List ℕ → List ℕ → Type 0) → ((v : ℕ) (y z : List ℕ) → R y z → S (byte v ∷ y) (byte v ∷ z)) → ((v w : ℕ) (y z : List ℕ) → v < w → S (byte v ∷ y) (byte w ∷ z)) → (values : List ℕ) (rest : List (List ℕ)) → Ordered (λ v w. v < w) values → Ordered R rest → Ordered S (beginning byte values rest)
ordered_beginning byte R S same less [] rest h k = tt
ordered_beginning byte R S same less (v ∷ values) rest h k =
    ordered_append S (map (λ y. byte v ∷ y) rest) (beginning byte values rest) (ordered_map R S (byte v) (same v) rest k) (ordered_beginning byte R S same less values rest h.1 k) (λ x z l r.
    let here : (y : List ℕ) × (x ≡ byte v ∷ y) × Among y rest = begins x (byte v) rest l in
    let later : (w : ℕ) × (y : List ℕ) × (z ≡ byte w ∷ y) × Among w values = begins_among byte z values rest r in
    rw (here.1, later.2) (less v later.0 here.0 later.1 (h.0 later.0 later.3)))

-- No number of a range is below its start.
range_above : (a n b : ℕ) → Among b (range_with_len a n) → a ≤ b
range_above a zero b h = absurd h
range_above a (suc n) b (inl e) = omega arith
range_above a (suc n) b (inr h) = let k : a + 1 ≤ b = range_above (a + 1) n b h in omega arith

-- A range rises.
ordered_range : (a n : ℕ) → Ordered (λ v w. v < w) (range_with_len a n)
ordered_range a zero = tt
ordered_range a (suc n) = (λ z h. let k : a + 1 ≤ z = range_above (a + 1) n z h in omega arith, ordered_range (a + 1) n)

-- The values of a byte rise.
pub ordered_bytes : Ordered (λ v w. v < w) bytes
unfolding bytes
ordered_bytes = ordered_range 0 256

-- ---- each input once

-- Different lists with the same byte before them differ.
longer_differ : (v : ℕ) (y z : List ℕ) → y ≢ z → v ∷ y ≢ v ∷ z
longer_differ v y z ne e = ne (cc e)

-- Lists that begin with different bytes differ.
heads_differ : (v w : ℕ) (y z : List ℕ) → v < w → v ∷ y ≢ w ∷ z
heads_differ v w y z l e = let same : v ≡ w = cc e in omega arith

-- Each input differs from every later one.
distinct_inputs : (n : ℕ) → Ordered (λ y z. y ≢ z) (all_inputs n)
unfolding all_inputs
distinct_inputs zero = (λ z a. absurd a, tt)
distinct_inputs (suc n) = ordered_beginning (λ v. v) (λ y z. y ≢ z) (λ y z. y ≢ z) longer_differ heads_differ bytes (all_inputs n) ordered_bytes (distinct_inputs n)

-- Two items of the list of all inputs are different.
pub inputs_once : (n : ℕ) → AllPairs (λ y z. y ≢ z) (all_inputs n)
inputs_once n = pairs_from_ordered (λ y z. y ≢ z) (all_inputs n) (distinct_inputs n)
