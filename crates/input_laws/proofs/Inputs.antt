-- The list of all inputs has each list of n bytes, and nothing else.
use Rattle.std.proofs.Common.{◌≡◌, ℕ, zero, suc, ◌+◌, ◌*◌, ◌^◌, ◌<◌, ◌≤◌, ◌⊎◌, inl, inr, List, [], ◌∷◌, ◌++◌, length, map, refl, ap, sym, ◌∙◌, arith, ⊎_elim}
use Rattle.std.specs.Prelude.{flat_map, All, Contains}
use Rattle.std.proofs.Math.Nat.{pow-suc}
use Rattle.std.proofs.lemmas.List.{length-append, length-map}
use Rattle.std.proofs.lemmas.List.Elements.{All-head, All-tail, All-nil, All-cons, All-append, All-map, All-weaker}
use Rattle.std.specs.List.{range_with_len}
use Rattle.std.proofs.lemmas.List.FromFn.{length-range_with_len}
use Rattle.std.proofs.lemmas.Bool.{cases_lt}
use Rattle.input_laws.specs.Inputs.{bytes, all_inputs, IsInput}
use Rattle.input_laws.proofs.Bound.{bytes_in_range}

-- y is an item of xs.
abbrev pub Among : {X : Type 0} → X → List X → Type 0
Among y [] = ⊥
Among y (x ∷ xs) = (y ≡ x) ⊎ Among y xs

-- An item of the first of two lists in a row is an item of both.
among_left : {X : Type 0} (y : X) (xs ys : List X) → Among y xs → Among y (xs ++ ys)
among_left y [] ys h = absurd h
among_left y (x ∷ xs) ys (inl e) = inl e
among_left y (x ∷ xs) ys (inr h) = inr (among_left y xs ys h)

-- An item of the second of two lists in a row is an item of both.
among_right : {X : Type 0} (y : X) (xs ys : List X) → Among y ys → Among y (xs ++ ys)
among_right y [] ys h = h
among_right y (x ∷ xs) ys h = inr (among_right y xs ys h)

-- What a function makes of an item is among what it makes of the items.
among_map : {X Y : Type 0} (f : X → Y) (y : X) (xs : List X) → Among y xs → Among (f y) (map f xs)
among_map f y [] h = absurd h
among_map f y (x ∷ xs) (inl e) = inl (ap f e)
among_map f y (x ∷ xs) (inr h) = inr (among_map f y xs h)

-- The lists that begin with a byte of each value, and go on with one of the rest.
abbrev pub beginning : (ℕ → ℕ) → List ℕ → List (List ℕ) → List (List ℕ)
beginning byte values rest = flat_map (λ v. map (λ z. byte v ∷ z) rest) values

-- A value's byte before one of the rest is among them.
pub among_beginning : (byte : ℕ → ℕ) (b : ℕ) (y : List ℕ) (values : List ℕ) (rest : List (List ℕ)) → Among b values → Among y rest → Among (byte b ∷ y) (beginning byte values rest)
among_beginning byte b y [] rest h k = absurd h
among_beginning byte b y (v ∷ values) rest (inl e) k = among_left (byte b ∷ y) (map (λ z. byte v ∷ z) rest) (beginning byte values rest) (rw e (among_map (λ z. byte v ∷ z) y rest k))
among_beginning byte b y (v ∷ values) rest (inr h) k = among_right (byte b ∷ y) (map (λ z. byte v ∷ z) rest) (beginning byte values rest) (among_beginning byte b y values rest h k)

-- A number between the ends of a range is in it.
among_range : (a n b : ℕ) → a ≤ b → b < a + n → Among b (range_with_len a n)
among_range a zero b h k = absurd (omega arith)
among_range a (suc n) b h k = ⊎_elim (λ (l : a < b). inr (among_range (a + 1) n b (omega arith) (omega arith))) (λ (l : b ≤ a). inl (omega arith)) (cases_lt a b)

-- A number below 256 is a value of a byte.
pub among_bytes : (b : ℕ) → b < 256 → Among b bytes
unfolding bytes
among_bytes b h = among_range 0 256 b (omega arith) h

-- A list of n bytes is among all inputs.
pub among_inputs : (n : ℕ) (y : List ℕ) → length y ≡ n → All (λ b. b < 256) y → Among y (all_inputs n)
unfolding all_inputs
among_inputs zero [] e a = inl refl
among_inputs zero (b ∷ y) e a = absurd (omega arith)
among_inputs (suc n) [] e a = absurd (omega arith)
among_inputs (suc n) (b ∷ y) e a = among_beginning (λ v. v) b y bytes (all_inputs n) (among_bytes b (All-head (λ b. b < 256) b y a)) (among_inputs n y (omega arith) (All-tail (λ b. b < 256) b y a))

-- An item is contained.
pub contains_from_among : {X : Type 0} (y : X) (xs : List X) → Among y xs → Contains xs y
contains_from_among y [] h = absurd h
contains_from_among y (x ∷ xs) (inl e) = (0, omega arith, sym e)
contains_from_among y (x ∷ xs) (inr h) = let c : Contains xs y = contains_from_among y xs h in (suc c.0, omega (arith, c.1), c.2)

-- The list of all inputs contains each input.
pub contains_inputs : (n : ℕ) (y : List ℕ) → IsInput n y → Contains (all_inputs n) y
contains_inputs n y a = contains_from_among y (all_inputs n) (among_inputs n y a.long a.in_range)

-- A byte before an input is an input.
input-cons : (n b : ℕ) (y : List ℕ) → b < 256 → IsInput n y → IsInput (suc n) (b ∷ y)
input-cons n b y h a = record { long = ap suc a.long; in_range = All-cons (λ b. b < 256) b y h a.in_range }

-- Where the bytes are in range and the rest are inputs, they are inputs.
pub all_beginning : (byte : ℕ → ℕ) (n : ℕ) (rest : List (List ℕ)) (values : List ℕ) → All (IsInput n) rest → All (λ v. byte v < 256) values → All (IsInput (suc n)) (beginning byte values rest)
all_beginning byte n rest [] h below = All-nil (IsInput (suc n))
all_beginning byte n rest (v ∷ values) h below =
    All-append (IsInput (suc n)) (map (λ z. byte v ∷ z) rest) (beginning byte values rest)
    (All-map (IsInput (suc n)) (λ z. byte v ∷ z) rest (All-weaker (IsInput n) (λ z. IsInput (suc n) (byte v ∷ z)) (λ z a. input-cons n (byte v) z (All-head (λ v. byte v < 256) v values below) a) rest h))
    (all_beginning byte n rest values h (All-tail (λ v. byte v < 256) v values below))

-- Each item of the list of all inputs is an input.
pub all_are_inputs : (n : ℕ) → All (IsInput n) (all_inputs n)
unfolding all_inputs
all_are_inputs zero = All-cons (IsInput 0) [] [] (record { long = refl; in_range = All-nil (λ b. b < 256) }) (All-nil (IsInput 0))
all_are_inputs (suc n) = all_beginning (λ v. v) n (all_inputs n) bytes (all_are_inputs n) bytes_in_range

-- A byte has 256 values.
pub length-bytes : length bytes ≡ 256
unfolding bytes
length-bytes = length-range_with_len 0 256

-- There are as many as pairs of a value and one of the rest.
pub length-beginning : (byte : ℕ → ℕ) (rest : List (List ℕ)) (values : List ℕ) → length (beginning byte values rest) ≡ length values * length rest
length-beginning byte rest [] = omega arith
length-beginning byte rest (v ∷ values) = rw (length-append, length-map) (let e : length (beginning byte values rest) ≡ length values * length rest = length-beginning byte rest values in omega arith)

-- There are 256 ^ n inputs of n bytes.
pub length-all_inputs : (n : ℕ) → length (all_inputs n) ≡ 256 ^ n
unfolding all_inputs
length-all_inputs zero = refl
length-all_inputs (suc n) = length-beginning (λ v. v) (all_inputs n) bytes ∙ rw (length-bytes, length-all_inputs n, pow-suc 256 n) (omega arith)
