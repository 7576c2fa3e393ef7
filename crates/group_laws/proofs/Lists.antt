-- What a list contains, and tests of its items.
use Rattle.std.proofs.Common.{◌≡◌, ◌≢◌, ℕ, zero, suc, ◌<◌, ◌⊎◌, inl, inr, Bool, true, false, cond, ◌||◌, List, [], ◌∷◌, get_or, map, refl, sym, ◌∙◌, ap, subst, arith}
use Rattle.std.specs.Prelude.{All, AllPairs, Contains, filter}
use Rattle.std.specs.List.{list_any, list_all}
use Rattle.std.proofs.lemmas.List.{get_or_default}
use Rattle.std.proofs.lemmas.List.Elements.{All-map, All-head, All-tail, All-contains, All-filter, All-contains_itself, filter_passes, Contains-get_or}
use Rattle.std.proofs.lemmas.List.Folds.{Any-from_list_any, list_any_at}

-- an item that passes settles the test
pub any_here : {X : Type 0} (p : X → Bool) (xs : List X) (x : X) → Contains xs x → p x ≡ true → list_any p xs ≡ true
any_here p xs x c t = list_any_at p xs c.0 x c.1 (ap p c.2 ∙ t)

-- some item passes
pub record Found {X : Type 0} (p : X → Bool) (xs : List X) : Type 0 where
  pub item : X
  pub inside : Contains xs item
  pub passes : p item ≡ true

-- where the test passes, some item does
pub any_found : {X : Type 0} (p : X → Bool) (xs : List X) → list_any p xs ≡ true → Found p xs
any_found p xs t = let a = Any-from_list_any p xs t in record { item = a.1; inside = (a.0, a.2, a.3); passes = a.4 }

-- an item of the rest is an item
pub contains_later : {X : Type 0} (y : X) (xs : List X) (x : X) → Contains xs x → Contains (y ∷ xs) x
contains_later y xs x c = (suc c.0, omega (arith, c.1), c.2)

-- the first item is an item
pub contains_first : {X : Type 0} (x : X) (xs : List X) → Contains (x ∷ xs) x
contains_first x xs = (0, omega arith, refl)

-- what holds of all that a function makes of the items holds of what it makes of each
pub all_at_map : {X Y : Type 0} (P : Y → Type 0) (f : X → Y) (xs : List X) (x : X) → All P (map f xs) → Contains xs x → P (f x)
all_at_map P f [] x h (k, l, e) = absurd (omega arith)
all_at_map P f (y ∷ ys) x h (zero, l, e) = rw (← e) (All-head P (f y) (map f ys) h)
all_at_map P f (y ∷ ys) x h (suc k, l, e) = all_at_map P f ys x (All-tail P (f y) (map f ys) h) (k, omega arith, e)

-- what holds of what a function makes of each item holds of all that it makes of them
pub all_map_from : {X Y : Type 0} (P : Y → Type 0) (f : X → Y) (xs : List X) → ((x : X) → Contains xs x → P (f x)) → All P (map f xs)
all_map_from P f xs h = All-map P f xs (λ k d l. h (get_or xs k d) (Contains-get_or xs k d l))

-- what holds of each item holds of all
pub all_from : {X : Type 0} (P : X → Type 0) (xs : List X) → ((x : X) → Contains xs x → P x) → All P xs
all_from P xs h k d l = h (get_or xs k d) (Contains-get_or xs k d l)

-- an item that is kept is an item that passes
pub kept_is_item : {X : Type 0} (p : X → Bool) (xs : List X) (x : X) → Contains (filter p xs) x → Contains xs x
kept_is_item p xs x c = All-contains (Contains xs) (filter p xs) x (All-filter p (Contains xs) xs (All-contains_itself xs)) c

-- and it passes
pub kept_passes : {X : Type 0} (p : X → Bool) (xs : List X) (x : X) → Contains (filter p xs) x → p x ≡ true
kept_passes p xs x c = All-contains (λ y. p y ≡ true) (filter p xs) x (filter_passes p xs) c

-- an item that passes is kept
pub item_is_kept : {X : Type 0} (p : X → Bool) (xs : List X) (x : X) → Contains xs x → p x ≡ true → Contains (filter p xs) x
item_is_kept p [] x (k, l, e) t = absurd (omega arith)
item_is_kept p (y ∷ ys) x (zero, l, e) t = first (p y) (ap p e ∙ t)
  where
    first : (b : Bool) → b ≡ true → Contains (cond b (y ∷ filter p ys) (filter p ys)) x
    first true h = (0, omega arith, e)
    first false h = cc
item_is_kept p (y ∷ ys) x (suc k, l, e) t = later (p y) (item_is_kept p ys x (k, omega arith, e) t)
  where
    later : (b : Bool) → Contains (filter p ys) x → Contains (cond b (y ∷ filter p ys) (filter p ys)) x
    later true h = contains_later y (filter p ys) x h
    later false h = h

-- different items stand at different indices
pub apart_at : {X : Type 0} (xs : List X) (x y : X) → x ≢ y → (c : Contains xs x) → (d : Contains xs y) → c.0 ≢ d.0
apart_at xs x y ne (i, l, e) (j, m, f) same = ne (sym e ∙ (get_or_default xs i x y l ∙ (ap (λ k. get_or xs k y) same ∙ f)))

-- tests that agree on all kept items agree on all of them
pub all_agree : (set : ℕ → Bool) (p q : ℕ → Bool) (P : ℕ → Type 0) (xs : List ℕ) → All P xs → ((x : ℕ) → P x → p x ≡ q x) → list_all p (filter set xs) ≡ list_all q (filter set xs)
all_agree set p q P [] a h = refl
all_agree set p q P (x ∷ xs) a h = kept (set x) (h x (All-head P x xs a)) (all_agree set p q P xs (All-tail P x xs a) h)
  where
    kept : (b : Bool) → p x ≡ q x → list_all p (filter set xs) ≡ list_all q (filter set xs) → list_all p (cond b (x ∷ filter set xs) (filter set xs)) ≡ list_all q (cond b (x ∷ filter set xs) (filter set xs))
    kept true here rest = rw (here, rest) refl
    kept false here rest = rest

-- ---- lists in strict order

-- an item of a longer list is the first or a later one
first_or_later : {X : Type 0} (x : X) (xs : List X) (y : X) → Contains (x ∷ xs) y → (x ≡ y) ⊎ Contains xs y
first_or_later x xs y (zero, l, e) = inl e
first_or_later x xs y (suc k, l, e) = inr (k, omega arith, e)

module _ {X : Type 0} (key : X → ℕ) where
  -- the first item is before each later one
  above_first : (x : X) (xs : List X) → AllPairs (λ a b. key a < key b) (x ∷ xs) → (y : X) → Contains xs y → key x < key y
  above_first x xs h y (k, l, e) = let P : X → Type 0 = λ z. key x < key z in subst P e (h 0 (suc k) y (omega arith) (omega arith))

  -- lists in strict order with the same items are the same
  pub same_lists : (xs ys : List X) → AllPairs (λ a b. key a < key b) xs → AllPairs (λ a b. key a < key b) ys → ((x : X) → Contains xs x → Contains ys x) → ((y : X) → Contains ys y → Contains xs y) → xs ≡ ys
  same_lists [] [] f g to from = refl
  same_lists [] (y ∷ ys) f g to from = let none : Contains [] y = from y (0, omega arith, refl) in absurd (let l : none.0 < 0 = none.1 in omega arith)
  same_lists (x ∷ xs) [] f g to from = let none : Contains [] x = to x (0, omega arith, refl) in absurd (let l : none.0 < 0 = none.1 in omega arith)
  same_lists (x ∷ xs) (y ∷ ys) f g to from =
      let heads : x ≡ y = one_head (first_or_later y ys x (to x (0, omega arith, refl))) (first_or_later x xs y (from y (0, omega arith, refl))) in
      let tails : xs ≡ ys = same_lists xs ys (λ i j d l h. f (suc i) (suc j) d (omega arith) (omega arith)) (λ i j d l h. g (suc i) (suc j) d (omega arith) (omega arith))
      (λ z h. tail_to heads z h (first_or_later y ys z (to z (contains_later x xs z h))))
      (λ z h. tail_from heads z h (first_or_later x xs z (from z (contains_later y ys z h)))) in
      ap (λ z. z ∷ xs) heads ∙ ap (λ zs. y ∷ zs) tails
    where
      one_head : (y ≡ x) ⊎ Contains ys x → (x ≡ y) ⊎ Contains xs y → x ≡ y
      one_head (inl e) h = sym e
      one_head (inr h) (inl e) = e
      one_head (inr h) (inr k) = let a : key y < key x = above_first y ys g x h in let b : key x < key y = above_first x xs f y k in absurd (omega arith)

      tail_to : x ≡ y → (z : X) → Contains xs z → (y ≡ z) ⊎ Contains ys z → Contains ys z
      tail_to heads z h (inl e) = let a : key x < key z = above_first x xs f z h in let b : key x ≡ key z = ap key (heads ∙ e) in absurd (omega arith)
      tail_to heads z h (inr k) = k

      tail_from : x ≡ y → (z : X) → Contains ys z → (x ≡ z) ⊎ Contains xs z → Contains xs z
      tail_from heads z h (inl e) = let a : key y < key z = above_first y ys g z h in let b : key y ≡ key z = ap key (sym heads ∙ e) in absurd (omega arith)
      tail_from heads z h (inr k) = k

-- what a function makes of an item is an item of what it makes of all
pub contains_map : {X Y : Type 0} (f : X → Y) (xs : List X) (x : X) → Contains xs x → Contains (map f xs) (f x)
contains_map f [] x (k, l, e) = absurd (omega arith)
contains_map f (y ∷ ys) x (zero, l, e) = (0, omega arith, ap f e)
contains_map f (y ∷ ys) x (suc k, l, e) = contains_later (f y) (map f ys) (f x) (contains_map f ys x (k, omega arith, e))

-- an item of what a function makes of all is what it makes of one
pub map_item : {X Y : Type 0} (f : X → Y) (xs : List X) (y : Y) → Contains (map f xs) y → (x : X) × Contains xs x × (f x ≡ y)
map_item f [] y (k, l, e) = absurd (omega arith)
map_item f (x ∷ xs) y (zero, l, e) = (x, contains_first x xs, e)
map_item f (x ∷ xs) y (suc k, l, e) = let r = map_item f xs y (k, omega arith, e) in (r.0, contains_later x xs r.0 r.1, r.2)

-- functions that agree on the items make the same of the list
pub map_alike : {X Y : Type 0} (f g : X → Y) (xs : List X) → ((x : X) → Contains xs x → f x ≡ g x) → map f xs ≡ map g xs
map_alike f g [] h = refl
map_alike f g (x ∷ xs) h = ap (λ y. y ∷ map f xs) (h x (contains_first x xs)) ∙ ap (λ ys. g x ∷ ys) (map_alike f g xs (λ y c. h y (contains_later x xs y c)))

-- one function after another
pub map_twice : {X Y Z : Type 0} (f : X → Y) (g : Y → Z) (xs : List X) → map g (map f xs) ≡ map (λ x. g (f x)) xs
map_twice f g [] = refl
map_twice f g (x ∷ xs) = ap (λ ys. g (f x) ∷ ys) (map_twice f g xs)

-- a test of what a function makes of the items
pub any_map : {X Y : Type 0} (p : Y → Bool) (f : X → Y) (xs : List X) → list_any p (map f xs) ≡ list_any (λ x. p (f x)) xs
any_map p f [] = refl
any_map p f (x ∷ xs) = any_more (p (f x)) (any_map p f xs)
  where
    any_more : (b : Bool) → list_any p (map f xs) ≡ list_any (λ x. p (f x)) xs → (b || list_any p (map f xs)) ≡ (b || list_any (λ x. p (f x)) xs)
    any_more true e = refl
    any_more false e = e
