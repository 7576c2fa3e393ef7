-- Tests of ranges, address by address.
use Rattle.std.proofs.Common.{◌≡◌, ℕ, zero, suc, ◌+◌, ◌%◌, ◌^◌, ◌<◌, Bool, true, false, cond, Option, Some, refl, sym, ap, ◌∙◌, subst, arith}
use Rattle.std.specs.Option.{is_none}
use Rattle.std.specs.FinMap.{get}
use Rattle.memory_map.specs.Cells.{Map, can, first_without, all_can, next_address}
use Rattle.memory_laws.specs.Ranges.{EachCan, IsFirstWithout}

pub first_address : (a : ℕ) → a < 2 ^ 32 → a ≡ (a + 0) % 2 ^ 32
first_address a h = omega arith

pub later_address : (a i : ℕ) → (next_address a + i) % 2 ^ 32 ≡ (a + suc i) % 2 ^ 32
later_address a i = omega arith

pub next_fits : (a : ℕ) → next_address a < 2 ^ 32
next_fits a = omega arith

here : (t : Bool) (o : Option ℕ) (a : ℕ) → is_none (cond t o (Some a)) ≡ true → t ≡ true
here true o a h = refl
here false o a h = cc

after : (t : Bool) (o : Option ℕ) (a : ℕ) → is_none (cond t o (Some a)) ≡ true → is_none o ≡ true
after true o a h = h
after false o a h = cc

-- an address that has a right, and so many after it
one_before : (n r a : ℕ) (m : Map) → a < 2 ^ 32 → can r (get m a) ≡ true → EachCan r m (next_address a) n → (i : ℕ) → i < suc n → can r (get m ((a + i) % 2 ^ 32)) ≡ true
one_before n r a m f h rest zero l = subst (λ q. can r (get m q) ≡ true) (first_address a f) h
one_before n r a m f h rest (suc i) l = subst (λ q. can r (get m q) ≡ true) (later_address a i) (rest i (omega arith))

after_first : (n r a : ℕ) (m : Map) → EachCan r m a (suc n) → EachCan r m (next_address a) n
after_first n r a m h = λ i l. subst (λ q. can r (get m q) ≡ true) (sym (later_address a i)) (h (suc i) (omega arith))

first_can : (n r a : ℕ) (m : Map) → a < 2 ^ 32 → EachCan r m a (suc n) → can r (get m a) ≡ true
first_can n r a m f h = subst (λ q. can r (get m q) ≡ true) (sym (first_address a f)) (h 0 (omega arith))

pub each_of_all : (n r a : ℕ) (m : Map) → a < 2 ^ 32 → all_can r m a n ≡ true → EachCan r m a n
unfolding first_without
each_of_all zero r a m f h = λ i l. absurd (omega arith)
each_of_all (suc n) r a m f h = one_before n r a m f (here (can r (get m a)) _ a h) (each_of_all n r (next_address a) m (next_fits a) (after (can r (get m a)) _ a h))

pub all_of_each : (n r a : ℕ) (m : Map) → a < 2 ^ 32 → EachCan r m a n → all_can r m a n ≡ true
unfolding first_without
all_of_each zero r a m f h = refl
all_of_each (suc n) r a m f h =
    ap (λ t. is_none (cond t (first_without r m (next_address a) n) (Some a))) (first_can n r a m f h)
    ∙ all_of_each n r (next_address a) m (next_fits a) (after_first n r a m h)

first_case : (n r a fault : ℕ) (m : Map) → a < 2 ^ 32 → (first_without r m (next_address a) n ≡ Some fault → IsFirstWithout r m (next_address a) n fault) → (t : Bool) → can r (get m a) ≡ t → cond t (first_without r m (next_address a) n) (Some a) ≡ Some fault → IsFirstWithout r m a (suc n) fault
first_case n r a fault m f rest true h e =
    let w = rest e in
    record {
      place = suc w.place;
      within = omega (arith, w.within);
      is = w.is ∙ later_address a w.place;
      lacks = w.lacks;
      before = one_before w.place r a m f h w.before;
    }
first_case n r a fault m f rest false h e =
    let same : a ≡ fault = cc in
    record {
      place = 0;
      within = omega arith;
      is = sym same ∙ first_address a f;
      lacks = subst (λ q. can r (get m q) ≡ false) same h;
      before = λ i l. absurd (omega arith);
    }

pub first_is : (n r a fault : ℕ) (m : Map) → a < 2 ^ 32 → first_without r m a n ≡ Some fault → IsFirstWithout r m a n fault
unfolding first_without
first_is zero r a fault m f e = cc
first_is (suc n) r a fault m f e = first_case n r a fault m f (first_is n r (next_address a) fault m (next_fits a)) (can r (get m a)) refl e

first_at : (n p r a fault : ℕ) (m : Map) → a < 2 ^ 32 → p < n → fault ≡ (a + p) % 2 ^ 32 → can r (get m fault) ≡ false → EachCan r m a p → first_without r m a n ≡ Some fault
unfolding first_without
first_at zero p r a fault m f l is lacks before = absurd (omega arith)
first_at (suc n) zero r a fault m f l is lacks before =
    let same : fault ≡ a = is ∙ sym (first_address a f) in
    ap (λ t. cond t (first_without r m (next_address a) n) (Some a)) (subst (λ q. can r (get m q) ≡ false) same lacks) ∙ ap Some (sym same)
first_at (suc n) (suc p) r a fault m f l is lacks before =
    ap (λ t. cond t (first_without r m (next_address a) n) (Some a)) (first_can p r a m f before)
    ∙ first_at n p r (next_address a) fault m (next_fits a) (omega arith) (is ∙ sym (later_address a p)) lacks (after_first p r a m before)

pub is_first : (n r a fault : ℕ) (m : Map) → a < 2 ^ 32 → IsFirstWithout r m a n fault → first_without r m a n ≡ Some fault
is_first n r a fault m f w = first_at n w.place r a fault m f w.within w.is w.lacks w.before
