-- The values that a group's fixed bits leave, in the group's own words.
use Rattle.std.proofs.Common.{◌≡◌, ℕ, zero, suc, ◌/◌, ◌%◌, ◌^◌, ◌<◌, Bool, true, List, [], ◌∷◌, ◌++◌, length, nat_eq, refl, sym, ◌∙◌, ap}
use Rattle.std.specs.Prelude.{All, Contains, not, ◌&&◌, ◌||◌, nat_lt, slice_index}
use Rattle.std.specs.Bool.{beq}
use Rattle.std.specs.List.{list_all, range_with_len}
use Rattle.term_model.specs.Tree as term
use Rattle.term_model.specs.Conditions.{Hold}
use Rattle.term_model.specs.Words.{AreBytes}
use Rattle.gate_model.specs.Tree.{Bit, Signed}
use Rattle.search_model.specs.Tests.{is_among}
use Rattle.search_laws.proofs.ListLemmas.{Contains-head, Contains-tail}
use Rattle.input_laws.specs.Sets.{set_at}
use Rattle.input_laws.specs.Parts.{KeepPart}
use Rattle.group_model.specs.Group.{part_of}
use Rattle.wide_laws.specs.Formula.{signed_trees, bits_below, order_of}
use Rattle.wide_laws.specs.Sets.{fixed_from, fixed_bits, agreeing}
use Rattle.wide_laws.specs.Roots.{AreConditions, roots_of, frees, wide_values}
use Rattle.wide_laws.proofs.Sets.{bytes_agree, forced_is_sound, sets_keep}
use Rattle.wide_laws.proofs.RootLemmas.{are_roots}

values_are : (conditions : List term.Tree) (first places : List ℕ) (place : ℕ) → wide_values conditions first places place ≡ agreeing (fixed_bits (frees conditions) first places) first place
unfolding wide_values
values_are conditions first places place = refl

pub values_keep : (places : List ℕ) (conditions : List term.Tree) (first : List ℕ) (sets : List (ℕ → Bool)) → AreConditions places conditions → AreBytes first → Hold conditions first → All (λ i. i < length sets) places → ((place : ℕ) → Contains places place → set_at sets place ≡ wide_values conditions first places place) → KeepPart sets (part_of places conditions)
values_keep places conditions first sets are bytes met below same =
    sets_keep places conditions (roots_of conditions) (are_roots places conditions are) first bytes met (frees conditions) (forced_is_sound (roots_of conditions)) sets below
    (λ place c. same place c ∙ values_are conditions first places place)

pub own_value : (places : List ℕ) (conditions : List term.Tree) (first : List ℕ) (place : ℕ) → AreBytes first → wide_values conditions first places place (slice_index first place) ≡ true
own_value places conditions first place bytes =
    ap (λ s. s (slice_index first place)) (values_are conditions first places place) ∙ bytes_agree first bytes (fixed_bits (frees conditions) first places) place

-- ---- other places don't matter

-- the bits of a place whose byte is known
bits_of_byte : ℕ → ℕ → ℕ → List Signed
bits_of_byte byte place zero = []
bits_of_byte byte place (suc n) = record { tree = Bit place n; positive = nat_eq (byte / 2 ^ n % 2) 1 } ∷ bits_of_byte byte place n

bits_by_byte : (first : List ℕ) (place n : ℕ) → bits_below first place n ≡ bits_of_byte (slice_index first place) place n
unfolding bits_of_byte
bits_by_byte first place zero = refl
bits_by_byte first place (suc n) = ap (λ bits. record { tree = Bit place n; positive = nat_eq (slice_index first place / 2 ^ n % 2) 1 } ∷ bits) (bits_by_byte first place n)

same_order : (first other places : List ℕ) → ((p : ℕ) → Contains places p → slice_index first p ≡ slice_index other p) → order_of first places ≡ order_of other places
unfolding order_of
same_order first other [] h = refl
same_order first other (place ∷ places) h =
    let here : bits_below first place 8 ≡ bits_below other place 8 = bits_by_byte first place 8 ∙ (ap (λ b. bits_of_byte b place 8) (h place (Contains-head place places)) ∙ sym (bits_by_byte other place 8)) in
    ap (λ bits. bits ++ order_of first places) here ∙ ap (λ bits. bits_below other place 8 ++ bits) (same_order first other places (λ p c. h p (Contains-tail place places p c)))

pub values_look : (places : List ℕ) (conditions : List term.Tree) (first other : List ℕ) (place : ℕ) → ((p : ℕ) → Contains places p → slice_index first p ≡ slice_index other p) → Contains places place → wide_values conditions first places place ≡ wide_values conditions other places place
values_look places conditions first other place h c =
    let by : List Signed → ℕ → ℕ → Bool = λ fixed byte v. nat_lt v 256 && list_all (λ bit. not (is_among signed_trees fixed (record { tree = Bit place bit; positive = nat_eq (byte / 2 ^ bit % 2) 1 })) || beq (nat_eq (v / 2 ^ bit % 2) 1) (nat_eq (byte / 2 ^ bit % 2) 1)) (range_with_len 0 8) in
    let fixed : List Signed → List Signed = λ order. fixed_from (frees conditions) [] order in
    values_are conditions first places place
    ∙ (ap (λ order. by (fixed order) (slice_index first place)) (same_order first other places h)
    ∙ (ap (by (fixed (order_of other places))) (h place c) ∙ sym (values_are conditions other places place)))
