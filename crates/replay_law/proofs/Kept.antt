-- Conditions without repeats and without the constant 1 hold of the same inputs.
use Rattle.std.proofs.Common.{◌≡◌, ℕ, List, [], ◌∷◌, ◌++◌, Bool, true, false, if◌then◌else◌, refl, ap, ◌∙◌, ◌||◌, ◌⊎◌, inl, inr}
use Rattle.std.specs.List.{list_any}
use Rattle.std.proofs.lemmas.Bool.{or_cases}
use Rattle.term_model.specs.Tree.{Tree, Const}
use Rattle.term_model.specs.Value.{val}
use Rattle.term_model.specs.Same.{same_tree}
use Rattle.term_model.specs.Conditions.{Hold}
use Rattle.term_model.proofs.HoldLemmas.{hold_none, hold_one, hold_more, first_holds, others_hold, hold_both, hold_left, hold_right}
use Rattle.replay_law.specs.Forms.{with_condition, with_conditions}

-- the test for equal trees finds only equal trees
abbrev pub FindsEqual : Type 0
FindsEqual = (s t : Tree) → same_tree s t ≡ true → s ≡ t

-- a term that is there holds
there_holds : FindsEqual → (y : List ℕ) (t : Tree) (ts : List Tree) → list_any (same_tree t) ts ≡ true → Hold ts y → val t y ≡ 1
there_holds f y t [] e h = cc
there_holds f y t (u ∷ us) e h = by_case (or_cases (same_tree t u) (list_any (same_tree t) us) e) (λ p. there_holds f y t us p (others_hold y u us h))
  where
    by_case : (same_tree t u ≡ true) ⊎ (list_any (same_tree t) us ≡ true) → (list_any (same_tree t) us ≡ true → val t y ≡ 1) → val t y ≡ 1
    by_case (inl p) further = ap (λ s. val s y) (f t u p) ∙ first_holds y u us h
    by_case (inr p) further = further p

-- a term that adds nothing holds
nothing_new : FindsEqual → (y : List ℕ) (t : Tree) (ts : List Tree) → (same_tree t (Const 1) || list_any (same_tree t) ts) ≡ true → Hold ts y → val t y ≡ 1
nothing_new f y t ts e h = by_case (or_cases (same_tree t (Const 1)) (list_any (same_tree t) ts) e)
  where
    by_case : (same_tree t (Const 1) ≡ true) ⊎ (list_any (same_tree t) ts ≡ true) → val t y ≡ 1
    by_case (inl p) = ap (λ s. val s y) (f t (Const 1) p)
    by_case (inr p) = there_holds f y t ts p h

-- one more condition that holds
one_in : (y : List ℕ) (t : Tree) (ts : List Tree) (b : Bool) → Hold ts y → val t y ≡ 1 → Hold (if b then ts else ts ++ t ∷ []) y
one_in y t ts true h e = h
one_in y t ts false h e = hold_both y ts (t ∷ []) h (hold_one y t e)

-- the conditions before one more
before_one : (y : List ℕ) (t : Tree) (ts : List Tree) (b : Bool) → Hold (if b then ts else ts ++ t ∷ []) y → Hold ts y
before_one y t ts true h = h
before_one y t ts false h = hold_left y ts (t ∷ []) h

-- the one more condition
one_out : (y : List ℕ) (t : Tree) (ts : List Tree) (b : Bool) → (b ≡ true → Hold ts y → val t y ≡ 1) → Hold (if b then ts else ts ++ t ∷ []) y → val t y ≡ 1
one_out y t ts true f h = f refl h
one_out y t ts false f h = first_holds y t [] (hold_right y ts (t ∷ []) h)

-- what is kept holds where both lists do
pub kept_hold : (y : List ℕ) (ts more : List Tree) → Hold ts y → Hold more y → Hold (with_conditions ts more) y
unfolding with_conditions
kept_hold y ts [] h k = h
kept_hold y ts (t ∷ more) h k = kept_hold y (with_condition ts t) more (one_in y t ts (same_tree t (Const 1) || list_any (same_tree t) ts) h (first_holds y t more k)) (others_hold y t more k)

-- where what is kept holds, so does the list before
pub before_kept : (y : List ℕ) (ts more : List Tree) → Hold (with_conditions ts more) y → Hold ts y
unfolding with_conditions
before_kept y ts [] h = h
before_kept y ts (t ∷ more) h = before_one y t ts (same_tree t (Const 1) || list_any (same_tree t) ts) (before_kept y (with_condition ts t) more h)

-- where what is kept holds, so does what was added
pub kept_give : FindsEqual → (y : List ℕ) (ts more : List Tree) → Hold (with_conditions ts more) y → Hold more y
unfolding with_conditions
kept_give f y ts [] h = hold_none y
kept_give f y ts (t ∷ more) h =
    hold_more y t more (one_out y t ts (same_tree t (Const 1) || list_any (same_tree t) ts) (nothing_new f y t ts) (before_kept y (with_condition ts t) more h))
    (kept_give f y (with_condition ts t) more h)
