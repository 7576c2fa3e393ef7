-- Lists of terms as lists of trees.
use Rattle.std.proofs.Common.{◌≡◌, ℕ, zero, suc, ◌==◌, ◌≤◌, ◌<◌, List, [], ◌∷◌, ◌++◌, length, Bool, true, false, refl, sym, ap, ◌∙◌, arith, subst, slice_index_or, take, ◌+◌, ◌↔◌, OnOk, Result, Ok, Err, ◌||◌, if◌then◌else◌}
use Rattle.std.specs.List.{list_any}
use Rattle.std.proofs.lemmas.Bool.{eqb-true, eqb-false}
use Rattle.term_model.specs.Tree.{Tree, Const}
use Rattle.term_model.specs.Value.{val}
use Rattle.term_model.specs.Same.{same_tree}
use Rattle.term_model.specs.Conditions.{Hold}
use Rattle.term_model.proofs.HoldLemmas.{hold_one, hold_both, first_holds, others_hold}
use Rattle.term_arena.specs.Trees.{tree_of, Extends, IsShared, trees_of}
use Rattle.replay_law.specs.Forms.{with_condition, with_conditions}
use Rattle.path_condition.specs.Listed.{Belong, is_listed}

-- what belongs of a list belongs of its first term and of the others
pub first_belongs : (trees : List Tree) (t : ℕ) (ts : List ℕ) → Belong trees (t ∷ ts) → t < length trees
first_belongs trees t ts h = h 0 t (omega arith)

-- the others
pub rest_belong : (trees : List Tree) (t : ℕ) (ts : List ℕ) → Belong trees (t ∷ ts) → Belong trees ts
rest_belong trees t ts h k d lt = h (suc k) d (omega arith)

-- a first term, and others
pub both_belong : (trees : List Tree) (t : ℕ) (ts : List ℕ) → t < length trees → Belong trees ts → Belong trees (t ∷ ts)
both_belong trees t ts here rest zero d lt = here
both_belong trees t ts here rest (suc k) d lt = rest k d (omega arith)

-- one more term at the end
pub end_belongs : (trees : List Tree) (ts : List ℕ) (t : ℕ) → Belong trees ts → t < length trees → Belong trees (ts ++ t ∷ [])
end_belongs trees [] t h here = both_belong trees t [] here h
end_belongs trees (u ∷ us) t h here = both_belong trees u (us ++ t ∷ []) (first_belongs trees u us h) (end_belongs trees us t (rest_belong trees u us h) here)

-- the test for equal trees, as a property
abbrev pub FindsEqual : Type 0
FindsEqual = (s t : Tree) → same_tree s t ≡ true → s ≡ t

-- the test holds of a tree and itself
abbrev pub FindsItself : Type 0
FindsItself = (t : Tree) → same_tree t t ≡ true

-- a test that can't be true
not_true : (b : Bool) → (b ≡ true → ⊥) → b ≡ false
not_true true h = absurd (h refl)
not_true false h = refl

-- two terms have the same tree exactly where they are the same
pub same_is : FindsEqual → FindsItself → (trees : List Tree) → IsShared trees → (t u : ℕ) → t < length trees → u < length trees → same_tree (tree_of trees t) (tree_of trees u) ≡ (u == t)
same_is equal itself trees shared t u ht hu = by_test (u == t) refl
  where
    by_test : (b : Bool) → (u == t) ≡ b → same_tree (tree_of trees t) (tree_of trees u) ≡ b
    by_test true e = ap (λ v. same_tree (tree_of trees t) (tree_of trees v)) (eqb-true u t e) ∙ itself (tree_of trees t)
    by_test false e = not_true _ (λ same. eqb-false u t e (sym (shared t u ht hu (equal (tree_of trees t) (tree_of trees u) same))))

-- a term's tree is among those of a list exactly where the term is in the list
pub listed_tree : FindsEqual → FindsItself → (trees : List Tree) → IsShared trees → (t : ℕ) → t < length trees → (terms : List ℕ) → Belong trees terms → list_any (same_tree (tree_of trees t)) (trees_of trees terms) ≡ is_listed terms t
listed_tree equal itself trees shared t here [] h = refl
listed_tree equal itself trees shared t here (u ∷ us) h =
    (λ i. same_is equal itself trees shared t u here (first_belongs trees u us h) i || listed_tree equal itself trees shared t here us (rest_belong trees u us h) i)

-- the trees of terms with one more
pub trees_of-end : (trees : List Tree) (ts : List ℕ) (t : ℕ) → trees_of trees (ts ++ t ∷ []) ≡ trees_of trees ts ++ tree_of trees t ∷ []
trees_of-end trees [] t = refl
trees_of-end trees (u ∷ us) t = ap (λ vs. tree_of trees u ∷ vs) (trees_of-end trees us t)

-- what is added where a tree is needed, and where it isn't
pub needed : (ts : List Tree) (t : Tree) (b : Bool) → (same_tree t (Const 1) || list_any (same_tree t) ts) ≡ b → b ≡ false → ts ++ t ∷ [] ≡ with_condition ts t
needed ts t b e f = ap (λ (c : Bool). if c then ts else ts ++ t ∷ []) (sym (e ∙ f))

-- where it isn't
pub not_needed : (ts : List Tree) (t : Tree) (b : Bool) → (same_tree t (Const 1) || list_any (same_tree t) ts) ≡ b → b ≡ true → ts ≡ with_condition ts t
not_needed ts t b e f = ap (λ (c : Bool). if c then ts else ts ++ t ∷ []) (sym (e ∙ f))

-- the terms of another arena that has grown
pub grown_trees : (old new : List Tree) → Extends old new → (terms : List ℕ) → Belong old terms → trees_of new terms ≡ trees_of old terms
grown_trees old new g [] h = refl
grown_trees old new g (t ∷ ts) h = (λ i. g.same t (first_belongs old t ts h) i ∷ grown_trees old new g ts (rest_belong old t ts h) i)

-- they belong to it
pub grown_belong : (old new : List Tree) → Extends old new → (terms : List ℕ) → Belong old terms → Belong new terms
grown_belong old new g terms h k d lt = omega (arith, h k d lt, g.longer)

-- one more condition at the end
pub with_conditions-end : (ts more : List Tree) (t : Tree) → with_conditions ts (more ++ t ∷ []) ≡ with_condition (with_conditions ts more) t
unfolding with_conditions
with_conditions-end ts [] t = refl
with_conditions-end ts (u ∷ more) t = with_conditions-end (with_condition ts u) more t

-- no more conditions
pub with_conditions-none : (ts : List Tree) → with_conditions ts [] ≡ ts
unfolding with_conditions
with_conditions-none ts = refl

-- one more condition
pub with_conditions-one : (ts : List Tree) (t : Tree) → with_conditions ts (t ∷ []) ≡ with_condition ts t
unfolding with_conditions
with_conditions-one ts t = refl

-- the first terms of a list, with the next
pub take_next : (ts : List ℕ) (k d : ℕ) → k < length ts → take (suc k) ts ≡ take k ts ++ slice_index_or ts k d ∷ []
take_next [] k d h = absurd (omega arith)
take_next (t ∷ ts) zero d h = refl
take_next (t ∷ ts) (suc k) d h = ap (λ us. t ∷ us) (take_next ts k d (omega arith))

-- all terms of a list
pub take_all : (ts : List ℕ) (k : ℕ) → k ≡ length ts → take k ts ≡ ts
take_all [] zero e = refl
take_all [] (suc k) e = refl
take_all (t ∷ ts) zero e = absurd (omega arith)
take_all (t ∷ ts) (suc k) e = ap (λ us. t ∷ us) (take_all ts k (omega arith))

-- the first n terms of a list are those of its first m
take_within : (n m : ℕ) (ts : List ℕ) → n ≤ m → take n (take m ts) ≡ take n ts
take_within zero m ts h = refl
take_within (suc n) zero ts h = absurd (omega arith)
take_within (suc n) (suc m) [] h = refl
take_within (suc n) (suc m) (t ∷ ts) h = ap (λ us. t ∷ us) (take_within n m ts (omega arith))

-- where n terms can be taken there are n
take_length : (n : ℕ) (ts : List ℕ) → length (take n ts) ≡ n → n ≤ length ts
take_length zero ts h = omega arith
take_length (suc n) [] h = absurd (omega arith)
take_length (suc n) (t ∷ ts) h = omega (arith, take_length n ts (let e : length (take n ts) ≡ n = omega arith in e))

-- a list that begins with one that begins with the old terms
pub still_first : (n : ℕ) (old now new : List ℕ) → n ≡ length old → take n now ≡ old → take (length now) new ≡ now → take n new ≡ old
still_first n old now new count first kept =
    let enough : n ≤ length now = take_length n now (ap length first ∙ sym count) in
    sym (take_within n (length now) new enough) ∙ ap (take n) kept ∙ first

-- one more term of a list is added
pub next_added : (trees : List Tree) (base : List Tree) (now new terms : List ℕ) (k t : ℕ) → k < length terms → t ≡ slice_index_or terms k t → trees_of trees now ≡ with_conditions base (trees_of trees (take k terms)) → trees_of trees new ≡ with_condition (trees_of trees now) (tree_of trees t) → trees_of trees new ≡ with_conditions base (trees_of trees (take (k + 1) terms))
next_added trees base now new terms k t lt item before e =
    let next : k + 1 ≡ suc k = omega arith in
    e
    ∙ ap (λ ts. with_condition ts (tree_of trees t)) before
    ∙ sym (with_conditions-end base (trees_of trees (take k terms)) (tree_of trees t))
    ∙ ap (with_conditions base) (sym (trees_of-end trees (take k terms) t))
    ∙ ap (λ u. with_conditions base (trees_of trees (take k terms ++ u ∷ []))) item
    ∙ ap (λ us. with_conditions base (trees_of trees us)) (sym (take_next terms k t lt))
    ∙ ap (λ j. with_conditions base (trees_of trees (take j terms))) (sym next)

-- conditions that hold, one more of which holds
pub next_holds : (y : List ℕ) (trees : List Tree) (terms : List ℕ) (k t : ℕ) → k < length terms → t ≡ slice_index_or terms k t → Hold (trees_of trees (take k terms)) y → val (tree_of trees t) y ≡ 1 → Hold (trees_of trees (take (k + 1) terms)) y
next_holds y trees terms k t lt item before e =
    let next : k + 1 ≡ suc k = omega arith in
    let both = hold_both y (trees_of trees (take k terms)) (tree_of trees t ∷ []) before (hold_one y (tree_of trees t) e) in
    let there : trees_of trees (take k terms) ++ tree_of trees t ∷ [] ≡ trees_of trees (take (k + 1) terms) =
    sym (trees_of-end trees (take k terms) t)
    ∙ ap (λ u. trees_of trees (take k terms ++ u ∷ [])) item
    ∙ ap (trees_of trees) (sym (take_next terms k t lt))
    ∙ ap (λ j. trees_of trees (take j terms)) (sym next) in
    subst (λ ts. Hold ts y) there both

-- where all conditions hold, each does
pub each_holds : (y : List ℕ) (trees : List Tree) (terms : List ℕ) (k d : ℕ) → k < length terms → Hold (trees_of trees terms) y → val (tree_of trees (slice_index_or terms k d)) y ≡ 1
each_holds y trees [] k d lt h = absurd (omega arith)
each_holds y trees (t ∷ ts) zero d lt h = first_holds y (tree_of trees t) (trees_of trees ts) h
each_holds y trees (t ∷ ts) (suc k) d lt h = each_holds y trees ts k d (omega arith) (others_hold y (tree_of trees t) (trees_of trees ts) h)

-- ---- what a call adds

-- what follows of an answer Ok
pub then_ok : {A B : Type 0} {P Q : Type 0} (r : Result A B) → OnOk r P → (P → Q) → OnOk r Q
then_ok (Ok a) p f = f p
then_ok (Err e) p f = tt

-- what is added, where the arena has grown
pub added : (old new : List Tree) → Extends old new → (listed now terms : List ℕ) (more : List Tree) → Belong old listed → trees_of new terms ≡ more → trees_of new now ≡ with_conditions (trees_of new listed) (trees_of new terms) → trees_of new now ≡ with_conditions (trees_of old listed) more
added old new grown listed now terms more belong e f = f ∙ (λ i. with_conditions (grown_trees old new grown listed belong i) (e i))

-- lists that hold together
abbrev pub HoldTogether : Type 0
HoldTogether = (ts more : List Tree) (y : List ℕ) → Hold (with_conditions ts more) y ↔ (Hold ts y × Hold more y)

-- what it means that conditions were added that say P
pub meant : HoldTogether → (y : List ℕ) (now ts more : List Tree) (P : Type 0) → now ≡ with_conditions ts more → (Hold more y ↔ P) → Hold now y ↔ (Hold ts y × P)
meant together y now ts more P e says =
    let both = together ts more y in (
      λ h. let parts = both.0 (subst (λ us. Hold us y) e h) in (parts.0, says.0 parts.1),
      λ p. subst (λ us. Hold us y) (sym e) (both.1 (p.0, says.1 p.1)),
    )
