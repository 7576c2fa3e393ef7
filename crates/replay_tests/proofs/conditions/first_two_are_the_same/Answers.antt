use Rattle.std.proofs.Common.{◌≡◌, ◌∙◌, ℕ, Bool, true, false, if◌then◌else◌, List, [], ◌∷◌, ◌++◌, ◌||◌, sym, ap, subst, arith, All}
use Rattle.std.specs.List.{list_any}
use Rattle.std.proofs.lemmas.List.Elements.{All-nil, All-cons, All-head, All-tail}
use Rattle.term_model.specs.Tree.{Tree, Const}
use Rattle.term_model.specs.Places.{ReadsBelow}
use Rattle.term_model.specs.Same.{same_tree}
use Rattle.term_arena.specs.Trees.{tree_of, trees_of}
use Rattle.replay_law.specs.Forms.{with_conditions}
use Rattle.path_condition.proofs.ListLemmas.{with_conditions-one}
use Rattle.replay_tests.proofs.conditions.first_two_are_the_same.Goals as goal

-- terms read what their trees read
terms_read : (n : ℕ) (trees : List Tree) (terms : List ℕ) → All (ReadsBelow n) (trees_of trees terms) → All (λ t. ReadsBelow n (tree_of trees t)) terms
terms_read n trees [] h = All-nil (λ t. ReadsBelow n (tree_of trees t))
terms_read n trees (t ∷ ts) h =
    All-cons (λ u. ReadsBelow n (tree_of trees u)) t ts (All-head (ReadsBelow n) (tree_of trees t) (trees_of trees ts) h) (terms_read n trees ts (All-tail (ReadsBelow n) (tree_of trees t) (trees_of trees ts) h))

-- a tree alone, or none
one_reads : (n : ℕ) (s : Tree) (is_left_out : Bool) → ReadsBelow n s → All (ReadsBelow n) (if is_left_out then [] else [] ++ s ∷ [])
one_reads n s true h = All-nil (ReadsBelow n)
one_reads n s false h = All-cons (ReadsBelow n) s [] h (All-nil (ReadsBelow n))

pub returns-clause-reads : goal.returns-clause-reads
returns-clause-reads c =
    let trees = c.intern.new.self in
    let same : Tree = tree_of trees c.in_ok-same.same in
    let first : ReadsBelow 2 (tree_of c.input.new.self c.in_ok-first.first) = rw c.in_ok-first.ensures.tree (omega arith) in
    let first_later : ReadsBelow 2 (tree_of c.input-2.new.self c.in_ok-first.first) = rw (c.input-2.ensures.keeps.same c.in_ok-first.first c.in_ok-first.ensures.below) first in
    let second : ReadsBelow 2 (tree_of c.input-2.new.self c.in_ok-second.second) = rw c.in_ok-second.ensures.tree (omega arith) in
    let read : ReadsBelow 2 same = rw c.in_ok-same.ensures.tree (first_later, second) in
    let listed : trees_of trees c.add_holds.new.self ≡ with_conditions [] (same ∷ []) =
    c.in_ok-add_holds.ensures.trees ∙ ap (λ (l : List ℕ). with_conditions (trees_of trees l) (same ∷ [])) c.new-conditions.ensures.empty in
    terms_read 2 trees c.add_holds.new.self
    (subst (λ (ts : List Tree). All (ReadsBelow 2) ts) (sym (listed ∙ with_conditions-one [] same))
    (one_reads 2 same (same_tree same (Const 1) || list_any (same_tree same) []) read))
