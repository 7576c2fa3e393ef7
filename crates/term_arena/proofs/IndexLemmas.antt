-- One more node in a list of distinct nodes.
use Rattle.std.proofs.Common.{◌≡◌, ◌≢◌, ℕ, zero, suc, subst, Option, None, List, [], ◌∷◌, ◌++◌, length, refl, ap, sym, ◌∙◌, arith, Some, ◌<◌, length-append, ◌⊎◌, inl, inr}
use Rattle.std.specs.Prelude.{slice_get}
use Rattle.std.specs.Option.{option_map}
use Rattle.std.proofs.lemmas.List.{map-append}
use Rattle.std.proofs.lemmas.Option.{slice_get-map}
use Rattle.std.proofs.Math.Seq.{get_or-append_seam}
use Rattle.term_arena.specs.declared.nodes.Node.{Node}
use Rattle.term_arena.specs.declared.entries.Entry.{Entry}
use Rattle.term_model.specs.Tree.{Tree, Const}
use Rattle.term_arena.specs.Trees.{tree_of, IsNodeAt}
use Rattle.term_arena.specs.Nodes.{AreNodes, AreDistinct}
use Rattle.term_arena.specs.Entries.{nodes_of, IsAbsent}

-- the tree that was put at the end
pub tree_of-end : (trees : List Tree) (tree : Tree) (t : ℕ) → t ≡ length trees → tree_of (trees ++ tree ∷ []) t ≡ tree
tree_of-end trees tree t h = rw h (get_or-append_seam trees tree [] (Const 0))

-- its number is below the new length
pub longer : (trees : List Tree) (tree : Tree) (t : ℕ) → t ≡ length trees → t < length (trees ++ tree ∷ [])
longer trees tree t h = omega (arith, length-append trees (tree ∷ []))

pub push_at : {X : Type 0} (ns : List X) (n m : X) (k : ℕ) → slice_get (ns ++ n ∷ []) k ≡ Some m → (slice_get ns k ≡ Some m) ⊎ ((k ≡ length ns) × (m ≡ n))
push_at [] n m zero e = let same : m ≡ n = cc in inr (refl, same)
push_at [] n m (suc k) e = cc
push_at (x ∷ ns) n m zero e = inl e
push_at (x ∷ ns) n m (suc k) e = elim (push_at ns n m k e) [ inl h ↦ inl h | inr h ↦ inr (ap suc h.0, h.1) ]

pub ordered_push : (ns : List Node) (n : Node) → AreNodes ns → IsNodeAt (length ns) n → AreNodes (ns ++ n ∷ [])
ordered_push ns n ok below k m e =
    elim (push_at ns n m k e) [
      | inl h ↦ ok k m h
      | inr h ↦ rw (h.0, h.1) below
    ]

pub distinct_push : (ns : List Node) (n : Node) → AreDistinct ns → ((k : ℕ) (m : Node) → slice_get ns k ≡ Some m → m ≢ n) → AreDistinct (ns ++ n ∷ [])
distinct_push ns n ok absent j k m first second =
    elim (push_at ns n m j first) [
      | inl here ↦ elim (push_at ns n m k second) [
        | inl there ↦ ok j k m here there
        | inr end ↦ absurd (absent j m here end.1)
      ]
      | inr here ↦ elim (push_at ns n m k second) [
        | inl there ↦ absurd (absent k m there here.1)
        | inr end ↦ here.0 ∙ sym end.0
      ]
    ]

-- the same of entries
pub distinct_entries-push : (es : List Entry) (e : Entry) → AreDistinct (nodes_of es) → IsAbsent es e.node → AreDistinct (nodes_of (es ++ e ∷ []))
distinct_entries-push es e ok absent = subst AreDistinct (sym (map-append (λ (x : Entry). x.node) es (e ∷ []))) (distinct_push (nodes_of es) e.node ok none_at)
  where
    none_at : (k : ℕ) (m : Node) → slice_get (nodes_of es) k ≡ Some m → m ≢ e.node
    none_at k m h = go (slice_get es k) refl
      where
        go : (o : Option Entry) → slice_get es k ≡ o → m ≢ e.node
        go (Some x) here =
            let both = ap (option_map (λ (y : Entry). y.node)) (sym here) ∙ sym (slice_get-map (λ (y : Entry). y.node) es k) ∙ h in
            let same : x.node ≡ m = cc in subst (λ n. n ≢ e.node) same (absent k x here)
        go None here = let none : None ≡ Some m = ap (option_map (λ (y : Entry). y.node)) (sym here) ∙ sym (slice_get-map (λ (y : Entry). y.node) es k) ∙ h in cc
