-- One more entry in an arena.
use Rattle.std.proofs.Common.{◌≡◌, ℕ, ◌<◌, List, [], ◌∷◌, ◌++◌, length, ap, ◌∙◌, Some, inl, inr}
use Rattle.std.specs.Prelude.{slice_get}
use Rattle.std.specs.Option.{option_map}
use Rattle.std.proofs.lemmas.List.{map-append, length-map}
use Rattle.std.proofs.lemmas.Option.{slice_get-map, slice_get_within}
use Rattle.term_arena.specs.declared.entries.Entry.{Entry}
use Rattle.term_model.specs.ZeroBytes.{is_zero_byte}
use Rattle.term_arena.specs.Trees.{tree_of, tree_from, IsNodeAt}
use Rattle.term_arena.specs.Mask.{each_byte}
use Rattle.term_arena.specs.Entries.{nodes_of, entry_trees, HasZeroBytes, IsArena}
use Rattle.term_arena.proofs.TreeLemmas.{tree_count, trees_of_nodes-push, tree_of_node, tree_of-append}
use Rattle.term_arena.proofs.IndexLemmas.{push_at, tree_of-end, ordered_push}

pub length-nodes_of : (es : List Entry) → length (nodes_of es) ≡ length es
length-nodes_of es = length-map es (λ (e : Entry). e.node)

pub nodes_of-push : (es : List Entry) (e : Entry) → nodes_of (es ++ e ∷ []) ≡ nodes_of es ++ e.node ∷ []
nodes_of-push es e = map-append (λ (e : Entry). e.node) es (e ∷ [])

-- as many trees as entries
pub entry_count : (es : List Entry) → length (entry_trees es) ≡ length es
entry_count es = tree_count (nodes_of es) ∙ length-nodes_of es

-- the trees with one more entry
pub entry_trees-push : (es : List Entry) (e : Entry) → entry_trees (es ++ e ∷ []) ≡ entry_trees es ++ tree_from (entry_trees es) e.node ∷ []
entry_trees-push es e = rw (nodes_of-push es e) (trees_of_nodes-push (nodes_of es) e.node)

pub nodes_of-get : (es : List Entry) (k : ℕ) (e : Entry) → slice_get es k ≡ Some e → slice_get (nodes_of es) k ≡ Some e.node
nodes_of-get es k e h = slice_get-map (λ (e : Entry). e.node) es k ∙ ap (option_map (λ (e : Entry). e.node)) h

module _ (es : List Entry) (e : Entry) (below : IsNodeAt (length (entry_trees es)) e.node) (zero : e.zero_bytes ≡ each_byte (is_zero_byte (tree_from (entry_trees es) e.node))) (ok : IsArena es) where
  kept : HasZeroBytes (es ++ e ∷ [])
  kept k x h =
      elim (push_at es e x k h) [
        | inl there ↦
            let within : k < length (entry_trees es) = rw (entry_count es) (slice_get_within es k x there) in
            rw (entry_trees-push es e, tree_of-append (entry_trees es) (tree_from (entry_trees es) e.node ∷ []) k within) (ok.zero_bytes k x there)
        | inr here ↦
            let end : k ≡ length (entry_trees es) = rw (entry_count es) here.0 in
            rw (here.1, entry_trees-push es e, tree_of-end (entry_trees es) (tree_from (entry_trees es) e.node) k end) zero
      ]

  pub IsArena-push : IsArena (es ++ e ∷ [])
  IsArena-push =
      let below' : IsNodeAt (length (nodes_of es)) e.node = rw (tree_count (nodes_of es)) at below in
      record {
        ordered = rw (nodes_of-push es e) (ordered_push (nodes_of es) e.node ok.ordered below');
        zero_bytes = kept;
      }

-- an entry's node is the top of its tree
pub entry_top : (es : List Entry) (t : ℕ) (e : Entry) → IsArena es → slice_get es t ≡ Some e → tree_of (entry_trees es) t ≡ tree_from (entry_trees es) e.node
entry_top es t e ok h =
    let at : slice_get (nodes_of es) t ≡ Some e.node = nodes_of-get es t e h in
    tree_of_node (nodes_of es) t e.node at (ok.ordered t e.node at)
