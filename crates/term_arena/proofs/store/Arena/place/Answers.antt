use Rattle.std.proofs.Common.{◌≡◌, length, [], ◌∷◌, ◌++◌, sym, subst, ap, ◌∙◌, Some, inr}
use Rattle.std.specs.Prelude.{slice_get}
use Rattle.std.proofs.lemmas.Option.{slice_get_within}
use Rattle.term_arena.specs.declared.entries.Entry.{Entry}
use Rattle.term_arena.specs.Trees.{tree_from, IsNodeAt}
use Rattle.term_arena.specs.Entries.{nodes_of, entry_trees, IsArena}
use Rattle.term_arena.proofs.TreeLemmas.{tree_count, tree_of_node, extends_push}
use Rattle.term_arena.proofs.IndexLemmas.{tree_of-end, longer}
use Rattle.term_arena.proofs.EntryLemmas.{entry_count, entry_trees-push, nodes_of-get, IsArena-push}
use Rattle.term_arena.proofs.store.Arena.place.Goals as goal

-- the node that was found
module _ (c : goal.After-new) where
  at : slice_get (nodes_of c.self.inside.table) c.in-Some.number ≡ Some c.args.node
  at = nodes_of-get c.self.inside.table c.in-Some.number c.in-Some.ensures.0 c.in-Some.ensures.1 ∙ ap Some c.in-Some.ensures.2

pub returns-in-Some-clause-below : goal.returns-in-Some-clause-below
returns-in-Some-clause-below c = rw (← c.self.view_is, c.new.ensures, tree_count (nodes_of c.self.inside.table)) (slice_get_within _ _ _ (at c))

pub returns-in-Some-clause-tree : goal.returns-in-Some-clause-tree
returns-in-Some-clause-tree c = rw (← c.self.view_is, c.new.ensures) (tree_of_node _ _ c.args.node (at c) (c.self.invariant.ordered _ _ (at c)))

module _ (c : goal.After-new-2) where
  grown : c.push.new.self ≡ c.self.inside.table ++ record { node = c.args.node; zero_bytes = c.zero_bytes_of-zero_bytes.result } ∷ []
  grown = c.in_ok-number.ensures.ok

  -- the trees, with that of the node at the end
  more : entry_trees c.push.new.self ≡ c.args.self.now ++ tree_from c.args.self.now c.args.node ∷ []
  more = rw (grown, ← c.self.view_is) (entry_trees-push c.self.inside.table (record { node = c.args.node; zero_bytes = c.zero_bytes_of-zero_bytes.result }))

  number : c.new-2.result ≡ length c.args.self.now
  number = c.new-2.ensures ∙ c.in_ok-number.ensures.number ∙ sym (entry_count c.self.inside.table) ∙ ap length c.self.view_is

pub invariant_of-self-2 : goal.invariant_of-self-2
invariant_of-self-2 c =
    let entry : Entry = record { node = c.args.node; zero_bytes = c.zero_bytes_of-zero_bytes.result } in
    let below : IsNodeAt (length (entry_trees c.self.inside.table)) c.args.node = rw (← c.self.view_is) at c.requires in
    subst IsArena (sym c.in_ok-number.ensures.ok) (IsArena-push c.self.inside.table entry below (rw c.self.view_is c.zero_bytes_of-zero_bytes.ensures) c.self.invariant)

pub returns-clause-below : goal.returns-clause-below
returns-clause-below c = rw (more c) (longer c.args.self.now (tree_from c.args.self.now c.args.node) _ (number c))

pub returns-clause-tree : goal.returns-clause-tree
returns-clause-tree c = rw (more c) (tree_of-end c.args.self.now (tree_from c.args.self.now c.args.node) _ (number c))

pub returns-clause-keeps : goal.returns-clause-keeps
returns-clause-keeps c = rw (more c) (extends_push c.args.self.now (tree_from c.args.self.now c.args.node))

pub returns-clause-grows : goal.returns-clause-grows
returns-clause-grows c = rw (more c) (let e = extends_push c.args.self.now (tree_from c.args.self.now c.args.node) in e.longer)

pub returns-clause-adds : goal.returns-clause-adds
returns-clause-adds c = inr (more c)
