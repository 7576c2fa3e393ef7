use Rattle.std.proofs.Common.{◌≡◌, ◌∙◌, sym, ap, subst}
use Rattle.std.proofs.lemmas.Bool.{eqb-true}
use Rattle.term_model.specs.Tree.{Input, Apply}
use Rattle.term_model.specs.ZeroBytes.{is_zero_byte}
use Rattle.term_arena.specs.Trees.{tree_of, tree_from}
use Rattle.term_arena.specs.Mask.{mask_of}
use Rattle.sym_replay.specs.Values.{IsOwnByte}
use Rattle.sym_replay.proofs.ValueLemmas.{own_input, own_operation}
use Rattle.sym_replay.proofs.value.is_own_byte.Goals as goal

pub returns-in-Input : goal.returns-in-Input
returns-in-Input c e =
    let trees = c.args.arena.now in
    let is : tree_of trees c.args.t ≡ Input c.in-Input.field-0 = c.node.ensures.top ∙ ap (tree_from trees) c.in-Input.is in
    subst IsOwnByte (sym is) (own_input c.in-Input.field-0)

pub returns-in-Apply : goal.returns-in-Apply
returns-in-Apply c e =
    let trees = c.args.arena.now in
    let top = Apply c.in-Apply.field-0 (tree_of trees c.in-Apply.field-1) (tree_of trees c.in-Apply.field-2) in
    let is : tree_of trees c.args.t ≡ top = c.node.ensures.top ∙ ap (tree_from trees) c.in-Apply.is in
    let mask = c.zero_bytes.ensures.mask ∙ ap (λ t. mask_of (is_zero_byte t)) is in
    subst IsOwnByte (sym is) (own_operation _ _ _ c.zero_bytes.result mask (eqb-true c.zero_bytes.result 14 e))
