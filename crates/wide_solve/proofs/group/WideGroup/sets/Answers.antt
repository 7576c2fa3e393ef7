use Rattle.std.proofs.Common.{◌≡◌, List, [], refl, sym, ◌∙◌, ap, subst, length}
use Rattle.std.specs.Prelude.{slice_index_or}
use Rattle.byte_sets.specs.ByteSet.{has}
use Rattle.byte_sets.specs.declared.ByteSet.{ByteSet}
use Rattle.gate_model.specs.Tree.{Tree}
use Rattle.gate_net.specs.declared.literals.Lit.{Lit}
use Rattle.gate_net.specs.Lits.{AreNamed}
use Rattle.gate_net.specs.Trees.{all_signed_of}
use Rattle.wide_laws.specs.Sets.{fixed_from, force_roots}
use Rattle.wide_solve.specs.Gates.{IsTied, AreSigned}
use Rattle.wide_solve.proofs.GroupLemmas.{tied_as, own_order, tied_possible, tied_sets}
use Rattle.wide_solve.proofs.OrderLemmas.{order_named}
use Rattle.wide_solve.proofs.group.WideGroup.sets.Goals as goal

pub fixed_bits-requires-clause-possible : goal.fixed_bits-requires-clause-possible
fixed_bits-requires-clause-possible c =
    let net : List Tree = c.self.inside.net in
    let roots : List Lit = c.as_slice-2.result.now in
    let bits : List Lit = c.as_slice.result.now in
    let is : IsTied c.args.self.now net roots bits = tied_as _ c.args.self.now net c.self.inside.roots.items c.self.inside.bits.items roots bits c.self.view_is c.as_slice-2.ensures.value c.as_slice.ensures.value c.self.invariant in
    tied_possible c.args.self.now net roots bits c.as_slice-3.result.now is c.requires.meets.0 c.requires.meets.1 c.requires.meets.3

pub fixed_bits-requires-clause-own : goal.fixed_bits-requires-clause-own
fixed_bits-requires-clause-own c =
    let net : List Tree = c.self.inside.net in
    let roots : List Lit = c.self.inside.roots.items in
    let bits : List Lit = c.as_slice.result.now in
    let order : List Lit = c.as_slice-3.result.now in
    let is : IsTied c.args.self.now net roots bits = tied_as _ c.args.self.now net c.self.inside.roots.items c.self.inside.bits.items roots bits c.self.view_is refl c.as_slice.ensures.value c.self.invariant in
    let signed : AreSigned bits c.args.first.now (length bits) order = subst (λ (o : List Lit). AreSigned bits c.args.first.now (length bits) o) (sym c.as_slice-3.ensures.value) c.in_ok-order.ensures in
    (c.requires.meets.0, c.args.self.now.places, own_order c.args.self.now net roots bits order c.requires.meets.0 c.args.first.now is c.requires.meets.2 signed)

pub returns-clause-sets : goal.returns-clause-sets
returns-clause-sets c =
    let net : List Tree = c.self.inside.net in
    let roots : List Lit = c.as_slice-2.result.now in
    let bits : List Lit = c.as_slice.result.now in
    let order : List Lit = c.as_slice-5.result.now in
    let fixed : List Lit = c.as_slice-4.result.now in
    let is : IsTied c.args.self.now net roots bits = tied_as _ c.args.self.now net c.self.inside.roots.items c.self.inside.bits.items roots bits c.self.view_is c.as_slice-2.ensures.value c.as_slice.ensures.value c.self.invariant in
    let signed : AreSigned bits c.args.first.now (length bits) order = subst (λ (o : List Lit). AreSigned bits c.args.first.now (length bits) o) (sym c.as_slice-5.ensures.value) c.in_ok-order.ensures in
    let named = subst (λ (f : List Lit). AreNamed (length net) f) (sym c.as_slice-4.ensures.value) c.in_ok-fixed.ensures.named in
    let freed : all_signed_of net fixed ≡ fixed_from (force_roots (all_signed_of net roots)) [] (all_signed_of net order) =
    ap (all_signed_of net) c.as_slice-4.ensures.value ∙ c.in_ok-fixed.ensures.fixed
    ∙ ap (λ (o : List Lit). fixed_from (force_roots (all_signed_of net roots)) [] (all_signed_of net o)) (c.as_slice-3.ensures.value ∙ sym c.as_slice-5.ensures.value) in
    λ y there k d low.
    ap (λ (sets : List ByteSet). has (slice_index_or sets k d)) c.from_vec.ensures
    ∙ tied_sets c.args.self.now net roots bits order is y (own_order c.args.self.now net roots bits order y c.args.first.now is there signed)
    fixed c.in_ok-sets.sets.items (length c.args.first.now) c.len-net.ensures.net named
    (order_named net c.args.self.now.places c.args.first.now bits order is.are_bits signed)
    (signed.long ∙ is.are_bits.long) c.requires.long freed c.in_ok-sets.ensures k d low
