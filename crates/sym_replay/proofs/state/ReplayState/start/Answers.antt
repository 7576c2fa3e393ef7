use Rattle.std.proofs.Common.{◌≡◌, refl, replicate, arith, None, Some, sym, ◌∙◌, ◌<◌, List, [], All, subst}
use Rattle.std.proofs.lemmas.Grind.{common_steps}
use Rattle.std.specs.Ordering.{nat_cmp}
use Rattle.std.specs.BTreeMap.{get}
use Rattle.sym_replay.specs.declared.value.Value.TheVariants.{Known}
use Rattle.sym_replay.specs.Values.{IsValueIn}
use Rattle.sym_replay.specs.States.{HoldsBytes}
use Rattle.elf32.specs.declared.segments.Segment.{Segment}
use Rattle.sym_replay.proofs.StateLemmas.{all_set, all_same, start_held}
use Rattle.sym_replay.proofs.state.ReplayState.start.Goals as goal

pub returns-clause-state : goal.returns-clause-state
returns-clause-state c trees = record {
  registers = all_set (IsValueIn trees) (replicate 32 (Known 0)) 2 (Known 0x7fffff00) (omega arith) (all_same (IsValueIn trees) 32 (Known 0) (omega arith));
  count = refl;
  bytes = λ a t e. (let none : get nat_cmp c.new.result a ≡ None = grind (arith, common_steps) in let same : None ≡ Some t = sym none ∙ e in cc);
  within = λ a t e. (let none : get nat_cmp c.new.result a ≡ None = grind (arith, common_steps) in let same : None ≡ Some t = sym none ∙ e in cc);
  held = (let all = subst (λ (ss : List Segment). All (λ (s : Segment). All (λ b. b < 256) s.bytes) ss) c.as_slice.ensures c.segments_hold_bytes.ensures in
      let held = start_held c.args.image.now.segments (c.starts_in_state.ensures [] 0 c.args.image.now.segments (omega arith) refl all) in
      subst HoldsBytes (sym c.in_ok-memory.ensures.map) held);
}
