use Rattle.std.proofs.Common.{◌≡◌, ℕ, ◌+◌, ◌-◌, ◌<◌, length, get_or, subst, sym, ◌∙◌, arith}
use Rattle.std.specs.BTreeMap.{BTreeMap}
use Rattle.byte_groups.proofs.LeafLemmas.{AreLeaves, any_default, operands_known, leaves_more, leaves_same}
use Rattle.byte_groups.proofs.joined.leaves_of.Goals as goal
use Rattle.byte_groups.proofs.joined.leaves_of.Goals.{in-Some+in_ok-insert-in-Some, in-None}

pub leaf_of-requires-clause-belongs : goal.leaf_of-requires-clause-belongs
leaf_of-requires-clause-belongs c = c.requires.1.belong c.index-terms-terms.result (length c.args.terms.now - 1 - c.loop-done.done, omega arith, sym c.index-terms-terms.is)

pub leaf_of-requires-clause-operands : goal.leaf_of-requires-clause-operands
leaf_of-requires-clause-operands c =
    let i : ℕ = length c.args.terms.now - 1 - c.loop-done.done in
    let within : i < length c.args.terms.now = omega arith in
    operands_known c.args.arena.now c.requires.0 c.args.terms.now c.requires.1 c.loop-done.leaves c.loop-done.done i c.index-terms-terms.result (omega arith) (λ d. any_default c.args.terms.now i d c.index-terms-terms.result within ∙ sym c.index-terms-terms.is) c.loop-done.invariant

pub loop-done-preserved : goal.loop-done-preserved
loop-done-preserved c =
    let i : ℕ = length c.args.terms.now - 1 - c.loop-done.done in
    let within : i < length c.args.terms.now = omega arith in
    let item : (d : ℕ) → get_or c.args.terms.now i d ≡ c.index-terms-terms.result = λ d. any_default c.args.terms.now i d c.index-terms-terms.result within ∙ sym c.index-terms-terms.is in
    let P : BTreeMap ℕ ℕ → Type 0 = λ m. AreLeaves c.args.arena.now c.args.terms.now m (c.loop-done.done + 1) in
    elim c.match-leaf_of.branch [
      | in-Some+in_ok-insert-in-Some w ↦ subst P (sym w.leaves-is) (leaves_more c.args.arena.now c.requires.0 c.args.terms.now c.requires.1 c.loop-done.leaves c.loop-done.done i c.index-terms-terms.result (omega arith) item c.loop-done.invariant w.insert.new.self w.in-Some.place w.in-Some.ensures w.in_ok-insert-in-Some.ensures.updates)
      | in-None w ↦ subst P (sym w.leaves-is) (leaves_same c.args.arena.now c.requires.0 c.args.terms.now c.requires.1 c.loop-done.leaves c.loop-done.done i c.index-terms-terms.result (omega arith) item c.loop-done.invariant w.in-None.ensures)
    ]
