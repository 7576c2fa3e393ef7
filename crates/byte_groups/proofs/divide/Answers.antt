use Rattle.std.proofs.Common.{sym, Ok, Err, Result}
use Rattle.std.specs.Prelude.{IfOk}
use Rattle.byte_groups.proofs.FinalLemmas.{are_groups}
use Rattle.byte_groups.proofs.divide.Goals as goal

if_ok : {A E : Type 0} (r : Result A E) (P Q : A → Type 0) → ((x : A) → P x → Q x) → IfOk r P → IfOk r Q
if_ok (Ok x) P Q f h = f x h
if_ok (Err e) P Q f h = h

pub returns : goal.returns
returns c =
    if_ok c.group_by_labels.result _ _ (λ groups is.
    are_groups c.args.arena.now c.args.conditions.now c.args.terms.now c.in_ok-leaves.leaves c.width_of-width.result c.in_ok-labels.labels.items c.in_ok-marks.marks.items groups.items
    c.requires.conditions c.requires.reached c.in_ok-leaves.ensures c.width_of-width.ensures.above c.in_ok-labels.ensures c.in_ok-marks.ensures.read
    (rw (sym c.deref.ensures.value, sym c.deref-2.ensures.value) is)) c.group_by_labels.ensures
