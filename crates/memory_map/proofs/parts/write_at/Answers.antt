use Rattle.std.proofs.Common.{◌≡◌, get_or, ap, ◌∙◌, subst}
use Rattle.std.proofs.lemmas.Bool.{OnTrue_from}
use Rattle.std.proofs.lemmas.List.{get_or_default}
use Rattle.memory_map.specs.Part.{Part}
use Rattle.memory_map.specs.Layout.{contains}
use Rattle.memory_map.proofs.Order.{laid_out_set, IsSamePlace}
use Rattle.memory_map.proofs.Writes.{write_at_place, same_place}
use Rattle.memory_map.proofs.parts.write_at.Goals as goal

pub returns-in-Some-clause-written : goal.returns-in-Some-clause-written
returns-in-Some-clause-written c =
    let p = c.index-regions-place.result in
    let at : p ≡ get_or c.args.regions.now c.in-Some.place p = c.index-regions-place.is in
    let here = ap (λ y. contains y c.args.address) at ∙ c.in-Some.ensures.some.here p in
    let h = rw (← at) at c.write.ensures in
    let w = write_at_place c.write.result c.args.regions.now c.in-Some.place p c.write.new.self c.args.address c.args.bytes.now c.requires.ascending c.requires.within c.in-Some.ensures.some.below at here h.written h.after in
    OnTrue_from c.write.result _ (λ t. w.written t)

pub returns-in-Some-clause-one : goal.returns-in-Some-clause-one
returns-in-Some-clause-one c =
    let p = c.index-regions-place.result in
    let at : p ≡ get_or c.args.regions.now c.in-Some.place p = c.index-regions-place.is in
    let here = ap (λ y. contains y c.args.address) at ∙ c.in-Some.ensures.some.here p in
    let h = rw (← at) at c.write.ensures in
    let w = write_at_place c.write.result c.args.regions.now c.in-Some.place p c.write.new.self c.args.address c.args.bytes.now c.requires.ascending c.requires.within c.in-Some.ensures.some.below at here h.written h.after in
    w.one

pub returns-in-Some-clause-laid_out : goal.returns-in-Some-clause-laid_out
returns-in-Some-clause-laid_out c = λ stack laid.
    let p = c.index-regions-place.result in
    let at : p ≡ get_or c.args.regions.now c.in-Some.place p = c.index-regions-place.is in
    let here = ap (λ y. contains y c.args.address) at ∙ c.in-Some.ensures.some.here p in
    let h = rw (← at) at c.write.ensures in
    laid_out_set stack c.args.regions.now c.in-Some.place c.write.new.self c.in-Some.ensures.some.below
    (λ d. subst (λ (x : Part). IsSamePlace c.write.new.self x) (at ∙ get_or_default c.args.regions.now c.in-Some.place p d c.in-Some.ensures.some.below)
    (same_place c.write.result p c.write.new.self c.args.address c.args.bytes.now here h.written h.after)) laid
