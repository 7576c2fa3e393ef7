use Rattle.std.proofs.Common.{◌≡◌, [], ◌∷◌, eqb, refl, sym, ◌∙◌}
use Rattle.std.specs.Cmp.Lexicographic.{pointwise}
use Rattle.std.proofs.lemmas.Bool.{not-false}
use Rattle.std.proofs.lemmas.Bool.Decides.{Decides-eqb}
use Rattle.std.proofs.lemmas.Slice.Eq.{slice_eq-Decides}
use Rattle.rv_event.proofs.PackedLemmas.{pushed_bare}
use Rattle.rv_event.proofs.events.Events.push.Goals as goal

pub returns-clause-added : goal.returns-clause-added
returns-clause-added c =
    let same = not-false (pointwise eqb c.args.event.call (0 ∷ 0 ∷ 0 ∷ 0 ∷ [])) (sym c.ne.ensures ∙ c.if-ne.false) in
    let none : c.args.event.call ≡ 0 ∷ 0 ∷ 0 ∷ 0 ∷ [] = (slice_eq-Decides Decides-eqb c.args.event.call (0 ∷ 0 ∷ 0 ∷ 0 ∷ []) _ refl).0 same in
    pushed_bare c.self.inside.numbers.items c.self.inside.packed.items c.push.new.self.items c.args.event c.args.self.now c.self.view_is none c.in_ok-push.ensures.items
