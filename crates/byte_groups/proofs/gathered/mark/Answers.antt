use Rattle.std.proofs.Common.{◌≡◌, true, ap, ◌∙◌}
use Rattle.term_model.specs.Places.{reads}
use Rattle.std.proofs.Common.{arith, nat_eq}
use Rattle.std.proofs.lemmas.Bool.Decides.{nat_tests}
use Rattle.byte_groups.proofs.gathered.mark.Goals as goal

pub bounds-marks-place : goal.bounds-marks-place
bounds-marks-place c =
    let same : nat_eq c.in-Input.place c.in-Input.place ≡ true = grind (arith, nat_tests) in
    c.requires.within c.in-Input.place (ap (λ s. reads s c.in-Input.place) c.in-Input.ensures.top ∙ same)
