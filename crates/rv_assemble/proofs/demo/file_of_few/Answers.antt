use Rattle.std.proofs.Common.{[], ◌∷◌, length, subst, sym}
use Rattle.rv_assemble.specs.declared.region.Region.{Region}
use Rattle.rv_assemble.specs.Parts.{places, CanLoad}
use Rattle.rv_assemble.proofs.DemoLemmas.{demo_loads}
use Rattle.rv_assemble.proofs.demo.file_of_few.Goals as goal

pub build-requires-clause-memory : goal.build-requires-clause-memory
build-requires-clause-memory c =
    subst (λ (r : Region). CanLoad (places (length c.args.code.now) (r ∷ []))) (sym c.demo_region.ensures)
    (demo_loads (length c.args.code.now) c.args.n c.requires.few c.requires.small)
