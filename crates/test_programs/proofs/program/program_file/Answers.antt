use Rattle.test_programs.proofs.Regions.{loads_code}
use Rattle.test_programs.proofs.program.program_file.Goals as goal

pub build-requires-clause-memory : goal.build-requires-clause-memory
build-requires-clause-memory c =
    loads_code _ _ (λ v. v.items) _ c.in-Some.code c.args.regions.now c.if-cannot_load.ensures c.in_ok-code.ensures.stand c.in-Some.is c.deref.ensures.value
