-- By the growing passes.
use Rattle.search_model.specs.Literals.{named}
use Rattle.search_laws.proofs.LitLemmas.{named_are_literals}
use Rattle.search_laws.proofs.Growing.{conflict_grows, passes_trim_conflict}
use Rattle.search_laws.proofs.passes_trim_the_same.Goals as goal

pub returns-clause-grows : goal.returns-clause-grows
returns-clause-grows c = conflict_grows named named_are_literals

pub returns-clause-trim : goal.returns-clause-trim
returns-clause-trim c = passes_trim_conflict named named_are_literals
