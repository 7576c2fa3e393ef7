use Rattle.report_laws.proofs.LawLemmas.{large_is_never_spent}
use Rattle.report_laws.proofs.large_budgets_are_never_spent.Goals as goal

pub returns : goal.returns
returns c = λ program seed limit x t budget is crash large.
    large_is_never_spent c.conditions_hold_of_the_class.ensures.class c.conditions_are_proper.ensures.proper program seed limit x t is crash budget large
