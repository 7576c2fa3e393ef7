use Rattle.trace_conditions.specs.Conditions.{conditions_of}
use Rattle.report_laws.specs.Mask.{mask}
use Rattle.report_laws.proofs.GroupLemmas as groups
use Rattle.report_laws.proofs.groups_make_the_report.Goals as goal

pub returns-clause-divided : goal.returns-clause-divided
returns-clause-divided c = groups.divided

pub returns-clause-open : goal.returns-clause-open
returns-clause-open c = λ program limit x t trees gs is crash divided small. groups.all_open c.conditions_hold_of_the_class.ensures.class program limit x t is crash trees gs divided small

pub returns-clause-number : goal.returns-clause-number
returns-clause-number c = λ program t trees gs divided. groups.number_is trees (conditions_of program t) t.n gs divided

pub returns-clause-few : goal.returns-clause-few
returns-clause-few c = λ program t trees gs divided. groups.number_is_small trees (conditions_of program t) t.n gs divided

pub returns-clause-conflicts : goal.returns-clause-conflicts
returns-clause-conflicts c = λ program seed t trees gs divided. groups.conflicts_are trees (conditions_of program t) t.n gs divided (mask seed t.n)

pub returns-clause-spent : goal.returns-clause-spent
returns-clause-spent c = λ program seed t trees gs budget divided. groups.first_spent_is trees (conditions_of program t) t.n gs divided (mask seed t.n) budget

pub returns-clause-input : goal.returns-clause-input
returns-clause-input c = λ program seed limit x t trees gs input sets is crash divided is_input filled.
    groups.input_is c.conditions_hold_of_the_class.ensures.class program limit x t is crash trees gs divided seed input sets is_input filled

pub returns-clause-sets : goal.returns-clause-sets
returns-clause-sets c = λ program seed limit x t trees gs input sets is crash divided is_input filled.
    groups.report_sets_are c.conditions_hold_of_the_class.ensures.class program limit x t is crash trees gs divided seed input sets is_input filled
