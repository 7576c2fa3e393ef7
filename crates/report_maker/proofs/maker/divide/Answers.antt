use Rattle.std.proofs.Common.{◌∙◌, ap, subst}
use Rattle.std.specs.Prelude.{All}
use Rattle.elf32.specs.Loads.{program_of}
use Rattle.term_arena.specs.Trees.{trees_of}
use Rattle.group_model.specs.Division.{AreGroups}
use Rattle.trace_conditions.specs.Conditions.{conditions_of}
use Rattle.report_laws.specs.Divided.{AreDivided}
use Rattle.report_maker.proofs.MadeLemmas.{listed_are_conditions, value_has}
use Rattle.report_maker.proofs.maker.divide.Goals as goal

pub groups-requires : goal.groups-requires
groups-requires c =
    listed_are_conditions (program_of c.args.image.now) c.args.transcript.now c.replay.new.arena c.list.result.now c.in_ok-conditions.conditions c.list.ensures.list
    (c.in_ok-conditions.ensures.proper c.requires.traced.0 c.requires.traced.1 c.requires.program c.requires.traced.2) c.in_ok-conditions.ensures.listed

pub returns : goal.returns
returns c =
    value_has c.groups.result (AreGroups c.replay.new.arena c.list.result.now) (AreDivided c.replay.new.arena (conditions_of (program_of c.args.image.now) c.args.transcript.now) c.args.transcript.now.n)
    (λ gs are. c.groups_make_the_report.ensures.divided c.replay.new.arena (conditions_of (program_of c.args.image.now) c.args.transcript.now) c.args.transcript.now.n c.in_ok-conditions.conditions gs
    c.in_ok-conditions.ensures.trees (c.in_ok-conditions.ensures.proper c.requires.traced.0 c.requires.traced.1 c.requires.program c.requires.traced.2) c.in_ok-conditions.ensures.listed
    (subst (λ us. AreGroups c.replay.new.arena us gs) c.list.ensures.list are))
    c.groups.ensures
