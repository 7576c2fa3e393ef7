use Rattle.std.proofs.Common.{◌∙◌, length, arith}
use Rattle.rv_assemble.proofs.Sums.{all_held}
use Rattle.rv_assemble.proofs.Ready.{Built, built}
use Rattle.rv_assemble.proofs.assemble.build.Goals as goal

pub file_length-requires-clause-small : goal.file_length-requires-clause-small
file_length-requires-clause-small c = omega (arith, all_held (length c.args.code.now) c.args.regions.now c.requires.regions c.requires.memory)

pub returns-clause-file : goal.returns-clause-file
returns-clause-file c =
    let b : Built c.args.code.now c.args.regions.now c.from_vec.result =
    built _ _ c.in_ok-text.text _ (c.from_vec.ensures ∙ c.in_ok-file_of.ensures) c.in_ok-text.ensures.region c.in_ok-text.ensures.spells c.requires.few c.requires.regions c.requires.memory in
    b.is_file

pub returns-clause-accepted : goal.returns-clause-accepted
returns-clause-accepted c =
    let b : Built c.args.code.now c.args.regions.now c.from_vec.result =
    built _ _ c.in_ok-text.text _ (c.from_vec.ensures ∙ c.in_ok-file_of.ensures) c.in_ok-text.ensures.region c.in_ok-text.ensures.spells c.requires.few c.requires.regions c.requires.memory in
    b.accepted

pub returns-clause-entry : goal.returns-clause-entry
returns-clause-entry c =
    let b : Built c.args.code.now c.args.regions.now c.from_vec.result =
    built _ _ c.in_ok-text.text _ (c.from_vec.ensures ∙ c.in_ok-file_of.ensures) c.in_ok-text.ensures.region c.in_ok-text.ensures.spells c.requires.few c.requires.regions c.requires.memory in
    b.entry

pub returns-clause-length : goal.returns-clause-length
returns-clause-length c =
    let b : Built c.args.code.now c.args.regions.now c.from_vec.result =
    built _ _ c.in_ok-text.text _ (c.from_vec.ensures ∙ c.in_ok-file_of.ensures) c.in_ok-text.ensures.region c.in_ok-text.ensures.spells c.requires.few c.requires.regions c.requires.memory in
    b.length
