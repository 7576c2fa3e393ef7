use Rattle.std.proofs.Common.{◌∙◌}
use Rattle.elf32.proofs.Kept.{Kept, kept, sorted_is}
use Rattle.elf32.proofs.load.loaded_segments.Goals as goal

all : (c : goal.After-from_vec) → Kept c.in_ok-segments.segments.items
all c =
    let order = c.in_ok-segments.ensures in
    kept c.args.bytes.now c.args.headers.now c.in_ok-segments_of.field-0.items c.in_ok-segments.segments.items c.in_ok-segments_of.ensures order.permutation order.order c.requires.inside c.requires.apart c.requires.small

pub returns-clause-segments : goal.returns-clause-segments
returns-clause-segments c =
    let order = c.in_ok-segments.ensures in
    c.from_vec.ensures
    ∙ sorted_is c.args.bytes.now c.args.headers.now c.in_ok-segments_of.field-0.items c.in_ok-segments.segments.items c.in_ok-segments_of.ensures order.permutation order.order c.requires.inside c.requires.apart c.requires.small

pub returns-clause-apart : goal.returns-clause-apart
returns-clause-apart c = let k = all c in rw c.from_vec.ensures k.apart

pub returns-clause-off_stack : goal.returns-clause-off_stack
returns-clause-off_stack c = let k = all c in rw c.from_vec.ensures k.off_stack

pub returns-clause-sized : goal.returns-clause-sized
returns-clause-sized c = let k = all c in rw c.from_vec.ensures k.sized

pub returns-clause-small : goal.returns-clause-small
returns-clause-small c = let k = all c in rw c.from_vec.ensures k.small
