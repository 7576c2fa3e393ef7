use Rattle.std.proofs.Common.{◌<◌, arith}
use Rattle.bit_blast.proofs.WalkLemmas.{known_row, constant_row, input_row, operation_row}
use Rattle.bit_blast.proofs.walk.make_row.Goals as goal

pub row-first-requires : goal.row-first-requires
row-first-requires c =
    let first : c.in-Apply.a < c.args.t = c.in-Apply.ensures.place.0 in
    let second : c.in-Apply.b < c.args.t = c.in-Apply.ensures.place.1 in
    let both = c.requires.operands c.in-Apply.op c.in-Apply.a c.in-Apply.b (omega (arith, first, c.requires.belongs)) (omega (arith, second, c.requires.belongs)) c.in-Apply.ensures.top in
    both.0

pub row-second-requires : goal.row-second-requires
row-second-requires c =
    let first : c.in-Apply.a < c.args.t = c.in-Apply.ensures.place.0 in
    let second : c.in-Apply.b < c.args.t = c.in-Apply.ensures.place.1 in
    let both = c.requires.operands c.in-Apply.op c.in-Apply.a c.in-Apply.b (omega (arith, first, c.requires.belongs)) (omega (arith, second, c.requires.belongs)) c.in-Apply.ensures.top in
    both.1

pub returns-in-Const-clause-row : goal.returns-in-Const-clause-row
returns-in-Const-clause-row c = constant_row _ _ _ c.constant.result c.len-net.ensures.net.yes c.len-net.ensures.net.some c.in-Const.ensures.top c.constant.ensures.below c.constant.ensures.trees c.constant.ensures.width

pub returns-in-Input-clause-row : goal.returns-in-Input-clause-row
returns-in-Input-clause-row c = input_row _ _ _ c.input.result c.in-Input.ensures.top c.input.ensures.below c.input.ensures.trees c.input.ensures.width

pub returns-in-Apply-clause-row : goal.returns-in-Apply-clause-row
returns-in-Apply-clause-row c = operation_row _ _ _ _ _ _ _ _ c.operation.result c.in-Apply.ensures.top (known_row _ _ _ c.in-Apply.a _ c.requires.rows c.row-first.ensures) (known_row _ _ _ c.in-Apply.b _ c.requires.rows c.row-second.ensures) c.operation.ensures.below c.operation.ensures.trees c.operation.ensures.width

pub operation-requires-clause-first : goal.operation-requires-clause-first
operation-requires-clause-first c = (known_row c.args.arena.now c.args.net.now c.args.rows.now.entries c.in-Apply.a c.row-first.result c.requires.rows c.row-first.ensures).below

pub operation-requires-clause-second : goal.operation-requires-clause-second
operation-requires-clause-second c = (known_row c.args.arena.now c.args.net.now c.args.rows.now.entries c.in-Apply.b c.row-second.result c.requires.rows c.row-second.ensures).below
