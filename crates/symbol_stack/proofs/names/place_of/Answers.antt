use Rattle.std.proofs.Common.{◌<◌, ◌-◌, arith}
use Rattle.symbol_stack.specs.declared.names.Row.{Row}
use Rattle.symbol_stack.proofs.RowLemmas.{is_search, is_behind, none_reached, one_reached}
use Rattle.symbol_stack.proofs.names.place_of.Goals as goal

pub returns-then-reached-eq0-clause-none : goal.returns-then-reached-eq0-clause-none
returns-then-reached-eq0-clause-none c =
    λ _.
    let b = c.begun.ensures in
    let r = c.reaching-reached.ensures in
    let done = is_search c.args.rows.now c.args.pc c.from.result c.begun.result c.reaching-reached.result c.from.ensures b.within r.fewer b.begun b.later r.passed in
    none_reached c.args.symbols.now c.args.rows.now c.args.pc c.begun.result c.reaching-reached.result c.requires.permutation done c.if-reached-eq0.true

pub overflow_sub-result : goal.overflow_sub-result
overflow_sub-result c =
    let below = is_behind c.args.symbols.now c.args.rows.now (c.reaching-reached.result - 1) c.requires.permutation (omega (arith, c.begun.ensures.within, c.reaching-reached.ensures.fewer, c.if-reached-eq0.false)) in
    omega (arith, below)

pub overflow_sub-result-3 : goal.overflow_sub-result-3
overflow_sub-result-3 c =
    let below = is_behind c.args.symbols.now c.args.rows.now (c.reaching-reached.result - 1) c.requires.permutation (omega (arith, c.begun.ensures.within, c.reaching-reached.ensures.fewer, c.if-reached-eq0.false)) in
    omega (arith, below)

pub returns-clause-within : goal.returns-clause-within
returns-clause-within c =
    let below = is_behind c.args.symbols.now c.args.rows.now (c.reaching-reached.result - 1) c.requires.permutation (omega (arith, c.begun.ensures.within, c.reaching-reached.ensures.fewer, c.if-reached-eq0.false)) in
    omega (arith, below)

pub returns-clause-some : goal.returns-clause-some
returns-clause-some c =
    λ s stands.
    let b = c.begun.ensures in
    let r = c.reaching-reached.ensures in
    let some : 0 < c.reaching-reached.result = omega (arith, c.if-reached-eq0.false) in
    let done = is_search c.args.rows.now c.args.pc c.from.result c.begun.result c.reaching-reached.result c.from.ensures b.within r.fewer b.begun b.later r.passed in
    let none : Row = record { start = 0; behind = 0; end = 0 } in
    let found = rw c.from.ensures at r.found none some in
    one_reached c.args.symbols.now c.args.rows.now c.args.pc c.begun.result c.reaching-reached.result none s c.requires.permutation c.requires.order done some found stands
