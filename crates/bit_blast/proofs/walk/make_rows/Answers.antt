use Rattle.std.proofs.Common.{◌≡◌, ℕ, ◌-◌, ◌<◌, length, get_or, sym, ◌∙◌, arith, Some}
use Rattle.std.specs.Ordering.{nat_cmp}
use Rattle.std.specs.BTreeMap.{Updates}
use Rattle.bit_blast.proofs.WalkLemmas.{any_default, operands_known, rows_more, rows_grow}
use Rattle.bit_blast.proofs.walk.make_rows.Goals as goal

pub make_row-requires-clause-belongs : goal.make_row-requires-clause-belongs
make_row-requires-clause-belongs c = c.requires.reached.1.belong c.index-terms-terms.result (length c.args.terms.now - 1 - c.loop-done.done, omega arith, sym c.index-terms-terms.is)

pub make_row-requires-clause-operands : goal.make_row-requires-clause-operands
make_row-requires-clause-operands c =
    let i : ℕ = length c.args.terms.now - 1 - c.loop-done.done in
    let within : i < length c.args.terms.now = omega arith in
    operands_known c.args.arena.now c.args.net.now c.loop-done.net c.requires.reached.0 c.args.terms.now c.args.rows.now c.requires.reached.1 c.loop-done.rows c.loop-done.done i c.index-terms-terms.result (omega arith) (λ d. any_default c.args.terms.now i d c.index-terms-terms.result within ∙ sym c.index-terms-terms.is) c.loop-done.invariant

pub loop-done-preserved : goal.loop-done-preserved
loop-done-preserved c =
    let i : ℕ = length c.args.terms.now - 1 - c.loop-done.done in
    let within : i < length c.args.terms.now = omega arith in
    let item : (d : ℕ) → get_or c.args.terms.now i d ≡ c.index-terms-terms.result = λ d. any_default c.args.terms.now i d c.index-terms-terms.result within ∙ sym c.index-terms-terms.is in
    let puts : Updates nat_cmp c.loop-done.rows c.put.new.rows c.index-terms-terms.result (Some c.in_ok-made.made.items) = rw c.deref.ensures.value at c.in_ok-put.ensures.puts in
    rows_more c.args.arena.now c.args.net.now c.loop-done.net c.requires.reached.0 c.args.terms.now c.args.rows.now c.requires.reached.1 c.loop-done.rows c.loop-done.done i c.index-terms-terms.result (omega arith) item c.loop-done.invariant c.make_row.new.net c.in_ok-made.ensures.keeps c.put.new.rows c.in_ok-made.made.items c.in_ok-made.ensures.row puts

pub returns-in_err-made-clause-rows : goal.returns-in_err-made-clause-rows
returns-in_err-made-clause-rows c = rows_grow c.args.arena.now c.loop-done.net c.make_row.new.net c.loop-done.rows.entries c.in_err-made.ensures.keeps c.loop-done.invariant.are

pub returns-in_err-put-clause-rows : goal.returns-in_err-put-clause-rows
returns-in_err-put-clause-rows c = rw c.in_err-put.ensures.err (rows_grow c.args.arena.now c.loop-done.net c.make_row.new.net c.loop-done.rows.entries c.in_ok-made.ensures.keeps c.loop-done.invariant.are)
