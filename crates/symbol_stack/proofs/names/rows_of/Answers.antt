use Rattle.std.proofs.Common.{◌∙◌, sym, arith}
use Rattle.std.proofs.lemmas.List.{append-nil, drop_all}
use Rattle.symbol_stack.specs.Rows.{rows_of}
use Rattle.symbol_stack.proofs.RowLemmas.{rows_more}
use Rattle.symbol_stack.proofs.names.rows_of.Goals as goal

pub loop-i-preserved : goal.loop-i-preserved
loop-i-preserved c = rw c.in_ok-push.ensures.items (rw c.end_of.ensures (rows_more c.loop-i.rows.items c.args.symbols.now c.loop-i.i c.index-symbols-i.result c.loop-i-test.true c.index-symbols-i.is ∙ c.loop-i.invariant))

pub returns : goal.returns
unfolding rows_of
returns c = sym (append-nil c.loop-i.rows.items) ∙ (rw (drop_all c.loop-i.i c.args.symbols.now (omega (arith, c.loop-i-test.false))) at c.loop-i.invariant)
