use Rattle.std.proofs.Common.{◌≤◌, ℕ, get_or, ◌∙◌, ◌+◌, ap, subst}
use Rattle.std.proofs.lemmas.List.{get_or_default, length_push}
use Rattle.symbol_stack.specs.declared.names.Row.{Row}
use Rattle.symbol_stack.proofs.RowLemmas.{outer_more}
use Rattle.symbol_stack.proofs.names.outer_of.Goals as goal

pub reaching-reached-requires-clause-outer : goal.reaching-reached-requires-clause-outer
reaching-reached-requires-clause-outer c = rw c.as_slice.ensures.value c.loop-i.invariant.outer

pub loop-i-preserved : goal.loop-i-preserved
loop-i-preserved c =
    let h = c.reaching-reached.ensures in
    let rows = c.args.rows.now in
    let none : Row = record { start = 0; behind = 0; end = 0 } in
    let pushed = c.in_ok-push.ensures.items in
    record {
      outer = outer_more rows c.loop-i.outer.items c.push.new.self.items c.reaching-reached.result c.loop-i.i c.loop-i.invariant.long c.loop-i.invariant.outer h.fewer
          (λ d k e low high. subst (λ (r : Row). (get_or rows k e).end ≤ r.end) (get_or_default rows c.loop-i.i none d c.loop-i-test.true) (h.passed k e low high)) pushed;
      long = rw pushed (length_push c.loop-i.outer.items c.reaching-reached.result ∙ ap (λ (n : ℕ). n + 1) c.loop-i.invariant.long);
    }
