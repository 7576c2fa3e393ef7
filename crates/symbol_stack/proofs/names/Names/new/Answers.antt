use Rattle.symbol_stack.proofs.names.Names.new.Goals as goal

pub invariant_of-result : goal.invariant_of-result
invariant_of-result c =
    let rows = c.sorted-rows.ensures in
    let outer = rw c.as_slice.ensures.value at c.in_ok-outer.ensures in
    record {
      permutation = rw (c.in_ok-rows_of.ensures) at rows.permutation;
      order = rows.order;
      surrounds = outer.outer;
      long = outer.long;
    }
