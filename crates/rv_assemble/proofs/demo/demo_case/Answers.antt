use Rattle.std.proofs.Common.{◌∙◌, ap, length}
use Rattle.std.proofs.lemmas.List.FromFn.{length-map-range_with_len}
use Rattle.rv_assemble.specs.Demo.{demo_byte}
use Rattle.rv_assemble.proofs.demo.demo_case.Goals as goal

pub returns-clause-count : goal.returns-clause-count
returns-clause-count c =
    ap length (c.from_vec-input.ensures ∙ c.in_ok-demo_input.ensures)
    ∙ length-map-range_with_len (demo_byte c.args.kind) 0 c.args.n
