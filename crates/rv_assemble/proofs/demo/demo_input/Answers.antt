use Rattle.std.proofs.Common.{◌∙◌, ◌++◌, ◌∷◌, [], List, ℕ, ap, sym}
use Rattle.rv_assemble.specs.Demo.{demo_input}
use Rattle.rv_assemble.proofs.DemoLemmas.{one_more}
use Rattle.rv_assemble.proofs.demo.demo_input.Goals as goal

pub loop-i-preserved : goal.loop-i-preserved
loop-i-preserved c =
    c.in_ok-push.ensures.items
    ∙ ap (λ (bytes : List ℕ). bytes ++ c.demo_byte.result ∷ []) c.loop-i.invariant
    ∙ ap (λ (byte : ℕ). demo_input c.args.kind c.loop-i.i ++ byte ∷ []) c.demo_byte.ensures
    ∙ sym (one_more c.args.kind c.loop-i.i)
