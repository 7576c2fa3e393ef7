use Rattle.std.proofs.Common.{◌≡◌, false, ◌==◌}
use Rattle.std.proofs.lemmas.Bool.{ne_eqb}
use Rattle.std.specs.Ordering.{nat_cmp}
use Rattle.std.specs.BTreeMap.{get}
use Rattle.sym_replay.specs.Cells.{without_bytes}
use Rattle.sym_replay.specs.States.{byte_tree}
use Rattle.sym_replay.proofs.StateLemmas.{put_registers}
use Rattle.sym_replay.proofs.state.ReplayState.put.Goals as goal

pub returns-then-register-ne0-clause-terms : goal.returns-then-register-ne0-clause-terms
returns-then-register-ne0-clause-terms c trees =
    let no : (c.args.register == 0) ≡ false = ne_eqb c.args.register 0 c.if-register-ne0.true in
    (λ i. record {
      registers = put_registers trees c.args.self.now.registers c.args.register c.args.v no i;
      bytes = λ a. byte_tree trees c.args.self.now.memory.map a (get nat_cmp c.args.self.now.bytes a);
      place = c.args.self.now.place;
      cells = without_bytes c.args.self.now.memory.map;
      heap = c.args.self.now.memory.heap;
    })
