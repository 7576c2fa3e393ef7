use Rattle.sym_replay.proofs.StateLemmas.{all_bytes}
use Rattle.sym_replay.proofs.state.are_bytes.Goals as goal

pub returns : goal.returns
returns c = all_bytes c.args.bytes.now c.type_inv.bytes
