use Rattle.machine_laws.proofs.Blind.{transcript_blind, class_blind}
use Rattle.machine_laws.proofs.a_run_without_calls_ignores_its_input.Goals as goal

pub returns-clause-same : goal.returns-clause-same
returns-clause-same c = transcript_blind

pub returns-clause-class : goal.returns-clause-class
returns-clause-class c = class_blind
