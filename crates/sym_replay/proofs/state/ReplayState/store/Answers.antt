use Rattle.std.proofs.Common.{◌∙◌, sym}
use Rattle.normal_form.specs.Norm.{norm}
use Rattle.replay_law.specs.Terms.{put_trees, stored_terms}
use Rattle.path_condition.proofs.ListLemmas.{then_ok}
use Rattle.sym_replay.specs.Values.{value_tree}
use Rattle.sym_replay.specs.States.{terms_of}
use Rattle.sym_replay.proofs.StateLemmas.{with_bytes}
use Rattle.sym_replay.proofs.state.ReplayState.store.Goals as goal

pub returns-in-W-clause-terms : goal.returns-in-W-clause-terms
returns-in-W-clause-terms c =
    let before = terms_of c.args.arena.now c.args.self.now in
    then_ok c.store_word.result (c.store_word.ensures.terms)
    (λ e. e ∙ (λ i. with_bytes before (put_trees before.bytes c.args.address (stored_terms norm (sym c.in-W.is i) (value_tree c.args.arena.now c.args.v.now)))))
