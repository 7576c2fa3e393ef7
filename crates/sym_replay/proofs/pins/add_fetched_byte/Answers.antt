use Rattle.std.proofs.Common.{◌≡◌, ◌∙◌, ◌∷◌, []}
use Rattle.rv_word.specs.Word.{byte_of}
use Rattle.term_model.specs.declared.Op.TheVariants.{Eq}
use Rattle.term_model.specs.Tree.{Const}
use Rattle.normal_form.specs.Norm.{norm}
use Rattle.replay_law.specs.Forms.{with_conditions}
use Rattle.replay_law.specs.Follow.{fetched_byte}
use Rattle.path_condition.proofs.ListLemmas.{then_ok, grown_trees}
use Rattle.sym_replay.specs.Values.{value_tree}
use Rattle.sym_replay.specs.States.{terms_of}
use Rattle.sym_replay.proofs.pins.add_fetched_byte.Goals as goal

pub returns-clause-trees : goal.returns-clause-trees
returns-clause-trees c =
    let value : c.from.result ≡ byte_of c.args.k c.args.word = cc in
    let is : value_tree c.made.new.arena c.in_ok-same.same ≡ fetched_byte norm (terms_of c.args.arena.now c.args.state.now) c.args.address c.args.word c.args.k =
    c.in_ok-same.ensures.value.is ∙ (λ i. norm Eq (c.byte-byte.ensures.is i) (Const (value i))) in
    let grown = grown_trees c.args.arena.now c.made.new.arena c.in_ok-same.ensures.keeps c.args.conditions.now c.requires.listed in
    then_ok c.add_holds.result c.add_holds.ensures.trees (λ e. e ∙ (λ i. with_conditions (grown i) (is i ∷ [])))
