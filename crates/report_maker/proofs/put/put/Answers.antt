use Rattle.std.proofs.Common.{◌∙◌, ◌<◌, arith, sym}
use Rattle.std.proofs.lemmas.List.{get_or_default}
use Rattle.report_maker.proofs.PutLemmas.{none_put, one_put_more}
use Rattle.report_maker.proofs.put.put.Goals as goal

pub loop-k-init : goal.loop-k-init
loop-k-init g c = none_put c.args.places.now c.args.items.now c.args.list.now c.requires.ascending

pub loop-k-preserved : goal.loop-k-preserved
loop-k-preserved g c =
    one_put_more c.args.places.now c.args.items.now c.args.list.now c.requires.ascending c.loop-k.list c.loop-k.k c.index-items-k.result c.loop-k.invariant
    c.loop-k-test.true (c.requires.within c.loop-k.k 0 c.loop-k-test.true)
    (λ d. c.index-items-k.is ∙ get_or_default c.args.items.now c.loop-k.k c.index-items-k.result d (rw c.requires.each c.loop-k-test.true))

pub returns-clause-has : goal.returns-clause-has
returns-clause-has g c = λ j d l. c.loop-k.invariant.has j d (let all = c.loop-k-test.false in omega arith)

pub returns-clause-left : goal.returns-clause-left
returns-clause-left g c = λ i d not. c.loop-k.invariant.left i d not
