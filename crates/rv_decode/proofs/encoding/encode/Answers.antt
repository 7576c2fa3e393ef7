use Rattle.std.proofs.Common.{◌∙◌, arith}
use Rattle.rv_decode.proofs.Listing.{listed}
use Rattle.rv_decode.proofs.Rows.{one_word}
use Rattle.rv_decode.proofs.encoding.encode.Goals as goal

pub returns-clause-row : goal.returns-clause-row
returns-clause-row c = listed c.word_of.result ∙ c.word_of.ensures

pub returns-clause-only : goal.returns-clause-only
returns-clause-only c = λ word fits e. one_word _ word _ (omega arith) fits (listed c.word_of.result ∙ c.word_of.ensures) e
