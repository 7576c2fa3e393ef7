use Rattle.std.proofs.Common.{map}
use Rattle.std.specs.String.{string_bytes}
use Rattle.tool_words.specs.Words.{asked_of, task_of}
use Rattle.crash_tool.proofs.CallLemmas.{status-told, text-told, part-told, line-told, whole-told, headline-told, received-told, said_given}
use Rattle.crash_tool.proofs.RequestLemmas.{said-asked}
use Rattle.crash_tool.proofs.tool.run_tool.Goals as goal

pub returns-clause-told : goal.returns-clause-told
returns-clause-told g c = status-told (asked_of (map string_bytes c.args.words.now)) _ _ _ _ _ c.decide-answer.result _ c.decide-answer.ensures.told c.say.ensures.said

pub returns-clause-text : goal.returns-clause-text
returns-clause-text g c = text-told (asked_of (map string_bytes c.args.words.now)) _ _ _ _ _ c.decide-answer.result _ c.decide-answer.ensures.told c.say.ensures.said

pub returns-clause-part : goal.returns-clause-part
returns-clause-part g c = part-told (asked_of (map string_bytes c.args.words.now)) _ _ _ _ _ c.decide-answer.result _ c.decide-answer.ensures.told c.say.ensures.said

pub returns-clause-line_told : goal.returns-clause-line_told
returns-clause-line_told g c = line-told (asked_of (map string_bytes c.args.words.now)) _ _ _ _ _ c.decide-answer.result _ c.decide-answer.ensures.told c.say.ensures.said

pub returns-clause-complete : goal.returns-clause-complete
returns-clause-complete g c = whole-told (asked_of (map string_bytes c.args.words.now)) _ _ _ _ _ c.decide-answer.result _ c.decide-answer.ensures.told c.say.ensures.said

pub returns-clause-headline : goal.returns-clause-headline
returns-clause-headline g c = headline-told (asked_of (map string_bytes c.args.words.now)) _ _ _ c.decide-answer.result _ _ _ c.decide-answer.ensures.told c.say.ensures.said

pub returns-clause-received : goal.returns-clause-received
returns-clause-received g c = received-told (task_of (map string_bytes c.args.words.now)) _ c.decide-answer.result _ _ _ c.decide-answer.ensures.received c.say.ensures.said

pub returns-clause-line : goal.returns-clause-line
returns-clause-line g c = said_given c.decide-answer.result _ _ c.say.result c.say.ensures.said c.decide-answer.ensures.given

pub returns-clause-asked : goal.returns-clause-asked
returns-clause-asked g c = said-asked (asked_of (map string_bytes c.args.words.now)) _ _ _ _ c.decide-answer.result _ _ _ c.decide-answer.ensures.asked c.say.ensures.said
