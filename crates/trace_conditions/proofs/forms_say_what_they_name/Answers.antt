use Rattle.replay_law.proofs.Held.{equal_holds, equal_gives, pin_holds, pin_gives, target_holds, target_gives}
use Rattle.trace_conditions.proofs.Maker.{norm_maker}
use Rattle.trace_conditions.proofs.forms_say_what_they_name.Goals as goal

pub returns : goal.returns
returns c =
    let m = norm_maker c.normal_form_is_normal.ensures c.normal_form_keeps_the_value.ensures c.values_are_words.ensures.words in
    record {
      equal = λ a b y ia ib bs. (equal_gives m y bs a b ia ib, equal_holds m y bs a b ia ib);
      pin = λ t v y it lt bs. (pin_gives m y bs t v it lt, pin_holds m y bs t v it);
      target = λ s v y is lt even bs. (target_gives m y bs s v is lt even, target_holds m y bs s v is);
    }
