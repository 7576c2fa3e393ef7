-- The report's sets, and the class of the trace.
use Rattle.std.proofs.Common.{◌≡◌, ◌∙◌, ◌≤◌, ◌<◌, ◌*◌, ◌^◌, ℕ, None, true, false, List, length, sym, subst, All}
use Rattle.elf32.specs.Loads.{Program}
use Rattle.rv_event.specs.declared.transcript.Transcript.{Transcript}
use Rattle.rv_machine.specs.Trace.{transcript_of}
use Rattle.rv_machine.specs.Class.{in_class}
use Rattle.term_model.specs.Places.{ReadsBelow}
use Rattle.term_model.specs.Truth.{is_truth}
use Rattle.term_model.specs.Words.{HasWords}
use Rattle.term_model.specs.Conditions.{Hold}
use Rattle.replay_law.specs.Crash.{IsProgram, IsCrash, AreProper}
use Rattle.trace_conditions.specs.Conditions.{conditions_of}
use Rattle.input_laws.specs.Inputs.{IsInput, class_size}
use Rattle.input_laws.specs.Order.{IsFirst}
use Rattle.input_laws.specs.Sets.{IsChoice, size, revealed}
use Rattle.input_laws.proofs.ByteByByte.{choice_is_input}
use Rattle.group_laws.specs.Groups.{has_wide_group}
use Rattle.group_laws.specs.Parts.{IsByConditions}
use Rattle.set_laws.specs.ByClass.{sets_by_groups}
use Rattle.set_laws.specs.Spent.{wide_groups}
use Rattle.set_laws.proofs.Choices.{length_sets, own_choice, sets_are_filled, choice_holds, class_is_bounded}
use Rattle.set_laws.proofs.Budgets.{never_spent}
use Rattle.set_laws.proofs.ByClass.{narrow_sets}
use Rattle.report_laws.specs.Mask.{mask}
use Rattle.report_laws.specs.Made.{first_input, sets_of, spent_of}
use Rattle.report_laws.proofs.ClassLemmas.{first_of_length, member_has_trace}
use Rattle.report_laws.proofs.ConditionLemmas.{ClassLaw, ProperLaw, class_by_conditions, traced_holds, all_truth, all_words, all_below}

module _ (class : ClassLaw) (proper : ProperLaw) (program : Program) (seed limit : ℕ) (x : List ℕ) (t : Transcript) (is : IsProgram program) (crash : IsCrash program limit x t) where
  -- the report's input comes first
  comes_first : IsFirst t.n (mask seed t.n) (in_class program limit t) (first_input program seed limit t)
  comes_first =
      let a : IsInput t.n x = crash.input in
      let P : ℕ → Type 0 = λ n. IsFirst n (mask seed n) (in_class program limit t) (first_input program seed limit t) in
      subst P a.long (first_of_length program seed limit x t a.in_range (sym crash.trace) (sym a.long))

  exact : IsByConditions t.n (in_class program limit t) (conditions_of program t)
  exact = class_by_conditions class program limit x t is crash

  -- so it meets the conditions
  first_holds : Hold (conditions_of program t) (first_input program seed limit t)
  first_holds = (exact (first_input program seed limit t) comes_first.is_input).0 comes_first.is_member

  are_proper : AreProper t.n (conditions_of program t)
  are_proper = proper program limit x t is crash

  truth : All (λ t. is_truth t ≡ true) (conditions_of program t)
  truth = all_truth t.n (conditions_of program t) are_proper

  words : All HasWords (conditions_of program t)
  words = all_words t.n (conditions_of program t) are_proper

  below : All (ReadsBelow t.n) (conditions_of program t)
  below = all_below t.n (conditions_of program t) are_proper

  -- every choice from the report's sets has the trace
  pub choice_has_trace : (y : List ℕ) → IsChoice (sets_of program seed limit t) y → transcript_of program y limit ≡ t
  choice_has_trace y choice =
      let as_long : length (sets_of program seed limit t) ≡ t.n = length_sets (conditions_of program t) (first_input program seed limit t) ∙ comes_first.is_input.long in
      let is_input : IsInput t.n y = subst (λ k. IsInput k y) as_long (choice_is_input (sets_of program seed limit t) y choice) in
      member_has_trace program limit t y
      ((exact y is_input).1 (choice_holds (conditions_of program t) t.n (first_input program seed limit t) y truth words below comes_first.is_input first_holds choice))

  pub own_is_choice : IsChoice (sets_of program seed limit t) (first_input program seed limit t)
  own_is_choice = own_choice (conditions_of program t) t.n (first_input program seed limit t) comes_first.is_input first_holds

  pub none_is_empty : All (λ set. 0 < size set) (sets_of program seed limit t)
  none_is_empty = sets_are_filled (conditions_of program t) t.n (first_input program seed limit t) comes_first.is_input first_holds

  -- and they bound the size of the class
  pub bounds_the_class : 256 ^ t.n ≤ class_size (in_class program limit t) t.n * 2 ^ revealed (sets_of program seed limit t)
  bounds_the_class =
      class_is_bounded (conditions_of program t) t.n (first_input program seed limit t) (in_class program limit t) truth words below exact comes_first.is_input comes_first.is_member

  -- where no group is wide they are those of the class
  pub are_by_the_class : has_wide_group (conditions_of program t) t.n ≡ false → sets_of program seed limit t ≡ sets_by_groups (in_class program limit t) (conditions_of program t) (first_input program seed limit t)
  are_by_the_class narrow =
      narrow_sets (conditions_of program t) t.n (first_input program seed limit t) (in_class program limit t) below narrow exact comes_first.is_input comes_first.is_member

  pub large_is_never_spent : (budget : ℕ) → All (λ places. 2 ^ (8 * length places) ≤ budget) (wide_groups (conditions_of program t) t.n) → spent_of program seed t budget ≡ None
  large_is_never_spent budget large = never_spent (conditions_of program t) t.n (mask seed t.n) x truth words below crash.input (traced_holds class program limit x t is crash) budget large
