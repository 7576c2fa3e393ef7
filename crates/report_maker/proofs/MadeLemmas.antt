-- The report that is made of the groups is the one that is stated.
use Rattle.std.proofs.Common.{◌≡◌, ◌∙◌, ◌+◌, ◌<◌, ◌%◌, ℕ, Bool, true, false, List, [], ◌∷◌, length, Some, Result, Ok, Err, refl, sym, ap, subst, arith}
use Rattle.std.specs.Prelude.{None, filter, find, All, IfOk, option_map, sum_by, if◌then◌else◌}
use Rattle.std.proofs.lemmas.List.Sums.{sum_by-cons}
use Rattle.elf32.specs.declared.image.Image.{Image}
use Rattle.elf32.specs.Loads.{Program, loaded_program, program_of}
use Rattle.elf32.proofs.Accepted.{same_program}
use Rattle.rv_event.specs.declared.event.Trap.{Trap}
use Rattle.rv_event.specs.declared.transcript.Transcript.{Transcript}
use Rattle.term_model.specs.Tree.{Tree}
use Rattle.term_arena.specs.Trees.{trees_of}
use Rattle.replay_law.specs.Crash.{IsProgram, AreProper}
use Rattle.trace_conditions.specs.Conditions.{conditions_of}
use Rattle.input_laws.specs.Sets.{IsChoice}
use Rattle.group_model.specs.declared.Group.{Group}
use Rattle.group_model.specs.Conditions.{IsCondition}
use Rattle.set_laws.specs.Spent.{is_wide, place_and_width}
use Rattle.set_laws.specs.Found.{group_conflicts, is_spent}
use Rattle.report_format.specs.Text.{Content}
use Rattle.report_laws.specs.Divided.{AreDivided}
use Rattle.report_laws.specs.Mask.{mask}
use Rattle.report_laws.specs.Filled.{IsFilled}
use Rattle.report_laws.specs.Made.{first_input, sets_of, number_of_conflicts, spent_of, report_with, report_of}
use Rattle.report_laws.proofs.GroupLemmas.{are_conditions}
use Rattle.report_laws.proofs.FileLemmas.{file_is_program}
use Rattle.report_maker.specs.declared.error.MakeError.{MakeError}
use Rattle.report_maker.specs.declared.error.MakeError.TheVariants.{Spent}
use Rattle.report_maker.specs.Counted.{conflicts_at, NamesFirst}

-- a result's value has what follows
pub value_has : {T E : Type 0} (r : Result T E) (P Q : T → Type 0) → ((x : T) → P x → Q x) → IfOk r P → IfOk r Q
value_has (Ok x) P Q more h = more x h
value_has (Err e) P Q more h = h

-- the program of a file with an image
pub image_gives_program : (image : Image) (p : List ℕ) → All (λ byte. byte < 256) p → image.entry ≡ (loaded_program p).entry → IsProgram (loaded_program p)
image_gives_program image p h entry = file_is_program p h (subst (λ e. e % 4 ≡ 0) entry image.aligned)

-- the groups by another name, and by the file's program
pub divided_along : (image : Image) (p : List ℕ) (t : Transcript) (trees : List Tree) (groups given : List Group) → image.entry ≡ (loaded_program p).entry → image.segments ≡ (loaded_program p).segments → given ≡ groups
    → AreDivided trees (conditions_of (program_of image) t) t.n groups → AreDivided trees (conditions_of (loaded_program p) t) t.n given
divided_along image p t trees groups given entry segments is divided =
    subst (AreDivided trees (conditions_of (loaded_program p) t) t.n) (sym is) (subst (λ q. AreDivided trees (conditions_of q t) t.n groups) (same_program image p entry segments) divided)

-- the conflicts of all groups are those of the wide ones
pub wide_sum : (trees : List Tree) (order : List ℕ) (groups : List Group)
    → sum_by (conflicts_at trees order) groups ≡ sum_by (group_conflicts trees order) (filter (λ g. is_wide g.places) groups)
wide_sum trees order [] = refl
wide_sum trees order (g ∷ groups) = sum_by-cons (conflicts_at trees order) g groups ∙ by_width (is_wide g.places) (wide_sum trees order groups)
  where
    wide : List Group
    wide = filter (λ g. is_wide g.places) groups

    by_width : (b : Bool) → sum_by (conflicts_at trees order) groups ≡ sum_by (group_conflicts trees order) wide
        → (if b then group_conflicts trees order g else 0) + sum_by (conflicts_at trees order) groups ≡ sum_by (group_conflicts trees order) (if b then g ∷ wide else wide)
    by_width true rest = ap (λ n. group_conflicts trees order g + n) rest ∙ sym (sum_by-cons (group_conflicts trees order) g wide)
    by_width false rest = omega (arith, rest)

-- the report with the first input and its sets is the one that is stated
pub report_is : (p : List ℕ) (seed limit : ℕ) (t : Transcript) (trap : Trap) (content : Content) (input : List ℕ) (sets : List (ℕ → Bool))
    → content ≡ report_with p seed t trap input sets → input ≡ first_input (loaded_program p) seed limit t → sets ≡ sets_of (loaded_program p) seed limit t → content ≡ report_of p seed limit t trap
unfolding report_of
report_is p seed limit t trap content input sets says is_input are_sets = says ∙ (λ i. report_with p seed t trap (is_input i) (are_sets i))

-- the first input is a choice from its sets
pub choice_along : (program : Program) (seed limit : ℕ) (t : Transcript) (input : List ℕ) (sets : List (ℕ → Bool))
    → input ≡ first_input program seed limit t → sets ≡ sets_of program seed limit t → IsChoice (sets_of program seed limit t) (first_input program seed limit t) → IsChoice sets input
choice_along program seed limit t input sets is_input are_sets choice = rw (is_input, are_sets) choice

-- the terms that are listed are conditions of the arena
pub listed_are_conditions : (program : Program) (t : Transcript) (trees : List Tree) (listed terms : List ℕ) → listed ≡ terms → AreProper t.n (trees_of trees terms) → All (λ u. u < length trees) terms
    → All (IsCondition trees) listed
listed_are_conditions program t trees listed terms same proper belong = rw same (are_conditions trees t.n terms belong proper)

-- ---- by the mask of the seed

module _ (program : Program) (seed : ℕ) (t : Transcript) (trees : List Tree) (groups : List Group) (order : List ℕ) (ordered : order ≡ mask seed t.n) where
  -- no group is spent
  pub none_is_spent : (budget : ℕ) → spent_of program seed t budget ≡ option_map (λ (g : Group). place_and_width g.places) (find (is_spent trees (mask seed t.n) budget) groups)
      → find (is_spent trees order budget) groups ≡ None → spent_of program seed t budget ≡ None
  none_is_spent budget law none =
      law ∙ ap (option_map (λ (g : Group). place_and_width g.places)) (subst (λ m. find (is_spent trees m budget) groups ≡ None) ordered none)

  -- the group that is named is the first that is spent
  pub first_is_named : (budget : ℕ) (error : MakeError) → spent_of program seed t budget ≡ option_map (λ (g : Group). place_and_width g.places) (find (is_spent trees (mask seed t.n) budget) groups)
      → NamesFirst trees order budget groups error → (first width : ℕ) → error ≡ Spent first width → spent_of program seed t budget ≡ Some (first, width)
  first_is_named budget error law named first width is =
      law ∙ subst (λ m. option_map (λ (g : Group). place_and_width g.places) (find (is_spent trees m budget) groups) ≡ Some (first, width)) ordered (named first width is)

  -- the conflicts that were counted are those of the trace
  pub counted_is : (counted : ℕ) → number_of_conflicts program seed t ≡ sum_by (group_conflicts trees (mask seed t.n)) (filter (λ g. is_wide g.places) groups)
      → counted ≡ sum_by (conflicts_at trees order) groups → counted ≡ number_of_conflicts program seed t
  counted_is counted law is =
      is ∙ (wide_sum trees order groups ∙ (ap (λ m. sum_by (group_conflicts trees m) (filter (λ g. is_wide g.places) groups)) ordered ∙ sym law))

  -- what was filled in by the mask
  pub filled_by_mask : (input : List ℕ) (sets : List (ℕ → Bool)) → IsFilled trees order groups (length groups) input sets → IsFilled trees (mask seed t.n) groups (length groups) input sets
  filled_by_mask input sets filled = subst (λ m. IsFilled trees m groups (length groups) input sets) ordered filled

-- a result that is an error with the named cause
pub named_by_error : {T : Type 0} (r : Result T MakeError) (e : MakeError) (first width : ℕ) → r ≡ Err e → r ≡ Err (Spent first width) → e ≡ Spent first width
named_by_error r e first width one two = cc
