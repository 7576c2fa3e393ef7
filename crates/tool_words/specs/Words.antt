-- What the words after the program's name ask for, as `clap` reads them.
use Rattle.std.specs.Prelude.{◌<◌, ◌≤◌, ◌^◌, ℕ, List, [], ◌∷◌, codes, true, Option, Some, None, option_map, nat_le, ◌&&◌, if◌then◌else◌}
use Rattle.std.specs.Str.{bytes_eq}
use Rattle.std.specs.Str.Parse.{digits_value}
use Rattle.std.specs.Fmt.{decimal}
use Rattle.clap.specs.Words.{App, Rule, Row, Kinds, first_of, matches_of, fault_of, new_app, new_rule, with_rule}
use Rattle.clap.specs.Simple.{on_top}
use Rattle.tool_words.specs.declared.command.Raw.{Raw}
use Rattle.tool_words.specs.declared.words.Action.{Action}
use Rattle.tool_words.specs.declared.words.Action.TheVariants.{Make, Run, Replay, Check, Stack}
use Rattle.tool_words.specs.declared.words.Options.{Options}
use Rattle.tool_words.specs.declared.words.Task.{Task as RawTask}
use Rattle.tool_words.specs.declared.words.Asked.{Asked as RawAsked}
use Rattle.tool_words.specs.declared.words.Asked.TheVariants as raw
use Rattle.rv_assemble.specs.declared.demo.DemoKind.{DemoKind}
use Rattle.rv_assemble.specs.declared.demo.DemoKind.TheVariants.{Single, Triple}

-- ---- the command

-- a required text
abbrev pub text_rule : List ℕ → Rule
text_rule name = record (new_rule name) { required = true }

-- an option that takes one text
abbrev pub option_rule : List ℕ → Rule
option_rule name = record (new_rule name) { long = Some name }

abbrev pub bare : App
bare = on_top (λ s. record s { no_binary_name = true }) (new_app (codes "crash_cli"))

-- ACTION FIRST SECOND [--seed N] [--steps N] [--conflicts N]
unfoldable pub tool : App
tool = with_rule (with_rule (with_rule (with_rule (with_rule (with_rule bare (text_rule (codes "ACTION"))) (text_rule (codes "FIRST"))) (text_rule (codes "SECOND")))
    (option_rule (codes "seed"))) (option_rule (codes "steps"))) (option_rule (codes "conflicts"))

-- the texts that the words give
pub record Texts : Type 0 where
  pub action : List ℕ
  pub first : List ℕ
  pub second : List ℕ
  pub seed : Option (List ℕ)
  pub steps : Option (List ℕ)
  pub conflicts : Option (List ℕ)

abbrev pub texts_with : Option (List ℕ) → Option (List ℕ) → Option (List ℕ) → List Row → Option Texts
texts_with (Some action) (Some first) (Some second) rows = Some (record {
  action = action;
  first = first;
  second = second;
  seed = first_of (codes "seed") rows;
  steps = first_of (codes "steps") rows;
  conflicts = first_of (codes "conflicts") rows;
})
texts_with _ _ _ rows = None

abbrev pub texts_in : List Row → Option Texts
texts_in rows = texts_with (first_of (codes "ACTION") rows) (first_of (codes "FIRST") rows) (first_of (codes "SECOND") rows) rows

abbrev pub unless : Kinds → Option Texts → Option Texts
unless [] texts = texts
unless (kind ∷ kinds) texts = None

-- the texts of words that the command takes
unfoldable pub texts_of : List (List ℕ) → Option Texts
texts_of words = unless (fault_of tool words) (texts_in (matches_of tool words))

-- the same of the texts as they lie in memory
abbrev pub raw_texts : Raw → Texts
raw_texts raw = record {
  action = raw.action.now;
  first = raw.first.now;
  second = raw.second.now;
  seed = option_map (λ text. text.now) raw.seed;
  steps = option_map (λ text. text.now) raw.steps;
  conflicts = option_map (λ text. text.now) raw.conflicts;
}

-- ---- numbers

-- the number that a text is the decimal text of, where it is within the range
abbrev pub number_of : ℕ → ℕ → List ℕ → Option ℕ
number_of least most text =
    let number = digits_value 10 text in
    if bytes_eq text (decimal number) && (nat_le least number && nat_le number most) then Some number else None

-- the same, with a default where there is no text
abbrev pub number_or : ℕ → ℕ → ℕ → Option (List ℕ) → Option ℕ
number_or default least most None = Some default
number_or default least most (Some text) = number_of least most text

abbrev pub options_with : Option ℕ → Option ℕ → Option ℕ → Option Options
options_with (Some seed) (Some steps) (Some conflicts) = Some (record { seed = seed; steps = steps; conflicts = conflicts })
options_with _ _ _ = None

-- seed 0, 1,000,000 steps and 10,000 conflicts, where the words give no other number
abbrev pub options_of : Texts → Option Options
options_of texts = options_with (number_or 0 0 18446744073709551615 texts.seed) (number_or 1000000 1 10000000 texts.steps) (number_or 10000 1 1000000 texts.conflicts)

-- a seed of 64 bits, 1 to 10,000,000 steps, and 1 to 1,000,000 conflicts
pub record AreWithin (options : Options) : Type 0 where
  pub seed : options.seed < 2 ^ 64
  pub some_steps : 1 ≤ options.steps
  pub steps : options.steps ≤ 10000000
  pub some_conflicts : 1 ≤ options.conflicts
  pub conflicts : options.conflicts ≤ 1000000

-- ---- actions

abbrev pub action_of : List ℕ → Option Action
action_of text =
    if bytes_eq text (codes "make") then Some Make
    else if bytes_eq text (codes "run") then Some Run
    else if bytes_eq text (codes "replay") then Some Replay
    else if bytes_eq text (codes "check") then Some Check
    else if bytes_eq text (codes "stack") then Some Stack
    else None

-- what is to be done: an action, the names of the program's file and of a second one, and the options
pub record Task : Type 0 where
  pub action : Action
  pub program : List ℕ
  pub second : List ℕ
  pub options : Options

abbrev pub task_with : Texts → Option Action → Option Options → Option Task
task_with texts (Some action) (Some options) = Some (record { action = action; program = texts.first; second = texts.second; options = options })
task_with texts _ _ = None

-- ---- demonstrations

abbrev pub kind_of : List ℕ → Option DemoKind
kind_of text =
    if bytes_eq text (codes "single") then Some Single
    else if bytes_eq text (codes "triple") then Some Triple
    else None

-- what the words ask for: an action over files, or the summary of a demonstration, by its kind and its number of bytes
pub data Asked : Type 0 where
  OnFiles : Task → Asked
  OnDemo : DemoKind → ℕ → Options → Asked

abbrev pub demo_with : Option DemoKind → Option ℕ → Option Options → Option Asked
demo_with (Some kind) (Some size) (Some options) = Some (OnDemo kind size options)
demo_with _ _ _ = None

abbrev pub asked_in : Option Texts → Option Asked
asked_in None = None
asked_in (Some texts) =
    if bytes_eq texts.action (codes "demo") then demo_with (kind_of texts.first) (number_of 3 65536 texts.second) (options_of texts)
    else option_map OnFiles (task_with texts (action_of texts.action) (options_of texts))

-- what the words ask for
unfoldable pub asked_of : List (List ℕ) → Option Asked
asked_of words = asked_in (texts_of words)

abbrev pub task_in : Option Asked → Option Task
task_in (Some (OnFiles task)) = Some task
task_in _ = None

-- the action over files that the words ask for
abbrev pub task_of : List (List ℕ) → Option Task
task_of words = task_in (asked_of words)

-- the same of the words as they lie in memory
abbrev pub task_value : RawTask → Task
task_value task = record { action = task.action; program = task.program.now; second = task.second.now; options = task.options }

abbrev pub asked_value : RawAsked → Asked
asked_value (raw.Files task) = OnFiles (task_value task)
asked_value (raw.Demo kind size options) = OnDemo kind size options

-- the options of what is asked for
abbrev pub options_asked : RawAsked → Options
options_asked (raw.Files task) = task.options
options_asked (raw.Demo kind size options) = options

-- 3 to 65,536 bytes, where a demonstration is asked for
abbrev pub IsSized : RawAsked → Type 0
IsSized (raw.Files task) = Unit {0}
IsSized (raw.Demo kind size options) = (3 ≤ size) × (size ≤ 65536)

-- a report is to be made: the names of its two files, and the options
pub record MakeWords : Type 0 where
  pub program : List ℕ
  pub input : List ℕ
  pub options : Options

abbrev pub make_by : Action → Task → Option MakeWords
make_by Make task = Some (record { program = task.program; input = task.second; options = task.options })
make_by _ task = None

abbrev pub make_in : Option Task → Option MakeWords
make_in None = None
make_in (Some task) = make_by task.action task

-- what the words ask for, where they ask for a report
abbrev pub make_of : List (List ℕ) → Option MakeWords
make_of words = make_in (task_of words)
