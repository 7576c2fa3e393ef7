-- The first six lines: reports that begin with them, and where a text fails in them.
use Rattle.std.proofs.Common.{◌≡◌, ◌∙◌, ◌+◌, ◌^◌, ◌<◌, ◌≤◌, ℕ, zero, suc, Bool, List, [], ◌∷◌, ◌++◌, All, length, replicate, take, drop, get_or, arith, refl, sym, ap, subst}
use Rattle.std.specs.Prelude.{codes, ◌==◌, if◌then◌else◌}
use Rattle.std.specs.Fmt.{decimal}
use Rattle.std.proofs.lemmas.Bool.{lt-ltb, ltb-true}
use Rattle.std.proofs.lemmas.Fmt.{decimal_injective}
use Rattle.std.proofs.lemmas.List.{append_cancel_left, length-replicate}
use Rattle.std.proofs.lemmas.List.Elements.{All-nil, All-cons, All-head, All-tail}
use Rattle.input_laws.specs.Sets.{IsByteSet, IsChoice}
use Rattle.rv_event.specs.declared.event.Trap.{Trap}
use Rattle.rv_event.specs.declared.event.TrapKind.{TrapKind}
use Rattle.rv_event.specs.declared.event.TrapKind.TheVariants.{Illegal, FetchFault, MisalignedJump, LoadFault, StoreFault, Breakpoint, Abort}
use Rattle.hex.specs.Hex.{encode_lower}
use Rattle.text_lines.proofs.Cuts.{first_cut, dark-decimal, dark-word, spaceless}
use Rattle.text_lines.proofs.DigitLemmas.{bytes-from_all, encode-injective, word-injective}
use Rattle.text_lines.specs.Lines.{ComesNo}
use Rattle.report_format.proofs.FormLemmas.{dark-kind}
use Rattle.report_format.specs.Text.{Content, IsReport, kind_name, word_digits, program_line, trap_line, steps_line, seed_line, input_line, data_lines, set_lines, head, tail, lines, joined}
use Rattle.report_format.specs.Reading.{FailsAt}
use Rattle.report_format.specs.Stages.{IsAfter, IsProgramLine, IsTrapLine, IsNamedLine, IsHead, head_lines, content_with, FitsData, full}
use Rattle.report_format.specs.declared.head.Head.{Head}
use Rattle.report_format.proofs.LineLemmas.{Continues, fails-here, after-lines, recast}

-- ---- full sets

full-set : IsByteSet full
full-set v is = ltb-true v 256 is

pub full-sets : (n : ℕ) → All IsByteSet (replicate n full)
full-sets zero = All-nil IsByteSet
full-sets (suc n) = All-cons IsByteSet full (replicate n full) full-set (full-sets n)

pub full-choice : (input : List ℕ) → All (λ b. b < 256) input → IsChoice (replicate (length input) full) input
full-choice [] low = tt
full-choice (byte ∷ input) low =
    let here = All-head (λ b. b < 256) byte input low in
    ((here, lt-ltb byte 256 here), full-choice input (All-tail (λ b. b < 256) byte input low))

pub zeros-low : (n : ℕ) → All (λ b. b < 256) (replicate n 0)
zeros-low zero = All-nil (λ b. b < 256)
zeros-low (suc n) = All-cons (λ b. b < 256) 0 (replicate n 0) (omega arith) (zeros-low n)

-- ---- reports with a head

pub report-with : (of : Head) (input : List ℕ) (sets : List (ℕ → Bool)) → IsHead of → length input ≡ of.input → All IsByteSet sets → IsChoice sets input → IsReport (content_with of input sets)
report-with of input sets is long bytes choice = record {
  program_length = is.program_length;
  digest_length = is.digest_length;
  digest_bytes = is.digest_bytes;
  trap_pc = is.trap_pc;
  trap_value = is.trap_value;
  some_steps = is.some_steps;
  most_steps = is.most_steps;
  seed = is.seed;
  input_length = omega (arith, long, is.input_length);
  sets_of_bytes = bytes;
  input_in_sets = choice;
}

pub head-with : (of : Head) (input : List ℕ) (sets : List (ℕ → Bool)) → length input ≡ of.input → head (content_with of input sets) ≡ head_lines of
unfolding head
head-with of input sets long = rw long refl

-- ---- where a text fails in the head

no_trap : Trap
no_trap = record { kind = Illegal; pc = 0; value = 0 }

zero_digest : List ℕ
zero_digest = replicate 32 0

abbrev bare : ℕ → List ℕ → Trap → ℕ → ℕ → Head
bare bytes digest trap steps seed = record { length = bytes; digest = digest; trap = trap; steps = steps; seed = seed; input = 0 }

bare-report : (bytes : ℕ) (digest : List ℕ) (trap : Trap) (steps seed : ℕ) → bytes ≤ 16777216 → length digest ≡ 32 → All (λ b. b < 256) digest → trap.pc < 2 ^ 32 → trap.value < 2 ^ 32
    → 0 < steps → steps ≤ 10000000 → seed < 2 ^ 64 → IsReport (content_with (bare bytes digest trap steps seed) [] [])
bare-report bytes digest trap steps seed few long low pc value some most small =
    report-with (bare bytes digest trap steps seed) [] [] (record {
      program_length = few;
      digest_length = long;
      digest_bytes = low;
      trap_pc = pc;
      trap_value = value;
      some_steps = some;
      most_steps = most;
      seed = small;
      input_length = omega arith;
    }) refl (All-nil IsByteSet) tt

-- the next line of every report with these lines is of a form, and no such line comes
fails-next : (read left : List (List ℕ)) (draft : Content) (text rest : List ℕ) (form : List ℕ → Type 0) → IsReport draft → lines draft ≡ read ++ left → text ≡ joined read ++ rest
    → ((content : Content) (more : List (List ℕ)) → IsReport content → lines content ≡ read ++ more → (line : List ℕ) × (later : List (List ℕ)) × (more ≡ line ∷ later) × form line)
    → ComesNo form rest → FailsAt (length read + 1) text
fails-next read left draft text rest form report fit parts next none =
    fails-here (λ content more. lines content ≡ read ++ more) text rest (length read) (after-lines read left draft text rest report fit parts)
    (λ content more is goes continues.
    let n = next content more is goes in
    let follows = subst (λ m. Continues m rest) n.2 continues in
    none n.0 follows.0 n.3 follows.1)

pub fails-0 : (text rest : List ℕ) → text ≡ rest → ComesNo (λ l. l ≡ codes "crash-report 1") rest → FailsAt 1 text
unfolding lines head no_trap zero_digest
fails-0 text rest parts none =
    fails-next [] _ (content_with (bare 0 zero_digest no_trap 1 0) [] []) text rest (λ l. l ≡ codes "crash-report 1")
    (bare-report 0 zero_digest no_trap 1 0 (omega arith) refl (zeros-low 32) (omega arith) (omega arith) (omega arith) (omega arith) (omega arith)) refl parts
    (λ content more is goes. (codes "crash-report 1", _, sym goes, refl)) none

pub fails-1 : (text rest : List ℕ) → text ≡ joined (codes "crash-report 1" ∷ []) ++ rest → ComesNo IsProgramLine rest → FailsAt 2 text
unfolding lines head no_trap zero_digest
fails-1 text rest parts none =
    fails-next (codes "crash-report 1" ∷ []) _ (content_with (bare 0 zero_digest no_trap 1 0) [] []) text rest IsProgramLine
    (bare-report 0 zero_digest no_trap 1 0 (omega arith) refl (zeros-low 32) (omega arith) (omega arith) (omega arith) (omega arith) (omega arith)) refl parts
    (λ content more is goes. (
      program_line content.length content.digest,
      _,
      sym (ap (drop 1) goes),
      record { bytes = content.length; digest = content.digest; few = is.program_length; long = is.digest_length; low = is.digest_bytes; is = refl },
    )) none

pub fails-2 : (text rest : List ℕ) (bytes : ℕ) (digest : List ℕ) → bytes ≤ 16777216 → length digest ≡ 32 → All (λ b. b < 256) digest
    → text ≡ joined (codes "crash-report 1" ∷ program_line bytes digest ∷ []) ++ rest → ComesNo IsTrapLine rest → FailsAt 3 text
unfolding lines head no_trap
fails-2 text rest bytes digest few long low parts none =
    fails-next (codes "crash-report 1" ∷ program_line bytes digest ∷ []) _ (content_with (bare bytes digest no_trap 1 0) [] []) text rest IsTrapLine
    (bare-report bytes digest no_trap 1 0 few long low (omega arith) (omega arith) (omega arith) (omega arith) (omega arith)) refl parts
    (λ content more is goes. (trap_line content.trap, _, sym (ap (drop 2) goes), record { trap = content.trap; pc = is.trap_pc; value = is.trap_value; is = refl })) none

pub fails-3 : (text rest : List ℕ) (bytes : ℕ) (digest : List ℕ) (trap : Trap) → bytes ≤ 16777216 → length digest ≡ 32 → All (λ b. b < 256) digest → trap.pc < 2 ^ 32 → trap.value < 2 ^ 32
    → text ≡ joined (codes "crash-report 1" ∷ program_line bytes digest ∷ trap_line trap ∷ []) ++ rest → ComesNo (IsNamedLine (codes "steps ") 1 10000000) rest → FailsAt 4 text
unfolding lines head
fails-3 text rest bytes digest trap few long low pc value parts none =
    fails-next (codes "crash-report 1" ∷ program_line bytes digest ∷ trap_line trap ∷ []) _ (content_with (bare bytes digest trap 1 0) [] []) text rest (IsNamedLine (codes "steps ") 1 10000000)
    (bare-report bytes digest trap 1 0 few long low pc value (omega arith) (omega arith) (omega arith)) refl parts
    (λ content more is goes. (steps_line content.steps, _, sym (ap (drop 3) goes), record { number = content.steps; at_least = is.some_steps; at_most = is.most_steps; is = refl })) none

pub fails-4 : (text rest : List ℕ) (bytes : ℕ) (digest : List ℕ) (trap : Trap) (steps : ℕ) → bytes ≤ 16777216 → length digest ≡ 32 → All (λ b. b < 256) digest → trap.pc < 2 ^ 32 → trap.value < 2 ^ 32
    → 0 < steps → steps ≤ 10000000 → text ≡ joined (codes "crash-report 1" ∷ program_line bytes digest ∷ trap_line trap ∷ steps_line steps ∷ []) ++ rest
    → ComesNo (IsNamedLine (codes "seed ") 0 18446744073709551615) rest → FailsAt 5 text
unfolding lines head
fails-4 text rest bytes digest trap steps few long low pc value some most parts none =
    fails-next (codes "crash-report 1" ∷ program_line bytes digest ∷ trap_line trap ∷ steps_line steps ∷ []) _ (content_with (bare bytes digest trap steps 0) [] []) text rest
    (IsNamedLine (codes "seed ") 0 18446744073709551615)
    (bare-report bytes digest trap steps 0 few long low pc value some most (omega arith)) refl parts
    (λ content more is goes. (seed_line content.seed, _, sym (ap (drop 4) goes), record { number = content.seed; at_least = omega arith; at_most = omega (arith, is.seed); is = refl })) none

pub fails-5 : (text rest : List ℕ) (bytes : ℕ) (digest : List ℕ) (trap : Trap) (steps seed : ℕ) → bytes ≤ 16777216 → length digest ≡ 32 → All (λ b. b < 256) digest → trap.pc < 2 ^ 32 → trap.value < 2 ^ 32
    → 0 < steps → steps ≤ 10000000 → seed < 2 ^ 64 → text ≡ joined (codes "crash-report 1" ∷ program_line bytes digest ∷ trap_line trap ∷ steps_line steps ∷ seed_line seed ∷ []) ++ rest
    → ComesNo (IsNamedLine (codes "input ") 0 65536) rest → FailsAt 6 text
unfolding lines head
fails-5 text rest bytes digest trap steps seed few long low pc value some most small parts none =
    fails-next (codes "crash-report 1" ∷ program_line bytes digest ∷ trap_line trap ∷ steps_line steps ∷ seed_line seed ∷ []) _ (content_with (bare bytes digest trap steps seed) [] []) text rest
    (IsNamedLine (codes "input ") 0 65536)
    (bare-report bytes digest trap steps seed few long low pc value some most small) refl parts
    (λ content more is goes. (input_line content.input, _, sym (ap (drop 5) goes), record { number = length content.input; at_least = omega arith; at_most = is.input_length; is = refl })) none

-- ---- after the head

six_lines : (content : Content) (more : List (List ℕ)) (of : Head) → lines content ≡ head_lines of ++ more → head content ≡ head_lines of
unfolding lines head
six_lines content more of e = ap (take 6) e

others-after : (content : Content) (more : List (List ℕ)) (of : Head) → lines content ≡ head_lines of ++ more → more ≡ data_lines content.input ++ (set_lines 0 content.sets ++ tail content)
unfolding lines head
others-after content more of e = sym (ap (drop 6) e)

pub long-of : (content : Content) (of : Head) → IsReport content → IsHead of → head content ≡ head_lines of → length content.input ≡ of.input
unfolding head
long-of content of is in_range e =
    let line : codes "input " ++ decimal (length content.input) ≡ codes "input " ++ decimal of.input = ap (λ ls. get_or ls 5 []) e in
    let few = is.input_length in
    let few-of = in_range.input_length in
    decimal_injective (length content.input) of.input (omega arith) (omega arith) (append_cancel_left (codes "input ") _ _ line)

lines-with : (content : Content) (of : Head) (others : List (List ℕ)) → head content ≡ head_lines of → others ≡ data_lines content.input ++ (set_lines 0 content.sets ++ tail content)
    → lines content ≡ head_lines of ++ others
unfolding lines
lines-with content of others first e = ap (λ h. h ++ (data_lines content.input ++ (set_lines 0 content.sets ++ tail content))) first ∙ ap (λ m. head_lines of ++ m) (sym e)

pub after-head : (of : Head) (text rest : List ℕ) → IsHead of → text ≡ joined (head_lines of) ++ rest → IsAfter (FitsData of []) text rest 6
after-head of text rest is parts =
    let input : List ℕ = replicate of.input 0 in
    let sets : List (ℕ → Bool) = replicate of.input full in
    let long : length input ≡ of.input = length-replicate of.input 0 in
    let choice : IsChoice sets input = rw long at (full-choice input (zeros-low of.input)) in
    let draft = content_with of input sets in
    let report = report-with of input sets is long (full-sets of.input) choice in
    recast (λ content more. lines content ≡ head_lines of ++ more) text rest 6
    (after-lines (head_lines of) (data_lines input ++ (set_lines 0 sets ++ tail draft)) draft text rest report (lines-with draft of _ (head-with of input sets long) refl) parts)
    (FitsData of [])
    (λ content more reported. (
      λ e.
          let first = six_lines content more of e in
          record { first_lines = first; long = long-of content of reported is first; others = content.input; input = refl; left = others-after content more of e },
      λ f. lines-with content of more f.first_lines (f.left ∙ ap (λ o. data_lines o ++ (set_lines 0 content.sets ++ tail content)) (sym f.input)),
    ))

-- ---- what the head of a report tells

letter_kind : ℕ → TrapKind
letter_kind letter =
    if letter == 105 then Illegal else if letter == 102 then FetchFault else if letter == 109 then MisalignedJump
    else if letter == 108 then LoadFault else if letter == 115 then StoreFault else if letter == 98 then Breakpoint else Abort

letter_tells : (kind : TrapKind) → letter_kind (get_or (kind_name kind) 0 0) ≡ kind
unfolding letter_kind
letter_tells Illegal = refl
letter_tells FetchFault = refl
letter_tells MisalignedJump = refl
letter_tells LoadFault = refl
letter_tells StoreFault = refl
letter_tells Breakpoint = refl
letter_tells Abort = refl

kind-injective : (a b : TrapKind) → kind_name a ≡ kind_name b → a ≡ b
kind-injective a b same = sym (letter_tells a) ∙ (ap (λ (l : List ℕ). letter_kind (get_or l 0 0)) same ∙ letter_tells b)

trap-injective : (a b : Trap) → a.pc < 2 ^ 32 → a.value < 2 ^ 32 → b.pc < 2 ^ 32 → b.value < 2 ^ 32 → trap_line a ≡ trap_line b → a ≡ b
trap-injective a b pc-a value-a pc-b value-b same =
    let kinds = first_cut 32 (kind_name a.kind) (kind_name b.kind) (word_digits a.pc ++ (32 ∷ word_digits a.value)) (word_digits b.pc ++ (32 ∷ word_digits b.value))
    (spaceless _ (dark-kind a.kind)) (spaceless _ (dark-kind b.kind)) (append_cancel_left (codes "trap ") _ _ same) in
    let words = first_cut 32 (word_digits a.pc) (word_digits b.pc) (word_digits a.value) (word_digits b.value)
    (spaceless _ (dark-word a.pc)) (spaceless _ (dark-word b.pc)) kinds.1 in
    let kind = kind-injective a.kind b.kind kinds.0 in
    let pc = word-injective a.pc b.pc pc-a pc-b words.0 in
    let value = word-injective a.value b.value value-a value-b words.1 in
    λ i. record { kind = kind i; pc = pc i; value = value i }

-- reports with one head have the same program, trap, steps and seed
pub head-tells : (content : Content) (of : Head) → IsReport content → IsHead of → head content ≡ head_lines of
    → (content.length ≡ of.length) × (content.digest ≡ of.digest) × (content.trap ≡ of.trap) × (content.steps ≡ of.steps) × (content.seed ≡ of.seed)
unfolding head
head-tells content of is in_range same =
    let program : program_line content.length content.digest ≡ program_line of.length of.digest = ap (λ ls. get_or ls 1 []) same in
    let trap : trap_line content.trap ≡ trap_line of.trap = ap (λ ls. get_or ls 2 []) same in
    let steps : steps_line content.steps ≡ steps_line of.steps = ap (λ ls. get_or ls 3 []) same in
    let seed : seed_line content.seed ≡ seed_line of.seed = ap (λ ls. get_or ls 4 []) same in
    let small : content.length < 2 ^ 64 = omega (arith, is.program_length) in
    let small-of : of.length < 2 ^ 64 = omega (arith, in_range.program_length) in
    let fields = first_cut 32 (decimal content.length) (decimal of.length) (encode_lower content.digest) (encode_lower of.digest)
    (spaceless _ (dark-decimal content.length small)) (spaceless _ (dark-decimal of.length small-of)) (append_cancel_left (codes "program ") _ _ program) in (
      decimal_injective content.length of.length small small-of fields.0,
      encode-injective content.digest of.digest (bytes-from_all content.digest is.digest_bytes) (bytes-from_all of.digest in_range.digest_bytes) fields.1,
      trap-injective content.trap of.trap is.trap_pc is.trap_value in_range.trap_pc in_range.trap_value trap,
      decimal_injective content.steps of.steps (omega (arith, is.most_steps)) (omega (arith, in_range.most_steps)) (append_cancel_left (codes "steps ") _ _ steps),
      decimal_injective content.seed of.seed is.seed in_range.seed (append_cancel_left (codes "seed ") _ _ seed),
    )
