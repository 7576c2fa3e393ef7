-- The report that is made of a run is accepted.
use Rattle.std.proofs.Common.{◌≡◌, ◌∙◌, ◌≤◌, ◌<◌, ℕ, Bool, true, false, cond, List, [], ◌∷◌, length, Option, Some, None, option_map, Ok, Err, refl, ap, arith, nat_le, All}
use Rattle.std.specs.Prelude.{find, ◌&&◌, if◌then◌else◌}
use Rattle.std.specs.Str.{bytes_eq}
use Rattle.sha2.specs.Sha256.{sha256}
use Rattle.std.proofs.lemmas.Bool.{eq-eqb}
use Rattle.std.proofs.lemmas.Bool.Decides.{nat_tests}
use Rattle.std.proofs.lemmas.Slice.Eq.{bytes_eq-Decides}
use Rattle.elf32.specs.Loads.{loaded_program}
use Rattle.rv_event.specs.declared.transcript.Transcript.{Transcript}
use Rattle.rv_machine.specs.Trace.{transcript_of, has_ended}
use Rattle.term_model.specs.Tree.{Tree}
use Rattle.trace_conditions.specs.Conditions.{conditions_of}
use Rattle.set_laws.specs.Spent.{wide_groups, conflicts_in, first_spent, place_and_width}
use Rattle.report_format.specs.Text.{Content, lines}
use Rattle.report_laws.specs.Mask.{mask}
use Rattle.report_laws.specs.Made.{first_input, number_of_groups, number_of_conflicts, report_of}
use Rattle.report_laws.proofs.RangeLemmas.{events_within}
use Rattle.report_laws.proofs.ClassLemmas.{input_has_trace}
use Rattle.report_maker.specs.Made.{Made, made}
use Rattle.report_maker.proofs.RunLemmas.{IsOfCrash, of-crash, made-of-crash}
use Rattle.receiver_replay.specs.declared.error.ReceiveError.TheVariants.{WrongProgram}
use Rattle.receiver_replay.specs.Received.{is_its_program, its_run, by_difference, by_made, checked}
use Rattle.receiver_replay.proofs.DifferenceLemmas.{no_difference}
use Rattle.receiver_replay.proofs.LimitLemmas.{more_limit, same_report}

-- ---- budgets

none_of : {A B : Type 0} (f : A → B) (o : Option A) → option_map f o ≡ None → o ≡ None
none_of f None none = refl
none_of f (Some a) none = cc

-- what isn't found isn't found by a stricter test
find_none : {A : Type 0} (p q : A → Bool) (xs : List A) → ((x : A) → q x ≡ true → p x ≡ true) → find p xs ≡ None → find q xs ≡ None
find_none p q [] stricter none = refl
find_none p q (x ∷ xs) stricter none = by (p x) (q x) refl refl none (find_none p q xs stricter)
  where
    by : (s t : Bool) → p x ≡ s → q x ≡ t → cond s (Some x) (find p xs) ≡ None → (find p xs ≡ None → find q xs ≡ None) → cond t (Some x) (find q xs) ≡ None
    by true t es et none more = cc
    by false true es et none more = let is = stricter x et in cc
    by false false es et none more = more none

more_conflicts : (conditions : List Tree) (order : List ℕ) (n budget more : ℕ) → budget ≤ more → first_spent conditions order n budget ≡ None → first_spent conditions order n more ≡ None
unfolding first_spent
more_conflicts conditions order n budget more le none =
    ap (option_map place_and_width) (find_none (λ places. nat_le budget (conflicts_in conditions order places)) (λ places. nat_le more (conflicts_in conditions order places)) (wide_groups conditions n)
    (λ places enough. grind (arith, nat_tests)) (none_of place_and_width _ none))

-- ---- the report

its_program : (p : List ℕ) (r : Content) → length p ≡ r.length → sha256 p ≡ r.digest → is_its_program p r ≡ true
its_program p r long digest =
    ap (λ t. t && bytes_eq (sha256 p) r.digest) (eq-eqb (length p) r.length long) ∙ (bytes_eq-Decides (sha256 p) r.digest).1 digest

module _ (p x : List ℕ) (seed limit budget steps conflicts : ℕ) (what : Made) (low : All (λ byte. byte < 256) x) (is : made p seed limit budget (transcript_of (loaded_program p) x limit) ≡ Ok what)
    (more : limit ≤ steps) (less : budget ≤ conflicts) where
  abbrev t : Transcript
  t = transcript_of (loaded_program p) x limit

  parts : IsOfCrash p seed limit budget t what
  parts = of-crash p seed limit budget t what is

  ended : has_ended t.end ≡ true
  ended = ap has_ended parts.end

  -- what the report says
  abbrev stated : Content
  stated = report_of p seed limit t parts.trap

  again : transcript_of (loaded_program p) (first_input (loaded_program p) seed limit t) steps ≡ t
  again =
      let own = input_has_trace (loaded_program p) seed limit x low in
      more_limit (loaded_program p) (first_input (loaded_program p) seed limit t) limit steps more (ap (λ u. has_ended u.end) own ∙ ended) ∙ own

  -- the same report is made under the greater limits
  made_again : made p seed steps conflicts t ≡ Ok (record { report = stated; groups = number_of_groups (loaded_program p) t; conflicts = number_of_conflicts (loaded_program p) seed t })
  made_again =
      made-of-crash p seed steps conflicts t parts.unbroken parts.trap parts.end (more_conflicts (conditions_of (loaded_program p) t) (mask seed t.n) t.n budget conflicts less parts.unspent)
      ∙ ap (λ (c : Content). Ok (record { report = c; groups = number_of_groups (loaded_program p) t; conflicts = number_of_conflicts (loaded_program p) seed t }))
      (same_report p seed t parts.trap limit steps more ended (events_within (loaded_program p) x limit))

  stated_is_accepted : checked p stated steps conflicts ≡ Ok tt
  unfolding checked report_of
  stated_is_accepted =
      ap (λ b. if b then by_made stated (made p seed steps conflicts (its_run p stated steps)) else Err WrongProgram) (its_program p stated refl refl)
      ∙ (ap (λ u. by_made stated (made p seed steps conflicts u)) again
      ∙ (ap (by_made stated) made_again
      ∙ ap by_difference (no_difference 1 (lines stated))))

  pub made_is_accepted : checked p what.report steps conflicts ≡ Ok tt
  made_is_accepted = ap (λ c. checked p c steps conflicts) parts.report ∙ stated_is_accepted
