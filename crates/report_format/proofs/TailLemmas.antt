-- The lines after the sets, and the end of the text.
use Rattle.std.proofs.Common.{◌≡◌, ◌≢◌, ◌∙◌, ◌+◌, ◌≤◌, ℕ, Bool, List, [], ◌∷◌, ◌++◌, All, length, replicate, get_or, arith, refl, sym, ap, subst, append-nil, length-append, ⊎_elim}
use Rattle.std.specs.Prelude.{codes}
use Rattle.std.proofs.lemmas.List.{length-replicate}
use Rattle.input_laws.specs.Sets.{IsByteSet, IsChoice}
use Rattle.text_lines.proofs.LineLemmas.{literal}
use Rattle.text_lines.specs.Lines.{ComesNo, Unbroken}
use Rattle.report_format.specs.Text.{Content, IsReport, set_line, set_lines, revealed_line, tail, joined, text as text_of}
use Rattle.report_format.specs.Reading.{FailsAt, IsTextOf}
use Rattle.report_format.specs.Stages.{IsAfter, content_with, IsHead, FitsSets, FitsTail, full}
use Rattle.report_format.specs.declared.head.Head.{Head}
use Rattle.report_format.proofs.LineLemmas.{unbroken-revealed, revealed-small, Continues, fails-here, all-lines, step, choice-long}
use Rattle.report_format.proofs.HeadLemmas.{full-sets, report-with, head-with, head-tells}
use Rattle.report_format.proofs.SetLemmas.{lines-skip, AllFull, FirstTold}
use Rattle.report_format.proofs.TextLemmas.{set_lines-end}
use Rattle.report_format.proofs.SetReading.{next, ends, goes-on, tail-first, told-choice}
use Rattle.std.proofs.lemmas.List.Elements.{All-append}

module _ (of : Head) (input : List ℕ) (sets told : List (ℕ → Bool)) (others : ℕ) (are : sets ≡ told ++ replicate others full) (chosen : IsChoice sets input) where
  sets-long : length told + others ≡ length input
  sets-long = omega (arith, choice-long sets input chosen, ap length are, length-append told (replicate others full), length-replicate others full)

  -- where no other set is told, the sets are these
  same-sets : (content : Content) (more : List (List ℕ)) → IsReport content → (fits : FitsSets of input told content more) → AllFull (length told) fits.others → content.sets ≡ sets
  same-sets content more report fits none =
      let long : length fits.others ≡ others =
      omega (arith, sets-long, choice-long content.sets content.input report.input_in_sets, ap length fits.sets_are, ap length fits.input_is, length-append told fits.others) in
      fits.sets_are ∙ (ap (λ o. told ++ o) (none.are ∙ ap (λ k. replicate k full) long) ∙ sym are)

  ended : (content : Content) (more : List (List ℕ)) → IsReport content → (fits : FitsSets of input told content more) → AllFull (length told) fits.others → more ≡ revealed_line sets input ∷ codes "end" ∷ []
  ended content more report fits none =
      ends of input told content more report fits none
      ∙ (ap (λ ss. revealed_line ss content.input ∷ codes "end" ∷ []) (same-sets content more report fits none) ∙ ap (λ y. revealed_line sets y ∷ codes "end" ∷ []) fits.input_is)

  pub tail-fails : (text rest : List ℕ) (count : ℕ) → IsAfter (FitsSets of input told) text rest count → ((more : List ℕ) → rest ≢ codes "set " ++ more) → ComesNo (λ l. l ≡ revealed_line sets input) rest
      → FailsAt (count + 1) text
  tail-fails text rest count after past none =
      fails-here (FitsSets of input told) text rest count after (λ content more report fits continues.
      ⊎_elim
      (λ (fulls : AllFull (length told) fits.others).
      let follows = subst (λ m. Continues m rest) (ended content more report fits fulls) continues in
      none (revealed_line sets input) follows.0 refl follows.1)
      (λ (first : FirstTold (length told) fits.others).
      let follows = subst (λ m. Continues m rest) (goes-on of input told content more report fits first) continues in
      past _ follows.1)
      (next of input told content more report fits))

  pub tail-step : (text rest remains : List ℕ) (count : ℕ) → IsHead of → length input ≡ of.input → IsAfter (FitsSets of input told) text rest count → rest ≡ revealed_line sets input ++ (10 ∷ remains)
      → IsAfter (FitsTail of input sets (codes "end" ∷ [])) text remains (count + 1)
  tail-step text rest remains count is long after next-line =
      let so_far = told-choice of input told text rest count after in
      let bytes : All IsByteSet sets = rw are (All-append IsByteSet told (replicate others full) so_far.2 (full-sets others)) in
      step (FitsSets of input told) text rest count after (FitsTail of input sets (codes "end" ∷ [])) (revealed_line sets input) remains (content_with of input sets) (codes "end" ∷ []) next-line
      (report-with of input sets is long bytes chosen)
      (record { first_lines = head-with of input sets long; input_is = refl; sets_are = refl; left = refl })
      (λ content more report. (
        λ fits. ⊎_elim
            (λ (fulls : AllFull (length told) fits.others).
            let all = ended content (revealed_line sets input ∷ more) report fits fulls in
            record { first_lines = fits.first_lines; input_is = fits.input_is; sets_are = same-sets content (revealed_line sets input ∷ more) report fits fulls; left = cc })
            (λ (first : FirstTold (length told) fits.others).
            let goes = goes-on of input told content (revealed_line sets input ∷ more) report fits first in
            let clash : revealed_line sets input ≡ set_line (length told + first.skipped) first.set = cc in
            let letter = ap (λ (l : List ℕ). get_or l 0 0) clash in
            absurd (omega (arith, letter)))
            (next of input told content (revealed_line sets input ∷ more) report fits),
        λ fits. record {
          first_lines = fits.first_lines;
          input_is = fits.input_is;
          others = replicate others full;
          sets_are = fits.sets_are ∙ are;
          left =
              let skip : set_lines (length told) (replicate others full) ≡ [] =
              ap (λ ss. set_lines (length told) ss) (sym (append-nil (replicate others full))) ∙ (lines-skip others (length told) [] ∙ set_lines-end (length told + others)) in
              ap (λ ls. revealed_line sets input ∷ ls) fits.left
              ∙ sym (ap (λ ls. ls ++ tail content) skip ∙ (tail-first content ∙ (ap (λ ss. revealed_line ss content.input ∷ codes "end" ∷ []) fits.sets_are ∙ ap (λ y. revealed_line sets y ∷ codes "end" ∷ []) fits.input_is)));
        },
      ))

-- ---- the last line

pub end-fails : (of : Head) (input : List ℕ) (sets : List (ℕ → Bool)) (text rest : List ℕ) (count : ℕ) → IsAfter (FitsTail of input sets (codes "end" ∷ [])) text rest count → ComesNo (λ l. l ≡ codes "end") rest
    → FailsAt (count + 1) text
end-fails of input sets text rest count after none =
    fails-here (FitsTail of input sets (codes "end" ∷ [])) text rest count after (λ content more report fits continues.
    let follows = subst (λ m. Continues m rest) fits.left continues in
    none (codes "end") follows.0 refl follows.1)

pub end-step : (of : Head) (input : List ℕ) (sets : List (ℕ → Bool)) (text rest remains : List ℕ) (count : ℕ) → IsAfter (FitsTail of input sets (codes "end" ∷ [])) text rest count → rest ≡ codes "end" ++ (10 ∷ remains)
    → IsAfter (FitsTail of input sets []) text remains (count + 1)
end-step of input sets text rest remains count after next-line =
    step (FitsTail of input sets (codes "end" ∷ [])) text rest count after (FitsTail of input sets []) (codes "end") remains after.draft [] next-line after.report
    (record { first_lines = after.fit.first_lines; input_is = after.fit.input_is; sets_are = after.fit.sets_are; left = refl })
    (λ content more report. (
      λ fits. let all = fits.left in record { first_lines = fits.first_lines; input_is = fits.input_is; sets_are = fits.sets_are; left = cc },
      λ fits. record { first_lines = fits.first_lines; input_is = fits.input_is; sets_are = fits.sets_are; left = ap (λ ls. codes "end" ∷ ls) fits.left },
    ))

-- ---- the end of the text

pub over-fails : (of : Head) (input : List ℕ) (sets : List (ℕ → Bool)) (text rest : List ℕ) (count : ℕ) → IsAfter (FitsTail of input sets []) text rest count → rest ≢ [] → FailsAt (count + 1) text
over-fails of input sets text rest count after more-text =
    fails-here (FitsTail of input sets []) text rest count after (λ content more report fits continues. more-text (subst (λ m. Continues m rest) fits.left continues))

pub all-read : (of : Head) (input : List ℕ) (sets : List (ℕ → Bool)) (text rest : List ℕ) (count : ℕ) → IsHead of → length input ≡ of.input → All IsByteSet sets → IsChoice sets input
    → IsAfter (FitsTail of input sets []) text rest count → rest ≡ [] → IsTextOf (content_with of input sets) text
unfolding text_of
all-read of input sets text rest count is long bytes chosen after none =
    let report = report-with of input sets is long bytes chosen in
    let whole = (after.same (content_with of input sets) [] report).1 (record { first_lines = head-with of input sets long; input_is = refl; sets_are = refl; left = refl }) in
    record {
      report = report;
      written = after.parts ∙ (ap (λ r. joined after.read ++ r) none ∙ (append-nil (joined after.read) ∙ ap joined (sym (whole ∙ append-nil after.read))));
    }

-- and no other report has this text
pub only-report : (of : Head) (input : List ℕ) (sets : List (ℕ → Bool)) (text rest : List ℕ) (count : ℕ) → IsHead of → IsAfter (FitsTail of input sets []) text rest count → rest ≡ []
    → (content : Content) → IsTextOf content text → content ≡ content_with of input sets
only-report of input sets text rest count in_range after none content is =
    let fits = all-lines (FitsTail of input sets []) text rest count after none content is in
    let same = head-tells content of is.report in_range fits.first_lines in
    λ i. record {
      length = same.0 i;
      digest = same.1 i;
      trap = same.2 i;
      steps = same.3 i;
      seed = same.4 i;
      input = fits.input_is i;
      sets = fits.sets_are i;
    }

pub revealed-unbroken : (sets : List (ℕ → Bool)) (input : List ℕ) → length input ≤ 65536 → IsChoice sets input → Unbroken (revealed_line sets input)
revealed-unbroken sets input few chosen = unbroken-revealed sets input (omega (arith, revealed-small sets, choice-long sets input chosen)) (omega arith)

pub end-unbroken : Unbroken (codes "end")
end-unbroken = literal (codes "end") refl
