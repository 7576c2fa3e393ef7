use Rattle.std.proofs.Common.{rules, ◌≡◌, ℕ, length, subst, sym, ◌∙◌, Ok, Err, Result}
use Rattle.std.specs.Prelude.{IfOk}
use Rattle.byte_groups.specs.Gathered.{lists_of}
use Rattle.byte_groups.specs.Dealt.{number_of, AreDealt}
use Rattle.byte_groups.proofs.GatherLemmas.{map_long}
use Rattle.byte_groups.proofs.FinalLemmas.{built_of}
use Rattle.byte_groups.proofs.assembled.group_by_labels.Goals as goal

if_ok : {A E : Type 0} (r : Result A E) (P Q : A → Type 0) → ((x : A) → P x → Q x) → IfOk r P → IfOk r Q
if_ok (Ok x) P Q f h = f x h
if_ok (Err e) P Q f h = h

pub returns : goal.returns
returns c =
    let count : length c.in_ok-places.places.items ≡ length (lists_of c.in_ok-places.places.items) = sym (map_long c.in_ok-places.places.items) in
    let long : c.len.result ≡ length c.in_ok-places.places.items = search rules in
    let of = number_of c.args.labels.now c.gather.new.numbers c.args.leaves.now in
    let same : length c.in_ok-dealt.dealt.items ≡ length c.in_ok-places.places.items = sym (map_long c.in_ok-dealt.dealt.items) ∙ (c.in_ok-dealt.ensures.long ∙ long) in
    if_ok c.assemble.result _ _ (λ groups is. record {
      numbers = c.gather.new.numbers;
      places = lists_of c.in_ok-places.places.items;
      terms = lists_of c.in_ok-dealt.dealt.items;
      gathered = c.in_ok-places.ensures;
      dealt = let P : ℕ → Type 0 = λ n. AreDealt of n c.args.conditions.now (lists_of c.in_ok-dealt.dealt.items) in subst P (long ∙ count) c.in_ok-dealt.ensures;
      built = built_of c.in_ok-places.places.items c.in_ok-dealt.dealt.items groups.items same is;
    }) c.assemble.ensures
