-- Decisions, and what a settled path tells.
use Rattle.std.proofs.Common.{◌≡◌, ◌≢◌, ℕ, ◌<◌, ◌≤◌, ◌+◌, Bool, true, false, List, [], ◌∷◌, ◌++◌, length, take, refl, sym, ap, ◌∙◌, inl, inr, arith, ◌⊎◌, subst}
use Rattle.std.specs.Prelude.{Contains, slice_index, slice_index_or, Option, if◌then◌else◌}
use Rattle.std.proofs.lemmas.Bool.{cases_eq, cases_lt, lt-ltb, le-ltb}
use Rattle.std.proofs.lemmas.List.{get_or_append_left, get_or_push, length_push, get_or-take, length-take, length-take-le, get_or_default, take-append-le, take_all, take-take, take_at}
use Rattle.std.proofs.lemmas.List.Elements.{Contains-push, Contains-append_left, Contains-get_or}
use Rattle.gate_net.specs.declared.literals.Lit.{Lit}
use Rattle.gate_net.specs.Lits.{negation}
use Rattle.search_model.specs.Literals.{named}
use Rattle.search_model.specs.Closure.{IsClosedUnder, IsClosed, IsConflict}
use Rattle.unit_close.specs.Values.{has, IsClosure}
use Rattle.unit_close.specs.Literals.{lit_at, no_literal}
use Rattle.unit_close.specs.Path.{Path, IsPath, end_of}
use Rattle.unit_close.specs.Watching.{Watching, IsWatching, partner, clause_of, HasOnly}
use Rattle.unit_close.specs.Work.{IsSettled, IsClosedUnderAll, IsRefuted, IsWorking, IsExtended}
use Rattle.unit_close.specs.Standing.{HasUnits, IsReady, IsDecidedBy}
use Rattle.unit_close.proofs.ListLemmas.{Contains-take}
use Rattle.unit_close.proofs.LitLemmas.{one_sign, lit_same}
use Rattle.unit_close.proofs.WatchLemmas.{partner_twice, partner_below}
use Rattle.unit_close.proofs.VisitLemmas.{partner_half}
use Rattle.unit_close.proofs.WorkLemmas.{all_forced, forced_decide, forced_cut, extended_take}

-- the only literal of a clause is forced
pub unit_forced : (w : Watching) → IsWatching w → (u : Lit) → Contains w.units u → (set' : Lit → Bool) → IsClosedUnderAll w.clauses set' → set' u ≡ true
unit_forced w watching u its set' closed =
    let from = watching.units_from u its in
    closed from.0 from.1 u from.2.0 (λ m at apart. absurd (apart (from.2.1 m at)))

-- a literal that is forced and false
pub unit_refuted : (w : Watching) (path : Path) → IsWorking w path → (u : Lit) → Contains w.units u → Contains path.literals (negation u) → IsRefuted w.clauses path.literals path.marks
unit_refuted w path working u its other = (u, λ set' closed decided. (unit_forced w working.watching u its set' closed, all_forced w.clauses path.literals path.marks working.forced set' closed decided (negation u) other))

pub refuted_conflict : (clauses : List (List Lit)) (path : Path) (decisions : List Lit) → IsRefuted clauses path.literals path.marks → IsDecidedBy path decisions → IsConflict named clauses decisions
refuted_conflict clauses path decisions refuted by = (
  refuted.0,
  (λ set' closed. (refuted.1 set' closed.each (λ i lt. closed.decided _ (by i lt))).0),
  (λ set' closed. (refuted.1 set' closed.each (λ i lt. closed.decided _ (by i lt))).1),
)

pub no_decisions : (path : Path) (decisions : List Lit) → path.marks ≡ [] → IsDecidedBy path decisions
no_decisions path decisions none i lt = absurd (omega (arith, rw none at lt))

-- a decision whose negation is in
pub decision_refuted : (w : Watching) (path : Path) (d : Lit) (decisions : List Lit) → IsWorking w path → Contains path.literals (negation d) → Contains decisions d → IsDecidedBy path decisions → IsConflict named w.clauses decisions
decision_refuted w path d decisions working other its by = (
  d,
  (λ set' closed. closed.decided d its),
  (λ set' closed. all_forced w.clauses path.literals path.marks working.forced set' closed.each (λ i lt. closed.decided _ (by i lt)) (negation d) other),
)

lit_extended : (old new : Path) (p : ℕ) → IsExtended old new → p < length old.literals → lit_at new.literals p ≡ lit_at old.literals p
lit_extended old new p more lt = sym (get_or-take (length old.literals) new.literals p no_literal lt) ∙ ap (λ ls. lit_at ls p) more.before

-- units stay before every decision
pub units_extended : (units : List Lit) (old new : Path) → HasUnits units old → IsExtended old new → HasUnits units new
units_extended units old new has' more l its =
    let (p, within, is, before) = has' l its in
    (p, omega (arith, within, more.longer), lit_extended old new p more within ∙ is, λ i lt. rw more.marks (before i (rw more.marks at lt)))

-- the path takes a decision
module _ (path new : Path) (d : Lit) (known : IsPath path) (literals : new.literals ≡ path.literals ++ d ∷ []) (marks : new.marks ≡ path.marks ++ length path.literals ∷ []) where
  abbrev size : ℕ
  size = length path.literals

  mark_cases : (i : ℕ) → i < length new.marks → (i < length path.marks) ⊎ (i ≡ length path.marks)
  mark_cases i lt = elim (cases_lt i (length path.marks)) [
    | inl below ↦ inl below
    | inr above ↦ inr (omega (arith, above, rw marks at lt, length_push path.marks size))
  ]

  old_mark : (i : ℕ) → i < length path.marks → slice_index new.marks i ≡ slice_index path.marks i
  old_mark i lt = rw marks (get_or_append_left path.marks (size ∷ []) 0 i lt)

  last_mark : slice_index new.marks (length path.marks) ≡ size
  last_mark = rw marks (get_or_push path.marks size 0 (length path.marks) refl)

  old_literal : (p : ℕ) → p < size → lit_at new.literals p ≡ lit_at path.literals p
  old_literal p lt = rw literals (get_or_append_left path.literals (d ∷ []) no_literal p lt)

  last_literal : lit_at new.literals size ≡ d
  last_literal = rw literals (get_or_push path.literals d no_literal size refl)

  pub take_old : (n : ℕ) → n ≤ size → take n new.literals ≡ take n path.literals
  take_old n few = rw literals (take-append-le n path.literals (d ∷ []) few)

  pub take_size : take size new.literals ≡ path.literals
  take_size = take_old size (omega arith) ∙ take_all size path.literals (omega arith)

  pub decided_contains : (l : Lit) → Contains path.literals l → Contains new.literals l
  decided_contains l h = rw literals (Contains-append_left path.literals (d ∷ []) l h)

  pub decided_itself : Contains new.literals d
  decided_itself = rw literals (Contains-push path.literals d)

  pub units_decided : (units : List Lit) → HasUnits units path → HasUnits units new
  units_decided units has' l its =
      let (p, within, is, before) = has' l its in (
        p,
        rw literals (omega (arith, within, length_push path.literals d)),
        old_literal p within ∙ is,
        λ i lt. elim (mark_cases i lt) [
          | inl below ↦ rw (old_mark i below) (before i below)
          | inr last ↦ rw (last, last_mark) within
        ],
      )

  pub working_decided : (w : Watching) → IsWorking w path → IsReady w path → length new.values ≡ length path.values → IsWorking w new
  working_decided w working ready names = record {
    watching = working.watching;
    names = working.names ∙ sym names;
    lower = λ i lt. elim (mark_cases i lt) [
      | inl below ↦ rw (old_mark i below, take_old (slice_index path.marks i) (omega (arith, known.within i below))) (working.lower i below)
      | inr last ↦ rw (last, last_mark, take_size) ready.settled
    ];
    forced = rw (literals, marks) (forced_decide w.clauses path.literals path.marks known.within d working.forced);
  }

  pub settled_decided : (watched : List Lit) → IsSettled watched path.literals path.literals → IsSettled watched (take size new.literals) new.literals
  settled_decided watched settled = rw take_size (λ n lt at. decided_contains (lit_at watched (partner n)) (settled n lt at))

  pub decided_by : (decisions : List Lit) → Contains decisions d → IsDecidedBy path decisions → IsDecidedBy new decisions
  decided_by decisions its by i lt = elim (mark_cases i lt) [
    | inl below ↦ rw (old_mark i below, old_literal (slice_index path.marks i) (known.within i below)) (by i below)
    | inr last ↦ rw (last, last_mark, last_literal) its
  ]

-- the path takes a decision, grows, and loses the decision
module _ (path p1 p2 p3 : Path) (d : Lit) (known : IsPath path) (l1 : p1.literals ≡ path.literals ++ d ∷ []) (m1 : p1.marks ≡ path.marks ++ length path.literals ∷ []) (more : IsExtended p1 p2) where
  pub marked : (i : ℕ) → i < length p1.marks → slice_index p1.marks i < length p1.literals
  marked i lt = elim (mark_cases path p1 d known l1 m1 i lt) [
    | inl below ↦ rw (old_mark path p1 d known l1 m1 i below, l1) (omega (arith, known.within i below, length_push path.literals d))
    | inr last ↦ rw (last, last_mark path p1 d known l1 m1, l1) (omega (arith, length_push path.literals d))
  ]

  pub back_lower : length path.marks < length p2.marks
  back_lower = rw (more.marks, m1) (omega (arith, length_push path.marks (length path.literals)))

  pub back_literals : p3.literals ≡ take (slice_index p2.marks (length path.marks)) p2.literals → p3.literals ≡ path.literals
  back_literals l3 =
      let at : slice_index p2.marks (length path.marks) ≡ length path.literals = rw more.marks (last_mark path p1 d known l1 m1) in
      let few : length path.literals ≤ length p1.literals = rw l1 (omega (arith, length_push path.literals d)) in
      l3 ∙ ap (λ n. take n p2.literals) at ∙ extended_take p1 p2 (length path.literals) more few ∙ take_size path p1 d known l1 m1

  pub back_marks : p3.marks ≡ take (length path.marks) p2.marks → p3.marks ≡ path.marks
  back_marks m3 = m3 ∙ ap (take (length path.marks)) (more.marks ∙ m1) ∙ take_at path.marks (length path.literals ∷ []) (length path.marks) refl

pub same_by : (old new : Path) (decisions : List Lit) → new.literals ≡ old.literals → new.marks ≡ old.marks → IsDecidedBy old decisions → IsDecidedBy new decisions
same_by old new decisions literals marks by = rw (literals, marks) by

-- where the literals before a level end
pub end_below : (path : Path) (level : ℕ) → level < length path.marks → end_of path level ≡ slice_index path.marks level
end_below path level lt = ap (λ b. if b then slice_index path.marks level else length path.literals) (lt-ltb level (length path.marks) lt)

pub end_past : (path : Path) (level : ℕ) → length path.marks ≤ level → end_of path level ≡ length path.literals
end_past path level past = ap (λ b. if b then slice_index path.marks level else length path.literals) (le-ltb level (length path.marks) past)

-- a decision comes before the end of its own level, and after that of the level below
pub mark_before_end : (path : Path) → IsPath path → (i level : ℕ) → i < level → i < length path.marks → slice_index path.marks i < end_of path level
mark_before_end path known i level less lt = elim (cases_lt level (length path.marks)) [
  | inl below ↦ rw (end_below path level below) (known.ascending i level less below)
  | inr past ↦ rw (end_past path level past) (known.within i lt)
]

pub end_next : (path : Path) → IsPath path → (level : ℕ) → level < length path.marks → end_of path level ≤ end_of path (level + 1)
end_next path known level lt = rw (end_below path level lt) (omega (arith, mark_before_end path known level (level + 1) (omega arith) lt))

pub decision_kept : (path : Path) → IsPath path → (level : ℕ) (d : Lit) → level < length path.marks → lit_at path.literals (slice_index path.marks level) ≡ d → Contains (take (end_of path (level + 1)) path.literals) d
decision_kept path known level d lt is =
    let p : ℕ = slice_index path.marks level in
    let below : p < end_of path (level + 1) = mark_before_end path known level (level + 1) (omega arith) lt in
    let inside : p < length (take (end_of path (level + 1)) path.literals) = rw length-take (omega (arith, below, known.within level lt)) in
    (p, inside, get_or-take (end_of path (level + 1)) path.literals p d below ∙ get_or_default path.literals p d no_literal (known.within level lt) ∙ is)

pub take_longer : (xs : List Lit) (m n : ℕ) (x : Lit) → m ≤ n → Contains (take m xs) x → Contains (take n xs) x
take_longer xs m n x le h = Contains-take m (take n xs) x (rw (take-take m n xs le) h)

-- the kept levels have the given decisions
pub rewound_by : (path new : Path) (levels : ℕ) (decisions : List Lit) → IsPath path → levels ≤ length path.marks → new.literals ≡ take (end_of path levels) path.literals → new.marks ≡ take levels path.marks → ((i : ℕ) → i < levels → Contains decisions (lit_at path.literals (slice_index path.marks i))) → IsDecidedBy new decisions
rewound_by path new levels decisions known few literals marks by i lt =
    let kept : i < levels = omega (arith, rw marks at lt, length-take-le levels path.marks few) in
    let mark : slice_index new.marks i ≡ slice_index path.marks i = rw marks (get_or-take levels path.marks i 0 kept) in
    let below : slice_index path.marks i < end_of path levels = mark_before_end path known i levels kept (omega (arith, kept, few)) in
    let literal : lit_at new.literals (slice_index path.marks i) ≡ lit_at path.literals (slice_index path.marks i) = rw literals (get_or-take (end_of path levels) path.literals (slice_index path.marks i) no_literal below) in
    rw (mark, literal) (by i kept)

pub extended_by : (old new : Path) (decisions : List Lit) → ((i : ℕ) → i < length old.marks → slice_index old.marks i < length old.literals) → IsExtended old new → IsDecidedBy old decisions → IsDecidedBy new decisions
extended_by old new decisions within more by i lt =
    let its : i < length old.marks = rw more.marks at lt in
    rw (more.marks, lit_extended old new (slice_index old.marks i) more (within i its)) (by i its)

-- the path loses its last levels
module _ (path new : Path) (known : IsPath path) (level : ℕ) (lower : level < length path.marks) (literals : new.literals ≡ take (slice_index path.marks level) path.literals) (marks : new.marks ≡ take level path.marks) where
  abbrev end : ℕ
  end = slice_index path.marks level

  few : length new.marks ≡ level
  few = rw marks (length-take-le level path.marks (omega (arith, lower)))

  left : length new.literals ≡ end
  left = rw literals (length-take-le end path.literals (omega (arith, known.within level lower)))

  cut_mark : (i : ℕ) → i < level → slice_index new.marks i ≡ slice_index path.marks i
  cut_mark i lt = rw marks (get_or-take level path.marks i 0 lt)

  cut_literal : (p : ℕ) → p < end → lit_at new.literals p ≡ lit_at path.literals p
  cut_literal p lt = rw literals (get_or-take end path.literals p no_literal lt)

  pub units_cut : (units : List Lit) → HasUnits units path → HasUnits units new
  units_cut units has' l its =
      let (p, within, is, before) = has' l its in
      let below : p < end = before level lower in (
        p,
        rw left below,
        cut_literal p below ∙ is,
        λ i lt.
            let kept : i < level = rw few at lt in
            rw (cut_mark i kept) (before i (omega (arith, kept, lower))),
      )

  pub working_cut : (w : Watching) → IsWorking w path → length new.values ≡ length path.values → IsWorking w new
  working_cut w working names = record {
    watching = working.watching;
    names = working.names ∙ sym names;
    lower = λ i lt.
        let kept : i < level = rw few at lt in
        let before : take (slice_index path.marks i) new.literals ≡ take (slice_index path.marks i) path.literals =
        rw literals (take-take (slice_index path.marks i) end path.literals (omega (arith, known.ascending i level kept lower))) in
        rw (cut_mark i kept, before) (working.lower i (omega (arith, kept, lower)));
    forced = rw (literals, marks) (forced_cut w.clauses path.literals path.marks level lower known.within known.ascending working.forced);
  }

  pub settled_cut : (w : Watching) → IsWorking w path → IsSettled w.watched new.literals new.literals
  settled_cut w working = rw literals (working.lower level lower)

sign_cases : (p q : Bool) → (p ≡ q) ⊎ (p ≢ q)
sign_cases true true = inl refl
sign_cases false false = inl refl
sign_cases true false = inr (λ e. cc)
sign_cases false true = inr (λ e. cc)

lit_cases : (a b : Lit) → (a ≡ b) ⊎ (a ≢ b)
lit_cases a b = elim (cases_eq a.name b.name) [
  | inl name ↦ elim (sign_cases a.positive b.positive) [
    | inl sign ↦ inl (lit_same a b name sign)
    | inr other ↦ inr (λ e. other (ap (λ (l : Lit). l.positive) e))
  ]
  | inr other ↦ inr (λ e. other (ap (λ (l : Lit). l.name) e))
]

-- a settled path is the closure
module _ (w : Watching) (path : Path) (working : IsWorking w path) (ready : IsReady w path) (known : IsPath path) (decisions : List Lit) (in' : (d : Lit) → Contains decisions d → Contains path.literals d) (by : IsDecidedBy path decisions) where
  is_true : (l : Lit) → Contains path.literals l → has path.values l ≡ true
  is_true l h = (known.told l).1 h

  is_in : (l : Lit) → has path.values l ≡ true → Contains path.literals l
  is_in l h = (known.told l).0 h

  unit_closed : (c : List Lit) → ((l : Lit) → Contains c l → HasOnly c l × Contains w.units l) → IsClosedUnder named (has path.values) c
  unit_closed c short l its others =
      let (p, within, is, before) = ready.units l (short l its).1 in
      is_true l (subst (Contains path.literals) is (Contains-get_or path.literals p no_literal within))

  node_closed : (n : ℕ) → n < length w.watched → IsClosedUnder named (has path.values) (clause_of w n)
  node_closed n lt l its others =
      let a : Lit = lit_at w.watched n in
      let b : Lit = lit_at w.watched (partner n) in
      let partner_lt : partner n < length w.watched = rw working.watching.paired (partner_below n (length w.owners) (rw working.watching.paired at lt)) in
      let clause : clause_of w (partner n) ≡ clause_of w n = ap (λ k. slice_index_or w.clauses (slice_index w.owners k) []) (partner_half n) in
      let b_its : Contains (clause_of w n) b = subst (λ (c : List Lit). Contains c b) clause (working.watching.among (partner n) partner_lt) in
      let apart = working.watching.apart n lt in
      elim (lit_cases a l) [
        | inl same ↦
            let not_l : b ≢ l = λ e. apart (same ∙ sym e) in
            let back : lit_at w.watched (partner (partner n)) ≡ l = ap (lit_at w.watched) (partner_twice n) ∙ same in
            is_true l (subst (Contains path.literals) back (ready.settled (partner n) partner_lt (is_in (negation b) (others b b_its not_l))))
        | inr other ↦
            let b_in : Contains path.literals b = ready.settled n lt (is_in (negation a) (others a (working.watching.among n lt) other)) in
            elim (lit_cases b l) [
              | inl same ↦ is_true l (subst (Contains path.literals) same b_in)
              | inr not_l ↦ absurd (one_sign path.values b (is_true b b_in) (others b b_its not_l))
            ]
      ]

  values_closed : IsClosed named w.clauses decisions (has path.values)
  values_closed = record {
    decided = λ l its. is_true l (in' l its);
    each = λ c its. elim (working.watching.covered c its) [
      | inl short ↦ unit_closed c short
      | inr node ↦ subst (IsClosedUnder named (has path.values)) node.2 (node_closed node.0 node.1)
    ];
  }

  pub closure_is_told : IsClosure w.clauses decisions path.values
  closure_is_told l = (
    λ told set' closed. all_forced w.clauses path.literals path.marks working.forced set' closed.each (λ i lt. closed.decided _ (by i lt)) l (is_in l told),
    λ least. least (has path.values) values_closed,
  )

-- the values of a closure are no conflict
pub closure_calm : (clauses : List (List Lit)) (decisions : List Lit) (values : List (Option Bool)) → IsClosure clauses decisions values → IsConflict named clauses decisions → ⊥
closure_calm clauses decisions values closure conflict = one_sign values conflict.0 ((closure conflict.0).1 conflict.1) ((closure (negation conflict.0)).1 conflict.2)

-- nothing is in
pub working_empty : (w : Watching) (path : Path) → IsWatching w → w.names ≡ length path.values → path.literals ≡ [] → path.marks ≡ [] → IsWorking w path
working_empty w path watching names literals marks = record {
  watching = watching;
  names = names;
  lower = λ i lt. absurd (omega (arith, rw marks at lt));
  forced = λ p lt. absurd (omega (arith, rw literals at lt));
}

-- units that are in, where there is no decision
pub units_in : (units : List Lit) (path : Path) → path.marks ≡ [] → ((l : Lit) → Contains units l → Contains path.literals l) → HasUnits units path
units_in units path none in' l its =
    let (p, within, is) = in' l its in
    (p, within, get_or_default path.literals p no_literal l within ∙ is, λ i lt. absurd (omega (arith, rw none at lt)))
