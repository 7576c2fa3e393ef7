-- A row of places that is taken apart into its words and made of them again: what each of the two calls is handed and gives back. Assumes `Logic`.
use mathlib.Core.Path.{◌≡◌, refl, sym, ap, ◌∙◌}
use Prim.Native.Nat.{ℕ, ◌*◌, ◌<◌, ◌^◌}
use mathlib.Core.List.{List, [], ◌∷◌, ◌++◌}
use lib.ListN.{length}
use seplogic.Ra.Ura.{Ura}
use mir.Syntax.{Callee, w64}
use mir.Val.{Val, vint, vptr, vstruct, of_list}
use base.Logic.{SProp, ent, sep, ex, guard, emp, id⊢}
use base.Fml.{Lft, Share, ftrue, fsep, flft}
use prog.Memory.{Memory}
use prog.Routine.{Routine}
use types.Logic.{Logic, sem}
use contract.BorrowLft.{◌⊑◌}
use contract.Monad.{Fun, fact, fact_i}
use types.Kit.{‵, raw, ◌⊛◌, some, later, ◌$◌, ◌∵◌, !, qed, move, keep, drop, use0, use1, split, join, pick, rewrite, fsplit, fsplit3, fjoin, fjoin3, fpick, feq_l, feq_i, flt_i, check, show, await, updating, now, done}
use denote.RattleType.{RattleType}
use denote.Builtin.{usize}
use denote.RawPtr.{Ptr, RawPtr, block_ptr, in_block}
use denote.Steps.{only, heard, nothing}
use denote.Struct.Tuple.{Tuple}
use denote.Triple.Spec.{triple_of}
use denote.Triple.Statement.{Contract}
use Rattle.core.specs.Mem.Slots.Ownership.{slots, owned}
use Rattle.core.specs.Mem.Slots.{slots_items, slots_filled, slots_ptr, slots_len}
use Rattle.core.specs.contracts.slots.Slots.from_raw_parts as From
use Rattle.core.specs.contracts.slots.Slots.from_raw_parts.Key as from
use Rattle.core.specs.contracts.slots.Slots.into_raw_parts as Into
use Rattle.core.specs.contracts.slots.Slots.into_raw_parts.Key as into
use Rattle.core.proofs.mem.Param.{El, R, args}
use Rattle.core.proofs.slots.Places.{sz}
use Rattle.core.proofs.slots.Opens.{Sr, el_d, words_val, row_val, row_had, row_made, places}

module _ (E : El) {M : Type 1} {𝓤 : Ura M} (𝓛 : Logic 𝓤) (at_mem : Memory → SProp 𝓤) (run : Routine → Fun 𝓤) where
  open 𝓛 use {H, A}

  abbrev pub into_key : Callee
  into_key = into.name (args E)

  abbrev pub from_key : Callee
  from_key = from.name (args E)

  abbrev pub IntoParts : Contract 𝓤
  IntoParts = triple_of 𝓛 (Into.signature E.row) (Into.spec E.row 𝓛 at_mem run)

  abbrev pub FromParts : Contract 𝓤
  FromParts = triple_of 𝓛 (From.signature E.row) (From.spec E.row 𝓛 at_mem run)

  module _ (κ : Lft) (q : Share) (r : el_d E) (b o : ℕ) where
    abbrev pub at_into : IntoParts.Ghost
    at_into = (((κ, tt), (q, tt), tt, (r, tt), (row_val b o r.len ∷ [], tt)), tt)

    pub into_takes : κ ⊑ E.row.lives → ent 𝓤 (sep 𝓤 (sem 𝓛 ((Sr E).own_val r (row_val b o r.len ∷ []))) (A.lft κ q)) (IntoParts.pre at_into)
    into_takes le =
        let Alive : Type 0 = κ ⊑ E.row.lives in
        qed 𝓛 (‵ ((Sr E).own_val r (row_val b o r.len ∷ [])) ∷ ‵ (flft κ q) ∷ []) ∵ nothing ! $ use0 𝓛 (raw (fact 𝓤 Alive)) (fact_i 𝓤 Alive (emp 𝓤) le) $ join ! $
        nothing ! $ move ! (2 ∷ 0 ∷ []) $ fjoin ! $ nothing ! $ move ! (3 ∷ 0 ∷ []) $ join ! $ join ! $ done !

    -- the two words, and the places
    pub into_gives : (v : Val) → r.ptr ≡ block_ptr b o → ent 𝓤 (IntoParts.post at_into v) (H.⇛ (guard 𝓤 (v ≡ row_val b o r.len) (sep 𝓤 (sem 𝓛 (places E r b o)) (A.lft κ q))))
    into_gives v at =
        let Words : RattleType = Tuple (RawPtr ∷ usize ∷ []) in
        qed 𝓛 (raw (IntoParts.post at_into v) ∷ []) ∵ updating ! $
        use1 𝓛 (later (some (λ (p : Words.Denot). ((‵ (flft κ q) ⊛ ‵ ftrue) ⊛ ‵ (Words.own_val p (v ∷ []))) ⊛ some (λ (ws : Unit {0} × Unit {0}). ‵ (fsep ftrue ftrue)
        ⊛ raw (fact 𝓤 ((p.0 ≡ r.ptr) × (p.1 ≡ r.len))) ⊛ ‵ (owned (R E) r.ptr r.len r.items r.filled))))) (id⊢ 𝓤 _) $ await ! tt $ pick ! (λ p.
        split ! $ move ! (1 ∷ []) $ pick ! (λ ws. split ! $ drop ! $ split ! $ heard ! ((p.0 ≡ r.ptr) × (p.1 ≡ r.len)) (λ is. fsplit ! $ drop ! $
        rewrite ! 0 (λ (s : Ptr). ‵ (in_block s (slots (R E) s r.items r.filled))) at refl $ move ! (1 ∷ []) $ split ! $ split ! $ move ! (2 ∷ []) $
        fpick ! (λ vss. fsplit ! $ feq_l ! (λ all. fsplit3 ! $ feq_l ! (λ e₀. fsplit ! $ feq_l ! (λ e₁. now ! $
        check ! (ap only all ∙ (λ i. vstruct (of_list (e₀ i ++ (e₁ i ++ [])))) ∙ (λ i. words_val ((is.0 ∙ at) i) (is.1 i))) $ keep ! (4 ∷ 2 ∷ []) $ done !)))))))

    abbrev pub at_from : FromParts.Ghost
    at_from = (((κ, tt), (q, tt), tt, (block_ptr b o, (r.len, tt)), (vptr b o ∷ [], (vint w64 r.len ∷ [], tt))), (r.items, r.filled))

    abbrev pub IsMade : el_d E → Type 0
    IsMade d = (slots_ptr d ≡ block_ptr b o) × (slots_len d ≡ r.len) × (slots_items d ≡ r.items) × (slots_filled d ≡ r.filled)

    pub from_takes : κ ⊑ E.row.lives → r.len < 2 ^ 64 → r.len * sz E < 2 ^ 63 → ent 𝓤 (sep 𝓤 (sem 𝓛 (places E r b o)) (A.lft κ q)) (FromParts.pre at_from)
    from_takes le fn fit =
        let Alive : Type 0 = κ ⊑ E.row.lives in let Counts : Type 0 = (r.len ≡ length r.items) × (r.len ≡ length r.filled) in
        qed 𝓛 (‵ (places E r b o) ∷ ‵ (flft κ q) ∷ []) ∵ flt_i ! (r.len * sz E) (2 ^ 63) fit $ fjoin ! $
        use0 𝓛 (raw (fact 𝓤 Counts)) (fact_i 𝓤 Counts (emp 𝓤) r.ok) $ join ! $ use0 𝓛 (raw (fact 𝓤 Alive)) (fact_i 𝓤 Alive (emp 𝓤) le) $ join ! $
        nothing ! $ flt_i ! r.len (2 ^ 64) fn $ feq_i ! (List Val) (vint w64 r.len ∷ []) (vint w64 r.len ∷ []) refl $ fjoin ! $ feq_i ! (List Val) (vptr b o ∷ []) (vptr b o ∷ []) refl $ fjoin3 ! $
        nothing ! $ move ! (3 ∷ 0 ∷ []) $ join ! $ join ! $ done !

    -- a row of these places
    pub from_gives : (v : Val) → ent 𝓤 (FromParts.post at_from v)
        (H.⇛ (ex 𝓤 (λ (d : el_d E). guard 𝓤 ((v ≡ row_val b o r.len) × IsMade d) (sep 𝓤 (sem 𝓛 ((Sr E).own_val d (row_val b o r.len ∷ []))) (A.lft κ q)))))
    from_gives v =
        qed 𝓛 (raw (FromParts.post at_from v) ∷ []) ∵ updating ! $
        use1 𝓛 (later (some (λ (d : el_d E). ((‵ (flft κ q) ⊛ ‵ ftrue) ⊛ ‵ ((Sr E).own_val d (v ∷ []))) ⊛ some (λ (ws : Unit {0} × (Unit {0} × Unit {0})). ‵ (fsep ftrue (fsep ftrue ftrue)) ⊛ raw (fact 𝓤 (IsMade d)))))) (id⊢ 𝓤 _) $ await ! tt $ pick ! (λ d.
        split ! $ move ! (1 ∷ []) $ pick ! (λ ws. split ! $ drop ! $ heard ! (IsMade d) (λ is. split ! $ split ! $ move ! (2 ∷ []) $ row_had E ! d (v ∷ []) (λ b' o' at e fn fit. row_made E ! d b' o' at fn fit $
        let same : row_val b' o' d.len ≡ row_val b o r.len = λ i. words_val ((sym at ∙ is.0) i) (is.1 i) in
        rewrite ! 0 (λ (u : Val). ‵ ((Sr E).own_val d (u ∷ []))) same refl $ now ! $
        show ! (λ (y : el_d E). guard 𝓤 ((v ≡ row_val b o r.len) × IsMade y) (sep 𝓤 (sem 𝓛 ((Sr E).own_val y (row_val b o r.len ∷ []))) (A.lft κ q))) d $ check ! (ap only e ∙ same, is) $ keep ! (0 ∷ 1 ∷ []) $ done !))))
