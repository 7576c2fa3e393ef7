-- `start_of` takes the row apart into its two words, and makes it of them again. Assumes `Logic`.
use mathlib.Core.Path.{◌≡◌, refl, sym, subst, ◌∙◌}
use Prim.Native.Nat.{ℕ}
use mathlib.Core.List.{List, [], ◌∷◌, ◌++◌}
use mir.Syntax.{Fn}
use mir.Val.{Val, vptr, vstruct, vcons, vnil, WT}
use base.Fml.{ftrue, flft}
use seplogic.Ra.Ura.{Ura}
use mir.MapTy.{inst_fn}
use base.Logic.{SProp, ent, emp, id⊢}
use prog.Memory.{Memory}
use prog.Routine.{Routine}
use prog.Wp.{Env, WpFn, Tables}
use types.Logic.{Logic}
use contract.BorrowLft.{◌⊑◌}
use contract.Monad.{Fun, fact}
use contract.Running.{tables, tables_of}
use denote.RattleType.{RattleType, owns, Valss}
use denote.Signature.{plain, types_at}
use denote.Steps.{heard, nothing}
use denote.Triple.Call.{calls_at}
use denote.Triple.Clauses.{Clauses, Ended, closing}
use denote.Triple.Spec.{Meets, triple_of}
use denote.Triple.Statement.{Triple}
use denote.Triple.Table.{entered}
use sound.WpLaws.{fm_of, WpFn-mono}
use types.Kit.{‵, raw, ◌⊛◌, some, given, later, at_ret, ◌$◌, ◌∵◌, !, qed, move, keep, drop, use1, use2, pick, learn, split, join, fsplit, fjoin, fjoin3, fpack, feq_i, suffices, await, done}
use types.Part.{whole, sub, agg}
use types.Run.{stop, fld, of_opd, and_then, no_more, first, blocks, exec, returns, enter}
use types.ByLocal.{alloc_all, pass_all, free_all, look_at, get, get_in, sets, sets_last, lands_as, env}
use denote.Exit.{no}
use denote.RawPtr.{RawPtr, block_ptr}
use denote.Struct.Struct.{within}
use denote.Struct.Declared as Declared
use denote.Struct.Tuple.{Tuple, tuple_type}
use denote.Triple.Walked.{says, Stays, stay_dropped, walk_of, ends_at, Goes-dropped, walk_Meets}
use Rattle.core.proofs.mem.Param.{El, args}
use Rattle.core.proofs.slots.Bodies.{after}
use Rattle.core.proofs.slots.Opens.{Sr, el_d, row_val, row_had, row_made, places}
use Rattle.core.proofs.slots.Slots.into_raw_parts.Met as into
use Rattle.core.proofs.slots.Slots.from_raw_parts.Met as from
use Rattle.term_arena.proofs.RowCallLemmas.{into_key, from_key, IntoParts, FromParts, at_into, into_takes, into_gives, at_from, IsMade, from_takes, from_gives}
use Rattle.term_arena.specs.contracts.chunks.raw.start_of as F
use Rattle.term_arena.specs.contracts.chunks.raw.start_of.Key.{name as #self}
use Rattle.term_arena.proofs.chunks.raw.start_of.Statement as stated
use Rattle.term_arena.proofs.chunks.raw.start_of.Code as code

module _ (E : El) where
  abbrev here : Fn
  here = inst_fn (args E) code.function

  abbrev ended : Ended
  ended = F.ended E.row

  abbrev stayed : Stays ended.signature.params ended.kept
  stayed = (stay_dropped (plain (λ _. Sr E)) no, tt)

  abbrev Both : RattleType
  Both = Tuple (Sr E ∷ RawPtr ∷ [])

  abbrev both_val : ℕ → ℕ → ℕ → Val
  both_val b o n = vstruct (vcons (row_val b o n) (vcons (vptr b o) vnil))

  module _ {M : Type 1} {𝓤 : Ura M} (𝓛 : Logic 𝓤) (at_mem : Memory → SProp 𝓤) (run : Routine → Fun 𝓤) (𝓣 : Tables 𝓤 𝓛.H)
      (met_into : Triple 𝓤 (𝓣.C (into_key E 𝓛 at_mem run)) (IntoParts E 𝓛 at_mem run)) (met_from : Triple 𝓤 (𝓣.C (from_key E 𝓛 at_mem run)) (FromParts E 𝓛 at_mem run)) where
    open 𝓛 use {H}

    abbrev held : Clauses 𝓤 ended
    held = F.clauses E.row 𝓛 at_mem run

    walk : (z : (walk_of 𝓛 ended stayed held).Ghost) → ent 𝓤 ((walk_of 𝓛 ended stayed held).pre z) (WpFn 𝓤 H 𝓣.C 𝓣.Λ here ((walk_of 𝓛 ended stayed held).args z) ((walk_of 𝓛 ended stayed held).post z))
    walk z =
        let κ = z.0.0.0 in let q = z.0.1.0 in let r : el_d E = z.0.3.0 in let n : ℕ = r.len in let vss = z.0.4 in
        let Post : Val → SProp 𝓤 = (walk_of 𝓛 ended stayed held).post z in let Run : List Val → SProp 𝓤 = λ ws. WpFn 𝓤 H 𝓣.C 𝓣.Λ here ws Post in
        qed 𝓛 (((‵ (flft κ q) ⊛ ‵ ftrue) ⊛ ‵ (owns (types_at ended.signature.params z.0.0) z.0.3 vss)) ∷ (raw (fact 𝓤 (κ ⊑ E.row.lives)) ⊛ raw (emp 𝓤)) ∷ []) ∵
        move ! (1 ∷ []) $ split ! $ heard ! (κ ⊑ E.row.lives) (λ le. drop ! $ split ! $ split ! $ move ! (2 ∷ []) $ fsplit ! $
        row_had E ! r vss.0 (λ b o at e fn fit. row_made E ! r b o at fn fit $ keep ! (0 ∷ 2 ∷ []) $
        let us : List Val = row_val b o n ∷ [] in let words : WT (row_val b o n) = (tt, (record { fits = fn }, tt)) in
        suffices ! (Run us) (subst (λ (ws : List Val). ent 𝓤 (Run us) (Run ws)) (sym (λ i. e i ++ [])) (id⊢ 𝓤 (Run us))) $
        enter ! 𝓣.C 𝓣.Λ here us _ $ alloc_all ! (λ l. pass_all ! refl ((tt, words), tt) $
        let En : Env 𝓤 H = env here.locals l in
        first ! $ blocks ! $ sets ! (of_opd ! (get ! refl)) refl (tt, words) $
        -- [the row; the token]
        let y = at_into E 𝓛 at_mem run κ q r b o in
        use2 𝓛 (raw ((IntoParts E 𝓛 at_mem run).pre y)) (into_takes E 𝓛 at_mem run κ q r b o le) $
        calls_at ! (fm_of 𝓤 H 𝓛.laws 𝓣) (IntoParts E 𝓛 at_mem run) met_into y (and_then ! (get ! refl) (no_more !)) (λ v.
        use1 𝓛 (later (given (v ≡ row_val b o n) (‵ (places E r b o) ⊛ ‵ (flft κ q)))) (into_gives E 𝓛 at_mem run κ q r b o v at) $ await ! tt $ learn ! (λ is. split ! $
        lands_as ! is refl (tt, words) $
        sets ! (of_opd ! (get_in ! (fld ! refl (stop !)) (sub ! 0 refl (whole !)))) refl (tt, tt) $ sets ! (of_opd ! (get_in ! (fld ! refl (stop !)) (sub ! 1 refl (whole !)))) refl (tt, record { fits = fn }) $
        -- [the places; the token]
        let y' = at_from E 𝓛 at_mem run κ q r b o in
        use2 𝓛 (raw ((FromParts E 𝓛 at_mem run).pre y')) (from_takes E 𝓛 at_mem run κ q r b o le fn fit) $
        calls_at ! (fm_of 𝓤 H 𝓛.laws 𝓣) (FromParts E 𝓛 at_mem run) met_from y' (and_then ! (get ! refl) (and_then ! (get ! refl) (no_more !))) (λ v'.
        use1 𝓛 (later (some (λ (d : el_d E). given ((v' ≡ row_val b o n) × IsMade E 𝓛 at_mem run κ q r b o d) (‵ ((Sr E).own_val d (row_val b o n ∷ [])) ⊛ ‵ (flft κ q))))) (from_gives E 𝓛 at_mem run κ q r b o v') $ await ! tt $ pick ! (λ d. learn ! (λ made. split ! $
        lands_as ! made.0 refl (tt, words) $
        sets_last ! (agg ! (and_then ! (get ! refl) (and_then ! (get ! refl) (no_more !)))) refl (tt, (words, (tt, tt))) $
        exec ! 𝓣.C 𝓣.Λ En (after 1 here.body) (at_ret En Post) $ sets ! (of_opd ! (get ! refl)) refl (tt, (words, (tt, tt))) $
        returns ! (look_at ! 0 refl) $ free_all ! refl $ keep ! (0 ∷ 1 ∷ []) $
        suffices ! _ (ends_at 𝓛 ended stayed held z (both_val b o n) (d, block_ptr b o) (tt, tt) (tt, tt)) $
        says ! (record { start = made.1.0 ∙ sym at; count = made.1.1 }, sym at, tt) $
        feq_i ! (List Val) (vptr b o ∷ []) (vptr b o ∷ []) refl $ nothing ! $ move ! (2 ∷ 1 ∷ 0 ∷ []) $ fjoin3 ! $ feq_i ! (List Val) (both_val b o n ∷ []) (both_val b o n ∷ []) refl $ fjoin ! $
        fpack ! (Valss (Sr E ∷ RawPtr ∷ [])) (within (Declared.shape (tuple_type (Sr E ∷ RawPtr ∷ []))) (d, (block_ptr b o, tt)) (both_val b o n ∷ [])) (row_val b o n ∷ [], (vptr b o ∷ [], tt)) $
        -- [the pair; the token]
        nothing ! $ nothing ! $ fjoin ! $ nothing ! $ move ! (3 ∷ 0 ∷ []) $ join ! $ done !))))))))

    meets : Meets 𝓛 ended.signature (WpFn 𝓤 H 𝓣.C 𝓣.Λ here) (closing 𝓛 ended held)
    meets = walk_Meets 𝓛 ended stayed (Goes-dropped 𝓛 1 (plain (λ _. Sr E)) no (λ κs x f. refl), tt) held (WpFn 𝓤 H 𝓣.C 𝓣.Λ here) (WpFn-mono 𝓤 H 𝓛.laws 𝓣 here) walk

pub start_of_spec : {M : Type 1} → stated.statement M
unfolding tables_of
start_of_spec 𝓤 𝓛 𝓜 𝓡 wired X L =
    let E : El = record { row = X; laws = L } in
    let 𝓣 : Tables 𝓤 𝓛.H = tables_of 𝓤 𝓛.H 𝓜 (tables 𝓤 𝓛.H 𝓜 𝓡 𝓡.env) in
    entered 𝓤 𝓛.H (triple_of 𝓛 (F.signature X) (F.spec X 𝓛 𝓜.mem 𝓡.returns)) 𝓣.C 𝓣.Λ (#self (args E)) (here E) (code.unfolded 𝓤 𝓛.H 𝓜 𝓡 wired (X, tt))
    (meets E 𝓛 𝓜.mem 𝓡.returns 𝓣 (into.met 𝓤 𝓛 𝓜 𝓡 (code.calls-core::slots::Slots::into_raw_parts 𝓡.env wired) X L) (from.met 𝓤 𝓛 𝓜 𝓡 (code.calls-core::slots::Slots::from_raw_parts 𝓡.env wired) X L))
