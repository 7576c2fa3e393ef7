-- `add` does nothing, and leaves the list with one more. Assumes `Logic`.
use Rattle.std.proofs.Common.{[], ◌∷◌, ◌++◌, refl, w8, w32}
use Rattle.std.proofs.raw_atomic.Walks.{proved}
use base.Logic.{id⊢}
use base.Fml.{ftrue, flft}
use mir.Syntax.{named}
use mir.Val.{vunit}
use types.Kit.{‵, ◌⊛◌, ◌$◌, ◌∵◌, !, qed, move, keep, use1, split, join, fsplit, fsplit3, feq_i, suffices, frame, group, done}
use types.Run.{unit_lit, of_opd, returns, enter}
use types.ByLocal.{alloc_all, pass_all, free_all, look_at, sets}
use denote.Builtin.{u32}
use denote.Exit.{yes}
use denote.Plain.{UInt, uint_vals, uint_Tells}
use denote.RattleType.{owns}
use denote.Ref.{mut_vals, mut_Tells}
use denote.Signature.{plain, types_at}
use denote.Slice.{ShrSlice, shr_slice_vals, shr_slice_Tells}
use denote.Steps.{nothing, opens, closes}
use denote.Such.{such_Tells}
use denote.Text.{Utf8, StrRefOf}
use denote.Triple.Walked.{says, Stays, stay_ref, stay_dropped, walk_of, ends_at, Goes-ref, Goes-dropped}
use Rattle.fault_io.specs.declared.requests.Requests.{Requests}
use Rattle.fault_io.specs.contracts.requests.Requests.{the_row as R}
use Rattle.fault_io.specs.contracts.requests.Requests.add as f
use Rattle.fault_io.proofs.requests.Requests.add.Statement.{statement}
use Rattle.fault_io.proofs.requests.Requests.add.Code as code

abbrev stayed : Stays f.ended.signature.params f.ended.kept
stayed = (stay_ref (0 ∷ []) tt (plain (λ _. R)), (stay_dropped (StrRefOf (1 ∷ []) tt) yes, (stay_dropped (plain (λ _. u32)) yes, tt)))

pub add_spec : {M : Type 1} → statement M
add_spec 𝓤 𝓛 𝓜 𝓡 wired =
    let c = f.clauses 𝓛 𝓜.mem 𝓡.returns in let W = walk_of 𝓛 f.ended stayed c in
    proved 𝓛 f.ended stayed c 𝓜 𝓡
    (Goes-ref 𝓛 2 0 tt (plain (λ _. R)), (Goes-dropped 𝓛 2 (StrRefOf (1 ∷ []) tt) yes (λ κs x w. refl), (Goes-dropped 𝓛 2 (plain (λ _. u32)) yes (λ κs x w. refl), tt)))
    f.Key.name code.function (code.unfolded 𝓤 𝓛.H 𝓜 𝓡 wired)
    (λ κs. (mut_vals, (shr_slice_vals, (uint_vals w32, tt))))
    (λ κs. (mut_Tells (named 0) κs.0 R, (such_Tells (ShrSlice (named 1) κs.1.0 (UInt w8)) (λ x. Utf8 x.now) (λ x cs. (tt, tt)) shr_slice_vals (shr_slice_Tells (named 1) κs.1.0 (UInt w8)), (uint_Tells w32, tt))))
    (λ κs qs bounds a _ are.
    let b = a.0.ref_ptr.0 in let o = a.0.ref_ptr.1 in let h = a.0.now in let name = a.1.0 in let limit = a.1.1.0 in
    let y : W.Ghost = ((κs, qs, bounds, a, (mut_vals a.0, (shr_slice_vals name, (uint_vals w32 limit, tt)))), tt) in
    let more : Requests = record { items = h.items ++ record { name = name.now; limit = limit } ∷ [] } in
    qed 𝓛 (((‵ (flft κs.0 qs.0) ⊛ (‵ (flft κs.1.0 qs.1.0) ⊛ ‵ ftrue)) ⊛ ‵ (owns (types_at f.signature.params κs) a y.0.4)) ∷ ‵ ftrue ∷ []) ∵
    split ! $ split ! $ move ! (2 ∷ []) $ fsplit ! $ keep ! (0 ∷ 2 ∷ 3 ∷ []) $
    -- [the reference; its token; the other token]
    enter ! _ _ _ _ _ $ alloc_all ! (λ l. pass_all ! refl ((tt, tt), ((tt, (tt, (record { fits = are.1.0.0.0.1.0 }, tt))), ((tt, record { fits = are.1.1.0.1 }), tt))) $
    fsplit3 ! $ move ! (1 ∷ 2 ∷ 3 ∷ []) $ opens ! tt R b o (λ us.
    sets ! (of_opd ! (unit_lit !)) refl (tt, tt) $
    move ! (1 ∷ []) $ use1 𝓛 (‵ (R.own_val more us)) (id⊢ 𝓤 _) $ move ! (1 ∷ 0 ∷ []) $ closes ! tt R more us b o $
    returns ! (look_at ! 0 refl) $ free_all ! refl $ move ! (3 ∷ []) $
    suffices ! _ (ends_at 𝓛 f.ended stayed c y vunit tt (more, (tt, (tt, tt))) (tt, (tt, (tt, tt)))) $ says ! refl $
    group ! 3 $ nothing ! $ nothing ! $ join ! $ nothing ! $ join ! $ move ! (1 ∷ 0 ∷ []) $ join ! $ move ! (1 ∷ 2 ∷ []) $ join ! $ frame ! $ frame ! $
    feq_i ! _ (vunit ∷ []) _ refl $ done !)))
