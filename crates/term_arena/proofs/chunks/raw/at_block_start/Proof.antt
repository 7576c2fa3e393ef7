-- `at_block_start` returns what it is handed, and its block's token says where the block begins. Assumes `Logic`.
use mathlib.Core.Path.{◌≡◌, refl, sym, subst, ◌∙◌}
use Prim.Native.Nat.{ℕ, zero, ◌<◌, ◌^◌}
use mathlib.Core.List.{List, [], ◌∷◌, ◌++◌}
use lib.Dec.{T, lit<}
use mir.Syntax.{Fn, ty_array}
use mir.Val.{Val, vstruct, of_list, has_ty, WT}
use mir.Raw.{raw as bare}
use seplogic.Ra.Ura.{Ura}
use mir.MapTy.{inst_fn}
use base.Logic.{SProp, ent, emp, guard_i, id⊢}
use prog.Memory.{Memory}
use prog.Routine.{Routine}
use prog.Wp.{WpFn, Tables}
use types.Logic.{Logic, sem}
use contract.Monad.{Fun, fact, fact_i, fact_use}
use contract.Running.{tables, tables_of}
use denote.RattleType.{RattleType, owns}
use denote.Signature.{plain, types_at}
use denote.Steps.{nothing}
use denote.Triple.Clauses.{Clauses, Ended, closing}
use denote.Triple.Entry.{alive}
use denote.Triple.Spec.{Meets, triple_of}
use denote.Triple.Table.{entered}
use sound.WpLaws.{WpFn-mono}
use types.Kit.{‵, raw, ◌⊛◌, given, ◌$◌, ◌∵◌, !, qed, move, keep, drop, use0, use1, learn, split, rewrite, fsplit, fjoin, fpick, feq_l, flt_l, suffices, done}
use types.Run.{of_opd, returns, enter}
use types.ByLocal.{alloc_all, pass_all, free_all, look_at, get, sets}
use denote.Exit.{no}
use denote.Memory.{lone}
use denote.Param.{layout}
use denote.RawPtr.{Ptr, block_ptr, null_ptr, count_of}
use denote.Triple.Walked.{says, Stays, stay_dropped, walk_of, ends_at, Goes-dropped, walk_Meets}
use Rattle.std.specs.contracts.alloc.Global as G
use Rattle.std.specs.contracts.impls.GlobalAllocator.TheImpl.{ghosts}
use Rattle.std.proofs.GlobalToken.{dealloc_token_start}
use Rattle.core.specs.contracts.slots.Lease as Lease
use Rattle.core.proofs.mem.Param.{El, R, args}
use Rattle.core.proofs.slots.Leases.{lease_val}
use Rattle.term_arena.specs.contracts.chunks.raw.at_block_start as F
use Rattle.term_arena.specs.contracts.chunks.raw.at_block_start.Key.{name as #self}
use Rattle.term_arena.proofs.chunks.raw.at_block_start.Statement as stated
use Rattle.term_arena.proofs.chunks.raw.at_block_start.Code as code

module _ (E : El) where
  abbrev here : Fn
  here = inst_fn (args E) code.function

  abbrev ended : Ended
  ended = F.ended E.row

  abbrev Right : RattleType
  Right = Lease.the_row (R E) G.the_row ghosts

  abbrev stayed : Stays ended.signature.params ended.kept
  stayed = (stay_dropped (plain (λ _. Right)) no, tt)

  typed : (p : Ptr) (n : ℕ) → n < 2 ^ 64 → T (has_ty (layout Right) (lease_val p n)) × WT (lease_val p n)
  typed (block_ptr b o) n fn = (tt, (tt, (record { fits = fn }, (tt, tt))))
  typed null_ptr n fn = (tt, (record { fits = lit< tt }, (record { fits = fn }, (tt, tt))))

  module _ {M : Type 1} {𝓤 : Ura M} (𝓛 : Logic 𝓤) where
    -- how it is stored, and where the block begins
    abbrev Says : Right.Denot → List Val → Type 0
    Says d vs = (count_of d.ptr ≡ zero) × (vs ≡ lease_val d.ptr d.len ∷ []) × (d.len < 2 ^ 64)

    told : (d : Right.Denot) (vs : List Val) → ent 𝓤 (sem 𝓛 (Right.own_val d vs)) (fact 𝓤 (Says d vs))
    told d vs =
        let held = ghosts.dealloc_token d.alloc (bare (ty_array (lone (R E).mir) d.len)) d.ptr in
        qed 𝓛 (‵ (Right.own_val d vs) ∷ []) ∵ fsplit ! $ fpick ! (λ vss. fsplit ! $ feq_l ! (λ all. fsplit ! $ feq_l ! (λ e₀. fsplit ! $ fsplit ! $ feq_l ! (λ e₁. flt_l ! (λ fn. fsplit ! $ fpick ! (λ none. fsplit ! $ feq_l ! (λ e₂. drop ! $ drop ! $
        use1 𝓛 (given (count_of d.ptr ≡ zero) (‵ held)) (fact_use 𝓤 (count_of d.ptr ≡ zero) (dealloc_token_start 𝓛 d.alloc (bare (ty_array (lone (R E).mir) d.len)) d.ptr) (guard_i 𝓤 (count_of d.ptr ≡ zero) (sem 𝓛 held))) $ learn ! (λ start.
        use0 𝓛 (raw (fact 𝓤 (Says d vs))) (fact_i 𝓤 (Says d vs) (emp 𝓤) (start, all ∙ (λ i. vstruct (of_list (e₀ i ++ (e₁ i ++ (e₂ i ++ [])))) ∷ []), fn)) $ keep ! (0 ∷ []) $ done !))))))))

  module _ {M : Type 1} {𝓤 : Ura M} (𝓛 : Logic 𝓤) (at_mem : Memory → SProp 𝓤) (run : Routine → Fun 𝓤) (𝓣 : Tables 𝓤 𝓛.H) where
    open 𝓛 use {H}

    abbrev held : Clauses 𝓤 ended
    held = F.clauses E.row 𝓛 at_mem run

    walk : (z : (walk_of 𝓛 ended stayed held).Ghost) → ent 𝓤 ((walk_of 𝓛 ended stayed held).pre z) (WpFn 𝓤 H 𝓣.C 𝓣.Λ here ((walk_of 𝓛 ended stayed held).args z) ((walk_of 𝓛 ended stayed held).post z))
    walk z =
        let d : Right.Denot = z.0.3.0 in let vs : List Val = z.0.4.0 in let v : Val = lease_val d.ptr d.len in
        let Run : List Val → SProp 𝓤 = λ ws. WpFn 𝓤 H 𝓣.C 𝓣.Λ here ws ((walk_of 𝓛 ended stayed held).post z) in
        qed 𝓛 ((raw (alive 𝓛 ended.signature z.0.0 z.0.1) ⊛ ‵ (owns (types_at ended.signature.params z.0.0) z.0.3 z.0.4)) ∷ raw ((held z.0.0 z.0.3).requires z.1) ∷ []) ∵
        split ! $ move ! (1 ∷ []) $ fsplit ! $ keep ! (0 ∷ 2 ∷ []) $
        use1 𝓛 (given (Says 𝓛 d vs) (‵ (Right.own_val d vs))) (fact_use 𝓤 (Says 𝓛 d vs) (told 𝓛 d vs) (guard_i 𝓤 (Says 𝓛 d vs) (sem 𝓛 (Right.own_val d vs)))) $ learn ! (λ is.
        rewrite ! 0 (λ (ws : List Val). ‵ (Right.own_val d ws)) is.1 refl $
        suffices ! (Run (v ∷ [])) (subst (λ (ws : List Val). ent 𝓤 (Run (v ∷ [])) (Run (ws ++ []))) (sym is.1) (id⊢ 𝓤 (Run (v ∷ [])))) $
        enter ! 𝓣.C 𝓣.Λ here (v ∷ []) _ $ alloc_all ! (λ l. pass_all ! refl (typed d.ptr d.len is.2, tt) $
        sets ! (of_opd ! (get ! refl)) refl (typed d.ptr d.len is.2) $
        returns ! (look_at ! 0 refl) $ free_all ! refl $
        suffices ! _ (ends_at 𝓛 ended stayed held z v d (tt, tt) (tt, tt)) $ says ! (refl, is.0) $
        nothing ! $ nothing ! $ fjoin ! $ keep ! (2 ∷ 0 ∷ 1 ∷ []) $ done !))

    meets : Meets 𝓛 ended.signature (WpFn 𝓤 H 𝓣.C 𝓣.Λ here) (closing 𝓛 ended held)
    meets = walk_Meets 𝓛 ended stayed (Goes-dropped 𝓛 1 (plain (λ _. Right)) no (λ κs x f. refl), tt) held (WpFn 𝓤 H 𝓣.C 𝓣.Λ here) (WpFn-mono 𝓤 H 𝓛.laws 𝓣 here) walk

pub at_block_start_spec : {M : Type 1} → stated.statement M
unfolding tables_of
at_block_start_spec 𝓤 𝓛 𝓜 𝓡 wired X L =
    let E : El = record { row = X; laws = L } in
    let 𝓣 : Tables 𝓤 𝓛.H = tables_of 𝓤 𝓛.H 𝓜 (tables 𝓤 𝓛.H 𝓜 𝓡 𝓡.env) in
    entered 𝓤 𝓛.H (triple_of 𝓛 (F.signature X) (F.spec X 𝓛 𝓜.mem 𝓡.returns)) 𝓣.C 𝓣.Λ (#self (args E)) (here E) (code.unfolded 𝓤 𝓛.H 𝓜 𝓡 wired (X, tt))
    (meets E 𝓛 𝓜.mem 𝓡.returns 𝓣)
