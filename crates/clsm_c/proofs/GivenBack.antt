-- A handle that C gives back: it is read out of C's memory, which is room again, and a safe
-- function lets it go. It is the same walk for each such export.
use Rattle.std.proofs.Common.{ℕ, List, [], ◌∷◌, refl, ap}
use seplogic.Ra.Ura.{Ura}
use base.Fraction.{full_share}
use mir.Syntax.{Body as Code, Callee, Fn, Local, Ty, ty_ptr, ty_unit, deref, place}
use mir.Syntax.{copy, opd_unit, local, value_local, assign, rv_opd, call, seq, block, return}
use mir.Val.{Val, vptr, vunit}
use base.Logic.{ent, sep, emp, id⊢}
use base.Fml.{ftrue, fat, froom}
use prog.Wp.{Calls, Loops}
use types.Logic.{Logic, sem}
use types.Kit.{feq_i, feq_l, keep, at_ret, ‵, raw, ◌⊛◌, some, later, ◌$◌, ◌∵◌, !, qed, by, move, drop, use1, split, join, pick, fjoin, await}
use types.Run.{exec, stop, look, load, of_opd, unit_lit, and_then, no_more, first, blocks, returns, enter}
use types.ByLocal.{env, alloc_all, pass_all, free_all, look_at, get, sets, sets_last, lands_as, through}
use sound.WpLaws.{FmC}
use borrow.Table.OneValue.{part_out}
use denote.Builtin.{unit}
use denote.Exit.{yes, no}
use denote.RattleType.{owns}
use denote.Laws.{Is, shows}
use denote.Memory.{part_at, lone}
use denote.Plain.{Nothing}
use denote.RawPtr.{Ptr, block_ptr, RawPtr, rawptr_vals, rawptr_Tells, lies_at, room_at}
use denote.Signature.{plain}
use denote.Steps.{peeks, nothing, only}
use denote.Triple.Statement.{Contract, Triple}
use denote.Triple.Call.{calls_at}
use denote.Triple.Clauses.{Clauses, Ended, ensured, closing}
use denote.Triple.Spec.{triple_of}
use denote.Triple.Walked.{Goes-dropped, stay_dropped}
use Rattle.std.proofs.raw_atomic.Walks.{leaves}
use Rattle.clsm_c.proofs.Exporting.{Begins, Ends, Export, Exported, Handle, Walk, at_blocks, ended_of, export, exported, fn_of}

module _ (R : Handle) where
  -- the safe function, which promises nothing
  abbrev inner : Ended
  inner = ended_of 0 (plain (λ _. R.row) ∷ []) (no, tt) unit

  abbrev inner_clauses : {M : Type 1} (𝓤 : Ura M) → Clauses 𝓤 inner
  inner_clauses 𝓤 κs a = record { ghost = Unit {0}; requires = λ _. emp 𝓤; ensures = λ _ r e. emp 𝓤 }

  abbrev safe : {M : Type 1} {𝓤 : Ura M} → Logic 𝓤 → Contract 𝓤
  safe {𝓤 = 𝓤} 𝓛 = triple_of 𝓛 (inner).signature (closing 𝓛 inner (inner_clauses 𝓤))

  -- the export: a pointer in the place of the handle
  abbrev outer : Ended
  outer = ended_of 0 (plain (λ _. RawPtr) ∷ []) (yes, tt) unit

  abbrev clauses : {M : Type 1} {𝓤 : Ura M} → Logic 𝓤 → Clauses 𝓤 outer
  clauses 𝓛 κs a = record { ghost = (R.row).Denot; requires = λ x. sem 𝓛 (lies_at R.row full_share a.0 x); ensures = λ x r e. sem 𝓛 (room_at R.row a.0) }

  abbrev locals : List Local
  locals =
      local ty_unit value_local ∷ local ty_ptr value_local ∷ local ty_unit value_local ∷ local (lone (R.row).mir) value_local
      ∷ local (lone (R.row).mir) value_local ∷ local ty_ptr value_local ∷ []

  -- the handle is read out of what the pointer points at
  abbrev taken : Code
  taken = seq (assign (place 5 []) (rv_opd (copy (place 1 [])))) (assign (place 4 []) (rv_opd (copy (place 5 (deref (lone (R.row).mir) ∷ [])))))

  module _ (callee : Callee) where
    abbrev rest : Code
    rest =
        seq (assign (place 3 []) (rv_opd (copy (place 4 []))))
        (seq (call callee (copy (place 3 []) ∷ []) (place 2 []))
        (seq (assign (place 0 []) (rv_opd opd_unit))
        return))

    abbrev function : Fn
    function = fn_of 0 1 locals (seq (block taken) rest)

module _ (R : Handle) (callee : Callee) {M : Type 1} {𝓤 : Ura M} (𝓛 : Logic 𝓤) where
  abbrev X : Export 𝓛
  X = export (outer R) (stay_dropped (plain (λ _. RawPtr)) yes, tt) (clauses R 𝓛)
      (function R callee) callee (safe R 𝓛)

  module _ (C : Calls 𝓤 𝓛.H) (Λ : Loops 𝓤 𝓛.H) (fm : FmC 𝓤 𝓛.H 𝓛.laws C) (known : Triple 𝓤 (C callee) (safe R 𝓛)) (x : (R.row).Denot) where
    abbrev τ : Ty
    τ = lone (R.row).mir

    abbrev bound : Ptr → (Walk X).Ghost
    bound p = ((tt, tt, tt, (p, tt), (rawptr_vals p, tt)), x)

    walk : (b o : ℕ) → ent 𝓤 (sep 𝓤 (Begins X (bound (block_ptr b o))) (sem 𝓛 (part_at R.row full_share x b o))) (Ends X C Λ (bound (block_ptr b o)))
    walk b o = let p : Ptr = block_ptr b o in
        qed 𝓛 ((‵ ftrue ⊛ ‵ (owns (RawPtr ∷ []) (p, tt) (rawptr_vals p, tt))) ∷ ‵ (part_at R.row full_share x b o) ∷ []) ∵
        move ! (1 ∷ []) $
        use1 𝓛 (some (λ (v : Val). ‵ (fat full_share τ b o v) ⊛ ‵ ((R.row).own_val x (v ∷ [])))) (part_out 𝓛 R.row R.alone full_share x b o) $
        pick ! (λ v. split ! $ move ! (1 ∷ []) $
        peeks ! R.row (Is R.row) (shows 𝓛 R.row) x (v ∷ []) (λ is. let good = R.typed x v is in
        -- [what the handle owns; the cell; ..]
        enter ! C Λ (X).code (vptr b o ∷ []) _ $
        alloc_all ! (λ l. pass_all ! refl ((tt, tt), tt) $
        first ! $ blocks ! $
        sets ! (of_opd ! (get ! refl)) refl (tt, tt) $
        sets_last ! (of_opd ! (load ! (through ! refl (stop !)) (look ! 1 refl))) refl good $
        exec ! C Λ (env (X).code.locals l) (rest R callee) (at_ret (env (X).code.locals l) ((Walk X).post (bound p))) $
        sets ! (of_opd ! (get ! refl)) refl good $
        let y : (safe R 𝓛).Ghost = ((tt, tt, tt, (x, tt), (v ∷ [], tt)), tt) in
        nothing ! $ move ! (1 ∷ 0 ∷ []) $ fjoin ! $ nothing ! $ join ! $ nothing ! $ move ! (1 ∷ 0 ∷ []) $ join ! $
        use1 𝓛 (raw ((safe R 𝓛).pre y)) (id⊢ 𝓤 _) $
        calls_at ! fm (safe R 𝓛) known y (and_then ! (get ! refl) (no_more !)) (λ w.
        use1 𝓛 (later (some (λ (u : Unit {0}). (‵ ftrue ⊛ ‵ (Nothing.own_val u (w ∷ []))) ⊛ raw (ensured 𝓛 (inner R) (inner_clauses R 𝓤) tt (x, tt) tt u))))
        (id⊢ 𝓤 _) $ await ! tt $ pick ! (λ u. split ! $ split ! $ drop ! $ feq_l ! (λ e.
        lands_as ! (ap only e) refl (tt, tt) $
        sets ! (of_opd ! (unit_lit !)) refl (tt, tt) $
        returns ! (look_at ! 0 refl) $ free_all ! refl $
        drop ! $ use1 𝓛 (‵ (froom τ b o)) (𝓛.laws.at_room τ b o v) $
        feq_i ! (List Val) (vunit ∷ []) (vunit ∷ []) refl $ nothing ! $ nothing ! $ fjoin ! $ nothing ! $
        keep ! (0 ∷ 1 ∷ 2 ∷ 3 ∷ []) $
        by ! (leaves 𝓛 (X).ended (X).stayed (X).clauses (bound p) vunit tt (tt, tt) (tt, tt))))))))

  pub given_back : Exported X
  given_back = exported X (Goes-dropped 𝓛 0 (plain (λ _. RawPtr)) yes (λ κs x g. refl), tt) (λ κs. (rawptr_vals, tt)) (λ κs. (rawptr_Tells, tt))
      (λ C Λ fm known κs qs bounds a x are. at_blocks 𝓛 (λ p. lies_at R.row full_share p x) refl (λ p. Begins X (bound C Λ fm known x p))
      (λ p. Ends X C Λ (bound C Λ fm known x p)) (walk C Λ fm known x) a.0)
