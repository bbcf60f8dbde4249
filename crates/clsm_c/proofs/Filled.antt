-- A call for C by a handle that fills rows of C's: as `Lent`, with a `&mut` to rows between what is
-- asked, a value or rows, and the answer. It is the same walk for each such export.
use Rattle.std.proofs.Common.{true, ℕ, ◌^◌, ◌<◌, List, [], ◌∷◌, length, refl, w32}
use seplogic.Ra.Ura.{Ura}
use base.Fraction.{full_share}
use mir.Syntax.{Body as Code, Callee, Fn, Local, named, erased, mut, ty_int, ty_ptr, ty_ref, deref, field, place}
use mir.Syntax.{copy, local, value_local, assign, rv_opd, addr_of, aggregate, call, seq, return}
use base.Logic.{ent, sep, id⊢}
use base.Fml.{Lft, Share}
use prog.Wp.{Calls, Loops}
use types.Logic.{Logic, sem}
use types.Kit.{feq_l, keep, at_ret, ‵, raw, ◌⊛◌, ◌$◌, ◌∵◌, !, qed, by, move, drop, split, fsplit, fjoin}
use types.Part.{whole, sub, agg}
use types.Run.{exec, stop, fld, hop, from, addr, of_opd, and_then, no_more, first, blocks, returns, enter}
use types.ByLocal.{env, alloc_all, pass_all, free_all, look_at, look_in_at, get, get_in, sets, sets_last, lands_as, through}
use sound.WpLaws.{FmC}
use denote.Exit.{see, yes}
use denote.RattleType.{owns}
use denote.Laws.{Is, shows}
use denote.Memory.{part_at, pointee, lone}
use denote.Plain.{uint_Lawful}
use denote.Builtin.{u32, RefMutOf, SliceRefMutOf}
use denote.Ref.{MutBor, MutRef, mut_vals, mut_Tells}
use denote.Slice.{MutSlice, mut_slice_vals, mut_slice_Tells, slice_ty}
use denote.RawPtr.{Ptr, block_ptr, RawPtr, rawptr_vals, rawptr_Tells, lies_at}
use denote.Signature.{Slot, plain}
use denote.Steps.{peeks, nothing}
use denote.Triple.Statement.{Triple}
use denote.Triple.Clauses.{Ended}
use denote.Triple.Entry.{alive}
use denote.Triple.Walked.{AllGo, Goes-dropped, Goes-gave_ref, Goes-gave_slice, Stays, stay_dropped, gave_ref, gave_slice}
use Rattle.std.proofs.raw_atomic.Walks.{leaves}
use Rattle.clsm_c.proofs.Exporting.{Begins, Ends, Export, Exported, Lending, Outcome, Safe, Single, Walk}
use Rattle.clsm_c.proofs.Exporting.{at_blocks, borrows, calls_lending, ended_of, export, exported, fn_of, keeps_handle, left_there, lends}
use Rattle.clsm_c.proofs.Passed.{Goes-handed, Passed, handed, row, slot_at}

-- the type of the handle, what is asked, and the types of a row and of the answer
module _ (R : Single) (P : Passed) (E B : Single) where
  abbrev inner : Lending
  inner = record {
    n = 3;
    R = R;
    ps = slot_at 4 1 tt P ∷ SliceRefMutOf (2 ∷ []) tt (plain (λ _. E.row)) (λ _. E.one) ∷ RefMutOf (3 ∷ []) tt (plain (λ _. B.row)) (λ _. B.one) ∷ [];
    ks = (yes, (yes, (yes, tt)));
    S = u32;
  }

  abbrev params : List (Slot 3)
  params = plain (λ _. RawPtr) ∷ slot_at 3 0 tt P ∷ SliceRefMutOf (1 ∷ []) tt (plain (λ _. E.row)) (λ _. E.one)
      ∷ RefMutOf (2 ∷ []) tt (plain (λ _. B.row)) (λ _. B.one) ∷ []

  abbrev outer : Ended
  outer = ended_of 3 params (yes, (yes, (yes, (yes, tt)))) u32

  abbrev stayed : Stays (outer).signature.params (outer).kept
  stayed = (
    stay_dropped (plain (λ _. RawPtr)) yes,
    (handed (slot_at 3 0 tt P), (gave_slice (1 ∷ []) tt (plain (λ _. E.row)), (gave_ref (2 ∷ []) tt (plain (λ _. B.row)), tt))),
  )

  goes : {M : Type 1} {𝓤 : Ura M} (𝓛 : Logic 𝓤) → AllGo 𝓛 3 (outer).signature.params (outer).kept stayed
  goes 𝓛 = (
    Goes-dropped 𝓛 3 (plain (λ _. RawPtr)) yes (λ κs x g. refl),
    (Goes-handed 𝓛 3 (slot_at 3 0 tt P), (Goes-gave_slice 𝓛 3 1 tt (plain (λ _. E.row)), (Goes-gave_ref 𝓛 3 2 tt (plain (λ _. B.row)), tt))),
  )

  -- what the call does: the handle before and after, what was asked, the rows before and after, the
  -- answer, and the code
  abbrev pub Deed : Type 1
  Deed = (R.row).Denot → P.Sight → List (E.row).Denot → (R.row).Denot → List (E.row).Denot → (B.row).Denot → ℕ → Type 0

  abbrev locals : List Local
  locals =
      local (ty_int w32) value_local ∷ local ty_ptr value_local ∷ local ((P.parts).ty (named 0)) value_local
      ∷ local (slice_ty (ty_ref (named 1) mut (pointee (E.row).written))) value_local
      ∷ local (ty_ref (named 2) mut (pointee (B.row).written)) value_local
      ∷ local (ty_ref erased mut (pointee (R.row).written)) value_local ∷ local (ty_ref erased mut (pointee (R.row).written)) value_local
      ∷ local ty_ptr value_local
      ∷ local ((P.parts).ty erased) value_local ∷ local (ty_ref erased mut (pointee (E.row).written)) value_local
      ∷ local (slice_ty (ty_ref erased mut (pointee (E.row).written))) value_local
      ∷ local (ty_ref erased mut (pointee (B.row).written)) value_local ∷ []

  module _ (callee : Callee) where
    abbrev rest : Code
    rest =
        seq (assign (place 5 []) (rv_opd (copy (place 6 []))))
        (seq (assign (place 8 []) (P.source 2))
        (seq (assign (place 9 []) (addr_of (place 3 (field 0 ∷ deref (lone (E.row).mir) ∷ []))))
        (seq (assign (place 10 []) (aggregate (copy (place 9 []) ∷ copy (place 3 (field 1 ∷ [])) ∷ [])))
        (seq (assign (place 11 []) (addr_of (place 4 (deref (lone (B.row).mir) ∷ []))))
        (seq (call callee (copy (place 5 []) ∷ copy (place 8 []) ∷ copy (place 10 []) ∷ copy (place 11 []) ∷ []) (place 0 []))
        return)))))

    abbrev function : Fn
    function = fn_of 3 4 locals (seq (borrows 7 6 (lone (R.row).mir)) rest)

module _ (R : Single) (P : Passed) (E B : Single) (Does : Deed R P E B) (callee : Callee) {M : Type 1} {𝓤 : Ura M} (𝓛 : Logic 𝓤) where
  abbrev outcome : Outcome (lends (inner R P E B))
  outcome κs a r e = Does a.0.now (P.sees κs.1.0 a.1.0 e.1.0) a.1.1.0.now e.0.now e.1.1.0.now e.1.1.1.0.now r

  abbrev X : Export 𝓛
  X = export (outer R P E B) (stayed R P E B)
      (λ κs a. keeps_handle 𝓛 (outer R P E B) κs R.row a.0 (λ x z r e. Does x (P.sees κs.0 a.1.0 e.1.0) a.1.1.0.now z e.1.1.0.now e.1.1.1.0.now r))
      (function R P E B callee) callee (Safe 𝓛 (lends (inner R P E B)) outcome)

  module _ (C : Calls 𝓤 𝓛.H) (Λ : Loops 𝓤 𝓛.H) (fm : FmC 𝓤 𝓛.H 𝓛.laws C) (known : Triple 𝓤 (C callee) (Safe 𝓛 (lends (inner R P E B)) outcome))
      (κ κ' κ'' : Lft) (q q' q'' : Share) (s : (P.parts).Denot) (w : MutBor (List (E.row).Denot)) (count : length w.now < 2 ^ 64)
      (r : MutBor (B.row).Denot) (x : (R.row).Denot) (passed : Is (row P.parts (named 0) κ) s ((P.parts).val s ∷ [])) where
    abbrev bound : Ptr → (Walk X).Ghost
    bound p =
        (((κ, (κ', (κ'', tt))), (q, (q', (q'', tt))), tt, (p, (s, (w, (r, tt)))), (rawptr_vals p, ((P.parts).val s ∷ [], (mut_slice_vals w, (mut_vals r, tt))))), x)

    walk : (b o : ℕ) → ent 𝓤 (sep 𝓤 (Begins X (bound (block_ptr b o))) (sem 𝓛 (part_at R.row full_share x b o))) (Ends X C Λ (bound (block_ptr b o)))
    walk b o =
        let y : (Walk X).Ghost = bound (block_ptr b o) in
        qed 𝓛 ((raw (alive 𝓛 (outer R P E B).signature y.0.0 y.0.1)
        ⊛ ‵ (owns (RawPtr ∷ row P.parts (named 0) κ ∷ MutSlice (named 1) κ' E.row ∷ MutRef (named 2) κ'' B.row ∷ []) y.0.3 y.0.4))
        ∷ ‵ (part_at R.row full_share x b o) ∷ []) ∵
        split ! $ move ! (1 ∷ []) $ fsplit ! $ drop ! $
        enter ! C Λ (X).code ((Walk X).args y) _ $
        alloc_all ! (λ l. pass_all ! refl ((tt, tt), (P.typed (named 0) (named 0) κ s passed, ((tt, (tt, (record { fits = count }, tt))), ((tt, tt), tt)))) $
        first ! $ blocks ! $ sets ! (of_opd ! (get ! refl)) refl (tt, tt) $ sets_last ! (addr ! (through ! refl (stop !))) refl (tt, tt) $
        exec ! C Λ (env (X).code.locals l) (rest R P E B callee) (at_ret (env (X).code.locals l) ((Walk X).post y)) $
        sets ! (of_opd ! (get ! refl)) refl (tt, tt) $
        sets ! (P.hands s 2 ! refl) refl (P.typed (named 0) erased κ s passed) $
        sets ! (addr ! (from ! (fld ! refl (hop ! (look_in_at ! 3 (sub ! 0 refl (whole !))) (stop !))))) refl (tt, tt) $
        sets ! (agg ! (and_then ! (get ! refl) (and_then ! (get_in ! (fld ! refl (stop !)) (sub ! 1 refl (whole !))) (no_more !)))) refl
        (tt, (tt, (record { fits = count }, tt))) $
        sets ! (addr ! (through ! refl (stop !))) refl (tt, tt) $ move ! (1 ∷ []) $
        calls_lending ! fm (inner R P E B) outcome known y.0.0 y.0.1 b o x (λ _. y.0.3.1) (λ _. y.0.4.1)
        (‵ (owns (row P.parts (named 0) κ ∷ MutSlice (named 1) κ' E.row ∷ MutRef (named 2) κ'' B.row ∷ []) y.0.3.1 y.0.4.1)) (λ κ₀. id⊢ 𝓤 _)
        (λ κ₀ γ. and_then ! (get ! refl) (and_then ! (get ! refl) (and_then ! (get ! refl) (and_then ! (get ! refl) (no_more !))))) (λ κ₀ γ v c ws does.
        -- [the tokens; the code; the last values; the handle]
        move ! (2 ∷ []) $ fsplit ! $ move ! (1 ∷ []) $ fsplit ! $ fsplit ! $ fsplit ! $ move ! (1 ∷ []) $ feq_l ! (λ same. fjoin ! $ fjoin ! $
        move ! (1 ∷ []) $ fjoin ! $
        -- [the last values; the tokens; the code; the handle]
        move ! (2 ∷ []) $ peeks ! u32 (Is u32) (shows 𝓛 u32) c (v ∷ []) (λ is. lands_as ! refl refl ((uint_Lawful 𝓛 w32).typed c _ is).0 $
        returns ! (look_at ! 0 refl) $ free_all ! refl $
        let seen = P.sees κ s (see ((P.parts).exit κ true) s ws.1.0) in
        move ! (3 ∷ []) $ left_there ! R.row (block_ptr b o) (λ z. Does x seen w.now z ws.1.1.0 ws.1.1.1.0 c) ws.0 does $
        -- [the handle; the code; the last values; the tokens]
        nothing ! $ move ! (0 ∷ 3 ∷ []) $ fjoin ! $ keep ! (3 ∷ 0 ∷ 2 ∷ 1 ∷ []) $
        by ! (leaves 𝓛 (X).ended (X).stayed (X).clauses y v c (tt, (ws.1.0, (ws.1.1.0, (ws.1.1.1.0, tt)))) (tt, (tt, (same, (tt, tt)))))))))

    walked : (p : Ptr) → ent 𝓤 (sep 𝓤 (Begins X (bound p)) (sem 𝓛 (lies_at R.row full_share p x))) (Ends X C Λ (bound p))
    walked = at_blocks 𝓛 (λ p. lies_at R.row full_share p x) refl (λ p. Begins X (bound p)) (λ p. Ends X C Λ (bound p)) walk

  pub filled : Exported X
  filled = exported X (goes R P E B 𝓛) (λ κs. (rawptr_vals, ((λ s. (P.parts).val s ∷ []), (mut_slice_vals, (mut_vals, tt)))))
      (λ κs. (rawptr_Tells, (P.tells (named 0) κs.0, (mut_slice_Tells (named 1) κs.1.0 E.row, (mut_Tells (named 2) κs.1.1.0 B.row, tt)))))
      (λ C Λ fm known κs qs bounds a x are.
      walked C Λ fm known κs.0 κs.1.0 κs.1.1.0 qs.0 qs.1.0 qs.1.1.0 a.1.0 a.1.1.0 are.1.1.0.0.1.0 a.1.1.1.0 x are.1.0 a.0)
