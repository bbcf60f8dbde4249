-- A handle that is made of another: the one is lent to a safe function, and what that makes is
-- written where C has room for it. It is the same walk for each such export.
use Rattle.std.proofs.Common.{ℕ, List, [], ◌∷◌, refl}
use seplogic.Ra.Ura.{Ura}
use base.Fraction.{full_share}
use mir.Syntax.{Body as Code, Callee, Fn, Local, named, erased, mut, ty_ptr, ty_ref, ty_unit, deref, place, copy}
use mir.Syntax.{opd_unit, local, value_local, assign, rv_opd, addr_of, call, seq, block, return}
use mir.Val.{Val, vunit}
use base.Logic.{ent, sep, via, fst∗, snd∗, never, never_e, id⊢}
use base.Fml.{Lft, Share, ftrue, fsep, fex}
use prog.Wp.{Calls, Loops}
use types.Logic.{Logic, sem}
use types.Kit.{keep, at_ret, ‵, raw, ◌⊛◌, ◌$◌, ◌∵◌, !, qed, by, move, drop, use2, split, fsplit, fjoin, fpack, feq_i}
use types.Run.{exec, stop, addr, of_opd, unit_lit, and_then, no_more, first, blocks, returns, enter, assigns_last, init}
use types.ByLocal.{env, alloc_all, pass_all, free_all, look_at, get, sets, sets_last, lands_as, through}
use sound.WpLaws.{FmC}
use borrow.Table.OneValue.{part_in}
use denote.Exit.{yes}
use denote.RattleType.{owns}
use denote.Laws.{Is, shows}
use denote.Memory.{pointee, lone, part_at}
use denote.Builtin.{RefMutOf, unit}
use denote.Ref.{MutBor, MutRef, mut_vals, mut_Tells}
use denote.RawPtr.{Ptr, block_ptr, null_ptr, RawPtr, rawptr_vals, rawptr_Tells, lies_at, room_at}
use denote.Signature.{plain}
use denote.Steps.{peeks, nothing}
use denote.Triple.Statement.{Triple}
use denote.Triple.Clauses.{Clauses, Ended}
use denote.Triple.Entry.{alive}
use denote.Triple.Walked.{AllGo, Goes-dropped, Goes-gave_ref, Stays, stay_dropped, gave_ref}
use Rattle.std.proofs.raw_atomic.Walks.{leaves}
use Rattle.clsm_c.specs.Lent.{both}
use Rattle.clsm_c.proofs.Exporting.{Begins, Ends, Export, Exported, Handle, Lending, Outcome, Safe, Single, Walk}
use Rattle.clsm_c.proofs.Exporting.{borrows, calls_lending, ended_of, export, exported, fn_of, lends}

-- the types of the handle, of the one that is made of it and of the answer
module _ (R : Single) (S : Handle) (B : Single) where
  abbrev inner : Lending
  inner = record { n = 1; R = R; ps = RefMutOf (1 ∷ []) tt (plain (λ _. B.row)) (λ _. B.one) ∷ []; ks = (yes, tt); S = S.row }

  -- the export: a pointer in the place of the first, and one in that of the result
  abbrev outer : Ended
  outer = ended_of 1 (plain (λ _. RawPtr) ∷ RefMutOf (0 ∷ []) tt (plain (λ _. B.row)) (λ _. B.one) ∷ plain (λ _. RawPtr) ∷ []) (yes, (yes, (yes, tt))) unit

  abbrev stayed : Stays (outer).signature.params (outer).kept
  stayed = (stay_dropped (plain (λ _. RawPtr)) yes, (gave_ref (0 ∷ []) tt (plain (λ _. B.row)), (stay_dropped (plain (λ _. RawPtr)) yes, tt)))

  goes : {M : Type 1} {𝓤 : Ura M} (𝓛 : Logic 𝓤) → AllGo 𝓛 1 (outer).signature.params (outer).kept stayed
  goes 𝓛 = (
    Goes-dropped 𝓛 1 (plain (λ _. RawPtr)) yes (λ κs x g. refl),
    (Goes-gave_ref 𝓛 1 0 tt (plain (λ _. B.row)), (Goes-dropped 𝓛 1 (plain (λ _. RawPtr)) yes (λ κs x g. refl), tt)),
  )

  -- what is made: of the handle before and after, the answer, and what was made of it
  abbrev pub Deed : Type 1
  Deed = (R.row).Denot → (R.row).Denot → (B.row).Denot → (S.row).Denot → Type 0

  abbrev locals : List Local
  locals =
      local ty_unit value_local ∷ local ty_ptr value_local ∷ local (ty_ref (named 0) mut (pointee (B.row).written)) value_local ∷ local ty_ptr value_local
      ∷ local (lone (S.row).mir) value_local ∷ local (ty_ref erased mut (pointee (R.row).written)) value_local
      ∷ local (ty_ref erased mut (pointee (R.row).written)) value_local ∷ local ty_ptr value_local
      ∷ local (ty_ref erased mut (pointee (B.row).written)) value_local ∷ local ty_ptr value_local ∷ local (lone (S.row).mir) value_local ∷ []

  module _ (callee : Callee) where
    abbrev last : Code
    last = seq (assign (place 0 []) (rv_opd opd_unit)) return

    abbrev rest : Code
    rest =
        seq (assign (place 5 []) (rv_opd (copy (place 6 []))))
        (seq (assign (place 8 []) (addr_of (place 2 (deref (lone (B.row).mir) ∷ []))))
        (seq (call callee (copy (place 5 []) ∷ copy (place 8 []) ∷ []) (place 4 []))
        (seq (block (seq (assign (place 9 []) (rv_opd (copy (place 3 []))))
        (seq (assign (place 10 []) (rv_opd (copy (place 4 []))))
        (assign (place 9 (deref (lone (S.row).mir) ∷ [])) (rv_opd (copy (place 10 [])))))))
        last)))

    abbrev function : Fn
    function = fn_of 1 3 locals (seq (borrows 7 6 (lone (R.row).mir)) rest)

module _ (R : Single) (S : Handle) (B : Single) (Makes : Deed R S B) (callee : Callee) {M : Type 1} {𝓤 : Ura M} (𝓛 : Logic 𝓤) where
  abbrev outcome : Outcome (lends (inner R S B))
  outcome κs a r e = Makes a.0.now e.0.now e.1.0.now r

  abbrev clauses : Clauses 𝓤 (outer R S B)
  clauses κs a = record {
    ghost = (R.row).Denot;
    requires = λ x. sep 𝓤 (sem 𝓛 (lies_at R.row full_share a.0 x)) (sem 𝓛 (room_at S.row a.1.1.0));
    ensures = λ x r e. sem 𝓛 (both R.row S.row a.0 a.1.1.0 (λ z y. Makes x z e.1.0.now y));
  }

  abbrev X : Export 𝓛
  X = export (outer R S B) (stayed R S B) clauses (function R S B callee) callee (Safe 𝓛 (lends (inner R S B)) outcome)

  module _ (C : Calls 𝓤 𝓛.H) (Λ : Loops 𝓤 𝓛.H) (fm : FmC 𝓤 𝓛.H 𝓛.laws C) (known : Triple 𝓤 (C callee) (Safe 𝓛 (lends (inner R S B)) outcome))
      (κ : Lft) (q : Share) (r : MutBor (B.row).Denot) (x : (R.row).Denot) where
    abbrev bound : Ptr → Ptr → (Walk X).Ghost
    bound from p = (((κ, tt), (q, tt), tt, (from, (r, (p, tt))), (rawptr_vals from, (mut_vals r, (rawptr_vals p, tt)))), x)

    walk : (b o b' o' : ℕ) → let y : (Walk X).Ghost = bound (block_ptr b o) (block_ptr b' o') in
        ent 𝓤 (sep 𝓤 (Begins X y) (sep 𝓤 (sem 𝓛 (part_at R.row full_share x b o)) (sem 𝓛 (room_at S.row (block_ptr b' o'))))) (Ends X C Λ y)
    walk b o b' o' =
        let from : Ptr = block_ptr b o in
        let p : Ptr = block_ptr b' o' in
        let y : (Walk X).Ghost = bound from p in
        qed 𝓛 ((raw (alive 𝓛 (outer R S B).signature y.0.0 y.0.1) ⊛ ‵ (owns (RawPtr ∷ MutRef (named 0) κ B.row ∷ RawPtr ∷ []) y.0.3 y.0.4))
        ∷ ‵ (part_at R.row full_share x b o) ∷ ‵ (room_at S.row p) ∷ []) ∵
        split ! $ move ! (1 ∷ []) $ fsplit ! $ drop ! $ fsplit ! $ move ! (1 ∷ []) $ fsplit ! $ drop ! $ move ! (1 ∷ []) $ fjoin ! $
        -- [what the answer's owns; the tokens; the handle; the room]
        enter ! C Λ (X).code ((Walk X).args y) _ $
        alloc_all ! (λ l. pass_all ! refl ((tt, tt), ((tt, tt), ((tt, tt), tt))) $
        first ! $ blocks ! $ sets ! (of_opd ! (get ! refl)) refl (tt, tt) $ sets_last ! (addr ! (through ! refl (stop !))) refl (tt, tt) $
        exec ! C Λ (env (X).code.locals l) (rest R S B callee) (at_ret (env (X).code.locals l) ((Walk X).post y)) $
        sets ! (of_opd ! (get ! refl)) refl (tt, tt) $
        sets ! (addr ! (through ! refl (stop !))) refl (tt, tt) $ move ! (1 ∷ []) $
        calls_lending ! fm (inner R S B) outcome known y.0.0 y.0.1 b o x (λ _. (r, tt)) (λ _. (mut_vals r, tt))
        (‵ (owns (MutRef (named 0) κ B.row ∷ []) (r, tt) (mut_vals r, tt))) (λ κ₀. id⊢ 𝓤 _)
        (λ κ₀ γ. and_then ! (get ! refl) (and_then ! (get ! refl) (no_more !))) (λ κ₀ γ v d ws makes.
        -- [the tokens; what is made owns; the last answer; the handle; the room]
        move ! (1 ∷ []) $ peeks ! S.row (Is S.row) (shows 𝓛 S.row) d (v ∷ []) (λ is. let good = S.typed d v is in
        lands_as ! refl refl good $
        first ! $ blocks ! $ sets ! (of_opd ! (get ! refl)) refl (tt, tt) $ sets ! (of_opd ! (get ! refl)) refl good $
        assigns_last ! (of_opd ! (get ! refl)) (through ! refl (stop !)) (init ! 4 refl good) $
        exec ! C Λ (env (X).code.locals l) (last R S B callee) (at_ret (env (X).code.locals l) ((Walk X).post y)) $
        sets ! (of_opd ! (unit_lit !)) refl (tt, tt) $
        returns ! (look_at ! 0 refl) $ free_all ! refl $
        -- [what is made owns; the tokens; the last answer; the handle; the cell]
        move ! (4 ∷ 0 ∷ []) $ use2 𝓛 (‵ (part_at S.row full_share d b' o')) (part_in 𝓛 S.row S.alone full_share d b' o' v) $
        nothing ! $ fpack ! (Makes x ws.0 ws.1.0 d) (λ _. ftrue) makes $ move ! (1 ∷ 0 ∷ []) $ fjoin ! $ move ! (3 ∷ 0 ∷ []) $ fjoin ! $
        fpack ! (S.row).Denot
        (λ y. fsep (lies_at R.row full_share from ws.0) (fsep (lies_at S.row full_share p y) (fex (Makes x ws.0 ws.1.0 y) (λ _. ftrue)))) d $
        fpack ! (R.row).Denot (λ z. fex (S.row).Denot
        (λ y. fsep (lies_at R.row full_share from z) (fsep (lies_at S.row full_share p y) (fex (Makes x z ws.1.0 y) (λ _. ftrue))))) ws.0 $
        feq_i ! (List Val) (vunit ∷ []) (vunit ∷ []) refl $
        -- [the unit; both handles; the tokens; the last answer]
        move ! (3 ∷ []) $ fsplit ! $ move ! (1 ∷ []) $ nothing ! $ fjoin ! $ move ! (1 ∷ 0 ∷ []) $ fjoin ! $ nothing ! $ fjoin ! $
        keep ! (3 ∷ 0 ∷ 1 ∷ 2 ∷ []) $
        by ! (leaves 𝓛 (X).ended (X).stayed (X).clauses y vunit tt (tt, (ws.1.0, (tt, tt))) (tt, (tt, (tt, tt)))))))

    walked : (from p : Ptr) → ent 𝓤 (sep 𝓤 (Begins X (bound from p)) (sep 𝓤 (sem 𝓛 (lies_at R.row full_share from x)) (sem 𝓛 (room_at S.row p))))
        (Ends X C Λ (bound from p))
    walked (block_ptr b o) (block_ptr b' o') = walk b o b' o'
    walked (block_ptr b o) null_ptr = via 𝓤 _ (snd∗ 𝓤 (Begins X (bound (block_ptr b o) null_ptr)) _)
        (via 𝓤 (never 𝓤) (snd∗ 𝓤 (sem 𝓛 (part_at R.row full_share x b o)) (never 𝓤)) (never_e 𝓤 _))
    walked null_ptr p = via 𝓤 _ (snd∗ 𝓤 (Begins X (bound null_ptr p)) _) (via 𝓤 (never 𝓤) (fst∗ 𝓤 (never 𝓤) (sem 𝓛 (room_at S.row p))) (never_e 𝓤 _))

  pub dealt : Exported X
  dealt = exported X (goes R S B 𝓛) (λ κs. (rawptr_vals, (mut_vals, (rawptr_vals, tt))))
      (λ κs. (rawptr_Tells, (mut_Tells (named 0) κs.0 B.row, (rawptr_Tells, tt))))
      (λ C Λ fm known κs qs bounds a x are. walked C Λ fm known κs.0 qs.0 a.1.0 x a.0 a.1.1.0)
