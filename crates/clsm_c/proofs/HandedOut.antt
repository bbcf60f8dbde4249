-- A handle that is made for C: a safe function makes it, and it is written where C has room for it.
-- It is the same walk for each such export.
use Rattle.std.proofs.Common.{ℕ, List, [], ◌∷◌, refl}
use seplogic.Ra.Ura.{Ura}
use base.Fraction.{full_share}
use mir.Syntax.{Body as Code, Callee, Fn, Local, named, erased, imm, mut, ty_ptr, ty_ref, ty_unit, deref, place}
use mir.Syntax.{copy, opd_unit, local, value_local, assign, rv_opd, addr_of, call, seq, block, return}
use mir.Val.{Val, vunit}
use base.Logic.{ent, sep}
use base.Fml.{Lft, Share}
use prog.Wp.{Calls, Loops}
use types.Logic.{Logic, sem}
use types.Kit.{keep, at_ret, ‵, raw, ◌⊛◌, ◌$◌, ◌∵◌, !, qed, by, move, drop, use2, split, fsplit, fjoin, feq_i}
use types.Run.{exec, stop, addr, of_opd, unit_lit, and_then, no_more, first, blocks, returns, enter, assigns_last, init}
use types.ByLocal.{env, alloc_all, pass_all, free_all, look_at, get, sets, lands_as, through}
use sound.WpLaws.{FmC}
use borrow.Table.OneValue.{part_in}
use denote.Exit.{yes}
use denote.RattleType.{owns}
use denote.Laws.{Is, shows}
use denote.Memory.{pointee, lone, part_at}
use denote.Builtin.{RefOf, RefMutOf, unit}
use denote.Ref.{MutBor, MutRef, Bor, ShrRef, mut_vals, mut_Tells, shr_vals, shr_Tells}
use denote.RawPtr.{Ptr, block_ptr, RawPtr, rawptr_vals, rawptr_Tells, room_at}
use denote.Signature.{Slot, plain}
use denote.Steps.{peeks, nothing}
use denote.Struct.Laws.{vals, tells}
use denote.Triple.Statement.{Triple}
use denote.Triple.Clauses.{Clauses, Ended}
use denote.Triple.Entry.{alive}
use denote.Triple.Walked.{AllGo, Goes-dropped, Goes-gave_ref, Stays, stay_dropped, gave_ref}
use Rattle.std.proofs.raw_atomic.Walks.{leaves}
use Rattle.std.specs.contracts.alloc.Global as heap
use Rattle.std.proofs.alloc.Global.TheLaws as heap_laws
use Rattle.clsm_c.specs.Lent.{left}
use Rattle.clsm_c.proofs.Exporting.{Begins, Ends, Export, Exported, Handle, Outcome, Safe, Single, Walk}
use Rattle.clsm_c.proofs.Exporting.{at_blocks, calls_safe, ended_of, export, exported, fn_of, left_there}

-- the type of the handle, what is asked, and the type of the answer
module _ (R : Handle) (A B : Single) where
  abbrev asked : Slot 2
  asked = RefOf (0 ∷ []) tt (plain (λ _. A.row)) (λ _. A.one)

  abbrev inner : Ended
  inner = ended_of 2 (plain (λ _. heap.the_row) ∷ asked ∷ RefMutOf (1 ∷ []) tt (plain (λ _. B.row)) (λ _. B.one) ∷ []) (yes, (yes, (yes, tt))) R.row

  -- the export: a pointer in the place of the result
  abbrev params : List (Slot 2)
  params = plain (λ _. heap.the_row) ∷ asked ∷ RefMutOf (1 ∷ []) tt (plain (λ _. B.row)) (λ _. B.one) ∷ plain (λ _. RawPtr) ∷ []

  abbrev outer : Ended
  outer = ended_of 2 params (yes, (yes, (yes, (yes, tt)))) unit

  abbrev stayed : Stays (outer).signature.params (outer).kept
  stayed = (
    stay_dropped (plain (λ _. heap.the_row)) yes,
    (stay_dropped asked yes, (gave_ref (1 ∷ []) tt (plain (λ _. B.row)), (stay_dropped (plain (λ _. RawPtr)) yes, tt))),
  )

  goes : {M : Type 1} {𝓤 : Ura M} (𝓛 : Logic 𝓤) → AllGo 𝓛 2 (outer).signature.params (outer).kept stayed
  goes 𝓛 = (
    Goes-dropped 𝓛 2 (plain (λ _. heap.the_row)) yes (λ κs x g. refl),
    (
      Goes-dropped 𝓛 2 asked yes (λ κs x g. refl),
      (Goes-gave_ref 𝓛 2 1 tt (plain (λ _. B.row)), (Goes-dropped 𝓛 2 (plain (λ _. RawPtr)) yes (λ κs x g. refl), tt)),
    ),
  )

  -- what is made: of what was asked, the answer and the handle
  abbrev pub Deed : Type 1
  Deed = (A.row).Denot → (B.row).Denot → (R.row).Denot → Type 0

  abbrev locals : List Local
  locals =
      local ty_unit value_local ∷ local (lone (heap.the_row).mir) value_local ∷ local (ty_ref (named 0) imm (pointee (A.row).written)) value_local
      ∷ local (ty_ref (named 1) mut (pointee (B.row).written)) value_local ∷ local ty_ptr value_local ∷ local (lone (R.row).mir) value_local
      ∷ local (ty_ref erased mut (pointee (B.row).written)) value_local ∷ []

  module _ (callee : Callee) where
    abbrev rest : Code
    rest = seq (assign (place 0 []) (rv_opd opd_unit)) return

    abbrev function : Fn
    function = fn_of 2 4 locals (seq (block (seq (assign (place 6 []) (addr_of (place 3 (deref (lone (B.row).mir) ∷ []))))
        (seq (call callee (copy (place 1 []) ∷ copy (place 2 []) ∷ copy (place 6 []) ∷ []) (place 5 []))
        (assign (place 4 (deref (lone (R.row).mir) ∷ [])) (rv_opd (copy (place 5 []))))))) rest)

module _ (R : Handle) (A B : Single) (Makes : Deed R A B) (callee : Callee) {M : Type 1} {𝓤 : Ura M} (𝓛 : Logic 𝓤) where
  abbrev outcome : Outcome (inner R A B)
  outcome κs a r e = Makes a.1.0.now e.1.1.0.now r

  abbrev clauses : Clauses 𝓤 (outer R A B)
  clauses κs a = record {
    ghost = Unit {0};
    requires = λ _. sem 𝓛 (room_at R.row a.1.1.1.0);
    ensures = λ _ r e. sem 𝓛 (left R.row a.1.1.1.0 (λ z. Makes a.1.0.now e.1.1.0.now z));
  }

  abbrev X : Export 𝓛
  X = export (outer R A B) (stayed R A B) clauses (function R A B callee) callee (Safe 𝓛 (inner R A B) outcome)

  module _ (C : Calls 𝓤 𝓛.H) (Λ : Loops 𝓤 𝓛.H) (fm : FmC 𝓤 𝓛.H 𝓛.laws C) (known : Triple 𝓤 (C callee) (Safe 𝓛 (inner R A B) outcome))
      (κ κ' : Lft) (q q' : Share) (a : (heap.the_row).Denot) (here : Is heap.the_row a (vals heap.the_type heap_laws.the_laws a))
      (s : Bor (A.row).Denot) (r : MutBor (B.row).Denot) where
    abbrev avals : List Val
    avals = vals heap.the_type heap_laws.the_laws a

    abbrev bound : Ptr → (Walk X).Ghost
    bound p = (((κ, (κ', tt)), (q, (q', tt)), tt, (a, (s, (r, (p, tt)))), (avals, (shr_vals s, (mut_vals r, (rawptr_vals p, tt))))), tt)

    walk : (b o : ℕ) → ent 𝓤 (sep 𝓤 (Begins X (bound (block_ptr b o))) (sem 𝓛 (room_at R.row (block_ptr b o)))) (Ends X C Λ (bound (block_ptr b o)))
    walk b o =
        let p : Ptr = block_ptr b o in
        let y : (Walk X).Ghost = bound p in
        qed 𝓛 ((raw (alive 𝓛 (outer R A B).signature y.0.0 y.0.1)
        ⊛ ‵ (owns (heap.the_row ∷ ShrRef (named 0) κ A.row ∷ MutRef (named 1) κ' B.row ∷ RawPtr ∷ []) y.0.3 y.0.4)) ∷ ‵ (room_at R.row p) ∷ []) ∵
        split ! $ move ! (1 ∷ []) $ fsplit ! $ move ! (1 ∷ []) $ fsplit ! $ move ! (1 ∷ []) $ fsplit ! $ move ! (1 ∷ []) $ fsplit ! $ drop ! $
        -- [true; answer; ask; the allocator; the tokens; the room]
        move ! (1 ∷ 0 ∷ []) $ fjoin ! $ move ! (1 ∷ 0 ∷ []) $ fjoin ! $ move ! (1 ∷ 0 ∷ []) $ fjoin ! $
        enter ! C Λ (X).code ((Walk X).args y) _ $
        alloc_all ! (λ l. pass_all ! refl
        (((heap_laws.the_row_laws.lawful 𝓛).typed a _ here).0, ((tt, tt), ((tt, tt), ((tt, tt), tt)))) $
        first ! $ blocks ! $ sets ! (addr ! (through ! refl (stop !))) refl (tt, tt) $ move ! (1 ∷ []) $
        calls_safe ! fm (inner R A B) outcome known (κ, (κ', tt)) (q, (q', tt)) tt (a, (s, (r, tt))) (avals, (shr_vals s, (mut_vals r, tt)))
        (and_then ! (get ! refl) (and_then ! (get ! refl) (and_then ! (get ! refl) (no_more !)))) (λ v d ws makes.
        -- [the tokens; what the handle owns; the last values; the room]
        move ! (2 ∷ []) $ fsplit ! $ drop ! $ fsplit ! $ drop ! $ fsplit ! $ move ! (3 ∷ []) $
        -- [what the handle owns; the last answer; true; the tokens; the room]
        peeks ! R.row (Is R.row) (shows 𝓛 R.row) d (v ∷ []) (λ is. let good = R.typed d v is in
        lands_as ! refl refl good $
        assigns_last ! (of_opd ! (get ! refl)) (through ! refl (stop !)) (init ! 4 refl good) $
        exec ! C Λ (env (X).code.locals l) (rest R A B callee) (at_ret (env (X).code.locals l) ((Walk X).post y)) $
        sets ! (of_opd ! (unit_lit !)) refl (tt, tt) $
        returns ! (look_at ! 0 refl) $ free_all ! refl $
        move ! (4 ∷ 0 ∷ []) $ use2 𝓛 (‵ (part_at R.row full_share d b o)) (part_in 𝓛 R.row R.alone full_share d b o v) $
        left_there ! R.row p (λ z. Makes s.now ws.1.1.0 z) d makes $
        feq_i ! (List Val) (vunit ∷ []) (vunit ∷ []) refl $
        -- [the unit; the handle; the last answer; true; the tokens]
        nothing ! $ nothing ! $ fjoin ! $ move ! (3 ∷ 0 ∷ []) $ fjoin ! $ nothing ! $ fjoin ! $ nothing ! $ fjoin ! $
        keep ! (4 ∷ 0 ∷ 1 ∷ 2 ∷ []) $
        by ! (leaves 𝓛 (X).ended (X).stayed (X).clauses y vunit tt (tt, (tt, (ws.1.1.0, (tt, tt)))) (tt, (tt, (tt, (tt, tt))))))))

    walked : (p : Ptr) → ent 𝓤 (sep 𝓤 (Begins X (bound p)) (sem 𝓛 (room_at R.row p))) (Ends X C Λ (bound p))
    walked = at_blocks 𝓛 (room_at R.row) refl (λ p. Begins X (bound p)) (λ p. Ends X C Λ (bound p)) walk

  pub handed_out : Exported X
  handed_out = exported X (goes R A B 𝓛) (λ κs. (vals heap.the_type heap_laws.the_laws, (shr_vals, (mut_vals, (rawptr_vals, tt)))))
      (λ κs. (tells heap.the_type heap_laws.the_laws, (shr_Tells (named 0) κs.0 A.row, (mut_Tells (named 1) κs.1.0 B.row, (rawptr_Tells, tt)))))
      (λ C Λ fm known κs qs bounds a g are. walked C Λ fm known κs.0 κs.1.0 qs.0 qs.1.0 a.0 are.0 a.1.0 a.1.1.0 a.1.1.1.0)
