-- A call for C by a handle: the handle that lies at the pointer is lent to a safe function for a
-- lifetime that is made for the call, and comes back once that is ended. What C passes beside it is
-- handed on: here two things. It is the same walk for each such export.
use Rattle.std.proofs.Common.{true, ℕ, List, [], ◌∷◌, refl, w32}
use seplogic.Ra.Ura.{Ura}
use base.Fraction.{full_share}
use mir.Syntax.{Body as Code, Callee, Fn, Local, named, erased, mut, ty_int, ty_ptr, ty_ref, place}
use mir.Syntax.{copy, local, value_local, assign, rv_opd, call, seq, return}
use base.Logic.{ent, sep, id⊢}
use base.Fml.{Lft, Share}
use prog.Wp.{Calls, Loops}
use types.Logic.{Logic, sem}
use types.Kit.{keep, at_ret, ‵, raw, ◌⊛◌, ◌$◌, ◌∵◌, !, qed, by, move, drop, split, fsplit, fjoin}
use types.Run.{exec, stop, addr, of_opd, and_then, no_more, first, blocks, returns, enter}
use types.ByLocal.{env, alloc_all, pass_all, free_all, look_at, get, sets, sets_last, lands_as, through}
use sound.WpLaws.{FmC}
use denote.Exit.{see, yes}
use denote.RattleType.{owns}
use denote.Laws.{Is, shows}
use denote.Memory.{part_at, pointee, lone}
use denote.Plain.{uint_Lawful}
use denote.Builtin.{u32}
use denote.RawPtr.{Ptr, block_ptr, RawPtr, rawptr_vals, rawptr_Tells, lies_at}
use denote.Signature.{plain}
use denote.Steps.{peeks, nothing}
use denote.Triple.Statement.{Triple}
use denote.Triple.Clauses.{Ended}
use denote.Triple.Entry.{alive}
use denote.Triple.Walked.{AllGo, Goes-dropped, Stays, stay_dropped}
use Rattle.std.proofs.raw_atomic.Walks.{leaves}
use Rattle.clsm_c.proofs.Exporting.{Begins, Ends, Export, Exported, Lending, Outcome, Safe, Single, Walk}
use Rattle.clsm_c.proofs.Exporting.{at_blocks, borrows, calls_lending, ended_of, export, exported, fn_of, keeps_handle, left_there, lends}
use Rattle.clsm_c.proofs.Passed.{Goes-handed, Passed, handed, row, slot_at}

-- the type of the handle, and what is passed
module _ (R : Single) (P Q : Passed) where
  -- the safe function: a `&mut` to the handle, and what is passed
  abbrev inner : Lending
  inner = record { n = 2; R = R; ps = slot_at 3 1 tt P ∷ slot_at 3 2 tt Q ∷ []; ks = (yes, (yes, tt)); S = u32 }

  -- the export: a pointer in the place of the first
  abbrev outer : Ended
  outer = ended_of 2 (plain (λ _. RawPtr) ∷ slot_at 2 0 tt P ∷ slot_at 2 1 tt Q ∷ []) (yes, (yes, (yes, tt))) u32

  abbrev stayed : Stays (outer).signature.params (outer).kept
  stayed = (stay_dropped (plain (λ _. RawPtr)) yes, (handed (slot_at 2 0 tt P), (handed (slot_at 2 1 tt Q), tt)))

  goes : {M : Type 1} {𝓤 : Ura M} (𝓛 : Logic 𝓤) → AllGo 𝓛 2 (outer).signature.params (outer).kept stayed
  goes 𝓛 = (Goes-dropped 𝓛 2 (plain (λ _. RawPtr)) yes (λ κs x g. refl), (Goes-handed 𝓛 2 (slot_at 2 0 tt P), (Goes-handed 𝓛 2 (slot_at 2 1 tt Q), tt)))

  -- what the call does: the handle before and after, what was passed, and the code
  abbrev pub Deed : Type 1
  Deed = (R.row).Denot → P.Sight → (R.row).Denot → Q.Sight → ℕ → Type 0

  abbrev locals : List Local
  locals =
      local (ty_int w32) value_local ∷ local ty_ptr value_local ∷ local ((P.parts).ty (named 0)) value_local ∷ local ((Q.parts).ty (named 1)) value_local
      ∷ local (ty_ref erased mut (pointee (R.row).written)) value_local ∷ local (ty_ref erased mut (pointee (R.row).written)) value_local
      ∷ local ty_ptr value_local ∷ local ((P.parts).ty erased) value_local ∷ local ((Q.parts).ty erased) value_local ∷ []

  module _ (callee : Callee) where
    abbrev rest : Code
    rest =
        seq (assign (place 4 []) (rv_opd (copy (place 5 []))))
        (seq (assign (place 7 []) (P.source 2))
        (seq (assign (place 8 []) (Q.source 3))
        (seq (call callee (copy (place 4 []) ∷ copy (place 7 []) ∷ copy (place 8 []) ∷ []) (place 0 []))
        return)))

    abbrev function : Fn
    function = fn_of 2 3 locals (seq (borrows 6 5 (lone (R.row).mir)) rest)

module _ (R : Single) (P Q : Passed) (Does : Deed R P Q) (callee : Callee) {M : Type 1} {𝓤 : Ura M} (𝓛 : Logic 𝓤) where
  abbrev outcome : Outcome (lends (inner R P Q))
  outcome κs a r e = Does a.0.now (P.sees κs.1.0 a.1.0 e.1.0) e.0.now (Q.sees κs.1.1.0 a.1.1.0 e.1.1.0) r

  abbrev X : Export 𝓛
  X = export (outer R P Q) (stayed R P Q)
      (λ κs a. keeps_handle 𝓛 (outer R P Q) κs R.row a.0 (λ x z r e. Does x (P.sees κs.0 a.1.0 e.1.0) z (Q.sees κs.1.0 a.1.1.0 e.1.1.0) r))
      (function R P Q callee) callee (Safe 𝓛 (lends (inner R P Q)) outcome)

  module _ (C : Calls 𝓤 𝓛.H) (Λ : Loops 𝓤 𝓛.H) (fm : FmC 𝓤 𝓛.H 𝓛.laws C) (known : Triple 𝓤 (C callee) (Safe 𝓛 (lends (inner R P Q)) outcome))
      (κ κ' : Lft) (q q' : Share) (s : (P.parts).Denot) (s' : (Q.parts).Denot) (x : (R.row).Denot)
      (passed : Is (row P.parts (named 0) κ) s ((P.parts).val s ∷ [])) (passed' : Is (row Q.parts (named 1) κ') s' ((Q.parts).val s' ∷ [])) where
    abbrev bound : Ptr → (Walk X).Ghost
    bound p =
        (((κ, (κ', tt)), (q, (q', tt)), tt, (p, (s, (s', tt))), (rawptr_vals p, ((P.parts).val s ∷ [], ((Q.parts).val s' ∷ [], tt)))), x)

    walk : (b o : ℕ) → ent 𝓤 (sep 𝓤 (Begins X (bound (block_ptr b o))) (sem 𝓛 (part_at R.row full_share x b o))) (Ends X C Λ (bound (block_ptr b o)))
    walk b o =
        let y : (Walk X).Ghost = bound (block_ptr b o) in
        qed 𝓛 ((raw (alive 𝓛 (outer R P Q).signature y.0.0 y.0.1)
        ⊛ ‵ (owns (RawPtr ∷ row P.parts (named 0) κ ∷ row Q.parts (named 1) κ' ∷ []) y.0.3 y.0.4)) ∷ ‵ (part_at R.row full_share x b o) ∷ []) ∵
        split ! $ move ! (1 ∷ []) $ fsplit ! $ drop ! $
        -- [what the others own; the tokens; the handle]
        enter ! C Λ (X).code ((Walk X).args y) _ $
        alloc_all ! (λ l. pass_all ! refl ((tt, tt), (P.typed (named 0) (named 0) κ s passed, (Q.typed (named 1) (named 1) κ' s' passed', tt))) $
        first ! $ blocks ! $ sets ! (of_opd ! (get ! refl)) refl (tt, tt) $ sets_last ! (addr ! (through ! refl (stop !))) refl (tt, tt) $
        exec ! C Λ (env (X).code.locals l) (rest R P Q callee) (at_ret (env (X).code.locals l) ((Walk X).post y)) $
        sets ! (of_opd ! (get ! refl)) refl (tt, tt) $
        sets ! (P.hands s 2 ! refl) refl (P.typed (named 0) erased κ s passed) $
        sets ! (Q.hands s' 3 ! refl) refl (Q.typed (named 1) erased κ' s' passed') $ move ! (1 ∷ []) $
        calls_lending ! fm (inner R P Q) outcome known y.0.0 y.0.1 b o x (λ _. y.0.3.1) (λ _. y.0.4.1)
        (‵ (owns (row P.parts (named 0) κ ∷ row Q.parts (named 1) κ' ∷ []) y.0.3.1 y.0.4.1)) (λ κ₀. id⊢ 𝓤 _)
        (λ κ₀ γ. and_then ! (get ! refl) (and_then ! (get ! refl) (and_then ! (get ! refl) (no_more !)))) (λ κ₀ γ v c ws does.
        move ! (1 ∷ []) $ peeks ! u32 (Is u32) (shows 𝓛 u32) c (v ∷ []) (λ is. lands_as ! refl refl ((uint_Lawful 𝓛 w32).typed c _ is).0 $
        returns ! (look_at ! 0 refl) $ free_all ! refl $
        -- [the code; the tokens; the last values; the handle]
        let seen = P.sees κ s (see ((P.parts).exit κ true) s ws.1.0) in
        let seen' = Q.sees κ' s' (see ((Q.parts).exit κ' true) s' ws.1.1.0) in
        move ! (3 ∷ []) $ left_there ! R.row (block_ptr b o) (λ z. Does x seen z seen' c) ws.0 does $ nothing ! $ move ! (0 ∷ 4 ∷ []) $ fjoin ! $
        keep ! (3 ∷ 0 ∷ 2 ∷ 1 ∷ []) $
        by ! (leaves 𝓛 (X).ended (X).stayed (X).clauses y v c (tt, (ws.1.0, (ws.1.1.0, tt))) (tt, (tt, (tt, tt)))))))

    walked : (p : Ptr) → ent 𝓤 (sep 𝓤 (Begins X (bound p)) (sem 𝓛 (lies_at R.row full_share p x))) (Ends X C Λ (bound p))
    walked = at_blocks 𝓛 (λ p. lies_at R.row full_share p x) refl (λ p. Begins X (bound p)) (λ p. Ends X C Λ (bound p)) walk

  pub lent : Exported X
  lent = exported X (goes R P Q 𝓛) (λ κs. (rawptr_vals, ((λ s. (P.parts).val s ∷ []), ((λ s. (Q.parts).val s ∷ []), tt))))
      (λ κs. (rawptr_Tells, (P.tells (named 0) κs.0, (Q.tells (named 1) κs.1.0, tt))))
      (λ C Λ fm known κs qs bounds a x are. walked C Λ fm known κs.0 κs.1.0 qs.0 qs.1.0 a.1.0 a.1.1.0 x are.1.0 are.1.1.0 a.0)
