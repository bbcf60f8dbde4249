-- A call for C by a handle, beside which C passes four things: as `Lent`, with two more. It is the
-- same walk for each such export.
use Rattle.std.proofs.Common.{true, ℕ, List, [], ◌∷◌, refl, w32}
use seplogic.Ra.Ura.{Ura}
use base.Fraction.{full_share}
use mir.Syntax.{Body as Code, Callee, Fn, Local, named, erased, mut, ty_int, ty_ptr, ty_ref, place}
use mir.Syntax.{copy, local, value_local, assign, rv_opd, call, seq, return}
use base.Logic.{ent, sep, id⊢}
use base.Fml.{Lft, Share}
use prog.Wp.{Calls, Loops}
use types.Logic.{Logic, sem}
use types.Kit.{keep, at_ret, ‵, raw, ◌⊛◌, ◌$◌, ◌∵◌, !, qed, by, move, drop, split, fsplit, fjoin}
use types.Run.{exec, stop, addr, of_opd, and_then, no_more, first, blocks, returns, enter}
use types.ByLocal.{env, alloc_all, pass_all, free_all, look_at, get, sets, sets_last, lands_as, through}
use sound.WpLaws.{FmC}
use denote.Exit.{see, yes}
use denote.RattleType.{owns}
use denote.Laws.{Is, shows}
use denote.Memory.{part_at, pointee, lone}
use denote.Plain.{uint_Lawful}
use denote.Builtin.{u32}
use denote.RawPtr.{Ptr, block_ptr, RawPtr, rawptr_vals, rawptr_Tells, lies_at}
use denote.Signature.{Slot, plain}
use denote.Steps.{peeks, nothing}
use denote.Triple.Statement.{Triple}
use denote.Triple.Clauses.{Ended}
use denote.Triple.Entry.{alive}
use denote.Triple.Walked.{AllGo, Goes-dropped, Stays, stay_dropped}
use Rattle.std.proofs.raw_atomic.Walks.{leaves}
use Rattle.clsm_c.proofs.Exporting.{Begins, Ends, Export, Exported, Lending, Outcome, Safe, Single, Walk}
use Rattle.clsm_c.proofs.Exporting.{at_blocks, borrows, calls_lending, ended_of, export, exported, fn_of, keeps_handle, left_there, lends}
use Rattle.clsm_c.proofs.Passed.{Goes-handed, Passed, handed, row, slot_at}

-- the type of the handle, and what is passed
module _ (R : Single) (P Q S T : Passed) where
  -- the safe function: a `&mut` to the handle, and what is passed
  abbrev inner : Lending
  inner = record {
    n = 4;
    R = R;
    ps = slot_at 5 1 tt P ∷ slot_at 5 2 tt Q ∷ slot_at 5 3 tt S ∷ slot_at 5 4 tt T ∷ [];
    ks = (yes, (yes, (yes, (yes, tt))));
    S = u32;
  }

  -- the export: a pointer in the place of the first
  abbrev params : List (Slot 4)
  params = plain (λ _. RawPtr) ∷ slot_at 4 0 tt P ∷ slot_at 4 1 tt Q ∷ slot_at 4 2 tt S ∷ slot_at 4 3 tt T ∷ []

  abbrev outer : Ended
  outer = ended_of 4 params (yes, (yes, (yes, (yes, (yes, tt))))) u32

  abbrev stayed : Stays (outer).signature.params (outer).kept
  stayed = (
    stay_dropped (plain (λ _. RawPtr)) yes,
    (handed (slot_at 4 0 tt P), (handed (slot_at 4 1 tt Q), (handed (slot_at 4 2 tt S), (handed (slot_at 4 3 tt T), tt)))),
  )

  goes : {M : Type 1} {𝓤 : Ura M} (𝓛 : Logic 𝓤) → AllGo 𝓛 4 (outer).signature.params (outer).kept stayed
  goes 𝓛 = (
    Goes-dropped 𝓛 4 (plain (λ _. RawPtr)) yes (λ κs x g. refl),
    (
      Goes-handed 𝓛 4 (slot_at 4 0 tt P),
      (Goes-handed 𝓛 4 (slot_at 4 1 tt Q), (Goes-handed 𝓛 4 (slot_at 4 2 tt S), (Goes-handed 𝓛 4 (slot_at 4 3 tt T), tt))),
    ),
  )

  -- what the call does: the handle before, what was passed before the last, the handle after, the
  -- last, and the code
  abbrev pub Deed : Type 1
  Deed = (R.row).Denot → P.Sight → Q.Sight → S.Sight → (R.row).Denot → T.Sight → ℕ → Type 0

  abbrev locals : List Local
  locals =
      local (ty_int w32) value_local ∷ local ty_ptr value_local ∷ local ((P.parts).ty (named 0)) value_local ∷ local ((Q.parts).ty (named 1)) value_local
      ∷ local ((S.parts).ty (named 2)) value_local ∷ local ((T.parts).ty (named 3)) value_local
      ∷ local (ty_ref erased mut (pointee (R.row).written)) value_local ∷ local (ty_ref erased mut (pointee (R.row).written)) value_local
      ∷ local ty_ptr value_local ∷ local ((P.parts).ty erased) value_local ∷ local ((Q.parts).ty erased) value_local
      ∷ local ((S.parts).ty erased) value_local ∷ local ((T.parts).ty erased) value_local ∷ []

  module _ (callee : Callee) where
    abbrev rest : Code
    rest =
        seq (assign (place 6 []) (rv_opd (copy (place 7 []))))
        (seq (assign (place 9 []) (P.source 2))
        (seq (assign (place 10 []) (Q.source 3))
        (seq (assign (place 11 []) (S.source 4))
        (seq (assign (place 12 []) (T.source 5))
        (seq (call callee
        (copy (place 6 []) ∷ copy (place 9 []) ∷ copy (place 10 []) ∷ copy (place 11 []) ∷ copy (place 12 []) ∷ []) (place 0 []))
        return)))))

    abbrev function : Fn
    function = fn_of 4 5 locals (seq (borrows 8 7 (lone (R.row).mir)) rest)

module _ (R : Single) (P Q S T : Passed) (Does : Deed R P Q S T) (callee : Callee) {M : Type 1} {𝓤 : Ura M} (𝓛 : Logic 𝓤) where
  abbrev outcome : Outcome (lends (inner R P Q S T))
  outcome κs a r e =
      Does a.0.now (P.sees κs.1.0 a.1.0 e.1.0) (Q.sees κs.1.1.0 a.1.1.0 e.1.1.0) (S.sees κs.1.1.1.0 a.1.1.1.0 e.1.1.1.0) e.0.now
      (T.sees κs.1.1.1.1.0 a.1.1.1.1.0 e.1.1.1.1.0) r

  abbrev X : Export 𝓛
  X = export (outer R P Q S T) (stayed R P Q S T)
      (λ κs a. keeps_handle 𝓛 (outer R P Q S T) κs R.row a.0 (λ x z r e.
      Does x (P.sees κs.0 a.1.0 e.1.0) (Q.sees κs.1.0 a.1.1.0 e.1.1.0) (S.sees κs.1.1.0 a.1.1.1.0 e.1.1.1.0) z
      (T.sees κs.1.1.1.0 a.1.1.1.1.0 e.1.1.1.1.0) r))
      (function R P Q S T callee) callee (Safe 𝓛 (lends (inner R P Q S T)) outcome)

  module _ (C : Calls 𝓤 𝓛.H) (Λ : Loops 𝓤 𝓛.H) (fm : FmC 𝓤 𝓛.H 𝓛.laws C) (known : Triple 𝓤 (C callee) (Safe 𝓛 (lends (inner R P Q S T)) outcome))
      (κ₁ κ₂ κ₃ κ₄ : Lft) (q₁ q₂ q₃ q₄ : Share) (s₁ : (P.parts).Denot) (s₂ : (Q.parts).Denot) (s₃ : (S.parts).Denot) (s₄ : (T.parts).Denot)
      (x : (R.row).Denot)
      (passed₁ : Is (row P.parts (named 0) κ₁) s₁ ((P.parts).val s₁ ∷ [])) (passed₂ : Is (row Q.parts (named 1) κ₂) s₂ ((Q.parts).val s₂ ∷ []))
      (passed₃ : Is (row S.parts (named 2) κ₃) s₃ ((S.parts).val s₃ ∷ [])) (passed₄ : Is (row T.parts (named 3) κ₄) s₄ ((T.parts).val s₄ ∷ [])) where
    abbrev bound : Ptr → (Walk X).Ghost
    bound p = (
      (
        (κ₁, (κ₂, (κ₃, (κ₄, tt)))),
        (q₁, (q₂, (q₃, (q₄, tt)))),
        tt,
        (p, (s₁, (s₂, (s₃, (s₄, tt))))),
        (rawptr_vals p, ((P.parts).val s₁ ∷ [], ((Q.parts).val s₂ ∷ [], ((S.parts).val s₃ ∷ [], ((T.parts).val s₄ ∷ [], tt))))),
      ),
      x,
    )

    walk : (b o : ℕ) → ent 𝓤 (sep 𝓤 (Begins X (bound (block_ptr b o))) (sem 𝓛 (part_at R.row full_share x b o))) (Ends X C Λ (bound (block_ptr b o)))
    walk b o =
        let y : (Walk X).Ghost = bound (block_ptr b o) in
        qed 𝓛 ((raw (alive 𝓛 (outer R P Q S T).signature y.0.0 y.0.1)
        ⊛ ‵ (owns (RawPtr ∷ row P.parts (named 0) κ₁ ∷ row Q.parts (named 1) κ₂ ∷ row S.parts (named 2) κ₃ ∷ row T.parts (named 3) κ₄ ∷ []) y.0.3 y.0.4))
        ∷ ‵ (part_at R.row full_share x b o) ∷ []) ∵
        split ! $ move ! (1 ∷ []) $ fsplit ! $ drop ! $
        -- [what the others own; the tokens; the handle]
        enter ! C Λ (X).code ((Walk X).args y) _ $
        alloc_all ! (λ l. pass_all ! refl (
          (tt, tt),
          (
            P.typed (named 0) (named 0) κ₁ s₁ passed₁,
            (
              Q.typed (named 1) (named 1) κ₂ s₂ passed₂,
              (S.typed (named 2) (named 2) κ₃ s₃ passed₃, (T.typed (named 3) (named 3) κ₄ s₄ passed₄, tt)),
            ),
          ),
        ) $
        first ! $ blocks ! $ sets ! (of_opd ! (get ! refl)) refl (tt, tt) $ sets_last ! (addr ! (through ! refl (stop !))) refl (tt, tt) $
        exec ! C Λ (env (X).code.locals l) (rest R P Q S T callee) (at_ret (env (X).code.locals l) ((Walk X).post y)) $
        sets ! (of_opd ! (get ! refl)) refl (tt, tt) $
        sets ! (P.hands s₁ 2 ! refl) refl (P.typed (named 0) erased κ₁ s₁ passed₁) $
        sets ! (Q.hands s₂ 3 ! refl) refl (Q.typed (named 1) erased κ₂ s₂ passed₂) $
        sets ! (S.hands s₃ 4 ! refl) refl (S.typed (named 2) erased κ₃ s₃ passed₃) $
        sets ! (T.hands s₄ 5 ! refl) refl (T.typed (named 3) erased κ₄ s₄ passed₄) $ move ! (1 ∷ []) $
        calls_lending ! fm (inner R P Q S T) outcome known y.0.0 y.0.1 b o x (λ _. y.0.3.1) (λ _. y.0.4.1)
        (‵ (owns (row P.parts (named 0) κ₁ ∷ row Q.parts (named 1) κ₂ ∷ row S.parts (named 2) κ₃ ∷ row T.parts (named 3) κ₄ ∷ []) y.0.3.1 y.0.4.1))
        (λ κ₀. id⊢ 𝓤 _)
        (λ κ₀ γ. and_then ! (get ! refl) (and_then ! (get ! refl) (and_then ! (get ! refl) (and_then ! (get ! refl) (and_then ! (get ! refl) (no_more !))))))
        (λ κ₀ γ v c ws does.
        move ! (1 ∷ []) $ peeks ! u32 (Is u32) (shows 𝓛 u32) c (v ∷ []) (λ is. lands_as ! refl refl ((uint_Lawful 𝓛 w32).typed c _ is).0 $
        returns ! (look_at ! 0 refl) $ free_all ! refl $
        -- [the code; the tokens; the last values; the handle]
        let seen₁ = P.sees κ₁ s₁ (see ((P.parts).exit κ₁ true) s₁ ws.1.0) in
        let seen₂ = Q.sees κ₂ s₂ (see ((Q.parts).exit κ₂ true) s₂ ws.1.1.0) in
        let seen₃ = S.sees κ₃ s₃ (see ((S.parts).exit κ₃ true) s₃ ws.1.1.1.0) in
        let seen₄ = T.sees κ₄ s₄ (see ((T.parts).exit κ₄ true) s₄ ws.1.1.1.1.0) in
        move ! (3 ∷ []) $ left_there ! R.row (block_ptr b o) (λ z. Does x seen₁ seen₂ seen₃ z seen₄ c) ws.0 does $ nothing ! $ move ! (0 ∷ 4 ∷ []) $ fjoin ! $
        keep ! (3 ∷ 0 ∷ 2 ∷ 1 ∷ []) $
        by ! (leaves 𝓛 (X).ended (X).stayed (X).clauses y v c (tt, (ws.1.0, (ws.1.1.0, (ws.1.1.1.0, (ws.1.1.1.1.0, tt)))))
        (tt, (tt, (tt, (tt, (tt, tt)))))))))

    walked : (p : Ptr) → ent 𝓤 (sep 𝓤 (Begins X (bound p)) (sem 𝓛 (lies_at R.row full_share p x))) (Ends X C Λ (bound p))
    walked = at_blocks 𝓛 (λ p. lies_at R.row full_share p x) refl (λ p. Begins X (bound p)) (λ p. Ends X C Λ (bound p)) walk

  pub lent_four : Exported X
  lent_four = exported X (goes R P Q S T 𝓛)
      (λ κs. (rawptr_vals, ((λ s. (P.parts).val s ∷ []), ((λ s. (Q.parts).val s ∷ []), ((λ s. (S.parts).val s ∷ []), ((λ s. (T.parts).val s ∷ []), tt))))))
      (λ κs. (rawptr_Tells, (P.tells (named 0) κs.0, (Q.tells (named 1) κs.1.0, (S.tells (named 2) κs.1.1.0, (T.tells (named 3) κs.1.1.1.0, tt))))))
      (λ C Λ fm known κs qs bounds a x are.
      walked C Λ fm known κs.0 κs.1.0 κs.1.1.0 κs.1.1.1.0 qs.0 qs.1.0 qs.1.1.0 qs.1.1.1.0 a.1.0 a.1.1.0 a.1.1.1.0 a.1.1.1.1.0 x
      are.1.0 are.1.1.0 are.1.1.1.0 are.1.1.1.1.0 a.0)
