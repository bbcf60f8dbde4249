-- What the proofs of all exports share. An export calls a safe function, whose contract asks for
-- nothing, and lends it a handle that lies in C's memory.
use Rattle.std.proofs.Common.{◌≡◌, ℕ, suc, List, [], ◌∷◌, subst, sym}
use seplogic.Ra.Ura.{Ura}
use base.Fraction.{full_share}
use lib.Dec.{T}
use mir.Syntax.{Body as Code, Callee, Fn, Local, Opd as Operand, Place, Ty, named}
use mir.Syntax.{addr_of, assign, block, call, copy, deref, place, rv_opd, seq}
use mir.Val.{Val, vptr, has_ty, WT}
use base.Logic.{SProp, ent, sep, emp, via, snd∗, never_e, id⊢}
use base.Fml.{Fml, Lft, GName, ffalse, ftrue, fsep, flft, flent, fex}
use prog.Model.{Model}
use prog.Wp.{Calls, Closed, Env, Loops, WpFn}
use types.Logic.{Logic, sem}
use types.SemTy.{Body}
use contract.Lifetimes.{AllOutlive, Lfts, Shares, toks}
use contract.Monad.{fact}
use contract.Running.{Running, tables, tables_of}
use types.Kit.{Goal, Item, Post, Seq, Step, lands, mean, runs, step, ‵, raw, ◌⊛◌, some, later, ◌$◌}
use types.Kit.{move, drop, use1, use3, split, join, pick, fsplit, fjoin, fpack, await}
use types.Run.{Opds}
use types.Tokens.{lft_new, lft_end}
use sound.WpLaws.{FmC, fm_of}
use denote.Exit.{yes}
use denote.RattleType.{RattleType, Denots, Valss, flat, owns}
use denote.Laws.{Are, Is, Ises, Spells, Tellss, valss}
use denote.Memory.{lone, mem, part_at}
use denote.Builtin.{One, RefMutOf}
use denote.Lend.{lends_ref, ref_back}
use denote.RawPtr.{Ptr, block_ptr, null_ptr, lies_at}
use denote.Ref.{MutRef}
use denote.Signature.{Slot, plain, type_at, types_at}
use denote.Steps.{heard, nothing}
use denote.Triple.Statement.{Contract, Triple}
use denote.Triple.Call.{calls_at}
use denote.Triple.Clauses.{AtExit, Clauses, ClausesAt, Ended, Lasts, at_exit, closing, lasts}
use denote.Triple.End.{Kepts, lasts_of}
use denote.Triple.Entry.{Args, Res, Vals, alive, on_entry}
use denote.Triple.Spec.{Meets, triple_of}
use denote.Triple.Walked.{AllGo, Stays, walk_of}
use Rattle.std.proofs.raw_atomic.Walks.{proved}
use Rattle.clsm_c.specs.Lent.{left}

-- a type of one machine value
pub record Single : Type 2 where
  pub row : RattleType
  pub one : One row.mir

abbrev pub single : (R : RattleType) → One R.mir → Single
single R one = record { row = R; one = one }

-- the type of a handle, which is read and written whole
pub record Handle : Type 2 where
  pub row : RattleType
  pub alone : row.mir ≡ lone row.mir ∷ []
  pub typed : (d : row.Denot) (v : Val) → Is row d (v ∷ []) → T (has_ty (lone row.mir) v) × WT v

-- ---- signatures and code

-- a signature of n lifetimes with no bounds
abbrev pub ended_of : (n : ℕ) (ps : List (Slot n)) → Kepts ps → RattleType → Ended
ended_of n ps ks S = record { signature = record { lifetimes = n; outlives = []; params = ps; result = plain (λ _. S) }; kept = ks }

abbrev pub fn_of : ℕ → ℕ → List Local → Code → Fn
fn_of n params locals body = record { lifetimes = n; outlives = []; ty_params = []; givens = 0; params = params; locals = locals; body = body }

-- the handle that the pointer in local 1 points at is lent to local j, by way of local i
abbrev pub borrows : (i j : ℕ) → Ty → Code
borrows i j τ = block (seq (assign (place i []) (rv_opd (copy (place 1 [])))) (assign (place j []) (addr_of (place i (deref τ ∷ [])))))

-- ---- the contract of a safe function

-- what is so once it returns: of its arguments, its result, and its parameters then
abbrev pub Outcome : Ended → Type 1
Outcome T = (κs : Lfts T.signature.lifetimes) → Args T.signature κs → Res T.signature κs → AtExit T κs → Type 0

-- it asks for nothing
abbrev pub Safe : {M : Type 1} {𝓤 : Ura M} → Logic 𝓤 → (T : Ended) → Outcome T → Contract 𝓤
Safe {𝓤 = 𝓤} 𝓛 T P = triple_of 𝓛 T.signature
    (closing 𝓛 T (λ κs a. record { ghost = Unit {0}; requires = λ _. emp 𝓤; ensures = λ _ r e. fact 𝓤 (P κs a r e) }))

-- ---- safe functions to which a handle is lent

-- a signature that begins with a `&mut` to the handle, of the first lifetime
pub record Lending : Type 2 where
  pub n : ℕ
  pub R : Single
  pub ps : List (Slot (suc n))
  pub ks : Kepts ps
  pub S : RattleType

abbrev pub lends : Lending → Ended
lends L = ended_of (suc L.n) (RefMutOf (0 ∷ []) tt (plain (λ _. (L.R).row)) (λ _. (L.R).one) ∷ L.ps) (yes, L.ks) L.S

-- a call of it with the handle x at a block and a count of bytes, for a lifetime κ₀
module _ (L : Lending) (κs : Lfts L.n) (qs : Shares L.n) (b o : ℕ) (x : (L.R).row.Denot) (args : (κ₀ : Lft) → Denots (types_at L.ps (κ₀, κs)))
    (vals : (κ₀ : Lft) → Valss (types_at L.ps (κ₀, κs))) where
  -- the arguments
  abbrev pub given : (κ₀ : Lft) → GName → Args (lends L).signature (κ₀, κs)
  given κ₀ γ = (record { ref_ptr = (b, o); ghost_name = γ; now = x }, args κ₀)

  -- all that the contract binds
  abbrev pub bound : {M : Type 1} {𝓤 : Ura M} (𝓛 : Logic 𝓤) (P : Outcome (lends L)) → Lft → GName → (Safe 𝓛 (lends L) P).Ghost
  bound 𝓛 P κ₀ γ = (((κ₀, κs), (full_share, qs), tt, given κ₀ γ, (vptr b o ∷ [], vals κ₀)), tt)

-- ---- an export, and the safe function that it calls

-- its signature, what it has of its parameters at the end, its clauses, its code, and the name and
-- the contract of the safe function
pub record Export {M : Type 1} {𝓤 : Ura M} (𝓛 : Logic 𝓤) : Type 2 where
  pub ended : Ended
  pub stayed : Stays ended.signature.params ended.kept
  pub clauses : Clauses 𝓤 ended
  pub code : Fn
  pub callee : Callee
  pub safe : Contract 𝓤

abbrev pub export : {M : Type 1} {𝓤 : Ura M} {𝓛 : Logic 𝓤} (T : Ended) → Stays T.signature.params T.kept → Clauses 𝓤 T → Fn → Callee → Contract 𝓤 → Export 𝓛
export T hs c e f safe = record { ended = T; stayed = hs; clauses = c; code = e; callee = f; safe = safe }

module _ {M : Type 1} {𝓤 : Ura M} {𝓛 : Logic 𝓤} (X : Export 𝓛) where
  abbrev pub Walk : Contract 𝓤
  Walk = walk_of 𝓛 X.ended X.stayed X.clauses

  -- what there is on entry, beside the `requires`
  abbrev pub Begins : (Walk).Ghost → SProp 𝓤
  Begins y = on_entry 𝓛 (X.ended).signature y.0.0 y.0.1 y.0.3 y.0.4

  -- the code runs to what is owed at its end
  abbrev pub Ends : Calls 𝓤 𝓛.H → Loops 𝓤 𝓛.H → (Walk).Ghost → SProp 𝓤
  Ends C Λ y = WpFn 𝓤 𝓛.H C Λ X.code ((Walk).args y) ((Walk).post y)

  abbrev n : ℕ
  n = (X.ended).signature.lifetimes

  abbrev params : Lfts n → List RattleType
  params = types_at (X.ended).signature.params

  -- the export under the name k meets its contract, if the safe function meets its own
  abbrev pub Exported : Type 2
  Exported = (𝓜 : Model 𝓤 𝓛.H) (𝓡 : Running 𝓤 𝓛.H 𝓜) (k : Callee)
      → Closed 𝓤 𝓛.H (tables 𝓤 𝓛.H 𝓜 𝓡 𝓡.env).C (tables 𝓤 𝓛.H 𝓜 𝓡 𝓡.env).Λ k X.code → Triple 𝓤 (𝓡.run (𝓡.env X.callee)) X.safe
      → Meets 𝓛 (X.ended).signature (𝓡.run (𝓡.env k)) (closing 𝓛 X.ended X.clauses)

  -- by a walk of its code
  pub exported : AllGo 𝓛 n (X.ended).signature.params (X.ended).kept X.stayed
      → (vals : (κs : Lfts n) → Spells (params κs)) → ((κs : Lfts n) → Tellss (params κs) (Ises (params κs)) (vals κs))
      → ((C : Calls 𝓤 𝓛.H) (Λ : Loops 𝓤 𝓛.H) → FmC 𝓤 𝓛.H 𝓛.laws C → Triple 𝓤 (C X.callee) X.safe
      → (κs : Lfts n) (qs : Shares n) (bounds : AllOutlive n (X.ended).signature.outlives κs) (a : Args (X.ended).signature κs) (g : (X.clauses κs a).ghost)
      → Are (params κs) (Ises (params κs)) a (valss (params κs) (vals κs) a)
      → ent 𝓤 (sep 𝓤 (Begins ((κs, qs, bounds, a, valss (params κs) (vals κs) a), g)) ((X.clauses κs a).requires g))
      (Ends C Λ ((κs, qs, bounds, a, valss (params κs) (vals κs) a), g)))
      → Exported
  unfolding tables_of
  exported goes vals tells walk 𝓜 𝓡 k closed known = let 𝓣 = tables 𝓤 𝓛.H 𝓜 𝓡 𝓡.env in
      proved 𝓛 X.ended X.stayed X.clauses 𝓜 𝓡 goes k X.code closed vals tells
      (walk 𝓣.C 𝓣.Λ (fm_of 𝓤 𝓛.H 𝓛.laws (tables_of 𝓤 𝓛.H 𝓜 𝓣)) known)

-- a walk from a handle, or from room for one, in a block: nothing lies at null
module _ {M : Type 1} {𝓤 : Ura M} (𝓛 : Logic 𝓤) (At : Ptr → Fml) (empty : At null_ptr ≡ ffalse) (P Q : Ptr → SProp 𝓤)
    (walk : (b o : ℕ) → ent 𝓤 (sep 𝓤 (P (block_ptr b o)) (sem 𝓛 (At (block_ptr b o)))) (Q (block_ptr b o))) where
  pub at_blocks : (p : Ptr) → ent 𝓤 (sep 𝓤 (P p) (sem 𝓛 (At p))) (Q p)
  at_blocks (block_ptr b o) = walk b o
  at_blocks null_ptr = via 𝓤 (sem 𝓛 (At null_ptr)) (snd∗ 𝓤 (P null_ptr) (sem 𝓛 (At null_ptr)))
      (subst (λ (F : Fml). ent 𝓤 (sem 𝓛 F) (Q null_ptr)) (sym empty) (never_e 𝓤 (Q null_ptr)))

-- the clauses of an export to which a handle is lent: it lies at p before and after, and this is so
abbrev pub keeps_handle : {M : Type 1} {𝓤 : Ura M} → Logic 𝓤 → (T : Ended) (κs : Lfts T.signature.lifetimes) (R : RattleType) → Ptr
    → (R.Denot → R.Denot → Res T.signature κs → AtExit T κs → Type 0) → ClausesAt 𝓤 T κs
keeps_handle 𝓛 T κs R p P = record {
  ghost = R.Denot;
  requires = λ x. sem 𝓛 (lies_at R full_share p x);
  ensures = λ x r e. sem 𝓛 (left R p (λ z. P x z r e));
}

-- ---- steps of a walk

module _ {M : Type 1} {𝓤 : Ura M} {𝓛 : Logic 𝓤} {K : Type 0} {Γ : List (Item 𝓤)} where
  -- a handle lies at p, of which this is so
  pub left_there : K → {G : Goal 𝓤 𝓛.H} (R : RattleType) (p : Ptr) (P : R.Denot → Type 0) (z : R.Denot) → P z
      → Step K 𝓛 (‵ (left R p P) ∷ Γ) G (‵ (lies_at R full_share p z) ∷ Γ) G
  left_there t R p P z is = step (λ s. nothing t $ fpack t (P z) (λ _. ftrue) is $ move t (1 ∷ 0 ∷ []) $ fjoin t $
      fpack t R.Denot (λ z. fsep (lies_at R full_share p z) (fex (P z) (λ _. ftrue))) z $ s)

module _ {M : Type 1} {𝓤 : Ura M} {𝓛 : Logic 𝓤} {K : Type 0} {Γ : List (Item 𝓤)}
    {C : Calls 𝓤 𝓛.H} {Λ : Loops 𝓤 𝓛.H} {E : Env 𝓤 𝓛.H} {q : Post 𝓤 𝓛.H} {f : Callee} {xs : List Operand} {d : Place} where
  -- the safe function is called with what its parameters own
  pub calls_safe : K → FmC 𝓤 𝓛.H 𝓛.laws C → {rest : Code} (T : Ended) (P : Outcome T) → Triple 𝓤 (C f) (Safe 𝓛 T P)
      → (κs : Lfts T.signature.lifetimes) (qs : Shares T.signature.lifetimes) (bounds : AllOutlive T.signature.lifetimes T.signature.outlives κs)
      → (a : Args T.signature κs) (vss : Vals T.signature κs)
      → Opds K 𝓛 (raw ((Safe 𝓛 T P).pre ((κs, qs, bounds, a, vss), tt)) ∷ Γ) E xs (flat (types_at T.signature.params κs) vss)
      → ((v : Val) (r : Res T.signature κs) (ws : Lasts T κs a) → P κs a r (at_exit T κs a ws)
      → Seq K 𝓛 (raw (alive 𝓛 T.signature κs qs) ∷ ‵ ((type_at T.signature.result κs).own_val r (v ∷ [])) ∷ ‵ (lasts T κs a ws) ∷ Γ)
      (lands C Λ E d v rest q))
      → Seq K 𝓛 (raw (alive 𝓛 T.signature κs qs) ∷ ‵ (owns (types_at T.signature.params κs) a vss) ∷ Γ) (runs C Λ E (seq (call f xs d) rest) q)
  calls_safe t fm T P known κs qs bounds a vss reads k =
      let y : (Safe 𝓛 T P).Ghost = ((κs, qs, bounds, a, vss), tt) in
      join t $ nothing t $ move t (1 ∷ 0 ∷ []) $ join t $ use1 𝓛 (raw ((Safe 𝓛 T P).pre y)) (id⊢ 𝓤 _) $
      calls_at t fm (Safe 𝓛 T P) known y reads (λ v.
      use1 𝓛 (later (some (λ (r : Res T.signature κs). (raw (alive 𝓛 T.signature κs qs) ⊛ ‵ ((type_at T.signature.result κs).own_val r (v ∷ [])))
      ⊛ some (λ (ws : Lasts T κs a). ‵ (lasts T κs a ws) ⊛ raw (fact 𝓤 (P κs a r (at_exit T κs a ws))))))) (id⊢ 𝓤 _) $ await t tt $
      pick t (λ r. split t $ move t (1 ∷ []) $ pick t (λ ws. split t $ move t (1 ∷ []) $ heard t (P κs a r (at_exit T κs a ws)) (λ is.
      move t (1 ∷ []) $ split t $ k v r ws is))))

module _ {M : Type 1} {𝓤 : Ura M} {𝓛 : Logic 𝓤} {K : Type 0} {Γ : List (Item 𝓤)}
    {C : Calls 𝓤 𝓛.H} {Λ : Loops 𝓤 𝓛.H} {E : Env 𝓤 𝓛.H} {q : Post 𝓤 𝓛.H} {f : Callee} {xs : List Operand} {d : Place} where
  -- the handle is lent to it, for a lifetime that is made for the call, and comes back once that is
  -- ended: what the export is given of the other parameters is handed on
  pub calls_lending : K → FmC 𝓤 𝓛.H 𝓛.laws C → {rest : Code} (L : Lending) (P : Outcome (lends L)) → Triple 𝓤 (C f) (Safe 𝓛 (lends L) P)
      → (κs : Lfts L.n) (qs : Shares L.n) (b o : ℕ) (x : (L.R).row.Denot)
      → (args : (κ₀ : Lft) → Denots (types_at L.ps (κ₀, κs))) (vals : (κ₀ : Lft) → Valss (types_at L.ps (κ₀, κs)))
      → (i : Item 𝓤) → ((κ₀ : Lft) → ent 𝓤 (mean 𝓛 i) (sem 𝓛 (owns (types_at L.ps (κ₀, κs)) (args κ₀) (vals κ₀))))
      → ((κ₀ : Lft) (γ : GName)
      → Opds K 𝓛 (raw ((Safe 𝓛 (lends L) P).pre (bound L κs qs b o x args vals 𝓛 P κ₀ γ)) ∷ ‵ (flent κ₀ (Body (mem (L.R).row) b o γ)) ∷ Γ) E xs
      (vptr b o ∷ flat (types_at L.ps (κ₀, κs)) (vals κ₀)))
      → ((κ₀ : Lft) (γ : GName) (v : Val) (r : (L.S).Denot) (ws : Lasts (lends L) (κ₀, κs) (given L κs qs b o x args vals κ₀ γ))
      → P (κ₀, κs) (given L κs qs b o x args vals κ₀ γ) r (at_exit (lends L) (κ₀, κs) (given L κs qs b o x args vals κ₀ γ) ws)
      → Seq K 𝓛 (raw (toks 𝓛 L.n κs qs) ∷ ‵ ((L.S).own_val r (v ∷ [])) ∷ ‵ (lasts_of (κ₀, κs) L.ps L.ks (args κ₀) ws.1)
      ∷ ‵ (part_at (L.R).row full_share ws.0 b o) ∷ Γ) (lands C Λ E d v rest q))
      → Seq K 𝓛 (raw (toks 𝓛 L.n κs qs) ∷ i ∷ ‵ (part_at (L.R).row full_share x b o) ∷ Γ) (runs C Λ E (seq (call f xs d) rest) q)
  calls_lending t fm L P known κs qs b o x args vals i hands reads k = let R : RattleType = (L.R).row in
      lft_new t tt (λ α. let κ₀ : Lft = α ∷ [] in move t (3 ∷ []) $
      use1 𝓛 (later (some (λ (γ : GName). ‵ ((MutRef (named 0) κ₀ R).own_val (given L κs qs b o x args vals κ₀ γ).0 (vptr b o ∷ []))
      ⊛ ‵ (flent κ₀ (Body (mem R) b o γ)))))
      (lends_ref 𝓛 R (named 0) κ₀ x b o) $ await t tt $ pick t (λ γ. split t $
      -- [the reference; the lender's part; κ₀ alive; the tokens; the parameters]
      move t (4 ∷ []) $ use1 𝓛 (‵ (owns (types_at L.ps (κ₀, κs)) (args κ₀) (vals κ₀))) (hands κ₀) $ move t (1 ∷ 0 ∷ []) $ fjoin t $
      move t (2 ∷ 3 ∷ []) $ join t $ use1 𝓛 (raw (toks 𝓛 (suc L.n) (κ₀, κs) (full_share, qs))) (id⊢ 𝓤 _) $
      calls_safe t fm (lends L) P known (κ₀, κs) (full_share, qs) tt (given L κs qs b o x args vals κ₀ γ) (vptr b o ∷ [], vals κ₀) (reads κ₀ γ)
      (λ v r ws is.
      use1 𝓛 (‵ (flft κ₀ full_share) ⊛ raw (toks 𝓛 L.n κs qs)) (id⊢ 𝓤 _) $ split t $ lft_end t tt $
      -- [κ₀ dead; the tokens; the result; the last values; the lender's part]
      move t (3 ∷ []) $ fsplit t $ fsplit t $ move t (3 ∷ 6 ∷ 0 ∷ []) $
      use3 𝓛 (later (‵ (part_at R full_share ws.0 b o))) (ref_back 𝓛 R κ₀ γ ws.0 b o) $ await t tt $
      -- [the handle; the closed borrow; the last values of the others; the tokens; the result]
      move t (1 ∷ []) $ drop t $ move t (2 ∷ 3 ∷ 1 ∷ 0 ∷ []) $ k κ₀ γ v r ws is)))
