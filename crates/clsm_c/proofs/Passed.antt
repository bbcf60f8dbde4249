-- What C passes beside a handle: a `&` to a value or to rows, or a `&mut` to an answer. An export
-- hands it on. Its type is spelled by its parts, for a walk to see that its values are the same at
-- each lifetime.
use Rattle.std.proofs.Common.{◌≡◌, Bool, true, ℕ, zero, List, [], ◌∷◌, ◌++◌, length}
use seplogic.Ra.Ura.{Ura}
use lib.Dec.{T}
use mir.Syntax.{Lifetime, Rv as RValue, Ty, Written, addr_of, copy, deref, erased, imm, mut, named, place, rv_opd, ty_ref, wrote}
use mir.Val.{Val, vptr, has_ty, WT}
use base.Fml.{Fml, Lft, Share, fat}
use base.Stored.{Coded}
use prog.Wp.{Env, spot_of}
use types.Logic.{Logic}
use types.Kit.{Item, ‵}
use types.Run.{Rv, addr, of_opd, stop}
use types.ByLocal.{at, get, through}
use contract.Lifetimes.{Within, lft_at}
use denote.Exit.{Exit, Seen, unchanged, left, yes}
use denote.RattleType.{RattleType}
use denote.Laws.{Is, Tells}
use denote.Memory.{lone, pointee}
use denote.Ref.{Bor, MutBor, MutRef, ShrRef, mut_Tells, shr_Tells}
use denote.Signature.{Slot, plain}
use denote.Slice.{ShrSlice, shr_slice_Tells, slice_ty, slice_val}
use denote.Triple.Walked.{Goes, Stay}

pub record Parts : Type 1 where
  pub Denot : Type 0
  pub ty : Lifetime → Ty
  pub reaches : List (Written × List Ty)
  pub lives : Lft
  pub owned : Lft → Denot → List Val → Fml
  pub exit : Lft → Bool → Exit Denot
  pub coded : Coded Denot
  pub shared : Lft → Denot → ℕ → ℕ → Lft → Fml
  pub val : Denot → Val

abbrev pub row : Parts → Lifetime → Lft → RattleType
row P ℓ κ = record {
  Denot = P.Denot;
  mir = P.ty ℓ ∷ [];
  written = wrote (P.ty ℓ);
  reaches = P.reaches;
  lives = κ ++ P.lives;
  own_val = P.owned κ;
  exit = λ k. P.exit κ (k ℓ);
  coded = P.coded;
  shr_at = P.shared κ;
}

-- with its one machine value, the laws of that, and what a call sees of it
pub record Passed : Type 2 where
  pub parts : Parts
  pub tells : (ℓ : Lifetime) (κ : Lft) → Tells (row parts ℓ κ) (Is (row parts ℓ κ)) (λ x. parts.val x ∷ [])
  pub typed : (ℓ ℓ' : Lifetime) (κ : Lft) (x : parts.Denot) → Is (row parts ℓ κ) x (parts.val x ∷ [])
      → T (has_ty (parts.ty ℓ') (parts.val x)) × WT (parts.val x)
  pub Sight : Type 0
  pub sees : (κ : Lft) → parts.Denot → Seen (parts.exit κ true) → Sight
  -- how it is handed on from the local i
  pub source : ℕ → RValue
  pub hands : {M : Type 1} {𝓤 : Ura M} {𝓛 : Logic 𝓤} {K : Type 0} {Γ : List (Item 𝓤)} {E : Env 𝓤 𝓛.H} {q : Share} (x : parts.Denot) (i : ℕ) → K
      → at 𝓛 i Γ ≡ ‵ (fat q (spot_of 𝓤 𝓛.H E i).0 (spot_of 𝓤 𝓛.H E i).1 zero (parts.val x)) → Rv K 𝓛 Γ E (source i) (parts.val x)

-- ---- in a signature of n lifetimes

-- its place, at the lifetime j
abbrev pub slot_at : (n j : ℕ) → Within n j → Passed → Slot n
slot_at n j ok P = plain (λ κs. row P.parts (named j) (lft_at n j ok κs))

-- what a contract says of it is had of it at exit
abbrev pub handed : {n : ℕ} (s : Slot n) → Stay s yes
handed s = record { fit = λ κs x w. Unit {0}; has = λ κs x w vs. left ((s.row κs).exit yes) x w }

pub Goes-handed : {M : Type 1} {𝓤 : Ura M} (𝓛 : Logic 𝓤) (n : ℕ) (s : Slot n) → Goes 𝓛 n s yes (handed s)
Goes-handed 𝓛 n s κs x w vs fits = 𝓛.laws.⇛_intro _

-- ---- what may be passed

-- `&A`
abbrev pub value : RattleType → Passed
value A = record {
  parts = record {
    Denot = Bor A.Denot;
    ty = λ ℓ. ty_ref ℓ imm (pointee A.written);
    reaches = (A.written, A.mir) ∷ A.reaches;
    lives = A.lives;
    owned = λ κ. (ShrRef erased κ A).own_val;
    exit = λ κ b. unchanged;
    coded = (ShrRef erased [] A).coded;
    shared = λ κ. (ShrRef erased κ A).shr_at;
    val = λ x. vptr x.ref_ptr.0 x.ref_ptr.1;
  };
  tells = λ ℓ κ. shr_Tells ℓ κ A;
  typed = λ ℓ ℓ' κ x is. (tt, tt);
  Sight = A.Denot;
  sees = λ κ x e. x.now;
  source = λ i. rv_opd (copy (place i []));
  hands = λ x i t is. of_opd t (get t is);
}

-- `&[A]`
abbrev pub rows : RattleType → Passed
rows A = record {
  parts = record {
    Denot = Bor (List A.Denot);
    ty = λ ℓ. slice_ty (ty_ref ℓ imm (pointee A.written));
    reaches = (A.written, A.mir) ∷ A.reaches;
    lives = A.lives;
    owned = λ κ. (ShrSlice erased κ A).own_val;
    exit = λ κ b. unchanged;
    coded = (ShrSlice erased [] A).coded;
    shared = λ κ. (ShrSlice erased κ A).shr_at;
    val = λ x. slice_val x.ref_ptr (length x.now);
  };
  tells = λ ℓ κ. shr_slice_Tells ℓ κ A;
  typed = λ ℓ ℓ' κ x is. (tt, (tt, (record { fits = is.0.1.0 }, tt)));
  Sight = List A.Denot;
  sees = λ κ x e. x.now;
  source = λ i. rv_opd (copy (place i []));
  hands = λ x i t is. of_opd t (get t is);
}

-- `&mut A`, of which a call sees what it leaves there
abbrev pub answer : RattleType → Passed
answer A = record {
  parts = record {
    Denot = MutBor A.Denot;
    ty = λ ℓ. ty_ref ℓ mut (pointee A.written);
    reaches = (A.written, A.mir) ∷ A.reaches;
    lives = A.lives;
    owned = λ κ. (MutRef erased κ A).own_val;
    exit = λ κ b. (MutRef erased κ A).exit (λ ℓ. b);
    coded = (MutRef erased [] A).coded;
    shared = λ κ. (MutRef erased κ A).shr_at;
    val = λ x. vptr x.ref_ptr.0 x.ref_ptr.1;
  };
  tells = λ ℓ κ. mut_Tells ℓ κ A;
  typed = λ ℓ ℓ' κ x is. (tt, tt);
  Sight = A.Denot;
  sees = λ κ x e. e.now;
  source = λ i. addr_of (place i (deref (lone A.mir) ∷ []));
  hands = λ x i t is. addr t (through t is (stop t));
}
