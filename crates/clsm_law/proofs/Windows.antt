-- The window of the live and of the shown times never falls back under a step of the merger.
use Rattle.std.proofs.Common.{◌≡◌, ℕ, zero, suc, ◌+◌, ◌-◌, ◌*◌, ◌≤◌, Bool, true, false, cond, List, [], ◌∷◌, set, replicate, sym, refl, ap}
use Rattle.std.proofs.Common.{subst, arith}
use Rattle.std.proofs.lemmas.Bool.{and_parts}
use Rattle.clsm_law.specs.declared.word.Word.TheVariants.{Pin}
use Rattle.clsm_law.specs.declared.step.Step.{Step}
use Rattle.clsm_law.specs.declared.step.Step.TheVariants.{LeaveExclusive, Look, ClearState, Publish}
use Rattle.clsm_law.specs.declared.merger.Phase.{Phase}
use Rattle.clsm_law.specs.declared.merger.Phase.TheVariants.{Clean, Frozen, Retired}
use Rattle.clsm_law.specs.declared.merger.Reader.{Reader}
use Rattle.clsm_law.specs.Merging.{unseen, is_retired, is_all_quiet, reader_at, reader_by}
use Rattle.clsm_law.specs.Law.{first_shown, first_live}
use Rattle.clsm_law.proofs.Setting.{Ground, facts, merger', found, OpensTo, shown, live, below, shown_most}

-- a look at a pin word takes no seat's quiet back
quiet_stays : (r : Reader) (x : ℕ) → r.quiet ≡ true → (reader_by r x).quiet ≡ true
quiet_stays r x e = rw e refl

pub all_quiet_stays : (rs : List Reader) (i x : ℕ) → is_all_quiet rs ≡ true → is_all_quiet (set rs i (reader_by (reader_at rs i) x)) ≡ true
all_quiet_stays [] i x e = refl
all_quiet_stays (r ∷ rs) zero x e = let p = and_parts r.quiet (is_all_quiet rs) e in rw (quiet_stays r x p.0) p.1
all_quiet_stays (r ∷ rs) (suc i) x e = let p = and_parts r.quiet (is_all_quiet rs) e in rw p.0 (all_quiet_stays rs i x p.1)

-- at first no seat is quiet
pub none_quiet : (seats : ℕ) → 1 ≤ seats → is_all_quiet (replicate seats unseen) ≡ false
none_quiet zero some = absurd (omega arith)
none_quiet (suc n) some = refl

module _ (n merged : ℕ) where
  shown_quiet : (p : Phase) → shown n merged p true ≡ merged * n
  shown_quiet Clean = refl
  shown_quiet Frozen = refl
  shown_quiet Retired = refl

  live_most : (p : Phase) → live n merged p ≤ merged * n
  live_most Clean = omega arith
  live_most Frozen = omega arith
  live_most Retired = below n merged

  -- where more are quiet, no less is passed
  quieter : (p : Phase) (a b : Bool) → (a ≡ true → b ≡ true) → shown n merged p a ≤ shown n merged p b
  quieter p a true more = subst (λ (k : ℕ). shown n merged p a ≤ k) (sym (shown_quiet p)) (shown_most n merged p a)
  quieter p true false more = absurd (let e = more refl in cc)
  quieter p false false more = omega arith

  -- a freeze begins, and a cleaning ends, with nothing retired
  enters_shown : (q : Phase) → is_retired q ≡ false → (b : Bool) (p : Phase) (quiet : Bool) → shown n merged p quiet ≤ shown n merged (cond b q p) quiet
  enters_shown q none true p quiet = rw none (shown_most n merged p quiet)
  enters_shown q none false p quiet = omega arith

  enters_live : (q : Phase) → is_retired q ≡ false → (b : Bool) (p : Phase) → live n merged p ≤ live n merged (cond b q p)
  enters_live q none true p = rw none (live_most p)
  enters_live q none false p = omega arith

-- one merge more: the first time of the component that is now retired
one_back : (merged n : ℕ) → (merged + 1 - 1) * n ≡ merged * n
one_back merged n = let e : merged + 1 - 1 ≡ merged = omega arith in ap (λ (k : ℕ). k * n) e

pub shown_rises : (g : Ground) (step : Step) → OpensTo g step → first_shown g.z g.merger ≤ first_shown g.z (merger' g step)
shown_rises g LeaveExclusive o = enters_shown g.z.cells g.merger.merged Frozen refl g.merger.limit_extended g.merger.phase (is_all_quiet g.merger.readers)
shown_rises g (Look (Pin i)) o =
    elim (is_retired g.merger.phase) as (λ b. first_shown g.z g.merger ≤ first_shown g.z
    (record g.merger { readers = cond b (set g.merger.readers i (reader_by (reader_at g.merger.readers i) (found g (Look (Pin i))))) g.merger.readers })) [
      | true ↦ quieter g.z.cells g.merger.merged g.merger.phase (is_all_quiet g.merger.readers) _ (all_quiet_stays g.merger.readers i (found g (Look (Pin i))))
      | false ↦ omega arith
    ]
shown_rises g (Look word) o = omega arith
shown_rises g (ClearState cell) o = enters_shown g.z.cells g.merger.merged Clean refl ((facts g).last cell) g.merger.phase (is_all_quiet g.merger.readers)
shown_rises g Publish o = rw (none_quiet g.z.seats g.sound.1.0, one_back g.merger.merged g.z.cells)
    (shown_most g.z.cells g.merger.merged g.merger.phase (is_all_quiet g.merger.readers))
shown_rises g step o = omega arith

pub live_rises : (g : Ground) (step : Step) → OpensTo g step → first_live g.z g.merger ≤ first_live g.z (merger' g step)
live_rises g LeaveExclusive o = enters_live g.z.cells g.merger.merged Frozen refl g.merger.limit_extended g.merger.phase
live_rises g (Look (Pin i)) o = omega arith
live_rises g (Look word) o = omega arith
live_rises g (ClearState cell) o = enters_live g.z.cells g.merger.merged Clean refl ((facts g).last cell) g.merger.phase
live_rises g Publish o = rw (one_back g.merger.merged g.z.cells) (live_most g.z.cells g.merger.merged g.merger.phase)
live_rises g step o = omega arith
