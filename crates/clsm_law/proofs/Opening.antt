-- The opening world is lawful.
use Rattle.std.proofs.Common.{◌≡◌, ◌≢◌, ℕ, zero, suc, ◌*◌, ◌%◌, ◌≤◌, cond, List, [], replicate, sym, refl, ap, ◌∙◌, subst, arith, inl, Option, Some, None}
use Rattle.std.proofs.Common.{length-set}
use Rattle.std.specs.List.{AllByRecursion, sum_by}
use Rattle.std.proofs.lemmas.List.{length-replicate}
use Rattle.std.proofs.lemmas.List.Sums.{sum_by-cons}
use Rattle.clsm_levels.specs.Content.{IsContent}
use Rattle.clsm_law.specs.declared.layout.Layout.{Layout}
use Rattle.clsm_law.specs.declared.word.Word.TheVariants.{Limit}
use Rattle.clsm_law.specs.declared.view.View.{View}
use Rattle.clsm_law.specs.Memory.{Memory, put}
use Rattle.clsm_law.specs.Layout.{IsLayout, index_of, size_of}
use Rattle.clsm_law.specs.Views.{idle}
use Rattle.clsm_law.specs.OpenSteps.{open_time}
use Rattle.clsm_law.specs.Merging.{opening, unseen}
use Rattle.clsm_law.specs.Worlds.{view_at, outcome_at, past_of, history_of, runs_of}
use Rattle.clsm_law.specs.Law.{LawOf, IsSnapshot, taken_by, note_of, each, holders}
use Rattle.clsm_law.specs.Batches.{IsStaging}
use Rattle.clsm_model.specs.Seats.{IsRightRecord, IsStandingRecord, IsUncutRecord, IsListedRecord, FitsRecord, IsRising}
use Rattle.clsm_law.specs.Machine.{IsLawful, opened}
use Rattle.clsm_law.proofs.Rows.Memory.{memory-set, memory-zeros}

module _ (z : Layout) where
  -- the opening memory: the limit is the end of the first epoch, and all other words are 0
  abbrev pub fresh : Memory
  fresh = put (λ w. 0) Limit z.cells

  abbrev vs : ℕ → List View
  vs n = replicate n (idle z)

  pub idle_at : (n i : ℕ) → view_at z (vs n) i ≡ idle z
  idle_at zero i = refl
  idle_at (suc n) zero = refl
  idle_at (suc n) (suc i) = idle_at n i

  -- a field that is None in an idle view is never Some
  none_at : {A : Type 0} (f : View → Option A) (n i : ℕ) (x : A) → f (idle z) ≡ None → each z f (vs n) i ≢ Some x
  none_at f n i x none e = let h = ap f (idle_at n i) in absurd (cc (h, none, e))

  no_holders : (n : ℕ) → 0 ≡ sum_by holders (vs n)
  no_holders zero = refl
  no_holders (suc n) = let e = no_holders n in let f = sum_by-cons holders (idle z) (vs n) in omega arith

  no_taken : (n : ℕ) → sum_by taken_by (vs n) ≡ 0
  no_taken zero = refl
  no_taken (suc n) = let e = no_taken n in let f = sum_by-cons taken_by (idle z) (vs n) in omega arith

  empty_runs : IsContent (history_of []) (runs_of fresh 0) 0 0
  empty_runs = record {
    exact = λ k s a b. let none : s ≡ 0 = omega arith in rw none refl;
    order = (tt, tt);
    falls = λ k. tt;
    older = tt;
    writes = tt;
  }

  -- what holds of an idle view holds of each
  all_idle : (P : View → Type 0) → P (idle z) → (n i : ℕ) → P (view_at z (vs n) i)
  all_idle P h n i = subst P (sym (idle_at n i)) h

  pub opening_law : IsLayout z → LawOf z fresh (vs z.seats) (opening z) [] [] (λ r s. []) (λ r. [])
  opening_law sound = let n = z.seats in record {
    seated = length-replicate n (idle z);
    lock = no_holders n;
    locked_out = λ e. absurd cc;
    sole = λ i j e. let h = ap View.mode (idle_at n i) in absurd (cc (h, e));
    merger = record {
      seats = length-replicate n unseen;
      some_merged = λ e. absurd cc;
      clean = λ e. refl;
      pads = λ e. absurd cc;
      extends = λ e. absurd cc;
      limit_after = λ e. absurd cc;
      at_end = λ e. absurd cc;
      top = λ e. absurd cc;
    };
    clock = let a = no_taken n in omega arith;
    limit = omega arith;
    begun = omega arith;
    bounded = omega arith;
    current = omega arith;
    top = let a = sound.0 in let b = a.1 in omega arith;
    merged = refl;
    holding = λ i t e. absurd (none_at View.drawn n i t refl e);
    pending = λ i t e. absurd (none_at View.drawn n i t refl e);
    owned = λ t lt. absurd (omega arith);
    alone = λ i j t e. absurd (none_at View.drawn n i t refl e);
    filled = λ i t w p e. absurd (none_at View.drawn n i t refl e);
    front = λ t lt. absurd (omega arith);
    merged_decided = λ t lt. absurd (omega arith);
    short = λ t i key written e. absurd cc;
    shown = λ t a lt. absurd (omega arith);
    empty = λ t a lt. inl refl;
    chained = λ r s a b. refl;
    lies = λ r s t i. absurd i;
    once = λ r s. tt;
    standing = λ t i key written a e. absurd cc;
    linked = λ i t e. absurd (none_at View.drawn n i t refl e);
    loose = λ i t e. absurd (none_at View.drawn n i t refl e);
    ordered = λ r lt. refl;
    sorted = λ r. tt;
    placed = λ r p i. absurd i;
    entered = λ t i key written a e. absurd cc;
    inserted = λ i t e. absurd (none_at View.drawn n i t refl e);
    outside = λ i t e. absurd (none_at View.drawn n i t refl e);
    leading = λ i t w e. absurd (none_at View.drawn n i t refl e);
    met = λ i ne. absurd (ne (ap View.met (idle_at n i)));
    lows = λ i ne. absurd (ne (ap View.low (idle_at n i)));
    highs = λ i ne. absurd (ne (ap View.high (idle_at n i)));
    lower = λ i t k e. absurd (none_at View.drawn n i t refl e);
    higher = λ i t k e. absurd (none_at View.drawn n i t refl e);
    found_heads = λ i t chain x e. let h = ap View.mode (idle_at n i) in absurd (cc (h, e));
    found_links = λ i t found e. let h = ap View.mode (idle_at n i) in absurd (cc (h, e));
    limits = λ i x e f. absurd (none_at View.hold_limit n i x refl f);
    fresh_clocks = λ i x e. absurd (none_at View.fresh_clock n i x refl e);
    hold_clocks = λ i x e. absurd (none_at View.hold_clock n i x refl e);
    clocks = λ i x e. absurd (none_at View.clock n i x refl e);
    pin_clocks = λ i x e. absurd (none_at View.pin_clock n i x refl e);
    past = λ i t lt. let h = ap View.past (idle_at n i) in absurd (omega arith);
    reached = λ i t lt. let h = ap View.reached (idle_at n i) in absurd (omega arith);
    pins = λ i lt. sym (ap View.pin (idle_at n i));
    odd = λ i. all_idle (λ (v : View). v.pin % 2 ≡ cond v.pinned 1 0) refl n i;
    held = λ i c e. absurd (none_at View.held n i c refl e);
    notes = λ i lt. all_idle (λ (v : View). 0 ≡ note_of v.snapshot) refl n i;
    snapshots = λ i. all_idle (λ (v : View). IsSnapshot 0 0 v.past v.pinned v.snapshot) tt n i;
    passed = tt;
    floors = record {
      below_end = omega arith;
      at_rest = λ e. omega arith;
      merged = omega arith;
      former = omega arith;
      below_merged = omega arith;
      below_former = omega arith;
    };
    runs = let none : 0 * z.cells ≡ 0 = omega arith in
        record {
          content = subst (λ (a : ℕ). IsContent (history_of []) (runs_of fresh 0) 0 a) (sym none) empty_runs;
          within = (tt, tt);
          counts = λ p e. omega arith;
          canonical = λ p e. refl;
        };
    former_runs = λ e. absurd cc;
    right = λ i. all_idle (λ (v : View). AllByRecursion (IsRightRecord (past_of [] v.past)) v.calls) tt n i;
    stand = λ i. all_idle (λ (v : View). AllByRecursion (IsStandingRecord (outcome_at []) i) v.calls) tt n i;
    recorded = λ t i key written lt e. absurd cc;
    rising = λ i. all_idle (λ (v : View). IsRising v.calls v.due (open_time v.snapshot)) (record { rises = tt; due_is = omega arith; open_is = refl }) n i;
    dues = λ i. all_idle (λ (v : View). v.due ≤ 0) (omega arith) n i;
    own_dues = λ i t e. absurd (none_at View.drawn n i t refl e);
    front_clock = omega arith;
    past_clock = λ i. all_idle (λ (v : View). v.past ≤ 0) (omega arith) n i;
    reached_clock = λ i. all_idle (λ (v : View). v.reached ≤ 0) (omega arith) n i;
    staging = λ i. all_idle (λ (v : View). IsStaging 0 i (outcome_at []) v.mode v.drawn v.staged v.committed v.hold_clock)
        (record { shut = λ e. refl; own = λ e. absurd cc; same = λ e. absurd cc; members = λ k lt. absurd (omega arith) }) n i;
    in_turn = omega arith;
    written = tt;
    uncut_front = tt;
    uncut_pins = λ i s e. tt;
    uncut_snapshots = λ i s e. tt;
    uncut_pasts = λ i. tt;
    uncut = λ i. all_idle (λ (v : View). AllByRecursion (IsUncutRecord []) v.calls) tt n i;
    listed = λ i. all_idle (λ (v : View). AllByRecursion (IsListedRecord []) v.calls) tt n i;
    fitting = λ i. all_idle (λ (v : View). AllByRecursion (FitsRecord z.cells) v.calls) tt n i;
  }

  -- so the opening world is lawful
  pub opened_lawful : IsLayout z → IsLawful (opened z)
  opened_lawful sound = record {
    sound = sound;
    size = length-set (replicate (size_of z) 0) (index_of z Limit) z.cells ∙ length-replicate (size_of z) 0;
    chains = λ r s. [];
    orders = λ r. [];
    law = subst (λ (m : Memory). LawOf z m (vs z.seats) (opening z) [] [] (λ r s. []) (λ r. []))
        (sym (memory-set z (replicate (size_of z) 0) Limit z.cells refl (length-replicate (size_of z) 0)
        ∙ ap (λ (m : Memory). put m Limit z.cells) (memory-zeros z (size_of z))))
        (opening_law sound);
  }
