-- A lawful world is lawful after each step that may be made.
use Rattle.std.proofs.Common.{ℕ, ◌<◌, ⊎_elim, Bool, cond, length, sym, ◌∙◌, subst, arith, length-set}
use Rattle.std.proofs.lemmas.Bool.{lt-ltb, le-ltb}
use Rattle.clsm_law.specs.declared.step.Step.{Step}
use Rattle.clsm_law.specs.Memory.{Memory}
use Rattle.clsm_law.specs.Layout.{index_of, memory}
use Rattle.clsm_law.specs.OpenSteps.{IsOpen}
use Rattle.clsm_law.specs.Relation.{word_of, changed}
use Rattle.clsm_law.specs.Merging.{word_of_merger, changed_by_merger, IsOpenToMerger}
use Rattle.clsm_law.specs.Worlds.{view_at, open_past, facts_of}
use Rattle.clsm_law.specs.Law.{LawOf}
use Rattle.clsm_law.specs.Machine.{WorldState, IsLawful, MayStep, stepped, after_seat, after_merger, memory_of}
use Rattle.clsm_law.proofs.Rows.Memory.{memory-set}
use Rattle.clsm_law.proofs.Stepping.Words.{word_there, word_there'}
use Rattle.clsm_law.proofs.Setting.{Setting, Ground, v, found, merger', slots', chains', orders'}
use Rattle.clsm_law.proofs.Kept.{kept'}
use Rattle.clsm_law.proofs.Stepping.Steps.{finds, views_by, slots_by, batches_by, chains_by, orders_by, kept_by}

-- the world by itself
abbrev pub lawful_ground : (w : WorldState) → IsLawful w → Ground
lawful_ground w l = record {
  z = w.layout;
  sound = l.sound;
  memory = memory_of w;
  views = w.views;
  merger = w.merger;
  slots = w.slots;
  batches = w.batches;
  chains = l.chains;
  orders = l.orders;
  law = l.law;
}

-- and with its seat
abbrev pub seat_setting : (w : WorldState) (l : IsLawful w) (seat : ℕ) → seat < length w.views → Setting
seat_setting w l seat lt = record { ground = lawful_ground w l; me = seat; inside = lt }

pub lawful_after_seat : (w : WorldState) (l : IsLawful w) (seat : ℕ) (step : Step) (lt : seat < length w.views)
    → IsOpen w.layout (open_past w.slots w.batches (view_at w.layout w.views seat).past) (view_at w.layout w.views seat) step
    → IsLawful (after_seat w seat step)
unfolding memory
lawful_after_seat w l seat step lt o =
    let s = seat_setting w l seat lt in
    let word = word_of w.layout seat (v s) step in
    let y = changed w.layout (v s) step (finds s step) in
    record {
      sound = l.sound;
      size = length-set w.words (index_of w.layout word) y ∙ l.size;
      chains = chains_by s step;
      orders = orders_by s step;
      law = subst (λ (m : Memory). LawOf w.layout m (views_by s step) w.merger (slots_by s step) (batches_by s step) (chains_by s step) (orders_by s step))
          (sym (memory-set w.layout w.words word y (word_there s step o) l.size)) (kept_by s step o);
    }

pub lawful_after_merger : (w : WorldState) (l : IsLawful w) (step : Step)
    → IsOpenToMerger w.layout (facts_of w.layout (memory_of w) w.merger w.slots) w.merger step → IsLawful (after_merger w step)
unfolding memory
lawful_after_merger w l step o =
    let g = lawful_ground w l in
    let word = word_of_merger w.layout w.merger step in
    let y = changed_by_merger w.layout w.merger step (found g step) in
    record {
      sound = l.sound;
      size = length-set w.words (index_of w.layout word) y ∙ l.size;
      chains = chains' g step;
      orders = orders' g step;
      law = subst (λ (m : Memory). LawOf w.layout m w.views (merger' g step) (slots' g step) w.batches (chains' g step) (orders' g step))
          (sym (memory-set w.layout w.words word y (word_there' g step o) l.size)) (kept' g step o);
    }

pub lawful_after : (w : WorldState) (seat : ℕ) (step : Step) → IsLawful w → MayStep w seat step → IsLawful (stepped w seat step)
lawful_after w seat step l may = ⊎_elim
    (λ o. subst (λ (b : Bool). IsLawful (cond b (after_seat w seat step) (after_merger w step))) (sym (lt-ltb seat (length w.views) o.0))
    (lawful_after_seat w l seat step o.0 o.1))
    (λ o. subst (λ (b : Bool). IsLawful (cond b (after_seat w seat step) (after_merger w step)))
    (sym (le-ltb seat (length w.views) (let e = o.0 in omega arith))) (lawful_after_merger w l step o.1))
    may
