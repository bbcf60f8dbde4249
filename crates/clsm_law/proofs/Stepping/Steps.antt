-- A caller's step as it is made: a stage takes its time and then is a fill, and each other step is
-- as the clauses have it.
use Rattle.std.proofs.Common.{◌≡◌, ◌≢◌, ℕ, true, false, List, [], ◌∷◌, ◌++◌, set, sym, refl, subst, Option, None, set-set}
use Rattle.clsm_model.specs.declared.batch.Batch.{Batch}
use Rattle.clsm_model.specs.declared.slot.Slot.{Slot}
use Rattle.clsm_law.specs.declared.word.Word.TheVariants.{Cell}
use Rattle.clsm_law.specs.declared.word.Part.TheVariants.{Key}
use Rattle.clsm_law.specs.declared.step.Step.{Step}
use Rattle.clsm_law.specs.declared.step.Step.TheVariants.{Stage, Fill}
use Rattle.clsm_law.specs.declared.view.View.{View}
use Rattle.clsm_law.specs.Memory.{Memory, cell_of, is_part, put}
use Rattle.clsm_law.specs.Views.{own_time}
use Rattle.clsm_law.specs.OpenSteps.{IsOpen}
use Rattle.clsm_law.specs.Relation.{Chains, Orders, word_of, changed, view_after, slots_after, batches_after, chains_after, orders_after, filled}
use Rattle.clsm_law.specs.Worlds.{open_past}
use Rattle.clsm_law.specs.Law.{LawOf}
use Rattle.clsm_law.proofs.Setting.{Setting, v, Allows}
use Rattle.clsm_law.proofs.Batches.Taken.{Stages, taking, taking_view, u}
use Rattle.clsm_law.proofs.Kept.{kept}

-- the step may be made
abbrev pub May : Setting → Step → Type 0
May s step = IsOpen s.z (open_past s.slots s.batches (v s).past) (v s) step

-- the word that it finds
abbrev pub finds : Setting → Step → ℕ
finds s step = s.memory (word_of s.z s.me (v s) step)

-- after it: the memory, the views, the slots, the batches, the chains, the lists
abbrev pub memory_by : Setting → Step → Memory
memory_by s step = put s.memory (word_of s.z s.me (v s) step) (changed s.z (v s) step (finds s step))

abbrev pub views_by : Setting → Step → List View
views_by s step = set s.views s.me (view_after s.z s.me (v s) step (finds s step))

abbrev pub slots_by : Setting → Step → List (Option Slot)
slots_by s step = slots_after s.me s.slots step (finds s step)

abbrev pub batches_by : Setting → Step → List Batch
batches_by s step = batches_after (v s) s.batches step

abbrev pub chains_by : Setting → Step → Chains
chains_by s step = chains_after s.z (v s) s.chains step (finds s step)

abbrev pub orders_by : Setting → Step → Orders
orders_by s step = orders_after s.z (v s) s.orders step (finds s step)

-- the fill of a stage is open where its time is taken
pub fills : (s : Setting) (t key : ℕ) (o : Stages s t key) → Allows (taking s t key o) (Fill Key key)
fills s t key o = subst (λ (y : View). (y.drawn ≢ None) × (y.linked ≡ false) × (is_part Key ≡ true)) (sym (taking_view s t key o))
    ((λ e. absurd cc), refl, refl)

-- a lawful world stays lawful
pub kept_by : (s : Setting) (step : Step) → May s step → LawOf s.z (memory_by s step) (views_by s step) s.merger (slots_by s step) (batches_by s step)
    (chains_by s step) (orders_by s step)
kept_by s (Stage t key) o =
    let a = kept (taking s t key o) (Fill Key key) (fills s t key o) in
    let b = subst (λ (y : View). LawOf s.z (put s.memory (Cell (cell_of s.z (own_time y)) Key) key)
    (set (set s.views s.me (u s t key o)) s.me (filled y Key key)) s.merger (s.slots ++ None ∷ []) s.batches s.chains s.orders)
    (taking_view s t key o) a in
    subst (λ (l : List View). LawOf s.z (put s.memory (Cell (cell_of s.z t) Key) key) l s.merger (s.slots ++ None ∷ []) s.batches s.chains s.orders)
    (set-set s.views s.me (u s t key o) (filled (u s t key o) Key key)) b
kept_by s step o = kept s step o
