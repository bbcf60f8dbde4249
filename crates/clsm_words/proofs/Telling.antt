-- What a look finds, by what the law says of the word.
use Rattle.std.proofs.Common.{◌≡◌, ◌≢◌, ℕ, ◌+◌, ◌*◌, ◌<◌, ◌≤◌, ◌==◌, true, cond, nat_lt, List, length, take, get_or, refl, sym, ap, ◌∙◌, subst, arith}
use Rattle.std.proofs.Common.{Option, Some, None}
use Rattle.std.proofs.lemmas.Bool.{and_parts}
use mathlib.Core.Logic.{dite}
use native.Mathlib.Decide.{ℕ_discrete}
use prog.Atomic.{either}
use Rattle.clsm_model.specs.declared.slot.Slot.{Slot}
use Rattle.clsm_model.specs.declared.slot.Slot.TheVariants.{Nothing, Wrote}
use Rattle.clsm_model.specs.declared.record.Deed.{Deed}
use Rattle.clsm_law.specs.declared.layout.Layout.{Layout}
use Rattle.clsm_law.specs.declared.word.Word.TheVariants.{Lock, Clock, Cell, State as StateOf, Count, Entry}
use Rattle.clsm_law.specs.declared.word.Part.{Part}
use Rattle.clsm_law.specs.declared.word.Part.TheVariants.{Key, Length, Value}
use Rattle.clsm_law.specs.declared.step.Step.{Step}
use Rattle.clsm_law.specs.declared.step.Step.TheVariants.{EnterExclusive, Link, Insert, Decide, Look}
use Rattle.clsm_law.specs.declared.view.View.{View}
use Rattle.clsm_law.specs.declared.view.Mode.TheVariants.{Exclusive}
use Rattle.clsm_law.specs.Codes.{exclusive_hold, undecided_cell}
use Rattle.clsm_law.specs.Memory.{Memory, cell_of, is_part, put}
use Rattle.clsm_law.specs.OpenSteps.{HoldsFrom}
use Rattle.clsm_law.specs.Relation.{word_of, changed}
use Rattle.clsm_law.specs.Layout.{memory}
use Rattle.clsm_law.specs.Worlds.{view_at, settled}
use Rattle.clsm_law.specs.Law.{Shows, each, first_shown}
use Rattle.clsm_law.proofs.Frames.{put_here, put_same}
use Rattle.clsm_law.proofs.Setting.{Ground, held_shown, clock_below, drawn_shown, shown_below_merged, undecided}
use Rattle.clsm_law.proofs.Rows.Memory.{memory-set}
use Rattle.clsm_law.proofs.Stepping.Stepped.{lawful_ground}
use Rattle.clsm_law.proofs.Stepping.Steps.{finds as found_by, memory_by}
use Rattle.clsm_law.proofs.Lock.Kept.{lock_most}
use Rattle.clsm_law.proofs.Lock.Found.{head_as_found, link_as_found}
use Rattle.clsm_words.specs.Knowing.{row_of, Opens, code_of, HoldsAlone, IsPartOf, IsNearHeld, Tells}
use Rattle.clsm_words.specs.Ruled.{world_of, Begins}
use Rattle.clsm_words.proofs.Sitting.{Sitting}
use Rattle.clsm_words.proofs.Beginnings.{begins_at, begins_bound}
use Rattle.clsm_words.proofs.HeldRuns.{clock_near}
use Rattle.clsm_words.proofs.Knows.{number_inside, own_past}
use Rattle.clsm_words.proofs.Played.{me_seated, word, word_there, found, next, before, opens, finds, finds_word, same_memory, words', views', slots', batches'}
use Rattle.clsm_words.proofs.Played.{lawful', next_seated, after_ground}

pub shown_state : (memory : Memory) (cell : ℕ) (slot : Slot) → Shows memory cell (Some slot) → memory (StateOf cell) ≡ code_of slot
shown_state memory cell Nothing h = h
shown_state memory cell (Wrote seat key written) h = h.0

pub shown_part : (memory : Memory) (cell : ℕ) (slot : Slot) (part : Part) → is_part part ≡ true → Shows memory cell (Some slot)
    → IsPartOf slot part (memory (Cell cell part))
shown_part memory cell (Wrote seat key written) Key there h = h.1
shown_part memory cell (Wrote seat key written) Length there h = h.2
shown_part memory cell (Wrote seat key written) (Value j) there h = h.3 j
shown_part memory cell slot part there h = tt

-- while a caller holds the lock alone, each time below the clock whose epoch is not merged is
-- decided
alone_decided : (g : Ground) (me t : ℕ) → each g.z View.mode g.views me ≡ Exclusive → g.merger.merged * g.z.cells ≤ t → t < g.memory Clock
    → g.memory (StateOf (cell_of g.z t)) ≢ undecided_cell
alone_decided g me t alone from until e =
    let below = clock_below g in
    let merged = shown_below_merged g in
    let owner = g.law.owned t (omega arith) (undecided g t (omega arith) (omega arith) e) in
    dite (ℕ_discrete owner.0 me)
    (λ (same : owner.0 ≡ me). let mine = subst (λ (i : ℕ). each g.z View.drawn g.views i ≡ Some t) same owner.1 in
    let at = ((g.law.staging me).own alone t mine).0 in absurd (omega arith))
    (λ ne. absurd (g.law.holding owner.0 t owner.1 (g.law.sole me owner.0 alone ne)))

module _ (seat : Sitting) where
  open seat.place use {s, k, r, id, at}

  module _ (step : Step) (o : Opens k step) where
    -- the step's word is what the step makes of what it found
    pub made_of : row_of (next seat step o) (word seat step o) ≡ changed k.layout k.view step (found seat step o)
    made_of =
        let w = word seat step o in
        let y = changed k.layout k.view step (found seat step o) in
        (λ i. memory-set k.layout s.words w y (word_there seat step o) r.lawful.size i w) ∙ put_here (memory k.layout s.words) w y

    -- while a time is drawn the limit is the end of its epoch
    pub clock_near_drawn : (t : ℕ) → (next seat step o).view.drawn ≡ Some t → row_of (next seat step o) Clock ≤ t + k.layout.cells
    clock_near_drawn t drawn =
        let g = after_ground seat step o in
        let below = clock_below g in
        let bounded = g.law.bounded in
        let near = (g.law.pending k.number t (ap (λ (u : View). u.drawn) (next_seated seat step o).view ∙ drawn)).0 in
        omega arith

    -- what is held is shown
    shown_from : (t : ℕ) → HoldsFrom k.layout k.view.held t → first_shown k.layout r.merger ≤ t
    shown_from t h = from k.view.held refl h where
      from : (a : Option ℕ) → k.view.held ≡ a → HoldsFrom k.layout a t → first_shown k.layout r.merger ≤ t
      from None e h = absurd h
      from (Some m) e h =
          let ok = me_seated seat step o in
          let shown = held_shown (before seat step o).ground k.number m (number_inside s k r ok) (ap (λ (u : View). u.held) ok.view ∙ e) in
          omega arith

    -- a known time's cell shows what the time came to
    known_shown : (list : List Slot) (cell t : ℕ) → Begins r.slots list → t < length list → cell_of k.layout t ≡ cell → HoldsFrom k.layout k.view.held t
        → Shows (memory k.layout s.words) cell (Some (get_or list t Nothing))
    known_shown list cell t b lt is h =
        let short = begins_bound r.slots list b in
        subst (λ (c : ℕ). Shows (memory k.layout s.words) c (Some (get_or list t Nothing))) is
        (subst (λ (a : Option Slot). Shows (memory k.layout s.words) (cell_of k.layout t) a) (begins_at r.slots list b t lt)
        (r.lawful.law.shown t (shown_from t h) (omega arith)))

    -- the past before the step
    past_before : Begins r.slots (take k.view.past (settled r.slots))
    past_before = let ok = me_seated seat step o in subst (Begins r.slots) ok.past (own_past s k r ok)

    -- the clock is within the two epochs of what is held
    clock_within : IsNearHeld k.layout k.view.held (memory k.layout s.words Clock)
    clock_within = within k.view.held refl where
      within : (a : Option ℕ) → k.view.held ≡ a → IsNearHeld k.layout a (memory k.layout s.words Clock)
      within None e = tt
      within (Some m) e =
          let ok = me_seated seat step o in
          let g = (before seat step o).ground in
          let near = clock_near g k.number m (ap (λ (u : View). u.held) ok.view ∙ e) in
          let below = clock_below g in
          (near.0, let high = near.1 in omega arith)

  clock_found : (a : Option ℕ) (z : Layout) (x y : ℕ) → x ≡ y → IsNearHeld z a y → IsNearHeld z a x
  clock_found a z x y e h = subst (IsNearHeld z a) (sym e) h

  -- a step that leaves its word knows it
  row_found : (step : Step) (o : Opens k step) → changed k.layout (view_at k.layout r.views k.number) step (found_by (before seat step o) step)
      ≡ found_by (before seat step o) step → found seat step o ≡ row_of (next seat step o) (word seat step o)
  row_found step o same =
      finds_word seat step o
      ∙ sym ((λ i. same_memory seat step o i (word seat step o)) ∙ left)
    where
      left : memory_by (before seat step o) step (word seat step o) ≡ memory k.layout s.words (word seat step o)
      left = ap (λ (y : ℕ). put (memory k.layout s.words) (word_of k.layout k.number (view_at k.layout r.views k.number) step) y
          (word seat step o)) same
          ∙ (λ i. put_same (memory k.layout s.words) (word_of k.layout k.number (view_at k.layout r.views k.number) step) i (word seat step o))

  -- in an exclusive hold the time of a member is undecided
  member_undecided : (t : ℕ) (deed : Deed) (o : Opens k (Decide t deed)) → k.view.mode ≡ Exclusive → found seat (Decide t deed) o ≡ undecided_cell
  member_undecided t deed o alone =
      let ok = me_seated seat (Decide t deed) o in
      let g = (before seat (Decide t deed) o).ground in
      let drawn = ap (λ (u : View). u.drawn) ok.view ∙ o.0 in
      let none = ((r.lawful.law.staging k.number).own (ap (λ (u : View). u.mode) ok.view ∙ alone) t drawn).1 in
      let low = drawn_shown g k.number t drawn in
      let merged = shown_below_merged g in
      (finds seat (Decide t deed) o).2
      ∙ subst (Shows (memory k.layout s.words) (cell_of k.layout t)) none (r.lawful.law.shown t (let from = low.0 in omega arith) low.1)

  -- and a head and a link are as the seat found them
  head_found : (head : ℕ) (o : Opens k (Link head)) → k.view.mode ≡ Exclusive → found seat (Link head) o ≡ head
  head_found head o alone =
      let ok = me_seated seat (Link head) o in
      (finds seat (Link head) o).2
      ∙ head_as_found (before seat (Link head) o) head (opens seat (Link head) o) (ap (λ (u : View). u.mode) ok.view ∙ alone)

  link_found : (p to : ℕ) (o : Opens k (Insert p to)) → k.view.mode ≡ Exclusive → found seat (Insert p to) o ≡ to
  link_found p to o alone =
      let ok = me_seated seat (Insert p to) o in
      (finds seat (Insert p to) o).2
      ∙ link_as_found (before seat (Insert p to) o) p to (opens seat (Insert p to) o) (ap (λ (u : View). u.mode) ok.view ∙ alone)

  -- who entered the lock alone holds it alone
  enters_alone : (o : Opens k EnterExclusive) → found seat EnterExclusive o ≡ 0 → HoldsAlone (next seat EnterExclusive o)
  enters_alone o free =
      let g = lawful_ground (world_of k.layout (words' seat EnterExclusive o) (views' seat EnterExclusive o) r.merger
      (slots' seat EnterExclusive o) (batches' seat EnterExclusive o)) (lawful' seat EnterExclusive o) in
      let mode : each g.z View.mode g.views k.number ≡ Exclusive = ap (λ (u : View). u.mode) (next_seated seat EnterExclusive o).view
      ∙ ap (λ (x : ℕ). cond (x == 0) Exclusive k.view.mode) free in
      record {
        lock = (λ i. memory-set k.layout s.words Lock (changed k.layout k.view EnterExclusive (found seat EnterExclusive o)) refl r.lawful.size
            i Lock) ∙ ap (λ (x : ℕ). either (x == 0) exclusive_hold x) free;
        decided = λ t from until. let merged = g.law.merged in alone_decided g k.number t mode
            (let count = ap (λ (m : ℕ). m * k.layout.cells) merged in omega arith) until;
      }

  pub tells_of : (step : Step) (o : Opens k step) → Tells step (next seat step o) (found seat step o)
  tells_of (Look Lock) o =
      let lock = (finds seat (Look Lock) o).2 ∙ r.lawful.law.lock in
      let below = lock_most (before seat (Look Lock) o).ground in
      omega arith
  tells_of (Look Clock) o =
      let ok = me_seated seat (Look Clock) o in
      let told = r.seats.told id k at in
      let clock = (finds seat (Look Clock) o).2 in
      let due : k.view.due ≤ memory k.layout s.words Clock = subst (λ (u : View). u.due ≤ memory k.layout s.words Clock) ok.view (r.lawful.law.dues k.number) in
      let begins = told.within in
      let heard = told.below in
      let past = subst (λ (u : View). u.past ≤ memory k.layout s.words Clock) ok.view (r.lawful.law.past_clock k.number) in
      let least = clock_below (before seat (Look Clock) o).ground in (
        omega arith,
        omega arith,
        omega arith,
        clock_found k.view.held k.layout (found seat (Look Clock) o) (memory k.layout s.words Clock) clock (clock_within (Look Clock) o),
        λ limit holds held. let same = r.lawful.law.limits k.number limit (λ free. holds (sym (ap (λ (u : View). u.mode) ok.view) ∙ free))
            (ap (λ (u : View). u.hold_limit) ok.view ∙ held) in let bounded = r.lawful.law.bounded in omega arith,
        omega arith,
      )
  tells_of (Look (StateOf cell)) o = λ t known.
      (finds seat (Look (StateOf cell)) o).2 ∙ shown_state (memory k.layout s.words) cell (get_or (take k.view.past (settled r.slots)) t Nothing)
      (known_shown (Look (StateOf cell)) o (take k.view.past (settled r.slots)) cell t (past_before (Look (StateOf cell)) o) known.0 known.1 known.2)
  tells_of (Look (Cell cell part)) o = λ t known.
      let slot = get_or (take k.view.past (settled r.slots)) t Nothing in
      subst (IsPartOf slot part) (sym (finds seat (Look (Cell cell part)) o).2)
      (shown_part (memory k.layout s.words) cell slot part (and_parts (nat_lt cell (2 * k.layout.cells)) (is_part part) o.0).1
      (known_shown (Look (Cell cell part)) o (take k.view.past (settled r.slots)) cell t (past_before (Look (Cell cell part)) o) known.0 known.1 known.2))
  tells_of (Look (Count place)) o = row_found (Look (Count place)) o refl
  tells_of (Look (Entry place entry part)) o = row_found (Look (Entry place entry part)) o refl
  tells_of EnterExclusive o = enters_alone o
  tells_of (Link head) o = head_found head o
  tells_of (Insert p to) o = link_found p to o
  tells_of (Decide t deed) o = member_undecided t deed o
  tells_of step o = tt
