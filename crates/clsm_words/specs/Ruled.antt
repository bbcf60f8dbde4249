-- The rule of the words: there is a lawful world that has them, and each seat at them has the view
-- of its number there.
use Rattle.std.specs.Prelude.{true, false, ◌≡◌, ◌≢◌, ℕ, ◌+◌, ◌-◌, ◌%◌, ◌<◌, ◌≤◌, ◌⊎◌, List, [], ◌++◌, length, map, take, Option, Some, None}
use mathlib.Core.Option.{some}
use lib.ListN.{get_elem?}
use Rattle.atomic_table.specs.Table.{State}
use Rattle.clsm_model.specs.declared.batch.Batch.{Batch}
use Rattle.clsm_model.specs.declared.slot.Slot.{Slot}
use Rattle.clsm_model.specs.History.{History, batches_below, end_of}
use Rattle.clsm_law.specs.declared.layout.Layout.{Layout}
use Rattle.clsm_law.specs.declared.view.View.{View}
use Rattle.clsm_law.specs.declared.merger.MergerView.{MergerView}
use Rattle.clsm_law.specs.declared.word.Word.{Word}
use Rattle.clsm_law.specs.declared.word.Word.TheVariants.{Clock}
use Rattle.clsm_law.specs.Layout.{memory, size_of}
use Rattle.clsm_law.specs.Memory.{Memory, key_at, region_of}
use Rattle.clsm_law.specs.Views.{idle, own_region}
use Rattle.clsm_law.specs.Relation.{Chains, Orders}
use Rattle.clsm_law.specs.Law.{In}
use Rattle.clsm_law.specs.Reading.{time_in}
use Rattle.clsm_law.specs.Merging.{is_frozen, is_retired}
use Rattle.clsm_law.specs.Worlds.{view_at, outcome_at, settled}
use Rattle.clsm_law.specs.Machine.{WorldState, IsLawful}
use Rattle.clsm_words.specs.declared.known.Known.{Known}
use Rattle.clsm_words.specs.Knowing.{Extends, HasRows, HasSpot, IsHeldEpoch, IsKnownIn, IsKnownWord, IsNamedWord, LeadsOn, told_of}
use Rattle.clsm_words.specs.Merging.{IsOwn, known_end}

-- the world with these words
abbrev pub world_of : Layout → List ℕ → List View → MergerView → List (Option Slot) → List Batch → WorldState
world_of z words views merger slots batches = record { layout = z; words = words; views = views; merger = merger; slots = slots; batches = batches }

-- the floor of the runs of a component that is held: the newest, or the retired one
abbrev pub HasFloor : MergerView → ℕ → ℕ → Type 0
HasFloor m c floor = ((c ≡ m.merged) × (floor ≡ m.merged_floor)) ⊎ ((c + 1 ≡ m.merged) × (is_retired m.phase ≡ true) × (floor ≡ m.former_floor))

-- the list is an end of the other
abbrev pub IsEndOf : List ℕ → List ℕ → Type 0
IsEndOf end list = (front : List ℕ) × (front ++ end ≡ list)

-- the chain that the seat walks is one of an epoch that it may walk
abbrev pub IsHeldLine : Layout → Known → Type 0
IsHeldLine z k = (e : ℕ) × IsHeldEpoch z k.view.held k.view.past e × (k.region ≡ e % 2) × (k.chain < z.chains)

-- the spot stands in the ordered list of an epoch that a seat may walk, and has the key of its cell
pub record IsSpot (z : Layout) (memory : Memory) (orders : Orders) (held : Option ℕ) (past p key : ℕ) : Type 0 where
  pub epoch : ℕ
  pub walked : IsHeldEpoch z held past epoch
  pub stands : In p (orders (epoch % 2))
  pub key_is : key ≡ key_at memory p

-- what is so of a seat in the world: its view is the one of its number, and its past is what the
-- times below the view's past came to, with the batches that begin below it; while it holds a
-- component it knows the words of its runs, and their floor, and those of the cells of the times
-- that it knows, and their chains have grown at their heads at most; its trail is an end of a chain
-- that it may walk, and its spots stand in lists that it may walk; the list of its drawn cell has
-- grown at most
pub record IsSeated (z : Layout) (words : List ℕ) (m : MergerView) (slots : List (Option Slot)) (batches : List Batch) (chains : Chains) (orders : Orders)
    (views : List View) (k : Known) : Type 0 where
  pub layout : k.layout ≡ z
  pub inside : k.number < z.seats
  pub view : view_at z views k.number ≡ k.view
  pub rows : HasRows z k.view
  pub past : k.past ≡ take k.view.past (settled slots)
  pub listed : k.batches ≡ batches_below k.view.past batches
  pub row : (c : ℕ) → k.view.held ≡ Some c → (word : Word) → IsNamedWord c word → memory z k.row word ≡ memory z words word
  pub floor : (c : ℕ) → k.view.held ≡ Some c → HasFloor m c k.floor
  pub cells : (word : Word) → IsKnownWord k word → memory z k.row word ≡ memory z words word
  pub ways : (cell t : ℕ) → IsKnownIn k cell t → LeadsOn z (memory z k.row) (memory z words) (region_of z cell)
  pub ends : IsEndOf k.trail (chains k.region k.chain)
  pub line : k.trail ≢ [] → IsHeldLine z k
  pub spots : (p key : ℕ) → HasSpot k.spots p key → IsSpot z (memory z words) orders k.view.held k.view.past p key
  pub order : k.view.drawn ≢ None → Extends k.order (orders (own_region z k.view))

-- the list is what the times below some time came to, and all these are decided
pub record Begins (slots : List (Option Slot)) (list : List Slot) : Type 0 where
  pub until : ℕ
  pub is : list ≡ take until (settled slots)
  pub decided : (t : ℕ) → t < until → outcome_at slots t ≢ None

-- what is told is true: a beginning of the history, with its batches, and a due, neither above the
-- clock
pub record IsTold (clock : ℕ) (slots : List (Option Slot)) (batches : List Batch) (told : History) (heard : ℕ) : Type 0 where
  pub begins : Begins slots told.slots
  pub listed : told.batches ≡ batches_below (end_of told) batches
  pub within : end_of told ≤ clock
  pub below : heard ≤ clock

-- the times of the list of the epoch that is merged next
abbrev pub frozen_times : Layout → MergerView → Orders → List ℕ
frozen_times z m orders = map (λ p. time_in z m.merged (p - 1)) (orders (m.merged % 2))

-- what is so of the merger's seat in the world: its view is the merger's there, it knows what times
-- came to as far as it says, and it knows what stands in the words that only it changes; while an
-- epoch is frozen its trail is that of the epoch's list
pub record IsMerging (z : Layout) (words : List ℕ) (m : MergerView) (slots : List (Option Slot)) (orders : Orders) (k : Known) : Type 0 where
  pub layout : k.layout ≡ z
  pub unseated : k.seated ≡ false
  pub view : k.merger ≡ m
  pub past : Begins slots k.past
  pub reaches : known_end z m (length slots) ≤ length k.past
  pub sized : length k.row ≡ size_of z
  pub row : (word : Word) → IsOwn z m word → memory z k.row word ≡ memory z words word
  pub trail : is_frozen m.phase ≡ true → k.trail ≡ frozen_times z m orders

-- the callers' seats from this number on are not dealt, and idle
pub record IsDealing (z : Layout) (views : List View) (seats : List Known) (dealt : ℕ) : Type 0 where
  pub below : (i : ℕ) (k : Known) → get_elem? seats i ≡ some k → k.seated ≡ true → k.number < dealt
  pub idle_above : (number : ℕ) → dealt ≤ number → view_at z views number ≡ idle z

-- the seats: no two callers have one number, and one seat merges and deals
pub record AreSeats (z : Layout) (words : List ℕ) (m : MergerView) (slots : List (Option Slot)) (batches : List Batch) (chains : Chains) (orders : Orders)
    (views : List View) (seats : List Known) : Type 0 where
  pub seated : (i : ℕ) (k : Known) → get_elem? seats i ≡ some k → k.seated ≡ true → IsSeated z words m slots batches chains orders views k
  pub merging : (i : ℕ) (k : Known) → get_elem? seats i ≡ some k → k.merges ≡ true → IsMerging z words m slots orders k
  pub told : (i : ℕ) (k : Known) → get_elem? seats i ≡ some k → IsTold (memory z words Clock) slots batches (told_of k) k.heard
  pub apart : (i j : ℕ) (k k' : Known) → get_elem? seats i ≡ some k → get_elem? seats j ≡ some k' → k.seated ≡ true → k'.seated ≡ true → k.number
      ≡ k'.number → i ≡ j
  pub dealer : (i : ℕ) (k : Known) → get_elem? seats i ≡ some k → k.merges ≡ true → IsDealing z views seats k.dealt
  pub one : (i j : ℕ) (k k' : Known) → get_elem? seats i ≡ some k → get_elem? seats j ≡ some k' → k.merges ≡ true → k'.merges ≡ true → i ≡ j

-- the rule
pub record Ruled (z : Layout) (s : State ℕ Known) : Type 0 where
  pub views : List View
  pub merger : MergerView
  pub slots : List (Option Slot)
  pub batches : List Batch
  pub lawful : IsLawful (world_of z s.words views merger slots batches)
  pub seats : AreSeats z s.words merger slots batches lawful.chains lawful.orders views s.views
