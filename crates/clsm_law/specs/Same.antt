-- What the comparison of worlds says: whether they are the same but for the counts of the seats and
-- of the merger.
use Rattle.std.specs.Prelude.{◌≡◌, ◌==◌, ◌&&◌, ◌++◌, Bool, true, map, pos, Option, Some, None}
use Rattle.std.proofs.Common.{refl, sym, ap}
use Rattle.std.proofs.Math.Bool.{true≢false}
use Rattle.std.specs.Hash.{HashWrites, slice, option, u64, isize, Alike, same_Alike, on_Alike, and-Alike, items_Alike}
use Rattle.std.specs.Cmp.{IsEquivalence, and_equiv, on_equiv, unsigned_Decides}
use Rattle.std.specs.Cmp.Lexicographic.{pointwise, lists_equiv, options_equiv, nat_list_eq_equiv}
use Rattle.std.specs.Option.{option_eq}
use Rattle.clsm_model.specs.contracts.slot.SlotPartialEq.TheImpl as of_slots
use Rattle.clsm_model.specs.contracts.batch.BatchPartialEq.TheImpl as of_batches
use Rattle.clsm_law.specs.contracts.layout.LayoutPartialEq.TheImpl as of_layouts
use Rattle.clsm_law.specs.contracts.view.ViewPartialEq.TheImpl as of_views
use Rattle.clsm_law.specs.contracts.merger.MergerViewPartialEq.TheImpl as of_mergers
use Rattle.clsm_model.specs.contracts.slot.SlotHash.TheImpl as slots_hash
use Rattle.clsm_model.specs.contracts.batch.BatchHash.TheImpl as batches_hash
use Rattle.clsm_law.specs.contracts.layout.LayoutHash.TheImpl as layouts_hash
use Rattle.clsm_law.specs.contracts.view.ViewHash.TheImpl as views_hash
use Rattle.clsm_law.specs.contracts.merger.MergerViewHash.TheImpl as mergers_hash
use Rattle.clsm_model.specs.contracts.slot.SlotEq.TheImpl.Laws as slot_laws
use Rattle.clsm_model.specs.contracts.batch.BatchEq.TheImpl.Laws as batch_laws
use Rattle.clsm_law.specs.contracts.layout.LayoutEq.TheImpl.Laws as layout_laws
use Rattle.clsm_law.specs.contracts.view.ViewEq.TheImpl.Laws as view_laws
use Rattle.clsm_law.specs.contracts.merger.MergerViewEq.TheImpl.Laws as merger_laws
use Rattle.clsm_model.specs.contracts.slot.SlotHash.TheImpl.Laws as slot_hash_laws
use Rattle.clsm_model.specs.contracts.batch.BatchHash.TheImpl.Laws as batch_hash_laws
use Rattle.clsm_law.specs.contracts.layout.LayoutHash.TheImpl.Laws as layout_hash_laws
use Rattle.clsm_law.specs.contracts.view.ViewHash.TheImpl.Laws as view_hash_laws
use Rattle.clsm_law.specs.contracts.merger.MergerViewHash.TheImpl.Laws as merger_hash_laws
use Rattle.clsm_law.specs.declared.view.View.{View}
use Rattle.clsm_law.specs.declared.merger.Reader.{Reader}
use Rattle.clsm_law.specs.declared.merger.MergerView.{MergerView}
use Rattle.clsm_law.specs.Machine.{WorldState}

-- the view without how long it waited and the first look of its last hold
abbrev pub untimed : View → View
untimed v = record v { hold_first = None; waited = None }

-- and without its counts
abbrev pub uncounted : View → View
uncounted v =
    record (untimed v) { entries = 0; busy = 0; raced = 0; overtaken = 0; gave_up = 0; cancelled = 0; hasty = 0; clock_looks = 0; limit_looks = 0 }

-- what is noted of a seat, without the count of looks
abbrev pub uncounted_reader : Reader → Reader
uncounted_reader r = record r { looks = 0 }

-- the merger's view without its counts, and without what its last whole round and its last look at
-- the clock found
abbrev pub uncounted_merger : MergerView → MergerView
uncounted_merger m = record m { holds = 0; busy = 0; rounds = 0; noted = None; clock_looks = 0; clock_found = 0; readers = map uncounted_reader m.readers }

-- the world without them
abbrev pub uncounted_world : WorldState → WorldState
uncounted_world w = record w { views = map uncounted w.views; merger = uncounted_merger w.merger }

-- the test: field by field, the counts left out
abbrev pub is_same_world : WorldState → WorldState → Bool
is_same_world a b = of_layouts.ghosts.eq a.layout b.layout && (pointwise ◌==◌ a.words
    b.words && (pointwise of_views.ghosts.eq a.views b.views && (of_mergers.ghosts.eq a.merger
    b.merger && (pointwise (option_eq of_slots.ghosts.eq) a.slots b.slots && pointwise of_batches.ghosts.eq a.batches b.batches))))

-- what the hash of a world is fed: what the test compares, field by field
abbrev pub writes_of : WorldState → HashWrites
writes_of w = layouts_hash.ghosts.hash_input
    w.layout ++ (slice u64 w.words ++ (slice views_hash.ghosts.hash_input
    w.views ++ (mergers_hash.ghosts.hash_input w.merger ++ (slice (option slots_hash.ghosts.hash_input) w.slots ++ slice batches_hash.ghosts.hash_input
    w.batches))))

-- ---- the laws of both

-- the test is an equivalence
pub same_world_equiv : IsEquivalence is_same_world
same_world_equiv =
    and_equiv (on_equiv (λ (w : WorldState). w.layout) layout_laws.laws-law) (
    and_equiv (on_equiv (λ (w : WorldState). w.words) nat_list_eq_equiv) (
    and_equiv (on_equiv (λ (w : WorldState). w.views) (lists_equiv view_laws.laws-law)) (
    and_equiv (on_equiv (λ (w : WorldState). w.merger) merger_laws.laws-law) (
    and_equiv (on_equiv (λ (w : WorldState). w.slots) (lists_equiv (options_equiv slot_laws.laws-law))) (
    on_equiv (λ (w : WorldState). w.batches) (lists_equiv batch_laws.laws-law))))))

-- where equal items feed the hash the same, equal options do
option_fed : {A : Type 0} {E : A → A → Bool} {F : A → HashWrites} → Alike E F → (x y : Option A) → option_eq E x y ≡ true → option F x ≡ option F y
option_fed a None None h = refl
option_fed a None (Some y) h = absurd (true≢false (sym h))
option_fed a (Some x) None h = absurd (true≢false (sym h))
option_fed a (Some x) (Some y) h = ap (λ (writes : HashWrites). isize (pos 1) ++ writes) (a.fed x y h)

-- worlds that the test calls the same feed the hash the same
pub same_world_alike : Alike is_same_world writes_of
same_world_alike =
    and-Alike (on_Alike (λ (w : WorldState). w.layout) (record { fed = layout_hash_laws.respects_eq-law })) (
    and-Alike (on_Alike (λ (w : WorldState). w.words) (items_Alike (same_Alike u64 unsigned_Decides))) (
    and-Alike (on_Alike (λ (w : WorldState). w.views) (items_Alike (record { fed = view_hash_laws.respects_eq-law }))) (
    and-Alike (on_Alike (λ (w : WorldState). w.merger) (record { fed = merger_hash_laws.respects_eq-law })) (
    and-Alike (on_Alike (λ (w : WorldState). w.slots) (items_Alike (record { fed = option_fed (record { fed = slot_hash_laws.respects_eq-law }) }))) (
    on_Alike (λ (w : WorldState). w.batches) (items_Alike (record { fed = batch_hash_laws.respects_eq-law })))))))
