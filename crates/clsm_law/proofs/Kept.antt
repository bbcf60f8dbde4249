-- A lawful world stays lawful under every open step: each clause by its own lemma.
use Rattle.clsm_law.specs.declared.view.View.{View}
use Rattle.clsm_law.specs.declared.step.Step.{Step}
use Rattle.clsm_law.specs.Law.{LawOf}
use Rattle.clsm_law.proofs.Setting.{Setting, Ground, M, V, S, B, C, O, Allows, merger', memory', slots', chains', orders', OpensTo}
use Rattle.clsm_law.proofs.Batches.Opens.{opens_plain}
use Rattle.clsm_law.proofs.Batches.Staging.{staging_kept, staging_merged}
use Rattle.clsm_law.proofs.Batches.Kept.{fitting_kept, front_clock_kept, front_clock_merged, own_past, own_reached, in_turn_kept, in_turn_merged}
use Rattle.clsm_law.proofs.Batches.Kept.{written_kept, written_merged, uncut_front_kept}
use Rattle.clsm_law.proofs.Batches.Kept.{uncut_front_merged, uncut_pins_kept, uncut_snapshots_kept, uncut_pasts_kept, uncut_kept, listed_kept}
use Rattle.clsm_law.proofs.Decided.Cells.{shown_kept, shown_merged, empty_kept, empty_merged}
use Rattle.clsm_law.proofs.Chains.Kept.{chained_kept, lies_kept, once_kept, standing_kept, linked_kept, loose_kept}
use Rattle.clsm_law.proofs.Chains.Merged.{chained_merged, lies_merged, once_merged, standing_merged, linked_merged, loose_merged}
use Rattle.clsm_law.proofs.Clock.Kept.{clock_kept, clock_merged, limit_kept, limit_merged, begun_kept, begun_merged, bounded_kept, bounded_merged}
use Rattle.clsm_law.proofs.Clock.Kept.{below_clock, below_clock', current_kept, current_merged, top_kept, top_merged, merged_kept, merged_merged}
use Rattle.clsm_law.proofs.Decided.Kept.{front_kept, front_merged, merged_decided_kept, merged_decided_merged, past_kept, past_merged, reached_kept}
use Rattle.clsm_law.proofs.Decided.Kept.{reached_merged}
use Rattle.clsm_law.proofs.Drawn.Kept.{holding_kept, holding_merged, pending_kept, pending_merged, owned_kept, owned_merged, alone_kept, alone_merged}
use Rattle.clsm_law.proofs.Drawn.Kept.{filled_kept, filled_merged}
use Rattle.clsm_law.proofs.Lock.Kept.{seated_kept, seated_merged, lock_kept, lock_merged, locked_out_kept, locked_out_merged, sole_kept, sole_merged}
use Rattle.clsm_law.proofs.Lock.Kept.{merger_kept, merger_merged}
use Rattle.clsm_law.proofs.Lock.Found.{found_heads_kept, found_heads_merged, found_links_kept, found_links_merged}
use Rattle.clsm_law.proofs.Noted.Kept.{limits_kept, limits_merged, noted_by, noted_more, fresh_clock_after, hold_clock_after, clock_after, pin_clock_after}
use Rattle.clsm_law.proofs.Orders.Kept.{ordered_kept, sorted_kept, placed_kept, entered_kept}
use Rattle.clsm_law.proofs.Orders.Inserted.{inserted_kept, outside_kept, leading_kept}
use Rattle.clsm_law.proofs.Orders.Known.{met_kept, lows_kept, highs_kept}
use Rattle.clsm_law.proofs.Orders.Sides.{lower_kept, higher_kept}
use Rattle.clsm_law.proofs.Orders.Merged.{ordered_merged, sorted_merged, placed_merged, entered_merged, inserted_merged, outside_merged, leading_merged}
use Rattle.clsm_law.proofs.Orders.Merged.{met_merged, lows_merged, highs_merged, lower_merged, higher_merged}
use Rattle.clsm_law.proofs.Pins.Kept.{pins_kept, pins_merged, odd_kept, odd_merged, held_kept, held_merged, notes_kept, notes_merged}
use Rattle.clsm_law.proofs.Records.Kept.{right_kept, right_merged, stand_kept, stand_merged, recorded_kept, recorded_merged, own_due}
use Rattle.clsm_law.proofs.Records.Kept.{own_dues_kept, own_dues_merged}
use Rattle.clsm_law.proofs.Records.Rising.{rising_kept, rising_merged}
use Rattle.clsm_law.proofs.Runs.Kept.{runs_kept, runs_merged, former_runs_kept, former_runs_merged}
use Rattle.clsm_law.proofs.Decided.Short.{short_kept, short_merged}
use Rattle.clsm_law.proofs.Pins.Snapshots.{snapshots_kept, snapshots_merged, passed_kept, passed_merged, floors_kept, floors_merged}

-- a caller's step
pub kept : (s : Setting) (step : Step) → Allows s step → LawOf s.z (M s step) (V s step) s.merger (S s step) (B s step) (C s step) (O s step)
kept s step r = let o = opens_plain s step r in record {
  seated = seated_kept s step o;
  lock = lock_kept s step o;
  locked_out = locked_out_kept s step o;
  sole = sole_kept s step o;
  merger = merger_kept s step o;
  clock = clock_kept s step o;
  limit = limit_kept s step o;
  begun = begun_kept s step o;
  bounded = bounded_kept s step o;
  current = current_kept s step o;
  top = top_kept s step o;
  merged = merged_kept s step o;
  holding = holding_kept s step o;
  pending = pending_kept s step o;
  owned = owned_kept s step o;
  alone = alone_kept s step o;
  filled = filled_kept s step o;
  front = front_kept s step o;
  merged_decided = merged_decided_kept s step o;
  short = short_kept s step o;
  shown = shown_kept s step o;
  empty = empty_kept s step o;
  chained = chained_kept s step o;
  lies = lies_kept s step o;
  once = once_kept s step o;
  standing = standing_kept s step o;
  linked = linked_kept s step o;
  loose = loose_kept s step o;
  ordered = ordered_kept s step o;
  sorted = sorted_kept s step o;
  placed = placed_kept s step o;
  entered = entered_kept s step o;
  inserted = inserted_kept s step o;
  outside = outside_kept s step o;
  leading = leading_kept s step o;
  met = met_kept s step o;
  lows = lows_kept s step o;
  highs = highs_kept s step o;
  lower = lower_kept s step o;
  higher = higher_kept s step o;
  found_heads = found_heads_kept s step o;
  found_links = found_links_kept s step o;
  limits = limits_kept s step o;
  fresh_clocks = noted_by s step o View.fresh_clock s.law.fresh_clocks (fresh_clock_after s step);
  hold_clocks = noted_by s step o View.hold_clock s.law.hold_clocks (hold_clock_after s step);
  clocks = noted_by s step o View.clock s.law.clocks (clock_after s step);
  pin_clocks = noted_by s step o View.pin_clock s.law.pin_clocks (pin_clock_after s step);
  past = past_kept s step o;
  reached = reached_kept s step o;
  pins = pins_kept s step o;
  odd = odd_kept s step o;
  held = held_kept s step o;
  notes = notes_kept s step o;
  snapshots = snapshots_kept s step o;
  passed = passed_kept s step o;
  floors = floors_kept s step o;
  runs = runs_kept s step o;
  former_runs = former_runs_kept s step o;
  right = right_kept s step o;
  stand = stand_kept s step o;
  recorded = recorded_kept s step o;
  rising = rising_kept s step o;
  dues = below_clock s step o View.due s.law.dues (own_due s step o);
  own_dues = own_dues_kept s step o;
  front_clock = front_clock_kept s step o;
  past_clock = below_clock s step o View.past s.law.past_clock (own_past s step o);
  reached_clock = below_clock s step o View.reached s.law.reached_clock (own_reached s step o);
  staging = staging_kept s step o;
  in_turn = in_turn_kept s step o;
  written = written_kept s step o;
  uncut_front = uncut_front_kept s step r;
  uncut_pins = uncut_pins_kept s step o;
  uncut_snapshots = uncut_snapshots_kept s step o;
  uncut_pasts = uncut_pasts_kept s step r;
  uncut = uncut_kept s step r;
  listed = listed_kept s step o;
  fitting = fitting_kept s step o;
}

-- a step of the merger
pub kept' : (g : Ground) (step : Step) → OpensTo g step → LawOf g.z (memory' g step) g.views (merger' g step) (slots' g step) g.batches (chains' g step)
    (orders' g step)
kept' g step o = record {
  seated = seated_merged g step o;
  lock = lock_merged g step o;
  locked_out = locked_out_merged g step o;
  sole = sole_merged g step o;
  merger = merger_merged g step o;
  clock = clock_merged g step o;
  limit = limit_merged g step o;
  begun = begun_merged g step o;
  bounded = bounded_merged g step o;
  current = current_merged g step o;
  top = top_merged g step o;
  merged = merged_merged g step o;
  holding = holding_merged g step o;
  pending = pending_merged g step o;
  owned = owned_merged g step o;
  alone = alone_merged g step o;
  filled = filled_merged g step o;
  front = front_merged g step o;
  merged_decided = merged_decided_merged g step o;
  short = short_merged g step o;
  shown = shown_merged g step o;
  empty = empty_merged g step o;
  chained = chained_merged g step o;
  lies = lies_merged g step o;
  once = once_merged g step o;
  standing = standing_merged g step o;
  linked = linked_merged g step o;
  loose = loose_merged g step o;
  ordered = ordered_merged g step o;
  sorted = sorted_merged g step o;
  placed = placed_merged g step o;
  entered = entered_merged g step o;
  inserted = inserted_merged g step o;
  outside = outside_merged g step o;
  leading = leading_merged g step o;
  met = met_merged g step o;
  lows = lows_merged g step o;
  highs = highs_merged g step o;
  lower = lower_merged g step o;
  higher = higher_merged g step o;
  found_heads = found_heads_merged g step o;
  found_links = found_links_merged g step o;
  limits = limits_merged g step o;
  fresh_clocks = noted_more g step o View.fresh_clock g.law.fresh_clocks;
  hold_clocks = noted_more g step o View.hold_clock g.law.hold_clocks;
  clocks = noted_more g step o View.clock g.law.clocks;
  pin_clocks = noted_more g step o View.pin_clock g.law.pin_clocks;
  past = past_merged g step o;
  reached = reached_merged g step o;
  pins = pins_merged g step o;
  odd = odd_merged g step o;
  held = held_merged g step o;
  notes = notes_merged g step o;
  snapshots = snapshots_merged g step o;
  passed = passed_merged g step o;
  floors = floors_merged g step o;
  runs = runs_merged g step o;
  former_runs = former_runs_merged g step o;
  right = right_merged g step o;
  stand = stand_merged g step o;
  recorded = recorded_merged g step o;
  rising = rising_merged g step o;
  dues = below_clock' g step o View.due g.law.dues;
  own_dues = own_dues_merged g step o;
  front_clock = front_clock_merged g step o;
  past_clock = below_clock' g step o View.past g.law.past_clock;
  reached_clock = below_clock' g step o View.reached g.law.reached_clock;
  staging = staging_merged g step o;
  in_turn = in_turn_merged g step o;
  written = written_merged g step o;
  uncut_front = uncut_front_merged g step o;
  uncut_pins = g.law.uncut_pins;
  uncut_snapshots = g.law.uncut_snapshots;
  uncut_pasts = g.law.uncut_pasts;
  uncut = g.law.uncut;
  listed = g.law.listed;
  fitting = g.law.fitting;
}
