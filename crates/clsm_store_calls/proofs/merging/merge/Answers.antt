use Rattle.std.proofs.Common.{◌≡◌, ℕ, ◌+◌, ◌*◌, ◌≤◌, refl, sym, ap, ◌∙◌, subst, Result, Ok, Err, IfErr}
use Rattle.clsm_levels.specs.Merge.{wanted}
use Rattle.clsm_law.specs.declared.layout.Layout.{Layout}
use Rattle.clsm_law.specs.declared.merger.MergerView.{MergerView}
use Rattle.clsm_runs.specs.declared.merging.RunFull.{RunFull}
use Rattle.clsm_runs.specs.Outputs.{kept_of}
use Rattle.clsm_store_calls.specs.declared.merger_seat.MergerSeat.{MergerSeat}
use Rattle.clsm_store_calls.specs.Merging.{IsRunFull, StaysFrozen, epoch_known, frozen_of, kept_by, runs_known}
use Rattle.clsm_store_calls.specs.Seats.{FrozenState}
use Rattle.clsm_store_calls.specs.Flooring.{with_floor}
use Rattle.clsm_store_calls.proofs.Prepared.{counts_of, same_frozen, still_frozen}
use Rattle.clsm_store_calls.proofs.Publishing.{epoch_same, kept_is, may_publish, not_full, run_full, runs_same}
use Rattle.clsm_store_calls.proofs.merging.merge.Goals as goal

where_refused : (Q : Type 0) (r : Result (Unit {0}) RunFull) → Q → IfErr r (λ refusal. Q)
where_refused Q (Ok done) q = tt
where_refused Q (Err refusal) q = q

-- what is kept is said by what contracts see of the merger before
same_kept : (old new : MergerSeat) → StaysFrozen old new → kept_of new.raw.knows new.floor ≡ kept_by (frozen_of old) new.floor
same_kept old new stays =
    kept_is new.raw.knows new.floor
    ∙ ap (λ (m : ℕ). wanted m new.floor (epoch_known new.raw.knows) (runs_known new.raw.knows)) stays.frozen.out.merged
    ∙ ap (λ (s : FrozenState). kept_by s new.floor) stays.same

pub returns-in_err-merge-clause-stays : goal.returns-in_err-merge-clause-stays
returns-in_err-merge-clause-stays g c =
    let ready = c.renew_floor.new.merger in
    let k = ready.raw.knows in
    let k' = c.merge.new.merger.knows in
    let stays = c.renew_floor.ensures.stays in
    let changes = c.in_err-merge.ensures.changes in
    let left : MergerSeat = record {
      raw = c.merge.new.merger;
      merges = ready.merges;
      floor = ready.floor;
      noted = ready.noted;
      walk = c.merge.new.walk;
      seen = ready.seen;
    } in
    where_refused (StaysFrozen c.args.merger.now left) c.from_residual.result (record {
      frozen = still_frozen k k' ready.merges
          (changes.view ∙ ap (λ (m : MergerView). record k.merger {
            floor = m.floor;
            round = m.round;
            rounds = m.rounds;
            noted = m.noted;
          }) (sym changes.view)) stays.frozen;
      ready = record {
        floor = stays.ready.floor ∙ ap (λ (m : MergerView). m.floor) (sym changes.view);
        noted = stays.ready.noted ∙ ap (λ (m : MergerView). m.noted) (sym changes.view);
        early = subst (λ (z : Layout). ready.floor ≤ (ready.merges + 1) * z.cells) (sym changes.layout) stays.ready.early;
        room = c.in_err-merge.ensures.room;
        seats = stays.ready.seats ∙ ap (λ (z : Layout). z.seats) (sym changes.layout);
      };
      same = same_frozen ready left (c.in_err-merge.ensures.of.0 ∙ sym c.renew_floor.ensures.of.0) changes.layout refl
          (counts_of k k' (changes.view ∙ ap (λ (m : MergerView). with_floor k.merger m) (sym changes.view)))
          (epoch_same k k' c.show_invariant.ensures stays.frozen.frozen stays.frozen.out.exclusive changes)
          (runs_same k k' c.show_invariant.ensures stays.frozen.frozen stays.frozen.out.exclusive changes)
          ∙ ap (λ (s : FrozenState). record s { floor = ready.floor; rounds = k'.merger.rounds; noted = k'.merger.noted }) stays.same;
    })

pub returns-in_err-merge-clause-full : goal.returns-in_err-merge-clause-full
returns-in_err-merge-clause-full g c =
    let ready = c.renew_floor.new.merger in
    let k = ready.raw.knows in
    let stays = c.renew_floor.ensures.stays in
    let old = frozen_of c.args.merger.now in
    where_refused (IsRunFull old ready.floor) c.from_residual.result (run_full k ready.floor old
    (ap (λ (s : FrozenState). s.merger.store.layout) (sym stays.same))
    (ap (λ (s : FrozenState). s.merger.merges) (sym stays.same) ∙ sym stays.frozen.out.merged)
    (same_kept c.args.merger.now ready stays) c.in_err-merge.ensures.full)

pub publish-requires-clause-opens : goal.publish-requires-clause-opens
publish-requires-clause-opens g c =
    let ready = c.renew_floor.new.merger in
    let k = ready.raw.knows in
    let stays = c.renew_floor.ensures.stays in (
      c.in_ok-merge.ensures.of,
      may_publish k c.merge.new.merger.knows c.show_invariant.ensures stays.frozen.frozen stays.frozen.out.exclusive
          c.in_ok-merge.ensures.changes ready.floor stays.ready.floor c.in_ok-merge.ensures.written,
    )

pub returns-clause-fits : goal.returns-clause-fits
returns-clause-fits g c =
    let ready = c.renew_floor.new.merger in
    let k = ready.raw.knows in
    let stays = c.renew_floor.ensures.stays in
    let changes = c.in_ok-merge.ensures.changes in
    not_full k ready.floor (frozen_of c.args.merger.now) c.merge.new.merger.knows
    (ap (λ (s : FrozenState). s.merger.store.layout) (sym stays.same))
    (ap (λ (s : FrozenState). s.merger.merges) (sym stays.same) ∙ sym stays.frozen.out.merged)
    (same_kept c.args.merger.now ready stays) changes.view changes.layout c.in_ok-merge.ensures.written
