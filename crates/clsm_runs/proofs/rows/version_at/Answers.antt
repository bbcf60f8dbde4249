use Rattle.std.proofs.Common.{◌≡◌, ◌+◌, ℕ, refl, sym, ap, ◌∙◌, arith, Some}
use Rattle.clsm_levels.specs.declared.entry.Version.{Version}
use Rattle.clsm_levels.specs.Version.{version_in, version_of}
use Rattle.clsm_law.specs.declared.word.Word.TheVariants.{Count, Entry as EntryWord}
use Rattle.clsm_law.specs.Places.{entry_in}
use Rattle.clsm_law.proofs.Runs.Kept.{entry_same}
use Rattle.clsm_words.specs.Knowing.{row_of}
use Rattle.clsm_words.proofs.Changing.{found_left, looks_only}
use Rattle.clsm_runs.proofs.MergeRows.{first_past, first_there}
use Rattle.clsm_runs.proofs.rows.version_at.Goals as goal

pub returns-then-at-count-clause-head : goal.returns-then-at-count-clause-head
returns-then-at-count-clause-head g c =
    let k = c.args.merger.now.knows in
    let k' = c.look_as_merger-count.new.seat.knows in
    let follows = c.look_as_merger-count.ensures.1 in
    let looks = looks_only k k' (Count c.args.at.place) c.look_as_merger-count.result follows refl in
    let same : 0 + c.args.at.entry ≡ c.args.at.entry = omega arith in
    let found = found_left k k' (Count c.args.at.place) c.look_as_merger-count.result follows tt in
    ap (λ (v : Version). Some v)
    (c.version.ensures.told ∙ ap version_of
    (entry_same (row_of k) (row_of k') c.args.at.place c.args.at.entry (λ i. looks.stays (EntryWord c.args.at.place c.args.at.entry i) tt (λ no. no))))
    ∙ sym (ap version_in (first_there (row_of k) c.args.at.place 0 (row_of k (Count c.args.at.place)) c.args.at.entry
    (let lt = c.if-at-count.true in omega arith) ∙ ap (λ (n : ℕ). Some (entry_in (row_of k) c.args.at.place n)) same))

pub returns-else-at-count-clause-head : goal.returns-else-at-count-clause-head
returns-else-at-count-clause-head g c =
    let k = c.args.merger.now.knows in
    let found = found_left k c.look_as_merger-count.new.seat.knows (Count c.args.at.place) c.look_as_merger-count.result c.look_as_merger-count.ensures.1 tt in
    sym (ap version_in (first_past (row_of k) c.args.at.place 0 (row_of k (Count c.args.at.place)) c.args.at.entry
    (let ge = c.if-at-count.false in omega arith)))
