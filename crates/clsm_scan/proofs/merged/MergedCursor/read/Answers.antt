use Rattle.std.proofs.Common.{◌<◌, ◌≤◌, ◌≡◌, List, Some, None, length, subst}
use Rattle.clsm_scan.specs.declared.merged.Stream.{Stream}
use Rattle.clsm_scan.specs.Streams.{IsLeast, key_at}
use Rattle.clsm_scan.proofs.Places.{read_key, read_next}
use Rattle.clsm_scan.proofs.merged.MergedCursor.read.Goals as goal

pub returns-clause-next : goal.returns-clause-next
returns-clause-next g c =
    let lead = c.least-lead.result in
    let after = c.pass.new.self in
    read_next c.args.seat.now.knows c.pass.new.seat.knows c.args.from c.args.self.now.hi after.hi c.args.self.now.streams.items after.streams.items
    c.pass.ensures.hi c.pass.ensures.same lead c.pass.ensures.ahead c.pass.ensures.from
    (subst (IsLeast lead) c.as_slice-streams.ensures.value c.least-lead.ensures.least)
    (subst (λ (ss : List Stream). 0 < length ss → lead < length ss) c.as_slice-streams.ensures.value c.least-lead.ensures.inside)

pub returns-clause-key : goal.returns-clause-key
returns-clause-key g c =
    let lead = c.least-lead.result in
    let after = c.pass.new.self in
    let key = c.key_at-key.result in
    read_key c.pass.new.seat.knows c.args.from after.hi after.streams.items lead key
    (subst (λ (ss : List Stream). lead < length ss → key ≡ Some (key_at ss lead)) c.as_slice-streams.ensures.value c.key_at-key.ensures.there)
    (subst (λ (ss : List Stream). length ss ≤ lead → key ≡ None) c.as_slice-streams.ensures.value c.key_at-key.ensures.none) c.pass.ensures.ahead
