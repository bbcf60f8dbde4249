use Rattle.std.proofs.Common.{◌+◌, ◌≤◌, Option, sym, ◌∙◌, subst, arith}
use Rattle.clsm_levels.specs.declared.entry.Entry.{Entry}
use Rattle.clsm_scan.specs.Collected.{IsHeadRow, left_at}
use Rattle.clsm_scan.specs.Reading.{HasReadTo}
use Rattle.clsm_scan.proofs.ReadOn.{read_on}
use Rattle.clsm_scan.proofs.Rows.{ArePassed, head_later, key_found, key_passed}
use Rattle.clsm_scan.proofs.collecting.next_key.Given.{Over}
use Rattle.clsm_scan.proofs.collecting.next_key.Goals as goal
use Rattle.clsm_scan.proofs.collecting.next_key.Goals.{After-has_value}

-- ---- a turn, after the look for a value

-- the key is not below the one that was sought
later : (g : Over) (c : After-has_value g) → c.loop-sought.sought ≤ c.in-Some.key
later g c = head_later (g.C.Source.found c.loop-sought.seat.knows c.loop-sought.cursor) c.loop-sought.sought c.in-Some.key
    (g.C.Source.last c.read.new.seat.knows c.read.new.self) (sym c.in-Some.ensures.key) c.read.ensures.next

-- what is behind the key is still ahead
turn : (g : Over) (c : After-has_value g)
    → HasReadTo g.C.Source.is_over g.C.Source.found g.C.Source.stands c.args.words.now c.args.seat.now c.has_value.new.seat c.args.cursor.now c.read.new.self
    (c.in-Some.key + 1)
turn g c =
    let read = c.read.ensures in
    let le = later g c in
    read_on g.C.Source.is_over g.C.Source.found g.C.Source.stands c.args.words.now g.met.C.Source.over_stays g.met.C.Source.found_stays
    g.met.C.Source.stands_stays c.args.seat.now c.loop-sought.seat c.read.new.seat c.has_value.new.seat c.args.cursor.now c.loop-sought.cursor c.read.new.self
    c.loop-sought.sought (c.in-Some.key + 1) (omega arith) c.loop-sought.invariant.read
    (record {
      of = read.of;
      looks = read.looks;
      over = read.over;
      same = λ k above. read.same k (omega arith);
      stands = g.met.C.Source.stands_later c.read.new.seat.knows c.read.new.self c.loop-sought.sought (c.in-Some.key + 1) (omega arith) read.stands;
    })
    c.has_value.ensures.of c.has_value.ensures.looks

pub returns-then-has_value-clause-over : goal.returns-then-has_value-clause-over
returns-then-has_value-clause-over g c = (turn g (goal.at.returns-then-has_value-clause-over g c).After-has_value).over

pub returns-then-has_value-clause-next : goal.returns-then-has_value-clause-next
returns-then-has_value-clause-next g c =
    let before = c.loop-sought.invariant in
    let found = g.C.Source.found c.args.seat.now.knows c.args.cursor.now in
    let head = g.C.Source.last c.read.new.seat.knows c.read.new.self in
    let stays = g.met.C.Source.last_stays c.read.new.seat.knows c.has_value.new.seat.knows c.read.new.self c.has_value.ensures.looks c.read.ensures.over in
    subst (λ (o : Option Entry). IsHeadRow (left_at found) c.args.from c.args.hi o c.in-Some.key) (sym stays)
    (key_found found (g.C.Source.found c.loop-sought.seat.knows c.loop-sought.cursor) c.args.from c.loop-sought.sought before.read.same before.passed
    c.args.hi c.in-Some.key head (sym c.in-Some.ensures.key) (sym c.has_value.ensures.has ∙ c.if-has_value.true) before.later (omega arith) c.read.ensures.next)

pub returns-then-has_value-clause-read : goal.returns-then-has_value-clause-read
returns-then-has_value-clause-read g c = turn g (goal.at.returns-then-has_value-clause-read g c).After-has_value

pub returns-in_default-checked_add-clause-over : goal.returns-in_default-checked_add-clause-over
returns-in_default-checked_add-clause-over g c = (turn g (goal.at.returns-in_default-checked_add-clause-over g c).After-has_value).over

pub loop-sought-preserved : goal.loop-sought-preserved
loop-sought-preserved g c =
    let after = (goal.at.loop-sought-preserved g c).After-has_value in
    let before = c.loop-sought.invariant in
    let found = g.C.Source.found c.args.seat.now.knows c.args.cursor.now in
    let head = g.C.Source.last c.read.new.seat.knows c.read.new.self in
    let behind = sym c.in-Some-checked_add.ensures.1 in
    let passed = key_passed found (g.C.Source.found c.loop-sought.seat.knows c.loop-sought.cursor) c.args.from c.loop-sought.sought before.read.same
    before.passed c.in-Some.key head (sym c.in-Some.ensures.key) (sym c.has_value.ensures.has ∙ c.if-has_value.false) c.read.ensures.next in
    record {
      read = subst (HasReadTo g.C.Source.is_over g.C.Source.found g.C.Source.stands c.args.words.now c.args.seat.now c.has_value.new.seat c.args.cursor.now
          c.read.new.self) behind (turn g after);
      later = omega (arith, before.later, later g after);
      passed = subst (ArePassed (left_at found) c.args.from) behind passed;
    }
