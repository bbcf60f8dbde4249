use Rattle.std.proofs.Common.{◌≡◌, ◌≤◌, length}
use Rattle.clsm_text.proofs.Parts.{HasRead}
use Rattle.clsm_text.specs.Number.{parts_of}
use Rattle.clsm_text.proofs.number.parse_words.Given as goal

abbrev pub invariant-loop-part : goal.invariant-loop-part
invariant-loop-part l =
    (goal.iterator-loop-part).can_next l.part-iterator
    × (goal.iterator-loop-part).is_finite l.part-iterator
    × (l.count ≡ length l.yielded)
    × (l.count ≤ 8)
    × (length l.words ≡ 8)
    × HasRead (parts_of l.text) l.words l.count
