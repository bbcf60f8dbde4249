use Rattle.std.proofs.Common.{map, take}
use Rattle.std.specs.Fmt.{HasWritten, IsPlainFormatter}
use Rattle.clsm_text.specs.Written.{member_text, spaced}
use Rattle.clsm_text.proofs.written.MemberWordsDisplay.fmt.Given as goal

abbrev pub invariant-loop-key : goal.invariant-loop-key
invariant-loop-key g l =
    IsPlainFormatter l.initial.f →
    HasWritten g.W.Write.write_str_gives l.initial.f
    (spaced (map member_text (take l.key-index l.key-items))) l.f
