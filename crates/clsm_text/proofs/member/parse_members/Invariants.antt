use Rattle.std.proofs.Common.{take}
use Rattle.clsm_text.specs.Line.{texts_of}
use Rattle.clsm_text.specs.Member.{WriteMembers}
use Rattle.clsm_text.proofs.member.parse_members.Given as goal

abbrev pub invariant-loop-word : goal.invariant-loop-word
invariant-loop-word l = WriteMembers (texts_of (take l.word-index l.words)) l.members.items
