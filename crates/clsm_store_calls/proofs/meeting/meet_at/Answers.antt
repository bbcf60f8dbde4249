use Rattle.std.proofs.Common.{refl}
use Rattle.clsm_words.proofs.Keeps.{looks_none}
use Rattle.clsm_store_calls.proofs.ReadParts.{met}
use Rattle.clsm_store_calls.proofs.meeting.meet_at.Goals as goal

pub returns-clause-meets : goal.returns-clause-meets
returns-clause-meets g c =
    met c.requires.rests.rests c.begin-point.ensures.begins c.begin-point.ensures.settled (looks_none c.begin-point.new.seat.knows)
    c.unpin.ensures.unpinned refl
