use Rattle.std.proofs.Common.{◌≡◌, take}
use Rattle.std.specs.Fmt.{HasWritten, IsPlainFormatter}
use denote.Text.{Utf8}
use denote.Shadow.{shadow}
use Rattle.clsm_model.specs.Value.{text}
use Rattle.clsm_model.proofs.Texts.{separator_after}
use Rattle.clsm_model.proofs.value.ValueDisplay.fmt.Given as goal

abbrev pub invariant-loop-word : goal.invariant-loop-word
invariant-loop-word g l = record {
  utf8 : shadow (Utf8 l.separator);
  separator : l.separator ≡ separator_after (take l.word-index l.word-items);
  written : IsPlainFormatter l.initial.f → HasWritten g.W.Write.write_str_gives l.initial.f (text (take l.word-index l.word-items)) l.f;
}
