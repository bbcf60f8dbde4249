use Rattle.std.proofs.Common.{◌≡◌, ◌-◌, []}
use Rattle.std.specs.Io.Buffered.{reader_remaining}
use Rattle.clsm_script.specs.Command.{IsCommand}
use Rattle.clsm_script.specs.Lines.{outputs_of, stage_of}
use Rattle.clsm_script.specs.Session.{IsSession}
use Rattle.clsm_store.specs.Phase.{merger_in}
use Rattle.clsm_text.proofs.Inputs.{LeadsTo}
use Rattle.clsm_script.proofs.Chains.{PrintTo}
use Rattle.clsm_script.proofs.playing.play_lines.Given as goal

abbrev pub invariant-loop-number : goal.invariant-loop-number
invariant-loop-number g l = record {
  leads : LeadsTo IsCommand (reader_remaining g.R.Read.remaining l.initial.reader)
      (reader_remaining g.R.Read.remaining l.reader) (l.number - 1);
  prints : PrintTo (reader_remaining g.R.Read.remaining l.initial.reader) (l.number - 1)
      (stage_of l.initial.session l.fn.merger.phase []) l.session l.phase
      (outputs_of (g.W.Write.contents l.initial.output) (g.W.Write.contents l.output));
  session : IsSession l.fn.merger.store.now l.session;
  merger : (merger_in l.phase).store ≡ l.fn.merger.store.now;
}
