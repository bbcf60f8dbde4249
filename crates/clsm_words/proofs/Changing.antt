-- What several steps of the merger's seat change of the words of runs.
use Rattle.std.proofs.Common.{◌≡◌, ℕ, cond, [], append-nil, refl, ap, sym, ◌∙◌, subst}
use Rattle.clsm_law.specs.declared.layout.Layout.{Layout}
use Rattle.clsm_law.specs.declared.merger.MergerView.{MergerView}
use Rattle.clsm_law.specs.declared.word.Word.{Word}
use Rattle.clsm_law.specs.declared.word.Word.TheVariants.{Count, Entry as EntryWord}
use Rattle.clsm_law.specs.declared.step.Step.TheVariants.{Look, WriteRun}
use Rattle.clsm_law.specs.Memory.{is_same}
use Rattle.clsm_law.specs.Merging.{is_frozen, IsRunWord, merger_after}
use Rattle.clsm_law.proofs.Cases.{by_bool}
use Rattle.clsm_law.proofs.Frames.{put_other}
use Rattle.clsm_law.proofs.Rows.Words.{same_word}
use Rattle.clsm_words.specs.declared.known.Known.{Known}
use Rattle.clsm_words.specs.Changing.{Changes, NoWord}
use Rattle.clsm_words.specs.Knowing.{row_of}
use Rattle.clsm_words.specs.Merging.{FollowsMerger, IsOwn, facts_known}
use Rattle.clsm_model.proofs.Batches.{prefix_trans}

pub changes_none : (Those : Word → Type 0) (k : Known) → Changes Those k k
changes_none Those k = record { layout = refl; view = refl; trail = λ _. refl; past = ([], append-nil k.past); stays = λ word run not. refl }

pub changes_trans : (Those : Word → Type 0) (a b c : Known) → Changes Those a b → Changes Those b c → Changes Those a c
changes_trans Those a b c h k = record {
  layout = k.layout ∙ h.layout;
  view = k.view ∙ h.view;
  trail = λ frozen. k.trail (ap (λ (m : MergerView). is_frozen m.phase) h.view ∙ frozen) ∙ h.trail frozen;
  past = prefix_trans a.past b.past c.past h.past k.past;
  stays = λ word run not. k.stays word run not ∙ h.stays word run not;
}

pub changes_more : (Those These : Word → Type 0) (a b : Known) → ((word : Word) → Those word → These word) → Changes Those a b → Changes These a b
changes_more Those These a b more h = record {
  layout = h.layout;
  view = h.view;
  trail = h.trail;
  past = h.past;
  stays = λ word run not. h.stays word run (λ those. not (more word those));
}

-- ---- steps

-- each word of a run is the merger's own
run_is_own : (z : Layout) (m : MergerView) (word : Word) → IsRunWord word → IsOwn z m word
run_is_own z m (Count p) run = tt
run_is_own z m (EntryWord p e i) run = tt
run_is_own z m _ run = absurd run

-- a look at a word of a run, which is found as it was left
pub found_left : (k k' : Known) (word : Word) (x : ℕ) → FollowsMerger (Look word) k x k' → IsRunWord word → x ≡ row_of k word
found_left k k' word x follows run = follows.found (run_is_own k.layout k.merger word run)

-- a look leaves the words of runs
pub look_leaves : (k k' : Known) (word : Word) (x : ℕ) → FollowsMerger (Look word) k x k' → (other : Word) → IsRunWord other → row_of k' other ≡ row_of k other
look_leaves k k' word x follows other run = follows.stays other (run_is_own k.layout k.merger other run)
    ∙ by_bool (λ b. is_same other word ≡ b → cond b x (row_of k other) ≡ row_of k other) (is_same other word)
    (λ _ e. let same = same_word other word e in found_left k k' word x follows (subst IsRunWord same run) ∙ ap (row_of k) (sym same)) (λ _ _. refl) refl

-- and so changes none of them, where it leaves the view
pub looks_only : (k k' : Known) (word : Word) (x : ℕ) → FollowsMerger (Look word) k x k' → merger_after k.layout (facts_known k) k.merger (Look word) x
    ≡ k.merger → Changes NoWord k k'
looks_only k k' word x follows view = record {
  layout = follows.layout;
  view = follows.view ∙ view;
  trail = λ frozen. follows.trail frozen (ap (λ (m : MergerView). is_frozen m.phase) (follows.view ∙ view) ∙ frozen);
  past = follows.longer;
  stays = λ other run not. look_leaves k k' word x follows other run;
}

-- a write of a word
pub writes_only : (k k' : Known) (word : Word) (w x : ℕ) → FollowsMerger (WriteRun word w) k x k' → Changes (λ other. other ≡ word) k k'
writes_only k k' word w x follows = record {
  layout = follows.layout;
  view = follows.view;
  trail = λ frozen. follows.trail frozen (ap (λ (m : MergerView). is_frozen m.phase) follows.view ∙ frozen);
  past = follows.longer;
  stays = λ other here not. follows.stays other (run_is_own k.layout k.merger other here) ∙ put_other (row_of k) word other w not;
}
