-- Each open step of the merger is allowed.
use Rattle.std.proofs.Common.{◌≡◌, ℕ, true, cond, refl, sym, ap, ◌∙◌, subst}
use Rattle.atomic_table.specs.Table.{Me, keeps, Allows}
use Rattle.clsm_law.specs.declared.word.Word.{Word}
use Rattle.clsm_law.specs.declared.step.Step.{Step}
use Rattle.clsm_law.specs.declared.merger.MergerView.{MergerView}
use Rattle.clsm_law.specs.Memory.{is_same, put}
use Rattle.clsm_law.specs.Layout.{index_of, memory}
use Rattle.clsm_law.specs.Merging.{word_of_merger, changed_by_merger}
use Rattle.clsm_law.proofs.Frames.{put_here}
use Rattle.clsm_words.specs.declared.known.Known.{Known}
use Rattle.clsm_words.specs.Knowing.{row_of}
use Rattle.clsm_words.specs.Merging.{IsOwn, OpensToMerger, FollowsMerger}
use Rattle.clsm_words.specs.Ruled.{Begins, Ruled}
use Rattle.clsm_words.proofs.Sitting.{MergerSitting}
use Rattle.clsm_words.proofs.Beginnings.{begins_prefix}
use Rattle.clsm_words.proofs.MergerKnows.{sound_merger}
use Rattle.clsm_words.proofs.MergerPlayed.{me_merging, finds_word, found, made, word, next, slots', after, told_stays, next_past, longer_past, next_merging}
use Rattle.clsm_words.proofs.MergerPlayed.{trail_stays, same_memory, ruled'}
use Rattle.clsm_words.proofs.MergerTelling.{tells_merger}

module _ (seat : MergerSitting) (step : Step) (o : OpensToMerger seat.k step) where
  open seat use {merges}
  open seat.place use {s, id, k, r, at}

  -- the words of the merger's own are what it knew
  own_row : (w : Word) → IsOwn k.layout k.merger w → row_of k w ≡ memory k.layout s.words w
  own_row w own = let me = me_merging seat step o in me.row w (subst (λ (m : MergerView). IsOwn k.layout m w) me.view own)

  found_known : IsOwn k.layout k.merger (word seat step o) → found seat step o ≡ row_of k (word seat step o)
  found_known own = finds_word seat step o ∙ sym (own_row (word seat step o) own)

  stays_known : (w : Word) → IsOwn k.layout k.merger w → row_of (next seat step o) w
      ≡ put (row_of k) (word seat step o) (made seat step o) w
  stays_known w own = (λ i. same_memory seat step o i w)
      ∙ ap (λ (n : ℕ). cond (is_same w (word seat step o)) (made seat step o) n) (sym (own_row w own))

  -- what it was told is true of the slots after the step too
  told_past : Begins (slots' seat step o) k.told
  told_past = told_stays seat step o k.told (r.seats.told id k at).begins

  pub follows_merger : FollowsMerger step k (found seat step o) (next seat step o)
  follows_merger = record {
    view = refl;
    found = found_known;
    made = (λ i. same_memory seat step o i (word seat step o))
        ∙ put_here (memory k.layout s.words) (word seat step o) (made seat step o);
    stays = stays_known;
    longer = begins_prefix (slots' seat step o) k.past (next seat step o).past
        (told_stays seat step o k.past (me_merging seat step o).past) (next_past seat step o)
        (longer_past seat step o);
    reaches = λ le. begins_prefix (slots' seat step o) k.told (next seat step o).past told_past
        (next_past seat step o) le;
    within = λ le. begins_prefix (slots' seat step o) (next seat step o).past k.told
        (next_past seat step o) told_past le;
    trail = trail_stays seat step o;
    number = refl;
    dealt = refl;
    layout = refl;
    told = refl;
    tells = tells_merger seat step o;
    sound = sound_merger (after seat step o) (next seat step o) (ruled' seat step o)
        (next_merging seat step o) merges;
  }

-- ONE lemma for all steps of the merger: where the step is open, the table allows it
pub allows_merger : (slots id : ℕ) (me : Me ℕ Known) (step : Step) → me.0.merges ≡ true → OpensToMerger me.0 step
    → Allows (Ruled me.0.layout) slots id me (index_of me.0.layout (word_of_merger me.0.layout me.0.merger step))
    (changed_by_merger me.0.layout me.0.merger step) (λ x after. FollowsMerger step me.0 x after.0)
allows_merger slots id me step merges o s r deep at fits =
    let seat : MergerSitting = record { place = record { s = s; id = id; k = me.0; r = r; at = at }; merges = merges } in
    (next seat step o, keeps, tt, ruled' seat step o, follows_merger seat step o)
