-- A seat may deal another, tell its past, and learn another's.
use Rattle.std.proofs.Common.{◌≡◌, ℕ, ◌<◌, refl, sym, ◌∙◌, subst, arith, false, []}
use Rattle.atomic_table.specs.Table.{Me, Splits, Joins}
use Rattle.atomic_table.specs.Seated.{TableId}
use Rattle.clsm_law.specs.declared.layout.Layout.{Layout}
use Rattle.clsm_law.specs.declared.word.Word.TheVariants.{Lock}
use Rattle.clsm_law.proofs.Rows.Index.{index_inside}
use Rattle.clsm_words.specs.declared.known.Known.{Known}
use Rattle.clsm_words.specs.declared.words.WordTable.{WordTable}
use Rattle.clsm_words.specs.Seats.{RawState}
use Rattle.clsm_words.specs.Knowing.{unplayed, deals, known_of, messenger, Sound, learns}
use Rattle.clsm_words.specs.Merging.{IsSoundMerger}
use Rattle.clsm_words.specs.Plays.{IsSeatOf}
use Rattle.clsm_words.specs.Ruled.{Ruled}
use Rattle.clsm_words.proofs.Dealing.{deals_one, tells_one, learns_one}
use Rattle.clsm_model.specs.History.{plain}

-- there is a word
some_word : (w : WordTable) → 0 < w.table.shared.table_id.words
some_word w = let size = w.sized.0 in let first = index_inside w.layout Lock refl in omega arith

-- what the table asks of one that takes a message in
pub may_join : (w : WordTable) (to message : TableId) (id other : ℕ) (me : Me ℕ Known) (sent : Me ℕ Known) → to ≡ w.table.shared.table_id
    → message ≡ w.table.shared.table_id → (sent.0.seated ≡ false) × (sent.0.merges ≡ false) × (sent.1 ≡ [])
    → (to ≡ w.table.shared.table_id) × (message ≡ w.table.shared.table_id) × (sent.1 ≡ []) × (0 < w.table.shared.table_id.words)
    × Joins (Ruled w.table.shared.key) id me.0 other sent.0 (learns me.0 sent.0) (messenger (plain []) 0)
may_join w to message id other me sent at from carries =
    (at, from, carries.2, some_word w, learns_one w.table.shared.key id other me.0 sent.0 carries.0 carries.1)

-- the seat `now` at the words has the table's view `me.0`
module _ (w : WordTable) (table : TableId) (id : ℕ) (me : Me ℕ Known) (now : RawState) (is : record { table = table; knows = me.0 } ≡ now)
    (of : IsSeatOf w now) where
  of' : IsSeatOf w record { table = table; knows = me.0 }
  of' = subst (IsSeatOf w) (sym is) of

  key : me.0.layout ≡ w.table.shared.key
  key = of'.1 ∙ sym w.sized.1

  pub may_deal : IsSoundMerger me.0 → now.knows.dealt < w.layout.seats
      → (table ≡ w.table.shared.table_id) × (0 < w.table.shared.table_id.words)
      × Splits (Ruled w.table.shared.key) id me.0 (deals me.0) (unplayed me.0.layout me.0.dealt)
  may_deal sound room =
      let room' : me.0.dealt < w.layout.seats = subst (λ (v : RawState). v.knows.dealt < w.layout.seats) (sym is) room in
      let inside : me.0.dealt < me.0.layout.seats = subst (λ (z : Layout). me.0.dealt < z.seats) (sym of'.1) room' in (
        of'.0,
        some_word w,
        subst (λ (z : Layout). Splits (Ruled z) id me.0 (deals me.0) (unplayed me.0.layout me.0.dealt)) key
            (deals_one id me.0 sound.merges inside),
      )

  pub may_tell : Sound me.0 → (table ≡ w.table.shared.table_id) × (0 < w.table.shared.table_id.words)
      × Splits (Ruled w.table.shared.key) id me.0 me.0 (messenger (known_of me.0) me.0.view.due)
  may_tell sound = (
    of'.0,
    some_word w,
    subst (λ (z : Layout). Splits (Ruled z) id me.0 me.0 (messenger (known_of me.0) me.0.view.due)) key
        (tells_one id me.0 sound.seated),
  )
