use Rattle.std.proofs.Common.{◌+◌, ◌++◌, ◌∷◌, [], ℕ, List, Option, Some, take, get_or, sym, ap, ◌∙◌, arith}
use Rattle.std.proofs.lemmas.List.{map_more, take_more_set}
use Rattle.clsm_law.specs.declared.word.Part.TheVariants.{Value}
use Rattle.clsm_law.specs.declared.view.View.{View}
use Rattle.clsm_memtable.proofs.Fillings.{fills_by, fills_trans}
use Rattle.clsm_memtable.proofs.filling.fill_words.Goals as goal

pub loop-index-preserved : goal.loop-index-preserved
loop-index-preserved g c =
    let old = c.args.seat.now.knows in
    let k = c.loop-index.seat.knows in
    let k' = c.fill.new.seat.knows in
    let i = c.loop-index.index in
    let x = c.fill.ensures.0 in
    let word = get_or c.args.value.now i 0 in
    let follows = c.fill.ensures.1.1 in
    let sound = c.show_invariant.ensures in
    record {
      of = c.fill.ensures.1.0;
      filled = fills_trans old k k' c.loop-index.invariant.filled (fills_by k k' (Value i) word x (λ e. cc) sound follows);
      key = ap (λ (v : View). v.key) follows.view ∙ c.loop-index.invariant.key;
      sized = ap (λ (v : View). v.length) follows.view ∙ c.loop-index.invariant.sized;
      words = ap (λ (v : View). take (i + 1) v.words) follows.view
          ∙ take_more_set k.view.words i (Some word)
          (let long = sound.rows.words in let few = c.requires.short in let inside = c.loop-index-test.true in omega arith)
          ∙ ap (λ (l : List (Option ℕ)). l ++ Some word ∷ []) c.loop-index.invariant.words
          ∙ sym (map_more (λ (w : ℕ). Some w) c.args.value.now i 0 c.loop-index-test.true);
    }
