-- Each open step of a seat is allowed.
use Rattle.std.proofs.Common.{◌≡◌, ℕ, ◌≤◌, true, cond, nat_lt, max, length, take, refl, sym, ap, ◌∙◌, subst, arith}
use Rattle.std.proofs.lemmas.Bool.{ltb-false}
use Rattle.std.specs.Prelude.{slice_index, Bool}
use Rattle.atomic_table.specs.Table.{Me, Act, Valid, keeps, stepped, Allows}
use Rattle.clsm_model.specs.History.{History, IsBeginning, batches_below, end_of}
use Rattle.clsm_model.proofs.Batches.{below_below}
use Rattle.clsm_law.specs.declared.step.Step.{Step}
use Rattle.clsm_law.specs.declared.step.Step.TheVariants.{Look, RaiseFront}
use Rattle.clsm_law.specs.declared.word.Word.TheVariants.{Clock, Front}
use Rattle.clsm_law.specs.Layout.{index_of, memory}
use Rattle.clsm_law.specs.Relation.{word_of, changed}
use Rattle.clsm_law.specs.Worlds.{settled}
use Rattle.clsm_law.proofs.Cases.{by_bool}
use Rattle.clsm_words.specs.declared.known.Known.{Known}
use Rattle.clsm_words.specs.Knowing.{Opens, Sound, Follows, known_of, told_of}
use Rattle.clsm_words.specs.Plays.{confirming}
use Rattle.clsm_words.specs.Ruled.{Begins, Ruled}
use Rattle.clsm_words.proofs.Sitting.{Sitting}
use Rattle.clsm_words.proofs.Beginnings.{begins_prefix}
use Rattle.clsm_words.proofs.Knows.{own_batches, own_past, past_clock, past_long, agrees_of, sound_of}
use Rattle.clsm_words.proofs.Played.{clock_rises, me_seated, found, next, slots', batches', below_stay, batches_known, past_stays, after, told_stays}
use Rattle.clsm_words.proofs.Played.{next_seated, ruled'}
use Rattle.clsm_words.proofs.PastGrowth.{past_grows}
use Rattle.clsm_words.proofs.Telling.{clock_near_drawn, made_of, tells_of}
use Rattle.clsm_words.proofs.Walking.{walks_of, runs_of_step, cells_of_step, ways_of_step}
use Rattle.clsm_words.proofs.Along.{along_of, extends_of}
use Rattle.clsm_words.proofs.Neighbours.{order_of, leaves_of, spots_of_step}

module _ (seat : Sitting) (step : Step) (o : Opens seat.k step) where
  open seat use {sits}
  open seat.place use {s, k, r, id, at}

  next_past : Begins (slots' seat step o) (next seat step o).past
  next_past = own_past (after seat step o) (next seat step o) (ruled' seat step o) (next_seated seat step o)

  old_past : Begins (slots' seat step o) k.past
  old_past = told_stays seat step o k.past (own_past s k r (me_seated seat step o))

  -- each with the batches that begin below its end
  next_batches : (next seat step o).batches ≡ batches_below (length (next seat step o).past) (batches' seat step o)
  next_batches = own_batches (after seat step o) (next seat step o) (ruled' seat step o)
      (next_seated seat step o)

  old_batches : k.batches ≡ batches_below (length k.past) (batches' seat step o)
  old_batches = own_batches s k r (me_seated seat step o) ∙ below_stay seat step o (length k.past)
      (let a = past_long s k r (me_seated seat step o) in let b = past_clock s k r (me_seated seat step o) in omega arith)

  told_batches : k.told_batches ≡ batches_below (length k.told) (batches' seat step o)
  told_batches = (r.seats.told id k at).listed ∙ below_stay seat step o (length k.told) (r.seats.told id k at).within

  -- of two beginnings of the history the one that is not longer begins the other
  begins_by : (g h : History) → Begins (slots' seat step o) g.slots → Begins (slots' seat step o) h.slots → g.batches
      ≡ batches_below (end_of g) (batches' seat step o) → h.batches ≡ batches_below (end_of h) (batches' seat step o)
      → end_of g ≤ end_of h → IsBeginning g h
  begins_by g h b c e f le = record {
    slots = begins_prefix (slots' seat step o) g.slots h.slots b c le;
    batches =
        let all = batches' seat step o in
        ap (batches_below (end_of g)) e ∙ below_below (end_of g) (end_of g) all (omega arith) ∙ sym (below_below (end_of g) (end_of h) all le)
        ∙ sym (ap (batches_below (end_of g)) f);
  }

  told_past : Begins (slots' seat step o) k.told
  told_past = told_stays seat step o k.told (r.seats.told id k at).begins

  told_within : length k.told ≤ memory k.layout (after seat step o).words Clock
  told_within = let a = (r.seats.told id k at).within in let b = clock_rises seat step o in omega arith

  sound' : Sound (next seat step o)
  sound' = sound_of (after seat step o) (next seat step o) (ruled' seat step o) (next_seated seat step o) sits

  longer_past : length k.past ≤ length (next seat step o).past
  longer_past =
      let before = (sound_of s k r (me_seated seat step o) sits).length_is in
      let after = sound'.length_is in
      let grows = past_grows k.layout k.number k.view step (found seat step o) in
      omega arith

  pub follows : Follows step k (found seat step o) (next seat step o)
  follows = record {
    self = record { number = refl; dealt = refl; layout = refl; told = refl; told_batches = refl; heard = refl };
    view = refl;
    made = made_of seat step o;
    longer = begins_by (known_of k) (known_of (next seat step o)) old_past next_past old_batches next_batches longer_past;
    same = λ e. (
      ap (λ (n : ℕ). take n (settled (slots' seat step o))) e ∙ sym (past_stays seat step o k (me_seated seat step o)),
      ap (λ (n : ℕ). batches_below n (batches' seat step o)) e ∙ sym (batches_known seat step o k (me_seated seat step o)),
    );
    reaches = λ le. begins_by (told_of k) (known_of (next seat step o)) told_past next_past told_batches next_batches le;
    within = λ le. begins_by (known_of (next seat step o)) (told_of k) next_past told_past next_batches told_batches le;
    agrees = agrees_of (after seat step o) (next seat step o) (ruled' seat step o) (next_seated seat step o)
        (told_of k) told_past told_batches told_within;
    clock = clock_near_drawn seat step o;
    tells = tells_of seat step o;
    walks = walks_of seat step o;
    runs = runs_of_step seat step o;
    cells = cells_of_step seat step o;
    ways = ways_of_step seat step o;
    order = order_of seat step o;
    leaves = leaves_of seat step o;
    spots = spots_of_step seat step o;
    extends = extends_of seat step o;
    along = along_of seat step o;
    sound = sound';
  }

-- ONE lemma for all steps of a seat: where the step is open, the table allows it
pub allows : (slots id : ℕ) (me : Me ℕ Known) (step : Step) → me.0.seated ≡ true → Opens me.0 step
    → Allows (Ruled me.0.layout) slots id me (index_of me.0.layout (word_of me.0.layout me.0.number me.0.view step)) (changed me.0.layout me.0.view step)
    (λ x after. Follows step me.0 x after.0)
allows slots id me step sits o s r deep at fits =
    let seat : Sitting = record { place = record { s = s; id = id; k = me.0; r = r; at = at }; sits = sits } in
    (next seat step o, keeps, tt, ruled' seat step o, follows seat step o)

-- where FRONT is found at the time or above, a look at it is a raise to the time
pub allows_confirm : (slots id : ℕ) (me : Me ℕ Known) (time : ℕ) → me.0.seated ≡ true → Opens me.0 (RaiseFront time) → Opens me.0 (Look Front)
    → Allows (Ruled me.0.layout) slots id me (index_of me.0.layout Front) (λ x. x) (λ x after. Follows (confirming time x) me.0 x after.0)
allows_confirm slots id me time sits raises looks s r deep at fits =
    let i = index_of me.0.layout Front in
    let x = slice_index s.words i in
    by_bool (λ (b : Bool). (w : Known) × (a : Act ℕ) × Valid s.homes me.1 a × Ruled me.0.layout (stepped s i x id me.1 w a)
    × Follows (cond b (Look Front) (RaiseFront time)) me.0 x w) (nat_lt x time) (λ _. allows slots id me (Look Front) sits looks s r deep at fits)
    (λ above. let le = ltb-false x time above in let stays : max x time ≡ x = omega arith in
    subst (λ (n : ℕ). (w : Known) × (a : Act ℕ) × Valid s.homes me.1 a × Ruled me.0.layout (stepped s i n id me.1 w a)
    × Follows (RaiseFront time) me.0 x w) stays (allows slots id me (RaiseFront time) sits raises s r deep at fits))
