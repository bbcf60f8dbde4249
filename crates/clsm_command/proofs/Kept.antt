-- What each use of an argument keeps of the rows, a walk over words in which clap finds no fault
-- keeps.
use Rattle.std.proofs.Common.{◌≡◌, ◌∷◌, ◌&&◌, [], ℕ, Bool, true, false, List, Option, Some, None, refl, zero, suc, length, drop}
use Rattle.std.specs.Prelude.{fold, is_some, slice_get, encode_utf8, if◌then◌else◌}
use Rattle.std.specs.Option.{option_map_or}
use Rattle.std.specs.Str.{bytes_eq, chars}
use Rattle.clap.specs.Lexer.{long_of, short_of}
use Rattle.clap.specs.Words.{Kinds, Row, Rule, Shape, Text}
use Rattle.clap.specs.Kinds.{or_else}
use Rattle.clap.specs.Faults.{bundle_fault, bundle_step_fault, flag_word_fault, flags_fault, level_fault, long_fault, option_fault, other_fault}
use Rattle.clap.specs.Faults.{positional_fault, react_fault, settle_fault, short_fault, step_fault, stray_fault, turn_fault, use_fault, walk_fault}
use Rattle.clap.specs.Faults.{word_fault}
use Rattle.clap.specs.Walk.{Held, Names, Outcome, Step, Waiting, Walk, after_flag, after_step, arg_by_id, arg_by_index, arg_by_long, arg_by_short}
use Rattle.clap.specs.Walk.{attached_value, bundle_met, bundle_step, done, finished, flag_met, is_pending, long_met, long_or_other, next, nothing_held}
use Rattle.clap.specs.Walk.{option_met, option_word, plain, plain_word, pushed, reacted, refused, rows_after, settled, settled_rows, short_met}
use Rattle.clap.specs.Walk.{short_or_plain, subcommand_met, subcommand_or_other, takes_several, takes_values, to_positional, trailing, used, used_by_id}
use Rattle.clap.specs.Walk.{waits, walk_from, walked, walked_from, with_default, word_met}
use Rattle.clap.specs.Walk as walk
use Rattle.clsm_command.proofs.Entered.{Each, found_in, neither}

module _ (P : Row → Type 0) (s : Shape) where
  -- a use of the argument in which there is no fault keeps P
  abbrev pub Keeps : Rule → Type 0
  Keeps a = (values : List Text) (rows : List Row) → use_fault s.args_override_self a values rows ≡ [] → Each P rows → Each P (used a values rows)

  -- and so does its default
  abbrev pub DefaultKeeps : Rule → Type 0
  DefaultKeeps a = (rows : List Row) → Each P rows → Each P (with_default rows a)

  abbrev OptionKeeps : Option Rule → Type 0
  OptionKeeps o = (a : Rule) → o ≡ Some a → Keeps a

  abbrev settling : Held → Kinds
  settling h = settle_fault s.rules s.args_override_self h

  module _ (keeps : Each Keeps s.rules) where
    by_id : (values : List Text) (rows : List Row) (o : Option Rule) → OptionKeeps o
        → option_map_or (λ a. use_fault s.args_override_self a values rows) o [] ≡ [] → Each P rows → Each P (used_by_id o values rows)
    by_id values rows None each e h = h
    by_id values rows (Some a) each e h = each a refl values rows e h

    when_settled : (p : Option (Text × List Text)) (rows : List Row)
        → option_map_or (λ p. option_map_or (λ a. use_fault s.args_override_self a p.1 rows) (arg_by_id s.rules p.0) []) p [] ≡ []
        → Each P rows → Each P (settled_rows s.rules p rows)
    when_settled None rows e h = h
    when_settled (Some p) rows e h =
        by_id p.1 rows (arg_by_id s.rules p.0) (found_in Keeps (λ (a : Rule). bytes_eq a.id p.0) s.rules keeps) e h

    pub settled_keeps : (h : Held) → settling h ≡ [] → Each P h.rows → Each P (settled s.rules h).rows
    settled_keeps h e rows = when_settled h.pending h.rows e rows

    reacted_keeps : (a : Rule) → Keeps a → (values : List Text) (h : Held) → react_fault s.rules s.args_override_self a values h ≡ []
        → Each P h.rows → Each P (reacted s.rules a values h).rows
    reacted_keeps a each values h e rows =
        let parts = neither (settling h) (use_fault s.args_override_self a values (settled s.rules h).rows) e in
        each values (settled s.rules h).rows parts.1 (settled_keeps h parts.0 rows)

    option_keeps : (a : Rule) → Keeps a → (v : Option Text) (h : Held) → option_fault s.rules s.args_override_self a v h ≡ []
        → Each P h.rows → Each P (option_met s.rules a v h).0.rows
    option_keeps a each (Some v) h e rows = reacted_keeps a each (v ∷ []) h e rows
    option_keeps a each None h e rows = settled_keeps h e rows

    -- ---- long options

    either_keeps : (b : Bool) (a : Rule) → Keeps a → (v : Option Text) (h : Held) (many : Kinds)
        → (if b then option_fault s.rules s.args_override_self a v h
        else (if is_some v then many else react_fault s.rules s.args_override_self a [] h)) ≡ []
        → Each P h.rows → Each P (if b then option_met s.rules a v h else flag_met s.rules a v h).0.rows
    either_keeps true a each v h many e rows = option_keeps a each v h e rows
    either_keeps false a each (Some v) h many e rows = rows
    either_keeps false a each None h many e rows = reacted_keeps a each [] h e rows

    long_keeps : (o : Option Rule) → OptionKeeps o → (v : Option Text) (h : Held) → long_fault s.rules s.args_override_self o v h ≡ []
        → Each P h.rows → Each P (long_met s.rules o v h).0.rows
    long_keeps None each v h e rows = rows
    long_keeps (Some a) each v h e rows = either_keeps (takes_values a) a (each a refl) v h _ e rows

    -- ---- bundles of short options

    flag_keeps : (b : Bool) (a : Rule) → Keeps a → (v : Option Text) (h : Held) (fault : Held → Kinds) (met : Held → Held × Outcome)
        → ((h : Held) → fault h ≡ [] → Each P h.rows → Each P (met h).0.rows)
        → (if b then option_fault s.rules s.args_override_self a v h
        else or_else (react_fault s.rules s.args_override_self a [] h) (fault (reacted s.rules a [] h))) ≡ []
        → Each P h.rows → Each P (if b then option_met s.rules a v h else met (reacted s.rules a [] h)).0.rows
    flag_keeps true a each v h fault met later e rows = option_keeps a each v h e rows
    flag_keeps false a each v h fault met later e rows =
        let parts = neither (react_fault s.rules s.args_override_self a [] h) (fault (reacted s.rules a [] h)) e in
        later (reacted s.rules a [] h) parts.1 (reacted_keeps a each [] h parts.0 rows)

    short_keeps : (o : Option Rule) → OptionKeeps o → (rest : Text) (h : Held) (fault : Held → Kinds) (met : Held → Held × Outcome)
        → ((h : Held) → fault h ≡ [] → Each P h.rows → Each P (met h).0.rows)
        → short_fault s.rules s.args_override_self o rest h fault ≡ [] → Each P h.rows → Each P (short_met s.rules o rest h met).0.rows
    short_keeps None each rest h fault met later e rows = rows
    short_keeps (Some a) each rest h fault met later e rows =
        flag_keeps (takes_values a) a (each a refl) (attached_value rest) h fault met later e rows

    char_keeps : (x : Option ℕ) (flags : Text) (skip : ℕ) (so_far : Outcome) (h : Held)
        (fault : Text → ℕ → Held → Kinds) (met : Text → ℕ → Outcome → Held → Held × Outcome)
        → ((flags : Text) (skip : ℕ) (so_far : Outcome) (h : Held) → fault flags skip h ≡ [] → Each P h.rows → Each P (met flags skip so_far h).0.rows)
        → bundle_step_fault s.rules s.args_override_self x flags skip h fault ≡ [] → Each P h.rows
        → Each P (bundle_step s.rules x flags skip so_far h met).0.rows
    char_keeps None flags skip so_far h fault met later e rows = rows
    char_keeps (Some x) flags zero so_far h fault met later e rows =
        let rest = drop (length (encode_utf8 x)) flags in
        short_keeps (arg_by_short s.rules x) (found_in Keeps _ s.rules keeps) rest h (fault rest 0) (met rest 0 done) (later rest 0 done) e rows
    char_keeps (Some x) flags (suc skip) so_far h fault met later e rows =
        later (drop (length (encode_utf8 x)) flags) skip so_far h e rows

    bundle_keeps : (k : ℕ) (flags : Text) (skip : ℕ) (so_far : Outcome) (h : Held) → flags_fault s.rules s.args_override_self k flags skip h ≡ []
        → Each P h.rows → Each P (bundle_met s.rules k flags skip so_far h).0.rows
    unfolding bundle_met flags_fault
    bundle_keeps zero flags skip so_far h e rows = rows
    bundle_keeps (suc k) flags skip so_far h e rows =
        char_keeps (slice_get (chars flags) 0) flags skip so_far h (flags_fault s.rules s.args_override_self k) (bundle_met s.rules k) (bundle_keeps k) e rows

    -- ---- words

    pushed_keeps : (o : Option Rule) (id word : Text) (h : Held) → Each P h.rows → Each P (option_word o id word h).0.rows
    pushed_keeps None id word h rows = rows
    pushed_keeps (Some a) id word h rows = rows

    plain_keeps : (waiting : Waiting) (word : Text) (h : Held) → Each P h.rows → Each P (plain_word s.rules waiting word h).0.rows
    plain_keeps walk.idle word h rows = rows
    plain_keeps (walk.option id) word h rows = pushed_keeps (arg_by_id s.rules id) id word h rows
    plain_keeps walk.positional word h rows = rows

    after_keeps : (waiting : Waiting) (word : Text) (h : Held) (o : Outcome) → Each P h.rows → Each P (after_flag s.rules waiting word h o).0.rows
    after_keeps waiting word h walk.done rows = rows
    after_keeps waiting word h (walk.waits id) rows = rows
    after_keeps waiting word h walk.plain rows = plain_keeps waiting word h rows
    after_keeps waiting word h walk.refused rows = plain_keeps waiting word h rows

    bundled_keeps : (o : Option Text) (waiting : Waiting) (word : Text) (h : Held)
        → option_map_or (λ flags. bundle_fault s.rules s.args_override_self flags h) o [] ≡ [] → Each P h.rows
        → Each P (short_or_plain s.rules waiting word o h).0.rows
    bundled_keeps None waiting word h e rows = plain_keeps waiting word h rows
    bundled_keeps (Some flags) waiting word h e rows =
        after_keeps waiting word _ _ (bundle_keeps (length flags) flags h.skip plain (record h { skip = 0 }) e rows)

    flag_word_keeps : (p : Option (Text × Option Text)) (waiting : Waiting) (word : Text) (h : Held)
        → flag_word_fault s.rules s.args_override_self p word h ≡ [] → Each P h.rows → Each P (long_or_other s.rules waiting word p h).0.rows
    flag_word_keeps None waiting word h e rows = bundled_keeps (short_of word) waiting word h e rows
    flag_word_keeps (Some p) waiting word h e rows =
        after_keeps waiting word _ _ (long_keeps (arg_by_long s.rules p.0) (found_in Keeps _ s.rules keeps) p.1 h e rows)

    unless_dashes : (b : Bool) (position : ℕ) (waiting : Waiting) (word : Text) (h : Held)
        → (if b then [] else flag_word_fault s.rules s.args_override_self (long_of word) word h) ≡ [] → Each P h.rows
        → Each P (if b then (h, trailing position) else long_or_other s.rules waiting word (long_of word) h).0.rows
    unless_dashes true position waiting word h e rows = rows
    unless_dashes false position waiting word h e rows = flag_word_keeps (long_of word) waiting word h e rows

    other_keeps : (sub : Option Text) (position : ℕ) (waiting : Waiting) (word : Text) (h : Held) → other_fault s sub word h ≡ []
        → Each P h.rows → Each P (subcommand_or_other s.rules sub waiting position word h).0.rows
    other_keeps (Some name) position waiting word h e rows = rows
    other_keeps None position waiting word h e rows = unless_dashes (bytes_eq word (45 ∷ 45 ∷ [])) position waiting word h e rows

    met_keeps : (names : Names) (is_trailing : Bool) (waiting : Waiting) (position : ℕ) (word : Text) (h : Held)
        → word_fault s names is_trailing waiting word h ≡ [] → Each P h.rows
        → Each P (word_met s.rules names is_trailing waiting position word h).0.rows
    met_keeps names true waiting position word h e rows = rows
    met_keeps names false waiting position word h e rows = other_keeps (subcommand_met names waiting word) position waiting word h e rows

    -- ---- steps of the walk

    unless_pending : (b : Bool) (id word : Text) (h : Held) → (if b then [] else settling h) ≡ [] → Each P h.rows
        → Each P (pushed id word (if b then h else settled s.rules h)).rows
    unless_pending true id word h e rows = rows
    unless_pending false id word h e rows = settled_keeps h e rows

    value_keeps : (o : Option Rule) (word : Text) (w : Walk) (h : Held)
        → option_map_or (λ a. positional_fault s.rules s.args_override_self a h) o (stray_fault s) ≡ [] → Each P h.rows
        → Each P (to_positional s.rules o word w h).held.rows
    value_keeps None word w h e rows = rows
    value_keeps (Some a) word w h e rows = unless_pending (is_pending a h.pending && takes_several a) a.id word h e rows

    step_keeps : (word : Text) (w : Walk) (h : Held) (step : Step) → step_fault s w.position h step ≡ [] → Each P h.rows
        → Each P (after_step s.rules word w h step).held.rows
    step_keeps word w h (walk.next waiting) e rows = rows
    step_keeps word w h (walk.trailing position) e rows = rows
    step_keeps word w h (walk.subcommand name) e rows = rows
    step_keeps word w h walk.value e rows = value_keeps (arg_by_index s.rules w.position) word w h e rows

    turn_keeps : (names : Names) (stopped : Option (Text × List Text)) (w : Walk) (word : Text)
        → (if is_some stopped then [] else or_else (word_fault s names w.is_trailing w.waiting word w.held)
        (step_fault s w.position (word_met s.rules names w.is_trailing w.waiting w.position word w.held).0
        (word_met s.rules names w.is_trailing w.waiting w.position word w.held).1)) ≡ []
        → Each P w.held.rows → Each P (walked_from s.rules names stopped w word).held.rows
    turn_keeps names (Some p) w word e rows = rows
    turn_keeps names None w word e rows =
        let met = word_met s.rules names w.is_trailing w.waiting w.position word w.held in
        let parts = neither (word_fault s names w.is_trailing w.waiting word w.held) (step_fault s w.position met.0 met.1) e in
        step_keeps word w met.0 met.1 parts.1 (met_keeps names w.is_trailing w.waiting w.position word w.held parts.0 rows)

    walk_keeps : (names : Names) (words : List Text) (w : Walk) → walk_fault s names w words ≡ [] → Each P w.held.rows
        → Each P (fold (walked s.rules names) w words).held.rows
    unfolding walk_fault walked
    walk_keeps names [] w e rows = rows
    walk_keeps names (word ∷ rest) w e rows =
        let parts = neither (turn_fault s names w word) (walk_fault s names (walked s.rules names w word) rest) e in
        walk_keeps names rest (walked s.rules names w word) parts.1 (turn_keeps names w.stopped w word parts.0 rows)

    defaults_keep : (rules : List Rule) → Each DefaultKeeps rules → (rows : List Row) → Each P rows → Each P (fold with_default rows rules)
    defaults_keep [] each rows h = h
    defaults_keep (a ∷ rest) each rows h = defaults_keep rest each.1 (with_default rows a) (each.0 rows h)

    -- the rows of a level in which clap finds no fault
    pub level_keeps : Each DefaultKeeps s.rules → (names : Names) (words : List Text) (has : Bool) (below : Kinds)
        → level_fault s names nothing_held words has below ≡ [] → Each P (rows_after s.rules names words)
    level_keeps defaults names words has below e =
        let end = (walk.walk s.rules names nothing_held words).held in
        let walking = neither (walk_fault s names (walk_from nothing_held) words) _ e in
        let inner = neither below _ walking.1 in
        let ending = neither (settling end) _ inner.1 in
        defaults_keep s.rules defaults (settled s.rules end).rows
        (settled_keeps end ending.0 (walk_keeps names words (walk_from nothing_held) walking.0 tt))
