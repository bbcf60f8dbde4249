-- After words in which clap finds no fault, each argument with a default has a value that its
-- parser takes.
use Rattle.std.proofs.Common.{◌≡◌, ◌∙◌, ◌⊎◌, ◌∷◌, ◌&&◌, ◌||◌, ◌++◌, [], ℕ, Bool, true, false, not, List, Option, Some, None, refl, ap, sym, subst, cond}
use Rattle.std.proofs.Common.{length, inl, inr, option_map, true≢false}
use Rattle.std.specs.Prelude.{find, fold, nat_lt, if◌then◌else◌}
use Rattle.std.specs.Str.{bytes_eq}
use Rattle.clap.specs.Facts.{unwrap_or_range}
use Rattle.clap.specs.Words.{Kinds, Row, Rule, Shape, Text}
use Rattle.clap.specs.Kinds.{range_kinds}
use Rattle.clap.specs.Faults.{action_fault, level_fault, repeat_fault, set_fault, values_fault}
use Rattle.clap.specs.Walk.{Names, action_of, arg_by_id, at_row, default_rows, has_row, more_values, most_values, nothing_held, reading_by, rows_after}
use Rattle.clap.specs.Walk.{used, used_as, values_or_missing, with_default, with_values, without}
use Rattle.clap.specs.declared.parser.matches.ValueSource.{ValueSource}
use Rattle.clap.specs.declared.parser.matches.ValueSource.TheVariants.{DefaultValue, CommandLine}
use Rattle.std.specs.Prelude.{option_and_then, slice_get}
use Rattle.clap.specs.Facts.{parser_of_value}
use Rattle.clap.specs.Kinds.{value_kinds}
use Rattle.clap.specs.Values.{read_as, reading_of}
use Rattle.clap.specs.ValueTests.{accepts}
use Rattle.clap.specs.Walk.{one_of, row_text}
use Rattle.clap.specs.declared.builder.value_parser.Reading.{Reading}
use Rattle.clap.specs.declared.builder.value_parser.Reading.TheVariants as reading
use Rattle.clap.specs.declared.builder.value_parser.ValueParser.TheVariants as parser
use Rattle.clap.proofs.ValueTestLemmas.{accepts-Accepts}
use Rattle.clsm_model.specs.Config.{IsBetween}
use Rattle.clsm_command.specs.Answers.{number_of}
use Rattle.clsm_command.proofs.Read.{number_as}
use Rattle.std.proofs.lemmas.Slice.Eq.{bytes_eq-Decides}
use Rattle.clap.specs.declared.builder.action.ArgAction.{ArgAction}
use Rattle.clap.specs.declared.builder.action.ArgAction.TheVariants.{Set, SetTrue, Help}
use Rattle.clsm_command.proofs.Entered.{Each, neither}
use Rattle.clsm_command.proofs.Kept.{DefaultKeeps, Keeps, level_keeps}

-- the row has a value, and each is one that the argument's parser takes
abbrev pub IsTakenBy : Rule → Row → Type 0
IsTakenBy a r = (r.reading ≡ reading_by a) × (v : Text) × (vs : List Text) × (r.values ≡ v ∷ vs)
    × (values_fault a (v ∷ vs) ≡ [])

abbrev pub IsTaken : Shape → Row → Type 0
IsTaken s r = (a : Rule) → arg_by_id s.rules r.id ≡ Some a → IsTakenBy a r

-- ---- the arguments of the program: options, flags and `--help`

abbrev pub IsOption : Rule → Type 0
IsOption a = (action_of a ≡ Set) × (nat_lt 0 (unwrap_or_range a.range).start_inclusive ≡ true)

abbrev pub IsFlag : Rule → Type 0
IsFlag a = (action_of a ≡ SetTrue) × (v : Text) × (vs : List Text) × (a.missing ≡ v ∷ vs)

-- no other argument has its name, and its default is one that its parser takes
abbrev pub IsPlainIn : Shape → Rule → Type 0
IsPlainIn s a = (arg_by_id s.rules a.id ≡ Some a) × (IsOption a ⊎ (IsFlag a ⊎ (action_of a ≡ Help)))
    × (values_fault a a.defaults ≡ [])

-- ---- rows

not_either : (a b : Bool) → (a || b) ≡ false → (a ≡ false) × (b ≡ false)
not_either true b e = cc
not_either false b e = (refl, e)

at_head : (b : Bool) (r : Row) (changed rest more : List Row) → b ≡ false → cond b changed (r ∷ more) ≡ r ∷ more
at_head true r changed rest more e = cc
at_head false r changed rest more e = refl

none_at : (id : Text) (change : Row → List Row) (missing rows : List Row) → has_row id rows ≡ false
    → at_row id change missing rows ≡ rows ++ missing
none_at id change missing [] e = refl
none_at id change missing (r ∷ rs) e =
    let parts = not_either (bytes_eq r.id id) (has_row id rs) e in
    at_head (bytes_eq r.id id) r (change r ++ rs) rs (at_row id change missing rs) parts.0
    ∙ ap (λ more. r ∷ more) (none_at id change missing rs parts.1)

no_more : (rows : List Row) → rows ++ [] ≡ rows
no_more [] = refl
no_more (r ∷ rs) = ap (λ more. r ∷ more) (no_more rs)

each_more : (P : Row → Type 0) (rows : List Row) (r : Row) → Each P rows → P r → Each P (rows ++ r ∷ [])
each_more P [] r all one = (one, tt)
each_more P (x ∷ rows) r all one = (all.0, each_more P rows r all.1 one)

-- ---- a use

abbrev new_row : Rule → ValueSource → List Text → Row
new_row a source values = record { id = a.id; values = values; count = None; source = Some source; reading = reading_by a }

value_added : (a : Rule) (source : ValueSource) (all : List Text) (rows : List Row) → has_row a.id rows ≡ false
    → with_values a.id (reading_by a) source all rows ≡ rows ++ new_row a source all ∷ []
value_added a source all rows fresh = none_at a.id (more_values source all) (new_row a source all ∷ []) rows fresh

taken_new : (s : Shape) (a : Rule) → arg_by_id s.rules a.id ≡ Some a → (source : ValueSource) (all : List Text) (v : Text) (vs : List Text)
    → all ≡ v ∷ vs → values_fault a all ≡ [] → IsTaken s (new_row a source all)
taken_new s a own source all v vs is passes b found =
    let same : a ≡ b = cc in
    subst (λ (x : Rule). IsTakenBy x (new_row a source all)) same
    (refl, v, vs, is, subst (λ (xs : List Text). values_fault a xs ≡ []) is passes)

set_keeps : (P : Row → Type 0) (a : Rule) (all : List Text) (rows : List Row) → has_row a.id rows ≡ false → P (new_row a CommandLine all)
    → Each P rows → Each P (with_values a.id (reading_by a) CommandLine all (without a.id rows))
set_keeps P a all rows fresh one h =
    let clean : without a.id rows ≡ rows = none_at a.id (λ _. []) [] rows fresh ∙ no_more rows in
    let added = value_added a CommandLine all rows fresh in
    subst (λ (xs : List Row). Each P (with_values a.id (reading_by a) CommandLine all xs)) (sym clean)
    (subst (Each P) (sym added) (each_more P rows _ h one))

no_repeat : (b : Bool) (k : Kinds) → (if b && not false then k else []) ≡ [] → (k ≡ [] → ⊥) → b ≡ false
no_repeat true k e some = absurd (some e)
no_repeat false k e some = refl

-- the action sets the argument's values, and may be used once
abbrev Sets : Rule → ArgAction → Type 0
Sets a x = (all : List Text) (rows : List Row) → (action_fault x false a all rows ≡ set_fault false a all rows)
    × (used_as x a.id (reading_by a) all rows ≡ with_values a.id (reading_by a) CommandLine all (without a.id rows))

set_as : (s : Shape) (a : Rule) → arg_by_id s.rules a.id ≡ Some a → (x : ArgAction) → action_of a ≡ x → Sets a x
    → (all : List Text) (v : Text) (vs : List Text) → all ≡ v ∷ vs → (rows : List Row) → action_fault (action_of a) false a all rows ≡ []
    → Each (IsTaken s) rows → Each (IsTaken s) (used_as (action_of a) a.id (reading_by a) all rows)
set_as s a own x is sets all v vs all-is rows fault h =
    let as_x : action_fault x false a all rows ≡ [] = subst (λ (y : ArgAction). action_fault y false a all rows ≡ []) is fault in
    let as_set : set_fault false a all rows ≡ [] = sym (sets all rows).0 ∙ as_x in
    let parts = neither (repeat_fault false a.id rows) (values_fault a all) as_set in
    let fresh : has_row a.id rows ≡ false = no_repeat (has_row a.id rows) _ parts.0 (λ e. cc) in
    let kept = set_keeps (IsTaken s) a all rows fresh (taken_new s a own CommandLine all v vs all-is parts.1) h in
    subst (λ (y : ArgAction). Each (IsTaken s) (used_as y a.id (reading_by a) all rows)) (sym is)
    (subst (Each (IsTaken s)) (sym (sets all rows).1) kept)

wanted : (b : Bool) (first second : Kinds) → b ≡ true → (first ≡ [] → ⊥) → (if b && true then first else second) ≡ [] → ⊥
wanted true first second is some e = some e
wanted false first second is some e = absurd cc

plain_use : (s : Shape) (a : Rule) → arg_by_id s.rules a.id ≡ Some a → IsOption a ⊎ (IsFlag a ⊎ (action_of a ≡ Help)) → (values : List Text) (rows : List Row)
    → range_kinds (unwrap_or_range a.range).start_inclusive (most_values a) (length values) ≡ []
    → action_fault (action_of a) false a (values_or_missing a values) rows ≡ []
    → Each (IsTaken s) rows → Each (IsTaken s) (used a values rows)
plain_use s a own (inl option) [] rows range fault h = absurd (wanted _ _ _ option.1 (λ e. cc) range)
plain_use s a own (inl option) (v ∷ vs) rows range fault h =
    set_as s a own Set option.0 (λ all rows. (refl, refl)) (v ∷ vs) v vs refl rows fault h
plain_use s a own (inr (inl flag)) [] rows range fault h =
    set_as s a own SetTrue flag.0 (λ all rows. (refl, refl)) a.missing flag.1 flag.2 flag.3 rows fault h
plain_use s a own (inr (inl flag)) (v ∷ vs) rows range fault h =
    set_as s a own SetTrue flag.0 (λ all rows. (refl, refl)) (v ∷ vs) v vs refl rows fault h
plain_use s a own (inr (inr help)) values rows range fault h =
    let shown : action_fault Help false a (values_or_missing a values) rows ≡ [] =
    subst (λ (y : ArgAction). action_fault y false a (values_or_missing a values) rows ≡ []) help fault in
    absurd cc

plain_keeps : (s : Shape) → s.args_override_self ≡ false → (a : Rule) → IsPlainIn s a → Keeps (IsTaken s) s a
plain_keeps s once a plain values rows e h =
    let parts = neither (range_kinds (unwrap_or_range a.range).start_inclusive (most_values a) (length values))
    (action_fault (action_of a) s.args_override_self a (values_or_missing a values) rows) e in
    plain_use s a plain.0 plain.1 values rows parts.0
    (subst (λ (b : Bool). action_fault (action_of a) b a (values_or_missing a values) rows ≡ []) once parts.1) h

-- ---- a default

default_row : (s : Shape) (a : Rule) → arg_by_id s.rules a.id ≡ Some a → (values : List Text) → values_fault a values ≡ [] → (rows : List Row)
    → has_row a.id rows ≡ false → Each (IsTaken s) rows → Each (IsTaken s) (default_rows a.id (reading_by a) values rows)
default_row s a own [] passes rows fresh h = h
default_row s a own (v ∷ vs) passes rows fresh h =
    subst (Each (IsTaken s)) (sym (value_added a DefaultValue (v ∷ vs) rows fresh))
    (each_more (IsTaken s) rows _ h (taken_new s a own DefaultValue (v ∷ vs) v vs refl passes))

if_fresh : (P : Row → Type 0) (b : Bool) (rows more : List Row) → Each P rows → (b ≡ false → Each P more) → Each P (if b then rows else more)
if_fresh P true rows more h later = h
if_fresh P false rows more h later = later refl

default_keeps : (s : Shape) (a : Rule) → IsPlainIn s a → DefaultKeeps (IsTaken s) s a
default_keeps s a plain rows h =
    if_fresh (IsTaken s) (has_row a.id rows) rows _ h (λ fresh. default_row s a plain.0 a.defaults plain.2 rows fresh h)

each_as : (P Q : Rule → Type 0) → ((a : Rule) → P a → Q a) → (rules : List Rule) → Each P rules → Each Q rules
each_as P Q turn [] h = tt
each_as P Q turn (a ∷ rules) h = (turn a h.0, each_as P Q turn rules h.1)

-- each row of a level in which clap finds no fault has a value that its argument's parser takes
pub level_taken : (s : Shape) → s.args_override_self ≡ false → Each (IsPlainIn s) s.rules → (names : Names) (words : List Text) (has : Bool) (below : Kinds)
    → level_fault s names nothing_held words has below ≡ [] → Each (IsTaken s) (rows_after s.rules names words)
level_taken s once plain names words has below e =
    level_keeps (IsTaken s) s (each_as (IsPlainIn s) (Keeps (IsTaken s) s) (plain_keeps s once) s.rules plain)
    (each_as (IsPlainIn s) (DefaultKeeps (IsTaken s) s) (default_keeps s) s.rules plain) names words has below e

-- ---- what is there

or_both : (a b : Bool) → b ≡ true → (a || b) ≡ true
or_both true b e = refl
or_both false b e = e

or_first : (a b : Bool) → a ≡ true → (a || b) ≡ true
or_first true b e = refl
or_first false b e = cc

or_else_so : (a b c : Bool) → (a || b) ≡ true → (b ≡ true → c ≡ true) → (a || c) ≡ true
or_else_so true b c e later = refl
or_else_so false b c e later = later e

has_more : (id : Text) (rows more : List Row) → has_row id rows ≡ true → has_row id (rows ++ more) ≡ true
has_more id [] more e = cc
has_more id (r ∷ rows) more e = or_else_so (bytes_eq r.id id) (has_row id rows) _ e (has_more id rows more)

has_last : (id : Text) (rows : List Row) (r : Row) → bytes_eq r.id id ≡ true → has_row id (rows ++ r ∷ []) ≡ true
has_last id [] r e = or_first _ _ e
has_last id (x ∷ rows) r e = or_both (bytes_eq x.id id) _ (has_last id rows r e)

if_has : (id : Text) (b : Bool) (rows more : List Row) → (b ≡ true → has_row id rows ≡ true) → (b ≡ false → has_row id more ≡ true)
    → has_row id (if b then rows else more) ≡ true
if_has id true rows more here there = here refl
if_has id false rows more here there = there refl

default_more : (id : Text) (a : Rule) (values : List Text) (rows : List Row) → has_row a.id rows ≡ false → has_row id rows ≡ true
    → has_row id (default_rows a.id (reading_by a) values rows) ≡ true
default_more id a [] rows fresh e = e
default_more id a (v ∷ vs) rows fresh e =
    subst (λ (xs : List Row). has_row id xs ≡ true) (sym (value_added a DefaultValue (v ∷ vs) rows fresh)) (has_more id rows _ e)

stays : (rules : List Rule) (id : Text) (rows : List Row) → has_row id rows ≡ true → has_row id (fold with_default rows rules) ≡ true
stays [] id rows e = e
stays (a ∷ rules) id rows e =
    stays rules id (with_default rows a)
    (if_has id (has_row a.id rows) rows _ (λ _. e) (λ fresh. default_more id a a.defaults rows fresh e))

default_last : (a : Rule) (values : List Text) (v : Text) (vs : List Text) → values ≡ v ∷ vs → (rows : List Row) → has_row a.id rows ≡ false
    → has_row a.id (default_rows a.id (reading_by a) values rows) ≡ true
default_last a [] v vs is rows fresh = cc
default_last a (w ∷ ws) v vs is rows fresh =
    subst (λ (xs : List Row). has_row a.id xs ≡ true) (sym (value_added a DefaultValue (w ∷ ws) rows fresh))
    (has_last a.id rows _ ((bytes_eq-Decides a.id a.id).1 refl))

default_there : (a : Rule) (v : Text) (vs : List Text) → a.defaults ≡ v ∷ vs → (rows : List Row) → has_row a.id (with_default rows a) ≡ true
default_there a v vs is rows = if_has a.id (has_row a.id rows) rows _ (λ e. e) (λ fresh. default_last a a.defaults v vs is rows fresh)

-- the argument stands behind `before` others
pub there_after : (before rules : List Rule) (a : Rule) (v : Text) (vs : List Text) → a.defaults ≡ v ∷ vs → (rows : List Row)
    → has_row a.id (fold with_default rows (before ++ a ∷ rules)) ≡ true
there_after [] rules a v vs is rows = stays rules a.id (with_default rows a) (default_there a v vs is rows)
there_after (b ∷ before) rules a v vs is rows = there_after before rules a v vs is (with_default rows b)

-- ---- the number of an argument

abbrev pub IsFoundFor : Rule → Option Row → Type 0
IsFoundFor a o = (r : Row) × (o ≡ Some r) × IsTakenBy a r

found_row : (s : Shape) (a : Rule) → arg_by_id s.rules a.id ≡ Some a → (b : Bool) (r : Row) (rest : Option Row) → (b ≡ true → r.id ≡ a.id)
    → IsTaken s r → (b ≡ false → IsFoundFor a rest) → IsFoundFor a (cond b (Some r) rest)
found_row s a own true r rest same taken later =
    (r, refl, taken a (subst (λ (id : Text). arg_by_id s.rules id ≡ Some a) (sym (same refl)) own))
found_row s a own false r rest same taken later = later refl

has_rest : (a b : Bool) → a ≡ false → (a || b) ≡ true → b ≡ true
has_rest true b is e = cc
has_rest false b is e = e

row_of_id : (s : Shape) (a : Rule) → arg_by_id s.rules a.id ≡ Some a → (rows : List Row) → Each (IsTaken s) rows → has_row a.id rows ≡ true
    → IsFoundFor a (find (λ (r : Row). bytes_eq r.id a.id) rows)
row_of_id s a own [] h e = absurd (true≢false (sym e))
row_of_id s a own (r ∷ rows) h e =
    found_row s a own (bytes_eq r.id a.id) r (find (λ (r : Row). bytes_eq r.id a.id) rows) ((bytes_eq-Decides r.id a.id).0) h.0
    (λ no. row_of_id s a own rows h.1 (has_rest (bytes_eq r.id a.id) (has_row a.id rows) no e))

text_of : (how : Reading) (values : List Text) (v : Text) (vs : List Text) → values ≡ v ∷ vs → how ≡ reading.AsWritten
    → option_map (read_as how) (slice_get values 0) ≡ Some v
text_of how values v vs is written = rw (written, is) refl

is_accepted : (b : Bool) (k : Kinds) → (k ≡ [] → ⊥) → (if b then [] else k) ≡ [] → b ≡ true
is_accepted true k some e = refl
is_accepted false k some e = absurd (some e)

-- the number that the rows give the argument is in the range of its parser
pub number_between : (s : Shape) (a : Rule) → arg_by_id s.rules a.id ≡ Some a → (low high : ℕ) → a.parser ≡ Some (parser.Unsigned low high)
    → (rows : List Row) → Each (IsTaken s) rows → has_row a.id rows ≡ true → IsBetween low high (number_of a.id rows)
number_between s a own low high is rows taken has =
    let found = row_of_id s a own rows taken has in
    let v = found.2.1 in
    let one : one_of a.id rows ≡ Some v =
    ap (option_and_then row_text) found.1 ∙ text_of found.0.reading found.0.values v found.2.2 found.2.3
    (found.2.0 ∙ ap (λ p. reading_of (parser_of_value p)) is) in
    let fault = (neither (value_kinds a.ignore_case (parser_of_value a.parser) v) _ found.2.4).0 in
    let accepted : accepts a.ignore_case (parser.Unsigned low high) v ≡ true =
    subst (λ p. accepts a.ignore_case (parser_of_value p) v ≡ true) is (is_accepted _ _ (λ e. cc) fault) in
    let number = accepts-Accepts a.ignore_case (parser.Unsigned low high) v accepted in
    subst (IsBetween low high) (sym (number_as a.id rows v one number.0 number.1)) (number.2, number.3)
