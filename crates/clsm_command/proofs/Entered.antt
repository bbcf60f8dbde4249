-- Where clap finds no fault, a command of the program was entered, and clap's matches are those
-- that its own function of the words gives.
use Rattle.std.proofs.Common.{◌≡◌, ◌∙◌, Bool, true, false, List, [], ◌∷◌, Option, Some, None, refl, ap, sym, subst, is_some, cond, inl, inr, option_map}
use Rattle.std.specs.Prelude.{Err, Ok, Result, find, IfErr, IsErrAnd, ⊤}
use Rattle.std.specs.Box.{box_value}
use Rattle.std.specs.Option.{option_map_or}
use Rattle.clap.specs.Words.{App, HasKind, HasMatchesOf, Kinds, Row, Shape, Text, app_of, fault_of, is_simple_and_free, subcommand_name_of, subcommand_of}
use Rattle.clap.specs.Words.{subcommand_rows_of}
use Rattle.clap.specs.Kinds.{or_else}
use Rattle.clap.specs.Faults.{check_fault, defaults_fault, entered_fault, settle_fault, walk_fault}
use Rattle.clap.specs.Simple.{argument_words, built, entered, is_simple, label_of, names_of, rows_at}
use Rattle.clap.specs.Walk.{Held, answers_to, finished, nothing_held, settled, walk, walk_from}
use Rattle.clap.specs.declared.builder.command.Command.{Command}
use Rattle.clap.specs.declared.error.Error.{Error}
use Rattle.clap.specs.declared.parser.matches.ArgMatches.{ArgMatches}
use Rattle.clap.specs.declared.parser.matches.ArgMatches.TheViews.{out-ArgMatches, out-SubCommand}
use Rattle.clsm_command.specs.Answers.{IsCommand, IsRefused, refusal_for, refusal_of, rows_in}
use Rattle.clsm_command.specs.Program.{IsProgram, clsm}
use Rattle.clsm_command.specs.declared.refusal.Refusal.{Refusal}

pub neither : (a b : Kinds) → or_else a b ≡ [] → (a ≡ []) × (b ≡ [])
neither [] b e = (refl, e)
neither (k ∷ ks) b e = cc

-- ---- the program as clap builds it

simple : is_simple clsm ≡ true
simple = refl

free : is_simple_and_free clsm ≡ true
free = refl

abbrev top : Shape
top = (built clsm).top

abbrev words_of : List Text → List Text
words_of words = argument_words clsm words

-- the walk over the words of the top level, and where it stopped
abbrev pub stop : List Text → Option (Text × List Text)
stop words = (walk top.rules (names_of (built clsm)) nothing_held (words_of words)).stopped

-- ---- a command is entered

wants_command : (rows : List Row) (has : Bool) → check_fault top rows has ≡ [] → has ≡ true
wants_command rows true e = refl
wants_command rows false e = cc

module _ (words : List Text) where
  abbrev has : Bool
  has = is_some (entered (built clsm) (stop words))

  abbrev end : Held
  end = (walk top.rules (names_of (built clsm)) nothing_held (words_of words)).held

  after_walk : fault_of clsm words ≡ []
      → or_else (entered_fault (built clsm) (stop words)) (or_else (settle_fault top.rules top.args_override_self end)
      (or_else (defaults_fault (settled top.rules end).rows top.rules) (check_fault top (finished top.rules end) has))) ≡ []
  after_walk none = (neither (walk_fault top (names_of (built clsm)) (walk_from nothing_held) (words_of words)) _ none).1

  pub command_passes : fault_of clsm words ≡ [] → entered_fault (built clsm) (stop words) ≡ []
  command_passes none = (neither (entered_fault (built clsm) (stop words)) _ (after_walk none)).0

  pub enters : fault_of clsm words ≡ [] → is_some (subcommand_of clsm words) ≡ true
  enters none =
      let settling = (neither (entered_fault (built clsm) (stop words)) _ (after_walk none)).1 in
      let defaults = (neither (settle_fault top.rules top.args_override_self end) _ settling).1 in
      let check = (neither (defaults_fault (settled top.rules end).rows top.rules) _ defaults).1 in
      wants_command (finished top.rules end) has check

-- ---- which one

abbrev pub Each : {X : Type 0} → (X → Type 0) → List X → Type 0
Each P [] = ⊤
Each P (x ∷ xs) = P x × Each P xs

or_next : {X : Type 0} (P : X → Type 0) (b : Bool) (y x : X) (rest : Option X) → P y → (rest ≡ Some x → P x)
    → cond b (Some y) rest ≡ Some x → P x
or_next P true y x rest here next e =
    let same : y ≡ x = cc in
    subst P same here
or_next P false y x rest here next e = next e

pub found_in : {X : Type 0} (P : X → Type 0) (test : X → Bool) (xs : List X) → Each P xs → (x : X) → find test xs ≡ Some x → P x
found_in P test [] all x e = cc
found_in P test (y ∷ ys) all x e = or_next P (test y) y x (find test ys) all.0 (found_in P test ys all.1 x) e

commands : Each (λ (s : Shape). IsCommand s.name) (built clsm).subs
commands = (inl refl, (inr (inl refl), (inr (inr (inl refl)), (inr (inr (inr refl)), tt))))

same_first : (x y : Text × List Row) → Some x ≡ Some y → x.0 ≡ y.0
same_first x y e = ap (λ (o : Option (Text × List Row)). option_map_or (λ p. p.0) o x.0) e

named_in : (o : Option Shape) (rest : List Text) (name : Text) (rows : List Row) → ((s : Shape) → o ≡ Some s → IsCommand s.name)
    → option_map (λ s. rows_at s rest) o ≡ Some (name, rows) → IsCommand name
named_in None rest name rows each e = cc
named_in (Some s) rest name rows each e =
    let same : s.name ≡ name = same_first (rows_at s rest) (name, rows) e in
    subst (λ (n : Text). IsCommand n) same (each s refl)

known_at : (stopped : Option (Text × List Text)) (name : Text) (rows : List Row) → entered (built clsm) stopped ≡ Some (name, rows) → IsCommand name
known_at None name rows e = cc
known_at (Some p) name rows e =
    let test = λ (s : Shape). answers_to p.0 (label_of s) in
    named_in (find test (built clsm).subs) p.1 name rows (found_in (λ (s : Shape). IsCommand s.name) test (built clsm).subs commands) e

pub known : (words : List Text) (name : Text) (rows : List Row) → subcommand_of clsm words ≡ Some (name, rows) → IsCommand name
known words name rows e = known_at (stop words) name rows e

-- ---- what clap's calls say of the program

pub rows_met : (c : Command) (m : ArgMatches) (words : List Text) → IsProgram c → HasMatchesOf (app_of c) words m
    → subcommand_rows_of m ≡ subcommand_of clsm words
rows_met c m words is met = (met (ap is_simple is ∙ simple)).1 ∙ ap (λ (a : App). subcommand_of a words) is

pub faults_of : {X : Type 0} (Q : Kinds → X → Type 0) (x : X) (c : Command) (words : List Text) → IsProgram c
    → (is_simple_and_free (app_of c) ≡ true → Q (fault_of (app_of c) words) x) → Q (fault_of clsm words) x
faults_of Q x c words is kinds = subst (λ (a : App). Q (fault_of a words) x) is (kinds (ap is_simple_and_free is ∙ free))

both_of : {X : Type 0} (o : Option X) (pair : X → Text × List Row) (name : Text) (rows : List Row)
    → Some name ≡ option_map (λ b. (pair b).0) o → Some rows ≡ option_map (λ (p : Text × List Row). p.1) (option_map pair o)
    → option_map pair o ≡ Some (name, rows)
both_of None pair name rows e f = cc
both_of (Some b) pair name rows e f =
    let same_name : name ≡ (pair b).0 = cc in
    let same_rows : rows ≡ (pair b).1 = cc in
    rw (same_name, same_rows) refl

pub met_as : (m : ArgMatches) (name : Text) (rows : List Row) → Some name ≡ subcommand_name_of m
    → Some rows ≡ option_map (λ (p : Text × List Row). p.1) (subcommand_rows_of m) → subcommand_rows_of m ≡ Some (name, rows)
met_as m name rows e f = both_of (out-ArgMatches m).subcommand
    (λ b. ((out-SubCommand (box_value b)).name.now, rows_in (out-SubCommand (box_value b)).matches)) name rows e f

pub refused_by : (words : List Text) (e : Error) → HasKind (fault_of clsm words) e → IsRefused words (refusal_of e)
refused_by words e (inl memory) = inl (ap (λ k. refusal_for k e) memory)
refused_by words e (inr among) = inr (e, among, refl)

pub refused_as : {T : Type 0} (r : Result T Refusal) (words : List Text) (e : Error) → HasKind (fault_of clsm words) e
    → IsErrAnd r (λ x. x ≡ refusal_of e) → IfErr r (IsRefused words)
refused_as (Ok x) words e kind is = absurd is
refused_as (Err x) words e kind is = subst (IsRefused words) (sym is) (refused_by words e kind)
