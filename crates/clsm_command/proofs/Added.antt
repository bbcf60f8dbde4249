-- What a command is after its arguments, and the program after one more command.
use Rattle.std.proofs.Common.{◌≡◌, ◌∙◌, ◌∷◌, ◌++◌, ◌||◌, [], List, Result, Ok, Err, ap, ap₂, false, subst, sym}
use Rattle.std.proofs.lemmas.List.{append-nil, append_assoc}
use Rattle.std.specs.Prelude.{IfOk, ⊤}
use Rattle.clap.specs.Words.{AddsArg, AddsInTurn, AddsSubcommand, App, Rule, Shape, Text, app_of, rule_of, with_rule, with_subcommand}
use Rattle.clap.specs.declared.builder.arg.Arg.{Arg}
use Rattle.clap.specs.declared.builder.command.Command.{Command}
use Rattle.clsm_command.specs.Program.{Is, command}

-- the arguments have these rules, and none of them is one that all commands share
abbrev pub HaveRules : List Arg → List Rule → Type 0
HaveRules [] [] = ⊤
HaveRules (a ∷ args) (r ∷ rules) = (rule_of a ≡ r) × (a.global ≡ false) × HaveRules args rules
HaveRules _ _ = ⊥

arg_added : {s : Shape} {r : Rule} (old new : Command) (a : Arg) → Is s old → AddsArg old a new
    → rule_of a ≡ r → a.global ≡ false → Is (record s { rules = s.rules ++ r ∷ [] }) new
arg_added old new a is adds rule local = (
  adds.shape local ∙ ap₂ with_rule is.0 rule,
  adds.globals ∙ ap₂ (λ x y. x || y) is.1 local,
)

-- those that are added in turn stand behind those that are there
all_added : (name : Text) (had rules : List Rule) (old new : Command) (args : List Arg) → Is (command name had) old → AddsInTurn AddsArg old args new
    → HaveRules args rules → Is (command name (had ++ rules)) new
all_added name had [] old new [] is adds have =
    subst (λ (all : List Rule). Is (command name all) new) (sym (append-nil had)) (subst (Is (command name had)) adds is)
all_added name had (r ∷ rules) old new [] is adds have = absurd have
all_added name had [] old new (a ∷ args) is adds have = absurd have
all_added name had (r ∷ rules) old new (a ∷ args) is adds have =
    let one : Is (command name (had ++ r ∷ [])) adds.0 = arg_added old adds.0 a is adds.1 have.0 have.1 in
    subst (λ (all : List Rule). Is (command name all) new) (append_assoc had (r ∷ []) rules)
    (all_added name (had ++ r ∷ []) rules adds.0 new args one adds.2 have.2)

-- the command with these arguments
pub args_added : {E : Type 0} (name : Text) (rules : List Rule) (old : Command) (args items : List Arg) (added : Result Command E)
    → Is (command name []) old → items ≡ args → IfOk added (λ new. AddsInTurn AddsArg old items new) → HaveRules args rules
    → IfOk added (Is (command name rules))
args_added name rules old args items (Ok new) is same adds have =
    all_added name [] rules old new args is (subst (λ (xs : List Arg). AddsInTurn AddsArg old xs new) same adds) have
args_added name rules old args items (Err e) is same adds have = tt

pub command_added : {a : App} {s : Shape} (old sub new : Command) → app_of old ≡ a → Is s sub
    → AddsSubcommand old sub new → app_of new ≡ with_subcommand a s
command_added old sub new is is_sub adds =
    adds.shape is_sub.1 ∙ ap₂ with_subcommand is (ap (λ (x : App). x.top) is_sub.0)
