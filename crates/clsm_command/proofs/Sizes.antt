-- The words of a command line ask for one choice of sizes.
use Rattle.std.proofs.Common.{◌≡◌, ◌≤◌, ◌∙◌, ℕ, List, [], ◌∷◌, Option, Some, ap, arith, codes, inl, inr, length, refl, subst, sym}
use Rattle.std.proofs.lemmas.List.{length-map}
use Rattle.std.specs.Prelude.{map}
use Rattle.clap.specs.Words.{IsAmong, Kinds, Row, Text, fault_of, kind_of, subcommand_of}
use Rattle.clap.specs.declared.error.Error.{Error}
use Rattle.clsm_model.specs.declared.config.Config.{Config}
use Rattle.clsm_model.specs.Config.{IsBetween, IsSound}
use Rattle.clsm_command.specs.Answers.{IsAnswer, IsExplore, IsParsed, IsRefused, refusal_of, texts_of}
use Rattle.clsm_explore.specs.Scripts.{sizes_of}
use Rattle.clsm_explore.specs.declared.scripts.Exploration.{Exploration}
use Rattle.clsm_command.specs.Doing.{AsksExploration, HasSoundSizes, IsAskedFor, explored_sizes}
use Rattle.clsm_command.specs.declared.asked.AuditOptions.{AuditOptions}
use Rattle.clsm_command.specs.Program.{clsm}
use Rattle.clsm_command.specs.declared.asked.ExploreOptions.{ExploreOptions}
use Rattle.clsm_command.specs.declared.asked.Options.{Options}
use Rattle.clsm_command.specs.declared.asked.Options.TheVariants.{Audit, Explore, Run, Script}
use Rattle.clsm_command.specs.declared.asked.RunOptions.{RunOptions}
use Rattle.clsm_command.specs.declared.refusal.Refusal.{Refusal}
use Rattle.clsm_command.specs.declared.refusal.Refusal.TheVariants.{Memory}
use Rattle.clsm_command.proofs.Ranges.{apart}

sizes_as : (c d : Config) → c.cells ≡ d.cells → c.seats ≡ d.seats → c.shards ≡ d.shards → c.run ≡ d.run → c.patience ≡ d.patience → IsSound c → IsSound d
sizes_as c d cells seats shards run patience s = (
  subst (IsBetween 4 65536) cells s.0,
  subst (IsBetween 1 64) seats s.1,
  subst (IsBetween 1 1024) shards s.2,
  subst (IsBetween 4 4194304) run s.3,
  subst (λ (n : ℕ). n ≤ 64) patience s.4,
)

-- explorations that the same matches ask for have as many scripts
scripts_as : (rows : List Row) (o p : ExploreOptions) → IsExplore rows o → IsExplore rows p → length o.scripts.items ≡ length p.scripts.items
scripts_as rows o p f g =
    sym (length-map o.scripts.items (λ text. text.bytes.items)) ∙ ap (λ (l : List Text). length l) (f.scripts ∙ sym g.scripts)
    ∙ length-map p.scripts.items (λ text. text.bytes.items)

explored_as : (rows : List Row) (o p : ExploreOptions) → IsExplore rows o → IsExplore rows p → IsSound (explored_sizes o) → IsSound (explored_sizes p)
explored_as rows o p f g = sizes_as (explored_sizes o) (explored_sizes p) (f.cells ∙ sym g.cells) (scripts_as rows o p f g) (f.shards ∙ sym g.shards) refl
    (f.patience ∙ sym g.patience)

-- the exploration that is made is refused where the sizes that are asked for are
pub explored_refused : (options : ExploreOptions) (asked : Exploration) (status : ℕ) → AsksExploration options asked
    → ((¬ IsSound (sizes_of asked)) → status ≡ 3) → (¬ HasSoundSizes (Explore options)) → status ≡ 3
explored_refused options asked status asks refused none =
    refused (λ sound. none (sizes_as (sizes_of asked) (explored_sizes options) asks.cells (ap length asks.scripts) asks.shards asks.run asks.patience sound))

-- an audit is asked for with no sizes of a store
pub audit_refused : (options : AuditOptions) (status : ℕ) → (¬ HasSoundSizes (Audit options)) → status ≡ 3
audit_refused options status none = absurd (none tt)

differ : (x y : ℕ) (xs ys name : Text) → (x ≡ y → ⊥) → name ≡ x ∷ xs → name ≡ y ∷ ys → ⊥
differ x y xs ys name unequal f g = apart x y xs ys unequal (sym f ∙ g)

-- the same matches of the same command have the same sizes
answers_as : (name : Text) (rows : List Row) (o p : Options) → IsAnswer name rows o → IsAnswer name rows p → HasSoundSizes o → HasSoundSizes p
answers_as name rows (Script c) (Script d) f g s = subst IsSound (f.1 ∙ sym g.1) s
answers_as name rows (Script c) (Run q) f g s = absurd (differ 115 114 _ _ name (λ e. absurd (omega arith)) f.0 g.0)
answers_as name rows (Script c) (Audit q) f g s = tt
answers_as name rows (Script c) (Explore q) f g s = absurd (differ 115 101 _ _ name (λ e. absurd (omega arith)) f.0 g.0)
answers_as name rows (Run o) (Script d) f g s = absurd (differ 114 115 _ _ name (λ e. absurd (omega arith)) f.0 g.0)
answers_as name rows (Run o) (Run q) f g s = subst (λ (x : RunOptions). IsSound x.config) (f.1 ∙ sym g.1) s
answers_as name rows (Run o) (Audit q) f g s = tt
answers_as name rows (Run o) (Explore q) f g s = absurd (differ 114 101 _ _ name (λ e. absurd (omega arith)) f.0 g.0)
answers_as name rows (Audit o) (Script d) f g s = absurd (differ 97 115 _ _ name (λ e. absurd (omega arith)) f.0 g.0)
answers_as name rows (Audit o) (Run q) f g s = absurd (differ 97 114 _ _ name (λ e. absurd (omega arith)) f.0 g.0)
answers_as name rows (Audit o) (Audit q) f g s = tt
answers_as name rows (Audit o) (Explore q) f g s = absurd (differ 97 101 _ _ name (λ e. absurd (omega arith)) f.0 g.0)
answers_as name rows (Explore o) (Script d) f g s = absurd (differ 101 115 _ _ name (λ e. absurd (omega arith)) f.0 g.0)
answers_as name rows (Explore o) (Run q) f g s = absurd (differ 101 114 _ _ name (λ e. absurd (omega arith)) f.0 g.0)
answers_as name rows (Explore o) (Audit q) f g s = tt
answers_as name rows (Explore o) (Explore q) f g s = explored_as rows o q f.1 g.1 s

same_pair : (a b : Text × List Row) → Some a ≡ Some b → a ≡ b
same_pair a b e = cc

-- so have the same words
parsed_as : (words : List Text) (o p : Options) → IsParsed words o → IsParsed words p → HasSoundSizes o → HasSoundSizes p
parsed_as words o p f g s =
    let same : ◌≡◌ {A = Text × List Row} (g.1, g.2) (f.1, f.2) = same_pair _ _ (sym g.3 ∙ f.3) in
    answers_as f.1 f.2 o p f.4 (subst (λ (x : Text × List Row). IsAnswer x.0 x.1 p) same g.4) s

-- where the words ask for sizes that are refused, no others were read
pub refused_as_asked : (words : List Text) (o : Options) → IsParsed words o → IsAskedFor words (λ p. ¬ HasSoundSizes p) → ¬ HasSoundSizes o
refused_as_asked words o f asked sound = asked.holds (parsed_as words o asked.options f asked.parsed sound)

none_among : (kinds : Kinds) (e : Error) → kinds ≡ [] → IsAmong (kind_of e) kinds → ⊥
none_among kinds e none among = subst (IsAmong (kind_of e)) none among

-- words that ask for something are refused for memory alone
pub refused_for_memory : (words : List Text) (Holds : Options → Type 0) (refusal : Refusal) → IsAskedFor words Holds
    → IsRefused words refusal → refusal ≡ Memory
refused_for_memory words Holds refusal asked (inl memory) = memory
refused_for_memory words Holds refusal asked (inr other) = absurd (none_among (fault_of clsm words) other.0 asked.parsed.0 other.1)
