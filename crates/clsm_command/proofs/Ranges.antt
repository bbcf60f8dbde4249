-- After words in which clap finds no fault, the numbers of `clsm run` and the limit of
-- `clsm explore` are in their ranges.
use Rattle.std.proofs.Common.{◌≡◌, ◌∷◌, [], ℕ, List, Option, Some, None, refl, ap, drop, arith, inl, inr, is_some, option_map, slice_index_or, sym, subst}
use Rattle.std.proofs.Common.{take, true≢false, codes, false}
use Rattle.std.specs.Prelude.{find}
use Rattle.std.specs.Option.{option_map_or}
use Rattle.clap.specs.Words.{Row, Rule, Shape, Text, fault_of, subcommand_of}
use Rattle.clap.specs.Faults.{entered_fault, level_fault}
use Rattle.clap.specs.Simple.{built, entered, help_rule, label_of, rows_at}
use Rattle.clap.specs.Walk.{answers_to, nothing_held, rows_after, settled, walk}
use Rattle.clsm_command.specs.Answers.{AreInRange, IsLimitInRange}
use Rattle.clsm_command.specs.Program.{clsm, explore, run}
use Rattle.clsm_command.proofs.Entered.{Each, command_passes, found_in, stop}
use Rattle.clsm_command.proofs.Taken.{IsPlainIn, level_taken, number_between, there_after}

-- ---- `clsm run`, as clap builds it

abbrev second : List Shape → Shape
second (a ∷ b ∷ rest) = b
second _ = run

abbrev built_run : Shape
built_run = second (built clsm).subs

abbrev rule : ℕ → Rule
rule i = slice_index_or built_run.rules i help_rule

plain_rules : Each (IsPlainIn built_run) built_run.rules
plain_rules = (
  (refl, inl (refl, refl), refl),
  (
    (refl, inl (refl, refl), refl),
    (
      (refl, inl (refl, refl), refl),
      (
        (refl, inl (refl, refl), refl),
        (
          (refl, inl (refl, refl), refl),
          (
            (refl, inl (refl, refl), refl),
            (
              (refl, inl (refl, refl), refl),
              (
                (refl, inl (refl, refl), refl),
                (
                  (refl, inr (inl (refl, codes "true", [], refl)), refl),
                  (
                    (refl, inr (inl (refl, codes "true", [], refl)), refl),
                    (
                      (refl, inr (inl (refl, codes "true", [], refl)), refl),
                      (
                        (refl, inr (inl (refl, codes "true", [], refl)), refl),
                        (
                          (refl, inr (inl (refl, codes "true", [], refl)), refl),
                          (
                            (refl, inr (inl (refl, codes "true", [], refl)), refl),
                            (
                              (refl, inr (inl (refl, codes "true", [], refl)), refl),
                              (
                                (refl, inr (inl (refl, codes "true", [], refl)), refl),
                                (
                                  (refl, inr (inr refl), refl),
                                  tt,
                                ),
                              ),
                            ),
                          ),
                        ),
                      ),
                    ),
                  ),
                ),
              ),
            ),
          ),
        ),
      ),
    ),
  ),
)

run_ranges : (words : List Text) → level_fault built_run [] nothing_held words false [] ≡ [] → AreInRange (rows_after built_run.rules [] words)
run_ranges words e =
    let rows = rows_after built_run.rules [] words in
    let taken = level_taken built_run refl plain_rules [] words false [] e in
    let before = (settled built_run.rules (walk built_run.rules [] nothing_held words).held).rows in (
      number_between built_run (rule 0) refl 1 64 refl rows taken
          (there_after [] (drop 1 built_run.rules) (rule 0) (codes "4") [] refl before),
      number_between built_run (rule 1) refl 0 1000000 refl rows taken
          (there_after (take 1 built_run.rules) (drop 2 built_run.rules) (rule 1) (codes "1000") [] refl before),
      number_between built_run (rule 2) refl 1 1000000 refl rows taken
          (there_after (take 2 built_run.rules) (drop 3 built_run.rules) (rule 2) (codes "64") [] refl before),
    )

-- ---- `clsm explore`, as clap builds it

abbrev fourth : List Shape → Shape
fourth (a ∷ b ∷ c ∷ d ∷ rest) = d
fourth _ = explore

abbrev built_explore : Shape
built_explore = fourth (built clsm).subs

abbrev limit_rule : Rule
limit_rule = slice_index_or built_explore.rules 4 help_rule

plain_explore_rules : Each (IsPlainIn built_explore) built_explore.rules
plain_explore_rules = (
  (refl, inl (refl, refl), refl),
  (
    (refl, inl (refl, refl), refl),
    (
      (refl, inl (refl, refl), refl),
      (
        (refl, inr (inl (refl, codes "true", [], refl)), refl),
        (
          (refl, inl (refl, refl), refl),
          (
            (refl, inr (inl (refl, codes "true", [], refl)), refl),
            (
              (refl, inr (inl (refl, codes "true", [], refl)), refl),
              (
                (refl, inr (inl (refl, codes "true", [], refl)), refl),
                (
                  (refl, inr (inl (refl, codes "true", [], refl)), refl),
                  (
                    (refl, inl (refl, refl), refl),
                    (
                      (refl, inr (inr refl), refl),
                      tt,
                    ),
                  ),
                ),
              ),
            ),
          ),
        ),
      ),
    ),
  ),
)

explore_ranges : (words : List Text) → level_fault built_explore [] nothing_held words false [] ≡ []
    → IsLimitInRange (rows_after built_explore.rules [] words)
explore_ranges words e =
    let rows = rows_after built_explore.rules [] words in
    let taken = level_taken built_explore refl plain_explore_rules [] words false [] e in
    let before = (settled built_explore.rules (walk built_explore.rules [] nothing_held words).held).rows in
    number_between built_explore limit_rule refl 1 4000000 refl rows taken
    (there_after (take 4 built_explore.rules) (drop 5 built_explore.rules) limit_rule (codes "1000000") [] refl before)

-- ---- the command that was entered

-- where a command with ranges was entered, its numbers are in them
pub record AreRanged (name : Text) (rows : List Row) : Type 0 where
  pub run : name ≡ codes "run" → AreInRange rows
  pub explore : name ≡ codes "explore" → IsLimitInRange rows

abbrev GivesRange : Shape → Type 0
GivesRange s = (words : List Text) → level_fault s [] nothing_held words false [] ≡ [] → AreRanged s.name (rows_after s.rules [] words)

-- the first letters of two names
pub apart : (x y : ℕ) (xs ys : Text) → (x ≡ y → ⊥) → x ∷ xs ≡ y ∷ ys → ⊥
apart x y xs ys differ e = differ (ap (λ (t : Text). slice_index_or t 0 x) e)

-- a name with another first letter than these two has no ranges
none_ranged : (x : ℕ) (xs : Text) (rows : List Row) → (x ≡ 114 → ⊥) → (x ≡ 101 → ⊥) → AreRanged (x ∷ xs) rows
none_ranged x xs rows not_run not_explore = record {
  run = λ name. absurd (apart x 114 _ _ not_run name);
  explore = λ name. absurd (apart x 101 _ _ not_explore name);
}

script_range : (rows : List Row) → AreRanged (codes "script") rows
script_range rows = none_ranged 115 _ rows (λ f. absurd (omega arith)) (λ f. absurd (omega arith))

run_range : (rows : List Row) → AreInRange rows → AreRanged (codes "run") rows
run_range rows ranges = record {
  run = λ name. ranges;
  explore = λ name. absurd (apart 114 101 _ _ (λ f. absurd (omega arith)) name);
}

audit_range : (rows : List Row) → AreRanged (codes "audit") rows
audit_range rows = none_ranged 97 _ rows (λ f. absurd (omega arith)) (λ f. absurd (omega arith))

explore_range : (rows : List Row) → IsLimitInRange rows → AreRanged (codes "explore") rows
explore_range rows range = record {
  run = λ name. absurd (apart 101 114 _ _ (λ f. absurd (omega arith)) name);
  explore = λ name. range;
}

each_range : Each GivesRange (built clsm).subs
each_range = (
  (λ words e. script_range _),
  (
    (λ words e. run_range _ (run_ranges words e)),
    ((λ words e. audit_range _), ((λ words e. explore_range _ (explore_ranges words e)), tt)),
  ),
)

ranges_in : (o : Option Shape) (rest : List Text) (name : Text) (rows : List Row) → ((s : Shape) → o ≡ Some s → GivesRange s)
    → option_map_or (λ s. level_fault s [] nothing_held rest false []) o [] ≡ [] → option_map (λ s. rows_at s rest) o ≡ Some (name, rows)
    → AreRanged name rows
ranges_in None rest name rows each passes e = absurd (true≢false (sym (ap is_some e)))
ranges_in (Some s) rest name rows each passes e =
    let same : ◌≡◌ {A = Text × List Row} (rows_at s rest) (name, rows) = ap (λ (o : Option (Text × List Row)). option_map_or (λ p. p) o (rows_at s rest)) e in
    subst (λ (p : Text × List Row). AreRanged p.0 p.1) same (each s refl rest passes)

ranges_at : (stopped : Option (Text × List Text)) (name : Text) (rows : List Row) → entered_fault (built clsm) stopped ≡ []
    → entered (built clsm) stopped ≡ Some (name, rows) → AreRanged name rows
ranges_at None name rows passes e = absurd (true≢false (sym (ap is_some e)))
ranges_at (Some p) name rows passes e =
    let test = λ (s : Shape). answers_to p.0 (label_of s) in
    ranges_in (find test (built clsm).subs) p.1 name rows (found_in GivesRange test (built clsm).subs each_range) passes e

pub in_range : (words : List Text) (name : Text) (rows : List Row) → fault_of clsm words ≡ [] → subcommand_of clsm words ≡ Some (name, rows)
    → AreRanged name rows
in_range words name rows none e = ranges_at (stop words) name rows (command_passes words none) e
