-- What the getters of matches read, by the matches' rows.
use Rattle.std.proofs.Common.{◌≡◌, ◌∙◌, ◌<◌, ◌^◌, ℕ, Bool, true, false, List, Option, Some, None, [], refl, ap, sym, arith, codes, map, option_map}
use Rattle.std.specs.Prelude.{Result, Ok, Err, unwrap_or}
use Rattle.std.specs.Borrow.{Bor}
use Rattle.std.specs.Option.{option_map_or}
use Rattle.std.specs.Str.{bytes_eq}
use Rattle.std.specs.Str.Parse.{IsNumeral, ParsesBool, ParsesUnsigned, digits_value, without_leading_plus}
use Rattle.std.proofs.lemmas.Slice.Eq.{bytes_eq-Decides}
use Rattle.clap.specs.Words.{Row, Text, all_of, found_of, matched_of, one_of, one_text, raw_values}
use Rattle.clap.specs.Matches.{ReadsOne}
use Rattle.clap.specs.ValueTests.{is_unsigned_in}
use Rattle.clap.specs.declared.builder.value_parser.ValueParser.TheVariants as parser
use Rattle.clap.specs.declared.parser.matches.ArgMatches.{ArgMatches}
use Rattle.clap.proofs.ValueTestLemmas.{Accepts-accepts, accepts-Accepts}
use Rattle.clap.proofs.WalkLemmas.{one_text-rows, raw_values-rows}
use Rattle.clsm_command.specs.Answers.{flag_of, number_in, number_of, rows_in, texts_of}
use Rattle.clsm_command.specs.Program.{u64_max}

-- what a getter with a fallback reads, where it reads each text as `word` says
read_or : {T E : Type 0} (gives : List ℕ → Result T E → Type 0) (word : Text → T) (fallback : T)
    → ((t : Text) (o : Option T) → ReadsOne gives t o → unwrap_or o fallback ≡ word t)
    → (x : Option Text) (o : Option T) → (x ≡ None → o ≡ None) → ((t : List ℕ) → x ≡ Some t → ReadsOne gives t o)
    → unwrap_or o fallback ≡ option_map_or word x fallback
read_or gives word fallback reads None o none value = ap (λ p. unwrap_or p fallback) (none refl)
read_or gives word fallback reads (Some t) o none value = reads t o (value t refl)

not_true : (b : Bool) → (b ≡ true → ⊥) → b ≡ false
not_true true never = absurd (never refl)
not_true false never = refl

is_number : (t : Text) → IsNumeral 10 (without_leading_plus t) → digits_value 10 (without_leading_plus t) < 2 ^ 64
    → is_unsigned_in 0 u64_max t ≡ true
is_number t numeral small = Accepts-accepts false (parser.Unsigned 0 u64_max) t (numeral, small, omega arith, omega arith)

number_word : {E : Type 0} (gives : List ℕ → Result ℕ E → Type 0) → ((t : List ℕ) (r : Result ℕ E) → gives t r → ParsesUnsigned 64 10 t r)
    → (t : Text) (o : Option ℕ) → ReadsOne gives t o → unwrap_or o 0 ≡ number_in t
number_word gives parses t (Some n) h =
    let p = parses t (Ok n) h in
    rw (is_number t p.0.0 p.0.1) p.1
number_word gives parses t None h =
    let p = parses t (Err h.0) h.1 in
    let no : is_unsigned_in 0 u64_max t ≡ false =
    not_true _ (λ yes. let a = accepts-Accepts false (parser.Unsigned 0 u64_max) t yes in p (a.0, a.1)) in
    rw no refl

pub number_as : (id : Text) (rows : List Row) (t : Text) → one_of id rows ≡ Some t → IsNumeral 10 (without_leading_plus t)
    → digits_value 10 (without_leading_plus t) < 2 ^ 64 → number_of id rows ≡ digits_value 10 (without_leading_plus t)
number_as id rows t one numeral small = rw (one, is_number t numeral small) refl

pub number_read : {E : Type 0} (gives : List ℕ → Result ℕ E → Type 0) → ((t : List ℕ) (r : Result ℕ E) → gives t r → ParsesUnsigned 64 10 t r)
    → (m : ArgMatches) (id : Text) (o : Option ℕ) → (one_text (found_of m) id ≡ None → o ≡ None)
    → ((t : List ℕ) → one_text (found_of m) id ≡ Some t → ReadsOne gives t o)
    → unwrap_or o 0 ≡ number_of id (rows_in m)
number_read gives parses m id o none value =
    read_or gives number_in 0 (number_word gives parses) (one_text (found_of m) id) o none value
    ∙ ap (λ x. option_map_or number_in x 0) (one_text-rows (found_of m) id)

flag_word : (E : Type 0) (t : Text) (o : Option Bool) → ReadsOne (ParsesBool {E = E}) t o → unwrap_or o false ≡ bytes_eq t (codes "true")
flag_word E t (Some true) h = sym ((bytes_eq-Decides t (codes "true")).1 h)
flag_word E t (Some false) h = rw h refl
flag_word E t None h = sym (not_true _ (λ yes. h.1.0 ((bytes_eq-Decides t (codes "true")).0 yes)))

pub flag_read : (E : Type 0) (m : ArgMatches) (id : Text) (o : Option Bool) → (one_text (found_of m) id ≡ None → o ≡ None)
    → ((t : List ℕ) → one_text (found_of m) id ≡ Some t → ReadsOne (ParsesBool {E = E}) t o)
    → unwrap_or o false ≡ flag_of id (rows_in m)
flag_read E m id o none value =
    read_or (ParsesBool {E = E}) (λ t. bytes_eq t (codes "true")) false (flag_word E) (one_text (found_of m) id) o none value
    ∙ ap (λ x. option_map_or (λ t. bytes_eq t (codes "true")) x false) (one_text-rows (found_of m) id)

slices_read : (o : Option (Bor (List (Bor Text)))) (empty v : Bor (List (Bor Text))) (x : Option (List Text)) → v ≡ unwrap_or o empty
    → empty.now ≡ [] → option_map (λ s. map (λ t. t.now) s.now) o ≡ x → map (λ t. t.now) v.now ≡ unwrap_or x []
slices_read None empty v x is none e = rw (is, none, ← e) refl
slices_read (Some s) empty v x is none e = rw (is, ← e) refl

pub texts_read : (m : ArgMatches) (id : Text) (o : Option (Bor (List (Bor Text)))) (empty v : Bor (List (Bor Text))) → v ≡ unwrap_or o empty
    → empty.now ≡ [] → option_map (λ s. map (λ t. t.now) s.now) o ≡ option_map raw_values (matched_of (found_of m) id)
    → map (λ t. t.now) v.now ≡ texts_of id (rows_in m)
texts_read m id o empty v is none e = slices_read o empty v (all_of id (rows_in m)) is none (e ∙ raw_values-rows (found_of m) id)
