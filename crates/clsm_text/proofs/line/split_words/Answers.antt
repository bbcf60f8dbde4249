use Rattle.std.proofs.Common.{◌≡◌, ◌∙◌, ap, lit<, map, rules, tests, List, Option, Result, Ok, Err, IfOk}
use Rattle.std.specs.Prelude.{⊤, MatchResult}
use Rattle.std.specs.Iterator.{DrainsIf}
use Rattle.std.proofs.lemmas.Iterator.{YieldsList, items_from_drains}
use Rattle.std.proofs.lemmas.Iterator.Consumers.{YieldsList-from_filter}
use Rattle.std.proofs.lemmas.Iterator.Splits.{YieldsList-from_str_split}
use Rattle.smallvec.specs.SmallVec.{SmallVec}
use Rattle.clsm_text.proofs.line.split_words.Goals as goal

-- what is collected into a small vector has all items
map_from_collect : {S A B E : Type 0} {steps : S → Option A → S → Type 0} {v : A → B} {s : S} {all : List B}
    (r : Result (SmallVec A) E)
    → MatchResult r (λ w. (xs : List A) × DrainsIf steps ⊤ s xs × (w.items ≡ xs)) (λ _. ⊤)
    → YieldsList steps v s all → IfOk r (λ w. map v w.items ≡ all)
map_from_collect {S} {A} {B} {E} {steps} {v} (Ok w) d e =
    ap (map v) d.2 ∙ items_from_drains d.0 d.1 e
map_from_collect (Err x) d e = tt

pub returns : goal.returns
returns c =
    map_from_collect _ c.collect.ensures.ran
    (YieldsList-from_filter _ _
    (YieldsList-from_str_split 32 c.args.line.now (lit< tt) (cc) (cc) (cc))
    c.filter.ensures.closure (λ x r q k. search (rules, tests)))
