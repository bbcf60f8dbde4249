-- What is read of a plain map, against the history of which it is the map.
use Rattle.std.proofs.Common.{◌≡◌, ◌↔◌, ℕ, ◌≤◌, Bool, true, IsTrue, List, length, take, drop, min, Option, sym, ap, ◌∙◌, subst}
use Rattle.std.proofs.lemmas.Bool.{true≢false}
use Rattle.std.proofs.lemmas.List.{drop_min, take_min}
use Rattle.std.specs.Bool.{Decides}
use Rattle.clsm_model.specs.declared.record.CallRecord.{CallRecord}
use Rattle.clsm_model.specs.declared.record.Deed.{Deed}
use Rattle.clsm_model.specs.declared.record.Deed.TheVariants.{Put, Remove, Batch as Group}
use Rattle.clsm_model.specs.History.{History, value}
use Rattle.clsm_model.specs.Map.{IsMap, IsRange, Pair, value_at}
use Rattle.clsm_model.specs.Right.{IsPage, Reads, first_key}
use Rattle.clsm_model.specs.Seats.{IsRightDeed, IsRightRecord}
use Rattle.clsm_audit.specs.Replayed.{HasComeTo, is_read}
use Rattle.clsm_audit.proofs.Ranges.{same_range}

-- rows that are the front of all, and the key of the first one of the rest, are the page
pub page_here : (all rows front rest : List Pair) (max count : ℕ) (more : Option ℕ) → count ≡ min max (length all) → front ≡ take count all → rest
    ≡ drop count all → rows ≡ front → more ≡ first_key rest → IsPage all max rows more
page_here all rows front rest max count more is front_is rest_is same next = record {
  front = same ∙ front_is ∙ ap (λ n. take n all) is ∙ take_min max all;
  next = next ∙ ap first_key (rest_is ∙ ap (λ n. drop n all) is ∙ drop_min max all);
}

pub here_front : (all rows front : List Pair) (max count : ℕ) (more : Option ℕ) → count ≡ min max (length all) → front ≡ take count all
    → IsPage all max rows more → rows ≡ front
here_front all rows front max count more is front_is page = page.front ∙ sym (front_is ∙ ap (λ n. take n all) is ∙ take_min max all)

pub here_next : (all rows rest : List Pair) (max count : ℕ) (more : Option ℕ) → count ≡ min max (length all) → rest ≡ drop count all
    → IsPage all max rows more → more ≡ first_key rest
here_next all rows rest max count more is rest_is page = page.next ∙ sym (ap first_key (rest_is ∙ ap (λ n. drop n all) is ∙ drop_min max all))

-- a reply that a test holds against the map's value
pub reads_value : (h : History) (s : ℕ) (pairs : List Pair) (key : ℕ) (reply got : Option (List ℕ)) (same test : Bool) → IsMap h s pairs → got
    ≡ value_at pairs key → same ≡ test → Decides test (reply ≡ got) → IsTrue same ↔ (reply ≡ value h key s)
reads_value h s pairs key reply got same test map is tested decides =
    (λ e. decides.0 (sym tested ∙ e) ∙ is ∙ map.values key, λ e. tested ∙ decides.1 (e ∙ sym (is ∙ map.values key)))

-- rows that a test holds against the map's range
pub reads_range : (h : History) (s lo hi : ℕ) (rows got : List Pair) (same test : Bool) → IsRange h s lo hi got → same ≡ test → Decides test (rows ≡ got)
    → IsTrue same ↔ IsRange h s lo hi rows
reads_range h s lo hi rows got same test range tested decides =
    (λ e. subst (IsRange h s lo hi) (sym (decides.0 (sym tested ∙ e))) range, λ is. tested ∙ decides.1 (same_range h s lo hi rows got is range))

-- a page that a test holds against the map's range
pub reads_page : (h : History) (s from hi max : ℕ) (rows got : List Pair) (more : Option ℕ) (same : Bool) → IsRange h s from hi got
    → (IsTrue same ↔ IsPage got max rows more) → IsTrue same ↔ ((all : List Pair) × IsRange h s from hi all × IsPage all max rows more)
reads_page h s from hi max rows got more same range tested = (
  λ e. (got, range, tested.0 e),
  λ page. tested.1 (subst (λ (all : List Pair). IsPage all max rows more)
      (same_range h s from hi page.0 got page.1 range) page.2),
)

-- what a deed read is right where the replay has come to its time, if that is inside no batch
right_deed : (h : History) (t until : ℕ) (pairs : List Pair) (deed : Deed) → is_read deed ≡ true → until ≤ t → HasComeTo h t until pairs
    → Reads h t deed ↔ IsRightDeed h t deed
right_deed h t until pairs (Put key written) read le comes = absurd (true≢false (sym read))
right_deed h t until pairs (Remove key) read le comes = absurd (true≢false (sym read))
right_deed h t until pairs (Group members) read le comes = absurd (true≢false (sym read))
right_deed h t until pairs deed read le comes = (
  λ reads. record { readable = record { reached = comes.reached; uncut = comes.uncut.1 le }; reads = reads },
  λ right. right.reads,
)

pub right_reply : (r : CallRecord) (until : ℕ) (pairs : List Pair) (right : Bool) → is_read r.deed ≡ true → until ≤ r.time
    → ((h : History) (s : ℕ) → IsMap h s pairs → IsTrue right ↔ Reads h s r.deed)
    → (h : History) → HasComeTo h r.time until pairs → IsTrue right ↔ IsRightRecord h r
right_reply r until pairs right read le tested h comes =
    let test = tested h r.time (comes.map le) in
    let is = right_deed h r.time until pairs r.deed read le comes in
    (λ e. is.0 (test.0 e), λ e. test.1 (is.1 e))
