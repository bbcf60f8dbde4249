-- A sweep over the begins and ends of calls: one event more.
use Rattle.std.proofs.Common.{◌≡◌, ℕ, ◌+◌, ◌<◌, ◌≤◌, ◌==◌, ◌&&◌, ◌||◌, nat_lt, not, Bool, true, false, List, [], ◌∷◌, ◌++◌, length, get_or, take, Option, None}
use Rattle.std.proofs.Common.{Some}
use Rattle.std.proofs.Common.{sym, ◌∙◌, ap, subst, ⊎_elim, arith}
use Rattle.std.proofs.lemmas.Bool.Decides.{nat_tests}
use Rattle.std.proofs.lemmas.List.{get_or-take, get_or_default, length-take, take_more}
use Rattle.std.proofs.lemmas.List.Elements.{Contains-append_left, Contains-push, Contains-push_cases}
use Rattle.std.proofs.lemmas.List.Sorted.{sorted_far}
use Rattle.std.specs.List.{Contains}
use Rattle.std.specs.List.Sorted.{IsSortedBy}
use Rattle.clsm_audit.specs.declared.event.Event.{Event}
use Rattle.clsm_audit.specs.declared.sweep.Overtaken.{Overtaken}
use Rattle.clsm_audit.specs.declared.sweep.Sweep.{Sweep}
use Rattle.clsm_audit.specs.Moments.{ComesBehind, HasFirst, HasLatest, HasSwept, IsEarlyFor, IsLatest, comes_before}
use Rattle.clsm_audit.proofs.Orders.{comes_before-moments}

-- ---- moments that do not fall

-- what comes before none of some events is not of a lower moment; a begin is of a higher one than
-- an end
not_below : (m n : ℕ) (a b : Bool) → (nat_lt m n || (m == n && (not a && b))) ≡ false → n ≤ m
not_below m n a b behind = grind (arith, nat_tests)

above_end : (m n : ℕ) (a b : Bool) → (nat_lt m n || (m == n && (not a && b))) ≡ false → a ≡ false → b ≡ true → n < m
above_end m n false true behind begins ends = grind (arith, nat_tests)
above_end m n true b behind begins ends = absurd (cc)
above_end m n false false behind begins ends = absurd (cc)

moment_above : (x y : Event) → comes_before x y ≡ false → y.moment ≤ x.moment
moment_above x y behind = not_below x.moment y.moment x.is_end y.is_end behind

-- ---- one end more

module _ (events : List Event) (finish : Event) (ends : finish.is_end ≡ true) where
  -- the latest end
  pub kept_latest : (latest : Event) → HasLatest events (Some latest) → finish.time ≤ latest.time → HasLatest (events ++ finish ∷ []) (Some latest)
  kept_latest latest is le = record {
    among = Contains-append_left events (finish ∷ []) latest is.among;
    ends = is.ends;
    latest = λ e among e_ends. ⊎_elim
        (λ (old : Contains events e). is.latest e old e_ends)
        (λ (new : finish ≡ e). subst (λ (x : Event). x.time ≤ latest.time) new le)
        (Contains-push_cases events finish e among);
  }

  pub new_latest : ((e : Event) → Contains events e → e.is_end ≡ true → e.time ≤ finish.time) → HasLatest (events ++ finish ∷ []) (Some finish)
  new_latest below = record {
    among = Contains-push events finish;
    ends = ends;
    latest = λ e among e_ends. ⊎_elim
        (λ (old : Contains events e). below e old e_ends)
        (λ (new : finish ≡ e). let same : finish.time ≡ e.time = ap (λ (x : Event). x.time) new in omega arith)
        (Contains-push_cases events finish e among);
  }

  -- it makes no begin too early that was passed before
  early_before : ComesBehind events finish → (b f : Event) → Contains (events ++ finish ∷ []) b → Contains (events ++ finish ∷ []) f → IsEarlyFor b f
      → Contains events b × Contains events f
  early_before behind b f begin_among finish_among early =
      let begin_old : Contains events b =
      ⊎_elim
      (λ (old : Contains events b). old)
      (λ (new : finish ≡ b). let clash : true ≡ false = sym ends ∙ ap (λ (x : Event). x.is_end) new ∙ early.begins in cc clash)
      (Contains-push_cases events finish b begin_among) in
      let finish_old : Contains events f =
      ⊎_elim
      (λ (old : Contains events f). old)
      (λ (new : finish ≡ f).
      let same : finish.moment ≡ f.moment = ap (λ (x : Event). x.moment) new in
      let above = moment_above finish b (behind b begin_old) in
      let before = early.before in
      absurd (omega arith))
      (Contains-push_cases events finish f finish_among) in
      (begin_old, finish_old)

  pub kept_first : ComesBehind events finish → (found : Option Overtaken) → HasFirst events found → HasFirst (events ++ finish ∷ []) found
  kept_first behind None none = λ b f begin_among finish_among early.
      let old = early_before behind b f begin_among finish_among early in none b f old.0 old.1 early
  kept_first behind (Some found) is = record {
    begin_among = Contains-append_left events (finish ∷ []) found.begin is.begin_among;
    finish_among = Contains-append_left events (finish ∷ []) found.finish is.finish_among;
    early = is.early;
    least = λ b f begin_among finish_among early.
        let old = early_before behind b f begin_among finish_among early in is.least b f old.0 old.1 early;
  }

-- ---- one begin more

module _ (events : List Event) (begin : Event) (begins : begin.is_end ≡ false) where
  -- the latest end is the same
  pub same_latest : (latest : Option Event) → HasLatest events latest → HasLatest (events ++ begin ∷ []) latest
  same_latest None none = λ e among. ⊎_elim
      (λ (old : Contains events e). none e old)
      (λ (new : begin ≡ e). sym (ap (λ (x : Event). x.is_end) new) ∙ begins)
      (Contains-push_cases events begin e among)
  same_latest (Some latest) is = record {
    among = Contains-append_left events (begin ∷ []) latest is.among;
    ends = is.ends;
    latest = λ e among ends. ⊎_elim
        (λ (old : Contains events e). is.latest e old ends)
        (λ (new : begin ≡ e). let clash : false ≡ true = sym begins ∙ ap (λ (x : Event). x.is_end) new ∙ ends in cc clash)
        (Contains-push_cases events begin e among);
  }

  -- an end that makes a begin too early was passed before
  finish_old : (b f : Event) → Contains (events ++ begin ∷ []) f → IsEarlyFor b f → Contains events f
  finish_old b f among early = ⊎_elim
      (λ (old : Contains events f). old)
      (λ (new : begin ≡ f). let clash : false ≡ true = sym begins ∙ ap (λ (x : Event). x.is_end) new ∙ early.ends in cc clash)
      (Contains-push_cases events begin f among)

  pub late_first : ((f : Event) → Contains events f → f.is_end ≡ true → f.time ≤ begin.time) → (found : Option Overtaken) → HasFirst events found
      → HasFirst (events ++ begin ∷ []) found
  late_first late None none = λ b f begin_among finish_among early.
      let old = finish_old b f finish_among early in
      ⊎_elim
      (λ (among : Contains events b). none b f among old early)
      (λ (new : begin ≡ b).
      let same : begin.time ≡ b.time = ap (λ (x : Event). x.time) new in
      let le = late f old early.ends in
      let lt = early.later in
      absurd (omega arith))
      (Contains-push_cases events begin b begin_among)
  late_first late (Some found) is = record {
    begin_among = Contains-append_left events (begin ∷ []) found.begin is.begin_among;
    finish_among = Contains-append_left events (begin ∷ []) found.finish is.finish_among;
    early = is.early;
    least = λ b f begin_among finish_among early.
        let old = finish_old b f finish_among early in
        ⊎_elim
        (λ (among : Contains events b). is.least b f among old early)
        (λ (new : begin ≡ b).
        let same : begin.time ≡ b.time = ap (λ (x : Event). x.time) new in
        let le = late f old early.ends in
        let lt = early.later in
        absurd (omega arith))
        (Contains-push_cases events begin b begin_among);
  }

  -- the begin is too early, and one with a lower index was found before
  pub higher_first : (found : Overtaken) → HasFirst events (Some found) → found.begin.index ≤ begin.index → HasFirst (events ++ begin ∷ []) (Some found)
  higher_first found is le = record {
    begin_among = Contains-append_left events (begin ∷ []) found.begin is.begin_among;
    finish_among = Contains-append_left events (begin ∷ []) found.finish is.finish_among;
    early = is.early;
    least = λ b f begin_among finish_among early.
        ⊎_elim
        (λ (among : Contains events b). is.least b f among (finish_old b f finish_among early) early)
        (λ (new : begin ≡ b). let same : begin.index ≡ b.index = ap (λ (x : Event). x.index) new in omega arith)
        (Contains-push_cases events begin b begin_among);
  }

  -- it is too early for the latest end
  early_here : (latest : Event) → IsLatest events latest → ComesBehind events begin → begin.time < latest.time → IsEarlyFor begin latest
  early_here latest is behind lt = record {
    begins = begins;
    ends = is.ends;
    before = above_end begin.moment latest.moment begin.is_end latest.is_end (behind latest is.among) begins is.ends;
    later = lt;
  }

  -- and has the lowest index
  pub lower_first : (latest : Event) → HasLatest events (Some latest) → ComesBehind events begin → begin.time < latest.time
      → ((b f : Event) → Contains events b → Contains events f → IsEarlyFor b f → begin.index ≤ b.index)
      → HasFirst (events ++ begin ∷ []) (Some (record { begin = begin; finish = latest }))
  lower_first latest is behind lt least = record {
    begin_among = Contains-push events begin;
    finish_among = Contains-append_left events (begin ∷ []) latest is.among;
    early = early_here latest is behind lt;
    least = λ b f begin_among finish_among early.
        ⊎_elim
        (λ (among : Contains events b). least b f among (finish_old b f finish_among early) early)
        (λ (new : begin ≡ b). let same : begin.index ≡ b.index = ap (λ (x : Event). x.index) new in omega arith)
        (Contains-push_cases events begin b begin_among);
  }

-- ---- all events

-- an event comes before none of those that stand before it
pub comes_behind : (events : List Event) → IsSortedBy comes_before events → (i : ℕ) (d : Event) → i < length events
    → ComesBehind (take i events) (get_or events i d)
comes_behind events sorted i d within e among =
    let k = among.0 in
    let lt : k < length (take i events) = among.1 in
    let long = length-take i events in
    let low : k < i = omega arith in
    let at : get_or events k e ≡ e = sym (get_or-take i events k e low) ∙ among.2 in
    let far = sorted_far comes_before comes_before-moments events sorted k i e (omega arith) within in
    let here : get_or events i e ≡ get_or events i d = get_or_default events i e d within in
    sym (ap (λ (x : Event). comes_before (get_or events i d) x) at) ∙ sym (ap (λ (x : Event). comes_before x (get_or events k e)) here) ∙ far

-- the next event was passed
pub swept_more : (events : List Event) → IsSortedBy comes_before events → (i : ℕ) (d : Event) → i < length events → (old new : Sweep)
    → HasSwept (take i events) old
    → ((before : List Event) → HasSwept before old → ComesBehind before (get_or events i d) → HasSwept (before ++ get_or events i d ∷ []) new)
    → HasSwept (take (i + 1) events) new
swept_more events sorted i d within old new swept passes =
    subst (λ (es : List Event). HasSwept es new) (sym (take_more events i d within))
    (passes (take i events) swept (comes_behind events sorted i d within))
