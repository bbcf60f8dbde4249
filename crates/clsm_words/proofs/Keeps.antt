-- What a seat keeps over one step, and over one after another.
use Rattle.std.proofs.Common.{◌≡◌, ℕ, ◌≤◌, List, sym, ap, refl, ◌∙◌, subst, arith, Option, Some}
use Rattle.clsm_model.proofs.Batches.{begins_self, begins_trans}
use Rattle.clsm_law.specs.declared.step.Step.{Step}
use Rattle.clsm_law.specs.declared.view.FreshLink.{FreshLink}
use Rattle.clsm_law.specs.declared.view.Waiting.{Waiting}
use Rattle.clsm_law.specs.declared.view.View.{View}
use Rattle.clsm_law.specs.Relation.{view_after}
use Rattle.clsm_words.specs.declared.known.Known.{Known}
use Rattle.clsm_words.specs.Knowing.{Follows, KeepsSelf, known_of}
use Rattle.clsm_words.specs.Keeping.{KeepsSeat, KeepsPast, KeepsPlace, OnlyReads, Looks, LooksAside, learned, walked}

-- ---- the seat

self_stays : (k : Known) → KeepsSelf k k
self_stays k = record { number = refl; dealt = refl; layout = refl; told = refl; told_batches = refl; heard = refl }

self_trans : (a b c : Known) → KeepsSelf a b → KeepsSelf b c → KeepsSelf a c
self_trans a b c h k = record {
  number = k.number ∙ h.number;
  dealt = k.dealt ∙ h.dealt;
  layout = k.layout ∙ h.layout;
  told = k.told ∙ h.told;
  told_batches = k.told_batches ∙ h.told_batches;
  heard = k.heard ∙ h.heard;
}

pub seat_by : (step : Step) (k k' : Known) (x : ℕ) → Follows step k x k' → KeepsSeat k k'
seat_by step k k' x follows = record {
  self = follows.self;
  past = follows.longer;
  runs = follows.runs;
  spots = follows.spots;
}

pub seat_stays : (k : Known) → KeepsSeat k k
seat_stays k = record {
  self = self_stays k;
  past = begins_self (known_of k);
  runs = λ c held held'. (refl, λ word named. refl);
  spots = λ c held held'. record { each = λ p key has. has };
}

-- a component that was held before and is held after was held between
pub seat_trans : (a b c : Known) → KeepsSeat a b → KeepsSeat b c → ((m : ℕ) → a.view.held ≡ Some m → c.view.held ≡ Some m → b.view.held ≡ Some m)
    → KeepsSeat a c
seat_trans a b c h k between = record {
  self = self_trans a b c h.self k.self;
  past = begins_trans (known_of a) (known_of b) (known_of c) h.past k.past;
  runs = λ m held held'. let mid = between m held held' in let one = h.runs m held mid in let two = k.runs m mid held' in
      (two.0 ∙ one.0, λ word named. two.1 word named ∙ one.1 word named);
  spots = λ m held held'. let mid = between m held held' in let one = h.spots m held mid in let two = k.spots m mid held' in
      record { each = λ p key has. two.each p key (one.each p key has) };
}

-- ---- the seat and its past

-- a step that leaves how far the past goes
pub past_by : (step : Step) (k k' : Known) (x : ℕ) → Follows step k x k' → (view_after k.layout k.number k.view step x).past ≡ k.view.past → KeepsPast k k'
past_by step k k' x follows past = record {
  self = follows.self;
  past = (follows.same (ap (λ (v : View). v.past) follows.view ∙ past)).0;
  batches = (follows.same (ap (λ (v : View). v.past) follows.view ∙ past)).1;
}

pub past_trans : (a b c : Known) → KeepsPast a b → KeepsPast b c → KeepsPast a c
past_trans a b c h k = record {
  self = self_trans a b c h.self k.self;
  past = k.past ∙ h.past;
  batches = k.batches ∙ h.batches;
}

-- ---- the seat and its place

pub place_stays : (k : Known) → KeepsPlace k k
place_stays k = record { seat = seat_stays k; past = refl; batches = refl; trail = refl }

-- a step that leaves how far the past goes, and the walk
pub place_by : (step : Step) (k k' : Known) (x : ℕ) → Follows step k x k' → (view_after k.layout k.number k.view step x).past ≡ k.view.past → k'.trail
    ≡ k.trail → KeepsPlace k k'
place_by step k k' x follows past trail = record {
  seat = seat_by step k k' x follows;
  past = (follows.same (ap (λ (v : View). v.past) follows.view ∙ past)).0;
  batches = (follows.same (ap (λ (v : View). v.past) follows.view ∙ past)).1;
  trail = trail;
}

pub place_trans : (a b c : Known) → KeepsPlace a b → KeepsPlace b c → ((m : ℕ) → a.view.held ≡ Some m → c.view.held ≡ Some m → b.view.held ≡ Some m)
    → KeepsPlace a c
place_trans a b c h k between = record {
  seat = seat_trans a b c h.seat k.seat between;
  past = k.past ∙ h.past;
  batches = k.batches ∙ h.batches;
  trail = k.trail ∙ h.trail;
}

-- ---- reads

-- the view but for what reading changes
abbrev pub but_read : View → List (Option ℕ) → ℕ → Option FreshLink → ℕ → ℕ → ℕ → ℕ → ℕ → Option Waiting → View
but_read v heads met link low high reached past count waited =
    record v { fresh_heads = heads; met = met; fresh_link = link; low = low; high = high; reached = reached; past = past; cancelled = count; waited = waited }

-- a step that changes nothing else of the view, and falls back in nothing, only reads
pub reads_by : (step : Step) (k k' : Known) (x : ℕ) (heads : List (Option ℕ)) (met : ℕ) (link : Option FreshLink) (low high reached past cancelled : ℕ)
    (waited : Option Waiting) → Follows step k x k' → view_after k.layout k.number k.view step x
    ≡ but_read k.view heads met link low high reached past cancelled waited → k.view.reached ≤ reached → OnlyReads k k'
reads_by step k k' x heads met link low high reached past cancelled waited follows e le =
    let is : k'.view ≡ but_read k.view heads met link low high reached past cancelled waited = follows.view ∙ e in record {
      seat = seat_by step k k' x follows;
      view = subst (λ (v : View). v ≡ learned (walked k.view v) v) (sym is) refl;
      reached = let r = ap (λ (v : View). v.reached) is in omega arith;
    }

pub reads_none : (k : Known) → OnlyReads k k
reads_none k = record { seat = seat_stays k; view = refl; reached = omega arith }

pub reads_trans : (a b c : Known) → OnlyReads a b → OnlyReads b c → OnlyReads a c
reads_trans a b c h k = record {
  seat = seat_trans a b c h.seat k.seat (λ m held held'. ap (λ (v : View). v.held) h.view ∙ held);
  view = k.view ∙ ap (λ (v : View). learned (walked v c.view) c.view) h.view;
  reached = let x = h.reached in let y = k.reached in omega arith;
}

-- ---- looks

pub looks_none : (k : Known) → Looks k k
looks_none k = record { reads = reads_none k; past = refl; batches = refl; cancelled = refl }

-- one look after another
pub looks_trans : (a b c : Known) → Looks a b → Looks b c → Looks a c
looks_trans a b c h k = record {
  reads = reads_trans a b c h.reads k.reads;
  past = k.past ∙ h.past;
  batches = k.batches ∙ h.batches;
  cancelled = k.cancelled
      ∙ h.cancelled;
}

pub aside_trans : (a b c : Known) → LooksAside a b → LooksAside b c → LooksAside a c
aside_trans a b c h k = record { looks = looks_trans a b c h.looks k.looks; trail = k.trail ∙ h.trail }
