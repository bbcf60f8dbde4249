-- Walks that are added one after another.
use Rattle.std.proofs.Common.{◌≡◌, ℕ, ◌≤◌, ap, refl, sym, ◌∙◌, subst, List, [], ◌∷◌, ◌++◌, Option, Some, None}
use Rattle.clsm_model.specs.History.{or_else}
use Rattle.clsm_model.proofs.Pages.{or_none}
use Rattle.clsm_levels.specs.declared.entry.Entry.{Entry}
use Rattle.clsm_words.specs.declared.known.Known.{Known}
use Rattle.clsm_words.specs.Keeping.{LooksAside}
use Rattle.clsm_words.proofs.Keeps.{aside_trans, looks_none}
use Rattle.clsm_scan.specs.declared.any_walk.AnyWalk.{AnyWalk}
use Rattle.clsm_scan.specs.declared.merged.Merged.{Merged}
use Rattle.clsm_scan.specs.declared.merged.Stream.{Stream}
use Rattle.clsm_scan.specs.Optional.{If, found_in, found_same, if_so}
use Rattle.clsm_scan.specs.Streams.{AreAhead, AreOver, HasAdded, IsAhead, all_ahead_stays, all_over_stays, first_found, first_of, first_of_stays}
use Rattle.clsm_scan.specs.Walks.{any_found, any_found_stays, any_over, any_over_stays}
use Rattle.clsm_scan.proofs.Places.{all_push, else_else, first_push}

-- looks leave what a walk finds that may be missing, and that it is along an epoch or a run
pub walk_finds : (k k' : Known) (o : Option AnyWalk) → LooksAside k k' → If (any_over k) o → (key : ℕ)
    → found_in (any_found k') o key ≡ found_in (any_found k) o key
walk_finds k k' o looks over = found_same (any_found k) (any_found k') (any_over k) o (λ w over'. any_found_stays k k' w looks over') over

pub walk_stays : (k k' : Known) (o : Option AnyWalk) → LooksAside k k' → If (any_over k) o → If (any_over k') o
walk_stays k k' o looks over = if_so (any_over k) (any_over k') o (λ w. any_over_stays k k' w looks) over

module _ (lo : ℕ) where
  -- the same is added, said in other words
  pub added_same : (k : Known) (m : Merged) (k' : Known) (m' : Merged) (found found' : ℕ → Option Entry) → ((key : ℕ) → found key ≡ found' key)
      → HasAdded lo k m k' m' found → HasAdded lo k m k' m' found'
  added_same k m k' m' found found' same is = record {
    looks = is.looks;
    hi = is.hi;
    over = is.over;
    ahead = is.ahead;
    finds = λ key from until. is.finds key from until ∙ (λ i. or_else (first_of k m.streams.items key) (same key i));
  }

  -- what adds one and then another adds both
  pub added_both : (k : Known) (m : Merged) (k' : Known) (m' : Merged) (k'' : Known) (m'' : Merged) (found found' : ℕ → Option Entry)
      → HasAdded lo k m k' m' found → HasAdded lo k' m' k'' m'' found' → HasAdded lo k m k'' m'' (first_found found found')
  added_both k m k' m' k'' m'' found found' one two = record {
    looks = aside_trans k k' k'' one.looks two.looks;
    hi = two.hi ∙ one.hi;
    over = two.over;
    ahead = two.ahead;
    finds = λ key from until.
        two.finds key from (subst (λ (n : ℕ). key ≤ n) (sym one.hi) until)
        ∙ (λ i. or_else (one.finds key from until i) (found' key))
        ∙ sym (else_else (first_of k m.streams.items key) (found key) (found' key));
  }

-- what was added after looks, by what was found before them
pub added_after : (lo : ℕ) (k k' : Known) (m' : Merged) (k'' : Known) (m'' : Merged) (o o' : Option AnyWalk) → o ≡ o' → LooksAside k k' → If (any_over k) o'
    → HasAdded lo k' m' k'' m'' (found_in (any_found k') o) → HasAdded lo k' m' k'' m'' (found_in (any_found k) o')
added_after lo k k' m' k'' m'' o o' same looks over is = added_same lo k' m' k'' m'' (found_in (any_found k') o) (found_in (any_found k) o')
    (λ key. ap (λ (w : Option AnyWalk). found_in (any_found k') w key) same ∙ walk_finds k k' o' looks over key) is

-- ---- one walk

-- where there is none, nothing is added
pub added_none : (lo : ℕ) (k : Known) (m : Merged) → AreOver k m.streams.items → AreAhead k lo m.hi m.streams.items → HasAdded lo k m k m (λ key. None)
added_none lo k m over ahead = record {
  looks = record { looks = looks_none k; trail = refl };
  hi = refl;
  over = over;
  ahead = ahead;
  finds = λ key from until. sym (or_none (first_of k m.streams.items key));
}

module _ (lo : ℕ) (k k' : Known) (m m' : Merged) (w : AnyWalk) (looks : LooksAside k k') (over : AreOver k m.streams.items)
    (ahead : AreAhead k lo m.hi m.streams.items) (top : m'.hi ≡ m.hi) where
  -- one that has a write is put behind the others
  pub added_one : (s : Stream) → m'.streams.items ≡ m.streams.items ++ s ∷ [] → any_over k' s.walk → IsAhead k' lo m.hi s
      → ((key : ℕ) → any_found k' s.walk key ≡ any_found k w key) → HasAdded lo k m k' m' (found_in (any_found k) (Some w))
  added_one s put over' ahead' same =
      let old = m.streams.items in
      record {
        looks = looks;
        hi = top;
        over = subst (AreOver k') (sym put) (all_push (λ s. any_over k' s.walk) old s (all_over_stays k k' looks old over) over');
        ahead = subst (λ (hi : ℕ). AreAhead k' lo hi m'.streams.items) (sym top) (subst (AreAhead k' lo m.hi) (sym put)
            (all_push (IsAhead k' lo m.hi) old s (all_ahead_stays k k' looks lo m.hi old over ahead) ahead'));
        finds = λ key from until. ap (λ (ss : List Stream). first_of k' ss key) put ∙ first_push k' key old s
            ∙ (λ i. or_else (first_of_stays k k' looks old over key i) (same key i));
      }

  -- one that has none leaves
  pub added_ended : m'.streams.items ≡ m.streams.items → ((key : ℕ) → lo ≤ key → key ≤ m.hi → any_found k w key ≡ None)
      → HasAdded lo k m k' m' (found_in (any_found k) (Some w))
  added_ended put none =
      let old = m.streams.items in
      record {
        looks = looks;
        hi = top;
        over = subst (AreOver k') (sym put) (all_over_stays k k' looks old over);
        ahead = subst (λ (hi : ℕ). AreAhead k' lo hi m'.streams.items) (sym top) (subst (AreAhead k' lo m.hi) (sym put)
            (all_ahead_stays k k' looks lo m.hi old over ahead));
        finds = λ key from until. ap (λ (ss : List Stream). first_of k' ss key) put ∙ first_of_stays k k' looks old over key
            ∙ sym (or_none (first_of k old key)) ∙ (λ i. or_else (first_of k old key) (sym (none key from until) i));
      }
