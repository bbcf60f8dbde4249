-- Why a reading is wrong.
use Rattle.std.proofs.Common.{◌≡◌, ℕ, ◌<◌, ◌≤◌, zero, suc, List, [], ◌∷◌, length, get_or, Option, Some, None, IfSome, refl, sym, ap, ◌∙◌, subst, arith}
use Rattle.std.proofs.lemmas.List.{get_or_default}
use Rattle.std.specs.List.{slice_get}
use Rattle.std.specs.Option.{IsSomeAnd}
use Rattle.clsm_model.specs.declared.batch.Batch.{Batch}
use Rattle.clsm_model.specs.declared.config.Config.{Config}
use Rattle.clsm_model.specs.declared.page_range.PageRange.{PageRange}
use Rattle.clsm_model.specs.declared.record.CallRecord.{CallRecord}
use Rattle.clsm_model.specs.declared.record.Deed.{Deed}
use Rattle.clsm_model.specs.declared.record.Deed.TheVariants.{Put, Remove, Rmw, Get, GetAt, Scan, Page, Batch as Group}
use Rattle.clsm_model.specs.History.{History, IsInside, IsReadable, IsUncut, value}
use Rattle.clsm_model.specs.Map.{IsMap, IsRange, Pair}
use Rattle.clsm_model.specs.Right.{IsPage, Reads}
use Rattle.clsm_model.specs.Seats.{IsRightDeed, IsRightRecord}
use Rattle.clsm_audit.specs.declared.explanation.Explanation.{Explanation}
use Rattle.clsm_audit.specs.declared.explanation.Explanation.TheVariants.{WrongValue, WrongRow, WrongNext}
use Rattle.clsm_audit.specs.declared.fault.FaultKind.TheVariants.{WrongReply}
use Rattle.clsm_audit.specs.Explained.{AreRightRows, Explains, IsAround, ReadsKey, ReadsRows, SaysRow, SaysValue, kind_of, next_of, rows_of}
use Rattle.clsm_audit.specs.Faults.{IsWrongAt}
use Rattle.clsm_audit.specs.Written.{batch_by, batches_of, history_of}
use Rattle.clsm_audit.proofs.Backs.{not_within}
use Rattle.clsm_audit.proofs.Batches.{uncut_from}
use Rattle.clsm_audit.proofs.Indices.{here_if, if_here, nobody}
use Rattle.clsm_audit.proofs.Seconds.{at_index}
use Rattle.clsm_audit.proofs.Slots.{time_within}

-- ---- times inside no batch

outside_all : (s : ℕ) (o : Option Batch) → (IsSomeAnd o (IsInside s) → ⊥) → IfSome o (λ b. ¬ IsInside s b)
outside_all s None none = tt
outside_all s (Some b) none = none

pub uncut_by : (records : List CallRecord) (s n : ℕ) → length records ≤ n → ((k : ℕ) → k < n → ¬ IsAround s (get_or records k nobody))
    → IsUncut (batches_of records) s
uncut_by records s n all none =
    uncut_from records s (λ i lt. outside_all s (batch_by (get_or records i nobody).time (get_or records i nobody).deed) (none i (omega arith)))

-- ---- what is wrong is not what the history gives

right_deed : (h : History) (s : ℕ) (deed : Deed) → IsReadable h s → Reads h s deed → IsRightDeed h s deed
right_deed h s (Put key written) readable reads = tt
right_deed h s (Remove key) readable reads = tt
right_deed h s (Group members) readable reads = tt
right_deed h s deed readable reads = record { readable = readable; reads = reads }

module _ (records : List CallRecord) (i : ℕ) (r : CallRecord) (is : r ≡ get_or records i r) (wrong : IsWrongAt records i) where
  within : i < length records
  within = not_within (IsRightRecord (history_of records)) records i wrong

  -- what holds of the record at the index holds of this one, and back
  pub wrong_has : (P : CallRecord → Type 0) → IsSomeAnd (slice_get records i) P → P r
  wrong_has P has = (at_index P records i r within is).1 has

  pub has_wrong : (P : CallRecord → Type 0) → P r → IsSomeAnd (slice_get records i) P
  has_wrong P p = (at_index P records i r within is).0 p

  -- the map of the writes below its time
  pub wrong_map : (pairs : List Pair) → IsSomeAnd (slice_get records i) (λ q. IsUncut (batches_of records) q.time)
      → IfSome (slice_get records i) (λ q. IsUncut (batches_of records) q.time → IsMap (history_of records) q.time pairs)
      → IsMap (history_of records) r.time pairs
  wrong_map pairs uncut map =
      here_if (λ q. IsUncut (batches_of records) q.time → IsMap (history_of records) q.time pairs) records i r within is map
      (wrong_has (λ q. IsUncut (batches_of records) q.time) uncut)

  pub wrong_reads : IsUncut (batches_of records) r.time → Reads (history_of records) r.time r.deed → ⊥
  wrong_reads uncut reads =
      let same : get_or records i nobody ≡ r = sym (is ∙ get_or_default records i r nobody within) in
      let time = ap (λ (q : CallRecord). q.time) same in
      let reached = time_within records i within in
      wrong (if_here (IsRightRecord (history_of records)) records i r within is
      (right_deed (history_of records) r.time r.deed (record { reached = omega arith; uncut = uncut }) reads))

-- ---- one key

reads_key : (h : History) (s : ℕ) (deed : Deed) (key : ℕ) (answered : Option (List ℕ)) → ReadsKey deed key answered → answered ≡ value h key s → Reads h s deed
reads_key h s (Rmw k old change) key answered reads is = reads.1 ∙ is ∙ ap (λ (n : ℕ). value h n s) (sym reads.0)
reads_key h s (Get k reply) key answered reads is = reads.1 ∙ is ∙ ap (λ (n : ℕ). value h n s) (sym reads.0)
reads_key h s (GetAt k reply) key answered reads is = reads.1 ∙ is ∙ ap (λ (n : ℕ). value h n s) (sym reads.0)
reads_key h s deed key answered reads is = absurd reads

pub value_kind : (records : List CallRecord) (s key : ℕ) (answered : Option (List ℕ)) (e : Explanation) → SaysValue records s key answered e → kind_of e
    ≡ WrongReply
value_kind records s key answered (WrongValue k a right named seen) says = refl
value_kind records s key answered e says = absurd says

pub value_explains : (config : Config) (records : List CallRecord) (i : ℕ) (r : CallRecord) (key : ℕ) (answered : Option (List ℕ)) (e : Explanation)
    → (Reads (history_of records) r.time r.deed → ⊥) → ReadsKey r.deed key answered
    → SaysValue records r.time key answered e → Explains config records i r e
value_explains config records i r key answered (WrongValue k a right named seen) wrong reads (same, same', is) =
    subst (λ (x : ℕ). Explains config records i r (WrongValue x a right named seen)) (sym same)
    (subst (λ (x : Option (List ℕ)). Explains config records i r (WrongValue key x right named seen)) (sym same') (
      reads,
      λ e. wrong (reads_key (history_of records) r.time r.deed key answered reads (e ∙ is.value_is)),
      is,
    ))
value_explains config records i r key answered e wrong reads says = absurd says

-- ---- rows

pub row_kind : (records : List CallRecord) (s : ℕ) (rows right_rows : List Pair) (e : Explanation) → SaysRow records s rows right_rows e → kind_of e
    ≡ WrongReply
row_kind records s rows right_rows (WrongRow number answered right key named seen) says = refl
row_kind records s rows right_rows e says = absurd says

pub row_explains : (config : Config) (records : List CallRecord) (i : ℕ) (r : CallRecord) (rows right_rows : List Pair) (next : Option ℕ) (e : Explanation)
    → AreRightRows (history_of records) r.time r.deed right_rows next → rows ≡ rows_of r.deed
    → SaysRow records r.time rows right_rows e → Explains config records i r e
row_explains config records i r rows right_rows next (WrongRow number answered right key named seen) are same says =
    (right_rows, next, are, subst (λ (xs : List Pair). SaysRow records r.time xs right_rows (WrongRow number answered right key named seen)) same says)
row_explains config records i r rows right_rows next e are same says = absurd says

-- rows that agree at each number are the same
pub same_rows : (rows right : List Pair) (n : ℕ) → length rows ≤ n → length right ≤ n → ((k : ℕ) → k < n → slice_get rows k ≡ slice_get right k) → rows ≡ right
same_rows [] [] n long long' same = refl
same_rows [] (q ∷ qs) n long long' same = let e : None ≡ Some q = same zero (omega arith) in absurd cc
same_rows (p ∷ ps) [] n long long' same = let e : Some p ≡ None = same zero (omega arith) in absurd cc
same_rows (p ∷ ps) (q ∷ qs) zero long long' same = absurd (omega arith)
same_rows (p ∷ ps) (q ∷ qs) (suc n) long long' same =
    let e : Some p ≡ Some q = same zero (omega arith) in
    let here : p ≡ q = cc in
    let rest = same_rows ps qs n (omega arith) (omega arith) (λ k lt. same (suc k) (omega arith)) in
    ap (λ (x : Pair). x ∷ ps) here ∙ ap (λ (xs : List Pair). q ∷ xs) rest

-- ---- a scan, and a page

pub scan_explains : (config : Config) (records : List CallRecord) (i : ℕ) (r : CallRecord) (lo hi : ℕ) (own rows right_rows : List Pair) (e : Explanation)
    → r.deed ≡ Scan lo hi own → rows ≡ own → IsRange (history_of records) r.time lo hi right_rows
    → SaysRow records r.time rows right_rows e → Explains config records i r e
scan_explains config records i r lo hi own rows right_rows e is same range says =
    row_explains config records i r rows right_rows None e (subst (λ (d : Deed). AreRightRows (history_of records) r.time d right_rows None) (sym is)
    (range, refl)) (same ∙ sym (ap rows_of is)) says

pub scan_reads : (h : History) (r : CallRecord) (lo hi : ℕ) (own rows right_rows : List Pair) → r.deed ≡ Scan lo hi own → rows ≡ own
    → IsRange h r.time lo hi right_rows → rows ≡ right_rows → Reads h r.time r.deed
scan_reads h r lo hi own rows right_rows is same range agree =
    subst (λ (d : Deed). Reads h r.time d) (sym is) (subst (λ (xs : List Pair). IsRange h r.time lo hi xs) (sym agree ∙ same) range)

pub page_explains : (config : Config) (records : List CallRecord) (i : ℕ) (r : CallRecord) (range : PageRange) (own rows front all : List Pair)
    (more next : Option ℕ) (e : Explanation) → r.deed ≡ Page range own more → rows ≡ own → IsRange (history_of records) r.time range.from range.hi all
    → IsPage all range.max front next → SaysRow records r.time rows front e → Explains config records i r e
page_explains config records i r range own rows front all more next e is same whole page says =
    row_explains config records i r rows front next e (subst (λ (d : Deed). AreRightRows (history_of records) r.time d front next) (sym is)
    (all, whole, page)) (same ∙ sym (ap rows_of is)) says

next_reads : (h : History) (s : ℕ) (range : PageRange) (own all : List Pair) (more next : Option ℕ) (deed : Deed) → deed ≡ Page range own more
    → IsRange h s range.from range.hi all → IsPage all range.max own next → more ≡ next → Reads h s deed
next_reads h s range own all more next deed is whole page agree =
    subst (λ (d : Deed). Reads h s d) (sym is) (all, whole, subst (λ (o : Option ℕ). IsPage all range.max own o) (sym agree) page)

pub next_explains : (config : Config) (records : List CallRecord) (i : ℕ) (r : CallRecord) (range : PageRange) (own rows front all : List Pair)
    (more next : Option ℕ) → (Reads (history_of records) r.time r.deed → ⊥) → r.deed ≡ Page range own more → rows ≡ own
    → IsRange (history_of records) r.time range.from range.hi all → IsPage all range.max front next → rows ≡ front
    → Explains config records i r (WrongNext more next)
next_explains config records i r range own rows front all more next wrong is same whole page agree =
    let here : IsPage all range.max own next = subst (λ (xs : List Pair). IsPage all range.max xs next) (sym agree ∙ same) page in (
      sym (ap next_of is),
      λ e. wrong (next_reads (history_of records) r.time range own all more next r.deed is whole here e),
      subst (λ (d : Deed). AreRightRows (history_of records) r.time d (rows_of d) next) (sym is) (all, whole, here),
    )

-- ---- other deeds

pub rows_read : (deed : Deed) → ReadsRows deed → ((lo hi : ℕ) (rows : List Pair) → deed ≡ Scan lo hi rows → ⊥)
    → ((range : PageRange) (rows : List Pair) (more : Option ℕ) → deed ≡ Page range rows more → ⊥) → ⊥
rows_read (Scan lo hi rows) reads scan page = scan lo hi rows refl
rows_read (Page range rows more) reads scan page = page range rows more refl
rows_read deed reads scan page = reads
