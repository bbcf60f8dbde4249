-- The texts of words, as they are read and written.
use Rattle.std.proofs.Common.{◌≡◌, ◌≢◌, ℕ, zero, suc, ◌+◌, ◌-◌, ◌<◌, ◌≤◌, List, [], ◌∷◌, ◌++◌}
use Rattle.std.proofs.Common.{length, map, take}
use Rattle.std.proofs.Common.{drop, get_or, codes, refl, ap, sym, ◌∙◌, arith, subst, append-nil, append_assoc}
use Rattle.std.proofs.Common.{lit<, Option, Some, None, Bool, false, MatchOption}
use Rattle.std.proofs.lemmas.List.{map_more, map-append, flat_map_more, get_or-map, length-map}
use Rattle.std.proofs.lemmas.List.{length-append, take_all}
use Rattle.std.proofs.lemmas.List.Concat.{flat_map-append}
use Rattle.std.specs.Borrow.{Bor}
use Rattle.std.specs.Fmt.{decimal}
use Rattle.clsm_model.specs.Value.{text}
use Rattle.std.specs.List.{position_or_len, join_with_byte}
use Rattle.clsm_model.specs.declared.record.CallRecord.{CallRecord}
use Rattle.clsm_model.specs.declared.record.Deed.{Deed}
use Rattle.clsm_model.specs.declared.record.Deed.TheVariants.{Put, Remove, Rmw, Get}
use Rattle.clsm_model.specs.declared.record.Deed.TheVariants.{Snapshot, Close, GetAt, Scan, Page, Batch}
use Rattle.smallvec.specs.SmallVec.{SmallVec}
use Rattle.clsm_text.specs.Found.{Finds}
use Rattle.clsm_text.specs.Line.{texts_of, words_of, IsComment, SaysWords}
use Rattle.clsm_text.specs.Number.{IsValue}
use Rattle.clsm_text.specs.Member.{is_equals, WritesNumber}
use Rattle.clsm_text.proofs.Readings.{nil_no_value, no_equals}
use Rattle.clsm_text.specs.Record.{WritesSeat, WritesRow, WriteRows}
use Rattle.clsm_text.specs.Record.{WritePage, SayDeed, Say}
use Rattle.clsm_audit.specs.declared.place.Moments.{Moments}
use Rattle.clsm_text.specs.Lines.{SayLine, SayTimed, WriteMoments}
use Rattle.clsm_text.specs.declared.timed.RecordLine.{RecordLine}
use Rattle.clsm_text.specs.Written.{row_text, shown_rows, spaced}
use Rattle.clsm_text.proofs.Zips.{zip_at, get_seam}

-- ---- rows

-- a text with no `=` is no row
pub no_row : (word : List ℕ) → position_or_len is_equals word ≡ length word →
    (row : ℕ × List ℕ) → ¬ WritesRow word row
no_row word far row writes = nil_no_value (subst IsValue (no_equals word far) writes.1.0)

-- what stands for a word where there is none
abbrev pub no_word : Bor (List ℕ)
no_word = record { ref_ptr = (0, 0); now = [] }

-- ---- the end of a page

-- the last two of a list
last_two : {A : Type 0} (xs : List A) (n : ℕ) (d : A) → length xs ≡ n + 2 →
    xs ≡ take n xs ++ (get_or xs n d ∷ get_or xs (suc n) d ∷ [])
last_two [] n d long = absurd (omega (arith, long))
last_two (x ∷ []) n d long = absurd (omega (arith, long))
last_two (x ∷ y ∷ []) zero d long = refl
last_two (x ∷ y ∷ []) (suc n) d long = absurd (omega (arith, long))
last_two (x ∷ y ∷ z ∷ xs) zero d long = absurd (omega (arith, long))
last_two (x ∷ y ∷ z ∷ xs) (suc n) d long =
    ap (λ (l : List _). x ∷ l) (last_two (y ∷ z ∷ xs) n d (omega (arith, long)))

-- a `more` that is the last word but one
pub more_found : (words : List (Bor (List ℕ))) (d : Bor (List ℕ)) → 2 ≤ length words →
    (get_or words (length words - 2) d).now ≡ codes "more" →
    texts_of words
    ≡ texts_of (take (length words - 2) words)
    ++ (codes "more" ∷ (get_or words (length words - 2 + 1) d).now ∷ [])
more_found words d two is =
    let next : suc (length words - 2) ≡ length words - 2 + 1 = omega arith in
    ap texts_of (last_two words (length words - 2) d (omega arith))
    ∙ map-append (λ (w : Bor (List ℕ)). w.now) (take (length words - 2) words) _
    ∙ ap (λ (m : List ℕ). texts_of (take (length words - 2) words)
    ++ (m ∷ (get_or words (suc (length words - 2)) d).now ∷ [])) is
    ∙ ap (λ i. texts_of (take (length words - 2) words)
    ++ (codes "more" ∷ (get_or words i d).now ∷ [])) next

-- where another word is the last but one
pub more_missing : (words : List (Bor (List ℕ))) (d : Bor (List ℕ)) →
    (get_or words (length words - 2) d).now ≢ codes "more" →
    (front : List (List ℕ)) (key : List ℕ) → texts_of words ≢ front ++ (codes "more" ∷ key ∷ [])
more_missing words d other front key same =
    let long : length (texts_of words) ≡ length words =
    length-map words (λ (w : Bor (List ℕ)). w.now) in
    let longer : length (texts_of words) ≡ length front + 2 =
    ap length same ∙ length-append front (codes "more" ∷ key ∷ []) in
    let place : length words - 2 ≡ length front = omega arith in
    let at : get_or (texts_of words) (length front) d.now ≡ codes "more" =
    ap (λ (l : List (List ℕ)). get_or l (length front) d.now) same
    ∙ get_seam front (codes "more") (key ∷ []) d.now in
    let is : get_or (texts_of words) (length front) d.now ≡ (get_or words (length front) d).now =
    get_or-map (λ (w : Bor (List ℕ)). w.now) words (length front) d d.now (omega arith) in
    other (rw place (sym is ∙ at))

-- two lists that end alike begin alike
same_front : (xs ys : List (List ℕ)) (a b c d : List ℕ) →
    xs ++ (a ∷ b ∷ []) ≡ ys ++ (c ∷ d ∷ []) → (xs ≡ ys) × (b ≡ d)
same_front [] [] a b c d same = (refl, cc)
same_front [] (y ∷ []) a b c d same = absurd (cc)
same_front [] (y ∷ z ∷ ys) a b c d same =
    absurd (omega (arith, ap length same, length-append ys (c ∷ d ∷ [])))
same_front (x ∷ []) [] a b c d same = absurd (cc)
same_front (x ∷ z ∷ xs) [] a b c d same =
    absurd (omega (arith, ap length same, length-append xs (a ∷ b ∷ [])))
same_front (x ∷ xs) (y ∷ ys) a b c d same =
    let head : x ≡ y = cc in
    let tail : xs ++ (a ∷ b ∷ []) ≡ ys ++ (c ∷ d ∷ []) = cc in
    let (fronts, ends) = same_front xs ys a b c d tail in (cc, ends)

-- words with a `more` write no page where what stands before it or behind it does not
pub no_page_rows : (words front : List (List ℕ)) (k : List ℕ) →
    words ≡ front ++ (codes "more" ∷ k ∷ []) →
    ((rows : List (ℕ × List ℕ)) (key : ℕ) → WriteRows front rows → ¬ WritesNumber k key) →
    (rows : List (ℕ × List ℕ)) (more : Option ℕ) → ¬ WritePage words rows more
no_page_rows words front k is refused rows None write =
    let inside : length front < length words =
    omega (arith, ap length is, length-append front (codes "more" ∷ k ∷ [])) in
    let (row, writes) = zip_at WritesRow words rows (length front) [] write inside in
    let at : get_or words (length front) [] ≡ codes "more" =
    ap (λ (l : List (List ℕ)). get_or l (length front) []) is
    ∙ get_seam front (codes "more") (k ∷ []) [] in
    no_row (codes "more") refl row (subst (λ (w : List ℕ). WritesRow w row) at writes)
no_page_rows words front k is refused rows (Some key) (others, l, same, write, number) =
    let (fronts, keys) =
    same_front front others (codes "more") k (codes "more") l (sym is ∙ same) in
    refused rows key (subst (λ (ws : List (List ℕ)). WriteRows ws rows) (sym fronts) write)
    (subst (λ (n : List ℕ). WritesNumber n key) (sym keys) number)

-- ---- the moments behind a record

-- the last three of a list
last_three : {A : Type 0} (xs : List A) (n : ℕ) (d : A) → length xs ≡ n + 3 →
    xs ≡ take n xs ++ (get_or xs n d ∷ get_or xs (suc n) d ∷ get_or xs (suc (suc n)) d ∷ [])
last_three [] n d long = absurd (omega (arith, long))
last_three (x ∷ []) n d long = absurd (omega (arith, long))
last_three (x ∷ y ∷ []) n d long = absurd (omega (arith, long))
last_three (x ∷ y ∷ z ∷ []) zero d long = refl
last_three (x ∷ y ∷ z ∷ []) (suc n) d long = absurd (omega (arith, long))
last_three (x ∷ y ∷ z ∷ w ∷ xs) zero d long = absurd (omega (arith, long))
last_three (x ∷ y ∷ z ∷ w ∷ xs) (suc n) d long =
    ap (λ (l : List _). x ∷ l) (last_three (y ∷ z ∷ w ∷ xs) n d (omega (arith, long)))

-- a `|` that is the last word but two
pub bar_found : (words : List (Bor (List ℕ))) (d : Bor (List ℕ)) → 3 ≤ length words →
    (get_or words (length words - 3) d).now ≡ codes "|" →
    texts_of words
    ≡ texts_of (take (length words - 3) words)
    ++ (codes "|" ∷ (get_or words (length words - 3 + 1) d).now ∷ (get_or words (length words - 3 + 2) d).now ∷ [])
bar_found words d three is =
    let place = length words - 3 in
    let next : suc place ≡ place + 1 = omega arith in
    let last : suc (suc place) ≡ place + 2 = omega arith in
    ap texts_of (last_three words place d (omega arith))
    ∙ map-append (λ (w : Bor (List ℕ)). w.now) (take place words) _
    ∙ ap (λ (m : List ℕ). texts_of (take place words)
    ++ (m ∷ (get_or words (suc place) d).now ∷ (get_or words (suc (suc place)) d).now ∷ [])) is
    ∙ ap (λ i. texts_of (take place words)
    ++ (codes "|" ∷ (get_or words i d).now ∷ (get_or words (suc (suc place)) d).now ∷ [])) next
    ∙ ap (λ i. texts_of (take place words)
    ++ (codes "|" ∷ (get_or words (place + 1) d).now ∷ (get_or words i d).now ∷ [])) last

-- where another word is the last but two
pub bar_missing : (words : List (Bor (List ℕ))) (d : Bor (List ℕ)) →
    (get_or words (length words - 3) d).now ≢ codes "|" →
    (front : List (List ℕ)) (b e : List ℕ) → texts_of words ≢ front ++ (codes "|" ∷ b ∷ e ∷ [])
bar_missing words d other front b e same =
    let long : length (texts_of words) ≡ length words =
    length-map words (λ (w : Bor (List ℕ)). w.now) in
    let longer : length (texts_of words) ≡ length front + 3 =
    ap length same ∙ length-append front (codes "|" ∷ b ∷ e ∷ []) in
    let place : length words - 3 ≡ length front = omega arith in
    let at : get_or (texts_of words) (length front) d.now ≡ codes "|" =
    ap (λ (l : List (List ℕ)). get_or l (length front) d.now) same
    ∙ get_seam front (codes "|") (b ∷ e ∷ []) d.now in
    let is : get_or (texts_of words) (length front) d.now ≡ (get_or words (length front) d).now =
    get_or-map (λ (w : Bor (List ℕ)). w.now) words (length front) d d.now (omega arith) in
    other (rw place (sym is ∙ at))

-- two lists with three more end alike and begin alike
same_behind : (xs ys : List (List ℕ)) (a b c d e f : List ℕ) →
    xs ++ (a ∷ b ∷ c ∷ []) ≡ ys ++ (d ∷ e ∷ f ∷ []) → (xs ≡ ys) × (b ≡ e) × (c ≡ f)
same_behind [] [] a b c d e f same = (refl, cc, cc)
same_behind [] (y ∷ ys) a b c d e f same =
    absurd (omega (arith, ap length same, length-append (y ∷ ys) (d ∷ e ∷ f ∷ [])))
same_behind (x ∷ xs) [] a b c d e f same =
    absurd (omega (arith, ap length same, length-append (x ∷ xs) (a ∷ b ∷ c ∷ [])))
same_behind (x ∷ xs) (y ∷ ys) a b c d e f same =
    let head : x ≡ y = cc in
    let tail : xs ++ (a ∷ b ∷ c ∷ []) ≡ ys ++ (d ∷ e ∷ f ∷ []) = cc in
    let (fronts, begins, ends) = same_behind xs ys a b c d e f tail in (cc, begins, ends)

-- words say no record with moments where what stands before the `|` or behind it does not
pub no_timed : (words front : List (List ℕ)) (b e : List ℕ) → words ≡ front ++ (codes "|" ∷ b ∷ e ∷ []) →
    ((r : CallRecord) (moments : Moments) → Say front r → ¬ WriteMoments b e moments) →
    (r : CallRecord) (moments : Moments) → ¬ SayTimed words r moments
no_timed words front b e is refused r moments says =
    let (fronts, begins, ends) =
    same_behind front says.front (codes "|") b e (codes "|") says.begin says.finish (sym is ∙ says.words_are) in
    refused r moments (subst (λ (ws : List (List ℕ)). Say ws r) (sym fronts) says.says)
    (subst (λ (w : List ℕ). WriteMoments w e moments) (sym begins)
    (subst (λ (w : List ℕ). WriteMoments says.begin w moments) (sym ends) says.write))

-- words that say neither a record with moments nor, where it may have none, one without
pub no_line : (timed : Bool) (words : List (List ℕ)) → ((x : CallRecord × Moments) → ¬ SayTimed words x.0 x.1) →
    (timed ≡ false → (r : CallRecord) → ¬ Say words r) → (line : RecordLine) → ¬ SayLine timed words line
no_line timed words none_timed none_plain line = by line.record line.moments where
  by : (r : CallRecord) (o : Option Moments) → ¬ MatchOption o ((timed ≡ false) × Say words r) (SayTimed words r)
  by r None says = none_plain says.0 r says.1
  by r (Some moments) says = none_timed (r, moments) says

-- ---- deeds and records

-- of two numbers one is less, and so they are not the same
apart : (a b : ℕ) → a < b → a ≢ b
apart a b less same = omega (arith, less, same)

-- words whose end writes no page say no deed of that name
page_only : (f h m : List ℕ) (words : List (List ℕ)) (deed : Deed) →
    ((page : List (ℕ × List ℕ) × Option ℕ) → ¬ WritePage words page.0 page.1) →
    ¬ SayDeed (codes "page" ∷ f ∷ h ∷ m ∷ words) deed
page_only f h m words (Page range rows more) refused says = refused (rows, more) says.1.3
page_only f h m words (Put key value) refused says =
    let letter : 97 ≡ 117 = ap (λ (l : List ℕ). get_or l 1 0) says.0 in
    absurd (apart 97 117 (lit< tt) letter)
page_only f h m words (Remove key) refused says =
    let letter : 112 ≡ 114 = ap (λ (l : List ℕ). get_or l 0 0) says.0 in
    absurd (apart 112 114 (lit< tt) letter)
page_only f h m words (Rmw key old change) refused says =
    let letter : 112 ≡ 114 = ap (λ (l : List ℕ). get_or l 0 0) says.0 in
    absurd (apart 112 114 (lit< tt) letter)
page_only f h m words (Get key reply) refused says =
    let letter : 112 ≡ 103 = ap (λ (l : List ℕ). get_or l 0 0) says.0 in
    absurd (apart 103 112 (lit< tt) (sym letter))
page_only f h m words Snapshot refused says =
    let letter : 112 ≡ 115 = ap (λ (l : List ℕ). get_or l 0 0) says.0 in
    absurd (apart 112 115 (lit< tt) letter)
page_only f h m words Close refused says =
    let letter : 112 ≡ 99 = ap (λ (l : List ℕ). get_or l 0 0) says.0 in
    absurd (apart 99 112 (lit< tt) (sym letter))
page_only f h m words (GetAt key reply) refused says =
    let letter : 112 ≡ 103 = ap (λ (l : List ℕ). get_or l 0 0) says.0 in
    absurd (apart 103 112 (lit< tt) (sym letter))
page_only f h m words (Scan lo hi rows) refused says =
    let letter : 112 ≡ 115 = ap (λ (l : List ℕ). get_or l 0 0) says.0 in
    absurd (apart 112 115 (lit< tt) letter)
page_only f h m words (Batch members) refused says =
    let letter : 112 ≡ 98 = ap (λ (l : List ℕ). get_or l 0 0) says.0 in
    absurd (apart 98 112 (lit< tt) (sym letter))

pub no_page : (words : List (Bor (List ℕ))) (deed : Deed) → 3 ≤ length words →
    ((page : List (ℕ × List ℕ) × Option ℕ) →
    ¬ WritePage (texts_of (take (length words - 3) (drop 3 words))) page.0 page.1) →
    ¬ SayDeed (codes "page" ∷ texts_of words) deed
no_page [] deed long refused = absurd (omega arith)
no_page (a ∷ []) deed long refused = absurd (omega arith)
no_page (a ∷ b ∷ []) deed long refused = absurd (omega arith)
no_page (a ∷ b ∷ c ∷ words) deed long refused =
    page_only a.now b.now c.now (texts_of words) deed
    (subst (λ (ws : List (Bor (List ℕ))). (page : List (ℕ × List ℕ) × Option ℕ) →
    ¬ WritePage (texts_of ws) page.0 page.1)
    (take_all (length (a ∷ b ∷ c ∷ words) - 3) words (omega arith)) refused)

-- the words of a record
pub say_from : (words : List (Bor (List ℕ))) (d : Bor (List ℕ)) (r : CallRecord) →
    2 ≤ length words →
    WritesSeat (get_or words 0 d).now r.seat → WritesNumber (get_or words 1 d).now r.time →
    SayDeed (texts_of (take (length words - 2) (drop 2 words))) r.deed → Say (texts_of words) r
say_from [] d r long seat time deed = absurd (omega arith)
say_from (a ∷ []) d r long seat time deed = absurd (omega arith)
say_from (a ∷ b ∷ words) d r long seat time deed = (
  seat,
  time,
  subst (λ (ws : List (Bor (List ℕ))). SayDeed (texts_of ws) r.deed)
      (take_all (length (a ∷ b ∷ words) - 2) words (omega arith)) deed,
)

-- ---- written words

-- words behind the first one
pub joined : (word : List ℕ) (words : List (List ℕ)) →
    join_with_byte 32 (word ∷ words) ≡ word ++ spaced words
joined word [] = sym (append-nil word)
joined word (next ∷ words) = ap (λ (end : List ℕ). word ++ (32 ∷ end)) (joined next words)

-- the same of words in two parts
pub joined_two : (word : List ℕ) (words more : List (List ℕ)) →
    join_with_byte 32 (word ∷ (words ++ more)) ≡ word ++ (spaced words ++ spaced more)
joined_two word words more =
    joined word (words ++ more)
    ∙ ap (λ (end : List ℕ). word ++ end) (flat_map-append (λ (w : List ℕ). 32 ∷ w) words more)

-- one more word is written
pub spaced_more : {A : Type 0} (text_of : A → List ℕ) (xs : List A) (i : ℕ) (d : A) →
    i < length xs →
    spaced (map text_of (take i xs)) ++ (32 ∷ text_of (get_or xs i d))
    ≡ spaced (map text_of (take (i + 1) xs))
spaced_more text_of xs i d inside =
    flat_map_more (λ (w : List ℕ). 32 ∷ w) [] (map text_of (take i xs)) (text_of (get_or xs i d))
    ∙ ap (λ (rs : List (List ℕ)). spaced rs) (sym (map_more text_of xs i d inside))

-- rows are shown, the first and then the others
pub shown_some : (rows : List (ℕ × List ℕ)) (first : ℕ × List ℕ) (others : List (ℕ × List ℕ)) →
    rows ≡ first ∷ others →
    decimal first.0 ++ (61 ∷ (text first.1 ++ spaced (map row_text others))) ≡ shown_rows rows
shown_some rows first others is =
    sym
    (ap shown_rows is ∙ joined (row_text first) (map row_text others)
    ∙ append_assoc (decimal first.0) (61 ∷ text first.1) (spaced (map row_text others)))

-- ---- lines

-- words that say nothing make the line bad
pub says_none : {A : Type 0} (Says : List (List ℕ) → A → Type 0) (line : List ℕ) (words : SmallVec (Bor (List ℕ))) (slice : List (Bor (List ℕ)))
    → SaysWords line (Some words) → slice ≡ words.items → Finds (Says (texts_of slice)) None
    → (¬ IsComment (words_of line)) × ((x : A) → ¬ Says (words_of line) x)
says_none {A} Says line words slice says same found =
    let is : texts_of slice ≡ words_of line = ap texts_of same ∙ says.1 in
    (says.0, subst (λ (ws : List (List ℕ)). (x : A) → ¬ Says ws x) is found)
