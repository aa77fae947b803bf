-- Text with backslashes stands for itself: it opens no inline, no HTML, and begins no block and no list item.
use Rattle.std.proofs.Common.{◌≡◌, ℕ, zero, suc, ◌+◌, Bool, true, false, cond, List, [], ◌∷◌, ◌++◌, length, get_or}
use Rattle.std.proofs.Common.{drop, codes, refl, sym, ap, ◌∙◌, ⊎_elim, add-one, ◌⊎◌, ◌-◌, ◌<◌, arith, subst, inl, inr}
use Rattle.std.proofs.Common.{Some, below_more, lit<}
use Rattle.std.specs.Prelude.{◌==◌, ◌&&◌, ◌||◌, not, nat_eq, slice_index, nat_lt, encode_utf8_all, take_while}
use Rattle.std.specs.List.{starts_with, prefix_len}
use Rattle.std.specs.Char.{is_ascii_punctuation, is_ascii_alphabetic, is_ascii_digit}
use Rattle.std.proofs.lemmas.Bool.{or_parts, or_from, or_left, or_right, not_from_false, not_from_true, cases_Bool}
use Rattle.std.proofs.lemmas.Bool.{and_left, and_right, and_cases, false≢true, and_from, cases_lt, and_parts, cond-true}
use Rattle.std.proofs.lemmas.Bool.{cond-false, false_from_ne_true, not-false}
use Rattle.std.proofs.lemmas.Bool.Decides.{Decides-eqb, nat_tests}
use Rattle.std.proofs.lemmas.Slice.Eq.{starts_is}
use Rattle.htmd_lexical.specs.Characters.{backslash, less_than_sign, question_mark, slash, exclamation_mark, space}
use Rattle.htmd_lexical.specs.Characters.{full_stop, number_sign, is_one_of}
use Rattle.htmd_text.specs.EscapedPlaces.{with_backslashes, is_always_escaped, is_html_opener, opens_html, begins_block}
use Rattle.htmd_text.specs.EscapedPlaces.{numbered_item_dot, is_place, is_escaped, escaped_markdown}
use Rattle.htmd_text.specs.PlainText.{each_bare, begins_no_inline, begins_no_html, follows_no_html, begins_item}
use Rattle.htmd_text.proofs.EscapeKindsLemmas.{marked_is_punctuation, unmarked_is_no_backslash, dot_at, place_if}
use Rattle.std.specs.Str.{chars}
use Rattle.std.proofs.lemmas.List.{get_or-drop, get_or_past, length-drop}
use Rattle.std.proofs.lemmas.List.Sums.{prefix_len_passes, prefix_len_is, take_while-cons}
use Rattle.std.proofs.lemmas.Str.{encode_ascii}
use Rattle.htmd_text.specs.ListMarkers.{is_numeric, number_signs, is_atx_heading, numerals_len, dots_len}
use Rattle.htmd_text.specs.ListMarkers.{ordered_item_dot}
use Rattle.htmd_text.proofs.ListMarkersLemmas.{numeric-ascii}

pub bare_first : (passes : List ℕ → Bool) (b : ℕ) (t : List ℕ) → (b == backslash) ≡ false
    → passes (b ∷ t) ≡ true
    → each_bare passes t ≡ true → each_bare passes (b ∷ t) ≡ true
bare_first passes b [] other here rest = here
bare_first passes b (c ∷ t) other here rest = rw (other, here) rest

pub escaped_first : (passes : List ℕ → Bool) (b : ℕ) (t : List ℕ) → is_ascii_punctuation b ≡ true
    → each_bare passes t ≡ true → each_bare passes (backslash ∷ b ∷ t) ≡ true
escaped_first passes b t here rest = rw here rest

pub one_more : (passes : List ℕ → Bool) (m : Bool) (b : ℕ) (t : List ℕ)
    → (m ≡ true → is_ascii_punctuation b ≡ true)
    → (m ≡ false → (b == backslash) ≡ false) → (m ≡ false → passes (b ∷ t) ≡ true)
    → each_bare passes t ≡ true
    → each_bare passes (cond m (backslash ∷ b ∷ t) (b ∷ t)) ≡ true
one_more passes true b t marked plain here rest = escaped_first passes b t (marked refl) rest
one_more passes false b t marked plain here rest = bare_first passes b t (plain refl) (here refl) rest

pub tail_part : (w : List ℕ) (k b : ℕ) (s : List ℕ) → b ∷ s ≡ drop k w
    → (s ≡ drop (suc k) w) × (b ≡ get_or w k 0)
tail_part [] zero b s e = absurd (cc)
tail_part [] (suc k) b s e = absurd (cc)
tail_part (x ∷ w) zero b s e = (cc, cc)
tail_part (x ∷ w) (suc k) b s e = tail_part w k b s e

-- if what stands bare passes, each of them does
pub each_bare-escaped : (passes : List ℕ → Bool) (w : List ℕ) (k : ℕ) (s : List ℕ) → s ≡ drop k w
    → ((i b : ℕ) (t : List ℕ) → b ∷ t ≡ drop i w → is_escaped w i ≡ false
    → passes (b ∷ with_backslashes (is_escaped w) (suc i) t) ≡ true)
    → each_bare passes (with_backslashes (is_escaped w) k s) ≡ true
each_bare-escaped passes w k [] part bare = refl
each_bare-escaped passes w k (b ∷ s) part bare =
    let parts = tail_part w k b s part in
    one_more passes (is_escaped w k) b (with_backslashes (is_escaped w) (suc k) s)
    (λ m. ap is_ascii_punctuation parts.1 ∙ marked_is_punctuation w k m)
    (λ m. ap (λ x. x == backslash) parts.1 ∙ unmarked_is_no_backslash w k m)
    (λ m. bare k b s part m)
    (each_bare-escaped passes w (suc k) s parts.0 bare)

unmarked_parts : (w : List ℕ) (i : ℕ) → is_escaped w i ≡ false
    → (is_always_escaped (slice_index w i) ≡ false)
    × (is_html_opener w i ≡ false)
unmarked_parts w i e =
    let special = is_always_escaped (slice_index w i) in
    let html = is_html_opener w i in
    let begins = (i == 0) && begins_block w in
    or_parts special html (or_parts (special || html) begins
    (or_parts (special || html || begins) (is_place (numbered_item_dot w) i) e).0).0

pub no_inline : (w : List ℕ) → each_bare begins_no_inline (escaped_markdown w) ≡ true
no_inline w = each_bare-escaped begins_no_inline w 0 w refl
    (λ i b t part m. not_from_false (is_always_escaped b) (ap is_always_escaped (tail_part w i b t part).1
    ∙ (unmarked_parts w i m).0))

-- ---- what follows a bare `<`

letter_first : (m : Bool) (c : ℕ) (t : List ℕ) → is_ascii_alphabetic c ≡ false
    → is_ascii_alphabetic (slice_index (cond m (backslash ∷ c ∷ t) (c ∷ t)) 0) ≡ false
letter_first true c t other = refl
letter_first false c t other = other

no_letter : (marked : ℕ → Bool) (k : ℕ) (t : List ℕ) → is_ascii_alphabetic (slice_index t 0) ≡ false
    → is_ascii_alphabetic (slice_index (with_backslashes marked k t) 0) ≡ false
no_letter marked k [] other = refl
no_letter marked k (c ∷ t) other = letter_first (marked k) c (with_backslashes marked (suc k) t) other

cdata_marked : (marked : ℕ → Bool) (k : ℕ) (r : List ℕ) → marked k ≡ true → marked (suc k) ≡ false
    → marked (suc (suc k)) ≡ false → marked (suc (suc (suc k))) ≡ false
    → marked (suc (suc (suc (suc k)))) ≡ false
    → marked (suc (suc (suc (suc (suc k))))) ≡ false → marked (suc (suc (suc (suc (suc (suc k)))))) ≡ true
    → starts_with nat_eq (with_backslashes marked k (codes "[CDATA[" ++ r)) (codes "\\[CDATA\\[") ≡ true
cdata_marked marked k r m0 m1 m2 m3 m4 m5 m6 = rw (m0, m1, m2, m3, m4, m5, m6) refl

bracket_marked : (w : List ℕ) (k : ℕ) → get_or w k 0 ≡ 0x5B → is_escaped w k ≡ true
bracket_marked w k here = rw here refl

pub letter_unmarked : (w : List ℕ) (k c : ℕ) → c ≡ get_or w k 0 → is_ascii_punctuation c ≡ false
    → is_escaped w k ≡ false
letter_unmarked w k c here other =
    ⊎_elim (λ m. absurd (false≢true (sym other ∙ ap is_ascii_punctuation here ∙ marked_is_punctuation w k m)))
    (λ m. m)
    (cases_Bool (is_escaped w k))

cdata_escaped : (w : List ℕ) (k : ℕ) (r : List ℕ) → codes "[CDATA[" ++ r ≡ drop k w
    → starts_with nat_eq (with_backslashes (is_escaped w) k (codes "[CDATA[" ++ r)) (codes "\\[CDATA\\[") ≡ true
cdata_escaped w k r part =
    let p0 = tail_part w k _ _ part in
    let p1 = tail_part w (suc k) _ _ p0.0 in
    let p2 = tail_part w (suc (suc k)) _ _ p1.0 in
    let p3 = tail_part w (suc (suc (suc k))) _ _ p2.0 in
    let p4 = tail_part w (suc (suc (suc (suc k)))) _ _ p3.0 in
    let p5 = tail_part w (suc (suc (suc (suc (suc k))))) _ _ p4.0 in
    let p6 = tail_part w (suc (suc (suc (suc (suc (suc k)))))) _ _ p5.0 in
    cdata_marked (is_escaped w) k r (bracket_marked w k (sym p0.1)) (letter_unmarked w _ _ p1.1 refl)
    (letter_unmarked w _ _ p2.1 refl) (letter_unmarked w _ _ p3.1 refl) (letter_unmarked w _ _ p4.1 refl)
    (letter_unmarked w _ _ p5.1 refl) (bracket_marked w _ (sym p6.1))

cdata_stays : (w : List ℕ) (k : ℕ) (t : List ℕ) → t ≡ drop k w
    → starts_with nat_eq t (codes "[CDATA[") ≡ true
    → starts_with nat_eq (with_backslashes (is_escaped w) k t) (codes "\\[CDATA\\[") ≡ true
cdata_stays w k t part begins =
    let whole = (starts_is Decides-eqb t (codes "[CDATA[") true (sym begins)).0 refl in
    rw whole (cdata_escaped w k (drop (length (codes "[CDATA[")) t) (sym whole ∙ part))

no_html_first : (w : List ℕ) (k c : ℕ) (t : List ℕ) (m : Bool) → t ≡ drop (suc k) w
    → opens_html (c ∷ t) ≡ false
    → follows_no_html (cond m (backslash ∷ c ∷ with_backslashes (is_escaped w) (suc k) t)
    (c ∷ with_backslashes (is_escaped w) (suc k) t)) ≡ true
no_html_first w k c t true part closed = refl
no_html_first w k c t false part closed =
    let out = with_backslashes (is_escaped w) (suc k) t in
    let letter = is_ascii_alphabetic c in
    let instruction = c == question_mark in
    let end_tag = (c == slash) && is_ascii_alphabetic (slice_index t 0) in
    let declaration = (c == exclamation_mark) && not (starts_with nat_eq t (codes "[CDATA[")) in
    let three = or_parts (letter || instruction || end_tag) declaration closed in
    let two = or_parts (letter || instruction) end_tag three.0 in
    let no_end_tag : ((c == slash) && is_ascii_alphabetic (slice_index out 0)) ≡ false =
    ⊎_elim (and_left (c == slash) _) (λ e. and_right (c == slash) _ (no_letter (is_escaped w) (suc k) t e))
    (and_cases (c == slash) (is_ascii_alphabetic (slice_index t 0)) two.1) in
    let no_declaration : ((c == exclamation_mark) && not (starts_with nat_eq out (codes "\\[CDATA\\["))) ≡ false =
    ⊎_elim (and_left (c == exclamation_mark) _)
    (λ e. and_right (c == exclamation_mark) _ (not_from_true _ (cdata_stays w (suc k) t part (not-false _ e))))
    (and_cases (c == exclamation_mark) (not (starts_with nat_eq t (codes "[CDATA["))) three.1) in
    not_from_false _ (or_from _ _ (or_from _ _ two.0 no_end_tag) no_declaration)

follows : (w : List ℕ) (k : ℕ) (t : List ℕ) → t ≡ drop k w → opens_html t ≡ false
    → follows_no_html (with_backslashes (is_escaped w) k t) ≡ true
follows w k [] part closed = refl
follows w k (c ∷ t) part closed = no_html_first w k c t (is_escaped w k) (tail_part w k c t part).0 closed

bare_less : (w : List ℕ) (i b : ℕ) (t : List ℕ) → b ∷ t ≡ drop i w → is_escaped w i ≡ false
    → begins_no_html (b ∷ with_backslashes (is_escaped w) (suc i) t) ≡ true
bare_less w i b t part m =
    let parts = tail_part w i b t part in
    let behind : t ≡ drop (i + 1) w = rw add-one parts.0 in
    let mark : ((b == less_than_sign) && opens_html t) ≡ false = rw (parts.1, behind) (unmarked_parts w i m).1 in
    ⊎_elim (λ other. or_left _ _ (not_from_false (b == less_than_sign) other))
    (λ closed. or_right _ _ (follows w (suc i) t parts.0 closed))
    (and_cases (b == less_than_sign) (opens_html t) mark)

pub no_html : (w : List ℕ) → each_bare begins_no_html (escaped_markdown w) ≡ true
no_html w = each_bare-escaped begins_no_html w 0 w refl (bare_less w)

-- ---- where nothing below n is escaped, the byte at n stays or a backslash stands there

first_or_backslash : (m : Bool) (b : ℕ) (t : List ℕ)
    → (get_or (cond m (backslash ∷ b ∷ t) (b ∷ t)) 0 0 ≡ b)
    ⊎ (get_or (cond m (backslash ∷ b ∷ t) (b ∷ t)) 0 0 ≡ backslash)
first_or_backslash true b t = inr refl
first_or_backslash false b t = inl refl

pub stays_or_backslash : (marked : ℕ → Bool) (k : ℕ) (s : List ℕ) (n : ℕ)
    → ((i : ℕ) → i < n → marked (k + i) ≡ false)
    → (get_or (with_backslashes marked k s) n 0 ≡ get_or s n 0)
    ⊎ (get_or (with_backslashes marked k s) n 0 ≡ backslash)
stays_or_backslash marked k [] n plain = inl refl
stays_or_backslash marked k (b ∷ s) zero plain = first_or_backslash (marked k) b (with_backslashes marked (suc k) s)
stays_or_backslash marked k (b ∷ s) (suc n) plain =
    let here : marked k ≡ false = ap marked (omega arith) ∙ plain 0 (omega arith) in
    rw here (stays_or_backslash marked (suc k) s n (λ i lt. ap marked (omega arith) ∙ plain (suc i) (omega arith)))

-- ---- a run whose characters are never escaped stays

front_head : (p : ℕ → Bool) (m : Bool) (b : ℕ) (t s : List ℕ) → p backslash ≡ false
    → (p b ≡ true → m ≡ false)
    → prefix_len p t ≡ prefix_len p s
    → prefix_len p (cond m (backslash ∷ b ∷ t) (b ∷ t)) ≡ prefix_len p (b ∷ s)
front_head p true b t s other plain rest =
    let stops : p b ≡ false = ⊎_elim (λ e. absurd (cc (plain e))) (λ e. e) (cases_Bool (p b)) in
    rw (other, stops) refl
front_head p false b t s other plain rest = ap (λ n. cond (p b) (1 + n) 0) rest

pub front_len : (p : ℕ → Bool) (marked : ℕ → Bool) (k : ℕ) (s : List ℕ) → p backslash ≡ false
    → ((i : ℕ) → i < length s → p (get_or s i 0) ≡ true → marked (k + i) ≡ false)
    → prefix_len p (with_backslashes marked k s) ≡ prefix_len p s
front_len p marked k [] other plain = refl
front_len p marked k (b ∷ s) other plain =
    front_head p (marked k) b (with_backslashes marked (suc k) s) s other (λ e. ap marked (omega arith)
    ∙ plain 0 (omega arith) e)
    (front_len p marked (suc k) s other (λ i lt e. ap marked (omega arith) ∙ plain (suc i) (omega arith) e))

-- ---- the first line does not begin a block

not_spaced : (marked : ℕ → Bool) (k : ℕ) (s : List ℕ) → (slice_index s 0 == space) ≡ false
    → (slice_index (with_backslashes marked k s) 0 == space) ≡ false
not_spaced marked k s other =
    ⊎_elim (λ e. ap (λ x. x == space) e ∙ other) (λ e. rw e refl)
    (stays_or_backslash marked k s 0 (λ i lt. absurd (omega arith)))

at_start : (w : List ℕ) → is_escaped w 0 ≡ false → begins_block w ≡ false
at_start w e =
    let special = is_always_escaped (slice_index w 0) in
    let html = is_html_opener w 0 in
    (or_parts (special || html) (begins_block w)
    (or_parts (special || html || begins_block w) (is_place (numbered_item_dot w) 0) e).0).1

sign_unmarked : (w : List ℕ) (i : ℕ) → 0 < i → (get_or w i 0 == number_sign) ≡ true
    → is_escaped w i ≡ false
sign_unmarked w i later sign =
    let here : get_or w i 0 ≡ number_sign = grind (arith, nat_tests) in
    let special : is_always_escaped (slice_index w i) ≡ false = rw here refl in
    let html : is_html_opener w i ≡ false = rw here refl in
    let begins : ((i == 0) && begins_block w) ≡ false =
    and_left (i == 0) (begins_block w) (grind (arith, nat_tests)) in
    let dot : is_place (numbered_item_dot w) i ≡ false =
    false_from_ne_true (is_place (numbered_item_dot w) i)
    (λ e. let stop = dot_at w i (place_if (is_ascii_digit (slice_index w 0)) (ordered_item_dot w) i e) in
    omega arith) in
    or_from _ _ (or_from _ _ (or_from _ _ special html) begins) dot

sign_at : (w : List ℕ) → is_escaped w 0 ≡ false → (i : ℕ) → (get_or w i 0 == number_sign) ≡ true
    → is_escaped w i ≡ false
sign_at w start zero sign = start
sign_at w start (suc i) sign = sign_unmarked w (suc i) (omega arith) sign

no_heading : (w : List ℕ) → is_escaped w 0 ≡ false → is_atx_heading w ≡ false
    → is_atx_heading (escaped_markdown w) ≡ false
no_heading w start closed =
    let p : ℕ → Bool = λ b. b == number_sign in
    let from_start : (i : ℕ) → is_escaped w (0 + i) ≡ is_escaped w i = λ i. ap (is_escaped w) (omega arith) in
    let len : number_signs (escaped_markdown w) ≡ number_signs w =
    front_len p (is_escaped w) 0 w refl (λ i lt e. from_start i ∙ sign_at w start i e) in
    let next = stays_or_backslash (is_escaped w) 0 w (number_signs w) (λ i lt. from_start i
    ∙ sign_at w start i (prefix_len_passes p w i 0 lt)) in
    let at_next : (x : ℕ) → (x ≡ get_or w (number_signs w) 0) ⊎ (x ≡ backslash)
    → (nat_lt 0 (number_signs w) && (x == space)) ≡ false =
    λ x. ⊎_elim (λ e. ap (λ y. nat_lt 0 (number_signs w) && (y == space)) e ∙ closed)
    (λ e. and_right (nat_lt 0 (number_signs w)) (x == space) (ap (λ y. y == space) e)) in
    subst (λ (n : ℕ). (nat_lt 0 n && (slice_index (escaped_markdown w) n == space)) ≡ false) (sym len)
    (at_next (get_or (escaped_markdown w) (number_signs w) 0) next)

no_heading_of : (w : List ℕ) → begins_block w ≡ false → is_atx_heading w ≡ false
no_heading_of [] plain = refl
no_heading_of (b ∷ s) plain =
    (or_parts (is_one_of (codes "=~>") b || (is_one_of (codes "-+") b && (slice_index s 0 == space)))
    (is_atx_heading (b ∷ s)) plain).1

no_block_first : (w : List ℕ) (b : ℕ) (s : List ℕ)
    → is_atx_heading (b ∷ with_backslashes (is_escaped w) 1 s) ≡ false
    → begins_block (b ∷ s) ≡ false → begins_block (b ∷ with_backslashes (is_escaped w) 1 s) ≡ false
no_block_first w b s closed plain =
    let always = is_one_of (codes "=~>") b in
    let bullet = is_one_of (codes "-+") b in
    let parts = or_parts always (bullet && (slice_index s 0 == space))
    (or_parts (always || (bullet && (slice_index s 0 == space))) (is_atx_heading (b ∷ s)) plain).0 in
    let no_bullet : (bullet && (slice_index (with_backslashes (is_escaped w) 1 s) 0 == space)) ≡ false =
    ⊎_elim (and_left bullet _) (λ e. and_right bullet _ (not_spaced (is_escaped w) 1 s e))
    (and_cases bullet (slice_index s 0 == space) parts.1) in
    or_from _ _ (or_from _ _ parts.0 no_bullet) closed

no_block_of : (w t : List ℕ) → w ≡ t → begins_block (with_backslashes (is_escaped w) 0 t) ≡ false
no_block_of w [] whole = refl
no_block_of w (b ∷ s) whole =
    ⊎_elim
    (λ here. rw here refl)
    (λ start.
    let plain = at_start w start in
    let same : escaped_markdown w ≡ b ∷ with_backslashes (is_escaped w) 1 s =
    ap (with_backslashes (is_escaped w) 0) whole
    ∙ rw start refl in
    let heading : is_atx_heading w ≡ false = no_heading_of w plain in
    let closed = ap is_atx_heading (sym same) ∙ no_heading w start heading in
    rw start (no_block_first w b s closed (ap begins_block (sym whole) ∙ plain)))
    (cases_Bool (is_escaped w 0))

pub no_block : (w : List ℕ) → begins_block (escaped_markdown w) ≡ false
no_block w = no_block_of w w refl

-- ---- it does not begin an ordered list item

pub chars_ascii : (b : ℕ) (s : List ℕ) → b < 128 → chars (b ∷ s) ≡ b ∷ chars s
unfolding chars
chars_ascii b [] small = let test : nat_lt b 128 ≡ true = grind (arith, nat_tests) in rw test refl
chars_ascii b (c ∷ s) small = let test : nat_lt b 128 ≡ true = grind (arith, nat_tests) in rw test refl

digit_is_numeric : (b : ℕ) → is_ascii_digit b ≡ true → is_numeric b ≡ true
digit_is_numeric b e = let small : b < 128 = grind (arith, nat_tests) in numeric-ascii b small ∙ e

numerals_more : (b : ℕ) (s : List ℕ) → is_ascii_digit b ≡ true
    → numerals_len (b ∷ s) ≡ suc (numerals_len s)
numerals_more b s e =
    let small : b < 128 = grind (arith, nat_tests) in
    let first : take_while is_numeric (b ∷ chars s) ≡ b ∷ take_while is_numeric (chars s) =
    take_while-cons is_numeric b (chars s) ∙ cond-true (is_numeric b) _ _ (digit_is_numeric b e) in
    ap (λ cs. length (encode_utf8_all (take_while is_numeric cs))) (chars_ascii b s small)
    ∙ ap (λ l. length (encode_utf8_all l)) first
    ∙ ap (λ l. length (l ++ encode_utf8_all (take_while is_numeric (chars s)))) (encode_ascii b small)

numerals_none : (b : ℕ) (s : List ℕ) → b ≡ full_stop → numerals_len (b ∷ s) ≡ 0
numerals_none b s e =
    let none : is_numeric b ≡ false = ap is_numeric e ∙ numeric-ascii full_stop (lit< tt) in
    ap (λ cs. length (encode_utf8_all (take_while is_numeric cs))) (chars_ascii b s (omega arith))
    ∙ ap (λ l. length (encode_utf8_all l))
    (take_while-cons is_numeric b (chars s) ∙ cond-false (is_numeric b) _ _ none)

-- as many numerals as digits, if a dot stands after the digits
numerals_run : (s : List ℕ) → get_or s (prefix_len is_ascii_digit s) 0 ≡ full_stop
    → numerals_len s ≡ prefix_len is_ascii_digit s
numerals_run [] e = absurd (omega arith)
numerals_run (b ∷ s) e =
    ⊎_elim
    (λ digit.
    let len : prefix_len is_ascii_digit (b ∷ s) ≡ suc (prefix_len is_ascii_digit s) =
    cond-true (is_ascii_digit b) _ _ digit ∙ omega arith in
    let rest : get_or s (prefix_len is_ascii_digit s) 0 ≡ full_stop = ap (λ n. get_or (b ∷ s) n 0) (sym len)
    ∙ e in
    numerals_more b s digit ∙ ap suc (numerals_run s rest) ∙ sym len)
    (λ other.
    let len : prefix_len is_ascii_digit (b ∷ s) ≡ 0 = cond-false (is_ascii_digit b) _ _ other in
    let stop : b ≡ full_stop = ap (λ n. get_or (b ∷ s) n 0) (sym len) ∙ e in
    numerals_none b s stop ∙ sym len)
    (cases_Bool (is_ascii_digit b))

marked_shows : (marked : ℕ → Bool) (k : ℕ) (s : List ℕ) (n : ℕ) → n < length s
    → ((i : ℕ) → i < n → marked (k + i) ≡ false) → marked (k + n) ≡ true
    → get_or (with_backslashes marked k s) n 0
    ≡ backslash
marked_shows marked k [] n lt plain here = absurd (omega arith)
marked_shows marked k (b ∷ s) zero lt plain here =
    let now : marked k ≡ true = ap marked (omega arith) ∙ here in
    rw now refl
marked_shows marked k (b ∷ s) (suc n) lt plain here =
    let first : marked k ≡ false = ap marked (omega arith) ∙ plain 0 (omega arith) in
    rw first (marked_shows marked (suc k) s n (omega arith) (λ i le. ap marked (omega arith)
    ∙ plain (suc i) (omega arith)) (ap marked (omega arith) ∙ here))

digit_unmarked : (w : List ℕ) (i : ℕ) → is_ascii_digit (get_or w i 0) ≡ true → is_escaped w i ≡ false
digit_unmarked w i digit = letter_unmarked w i (get_or w i 0) refl (grind (arith, nat_tests))

one_dot : (w : List ℕ) (d : ℕ) → d < length w → get_or w d 0 ≡ full_stop → get_or w (d + 1) 0 ≡ space
    → prefix_len (λ b. b == full_stop) (drop d w) ≡ 1
one_dot w d within here next =
    let at : (k : ℕ) → get_or (drop d w) k 0 ≡ get_or w (d + k) 0 = λ k. get_or-drop d w k 0 in
    let p : ℕ → Bool = λ b. b == full_stop in
    prefix_len_is p (drop d w) 1 0 (omega (arith, length-drop d w))
    (λ k lt. ap p (at k ∙ ap (λ n. get_or w n 0) (omega arith) ∙ here))
    (λ _. ap p (at 1 ∙ next))

-- digits, a dot and a space: the dot is escaped
item_marked : (w : List ℕ) (d : ℕ) → d ≡ prefix_len is_ascii_digit w → 0 < d → d < length w
    → get_or w d 0 ≡ full_stop
    → get_or w (d + 1) 0 ≡ space → is_escaped w d ≡ true
item_marked w d e some within here next =
    let run : numerals_len w ≡ d = numerals_run w (ap (λ n. get_or w n 0) (sym e) ∙ here) ∙ sym e in
    let dots : dots_len w ≡ 1 = ap (λ n. prefix_len (λ b. b == full_stop) (drop n w)) run
    ∙ one_dot w d within here next in
    let first : is_ascii_digit (slice_index w 0) ≡ true = prefix_len_passes is_ascii_digit w 0 0 (omega arith) in
    let numerals : nat_lt 0 (numerals_len w) ≡ true = grind (arith, nat_tests) in
    let dot : nat_lt 0 (dots_len w) ≡ true = grind (arith, nat_tests) in
    let behind : (slice_index w (numerals_len w + dots_len w) == space) ≡ true =
    ap (λ n. slice_index w n == space) (omega arith) ∙ ap (λ x. x == space) next in
    let found : ordered_item_dot w ≡ Some (numerals_len w + dots_len w - 1) =
    cond-true _ _ _ (and_from _ _ (and_from _ _ numerals dot) behind) in
    let marked : numbered_item_dot w ≡ Some (numerals_len w + dots_len w - 1) =
    cond-true (is_ascii_digit (slice_index w 0)) _ _ first ∙ found in
    let place : (d == numerals_len w + dots_len w - 1) ≡ true = grind (arith, nat_tests) in
    or_right _ _ (ap (λ o. is_place o d) marked ∙ place)

pub no_item : (w : List ℕ) → begins_item (escaped_markdown w) ≡ false
no_item w = false_from_ne_true (begins_item (escaped_markdown w)) (λ e.
    let d = prefix_len is_ascii_digit w in
    let from_start : (i : ℕ) → is_escaped w (0 + i) ≡ is_escaped w i = λ i. ap (is_escaped w) (omega arith) in
    let len : prefix_len is_ascii_digit (escaped_markdown w) ≡ d = front_len is_ascii_digit (is_escaped w) 0 w refl
    (λ i lt digit. from_start i ∙ digit_unmarked w i digit) in
    let test = subst (λ (n : ℕ). (nat_lt 0 n && (slice_index (escaped_markdown w) n == full_stop)
    && (slice_index (escaped_markdown w) (n + 1) == space)) ≡ true) len e in
    let two = and_parts (nat_lt 0 d && (slice_index (escaped_markdown w) d == full_stop)) _ test in
    let one = and_parts (nat_lt 0 d) _ two.0 in
    let some : 0 < d = grind (arith, nat_tests, one.0) in
    let dot : get_or (escaped_markdown w) d 0 ≡ full_stop = grind (arith, nat_tests, one.1) in
    let gap : get_or (escaped_markdown w) (d + 1) 0 ≡ space = grind (arith, nat_tests, two.1) in
    let digits : (i : ℕ) → i < d → is_escaped w (0 + i) ≡ false = λ i lt. from_start i
    ∙ digit_unmarked w i (prefix_len_passes is_ascii_digit w i 0 lt) in
    let here : get_or w d 0 ≡ full_stop = ⊎_elim (λ same. sym same ∙ dot) (λ mark. absurd (omega arith))
    (stays_or_backslash (is_escaped w) 0 w d digits) in
    let within : d < length w = ⊎_elim (λ lt. lt) (λ past. absurd (omega (arith, get_or_past w d 0 past)))
    (cases_lt d (length w)) in
    let plain : is_escaped w (0 + d) ≡ false =
    false_from_ne_true _ (λ m. absurd (omega (arith, marked_shows (is_escaped w) 0 w d within digits m))) in
    let next : get_or w (d + 1) 0 ≡ space = ⊎_elim (λ same. sym same ∙ gap) (λ mark. absurd (omega arith))
    (stays_or_backslash (is_escaped w) 0 w (d + 1) (below_more (λ i. is_escaped w (0 + i) ≡ false) d digits plain))
    in
    absurd (cc (item_marked w d refl some within here next, from_start d)))
