-- A text that passes the test is written as it is, without its first space or with it.
use Rattle.std.proofs.Common.{◌≡◌, ℕ, Bool, true, false, cond, List, [], ◌∷◌, refl, sym, ap, ◌∙◌, arith, None, drop}
use Rattle.std.proofs.Common.{◌+◌, subst, ◌||◌, ◌&&◌, not, nat_lt, codes}
use Rattle.std.specs.Prelude.{◌==◌, slice_index}
use Rattle.std.specs.List.{list_any, prefix_len}
use Rattle.std.specs.Char.{is_ascii_digit}
use Rattle.std.proofs.lemmas.Bool.{or_parts, or_from, and_parts, and_from, and_left, and_right, not-true}
use Rattle.std.proofs.lemmas.Bool.Decides.{nat_tests}
use Rattle.htmd_lexical.specs.Characters.{space, less_than_sign, is_one_of}
use Rattle.htmd_lexical.specs.WhiteSpace.{is_ascii_white_space}
use Rattle.htmd_text.specs.SqueezedTexts.{squeezed_text}
use Rattle.htmd_text.specs.Replacement.{is_squeezed}
use Rattle.htmd_text.specs.Trims.{is_space}
use Rattle.htmd_text.specs.EscapeKinds.{is_special}
use Rattle.htmd_text.specs.EscapedPlaces.{begins_block, numbered_item_dot, escaped_markdown, is_escaped, is_place}
use Rattle.htmd_text.specs.EscapedPlaces.{is_always_escaped, opens_html}
use Rattle.htmd_text.proofs.WhiteSpaceLemmas.{squeezed_stays}
use Rattle.htmd_text.proofs.EscapedPlacesLemmas.{special_at, unmarked_stays}
use Rattle.htmd_walk.specs.Seams.{begins_with_space}
use Rattle.htmd_walk.specs.OrdinaryText.{without_first_space}
use Rattle.htmd_walk.specs.UnescapedTexts.{is_literal_byte, stays_literal, may_begin, starts_literal, begins_literal}

-- ---- the bytes of the text

plain_no_white : (b : ℕ) → is_literal_byte b ≡ true → is_ascii_white_space b ≡ false
plain_no_white b e = grind (arith, nat_tests)

plain_no_space : (b : ℕ) → is_literal_byte b ≡ true → (b == space) ≡ false
plain_no_space b e = grind (arith, nat_tests)

plain_no_mark : (b : ℕ) → is_literal_byte b ≡ true → is_special b ≡ false
plain_no_mark b e = not-true (is_special b) (and_parts (nat_lt space b) (not (is_special b)) e).1

is_the_space : (b : ℕ) → (b == space) ≡ true → space ≡ b
is_the_space b e = grind (arith, nat_tests)

-- one byte more: whether it is plain, whether it is a space, and whether a space stands before it
squeezed_more : (after p m w rest : Bool) → (p ≡ true → (w ≡ false) × (m ≡ false))
    → (m ≡ true → w ≡ true)
    → (p || (not after && m)) && rest ≡ true → (m ≡ w) × ((not w || (not after && m)) ≡ true)
    × (rest ≡ true)
squeezed_more after true m w rest plain white h =
    let e = plain refl in
    (e.1 ∙ sym e.0, ap (λ x. not x || (not after && m)) e.0, h)
squeezed_more false false true w rest plain white h =
    (sym (white refl), ap (λ x. not x || true) (white refl), h)
squeezed_more false false false w rest plain white h = absurd (cc)
squeezed_more true false m w rest plain white h = absurd (cc)

space_is_white : (b : ℕ) → (b == space) ≡ true → is_ascii_white_space b ≡ true
space_is_white b e = subst (λ (x : ℕ). is_ascii_white_space x ≡ true) (is_the_space b e) refl

space_no_mark : (b : ℕ) → (b == space) ≡ true → is_special b ≡ false
space_no_mark b e = subst (λ (x : ℕ). is_special x ≡ false) (is_the_space b e) refl

plain_squeezed : (after : Bool) (s : List ℕ) → stays_literal after s ≡ true → is_squeezed after s ≡ true
plain_squeezed after [] e = refl
plain_squeezed after (b ∷ s) e =
    let parts = squeezed_more after (is_literal_byte b) (b == space) (is_ascii_white_space b)
    (stays_literal (b == space) s)
    (λ p. (plain_no_white b p, plain_no_space b p)) (space_is_white b) e in
    and_from _ _ parts.1 (ap (λ m. is_squeezed m s) (sym parts.0) ∙ plain_squeezed (b == space) s parts.2)

mark_more : (after p m mark rest any : Bool) → (p ≡ true → mark ≡ false) → (m ≡ true → mark ≡ false)
    → (rest ≡ true → any ≡ false) → (p || (not after && m)) && rest ≡ true → (mark || any) ≡ false
mark_more after true m mark rest any plain at_space others h = rw (plain refl, others h) refl
mark_more false false true mark rest any plain at_space others h = rw (at_space refl, others h) refl
mark_more false false false mark rest any plain at_space others h = absurd (cc)
mark_more true false m mark rest any plain at_space others h = absurd (cc)

plain_unmarked : (after : Bool) (s : List ℕ) → stays_literal after s ≡ true → list_any is_special s ≡ false
plain_unmarked after [] e = refl
plain_unmarked after (b ∷ s) e =
    mark_more after (is_literal_byte b) (b == space) (is_special b) (stays_literal (b == space) s)
    (list_any is_special s)
    (plain_no_mark b) (space_no_mark b) (plain_unmarked (b == space) s) e

-- ---- its start

begins_nothing : (b : ℕ) (s : List ℕ) → may_begin b ≡ false → begins_block (b ∷ s) ≡ false
begins_nothing b s e =
    let one : is_one_of (codes "=~>-+#") b ≡ false = (or_parts _ (is_ascii_digit b) e).0 in
    let p1 = or_parts (b == 0x3D) _ one in
    let p2 = or_parts (b == 0x7E) _ p1.1 in
    let p3 = or_parts (b == 0x3E) _ p2.1 in
    let p4 = or_parts (b == 0x2D) _ p3.1 in
    let p5 = or_parts (b == 0x2B) _ p4.1 in
    let p6 = or_parts (b == 0x23) false p5.1 in
    rw (p1.0, p2.0, p3.0, p4.0, p5.0, p6.0) refl

numbers_nothing : (b : ℕ) (s : List ℕ) → may_begin b ≡ false → numbered_item_dot (b ∷ s) ≡ None
numbers_nothing b s e = rw (or_parts (is_one_of (codes "=~>-+#") b) (is_ascii_digit b) e).1 refl

start_block : (s : List ℕ) → starts_literal s ≡ true → begins_block s ≡ false
start_block [] e = refl
start_block (b ∷ s) e = begins_nothing b s (not-true (may_begin b) e)

start_dot : (s : List ℕ) → starts_literal s ≡ true → numbered_item_dot s ≡ None
start_dot [] e = refl
start_dot (b ∷ s) e = numbers_nothing b s (not-true (may_begin b) e)

counted : (m : Bool) (n : ℕ) → nat_lt 0 (cond m (1 + n) 0) ≡ m
counted true n = grind (arith, nat_tests)
counted false n = refl

start_at : (goes w m : Bool) (b : ℕ) (s : List ℕ) → (b == space) ≡ m → w ≡ m
    → cond m (starts_literal s) (not (may_begin b)) ≡ true → starts_literal (cond (goes && w) s (b ∷ s))
    ≡ true
start_at true true true b s e f h = h
start_at true true false b s e f h = absurd (cc)
start_at true false true b s e f h = absurd (cc)
start_at true false false b s e f h = h
start_at false w true b s e f h = subst (λ (x : ℕ). not (may_begin x) ≡ true) (is_the_space b e) refl
start_at false w false b s e f h = h

start_of_rest : (goes : Bool) (s : List ℕ) → begins_literal s ≡ true
    → starts_literal (without_first_space goes s) ≡ true
start_of_rest true [] e = refl
start_of_rest false [] e = refl
start_of_rest goes (b ∷ s) e =
    start_at goes (begins_with_space (b ∷ s)) (b == space) b s refl (counted (b == space) (prefix_len is_space s)) e

rest_unmarked : (goes : Bool) (s : List ℕ) → list_any is_special s ≡ false
    → list_any is_special (cond goes (drop 1 s) s) ≡ false
rest_unmarked true [] e = refl
rest_unmarked true (b ∷ s) e = (or_parts (is_special b) (list_any is_special s) e).1
rest_unmarked false s e = e

-- ---- what gets no backslash

unmarked_at : (s : List ℕ) (k : ℕ) → begins_block s ≡ false → numbered_item_dot s ≡ None
    → list_any is_special s ≡ false → is_escaped s k ≡ false
unmarked_at s k begins dot none =
    let other = or_parts (is_always_escaped (slice_index s k)) (slice_index s k == less_than_sign)
    (special_at s k none) in
    or_from _ _ (or_from _ _ (or_from _ _ other.0 (and_left _ (opens_html (drop (k + 1) s)) other.1))
    (and_right (k == 0) (begins_block s) begins)) (ap (λ o. is_place o k) dot)

-- ---- the whole

pub plain_written : (goes : Bool) (s : List ℕ) → begins_literal s ≡ true → stays_literal false s ≡ true
    → escaped_markdown (without_first_space goes (squeezed_text s)) ≡ without_first_space goes s
plain_written goes s begins stays =
    let rest = without_first_space goes s in
    let start = start_of_rest goes s begins in
    let unmarked = rest_unmarked (goes && begins_with_space s) s (plain_unmarked false s stays) in
    ap (λ t. escaped_markdown (without_first_space goes t)) (squeezed_stays s false (plain_squeezed false s stays))
    ∙ unmarked_stays (is_escaped rest) 0 rest
    (λ k. unmarked_at rest k (start_block rest start) (start_dot rest start)
    unmarked)
