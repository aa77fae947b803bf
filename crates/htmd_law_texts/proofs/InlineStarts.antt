-- Codes, marks, tags, links and images at the beginning of a line begin no block.
use Rattle.std.proofs.Common.{◌≡◌, ◌∙◌, refl, ap, sym, subst, ℕ, zero, suc, ◌+◌, Bool, true, false, List, [], ◌∷◌, ◌++◌}
use Rattle.std.proofs.Common.{None, Some, codes, append_assoc, arith, drop}
use Rattle.std.specs.Prelude.{length, ◌==◌, ◌&&◌, ◌||◌, if◌then◌else◌, not, nat_le, slice_index, replicate, ◌-◌}
use Rattle.std.specs.List.{list_all, prefix_len}
use Rattle.std.specs.Char.{is_ascii_alphanumeric, is_ascii_alphabetic}
use Rattle.std.proofs.lemmas.Bool.{and_parts, and_right, or_parts, eqb-true, not-true}
use Rattle.htmd_lexical.specs.Characters.{is_one_of}
use Rattle.htmd_lexical.specs.CharacterClasses.{begins_with, leading_run, behind_run, lacks}
use Rattle.htmd_markdown.specs.CodeSpans.{meets_delimiter, smallest_unused_len, space_if}
use Rattle.htmd_commonmark.specs.Addresses.{is_autolink, begins_with_scheme, is_scheme_character}
use Rattle.htmd_commonmark.specs.CodeSpans.{code_span}
use Rattle.htmd_commonmark.specs.References.{holds_reference}
use Rattle.htmd_commonmark_reading.specs.Characters.{is_space_or_tab, is_white}
use Rattle.htmd_commonmark_reading.specs.Lines.{line, marks, is_blank_text}
use Rattle.htmd_commonmark_reading.specs.RawTags.{tag_rest, in_tag_name, open_tag, closing_tag}
use Rattle.htmd_commonmark_reading.specs.BlockStarts.{After, alone, under, no_start, started, is_same}
use Rattle.htmd_commonmark_reading.specs.BlockStarts.{is_empty_or_blank, fence_start, block_ends, is_text_block}
use Rattle.htmd_commonmark_reading.specs.BlockStarts.{is_block_tag, is_lone_tag, ends_name, block_name_rest}
use Rattle.htmd_commonmark_reading.specs.BlockStarts.{without_slash, is_alone, is_of_text, fills}
use Rattle.htmd_document.specs.Tags as html
use Rattle.htmd_law_inlines.proofs.AnchorValues.{unquoted}
use Rattle.htmd_law_inlines.proofs.AnchorPieces.{quoted}
use Rattle.htmd_law_blocks.specs.LineTexts.{IsFirstLine, IsFurtherLine}
use Rattle.htmd_law_inlines.proofs.TextPieces.{test, differs}
use Rattle.htmd_law_inlines.proofs.ReferencePieces.{one_of}
use Rattle.htmd_law_texts.proofs.WrittenPieces.{Row, row_signs, star, stars, score, scores, tildes, Tag, opener, closer}
use Rattle.htmd_law_texts.proofs.WrittenPieces.{em_tag, strong_tag, del_tag, sup_tag, sub_tag, ins_tag, u_tag}
use Rattle.htmd_law_texts.proofs.WrittenPieces.{mark_tag, small_tag, kbd_tag, abbr_tag}
use Rattle.htmd_law_texts.proofs.LineStarts.{IsLead, Both, both_by, first_by, further_by, plain_line, black_start}
use Rattle.htmd_law_texts.proofs.LineStarts.{not_of}
use Rattle.htmd_law_texts.proofs.Foreign.{all_false}
use Rattle.htmd_law_texts.proofs.TextStarts.{heads, no_run}
use Rattle.htmd_law_texts.proofs.TextFirst.{item_none, rule_none}

-- ---- codes

run_passed : (n : ℕ) (y : List ℕ) → heads (is_same 96) y ≡ false
    → behind_run (is_same 96) (replicate n 96 ++ y) ≡ y
run_passed zero y h = (no_run (is_same 96) y h).1
run_passed (suc n) y h = run_passed n y h

pub angle_lead : IsLead 60
angle_lead = record { black = refl; no_hyphen = refl; no_colon = refl; no_bar = refl; no_equals = refl }

-- a row of grave accents, and one more in the line
accents_line : (j : ℕ) (y : List ℕ) → heads (is_same 96) y ≡ false → lacks 96 y ≡ false
    → Both (replicate (suc j) 96 ++ y)
accents_line j y h l =
    let s = replicate j 96 ++ y in
    let none : fence_start 0 96 (96 ∷ s) ≡ no_start =
    rw (run_passed (suc j) y h, l, and_right (nat_le 3 (length (leading_run (is_same 96) (96 ∷ s)))) false refl)
    refl in
    both_by 96 s (record { black = refl; no_hyphen = refl; no_colon = refl; no_bar = refl; no_equals = refl }) refl
    (λ a k. black_start a k 96 s refl ∙ none)

span_inner : (s m : List ℕ) (p : Bool) (g : List ℕ)
    → ((((g ++ space_if p) ++ s) ++ space_if p) ++ g) ++ m ≡ g ++ ((space_if p ++ (s ++ space_if p)) ++ (g ++ m))
span_inner s m p g =
    let x = space_if p in
    append_assoc (((g ++ x) ++ s) ++ x) g m ∙ ap (λ l. l ++ (g ++ m))
    (append_assoc (g ++ x) s x ∙ append_assoc g x (s ++ x))
    ∙ append_assoc g (x ++ (s ++ x)) (g ++ m)

span_first : (x : ℕ) (s t : List ℕ) → heads (is_same 96) ((space_if (meets_delimiter (x ∷ s))
    ++ ((x ∷ s) ++ space_if (meets_delimiter (x ∷ s)))) ++ t) ≡ false
span_first x s t =
    test (meets_delimiter (x ∷ s)) (λ e. rw e refl)
    (λ e. rw e ((or_parts (x == 96) _ e).0))

pub span_line : (x : ℕ) (s m : List ℕ) → Both (code_span (x ∷ s) ++ m)
span_line x s m =
    let p = meets_delimiter (x ∷ s) in
    let n = smallest_unused_len (x ∷ s) in
    let j = n - 1 in
    let e : n ≡ suc j = omega arith in
    let a = space_if p ++ ((x ∷ s) ++ space_if p) in
    let is : code_span (x ∷ s) ++ m ≡ replicate (suc j) 96 ++ (a ++ (96 ∷ (replicate j 96 ++ m))) =
    span_inner (x ∷ s) m p (replicate n 96) ∙ ap (λ i. replicate i 96 ++ (a ++ (replicate i 96 ++ m))) e in
    subst Both (sym is)
    (accents_line j (a ++ (96 ∷ (replicate j 96 ++ m))) (span_first x s (96 ∷ (replicate j 96 ++ m)))
    (all_false (λ c. not (c == 96)) a (replicate j 96 ++ m) 96 refl))

-- ---- marks

abbrev pub is_row_sign : ℕ → Bool
is_row_sign c = is_one_of (codes "*_~") c

-- after signs of rows stands a character that is none, and no white space
abbrev pub solid : List ℕ → Bool
solid [] = false
solid (c ∷ s) = if is_row_sign c then solid s else not (is_white c)

solid_black : (c : ℕ) → not (is_white c) ≡ true → is_space_or_tab c ≡ false
solid_black c h = (or_parts (is_space_or_tab c) (c == 10) (not-true (is_white c) h)).0

sign_black : (c : ℕ) → is_row_sign c ≡ true → is_space_or_tab c ≡ false
sign_black c h = not-true (is_space_or_tab c) (one_of (λ d. not (is_space_or_tab d)) (codes "*_~") c h refl)

pub solid_first : (s : List ℕ) → solid s ≡ true → is_empty_or_blank s ≡ false
solid_first [] h = absurd (cc)
solid_first (c ∷ s) h = test (is_row_sign c) (λ e. sign_black c e) (λ e. solid_black c (rw e at h))

solid_marks : (sign : ℕ) (s : List ℕ) → is_row_sign sign ≡ true → solid s ≡ true
    → list_all (is_same sign) (marks s) ≡ false
solid_marks sign [] i h = absurd (cc)
solid_marks sign (c ∷ s) i h =
    test (is_row_sign c)
    (λ e. rw (sign_black c e) (and_right (c == sign) (list_all (is_same sign) (marks s))
    (solid_marks sign s i (rw e at h))))
    (λ e. let b = solid_black c (rw e at h) in
    let n : (c == sign) ≡ false =
    test (c == sign) (λ y. let z : true ≡ false = sym i ∙ ap is_row_sign (sym (eqb-true c sign y))
    ∙ e in absurd (cc))
    (λ y. y) in
    rw b (rw n refl))

star_line : (u : List ℕ) → solid u ≡ true → Both (42 ∷ u)
star_line u h =
    let r : list_all (is_same 42) (marks (42 ∷ u)) ≡ false = solid_marks 42 u refl h in
    let start : (a : After) (k : ℕ) → started a (line k (42 ∷ u)) ≡ no_start =
    λ a k. black_start a k 42 u refl ∙ rule_none 42 u _ r ∙ item_none a k 42 u _ (solid_first u h) in
    let lead : IsLead 42 =
    record { black = refl; no_hyphen = refl; no_colon = refl; no_bar = refl; no_equals = refl } in
    (first_by 42 u refl refl r (start alone), further_by 42 u lead (start under))

score_line : (u : List ℕ) → solid u ≡ true → Both (95 ∷ u)
score_line u h =
    let r : list_all (is_same 95) (marks (95 ∷ u)) ≡ false = solid_marks 95 u refl h in
    both_by 95 u (record { black = refl; no_hyphen = refl; no_colon = refl; no_bar = refl; no_equals = refl }) refl
    (λ a k. black_start a k 95 u refl ∙ rule_none 95 u no_start r)

tilde_line : (u : List ℕ) → heads (is_same 126) u ≡ false → Both (126 ∷ 126 ∷ u)
tilde_line u h =
    let none : fence_start 0 126 (126 ∷ 126 ∷ u) ≡ no_start = rw ((no_run (is_same 126) u h).0) refl in
    both_by 126 (126 ∷ u) (record {
      black = refl;
      no_hyphen = refl;
      no_colon = refl;
      no_bar = refl;
      no_equals = refl;
    })
    refl (λ a k. black_start a k 126 (126 ∷ u) refl ∙ none)

pub row_line : (r : Row) (u : List ℕ) → solid u ≡ true → (r ≡ tildes → heads (is_same 126) u ≡ false)
    → Both (row_signs r ++ u)
row_line star u h t = star_line u h
row_line stars u h t = star_line (42 ∷ u) h
row_line score u h t = score_line u h
row_line scores u h t = score_line (95 ∷ u) h
row_line tildes u h t = tilde_line u (t refl)

-- ---- tags

opens_no_block : (t : Tag) (u : List ℕ) → (k : ℕ) → started under (line k (opener t ++ u)) ≡ no_start
opens_no_block em_tag u k = refl
opens_no_block strong_tag u k = refl
opens_no_block del_tag u k = refl
opens_no_block sup_tag u k = refl
opens_no_block sub_tag u k = refl
opens_no_block ins_tag u k = refl
opens_no_block u_tag u k = refl
opens_no_block mark_tag u k = refl
opens_no_block small_tag u k = refl
opens_no_block kbd_tag u k = refl
opens_no_block (abbr_tag title) u k = refl

blank_text : (u : List ℕ) → is_empty_or_blank u ≡ false → is_blank_text u ≡ false
blank_text [] h = absurd (cc)
blank_text (c ∷ u) h = rw h refl

-- the tag of an abbreviation and what follows it, without the angle bracket
abbrev title_start : List ℕ → List ℕ → List ℕ
title_start title u = codes "abbr title=\"" ++ (html.escaped_value title ++ (34 ∷ 62 ∷ u))

title_opens : (title u : List ℕ) → open_tag (title_start title u) ≡ Some (title_start title [])
title_opens title u = rw (quoted (html.escaped_value title) u (unquoted title)) refl

drop_front : (s u : List ℕ) → drop (length s) (s ++ u) ≡ u
drop_front [] u = refl
drop_front (c ∷ s) u = drop_front s u

-- no open tag is alone, so what is left is an end tag
not_open : (t : List ℕ) → fills t (open_tag t) ≡ false → is_lone_tag t ≡ fills t (closing_tag t)
not_open t h =
    ap (λ b. (not (is_of_text t) && b) || fills t (closing_tag t)) h
    ∙ ap (λ b. b || fills t (closing_tag t)) (and_right (not (is_of_text t)) false refl)

title_not_alone : (title u : List ℕ) → is_blank_text u ≡ false → is_lone_tag (title_start title u) ≡ false
title_not_alone title u h =
    let t = title_start title u in
    let tag = title_start title [] in
    let split : t ≡ tag ++ u =
    ap (λ l. codes "abbr title=\"" ++ l) (sym (append_assoc (html.escaped_value title) (34 ∷ 62 ∷ []) u)) in
    let text : is_blank_text (drop (length tag) t) ≡ false =
    ap is_blank_text (ap (drop (length tag)) split ∙ drop_front tag u) ∙ h in
    let opens : fills t (open_tag t) ≡ false = ap (fills t) (title_opens title u) ∙ text in
    not_open t opens

title_ends : (title u : List ℕ) → is_blank_text u ≡ false → block_ends alone (title_start title u) ≡ None
title_ends title u h = ap (λ b. if b then Some [] else None) (title_not_alone title u h)

title_starts : (title u : List ℕ) → is_blank_text u ≡ false → (k : ℕ)
    → started alone (line k (html.abbreviation_tag title ++ u)) ≡ no_start
title_starts title u h k =
    let v = html.escaped_value title in
    let t = title_start title u in
    let is : html.abbreviation_tag title ++ u ≡ 60 ∷ t =
    append_assoc (codes "<abbr title=\"" ++ v) (codes "\">") u
    ∙ append_assoc (codes "<abbr title=\"") v (34 ∷ 62 ∷ u) in
    ap (λ l. started alone (line k l)) is ∙ black_start alone k 60 t refl ∙ rw (title_ends title u h) refl

opens_no_html : (t : Tag) (u : List ℕ) → is_blank_text u ≡ false → (k : ℕ)
    → started alone (line k (opener t ++ u)) ≡ no_start
opens_no_html em_tag u h k = rw h refl
opens_no_html strong_tag u h k = rw h refl
opens_no_html del_tag u h k = rw h refl
opens_no_html sup_tag u h k = rw h refl
opens_no_html sub_tag u h k = rw h refl
opens_no_html ins_tag u h k = rw h refl
opens_no_html u_tag u h k = rw h refl
opens_no_html mark_tag u h k = rw h refl
opens_no_html small_tag u h k = rw h refl
opens_no_html kbd_tag u h k = rw h refl
opens_no_html (abbr_tag title) u h k = title_starts title u h k

-- each tag begins with its angle bracket
abbrev behind_angle : Tag → List ℕ
behind_angle em_tag = codes "em>"
behind_angle strong_tag = codes "strong>"
behind_angle del_tag = codes "del>"
behind_angle sup_tag = codes "sup>"
behind_angle sub_tag = codes "sub>"
behind_angle ins_tag = codes "ins>"
behind_angle u_tag = codes "u>"
behind_angle mark_tag = codes "mark>"
behind_angle small_tag = codes "small>"
behind_angle kbd_tag = codes "kbd>"
behind_angle (abbr_tag title) = codes "abbr title=\"" ++ html.escaped_value title ++ codes "\">"

opener_is : (t : Tag) → opener t ≡ 60 ∷ behind_angle t
opener_is em_tag = refl
opener_is strong_tag = refl
opener_is del_tag = refl
opener_is sup_tag = refl
opener_is sub_tag = refl
opener_is ins_tag = refl
opener_is u_tag = refl
opener_is mark_tag = refl
opener_is small_tag = refl
opener_is kbd_tag = refl
opener_is (abbr_tag title) = refl

pub opener_further : (t : Tag) (u : List ℕ) → IsFurtherLine (opener t ++ u)
opener_further t u =
    subst (λ l. IsFurtherLine (l ++ u)) (sym (opener_is t))
    (further_by 60 (behind_angle t ++ u) angle_lead
    (λ k. ap (λ l. started under (line k (l ++ u))) (sym (opener_is t)) ∙ opens_no_block t u k))

pub opener_first : (t : Tag) (u : List ℕ) → is_empty_or_blank u ≡ false → IsFirstLine (opener t ++ u)
opener_first t u h =
    subst (λ l. IsFirstLine (l ++ u)) (sym (opener_is t))
    (first_by 60 (behind_angle t ++ u) refl refl (not_of 42 60 (behind_angle t ++ u) refl refl)
    (λ k. ap (λ l. started alone (line k (l ++ u))) (sym (opener_is t)) ∙ opens_no_html t u (blank_text u h) k))

pub closer_further : (t : Tag) (u : List ℕ) → IsFurtherLine (closer t ++ u)
closer_further em_tag u = further_by 60 (codes "/em>" ++ u) angle_lead (λ k. refl)
closer_further strong_tag u = further_by 60 (codes "/strong>" ++ u) angle_lead (λ k. refl)
closer_further del_tag u = further_by 60 (codes "/del>" ++ u) angle_lead (λ k. refl)
closer_further sup_tag u = further_by 60 (codes "/sup>" ++ u) angle_lead (λ k. refl)
closer_further sub_tag u = further_by 60 (codes "/sub>" ++ u) angle_lead (λ k. refl)
closer_further ins_tag u = further_by 60 (codes "/ins>" ++ u) angle_lead (λ k. refl)
closer_further u_tag u = further_by 60 (codes "/u>" ++ u) angle_lead (λ k. refl)
closer_further mark_tag u = further_by 60 (codes "/mark>" ++ u) angle_lead (λ k. refl)
closer_further small_tag u = further_by 60 (codes "/small>" ++ u) angle_lead (λ k. refl)
closer_further kbd_tag u = further_by 60 (codes "/kbd>" ++ u) angle_lead (λ k. refl)
closer_further (abbr_tag title) u = further_by 60 (codes "/abbr>" ++ u) angle_lead (λ k. refl)

pub code_tag_further : (u : List ℕ) → IsFurtherLine (codes "<code>" ++ u)
code_tag_further u = further_by 60 (codes "code>" ++ u) angle_lead (λ k. refl)

-- ---- brackets

pub bracket_line : (u : List ℕ) → Both (91 ∷ u)
bracket_line u =
    plain_line 91 u (record { black = refl; no_hyphen = refl; no_colon = refl; no_bar = refl; no_equals = refl }) refl
    refl

pub closing_line : (u : List ℕ) → Both (93 ∷ u)
closing_line u =
    plain_line 93 u (record { black = refl; no_hyphen = refl; no_colon = refl; no_bar = refl; no_equals = refl }) refl
    refl

pub image_line : (u : List ℕ) → Both (33 ∷ u)
image_line u =
    plain_line 33 u (record { black = refl; no_hyphen = refl; no_colon = refl; no_bar = refl; no_equals = refl }) refl
    refl

-- ---- autolinks

-- a scheme goes on with one of these after its first letters and digits
record Scheme (s r : List ℕ) : Type 0 where
  sign : ℕ
  rest : List ℕ
  behind : behind_run is_ascii_alphanumeric (s ++ r) ≡ sign ∷ rest
  is : is_one_of (codes "+.-:") sign ≡ true
  no_tag : tag_rest in_tag_name (s ++ r) ≡ None

refused : (c : ℕ) (t : List ℕ) → is_ascii_alphanumeric c ≡ false → (c == 45) ≡ false
    → is_one_of (codes "+.-:") c ≡ true → tag_rest in_tag_name (c ∷ t) ≡ None
refused c t n x z =
    let d : (e : ℕ) → is_one_of (codes "+.-:") e ≡ false → (c == e) ≡ false =
    λ e y. differs (is_one_of (codes "+.-:")) c e z y in
    rw (n, x, d 32 refl, d 9 refl, d 10 refl, d 62 refl, d 47 refl) refl

-- a letter or a digit before it
after_letter : (c : ℕ) (s r : List ℕ) → is_ascii_alphanumeric c ≡ true → Scheme s r → Scheme (c ∷ s) r
after_letter c s r e i =
    record { sign = i.sign; rest = i.rest; behind = rw e i.behind; is = i.is; no_tag = rw e (rw i.no_tag refl) }

-- the first other sign
at_sign : (c : ℕ) (s r : List ℕ) → is_ascii_alphanumeric c ≡ false → is_one_of (codes "+.-:") c ≡ true
    → tag_rest in_tag_name (c ∷ (s ++ r)) ≡ None → Scheme (c ∷ s) r
at_sign c s r n i t = record { sign = c; rest = s ++ r; behind = rw n refl; is = i; no_tag = t }

hyphen_goes_on : (c : ℕ) (t : List ℕ) → (c == 45) ≡ true → tag_rest in_tag_name t ≡ None
    → tag_rest in_tag_name (c ∷ t) ≡ None
hyphen_goes_on c t x i = subst (λ d. tag_rest in_tag_name (d ∷ t) ≡ None) (sym (eqb-true c 45 x)) (rw i refl)

next_scheme : (c : ℕ) (s : List ℕ) → is_scheme_character c ≡ true
    → (slice_index (c ∷ s) (prefix_len is_scheme_character (c ∷ s)) == 58) ≡ true
    → (slice_index s (prefix_len is_scheme_character s) == 58) ≡ true
next_scheme c s e h =
    let n = prefix_len is_scheme_character s in
    let x : prefix_len is_scheme_character (c ∷ s) ≡ suc n = rw e (let z : 1 + n ≡ suc n = omega arith in z) in
    ap (λ j. slice_index (c ∷ s) j == 58) (sym x) ∙ h

scheme_of : (s r : List ℕ) → (slice_index s (prefix_len is_scheme_character s) == 58) ≡ true → Scheme s r
scheme_of [] r h = absurd (cc)
scheme_of (c ∷ s) r h =
    test (is_ascii_alphanumeric c)
    (λ e. after_letter c s r e (scheme_of s r (next_scheme c s (rw e refl) h)))
    (λ n. test (is_one_of (codes "+.-") c)
    (λ e. let z = one_of (is_one_of (codes "+.-:")) (codes "+.-") c e refl in
    at_sign c s r n z
    (test (c == 45)
    (λ x. hyphen_goes_on c (s ++ r) x (scheme_of s r (next_scheme c s (rw (n, e) refl) h)).no_tag)
    (λ x. refused c (s ++ r) n x z)))
    (λ e. let x : prefix_len is_scheme_character (c ∷ s) ≡ 0 = rw (n, e) refl in
    let y : (c == 58) ≡ true = ap (λ j. slice_index (c ∷ s) j == 58) (sym x) ∙ h in
    let z : is_one_of (codes "+.-:") c ≡ true = ap (is_one_of (codes "+.-:")) (eqb-true c 58 y) in
    at_sign c s r n z (refused c (s ++ r) n (ap (λ d. d == 45) (eqb-true c 58 y)) z)))

letter_other : (c d : ℕ) → is_ascii_alphabetic c ≡ true → is_ascii_alphabetic d ≡ false → (c == d) ≡ false
letter_other c d h k = differs is_ascii_alphabetic c d h k

ends_no_name : (d : ℕ) (t : List ℕ) → is_one_of (codes "+.-:") d ≡ true
    → (ends_name (d ∷ t) ≡ false) × (begins_with (codes "/>") (d ∷ t) ≡ false)
ends_no_name d t h =
    let x : (e : ℕ) → is_one_of (codes "+.-:") e ≡ false → (d == e) ≡ false =
    λ e y. differs (is_one_of (codes "+.-:")) d e h y in
    (rw (x 32 refl, x 9 refl, x 62 refl) refl, rw (x 47 refl) refl)

autolink_ends : (a : After) (c : ℕ) (s r : List ℕ) → is_ascii_alphabetic c ≡ true → Scheme (c ∷ s) r
    → block_ends a ((c ∷ s) ++ r) ≡ None
autolink_ends a c s r l w =
    let t = (c ∷ s) ++ r in
    let ends = ends_no_name w.sign w.rest w.is in
    let name : ends_name (block_name_rest t) ≡ false = ap ends_name w.behind ∙ ends.0 in
    let slash : begins_with (codes "/>") (block_name_rest t) ≡ false = ap (begins_with (codes "/>")) w.behind
    ∙ ends.1 in
    let text : is_text_block t ≡ false = and_right _ (ends_name (block_name_rest t)) name in
    let same : without_slash t ≡ t = rw (letter_other c 47 l refl) refl in
    let block : is_block_tag t ≡ false =
    and_right _ (ends_name (block_name_rest t) || begins_with (codes "/>") (block_name_rest t))
    (rw (name, slash) refl) in
    let opens : open_tag t ≡ None = rw l w.no_tag in
    let close : closing_tag t ≡ None = rw (letter_other c 47 l refl) refl in
    let lone : is_lone_tag t ≡ false = rw (opens, close) (ap (λ b. b || false) (and_right _ false refl)) in
    let last : (is_block_tag (without_slash t) || is_alone a && is_lone_tag t) ≡ false =
    rw (lone, same, block) (and_right (is_alone a) false refl) in
    rw (text, letter_other c 33 l refl, letter_other c 63 l refl, last) refl

pub autolink_line : (address m : List ℕ) → is_autolink address ≡ true → Both (60 ∷ (address ++ (62 ∷ m)))
autolink_line [] m h = absurd (cc)
autolink_line (c ∷ s) m h =
    let p = (and_parts (begins_with_scheme (c ∷ s)) _ (and_parts _ (not (holds_reference (c ∷ s))) h).0).0 in
    let q = and_parts _ (slice_index (c ∷ s) (prefix_len is_scheme_character (c ∷ s)) == 58) p in
    let l = (and_parts (is_ascii_alphabetic c) _ (and_parts _ _ q.0).0).0 in
    let w = scheme_of (c ∷ s) (62 ∷ m) q.1 in
    let t = (c ∷ s) ++ (62 ∷ m) in
    both_by 60 t angle_lead refl
    (λ a k. black_start a k 60 t refl ∙ rw (autolink_ends a c s (62 ∷ m) l w) refl)

-- ---- anchors

-- an anchor's first tag and what follows it, without the angle bracket
abbrev anchor_start : List ℕ → List ℕ → List ℕ
anchor_start id u = codes "a id=\"" ++ (html.escaped_value id ++ (34 ∷ 62 ∷ u))

tag_opens : (id u : List ℕ) → open_tag (anchor_start id u) ≡ Some (anchor_start id [])
tag_opens id u = rw (quoted (html.escaped_value id) u (unquoted id)) refl

-- the end tag follows it in its line
not_alone : (id m : List ℕ) → is_lone_tag (anchor_start id (codes "</a>" ++ m)) ≡ false
not_alone id m =
    let u = codes "</a>" ++ m in
    let t = anchor_start id u in
    let tag = anchor_start id [] in
    let split : t ≡ tag ++ u =
    ap (λ l. codes "a id=\"" ++ l) (sym (append_assoc (html.escaped_value id) (34 ∷ 62 ∷ []) u)) in
    let text : is_blank_text (drop (length tag) t) ≡ false =
    ap is_blank_text (ap (drop (length tag)) split ∙ drop_front tag u) in
    let opens : fills t (open_tag t) ≡ false = ap (fills t) (tag_opens id u) ∙ text in
    not_open t opens

anchor_ends : (a : After) (id m : List ℕ) → block_ends a (anchor_start id (codes "</a>" ++ m)) ≡ None
anchor_ends a id m =
    let t = anchor_start id (codes "</a>" ++ m) in
    let last : (false || is_alone a && is_lone_tag t) ≡ false =
    ap (λ b. false || is_alone a && b) (not_alone id m) ∙ and_right (is_alone a) false refl in
    ap (λ b. if b then Some [] else None) last

pub anchor_line : (id m : List ℕ) → Both (html.anchor id ++ m)
anchor_line id m =
    let v = html.escaped_value id in
    let u = codes "</a>" ++ m in
    let t = anchor_start id u in
    let is : html.anchor id ++ m ≡ 60 ∷ t =
    append_assoc (html.anchor_tag id) html.end_of_anchor m ∙ append_assoc (codes "<a id=\"" ++ v) (codes "\">") u
    ∙ append_assoc (codes "<a id=\"") v (34 ∷ 62 ∷ u) in
    subst Both (sym is)
    (both_by 60 t angle_lead refl (λ a k. black_start a k 60 t refl ∙ rw (anchor_ends a id m) refl))
