-- The tokens of a text in UTF-8 are in UTF-8.
use Rattle.std.proofs.Common.{◌≡◌, ℕ, zero, suc, ◌+◌, ◌<◌, ◌≤◌, Bool, true, false, List, [], ◌∷◌, ◌++◌, length, drop}
use Rattle.std.proofs.Common.{refl, sym, ap, subst, arith, codes, Option, Some, None, All, ◌&&◌, not}
use Rattle.std.specs.Prelude.{◌==◌, nat_lt}
use Rattle.std.specs.Char.{encode_utf8}
use Rattle.std.specs.Str.{IsUtf8}
use Rattle.std.proofs.lemmas.Bool.{and_parts}
use Rattle.std.proofs.lemmas.Bool.Decides.{nat_tests}
use Rattle.std.proofs.lemmas.List.Elements.{All-nil, All-cons}
use Rattle.std.proofs.lemmas.Str.{IsUtf8-take, IsUtf8-drop, IsUtf8-nil, IsUtf8-append, IsCharBoundary-from_rest}
use Rattle.htmd_lexical.proofs.Cases.{test}
use Rattle.htmd_lexical.proofs.CharacterClassesLemmas.{white_is_ascii}
use Rattle.htmd_lexical.specs.WhiteSpace.{is_ascii_white_space}
use Rattle.htmd_lexical.specs.CharacterClasses.{is_empty, first_is, begins_with, begins_in_any_case, leading_run}
use Rattle.htmd_lexical.specs.CharacterClasses.{behind_run, up_to, onward}
use Rattle.htmd_lexical.specs.LineEnds.{normalized}
use Rattle.htmd_lexical.specs.ByteOrderMarks.{behind_mark}
use Rattle.htmd_lexical.specs.TagReading.{TagPart, malformed, tag_end, attribute, is_other, quoted_value}
use Rattle.htmd_lexical.proofs.RunsLemmas.{drop_run, behind_within}
use Rattle.htmd_html5_tokens.specs.Preprocessing.{preprocessed}
use Rattle.htmd_html5_tokens.specs.Tokens.{Read, TagValue, TokenValue, text, start_tag, end_tag}
use Rattle.htmd_html5_tokens.specs.Comments.{ends_comment, after_comment_end, read_comment, read_bogus_comment}
use Rattle.htmd_html5_tokens.specs.Tags.{is_attribute_name_byte, is_name_byte, is_gap_byte, is_unquoted_byte}
use Rattle.htmd_html5_tokens.specs.Tags.{ends_in_slash, value_part, after_attribute_name, after_gap, next_part, TagForm}
use Rattle.htmd_html5_tokens.specs.Tags.{unended, ended, with_attribute, form_after, form_within, tag_form, tag_token}
use Rattle.htmd_html5_tokens.specs.Tags.{tag_from_name, read_tag}
use Rattle.htmd_html5_tokens.specs.NextToken.{ends_section, after_section_end, read_section, after_empty_section}
use Rattle.htmd_html5_tokens.specs.NextToken.{begins_section, after_empty_piece, or_else, after_pieces}
use Rattle.htmd_html5_tokens.specs.NextToken.{read_declaration, begins_letter, read_markup, begins_markup, read_text}
use Rattle.htmd_html5_tokens.specs.NextToken.{read_piece, read_held, read_raw, next_token}
use Rattle.htmd_html5_tokens.specs.RawTexts.{reading_of, raw_text_len}
use Rattle.htmd_lexical.specs.declared.content_model.ContentModel.{ContentModel}
use Rattle.htmd_lexical.specs.declared.content_model.ContentModel.TheVariants.{Normal, Raw}
use Rattle.htmd_lexical.specs.declared.content_model.RawElement.{RawElement}
use Rattle.htmd_html5_tokens.proofs.RunCuts.{cut_before_ascii, outside_attribute_name}
use Rattle.htmd_html5_tokens.proofs.RawTextsLemmas.{raw_cut}
use Rattle.htmd_html5_tokens.proofs.BeginningsLemmas.{other_ends, comment_end_begins, section_end_begins, markup_begins}
use Rattle.htmd_html5_state.specs.State.{StateValue, initial_state}
use Rattle.htmd_html5_state.specs.Foreign.{current_is_html}
use Rattle.htmd_html5.specs.Feeding.{feed}
use Rattle.htmd_html5.specs.Html5Documents.{next_read, is_end}
use Rattle.htmd_law_html5.specs.PageLetters.{with_text_of, texts_after, texts_within, TokensAreUtf8}
use Rattle.htmd_law_html5.proofs.Utf8Parts.{open_run_utf8, after_ascii_utf8, other_run_utf8, after_first_utf8}
use Rattle.htmd_law_html5.proofs.Utf8Parts.{after_beginning_utf8, after_any_case_utf8, after_other_utf8, up_to_utf8}
use Rattle.htmd_law_html5.proofs.Utf8Parts.{unmarked_utf8}
use Rattle.htmd_law_html5.proofs.Utf8Contents.{decoded_utf8}

-- ---- line ends

-- what stands before the first CR stays
line_stays : (s : List ℕ) → normalized s ≡ leading_run (is_other 13) s ++ normalized (behind_run (is_other 13) s)
line_stays [] = refl
line_stays (b ∷ s) = test (b == 13) (λ e. rw (e, e) refl) (λ e. rw e (ap (λ t. b ∷ t) (line_stays s)))

line_feed_utf8 : IsUtf8 (10 ∷ [])
unfolding encode_utf8
line_feed_utf8 = (10 ∷ [], (refl, refl))

after_line_utf8 : (k : ℕ) (s : List ℕ) → (first_is 13 s ≡ false → is_empty s ≡ true) → length s ≤ suc k
    → IsUtf8 s
    → ((t : List ℕ) → length t ≤ k → IsUtf8 t → IsUtf8 (normalized t)) → IsUtf8 (normalized s)
after_line_utf8 k [] h l u go = IsUtf8-nil
after_line_utf8 k (b ∷ s) h l u go =
    test (b == 13)
    (λ e. let rest = go s (omega arith) (after_first_utf8 13 (b ∷ s) (omega arith) e u) in
    test (first_is 10 s) (λ f. rw (e, f) rest)
    (λ f. rw (e, f) (IsUtf8-append (10 ∷ []) (normalized s) line_feed_utf8 rest)))
    (λ e. absurd (let f : false ≡ true = h e in cc))

normalized_within : (k : ℕ) (s : List ℕ) → length s ≤ k → IsUtf8 s → IsUtf8 (normalized s)
normalized_within zero [] l u = IsUtf8-nil
normalized_within zero (b ∷ s) l u = absurd (omega arith)
normalized_within (suc k) s l u =
    subst IsUtf8 (sym (line_stays s))
    (IsUtf8-append (leading_run (is_other 13) s) (normalized (behind_run (is_other 13) s))
    (other_run_utf8 13 s refl u).0
    (after_line_utf8 k (behind_run (is_other 13) s) (other_ends 13 s) (omega (arith, behind_within (is_other 13) s))
    (other_run_utf8 13 s refl u).1 (λ t m v. normalized_within k t m v)))

pub preprocessed_utf8 : (s : List ℕ) → IsUtf8 s → IsUtf8 (preprocessed s)
preprocessed_utf8 s u = normalized_within (length (behind_mark s)) (behind_mark s) (omega arith) (unmarked_utf8 s u)

-- ---- tags

outside_name : (b : ℕ) → is_name_byte b ≡ false → b < 128
outside_name b e = grind (arith, nat_tests)

outside_unquoted : (b : ℕ) → is_unquoted_byte b ≡ false → b < 128
outside_unquoted b e = grind (arith, nat_tests)

inside_gap : (b : ℕ) → is_gap_byte b ≡ true → b < 128
inside_gap b e = grind (arith, nat_tests)

-- what follows a part of a tag is UTF-8
abbrev PartUtf8 : TagPart → Type 0
PartUtf8 malformed = Unit {0}
PartUtf8 (tag_end self_closing rest) = IsUtf8 rest
PartUtf8 (attribute name value rest) = IsUtf8 rest

quoted_utf8 : (q : ℕ) (name s : List ℕ) → nat_lt q 128 ≡ true → IsUtf8 s → PartUtf8 (quoted_value q name s)
quoted_utf8 q name s a u =
    test (is_empty (behind_run (is_other q) s)) (λ e. rw e tt) (λ e. rw e (after_other_utf8 q s a u))

value_utf8 : (name s : List ℕ) → IsUtf8 s → PartUtf8 (value_part name s)
value_utf8 name s u =
    test (first_is 34 s) (λ e. rw e (quoted_utf8 34 name (drop 1 s) refl (after_first_utf8 34 s (omega arith) e u)))
    (λ e. test (first_is 39 s)
    (λ f. rw (e, f) (quoted_utf8 39 name (drop 1 s) refl (after_first_utf8 39 s (omega arith) f u)))
    (λ f. rw (e, f) ((open_run_utf8 is_unquoted_byte s outside_unquoted u).1)))

after_name_utf8 : (name s : List ℕ) → IsUtf8 s → PartUtf8 (after_attribute_name name s)
after_name_utf8 name s u =
    let sign : List ℕ = behind_run is_ascii_white_space s in
    let v : IsUtf8 sign = after_ascii_utf8 is_ascii_white_space s white_is_ascii u in
    test (first_is 61 sign) (λ e. rw e (value_utf8 name (behind_run is_ascii_white_space (drop 1 sign))
    (after_ascii_utf8 is_ascii_white_space (drop 1 sign) white_is_ascii (after_first_utf8 61 sign (omega arith) e v))))
    (λ e. rw e u)

-- the first character of a name may be one outside ASCII
after_gap_utf8 : (ends : Bool) (s : List ℕ) → IsUtf8 s → PartUtf8 (after_gap ends s)
after_gap_utf8 ends [] u = tt
after_gap_utf8 ends (b ∷ s) u =
    test (b == 62) (λ e. rw e (after_first_utf8 62 (b ∷ s) (omega arith) e u))
    (λ e. let n : ℕ = length (leading_run is_attribute_name_byte s) in
    let cut = IsCharBoundary-from_rest (b ∷ s) 1 n (omega arith)
    (cut_before_ascii is_attribute_name_byte s outside_attribute_name) in
    let one : 1 + n ≡ suc n = omega arith in
    rw e (after_name_utf8 (b ∷ leading_run is_attribute_name_byte s) (behind_run is_attribute_name_byte s)
    (subst IsUtf8 (drop_run is_attribute_name_byte s)
    (subst (λ m. IsUtf8 (drop m (b ∷ s))) one (IsUtf8-drop (b ∷ s) (1 + n) u cut)))))

next_part_utf8 : (s : List ℕ) → IsUtf8 s → PartUtf8 (next_part s)
next_part_utf8 s u =
    after_gap_utf8 (ends_in_slash (leading_run is_gap_byte s)) (behind_run is_gap_byte s)
    (after_ascii_utf8 is_gap_byte s inside_gap u)

abbrev FormUtf8 : TagForm → Type 0
FormUtf8 unended = Unit {0}
FormUtf8 (ended spelled self_closing rest) = IsUtf8 rest

with_attribute_utf8 : (a : _) (form : TagForm) → FormUtf8 form → FormUtf8 (with_attribute a form)
with_attribute_utf8 a unended u = tt
with_attribute_utf8 a (ended spelled self_closing rest) u = u

form_after_utf8 : (part : TagPart) (go : List ℕ → TagForm) → PartUtf8 part
    → ((t : List ℕ) → IsUtf8 t → FormUtf8 (go t)) → FormUtf8 (form_after part go)
form_after_utf8 malformed go u h = tt
form_after_utf8 (tag_end self_closing rest) go u h = u
form_after_utf8 (attribute name value rest) go u h = with_attribute_utf8 _ (go rest) (h rest u)

form_utf8 : (k : ℕ) (s : List ℕ) → IsUtf8 s → FormUtf8 (form_within k s)
form_utf8 zero s u = tt
form_utf8 (suc k) s u = form_after_utf8 (next_part s) (form_within k) (next_part_utf8 s u) (λ t v. form_utf8 k t v)

-- ---- a token

-- a token's text is UTF-8
abbrev pub TokenUtf8 : TokenValue → Type 0
TokenUtf8 (text s) = IsUtf8 s
TokenUtf8 _ = Unit {0}

pub record ReadUtf8 (r : Read) : Type 0 where
  pub token : TokenUtf8 r.token
  pub rest : IsUtf8 r.rest

token_of_tag_utf8 : (kind : TagValue → TokenValue) → ((tag : TagValue) → TokenUtf8 (kind tag))
    → (name : List ℕ) (form : TagForm) → FormUtf8 form → ReadUtf8 (tag_token kind name form)
token_of_tag_utf8 kind t name unended u = record { token = tt; rest = IsUtf8-nil }
token_of_tag_utf8 kind t name (ended spelled self_closing rest) u = record { token = t _; rest = u }

from_name_utf8 : (kind : TagValue → TokenValue) → ((tag : TagValue) → TokenUtf8 (kind tag)) → (s : List ℕ)
    → IsUtf8 s → ReadUtf8 (tag_from_name kind s)
from_name_utf8 kind t s u =
    token_of_tag_utf8 kind t (leading_run is_name_byte s) (tag_form (behind_run is_name_byte s))
    (form_utf8 (suc (length (behind_run is_name_byte s))) (behind_run is_name_byte s)
    (open_run_utf8 is_name_byte s outside_name u).1)

tag_utf8 : (s : List ℕ) → IsUtf8 s → ReadUtf8 (read_tag s)
tag_utf8 s u =
    test (first_is 47 s)
    (λ e. rw e (from_name_utf8 end_tag (λ tag. tt) (drop 1 s) (after_first_utf8 47 s (omega arith) e u)))
    (λ e. rw e (from_name_utf8 start_tag (λ tag. tt) s u))

bogus_comment_utf8 : (s : List ℕ) → IsUtf8 s → ReadUtf8 (read_bogus_comment s)
bogus_comment_utf8 s u = record { token = tt; rest = after_other_utf8 62 s refl u }

comment_end_utf8 : (s : List ℕ) → IsUtf8 s → IsUtf8 (after_comment_end s)
comment_end_utf8 s u =
    test (begins_with (codes "-->") s) (λ e. rw e (after_beginning_utf8 (codes "-->") s refl e u))
    (λ e. test (begins_with (codes "--!>") s) (λ f. rw (e, f) (after_beginning_utf8 (codes "--!>") s refl f u))
    (λ f. rw (e, f) IsUtf8-nil))

comment_utf8 : (s : List ℕ) → IsUtf8 s → ReadUtf8 (read_comment s)
comment_utf8 s u =
    test (begins_with (codes ">") s)
    (λ e. rw e (record { token = tt; rest = after_beginning_utf8 (codes ">") s refl e u }))
    (λ e. test (begins_with (codes "->") s)
    (λ f. rw (e, f) (record { token = tt; rest = after_beginning_utf8 (codes "->") s refl f u }))
    (λ f. rw (e, f) (record {
      token = tt;
      rest = comment_end_utf8 (onward ends_comment s) (up_to_utf8 ends_comment s comment_end_begins u).1;
    })))

declaration_utf8 : (s : List ℕ) → IsUtf8 s → ReadUtf8 (read_declaration s)
declaration_utf8 s u =
    test (begins_with (codes "--") s)
    (λ e. rw e (comment_utf8 (drop 2 s) (after_beginning_utf8 (codes "--") s refl e u)))
    (λ e. test (begins_in_any_case (codes "doctype") s)
    (λ f. rw (e, f) (record {
      token = tt;
      rest = after_other_utf8 62 (drop 7 s) refl (after_any_case_utf8 (codes "doctype") s refl (omega arith) f u);
    })) (λ f. rw (e, f) (bogus_comment_utf8 s u)))

markup_utf8 : (s : List ℕ) → IsUtf8 s → ReadUtf8 (read_markup s)
markup_utf8 s u =
    test (first_is 33 s) (λ e. rw e (declaration_utf8 (drop 1 s) (after_first_utf8 33 s (omega arith) e u)))
    (λ e. test (first_is 63 s) (λ f. rw (e, f) (bogus_comment_utf8 s u))
    (λ f. test (first_is 47 s && not (begins_letter (drop 1 s))) (λ g. rw (e, f, g) (bogus_comment_utf8 (drop 1 s)
    (after_first_utf8 47 s (omega arith) (and_parts (first_is 47 s) (not (begins_letter (drop 1 s))) g).0 u)))
    (λ g. rw (e, f, g) (tag_utf8 s u))))

held_text_utf8 : (s : List ℕ) → IsUtf8 (up_to begins_markup s) → TokenUtf8 (read_text s).token
held_text_utf8 s u = search (decoded_utf8, u)

text_utf8 : (s : List ℕ) → IsUtf8 s → ReadUtf8 (read_text s)
text_utf8 s u =
    let parts = up_to_utf8 begins_markup s markup_begins u in
    record { token = held_text_utf8 s parts.0; rest = parts.1 }

section_end_utf8 : (s : List ℕ) → IsUtf8 s → IsUtf8 (after_section_end s)
section_end_utf8 s u =
    test (begins_with (codes "]]>") s) (λ e. rw e (after_beginning_utf8 (codes "]]>") s refl e u))
    (λ e. rw e IsUtf8-nil)

section_utf8 : (s : List ℕ) → IsUtf8 s → ReadUtf8 (read_section s)
section_utf8 s u =
    let parts = up_to_utf8 ends_section s section_end_begins u in
    record { token = parts.0; rest = section_end_utf8 (onward ends_section s) parts.1 }

after_section_begins : (foreign : Bool) (s : List ℕ) → begins_section foreign s ≡ true → IsUtf8 s
    → IsUtf8 (drop 9 s)
after_section_begins foreign s e u =
    after_beginning_utf8 (codes "<![CDATA[") s refl (and_parts foreign (begins_with (codes "<![CDATA[") s) e).1 u

first_less_than : (s : List ℕ) → begins_markup s ≡ true → first_is 60 s ≡ true
first_less_than [] e = absurd (cc)
first_less_than (b ∷ s) e = (and_parts (b == 60) _ e).0

piece_utf8 : (foreign : Bool) (s : List ℕ) → IsUtf8 s → ReadUtf8 (read_piece foreign s)
piece_utf8 foreign s u =
    test (is_empty s) (λ e. rw e (record { token = tt; rest = IsUtf8-nil })) (λ e. test (begins_section foreign s)
    (λ f. rw (e, f) (section_utf8 (drop 9 s) (after_section_begins foreign s f u))) (λ f. test (begins_markup s)
    (λ g. rw (e, f, g) (markup_utf8 (drop 1 s) (after_first_utf8 60 s (omega arith) (first_less_than s g) u)))
    (λ g. rw (e, f, g) (text_utf8 s u))))

-- ---- empty pieces

abbrev IfUtf8 : Option (List ℕ) → Type 0
IfUtf8 None = Unit {0}
IfUtf8 (Some rest) = IsUtf8 rest

empty_section_utf8 : (s : List ℕ) → IsUtf8 s → IfUtf8 (after_empty_section s)
empty_section_utf8 s u =
    test (is_empty s) (λ e. rw e u)
    (λ e. test (begins_with (codes "]]>") s) (λ f. rw (e, f) (after_beginning_utf8 (codes "]]>") s refl f u))
    (λ f. rw (e, f) tt))

empty_piece_utf8 : (foreign : Bool) (s : List ℕ) → IsUtf8 s → IfUtf8 (after_empty_piece foreign s)
empty_piece_utf8 foreign s u =
    test (begins_with (codes "</>") s) (λ e. rw e (after_beginning_utf8 (codes "</>") s refl e u))
    (λ e. test (begins_section foreign s)
    (λ f. rw (e, f) (empty_section_utf8 (drop 9 s) (after_section_begins foreign s f u))) (λ f. rw (e, f) tt))

or_else_utf8 : (s : List ℕ) (o : Option (List ℕ)) (go : List ℕ → List ℕ) → IsUtf8 s → IfUtf8 o
    → ((t : List ℕ) → IsUtf8 t → IsUtf8 (go t)) → IsUtf8 (or_else s o go)
or_else_utf8 s None go u h more = u
or_else_utf8 s (Some rest) go u h more = more rest h

pieces_utf8 : (k : ℕ) (s : List ℕ) (foreign : Bool) → IsUtf8 s → IsUtf8 (after_pieces k s foreign)
pieces_utf8 zero s foreign u = u
pieces_utf8 (suc k) s foreign u =
    or_else_utf8 s (after_empty_piece foreign s) (λ rest. after_pieces k rest foreign) u (empty_piece_utf8 foreign s u)
    (λ t v. pieces_utf8 k t foreign v)

-- ---- raw text

held_utf8 : (reading : _) (held s : List ℕ) → IsUtf8 held → IsUtf8 s → ReadUtf8 (read_held reading held s)
held_utf8 reading held s v u =
    test (not (is_empty held)) (λ e. rw e (record { token = decoded_utf8 reading held v; rest = u }))
    (λ e. test (first_is 60 s) (λ f. rw (e, f) (tag_utf8 (drop 1 s) (after_first_utf8 60 s (omega arith) f u)))
    (λ f. rw (e, f) (record { token = tt; rest = IsUtf8-nil })))

raw_utf8 : (element : RawElement) (s : List ℕ) → IsUtf8 s → ReadUtf8 (read_raw element s)
raw_utf8 element s u =
    let cut = raw_cut element s (raw_text_len element s) refl in
    held_utf8 (reading_of element) _ _ (IsUtf8-take s (raw_text_len element s) u cut)
    (IsUtf8-drop s (raw_text_len element s) u cut)

pub next_token_utf8 : (content : ContentModel) (foreign : Bool) (s : List ℕ) → IsUtf8 s
    → ReadUtf8 (next_token content foreign s)
next_token_utf8 Normal foreign s u = piece_utf8 foreign _ (pieces_utf8 (length s) s foreign u)
next_token_utf8 (Raw element) foreign s u = raw_utf8 element s u

-- ---- the tokens of a page

with_text_utf8 : (token : TokenValue) (more : List (List ℕ)) → TokenUtf8 token → All IsUtf8 more
    → All IsUtf8 (with_text_of token more)
with_text_utf8 (text s) more u all = All-cons IsUtf8 s more u all
with_text_utf8 _ more u all = all

texts_after_utf8 : (k : ℕ) (read : Read) (s : StateValue) → ReadUtf8 read
    → ((t : StateValue) → All IsUtf8 (texts_within k read.rest t))
    → All IsUtf8 (texts_after (texts_within k) read s)
texts_after_utf8 k read s u more =
    test (is_end read.token) (λ e. rw e (All-nil IsUtf8))
    (λ e. rw e (with_text_utf8 read.token (texts_within k read.rest (feed read.token s)) u.token
    (more (feed read.token s))))

texts_utf8 : (k : ℕ) (page : List ℕ) (s : StateValue) → IsUtf8 page → All IsUtf8 (texts_within k page s)
texts_utf8 zero page s u = All-nil IsUtf8
texts_utf8 (suc k) page s u =
    let r = next_token_utf8 s.content (not (current_is_html s.stack)) page u in
    texts_after_utf8 k (next_read page s) s r (λ t. texts_utf8 k (next_read page s).rest t r.rest)

pub tokens_utf8 : TokensAreUtf8
tokens_utf8 scripting page u =
    texts_utf8 (length (preprocessed page)) (preprocessed page) (initial_state scripting) (preprocessed_utf8 page u)
