-- What is written of normal inlines has no character that ends a line but where a break is, and is UTF-8.
use Rattle.std.proofs.Common.{◌≡◌, refl, ℕ, zero, suc, ◌+◌, Bool, true, false, List, [], ◌∷◌, ◌++◌, Option, Some, None}
use Rattle.std.proofs.Common.{codes, arith, ap, ◌∙◌}
use Rattle.std.specs.Prelude.{length, not, ◌-◌, ◌&&◌, ◌||◌, ◌==◌, ◌/◌, ◌%◌, replicate, nat_lt, take}
use Rattle.std.specs.List.{list_all}
use Rattle.std.specs.Str.{is_utf8}
use Rattle.std.specs.Char.{is_ascii_digit}
use Rattle.std.specs.Fmt.{decimal, digits, digits_onto, digit_glyph}
use Rattle.std.proofs.lemmas.Bool.{and_parts, and_from}
use Rattle.std.proofs.lemmas.Bool.Decides.{nat_tests}
use Rattle.htmd_text.specs.EscapedPlaces.{with_backslashes}
use Rattle.htmd_document.specs.Formats.{Format}
use Rattle.htmd_document.specs.Documents.{Inline, text, code, formatted, link, image, line_break, task}
use Rattle.htmd_document.specs.Documents.{Inlines, no_inlines, inline}
use Rattle.htmd_markdown.specs.declared.link.LinkStyle.{LinkStyle}
use Rattle.htmd_markdown.specs.declared.link.LinkStyle.TheVariants.{Inlined, InlinedPreferAutolinks, Referenced}
use Rattle.htmd_markdown.specs.declared.line_break.BrStyle.{BrStyle}
use Rattle.htmd_markdown.specs.declared.line_break.BrStyle.TheVariants.{TwoSpaces, Backslash}
use Rattle.htmd_markdown.specs.LineBreaks as breaks
use Rattle.htmd_markdown.specs.CodeSpans.{meets_delimiter, smallest_unused_len, space_if}
use Rattle.htmd_document.specs.Tags as html
use Rattle.htmd_document.specs.Documents.{anchor}
use Rattle.htmd_commonmark.specs.declared.line.Line.{Line}
use Rattle.htmd_commonmark.specs.declared.inline_ends.Following.{Following}
use Rattle.htmd_commonmark.specs.declared.text_escape.Place.{Place}
use Rattle.htmd_commonmark.specs.Addresses.{escaped_in, needs_brackets, destination, title}
use Rattle.htmd_commonmark.specs.BlockMarkdown.{has_break, is_or_has_break}
use Rattle.htmd_commonmark.specs.CodeSpans.{code_span}
use Rattle.htmd_commonmark.specs.InlineEnds.{follows}
use Rattle.htmd_commonmark.specs.InlineMarkdown.{written, with_inline, sides_of, written_code, needs_tags}
use Rattle.htmd_commonmark.specs.InlineMarkdown.{place_in_tags, written_break, written_resource, place_of_description}
use Rattle.htmd_commonmark.specs.InlineMarkdown.{reference_number, definition, is_autolinked, in_link}
use Rattle.htmd_commonmark.specs.InlineMarkdown.{is_end_of_heading, ends_in_closing_signs, place_of}
use Rattle.htmd_commonmark.specs.TextEscapes.{escaped, is_marked}
use Rattle.htmd_commonmark.specs.WrittenText.{Written, wrote, is_one_line}
use Rattle.htmd_law_blocks.specs.LineTexts as texts
use Rattle.htmd_document.specs.NormalInlines as normal
use Rattle.htmd_document.specs.NormalInlines.{is_normal, are_normal, is_text, is_trimmed, is_line, is_attribute, is_title, is_kept}
use Rattle.htmd_law_inlines.proofs.AnchorValues.{plain_byte}
use Rattle.htmd_law_inlines.proofs.TextPieces.{test, differs}
use Rattle.htmd_law_inlines.proofs.AddressPieces.{bare_signs, piece_cases}
use Rattle.htmd_law_texts.proofs.WrittenPieces.{pieces, piece, text_piece, link_end, Row, row_sign, row_signs, star}
use Rattle.htmd_law_texts.proofs.WrittenPieces.{stars, score, scores, tildes, Tag, em_tag, strong_tag, del_tag, sup_tag}
use Rattle.htmd_law_texts.proofs.WrittenPieces.{sub_tag, ins_tag, u_tag, mark_tag, small_tag, kbd_tag, abbr_tag, opener}
use Rattle.htmd_law_texts.proofs.WrittenPieces.{closer, is_titled, format_title, mark_cases}

-- ---- classes of characters

pub all_append : (p : ℕ → Bool) (s t : List ℕ) → list_all p s ≡ true → list_all p t ≡ true
    → list_all p (s ++ t) ≡ true
all_append p [] t a b = b
all_append p (c ∷ s) t a b =
    let h = and_parts (p c) (list_all p s) a in and_from (p c) (list_all p (s ++ t)) h.0 (all_append p s t h.1 b)

pub all_replicate : (p : ℕ → Bool) (n c : ℕ) → p c ≡ true → list_all p (replicate n c) ≡ true
all_replicate p zero c h = refl
all_replicate p (suc n) c h = and_from (p c) (list_all p (replicate n c)) h (all_replicate p n c h)

pub all_take : (p : ℕ → Bool) (n : ℕ) (s : List ℕ) → list_all p s ≡ true → list_all p (take n s) ≡ true
all_take p zero s h = refl
all_take p (suc n) [] h = refl
all_take p (suc n) (c ∷ s) h =
    let q = and_parts (p c) (list_all p s) h in and_from (p c) (list_all p (take n s)) q.0 (all_take p n s q.1)

pub all_by : (p q : ℕ → Bool) → ((c : ℕ) → p c ≡ true → q c ≡ true) → (s : List ℕ)
    → list_all p s ≡ true
    → list_all q s ≡ true
all_by p q h [] a = refl
all_by p q h (c ∷ s) a =
    let b = and_parts (p c) (list_all p s) a in and_from (q c) (list_all q s) (h c b.0) (all_by p q h s b.1)

-- no carriage return and no U+0000, and no line feed unless breaks are there
abbrev pub is_allowed : Bool → ℕ → Bool
is_allowed b c = texts.is_line_character c && (not (c == 10) || b)

pub plain_allowed : (b : Bool) (c : ℕ) → normal.is_line_byte c ≡ true → is_allowed b c ≡ true
plain_allowed b c h =
    rw (
      differs normal.is_line_byte c 13 h refl,
      differs normal.is_line_byte c 0 h refl,
      differs normal.is_line_byte c
          10 h refl,
    )
    refl

pub kept_allowed : (b : Bool) (c : ℕ) → is_kept c ≡ true → is_allowed b c ≡ true
kept_allowed b c h =
    rw (differs is_kept c 13 h refl, differs is_kept c 0 h refl, differs is_kept c 10 h refl) refl

digit_allowed : (b : Bool) (c : ℕ) → is_ascii_digit c ≡ true → is_allowed b c ≡ true
digit_allowed b c h =
    rw (differs is_ascii_digit c 13 h refl, differs is_ascii_digit c 0 h refl, differs is_ascii_digit c 10 h refl) refl

-- ---- numbers

digit_is : (n : ℕ) → is_ascii_digit (digit_glyph false (n % 10)) ≡ true
digit_is n =
    let e : nat_lt (n % 10) 10 ≡ true = grind (arith, nat_tests) in
    let d : is_ascii_digit (48 + n % 10) ≡ true = grind (arith, nat_tests) in rw e d

digits_all : (k n : ℕ) (acc : List ℕ) → list_all is_ascii_digit acc ≡ true
    → list_all is_ascii_digit (digits_onto k 10 false n acc) ≡ true
digits_all zero n acc h = h
digits_all (suc k) n acc h =
    let more = and_from (is_ascii_digit (digit_glyph false (n % 10))) (list_all is_ascii_digit acc) (digit_is n) h in
    test (n / 10 == 0) (λ e. rw e more) (λ e. rw e (digits_all k (n / 10) (digit_glyph false (n % 10) ∷ acc) more))

pub decimal_digits : (n : ℕ) → list_all is_ascii_digit (decimal n) ≡ true
unfolding digits
decimal_digits n = digits_all 64 n [] refl

-- ---- pieces

pub escaped_all : (p : ℕ → Bool) (marked : ℕ → Bool) (k : ℕ) (s : List ℕ) → p 92 ≡ true
    → list_all p s ≡ true
    → list_all p (with_backslashes marked k s) ≡ true
escaped_all p marked k [] b h = refl
escaped_all p marked k (c ∷ s) b h =
    let q = and_parts (p c) (list_all p s) h in
    let i = and_from (p c) (list_all p (with_backslashes marked (suc k) s)) q.0
    (escaped_all p marked (suc k) s b q.1) in
    test (marked k)
    (λ e. rw e (and_from (p 92) (list_all p (c ∷ with_backslashes marked (suc k) s)) b i)) (λ e. rw e i)

text_all : (b : Bool) (place : Place) (s : List ℕ) → list_all normal.is_line_byte s ≡ true
    → list_all (is_allowed b) (escaped place s) ≡ true
text_all b place s h =
    escaped_all (is_allowed b) (is_marked place s) 0 s refl
    (all_by normal.is_line_byte (is_allowed b) (plain_allowed b) s h)

piece_all : (b : Bool) (line : Line) (so_far : List ℕ) (f : Following) (s : List ℕ)
    → list_all normal.is_line_byte s ≡ true → list_all (is_allowed b) (text_piece line so_far f s) ≡ true
piece_all b line so_far f s h =
    let t = escaped (place_of line so_far f.after) s in
    let a = text_all b (place_of line so_far f.after) s h in
    test (is_end_of_heading line f && ends_in_closing_signs t)
    (λ e. rw e (all_append (is_allowed b) (take (length t - 1) t) (codes "\\#")
    (all_take (is_allowed b) (length t - 1) t a) refl))
    (λ e. rw e a)

pad_all : (b x : Bool) → list_all (is_allowed b) (space_if x) ≡ true
pad_all b true = refl
pad_all b false = refl

span_all : (b : Bool) (s : List ℕ) → list_all normal.is_line_byte s ≡ true
    → list_all (is_allowed b) (code_span s)
    ≡ true
span_all b s h =
    let p = is_allowed b in
    let n = smallest_unused_len s in
    let x = space_if (meets_delimiter s) in
    let g = replicate n 96 in
    let gs = all_replicate p n 96 refl in
    let xs = pad_all b (meets_delimiter s) in
    all_append p (((g ++ x) ++ s) ++ x) g
    (all_append p ((g ++ x) ++ s) x
    (all_append p (g ++ x) s (all_append p g x gs xs) (all_by normal.is_line_byte p (plain_allowed b) s h)) xs) gs

code_all : (b : Bool) (line : Line) (s : List ℕ) → list_all normal.is_line_byte s ≡ true
    → list_all (is_allowed b) (written_code line s) ≡ true
code_all b line s h =
    let e = escaped (place_in_tags line) s in
    test (needs_tags line s)
    (λ t. rw t (all_append (is_allowed b) (codes "<code>" ++ e) (codes "</code>")
    (all_append (is_allowed b) (codes "<code>") e refl (text_all b (place_in_tags line) s h)) refl))
    (λ t. rw t (span_all b s h))

address_all : (b : Bool) (signs : List ℕ) (s : List ℕ) → list_all is_kept s ≡ true
    → list_all (is_allowed b) (escaped_in signs s) ≡ true
address_all b signs [] h = refl
address_all b signs (c ∷ s) h =
    let p = is_allowed b in
    let q = and_parts (is_kept c) (list_all is_kept s) h in
    let i = address_all b signs s q.1 in
    let k = and_from (p c) (list_all p (escaped_in signs s)) (kept_allowed b c q.0) i in
    piece_cases signs c s (λ e x. rw x k) (λ e x. rw x i) (λ e a x. rw x k)

pub destination_all : (b : Bool) (s : List ℕ) → list_all is_kept s ≡ true
    → list_all (is_allowed b) (destination s) ≡ true
destination_all b s h =
    test (needs_brackets s)
    (λ e. rw e (all_append (is_allowed b) (codes "<" ++ escaped_in (codes "<>") s) (codes ">")
    (address_all b (codes "<>") s h) refl))
    (λ e. rw e (address_all b bare_signs s h))

pub title_all : (b : Bool) (t : Option (List ℕ)) → is_title t ≡ true → list_all (is_allowed b) (title t)
    ≡ true
title_all b None h = refl
title_all b (Some s) h =
    let a = (and_parts _ _ (and_parts _ _ h).0).0 in
    all_append (is_allowed b) (codes " \"" ++ escaped_in (codes "\"") s) (codes "\"")
    (address_all b (codes "\"") s (and_parts (is_utf8 s) (list_all is_kept s) a).1) refl

resource_all : (b : Bool) (a : List ℕ) (t : Option (List ℕ)) → list_all is_kept a ≡ true → is_title t ≡ true
    → list_all (is_allowed b) (written_resource a t) ≡ true
resource_all b a t h k =
    all_append (is_allowed b) ((codes "](" ++ destination a) ++ title t) (codes ")")
    (all_append (is_allowed b) (codes "](" ++ destination a) (title t) (destination_all b a h) (title_all b t k)) refl

number_all : (b : Bool) (n : ℕ) → list_all (is_allowed b) (reference_number n) ≡ true
number_all b n =
    all_append (is_allowed b) (codes "][" ++ decimal n) (codes "]")
    (all_by is_ascii_digit (is_allowed b) (digit_allowed b) (decimal n) (decimal_digits n)) refl

pub definition_all : (b : Bool) (n : ℕ) (a : List ℕ) (t : Option (List ℕ)) → list_all is_kept a ≡ true
    → is_title t ≡ true → list_all (is_allowed b) (definition n a t) ≡ true
definition_all b n a t h k =
    all_append (is_allowed b) (((codes "[" ++ decimal n) ++ codes "]: ") ++ destination a) (title t)
    (all_append (is_allowed b) ((codes "[" ++ decimal n) ++ codes "]: ") (destination a)
    (all_append (is_allowed b) (codes "[" ++ decimal n) (codes "]: ")
    (all_by is_ascii_digit (is_allowed b) (digit_allowed b) (decimal n) (decimal_digits n)) refl)
    (destination_all b a h))
    (title_all b t k)

pub end_all : (b : Bool) (style : LinkStyle) (n : ℕ) (a : List ℕ) (t : Option (List ℕ)) → list_all is_kept a
    ≡ true
    → is_title t ≡ true → list_all (is_allowed b) (link_end style n a t) ≡ true
end_all b Referenced n a t h k = number_all b (suc n)
end_all b Inlined n a t h k = resource_all b a t h k
end_all b InlinedPreferAutolinks n a t h k = resource_all b a t h k

style_all : (style : BrStyle) → list_all (is_allowed true) (breaks.line_break style) ≡ true
style_all TwoSpaces = refl
style_all Backslash = refl

break_all : (b : Bool) (line : Line) → (b || is_one_line line.kind) ≡ true
    → list_all (is_allowed b) (written_break line) ≡ true
break_all b line h = test (is_one_line line.kind) (λ e. rw e refl) (λ e. rw e (styled b (rw e at h)))
  where
    styled : (b : Bool) → (b || false) ≡ true → list_all (is_allowed b) (breaks.line_break line.br_style) ≡ true
    styled true h = style_all line.br_style
    styled false h = absurd (cc)

-- ---- all inlines

-- breaks end lines, or there are none, or the class has their line feeds
abbrev pub allows : Bool → Line → Bool → Bool
allows b line breaks = b || is_one_line line.kind || not breaks

allows_break : (b : Bool) (line : Line) → allows b line true ≡ true → (b || is_one_line line.kind) ≡ true
allows_break b line h = test (b || is_one_line line.kind) (λ e. e)
    (λ e. let x : false ≡ true = rw e at h in absurd (cc))

allows_first : (b : Bool) (line : Line) (x y : Bool) → allows b line (x || y) ≡ true → allows b line x ≡ true
allows_first b line x y h = test (b || is_one_line line.kind) (λ e. rw e refl) (λ e. rw e (first x y (rw e at h)))
  where
    first : (x y : Bool) → not (x || y) ≡ true → not x ≡ true
    first true y h = h
    first false y h = refl

allows_rest : (b : Bool) (line : Line) (x y : Bool) → allows b line (x || y) ≡ true → allows b line y ≡ true
allows_rest b line x y h = test (b || is_one_line line.kind) (λ e. rw e refl) (λ e. rw e (rest x y (rw e at h)))
  where
    rest : (x y : Bool) → not (x || y) ≡ true → not y ≡ true
    rest true y h = absurd (cc)
    rest false y h = h

abbrev pub AllIn : Bool → List ℕ → Type 0
AllIn b s = list_all (is_allowed b) s ≡ true

pub row_all : (b : Bool) (r : Row) → AllIn b (row_signs r)
row_all b star = refl
row_all b stars = refl
row_all b score = refl
row_all b scores = refl
row_all b tildes = refl

pub text_plain : (s : List ℕ) → is_text s ≡ true → list_all normal.is_line_byte s ≡ true
text_plain s h = (and_parts _ _ (and_parts _ _ (and_parts _ _ h).0).0).1

-- the value of an attribute
byte_all : (b : Bool) (c : ℕ) → normal.is_line_byte c ≡ true
    → list_all (is_allowed b) (html.in_value c) ≡ true
byte_all b c h =
    test (c == 38) (λ e. rw e refl)
    (λ n1. test (c == 60) (λ e. rw (n1, e) refl)
    (λ n2. test (c == 62) (λ e. rw (n1, n2, e) refl)
    (λ n3. test (c == 34) (λ e. rw (n1, n2, n3, e) refl)
    (λ n4. test (c == 124) (λ e. rw (n1, n2, n3, n4, e) refl)
    (λ n5. test (c == 93) (λ e. rw (n1, n2, n3, n4, n5, e) refl)
    (λ n6. ap (list_all (is_allowed b)) (plain_byte c n1 n2 n3 n4 n5 n6) ∙ rw (plain_allowed b c h) refl))))))

value_all : (b : Bool) (s : List ℕ) → list_all normal.is_line_byte s ≡ true
    → list_all (is_allowed b) (html.escaped_value s) ≡ true
value_all b [] h = refl
value_all b (c ∷ s) h =
    let p = and_parts (normal.is_line_byte c) (list_all normal.is_line_byte s) h in
    all_append (is_allowed b) (html.in_value c) (html.escaped_value s) (byte_all b c p.0) (value_all b s p.1)

pub opener_all : (b : Bool) (t : Tag) → is_titled t ≡ true → AllIn b (opener t)
opener_all b em_tag h = refl
opener_all b strong_tag h = refl
opener_all b del_tag h = refl
opener_all b sup_tag h = refl
opener_all b sub_tag h = refl
opener_all b ins_tag h = refl
opener_all b u_tag h = refl
opener_all b mark_tag h = refl
opener_all b small_tag h = refl
opener_all b kbd_tag h = refl
opener_all b (abbr_tag title) h =
    let v = value_all b title (text_plain title (and_parts (is_text title) (is_trimmed title) h).0) in
    all_append (is_allowed b) (codes "<abbr title=\"" ++ html.escaped_value title) (codes "\">")
    (all_append (is_allowed b) (codes "<abbr title=\"") (html.escaped_value title) refl v) refl

pub closer_all : (b : Bool) (t : Tag) → AllIn b (closer t)
closer_all b em_tag = refl
closer_all b strong_tag = refl
closer_all b del_tag = refl
closer_all b sup_tag = refl
closer_all b sub_tag = refl
closer_all b ins_tag = refl
closer_all b u_tag = refl
closer_all b mark_tag = refl
closer_all b small_tag = refl
closer_all b kbd_tag = refl
closer_all b (abbr_tag title) = refl

mutual
  pub pieces_all : (b : Bool) (line : Line) (w : Written) (closing : Option ℕ) (around : List Format) (xs : Inlines)
      → are_normal line.in_link around xs ≡ true → allows b line (has_break xs) ≡ true
      → AllIn b (pieces line w closing xs)
  pieces_all b line w closing around no_inlines h a = refl
  pieces_all b line w closing around (inline x rest) h a =
      let f = follows line.kind closing rest in
      let p = and_parts _ (are_normal line.in_link around rest) h in
      all_append (is_allowed b) (piece line w f x) (pieces line (with_inline line w f x) closing rest)
      (piece_in b line w f around x (and_parts (is_normal line.in_link around x) _ p.0).0
      (allows_first b line (is_or_has_break x) (has_break rest) a))
      (pieces_all b line (with_inline line w f x) closing around rest p.1
      (allows_rest b line (is_or_has_break x) (has_break rest) a))

  pub piece_in : (b : Bool) (line : Line) (w : Written) (f : Following) (around : List Format) (x : Inline)
      → is_normal line.in_link around x ≡ true → allows b line (is_or_has_break x) ≡ true
      → AllIn b (piece line w f x)
  piece_in b line w f around (text s) h a = piece_all b line w.text f s (text_plain s h)
  piece_in b line w f around (code s) h a = code_all b line s (text_plain s (and_parts _ _ h).0)
  piece_in b line w f around (formatted format content) h a =
      let p = (and_parts _ (are_normal line.in_link (format ∷ around) content) h).1 in
      mark_cases (λ g m. AllIn b (m.opener ++ (pieces line (wrote w m.opener) (Some m.sign) content ++ m.closer)))
      format (sides_of line w.text f content)
      (λ r e. let o = row_signs r in
      let t = pieces line (wrote w o) (Some (row_sign r)) content in
      all_append (is_allowed b) o (t ++ o) (row_all b r)
      (all_append (is_allowed b) t o (pieces_all b line (wrote w o) (Some (row_sign r)) (format ∷ around) content p a)
      (row_all b r)))
      (λ r i. let o = opener r in
      let t = pieces line (wrote w o) (Some 60) content in
      all_append (is_allowed b) o (t ++ closer r)
      (opener_all b r (i (format_title line.in_link around format content h)))
      (all_append (is_allowed b) t (closer r) (pieces_all b line (wrote w o) (Some 60) (format ∷ around) content p a)
      (closer_all b r)))
  piece_in b line w f around (link address name content) h a =
      let p = and_parts _ (are_normal true around content) h in
      let q = and_parts _ (is_title name) (and_parts _ _ p.0).0 in
      let r = (and_parts (is_utf8 address) (list_all is_kept address) (and_parts _ _ q.0).1).1 in
      let v = wrote w (codes "[") in
      let n = length (written (in_link line) v (Some 93) content).definitions in
      let t = pieces (in_link line) v (Some 93) content in
      test (is_autolinked line address name content)
      (λ e. rw e (all_append (is_allowed b) (codes "<" ++ address) (codes ">")
      (all_by is_kept (is_allowed b) (kept_allowed b) address r) refl))
      (λ e. rw e (all_append (is_allowed b) t (link_end line.link_style n address name)
      (pieces_all b (in_link line) v (Some 93) around content p.1 a) (end_all b line.link_style n address name r q.1)))
  piece_in b line w f around (image address name description) h a =
      let p = and_parts _ (is_line description) h in
      let q = and_parts (is_attribute address) (is_title name) p.0 in
      let d = escaped place_of_description description in
      all_append (is_allowed b) (codes "![" ++ d) (written_resource address name)
      (text_all b place_of_description description (and_parts (is_utf8 description) _ p.1).1)
      (resource_all b address name (and_parts (is_utf8 address) (list_all is_kept address) q.0).1 q.1)
  piece_in b line w f around (anchor id) h a =
      let p = and_parts (not line.in_link && is_text id) _ h in
      let v = value_all b id (text_plain id (and_parts (not line.in_link) (is_text id) p.0).1) in
      all_append (is_allowed b) (html.anchor_tag id) html.end_of_anchor
      (all_append (is_allowed b) (codes "<a id=\"" ++ html.escaped_value id) (codes "\">")
      (all_append (is_allowed b) (codes "<a id=\"") (html.escaped_value id) refl v) refl) refl
  piece_in b line w f around line_break h a = break_all b line (allows_break b line a)
  piece_in b line w f around (task is_checked) h a = absurd (cc)
