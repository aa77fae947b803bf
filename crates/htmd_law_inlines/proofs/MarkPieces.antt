-- The mark of a format is a row of signs that fits, or a pair of tags.
use Rattle.std.proofs.Common.{◌≡◌, ◌∙◌, refl, sym, ap, subst, ℕ, Bool, true, not, List, [], ◌∷◌, ◌++◌, codes, length}
use Rattle.std.proofs.Common.{false}
use Rattle.std.specs.Prelude.{◌&&◌}
use Rattle.std.specs.List.{list_all}
use Rattle.std.specs.Str.{IsUtf8, is_utf8}
use Rattle.std.proofs.lemmas.Bool.{and_parts}
use Rattle.std.proofs.lemmas.List.{append_assoc}
use Rattle.std.proofs.lemmas.Str.{IsUtf8-from_is_utf8}
use Rattle.htmd_lexical.specs.Characters.{is_one_of}
use Rattle.htmd_lexical.specs.CharacterClasses.{is_empty}
use Rattle.htmd_document.specs.Formats.{Format}
use Rattle.htmd_document.specs.Formats.{Emphasis, Strong, Deleted, Superscript, Subscript, Inserted, Underlined, Marked}
use Rattle.htmd_document.specs.Formats.{Small, Keyboard, Abbreviation}
use Rattle.htmd_document.specs.NormalInlines.{has_title, is_text, is_trimmed, is_line, is_line_byte, has_double_space}
use Rattle.htmd_document.specs.Tags.{escaped_value, abbreviation_tag}
use Rattle.htmd_commonmark.specs.declared.marks.Sides.{Sides}
use Rattle.htmd_commonmark.specs.Marks.{Mark, fits, mark_for, tags}
use Rattle.htmd_commonmark.specs.Marks as writer
use Rattle.htmd_commonmark_reading.specs.Markup.{Inlines, no_inlines, formatted, raw, joined}
use Rattle.htmd_commonmark_reading.specs.Brackets.{References}
use Rattle.htmd_commonmark_reading.specs.InlineTokens.{angle}
use Rattle.htmd_commonmark_reading.specs.SeenMarkup.{abbreviation, role_by_title}
use Rattle.htmd_law_inlines.specs.PlainReadings.{is_break_tag}
use Rattle.htmd_law_inlines.proofs.Pieces.{IsRead}
use Rattle.htmd_law_inlines.proofs.TextPieces.{test}
use Rattle.htmd_law_inlines.proofs.OpenRuns.{RowFormat, row_format, IsSignOf, one, two, tildes}
use Rattle.htmd_law_inlines.proofs.Nested.{row_text}
use Rattle.htmd_law_inlines.proofs.SeenPieces.{AreSeen, em_seen, strong_seen, del_seen, pair_seen, plain_seen}
use Rattle.htmd_law_inlines.proofs.TagPieces.{opens_em, closes_em, opens_strong, closes_strong, opens_del, closes_del}
use Rattle.htmd_law_inlines.proofs.TagPieces.{IsTag, tag_read}
use Rattle.htmd_law_inlines.proofs.AnchorPieces.{quoted, abbreviation_utf8}
use Rattle.htmd_law_inlines.proofs.AnchorValues.{unquoted, title_read}
use lib.Utf8.{encode}

-- a row of signs, on both sides
pub record IsRowMark (f : Format) (s : Sides) (m : Mark) : Type 0 where
  pub row : RowFormat
  pub sign : ℕ
  pub is : m ≡ writer.row sign (row_text row sign)
  pub means : row_format row ≡ f
  pub has_sign : IsSignOf row sign
  pub is_sign : is_one_of (codes "*_~") sign ≡ true
  pub fitting : fits sign s ≡ true

-- a tag, each of whose characters but the last stand before a `>`
abbrev pub in_tag : List ℕ → List ℕ
in_tag name = 60 ∷ (name ++ codes ">")

-- a tag and its end tag
pub record AreTagMarks (f : Format) (m : Mark) : Type 0 where
  pub opening : List ℕ
  pub closing : List ℕ
  pub is : m ≡ tags (in_tag opening) (in_tag closing)
  pub opens : (refs : References) (in_link : Bool) (before ks : List ℕ)
      → IsRead refs in_link before (in_tag opening) ks (raw (in_tag opening) no_inlines)
  pub closes : (refs : References) (in_link : Bool) (before ks : List ℕ)
      → IsRead refs in_link before (in_tag closing) ks (raw (in_tag closing) no_inlines)
  pub sees : (xs ys : Inlines) → AreSeen xs ys
      → AreSeen (raw (in_tag opening) (joined xs (raw (in_tag closing) no_inlines))) (formatted f ys no_inlines)
  pub opening_utf8 : has_title f ≡ true → IsUtf8 (in_tag opening)
  pub closing_utf8 : IsUtf8 (in_tag closing)
  pub opening_stays : is_break_tag (in_tag opening) ≡ false
  pub closing_stays : is_break_tag (in_tag closing) ≡ false

em_tags : (m : Mark) → m ≡ tags (codes "<em>") (codes "</em>") → AreTagMarks Emphasis m
unfolding encode
em_tags m e = record {
  opening = codes "em";
  closing = codes "/em";
  is = e;
  opens = opens_em;
  closes = closes_em;
  sees = em_seen;
  opening_utf8 = λ h. (codes "<em>", (refl, refl));
  closing_utf8 = (codes "</em>", (refl, refl));
  opening_stays = refl;
  closing_stays = refl;
}

strong_tags : (m : Mark) → m ≡ tags (codes "<strong>") (codes "</strong>") → AreTagMarks Strong m
unfolding encode
strong_tags m e = record {
  opening = codes "strong";
  closing = codes "/strong";
  is = e;
  opens = opens_strong;
  closes = closes_strong;
  sees = strong_seen;
  opening_utf8 = λ h. (codes "<strong>", (refl, refl));
  closing_utf8 = (codes "</strong>", (refl, refl));
  opening_stays = refl;
  closing_stays = refl;
}

del_tags : (m : Mark) → m ≡ tags (codes "<del>") (codes "</del>") → AreTagMarks Deleted m
unfolding encode
del_tags m e = record {
  opening = codes "del";
  closing = codes "/del";
  is = e;
  opens = opens_del;
  closes = closes_del;
  sees = del_seen;
  opening_utf8 = λ h. (codes "<del>", (refl, refl));
  closing_utf8 = (codes "</del>", (refl, refl));
  opening_stays = refl;
  closing_stays = refl;
}

-- a tag without attributes, and its end tag
sup_tags : AreTagMarks Superscript (tags (codes "<sup>") (codes "</sup>"))
unfolding encode
sup_tags = record {
  opening = codes "sup";
  closing = codes "/sup";
  is = refl;
  opens = λ refs in_link before ks. tag_read refs in_link before (codes "sup>") ks (λ ks. refl);
  closes = λ refs in_link before ks. tag_read refs in_link before (codes "/sup>") ks (λ ks. refl);
  sees = plain_seen Superscript (codes "sup") refl refl refl;
  opening_utf8 = λ h. (codes "<sup>", (refl, refl));
  closing_utf8 = (codes "</sup>", (refl, refl));
  opening_stays = refl;
  closing_stays = refl;
}

sub_tags : AreTagMarks Subscript (tags (codes "<sub>") (codes "</sub>"))
unfolding encode
sub_tags = record {
  opening = codes "sub";
  closing = codes "/sub";
  is = refl;
  opens = λ refs in_link before ks. tag_read refs in_link before (codes "sub>") ks (λ ks. refl);
  closes = λ refs in_link before ks. tag_read refs in_link before (codes "/sub>") ks (λ ks. refl);
  sees = plain_seen Subscript (codes "sub") refl refl refl;
  opening_utf8 = λ h. (codes "<sub>", (refl, refl));
  closing_utf8 = (codes "</sub>", (refl, refl));
  opening_stays = refl;
  closing_stays = refl;
}

ins_tags : AreTagMarks Inserted (tags (codes "<ins>") (codes "</ins>"))
unfolding encode
ins_tags = record {
  opening = codes "ins";
  closing = codes "/ins";
  is = refl;
  opens = λ refs in_link before ks. tag_read refs in_link before (codes "ins>") ks (λ ks. refl);
  closes = λ refs in_link before ks. tag_read refs in_link before (codes "/ins>") ks (λ ks. refl);
  sees = plain_seen Inserted (codes "ins") refl refl refl;
  opening_utf8 = λ h. (codes "<ins>", (refl, refl));
  closing_utf8 = (codes "</ins>", (refl, refl));
  opening_stays = refl;
  closing_stays = refl;
}

u_tags : AreTagMarks Underlined (tags (codes "<u>") (codes "</u>"))
unfolding encode
u_tags = record {
  opening = codes "u";
  closing = codes "/u";
  is = refl;
  opens = λ refs in_link before ks. tag_read refs in_link before (codes "u>") ks (λ ks. refl);
  closes = λ refs in_link before ks. tag_read refs in_link before (codes "/u>") ks (λ ks. refl);
  sees = plain_seen Underlined (codes "u") refl refl refl;
  opening_utf8 = λ h. (codes "<u>", (refl, refl));
  closing_utf8 = (codes "</u>", (refl, refl));
  opening_stays = refl;
  closing_stays = refl;
}

mark_tags : AreTagMarks Marked (tags (codes "<mark>") (codes "</mark>"))
unfolding encode
mark_tags = record {
  opening = codes "mark";
  closing = codes "/mark";
  is = refl;
  opens = λ refs in_link before ks. tag_read refs in_link before (codes "mark>") ks (λ ks. refl);
  closes = λ refs in_link before ks. tag_read refs in_link before (codes "/mark>") ks (λ ks. refl);
  sees = plain_seen Marked (codes "mark") refl refl refl;
  opening_utf8 = λ h. (codes "<mark>", (refl, refl));
  closing_utf8 = (codes "</mark>", (refl, refl));
  opening_stays = refl;
  closing_stays = refl;
}

small_tags : AreTagMarks Small (tags (codes "<small>") (codes "</small>"))
unfolding encode
small_tags = record {
  opening = codes "small";
  closing = codes "/small";
  is = refl;
  opens = λ refs in_link before ks. tag_read refs in_link before (codes "small>") ks (λ ks. refl);
  closes = λ refs in_link before ks. tag_read refs in_link before (codes "/small>") ks (λ ks. refl);
  sees = plain_seen Small (codes "small") refl refl refl;
  opening_utf8 = λ h. (codes "<small>", (refl, refl));
  closing_utf8 = (codes "</small>", (refl, refl));
  opening_stays = refl;
  closing_stays = refl;
}

kbd_tags : AreTagMarks Keyboard (tags (codes "<kbd>") (codes "</kbd>"))
unfolding encode
kbd_tags = record {
  opening = codes "kbd";
  closing = codes "/kbd";
  is = refl;
  opens = λ refs in_link before ks. tag_read refs in_link before (codes "kbd>") ks (λ ks. refl);
  closes = λ refs in_link before ks. tag_read refs in_link before (codes "/kbd>") ks (λ ks. refl);
  sees = plain_seen Keyboard (codes "kbd") refl refl refl;
  opening_utf8 = λ h. (codes "<kbd>", (refl, refl));
  closing_utf8 = (codes "</kbd>", (refl, refl));
  opening_stays = refl;
  closing_stays = refl;
}

-- the tag of an abbreviation, which has a title

abbrev titled : List ℕ → List ℕ
titled title = codes "abbr title=\"" ++ escaped_value title ++ codes "\""

titled_is : (title : List ℕ) → abbreviation_tag title ≡ in_tag (titled title)
titled_is title =
    sym (append_assoc (codes "<abbr title=\"" ++ escaped_value title) (codes "\"") (codes ">"))

title_tag : (title : List ℕ) → IsTag (titled title ++ codes ">")
title_tag title ks =
    let v = escaped_value title in
    let a = codes "abbr title=\"" in
    let e : (titled title ++ codes ">") ++ ks ≡ a ++ (v ++ (34 ∷ 62 ∷ ks)) =
    append_assoc (titled title) (codes ">") ks ∙ append_assoc (a ++ v) (codes "\"") (62 ∷ ks)
    ∙ append_assoc a v (34 ∷ 62 ∷ ks) in
    let f : titled title ++ codes ">" ≡ a ++ (v ++ (34 ∷ 62 ∷ [])) =
    append_assoc (a ++ v) (codes "\"") (codes ">") ∙ append_assoc a v (34 ∷ 62 ∷ []) in
    ap angle e ∙ rw (quoted v ks (unquoted title))
    (ap (λ t. record { content = raw (60 ∷ t) no_inlines; following = length t }) (sym f))

title_seen : (title : List ℕ) (xs ys : Inlines) → AreSeen xs ys
    → AreSeen (raw (in_tag (titled title)) (joined xs (raw (codes "</abbr>") no_inlines)))
    (formatted (Abbreviation title) ys no_inlines)
title_seen title xs ys h =
    subst (λ (o : List ℕ). AreSeen (raw o (joined xs (raw (codes "</abbr>") no_inlines)))
    (formatted (Abbreviation title) ys no_inlines)) (titled_is title)
    (pair_seen (Abbreviation title) (abbreviation_tag title) (codes "</abbr>") (abbreviation title) (abbreviation [])
    (ap (λ o. role_by_title o (abbreviation_tag title)) (title_read title)) refl refl refl xs ys h)

abbr_tags : (title : List ℕ)
    → AreTagMarks (Abbreviation title) (tags (abbreviation_tag title) (codes "</abbr>"))
unfolding encode
abbr_tags title = record {
  opening = titled title;
  closing = codes "/abbr";
  is = ap (λ o. tags o (codes "</abbr>")) (titled_is title);
  opens = λ refs in_link before ks.
      tag_read refs in_link before (titled title ++ codes ">") ks (title_tag title);
  closes = λ refs in_link before ks. tag_read refs in_link before (codes "/abbr>") ks (λ ks. refl);
  sees = title_seen title;
  opening_utf8 = λ h. subst IsUtf8 (titled_is title) (abbreviation_utf8 title (titled_utf8 title h));
  closing_utf8 = (codes "</abbr>", (refl, refl));
  opening_stays = refl;
  closing_stays = refl;
}
  where
    titled_utf8 : (title : List ℕ) → has_title (Abbreviation title) ≡ true → IsUtf8 title
    titled_utf8 title h =
        let t = (and_parts (is_text title) (is_trimmed title) h).0 in
        let l = (and_parts (is_line title && not (is_empty title)) (not (has_double_space title)) t).0 in
        let u = (and_parts (is_line title) (not (is_empty title)) l).0 in
        IsUtf8-from_is_utf8 title (and_parts (is_utf8 title) (list_all is_line_byte title) u).0

-- what holds of rows and of tags holds of the mark
pub mark_cases : {P : Type 0} (f : Format) (s : Sides) → (IsRowMark f s (mark_for f s) → P)
    → (AreTagMarks f (mark_for f s) → P) → P
mark_cases Emphasis s x y =
    test (fits 42 s)
    (λ e. x (record {
      row = one;
      sign = 42;
      is = rw e refl;
      means = refl;
      has_sign = refl;
      is_sign = refl;
      fitting = e;
    }))
    (λ e. test (fits 95 s)
    (λ g. x (record {
      row = one;
      sign = 95;
      is = rw (e, g) refl;
      means = refl;
      has_sign = refl;
      is_sign = refl;
      fitting = g;
    }))
    (λ g. y (em_tags (mark_for Emphasis s) (rw (e, g) refl))))
mark_cases Strong s x y =
    test (fits 42 s)
    (λ e. x (record {
      row = two;
      sign = 42;
      is = rw e refl;
      means = refl;
      has_sign = refl;
      is_sign = refl;
      fitting = e;
    }))
    (λ e. test (fits 95 s)
    (λ g. x (record {
      row = two;
      sign = 95;
      is = rw (e, g) refl;
      means = refl;
      has_sign = refl;
      is_sign = refl;
      fitting = g;
    }))
    (λ g. y (strong_tags (mark_for Strong s) (rw (e, g) refl))))
mark_cases Deleted s x y =
    test (fits 126 s)
    (λ e. x (record {
      row = tildes;
      sign = 126;
      is = rw e refl;
      means = refl;
      has_sign = refl;
      is_sign = refl;
      fitting = e;
    }))
    (λ e. y (del_tags (mark_for Deleted s) (rw e refl)))
mark_cases Superscript s x y = y sup_tags
mark_cases Subscript s x y = y sub_tags
mark_cases Inserted s x y = y ins_tags
mark_cases Underlined s x y = y u_tags
mark_cases Marked s x y = y mark_tags
mark_cases Small s x y = y small_tags
mark_cases Keyboard s x y = y kbd_tags
mark_cases (Abbreviation title) s x y = y (abbr_tags title)
