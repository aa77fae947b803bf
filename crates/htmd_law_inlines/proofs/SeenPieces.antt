-- Inlines as they are seen: raw tags of the writer are formats, codes and breaks; and the document that they are.
use Rattle.std.proofs.Common.{◌≡◌, ◌∙◌, refl, ap, sym, ℕ, Bool, true, false, List, [], ◌∷◌, ◌++◌, Option, Some, codes}
use Rattle.std.specs.Prelude.{not, ◌&&◌, if◌then◌else◌}
use Rattle.std.specs.Str.{bytes_eq}
use Rattle.std.proofs.lemmas.Bool.{and_parts, not-true}
use Rattle.htmd_lexical.specs.CharacterClasses.{is_empty}
use Rattle.htmd_document.specs.Formats.{Format}
use Rattle.htmd_document.specs.Formats.{Emphasis, Strong, Deleted}
use Rattle.htmd_document.specs.Documents as document
use Rattle.htmd_document.specs.Tags.{anchor_tag, end_of_anchor}
use Rattle.htmd_commonmark_reading.specs.Markup.{Inlines, no_inlines, letter, code, formatted, link, image, line_break}
use Rattle.htmd_commonmark_reading.specs.Markup.{task, raw, joined, letters, plain_text}
use Rattle.htmd_commonmark_reading.specs.SeenMarkup.{Tag, plain_tag, format_pair, code_pair, role, opens, closes}
use Rattle.htmd_commonmark_reading.specs.SeenMarkup.{Tags, outside, inside, with_seen, with_raw, closed_tag, all_seen}
use Rattle.htmd_commonmark_reading.specs.SeenMarkup.{is_text_alone, paired, seen, seen_inlines, document_inlines}
use Rattle.htmd_commonmark_reading.specs.SeenMarkup.{with_letter, with_first, with_content, with_anchor}
use Rattle.htmd_document.specs.NormalInlines.{is_normal, are_normal, meets, is_text, is_line, has_double_space}
use Rattle.htmd_document.specs.NormalInlines.{is_barred, has_title, has_none, are_whole, is_attribute, is_title}
use Rattle.htmd_law_inlines.proofs.Pieces.{joined_joined, joined_none}
use Rattle.htmd_law_inlines.proofs.AnchorValues.{id_of}

-- ---- seen pieces

pub seen_twice : (b : Tags) (xs ys : Inlines) → with_seen (with_seen b xs) ys ≡ with_seen b (joined xs ys)
seen_twice (outside items) xs ys = ap outside (joined_joined items xs ys)
seen_twice (inside t items below) xs ys = ap (λ i. inside t i below) (joined_joined items xs ys)

seen_none : (b : Tags) → with_seen b no_inlines ≡ b
seen_none (outside items) = ap outside (joined_none items)
seen_none (inside t items below) = ap (λ i. inside t i below) (joined_none items)

seen_joined : (xs ys : Inlines) (b : Tags) → seen b (joined xs ys) ≡ seen (seen b xs) ys
seen_joined no_inlines ys b = refl
seen_joined (letter c xs) ys b = seen_joined xs ys _
seen_joined (code s xs) ys b = seen_joined xs ys _
seen_joined (formatted f content xs) ys b = seen_joined xs ys _
seen_joined (link a t content xs) ys b = seen_joined xs ys _
seen_joined (image a t content xs) ys b = seen_joined xs ys _
seen_joined (line_break xs) ys b = seen_joined xs ys _
seen_joined (task d xs) ys b = seen_joined xs ys _
seen_joined (raw tag xs) ys b = seen_joined xs ys _

-- inlines are seen as others, whatever tags are open
abbrev pub AreSeen : Inlines → Inlines → Type 0
AreSeen xs ys = (b : Tags) → seen b xs ≡ with_seen b ys

pub none_seen : AreSeen no_inlines no_inlines
none_seen b = sym (seen_none b)

pub both_seen : (xs xs' ys ys' : Inlines) → AreSeen xs xs' → AreSeen ys ys'
    → AreSeen (joined xs ys) (joined xs' ys')
both_seen xs xs' ys ys' h k b =
    seen_joined xs ys b ∙ ap (λ c. seen c ys) (h b) ∙ k (with_seen b xs') ∙ seen_twice b xs' ys'

pub letters_seen : (s : List ℕ) → AreSeen (letters s no_inlines) (letters s no_inlines)
letters_seen [] = none_seen
letters_seen (c ∷ s) = λ b.
    letters_seen s (with_seen b (letter c no_inlines)) ∙ seen_twice b (letter c no_inlines) (letters s no_inlines)

pub code_seen : (s : List ℕ) → AreSeen (code s no_inlines) (code s no_inlines)
code_seen s b = refl

pub break_seen : AreSeen (line_break no_inlines) (line_break no_inlines)
break_seen b = refl

pub break_tag_seen : AreSeen (raw (codes "<br>") no_inlines) (line_break no_inlines)
break_tag_seen b = refl

-- the content of a format or link
pub content_seen : (xs ys : Inlines) → AreSeen xs ys → all_seen (seen (outside no_inlines) xs) no_inlines ≡ ys
content_seen xs ys h = ap (λ b. all_seen b no_inlines) (h (outside no_inlines)) ∙ joined_none ys

pub format_seen : (f : Format) (xs ys : Inlines) → AreSeen xs ys
    → AreSeen (formatted f xs no_inlines) (formatted f ys no_inlines)
format_seen f xs ys h b = ap (λ x. with_seen b (formatted f x no_inlines)) (content_seen xs ys h)

pub link_seen : (a : List ℕ) (t : Option (List ℕ)) (xs ys : Inlines) → AreSeen xs ys
    → AreSeen (link a t xs no_inlines) (link a t ys no_inlines)
link_seen a t xs ys h b = ap (λ x. with_seen b (link a t x no_inlines)) (content_seen xs ys h)

pub plain_letters : (s : List ℕ) → plain_text (letters s no_inlines) ≡ s
plain_letters [] = refl
plain_letters (c ∷ s) = ap (λ l. c ∷ l) (plain_letters s)

pub image_seen : (a : List ℕ) (t : Option (List ℕ)) (s : List ℕ)
    → AreSeen (image a t (letters s no_inlines) no_inlines) (image a t (letters s no_inlines) no_inlines)
image_seen a t s b =
    ap (λ x. with_seen b (image a t (letters (plain_text x) no_inlines) no_inlines))
    (content_seen (letters s no_inlines) (letters s no_inlines) (letters_seen s))
    ∙ ap (λ x. with_seen b (image a t (letters x no_inlines) no_inlines)) (plain_letters s)

-- the tags of an anchor stay
pub anchor_seen : (id : List ℕ)
    → AreSeen (raw (anchor_tag id) (raw end_of_anchor no_inlines))
    (raw (anchor_tag id) (raw end_of_anchor no_inlines))
anchor_seen id b = seen_twice b (raw (anchor_tag id) no_inlines) (raw end_of_anchor no_inlines)

-- ---- pairs of tags

pub pair_seen : (f : Format) (o c : List ℕ) (t u : Tag) → role o ≡ opens t → role c ≡ closes u
    → bytes_eq t.name u.name ≡ true → t.pair ≡ format_pair f → (xs ys : Inlines) → AreSeen xs ys
    → AreSeen (raw o (joined xs (raw c no_inlines))) (formatted f ys no_inlines)
pair_seen f o c t u opening closing name pair xs ys h b =
    let stop = raw c no_inlines in
    let b1 = inside t no_inlines b in
    let b2 = inside t ys b in
    let made = joined ys no_inlines in
    ap (λ r. seen (with_raw b o r) (joined xs stop)) opening ∙ seen_joined xs stop b1
    ∙ ap (λ d. seen d stop) (h b1)
    ∙ ap (with_raw b2 c) closing
    ∙ ap (λ q. if q then with_seen b (paired t t.pair made)
    else closed_tag u b2 b (raw t.open_tag made)) name
    ∙ ap (λ p. with_seen b (paired t p made)) pair
    ∙ ap (λ x. with_seen b (formatted f x no_inlines)) (joined_none ys)

-- of tags without attributes
pub plain_seen : (f : Format) (name : List ℕ)
    → role (codes "<" ++ name ++ codes ">") ≡ opens (plain_tag name (format_pair f))
    → role (codes "</" ++ name ++ codes ">") ≡ closes (plain_tag name (format_pair f))
    → bytes_eq name name ≡ true → (xs ys : Inlines) → AreSeen xs ys
    → AreSeen (raw (codes "<" ++ name ++ codes ">") (joined xs (raw (codes "</" ++ name ++ codes ">") no_inlines)))
    (formatted f ys no_inlines)
plain_seen f name opening closing same xs ys h =
    let t = plain_tag name (format_pair f) in
    pair_seen f (codes "<" ++ name ++ codes ">") (codes "</" ++ name ++ codes ">") t t opening closing same refl xs ys h

pub em_seen : (xs ys : Inlines) → AreSeen xs ys
    → AreSeen (raw (codes "<em>") (joined xs (raw (codes "</em>") no_inlines))) (formatted Emphasis ys no_inlines)
em_seen = plain_seen Emphasis (codes "em") refl refl refl

pub strong_seen : (xs ys : Inlines) → AreSeen xs ys
    → AreSeen (raw (codes "<strong>") (joined xs (raw (codes "</strong>") no_inlines)))
    (formatted Strong ys no_inlines)
strong_seen = plain_seen Strong (codes "strong") refl refl refl

pub del_seen : (xs ys : Inlines) → AreSeen xs ys
    → AreSeen (raw (codes "<del>") (joined xs (raw (codes "</del>") no_inlines))) (formatted Deleted ys no_inlines)
del_seen = plain_seen Deleted (codes "del") refl refl refl

abbrev code_tag : Tag
code_tag = plain_tag (codes "code") code_pair

letters_alone : (c : ℕ) (s : List ℕ) → is_text_alone (letters (c ∷ s) no_inlines) ≡ true
letters_alone c [] = refl
letters_alone c (d ∷ s) = letters_alone d s

pub code_tags_seen : (c : ℕ) (s : List ℕ)
    → AreSeen (raw (codes "<code>") (joined (letters (c ∷ s) no_inlines) (raw (codes "</code>") no_inlines)))
    (code (c ∷ s) no_inlines)
code_tags_seen c s b =
    let text = letters (c ∷ s) no_inlines in
    let stop = raw (codes "</code>") no_inlines in
    let b1 = seen b (raw (codes "<code>") no_inlines) in
    seen_joined text stop b1 ∙ ap (λ d. seen d stop) (letters_seen (c ∷ s) b1)
    ∙ ap (λ x. with_seen b (paired code_tag code_pair x)) (joined_none text)
    ∙ ap (λ x. with_seen b (if x then code (plain_text text) no_inlines
    else raw (codes "<code>") (joined text stop))) (letters_alone c s)
    ∙ ap (λ x. with_seen b (code x no_inlines)) (plain_letters (c ∷ s))

-- ---- the document

-- what inlines of a document are for a reader that sees tags as formats
abbrev mutual
  pub meant_inline : document.Inline → Inlines → Inlines
  meant_inline (document.text s) rest = letters s rest
  meant_inline (document.code s) rest = code s rest
  meant_inline (document.formatted f content) rest = formatted f (meant content) rest
  meant_inline (document.link a t content) rest = link a t (meant content) rest
  meant_inline (document.image a t s) rest = image a t (letters s no_inlines) rest
  meant_inline (document.anchor id) rest = raw (anchor_tag id) (raw end_of_anchor rest)
  meant_inline document.line_break rest = line_break rest
  meant_inline (document.task d) rest = task d rest

  pub meant : document.Inlines → Inlines
  meant document.no_inlines = no_inlines
  meant (document.inline x rest) = meant_inline x (meant rest)

-- inlines that don't begin with a text
abbrev pub no_text : document.Inlines → Type 0
no_text document.no_inlines = Unit {0}
no_text (document.inline (document.text s) rest) = ⊥
no_text (document.inline (document.code s) rest) = Unit {0}
no_text (document.inline (document.formatted f content) rest) = Unit {0}
no_text (document.inline (document.link a t content) rest) = Unit {0}
no_text (document.inline (document.image a t s) rest) = Unit {0}
no_text (document.inline (document.anchor i) rest) = Unit {0}
no_text (document.inline document.line_break rest) = Unit {0}
no_text (document.inline (document.task d) rest) = Unit {0}

pub last_letter : (c : ℕ) (xs : document.Inlines) → no_text xs
    → with_letter c (Some xs) ≡ Some (document.inline (document.text (c ∷ [])) xs)
last_letter c document.no_inlines h = refl
last_letter c (document.inline (document.text s) rest) h = absurd h
last_letter c (document.inline (document.code s) rest) h = refl
last_letter c (document.inline (document.formatted f content) rest) h = refl
last_letter c (document.inline (document.link a t content) rest) h = refl
last_letter c (document.inline (document.image a t s) rest) h = refl
last_letter c (document.inline (document.anchor i) rest) h = refl
last_letter c (document.inline document.line_break rest) h = refl
last_letter c (document.inline (document.task d) rest) h = refl

pub text_document : (c : ℕ) (s : List ℕ) (xs : Inlines) (rest : document.Inlines) → document_inlines xs
    ≡ Some rest
    → no_text rest → document_inlines (letters (c ∷ s) xs)
    ≡ Some (document.inline (document.text (c ∷ s)) rest)
text_document c [] xs rest e h = ap (with_letter c) e ∙ last_letter c rest h
text_document c (d ∷ s) xs rest e h = ap (with_letter c) (text_document d s xs rest e h)

pub no_text_meets : (s : List ℕ) (rest : document.Inlines) → meets (document.text s) rest ≡ true → no_text rest
no_text_meets s document.no_inlines h = tt
no_text_meets s (document.inline (document.text u) rest) h = absurd (cc)
no_text_meets s (document.inline (document.code u) rest) h = tt
no_text_meets s (document.inline (document.formatted f content) rest) h = tt
no_text_meets s (document.inline (document.link a t content) rest) h = tt
no_text_meets s (document.inline (document.image a t u) rest) h = tt
no_text_meets s (document.inline (document.anchor i) rest) h = tt
no_text_meets s (document.inline document.line_break rest) h = tt
no_text_meets s (document.inline (document.task d) rest) h = tt

full_text : (s : List ℕ) → is_text s ≡ true → is_empty s ≡ false
full_text s h =
    let d = and_parts (is_line s && not (is_empty s)) (not (has_double_space s)) h in
    not-true (is_empty s) (and_parts (is_line s) (not (is_empty s)) d.0).1

mutual
  -- normal inlines are the document that they mean
  pub document_of : (in_link : Bool) (around : List Format) (xs : document.Inlines) → are_normal in_link around xs
      ≡ true
      → document_inlines (meant xs) ≡ Some xs
  document_of in_link around document.no_inlines h = refl
  document_of in_link around (document.inline x rest) h =
      let p = and_parts (is_normal in_link around x && meets x rest) (are_normal in_link around rest) h in
      let q = and_parts (is_normal in_link around x) (meets x rest) p.0 in
      first_document in_link around x rest q.0 q.1 (document_of in_link around rest p.1)

  first_document : (in_link : Bool) (around : List Format) (x : document.Inline) (rest : document.Inlines)
      → is_normal in_link around x ≡ true → meets x rest ≡ true → document_inlines (meant rest) ≡ Some rest
      → document_inlines (meant_inline x (meant rest)) ≡ Some (document.inline x rest)
  first_document in_link around (document.text []) rest n m e = let y = full_text [] n in absurd (cc)
  first_document in_link around (document.text (c ∷ s)) rest n m e =
      text_document c s (meant rest) rest e (no_text_meets (c ∷ s) rest m)
  first_document in_link around (document.code s) rest n m e = ap (with_first (document.code s)) e
  first_document in_link around (document.formatted f content) rest n m e =
      let d = document_of in_link (f ∷ around) content
      (and_parts (not (is_barred around f) && has_title f && not (has_none content) && are_whole content)
      (are_normal in_link (f ∷ around) content) n).1 in
      ap (λ o. with_content (document.formatted f) o (document_inlines (meant rest))) d
      ∙ ap (with_first (document.formatted f content)) e
  first_document in_link around (document.link a t content) rest n m e =
      let d = document_of true around content
      (and_parts (not in_link && is_attribute a && is_title t && not (has_none content))
      (are_normal true around content) n).1 in
      ap (λ o. with_content (document.link a t) o (document_inlines (meant rest))) d
      ∙ ap (with_first (document.link a t content)) e
  first_document in_link around (document.image a t s) rest n m e =
      ap (λ u. with_first (document.image a t u) (document_inlines (meant rest))) (plain_letters s)
      ∙ ap (with_first (document.image a t s)) e
  first_document in_link around (document.anchor id) rest n m e =
      ap (λ o. with_anchor o end_of_anchor (document_inlines (meant rest))) (id_of id)
      ∙ ap (with_first (document.anchor id)) e
  first_document in_link around document.line_break rest n m e = ap (with_first document.line_break) e
  first_document in_link around (document.task d) rest n m e = absurd (cc)

-- what is read and seen as what normal inlines mean is these inlines
pub seen_document_is : (xs : document.Inlines) (ys : Inlines) → are_normal false [] xs ≡ true
    → AreSeen ys (meant xs)
    → document_inlines (seen_inlines ys) ≡ Some xs
seen_document_is xs ys n h = ap document_inlines (content_seen ys (meant xs) h) ∙ document_of false [] xs n
