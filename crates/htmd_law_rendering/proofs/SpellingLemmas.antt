-- What trees are spelled as, piece by piece.
use Rattle.std.proofs.Common.{◌≡◌, ℕ, Bool, true, false, List, [], ◌∷◌, ◌++◌, refl, sym, ap, ◌∙◌, codes, Option, Some}
use Rattle.std.proofs.Common.{None}
use Rattle.std.specs.Char.{is_ascii_digit}
use Rattle.std.specs.Fmt.{decimal}
use Rattle.std.specs.List.{flat_map, list_all}
use Rattle.std.specs.Str.{bytes_eq}
use Rattle.std.proofs.lemmas.Bool.{and_parts}
use Rattle.std.proofs.lemmas.Grind.{flat_map-append}
use Rattle.std.proofs.lemmas.List.{append_assoc, append-nil}
use Rattle.htmd_lexical.specs.AttributePairs.{AttributePair}
use Rattle.htmd_values.specs.Serialisation.{is_void, end_tag}
use Rattle.htmd_document.specs.Tags.{escaped_value}
use Rattle.htmd_document.specs.Formats.{Format, Emphasis, Strong, Deleted, Superscript, Subscript, Inserted}
use Rattle.htmd_document.specs.Formats.{Underlined}
use Rattle.htmd_document.specs.Formats.{Marked, Small, Keyboard, Abbreviation}
use Rattle.htmd_commonmark_reading.specs.Rendering.{escaped_byte, escaped, escaped_address, attribute}
use Rattle.htmd_commonmark_reading.specs.Rendering.{title_attribute}
use Rattle.htmd_commonmark_reading.specs.Rendering.{code_html, formatted_html, link_html, image_html, box_html}
use Rattle.htmd_law_rendering.specs.RenderedTrees.{text_before, line_end, encoded_address, pairs_of_title}
use Rattle.htmd_law_rendering.specs.RenderedTrees.{format_name}
use Rattle.htmd_law_rendering.specs.RenderedTrees.{pairs_of_format, pairs_of_link, pairs_of_image, pairs_of_box}
use Rattle.htmd_law_rendering.specs.RenderedTrees.{lines_before, heading_name, sectioned}
use Rattle.htmd_law_rendering.specs.SpelledTrees.{TagForm, spaced, short, SpelledForest, none, more, text, element}
use Rattle.htmd_law_rendering.specs.SpelledTrees.{lone, section}
use Rattle.htmd_law_rendering.specs.SpelledTrees.{attribute_in, tag}
use Rattle.htmd_law_rendering.specs.SpelledTrees.{spelled, all_spelled}
use Rattle.htmd_law_rendering.proofs.ByteLemmas.{escaped-encoded, decimal-digits, no-digit}

-- ---- texts

pub text-spelled : (s : List ℕ) (ts : SpelledForest)
    → all_spelled (text_before s ts) ≡ escaped s ++ all_spelled ts
text-spelled [] ts = refl
text-spelled (b ∷ s) none = refl
text-spelled (b ∷ s) (more (text u) ts) =
    ap (λ x. x ++ all_spelled ts) (flat_map-append escaped_byte (b ∷ s) u)
    ∙ append_assoc (escaped (b ∷ s)) (escaped u) (all_spelled ts)
text-spelled (b ∷ s) (more (element k n attributes ks) ts) = refl
text-spelled (b ∷ s) (more (lone n attributes u) ts) = refl
text-spelled (b ∷ s) (more (section rows) ts) = refl

-- a section has no tags
pub sectioned-spelled : (ts rest : SpelledForest)
    → all_spelled (sectioned ts rest) ≡ all_spelled ts ++ all_spelled rest
sectioned-spelled none rest = refl
sectioned-spelled (more (text s) ts) rest =
    ap (λ x. escaped s ++ x) (sectioned-spelled ts rest)
    ∙ sym (append_assoc (escaped s) (all_spelled ts) (all_spelled rest))
sectioned-spelled (more (element k n attributes ks) ts) rest = refl
sectioned-spelled (more (lone n attributes s) ts) rest = refl
sectioned-spelled (more (section rows) ts) rest = refl

pub text-alone : (s : List ℕ) → all_spelled (text_before s none) ≡ escaped s
text-alone s = text-spelled s none ∙ append-nil (escaped s)

-- ---- elements

pub element-spelled : (k : TagForm) (name : List ℕ) (attributes : List AttributePair) (ks : SpelledForest)
    → is_void name ≡ false
    → spelled (element k name attributes ks) ≡ tag k name attributes ++ all_spelled ks ++ end_tag name
element-spelled k name attributes ks v = rw v refl

pub void-spelled : (k : TagForm) (name : List ℕ) (attributes : List AttributePair) (ks : SpelledForest)
    → is_void name ≡ true → spelled (element k name attributes ks) ≡ tag k name attributes
void-spelled k name attributes ks v = rw v refl

apart : (a x b y : List ℕ)
    → (a ++ (10 ∷ x) ++ b) ++ (10 ∷ y) ≡ ((a ++ 10 ∷ []) ++ x ++ (b ++ 10 ∷ [])) ++ y
apart a x b y = simp append_assoc

-- an element whose content stands in lines of its own
pub lines-spelled : (name : List ℕ) (attributes : List AttributePair) (content rest : SpelledForest)
    (begin html end : List ℕ) → is_void name ≡ false → begin ≡ tag spaced name attributes ++ codes "\n"
    → end ≡ end_tag name ++ codes "\n" → all_spelled content ≡ html
    → all_spelled (lines_before name attributes content rest) ≡ (begin ++ html ++ end) ++ all_spelled rest
lines-spelled name attributes content rest begin html end v b e h =
    ap (λ s. s ++ all_spelled (line_end rest)) (element-spelled spaced name attributes (line_end content) v)
    ∙ (ap (λ s. (tag spaced name attributes ++ s ++ end_tag name) ++ all_spelled (line_end rest))
    (text-spelled (codes "\n") content ∙ ap (λ s. 10 ∷ s) h)
    ∙ (ap (λ s. (tag spaced name attributes ++ (10 ∷ html) ++ end_tag name) ++ s) (text-spelled (codes "\n") rest)
    ∙ (apart (tag spaced name attributes) html (end_tag name) (all_spelled rest)
    ∙ (ap (λ s. (s ++ html ++ (end_tag name ++ codes "\n")) ++ all_spelled rest) (sym b)
    ∙ ap (λ s. (begin ++ html ++ s) ++ all_spelled rest) (sym e)))))

joined-end : (a x b y : List ℕ) → (a ++ x ++ b) ++ (10 ∷ y) ≡ (a ++ x ++ (b ++ 10 ∷ [])) ++ y
joined-end a x b y = simp append_assoc

-- an element that ends a line
pub line-spelled : (name : List ℕ) (attributes : List AttributePair) (content rest : SpelledForest)
    (html end : List ℕ) → is_void name ≡ false → end ≡ end_tag name ++ codes "\n"
    → all_spelled content ≡ html
    → all_spelled (more (element spaced name attributes content) (line_end rest))
    ≡ (tag spaced name attributes ++ html ++ end) ++ all_spelled rest
line-spelled name attributes content rest html end v e h =
    ap (λ s. s ++ all_spelled (line_end rest)) (element-spelled spaced name attributes content v)
    ∙ (ap (λ s. (tag spaced name attributes ++ s ++ end_tag name) ++ all_spelled (line_end rest)) h
    ∙ (ap (λ s. (tag spaced name attributes ++ html ++ end_tag name) ++ s) (text-spelled (codes "\n") rest)
    ∙ (joined-end (tag spaced name attributes) html (end_tag name) (all_spelled rest)
    ∙ ap (λ s. (tag spaced name attributes ++ html ++ s) ++ all_spelled rest) (sym e))))

-- ---- inlines

pub code-spelled : (s : List ℕ) → spelled (element spaced (codes "code") [] (text_before s none)) ≡ code_html s
unfolding is_void
code-spelled s = ap (λ x. codes "<code>" ++ x ++ codes "</code>") (text-alone s)

pub titled : (v : List ℕ) → ((v ++ 34 ∷ []) ++ []) ++ 62 ∷ [] ≡ v ++ 34 ∷ 62 ∷ []
titled v = simp (append_assoc, append-nil)

pub format-spelled : (f : Format) (ks : SpelledForest)
    → spelled (element spaced (format_name f) (pairs_of_format f) ks) ≡ formatted_html f (all_spelled ks)
unfolding is_void
format-spelled Emphasis ks = refl
format-spelled Strong ks = refl
format-spelled Deleted ks = refl
format-spelled Superscript ks = refl
format-spelled Subscript ks = refl
format-spelled Inserted ks = refl
format-spelled Underlined ks = refl
format-spelled Marked ks = refl
format-spelled Small ks = refl
format-spelled Keyboard ks = refl
format-spelled (Abbreviation title) ks =
    ap (λ s. (codes "<abbr title=\"" ++ s) ++ all_spelled ks ++ codes "</abbr>") (titled (escaped_value title))

titles : (name : List ℕ) (title : Option (List ℕ)) → bytes_eq name (codes "abbr") ≡ false
    → flat_map (attribute_in name) (pairs_of_title title) ≡ title_attribute title
titles name None e = refl
titles name (Some s) e = rw e (append-nil (attribute (codes "title") (escaped s)))

pub link-spelled : (address : List ℕ) (title : Option (List ℕ)) (ks : SpelledForest)
    → spelled (element spaced (codes "a") (pairs_of_link address title) ks)
    ≡ link_html address title (all_spelled ks)
unfolding is_void
link-spelled address title ks =
    ap (λ s. s ++ all_spelled ks ++ codes "</a>") (ap (λ s. codes "<a" ++ s) tags)
  where
    tags : (attribute (codes "href") (escaped (encoded_address address))
        ++ flat_map (attribute_in (codes "a")) (pairs_of_title title)) ++ codes ">"
        ≡ attribute (codes "href") (escaped_address address) ++ title_attribute title ++ codes ">"
    tags =
        rw (escaped-encoded address, titles (codes "a") title refl) refl

pictured : (src alt title : List ℕ)
    → ((src ++ 34 ∷ []) ++ ((codes " alt=\"" ++ (alt ++ 34 ∷ [])) ++ title)) ++ codes " />"
    ≡ ((src ++ 34 ∷ []) ++ codes " alt=\"") ++ alt ++ (34 ∷ (title ++ codes " />"))
pictured src alt title = simp append_assoc

pub image-spelled : (address : List ℕ) (title : Option (List ℕ)) (description : List ℕ)
    → spelled (element spaced (codes "img") (pairs_of_image address title description) none)
    ≡ image_html address title description
unfolding is_void
image-spelled address title description =
    ap (λ s. codes "<img src=\"" ++ s) tags
  where
    tags : ((escaped (encoded_address address) ++ 34 ∷ [])
        ++ ((codes " alt=\"" ++ (escaped description ++ 34 ∷ []))
        ++ flat_map (attribute_in (codes "img")) (pairs_of_title title))) ++ codes " />"
        ≡ ((escaped_address address ++ 34 ∷ []) ++ codes " alt=\"") ++ escaped description
        ++ (34 ∷ (title_attribute title ++ codes " />"))
    tags =
        rw (escaped-encoded address, titles (codes "img") title refl)
        (pictured (escaped_address address) (escaped description) (title_attribute title))

pub box-spelled : (d : Bool) (ts : SpelledForest) (html : List ℕ) → all_spelled ts ≡ html
    → all_spelled (more (element short (codes "input") (pairs_of_box d) none) (text_before (codes " ") ts))
    ≡ box_html d ++ html
unfolding is_void
box-spelled true ts html h =
    ap (λ s. codes "<input checked=\"\" disabled=\"\" type=\"checkbox\">" ++ s)
    (text-spelled (codes " ") ts ∙ ap (λ s. 32 ∷ s) h)
box-spelled false ts html h =
    ap (λ s. codes "<input disabled=\"\" type=\"checkbox\">" ++ s)
    (text-spelled (codes " ") ts ∙ ap (λ s. 32 ∷ s) h)

-- ---- headings

no-r : (s : List ℕ) → list_all is_ascii_digit s ≡ true → bytes_eq s (codes "r") ≡ false
no-r [] h = refl
no-r (d ∷ s) h =
    let p = and_parts (is_ascii_digit d) (list_all is_ascii_digit s) h in rw (no-digit 114 d p.0 refl) refl

pub heading-not-void : (level : ℕ) → is_void (heading_name level) ≡ false
unfolding is_void
heading-not-void level = rw (no-r (decimal level) (decimal-digits level)) refl
