-- What shows of the page of what is read: the elements of its blocks, and line ends between them.
use Rattle.std.proofs.Common.{◌≡◌, ℕ, zero, suc, Bool, true, false, ◌&&◌, List, [], ◌∷◌, refl, sym}
use Rattle.std.proofs.Common.{ap}
use Rattle.std.proofs.Common.{◌∙◌, codes}
use Rattle.std.proofs.Common.{Option, Some, None}
use Rattle.std.proofs.Common.{arith, subst}
use Rattle.std.proofs.lemmas.Bool.{and_parts}
use Rattle.std.proofs.lemmas.Bool.Decides.{nat_tests}
use Rattle.std.specs.Prelude.{nat_le}
use Rattle.std.specs.Fmt.{digits}
use Rattle.std.specs.Str.{chars}
use Rattle.htmd_lexical.specs.Characters.{line_feed}
use Rattle.htmd_lexical.specs.AttributePairs.{AttributePair}
use Rattle.htmd_values.specs.ValueTrees.{ValueForest}
use Rattle.htmd_values.specs.ValueTrees as value
use Rattle.htmd_nodes.specs.NumberedTrees.{NumberedTree, NumberedForest, value_tree, value_forest}
use Rattle.htmd_nodes.specs.NumberedTrees as page
use Rattle.htmd_grammar.specs.HtmlDocuments.{skeleton}
use Rattle.htmd_shown.specs.declared.role.Role.TheVariants as role
use Rattle.htmd_shown.specs.ClassWords.{has_class, mathjax_words}
use Rattle.htmd_shown.specs.Facts.{made}
use Rattle.htmd_shown.specs.Repeats.{is_copied}
use Rattle.htmd_shown.specs.Roles.{role_of, table_role, heading_or_block, block_role, inline_role, element_role}
use Rattle.htmd_shown.specs.Shown.{nowhere, raised, followed_by, shown, shown_all, shown_in}
use Rattle.htmd_shown.specs.ShownTexts.{shown_text}
use Rattle.htmd_shown.specs.SimpleTrees.{Simples, text, none, more}
use Rattle.htmd_document.specs.NormalDocuments.{is_level}
use Rattle.htmd_law_rendering.specs.RenderedTrees.{heading_name}
use Rattle.htmd_law_returning.specs.ReturningLaws.{whole_sight}
use Rattle.htmd_law_returning.proofs.BareLemmas.{followed-none}
use Rattle.htmd_law_returning.proofs.StandLemmas.{is_break, Behind, Stands, Lacks, beside}
use Rattle.htmd_law_returning.proofs.StartLemmas.{false-true}
use Rattle.htmd_law_returning.proofs.OrderLemmas.{is_ordered, is_ordered_tree, ordered-next}
use lib.Utf8.{encode}

-- ---- from the trees to those with numbers

-- a forest that is one text and others
record TextIs (f : NumberedForest) (s : List ℕ) (ts : ValueForest) : Type 0 where
  id : ℕ
  rest : NumberedForest
  is : f ≡ page.more (page.text id s) rest
  others : value_forest rest ≡ ts

-- or one element and others
record ElementIs (f : NumberedForest) (name : List ℕ) (attributes : List AttributePair) (content ts : ValueForest)
    : Type 0 where
  id : ℕ
  inside : NumberedForest
  rest : NumberedForest
  is : f ≡ page.more (page.element id name attributes inside) rest
  within : value_forest inside ≡ content
  others : value_forest rest ≡ ts

pub from-none : (f : NumberedForest) → value_forest f ≡ value.none → f ≡ page.none
from-none page.none e = refl
from-none (page.more t f) e = (cc)

text-is : (f : NumberedForest) (s : List ℕ) (ts : ValueForest)
    → value_forest f ≡ value.more (value.text s) ts → TextIs f s ts
text-is page.none s ts e = (cc)
text-is (page.more (page.document id children) f) s ts e = (cc)
text-is (page.more (page.doctype id) f) s ts e = (cc)
text-is (page.more (page.text id u) f) s ts e = record {
  id = id;
  rest = f;
  is = cc;
  others = cc;
}
text-is (page.more (page.comment id u) f) s ts e = (cc)
text-is (page.more (page.element id name attributes children) f) s ts e = (cc)

element-is : (f : NumberedForest) (name : List ℕ) (attributes : List AttributePair) (content ts : ValueForest)
    → value_forest f ≡ value.more (value.element name attributes content) ts
    → ElementIs f name attributes content ts
element-is page.none name attributes content ts e = (cc)
element-is (page.more (page.document id children) f) name attributes content ts e = (cc)
element-is (page.more (page.doctype id) f) name attributes content ts e = (cc)
element-is (page.more (page.text id u) f) name attributes content ts e = (cc)
element-is (page.more (page.comment id u) f) name attributes content ts e = (cc)
element-is (page.more (page.element id known pairs children) f) name attributes content ts e = record {
  id = id;
  inside = children;
  rest = f;
  is = cc;
  within = cc;
  others = cc;
}

-- a forest that stands for one text and others
pub record IsText (f : NumberedForest) (s : List ℕ) (ts : ValueForest) : Type 0 where
  pub id : ℕ
  pub rest : NumberedForest
  pub is : f ≡ page.more (page.text id s) rest
  pub others : Stands (value_forest rest) ts

-- or for one element and others
pub record IsElement (f : NumberedForest) (name : List ℕ) (attributes : List AttributePair) (content ts : ValueForest)
    : Type 0 where
  pub id : ℕ
  pub inside : NumberedForest
  pub rest : NumberedForest
  pub is : f ≡ page.more (page.element id name attributes inside) rest
  pub within : Stands (value_forest inside) content
  pub others : Behind (is_break name) (Stands (value_forest rest) ts) (Lacks (value_forest rest) ts)

pub from-text : (f : NumberedForest) (s : List ℕ) (ts : ValueForest)
    → Stands (value_forest f) (value.more (value.text s) ts) → IsText f s ts
from-text f s ts e =
    let found = text-is f s e.0 e.1 in
    record {
      id = found.id;
      rest = found.rest;
      is = found.is;
      others = subst (λ us. Stands us ts) (sym found.others) e.2;
    }

pub from-element : (f : NumberedForest) (name : List ℕ) (attributes : List AttributePair) (content ts : ValueForest)
    → Stands (value_forest f) (value.more (value.element name attributes content) ts)
    → IsElement f name attributes content ts
from-element f name attributes content ts e =
    let found = element-is f name attributes e.0 e.1 e.2 in
    record {
      id = found.id;
      inside = found.inside;
      rest = found.rest;
      is = found.is;
      within = subst (λ us. Stands us content) (sym found.within) e.3;
      others = subst (λ us. Behind (is_break name) (Stands us ts) (Lacks us ts)) (sym found.others) e.4;
    }

-- ---- an element and the line's end after it

-- a line's end before trees
abbrev pub line_before : ValueForest → ValueForest
line_before ts = value.more (value.text (line_feed ∷ [])) ts

pub record IsBlock (f : NumberedForest) (name : List ℕ) (attributes : List AttributePair) (content ts : ValueForest)
    : Type 0 where
  pub id : ℕ
  pub inside : NumberedForest
  pub line : ℕ
  pub rest : NumberedForest
  pub is : f ≡ page.more (page.element id name attributes inside) (page.more (page.text line (line_feed ∷ [])) rest)
  pub within : Stands (value_forest inside) content
  pub others : Stands (value_forest rest) ts

pub from-block : (f : NumberedForest) (name : List ℕ) (attributes : List AttributePair) (content ts : ValueForest)
    → Stands (value_forest f) (value.more (value.element name attributes content) (line_before ts))
    → is_break name ≡ false → IsBlock f name attributes content ts
from-block f name attributes content ts e unbroken =
    let own = from-element f name attributes content (line_before ts) e in
    let next = from-text own.rest (line_feed ∷ []) ts
    (beside (is_break name) (value_forest own.rest) (line_before ts) unbroken own.others) in
    record {
      id = own.id;
      inside = own.inside;
      line = next.id;
      rest = next.rest;
      is = own.is ∙ ap (λ g. page.more (page.element own.id name attributes own.inside) g) next.is;
      within = own.within;
      others = next.others;
    }

-- the order in it, and behind it
pub block-order : (k : ℕ) (f : NumberedForest) (id : ℕ) (name : List ℕ) (attributes : List AttributePair)
    (inside : NumberedForest) (line : ℕ) (rest : NumberedForest)
    → f ≡ page.more (page.element id name attributes inside) (page.more (page.text line (line_feed ∷ [])) rest)
    → is_ordered k f ≡ true → (is_ordered 0 inside ≡ true) × (is_ordered (suc line) rest ≡ true)
block-order k f id name attributes inside line rest e o =
    let behind : NumberedForest = page.more (page.text line (line_feed ∷ [])) rest in
    let own = ordered-next k f (page.element id name attributes inside) behind e o in
    (own.inside, (ordered-next (suc id) behind (page.text line (line_feed ∷ [])) rest refl own.rest).rest)

-- ---- what shows

raised-none : (id : ℕ) (trees : Simples) → raised [] id trees ≡ trees
raised-none id none = refl
raised-none id (more t ts) = ap (more t) (raised-none id ts)

pub plain-content : (id : ℕ) (trees : Simples) → followed_by (followed_by none (raised [] id trees)) none ≡ trees
plain-content id trees = followed-none (raised [] id trees) ∙ raised-none id trees

-- no element before has what a formula is shown by again
abbrev pub IsFresh : Option (List AttributePair) → Type 0
IsFresh before = is_copied before [] ≡ false

pub fresh-first : IsFresh None
fresh-first = refl

pub fresh-next : (attributes : List AttributePair) → IsFresh (Some attributes)
fresh-next attributes = refl

abbrev pub frame : (html head body : ℕ) → Simples → Simples
frame html head body ts =
    more (made html role.Block []
    (more (made head role.Plain [] none) (more (made body role.Block [] ts) none))) none

-- what holds of each level of a heading
pub by-level : (P : ℕ → Type 0) → P 1 → P 2 → P 3 → P 4 → P 5 → P 6 → (level : ℕ)
    → is_level level ≡ true → P level
by-level P a b c d e f zero h = false-true h
by-level P a b c d e f (suc zero) h = a
by-level P a b c d e f (suc (suc zero)) h = b
by-level P a b c d e f (suc (suc (suc zero))) h = c
by-level P a b c d e f (suc (suc (suc (suc zero)))) h = d
by-level P a b c d e f (suc (suc (suc (suc (suc zero))))) h = e
by-level P a b c d e f (suc (suc (suc (suc (suc (suc zero)))))) h = f
by-level P a b c d e f (suc (suc (suc (suc (suc (suc (suc n))))))) h =
    let past : nat_le (suc (suc (suc (suc (suc (suc (suc n))))))) 6 ≡ false = grind (arith, nat_tests) in
    false-true (sym past ∙ (and_parts (nat_le 1 (suc (suc (suc (suc (suc (suc (suc n)))))))) _ h).1)

-- the elements of a page, with what is in the body
abbrev in_head : (body : ℕ) → NumberedForest → NumberedForest
in_head body f = page.more (page.element body (codes "body") [] f) page.none

abbrev in_html : (head body : ℕ) → NumberedForest → NumberedForest
in_html head body f = page.more (page.element head (codes "head") [] page.none) (in_head body f)

body-is : (all : NumberedForest) (body : ℕ) (rest f : NumberedForest)
    → all ≡ page.more (page.element body (codes "body") [] f) rest → rest ≡ page.none → all ≡ in_head body f
body-is all body rest f e g = e ∙ ap (page.more (page.element body (codes "body") [] f)) g

head-is : (all : NumberedForest) (head body : ℕ) (inside rest f : NumberedForest)
    → all ≡ page.more (page.element head (codes "head") [] inside) rest → inside ≡ page.none
    → rest ≡ in_head body f → all ≡ in_html head body f
head-is all head body inside rest f e g h =
    e ∙ (ap (λ x. page.more (page.element head (codes "head") [] x) rest) g
    ∙ ap (page.more (page.element head (codes "head") [] page.none)) h)

html-is : (all : NumberedForest) (html head body : ℕ) (inside rest f : NumberedForest)
    → all ≡ page.more (page.element html (codes "html") [] inside) rest → inside ≡ in_html head body f
    → rest ≡ page.none
    → all ≡ page.more (page.element html (codes "html") [] (in_html head body f)) page.none
html-is all html head body inside rest f e g h =
    e ∙ (ap (λ x. page.more (page.element html (codes "html") [] x) rest) g
    ∙ ap (page.more (page.element html (codes "html") [] (in_html head body f))) h)

pub and-false : (b : Bool) → (b && false) ≡ false
and-false true = refl
and-false false = refl

module _ (scripting is_rich : Bool) where
  -- nodes beside each other
  abbrev pub shown_of : Option (List AttributePair) → NumberedForest → Simples
  shown_of before f = shown_all (whole_sight scripting is_rich) nowhere None before f

  pub none-shown : (before : Option (List AttributePair)) → shown_of before page.none ≡ none
  unfolding shown
  none-shown before = refl

  pub line-shown : (before : Option (List AttributePair)) (id : ℕ) (f : NumberedForest)
      → shown_of before (page.more (page.text id (line_feed ∷ [])) f)
      ≡ more (text (line_feed ∷ [])) (shown_of before f)
  unfolding shown chars encode
  line-shown before id f = refl

  pub paragraph-shown : (before : Option (List AttributePair)) (id : ℕ) (inside f : NumberedForest) → IsFresh before
      → shown_of before (page.more (page.element id (codes "p") [] inside) f)
      ≡ more (made id role.Paragraph [] (shown_of None inside)) (shown_of (Some []) f)
  unfolding shown role_of
  paragraph-shown before id inside f h =
      rw h (ap (λ ts. more (made id role.Paragraph [] ts) (shown_of (Some []) f))
      (plain-content id (shown_of None inside)))

  pub quote-shown : (before : Option (List AttributePair)) (id : ℕ) (inside f : NumberedForest) → IsFresh before
      → shown_of before (page.more (page.element id (codes "blockquote") [] inside) f)
      ≡ more (made id role.BlockQuote [] (shown_of None inside)) (shown_of (Some []) f)
  unfolding shown role_of
  quote-shown before id inside f h =
      rw h (ap (λ ts. more (made id role.BlockQuote [] ts) (shown_of (Some []) f))
      (plain-content id (shown_of None inside)))

  pub bullets-shown : (before : Option (List AttributePair)) (id : ℕ) (inside f : NumberedForest) → IsFresh before
      → shown_of before (page.more (page.element id (codes "ul") [] inside) f)
      ≡ more (made id role.BulletList [] (shown_of None inside)) (shown_of (Some []) f)
  unfolding shown role_of
  bullets-shown before id inside f h =
      rw h (ap (λ ts. more (made id role.BulletList [] ts) (shown_of (Some []) f))
      (plain-content id (shown_of None inside)))

  pub numbers-shown : (before : Option (List AttributePair)) (id : ℕ) (attributes : List AttributePair)
      (inside f : NumberedForest) → is_copied before attributes ≡ false
      → has_class mathjax_words attributes ≡ false
      → shown_of before (page.more (page.element id (codes "ol") attributes inside) f)
      ≡ more (made id role.NumberedList attributes (shown_of None inside)) (shown_of (Some attributes) f)
  unfolding shown role_of
  numbers-shown before id attributes inside f h e =
      rw (h, e) (ap (λ ts. more (made id role.NumberedList attributes ts) (shown_of (Some attributes) f))
      (plain-content id (shown_of None inside)))

  pub details-shown : (before : Option (List AttributePair)) (id : ℕ) (attributes : List AttributePair)
      (inside f : NumberedForest) → is_copied before attributes ≡ false
      → has_class mathjax_words attributes ≡ false
      → shown_of before (page.more (page.element id (codes "details") attributes inside) f)
      ≡ more (made id role.Details attributes (shown_of None inside)) (shown_of (Some attributes) f)
  unfolding shown role_of table_role heading_or_block block_role
  details-shown before id attributes inside f h e =
      rw (h, e) (ap (λ ts. more (made id role.Details attributes ts) (shown_of (Some attributes) f))
      (plain-content id (shown_of None inside)))

  pub item-shown : (before : Option (List AttributePair)) (id : ℕ) (inside f : NumberedForest) → IsFresh before
      → shown_of before (page.more (page.element id (codes "li") [] inside) f)
      ≡ more (made id role.Item [] (shown_of None inside)) (shown_of (Some []) f)
  unfolding shown role_of
  item-shown before id inside f h =
      rw h (ap (λ ts. more (made id role.Item [] ts) (shown_of (Some []) f))
      (plain-content id (shown_of None inside)))

  pub break-shown : (before : Option (List AttributePair)) (id : ℕ) (inside f : NumberedForest) → IsFresh before
      → shown_of before (page.more (page.element id (codes "hr") [] inside) f)
      ≡ more (made id role.ThematicBreak [] none) (shown_of (Some []) f)
  unfolding shown role_of
  break-shown before id inside f h = rw h refl

  pub pre-shown : (before : Option (List AttributePair)) (id own line : ℕ) (attributes : List AttributePair)
      (s : List ℕ) (f : NumberedForest) → IsFresh before
      → shown_of before (page.more (page.element id (codes "pre") []
      (page.more (page.element own (codes "code") attributes (page.more (page.text line s) page.none)) page.none)) f)
      ≡ more (made id role.Preformatted []
      (more (made own role.Code attributes (more (text (shown_text s)) none)) none)) (shown_of (Some []) f)
  unfolding shown role_of table_role heading_or_block block_role inline_role
  pre-shown before id own line attributes s f h =
      rw (h, and-false (has_class mathjax_words attributes)) refl

  -- nodes in a heading
  abbrev pub shown_in_heading : NumberedForest → Simples
  shown_in_heading f = shown_all (whole_sight scripting is_rich) (record nowhere { in_head = true }) None None f

  abbrev IsHeading : Option (List AttributePair) → ℕ → NumberedForest → NumberedForest → ℕ → Type 0
  IsHeading before id inside f level =
      shown_of before (page.more (page.element id (heading_name level) [] inside) f)
      ≡ more (made id (role.Heading level) [] (shown_in_heading inside)) (shown_of (Some []) f)

  pub heading-shown : (before : Option (List AttributePair)) (id : ℕ) (inside f : NumberedForest) (level : ℕ)
      → is_level level ≡ true → IsFresh before
      → shown_of before (page.more (page.element id (heading_name level) [] inside) f)
      ≡ more (made id (role.Heading level) [] (shown_in_heading inside)) (shown_of (Some []) f)
  unfolding shown role_of table_role heading_or_block digits
  heading-shown before id inside f level l h =
      by-level (IsHeading before id inside f)
      (rw h (ap (λ ts. more (made id (role.Heading 1) [] ts) (shown_of (Some []) f))
      (plain-content id (shown_in_heading inside))))
      (rw h (ap (λ ts. more (made id (role.Heading 2) [] ts) (shown_of (Some []) f))
      (plain-content id (shown_in_heading inside))))
      (rw h (ap (λ ts. more (made id (role.Heading 3) [] ts) (shown_of (Some []) f))
      (plain-content id (shown_in_heading inside))))
      (rw h (ap (λ ts. more (made id (role.Heading 4) [] ts) (shown_of (Some []) f))
      (plain-content id (shown_in_heading inside))))
      (rw h (ap (λ ts. more (made id (role.Heading 5) [] ts) (shown_of (Some []) f))
      (plain-content id (shown_in_heading inside))))
      (rw h (ap (λ ts. more (made id (role.Heading 6) [] ts) (shown_of (Some []) f))
      (plain-content id (shown_in_heading inside))))
      level l

  -- ---- the page

  html-shown : (id html head body : ℕ) (f : NumberedForest)
      → shown_in (whole_sight scripting is_rich) (page.document id
      (page.more (page.element html (codes "html") []
      (page.more (page.element head (codes "head") [] page.none)
      (page.more (page.element body (codes "body") [] f) page.none))) page.none))
      ≡ frame html head body (shown_of None f)
  unfolding shown role_of table_role heading_or_block block_role inline_role element_role
  html-shown id html head body f =
      ap (λ ts. more (made html role.Block [] (more (made head role.Plain [] none)
      (more (made body role.Block [] ts) none))) none) (plain-content body (shown_of None f))

  pub record IsFramed (t : NumberedTree) (trees : ValueForest) : Type 0 where
    pub html : ℕ
    pub head : ℕ
    pub body : ℕ
    pub inside : NumberedForest
    pub is : shown_in (whole_sight scripting is_rich) t ≡ frame html head body (shown_of None inside)
    pub within : value_forest inside ≡ trees
    pub ordered : is_ordered 0 inside ≡ true

  pub framed : (t : NumberedTree) (trees : ValueForest) → value_tree t ≡ value.document (skeleton trees)
      → is_ordered_tree t ≡ true → IsFramed t trees
  framed (page.doctype id) trees e o = (cc)
  framed (page.text id s) trees e o = (cc)
  framed (page.comment id s) trees e o = (cc)
  framed (page.element id name attributes children) trees e o = (cc)
  framed (page.document id children) trees e o =
      let content : ValueForest = value.more (value.element (codes "head") [] value.none)
      (value.more (value.element (codes "body") [] trees) value.none) in
      let same : value_forest children ≡ value.more (value.element (codes "html") [] content) value.none = cc in
      let html = element-is children (codes "html") [] content value.none same in
      let head = element-is html.inside (codes "head") [] value.none
      (value.more (value.element (codes "body") [] trees) value.none) html.within in
      let body = element-is head.rest (codes "body") [] trees value.none head.others in
      let at_body = body-is head.rest body.id body.rest body.inside body.is (from-none body.rest body.others) in
      let at_head = head-is html.inside head.id body.id head.inside head.rest body.inside head.is
      (from-none head.inside head.within) at_body in
      let at_html = html-is children html.id head.id body.id html.inside html.rest body.inside html.is at_head
      (from-none html.rest html.others) in
      record {
        html = html.id;
        head = head.id;
        body = body.id;
        inside = body.inside;
        is = ap (λ g. shown_in (whole_sight scripting is_rich) (page.document id g)) at_html
            ∙ html-shown id html.id head.id body.id body.inside;
        within = body.within;
        ordered =
            let frame_in : NumberedForest = in_html head.id body.id body.inside in
            let all = ordered-next 0 children (page.element html.id (codes "html") [] frame_in) page.none at_html o in
            let heads = ordered-next 0 frame_in (page.element head.id (codes "head") [] page.none)
            (in_head body.id body.inside) refl all.inside in
            (ordered-next (suc head.id) (in_head body.id body.inside)
            (page.element body.id (codes "body") [] body.inside) page.none refl heads.rest).inside;
      }
