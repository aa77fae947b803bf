-- Where blocks may be tight, so may parts of them.
use Rattle.std.proofs.Common.{◌≡◌, Bool, true, false, List, [], ◌∷◌, ◌++◌, refl, sym, ap, ◌∙◌, subst}
use Rattle.std.specs.Prelude.{ℕ, ◌&&◌, Option, Some, None}
use Rattle.htmd_document.specs.declared.document.BlockElement.{BlockElement}
use Rattle.htmd_document.specs.Documents.{Block, paragraph, heading, code_block, quote, thematic_break, list, table}
use Rattle.htmd_document.specs.Documents.{element, tags, Blocks, no_blocks, block, blocks_of, BlockAttribute}
use Rattle.htmd_document.specs.FlatDocuments.{line_before, element_before, flat_before, flat_all, flattened, is_plain}
use Rattle.htmd_document.specs.FlatDocuments.{text_in_line, flat_block, flat_items}
use Rattle.htmd_document.specs.NormalDocuments.{may_be_tight}
use Rattle.htmd_document.specs.Tags.{end_of_element}
use Rattle.htmd_document.specs.TightItems.{is_paragraph, are_tags, goes_on_a_paragraph}
use Rattle.htmd_chunks.proofs.RunsLemmas.{and_left, and_right}

-- ---- lines of tags

pub data LinesOrOther : Block → Type 0 where
  are_lines : (s : List ℕ) → LinesOrOther (tags s)
  other_block : (b : Block) → are_tags b ≡ false → LinesOrOther b

pub lines_or : (b : Block) → LinesOrOther b
lines_or (paragraph content) = other_block (paragraph content) refl
lines_or (heading level content) = other_block (heading level content) refl
lines_or (code_block language s) = other_block (code_block language s) refl
lines_or (quote content) = other_block (quote content) refl
lines_or thematic_break = other_block thematic_break refl
lines_or (list start t items) = other_block (list start t items) refl
lines_or (table alignments header rows) = other_block (table alignments header rows) refl
lines_or (element name attributes content) = other_block (element name attributes content) refl
lines_or (tags s) = are_lines s

pub line-other : (l : List ℕ) (b : Block) (bs : Blocks) → are_tags b ≡ false
    → line_before l (block b bs) ≡ block (tags l) (block b bs)
line-other l (paragraph content) bs e = refl
line-other l (heading level content) bs e = refl
line-other l (code_block language s) bs e = refl
line-other l (quote content) bs e = refl
line-other l thematic_break bs e = refl
line-other l (list start t items) bs e = refl
line-other l (table alignments header rows) bs e = refl
line-other l (element name attributes content) bs e = refl
line-other l (tags s) bs e = absurd (cc)

-- ---- the first of some blocks

-- the first of these, the last one maybe another
data Front : Blocks → Blocks → Type 0 where
  front_none : (c : Blocks) → Front no_blocks c
  front_tags : (s t : List ℕ) (a c : Blocks) → Front a c → Front (block (tags s) a) (block (tags t) c)
  front_same : (b : Block) (a c : Blocks) → are_tags b ≡ false → Front a c → Front (block b a) (block b c)
  front_last : (b d : Block) (c : Blocks) → are_tags b ≡ false → are_tags d ≡ false
      → (goes_on_a_paragraph d ≡ true → goes_on_a_paragraph b ≡ true) → Front (block b no_blocks) (block d c)

front-begun : (l : List ℕ) (c : Blocks) → Front (block (tags l) no_blocks) (line_before l c)
front-begun l no_blocks = front_tags l l no_blocks no_blocks (front_none no_blocks)
front-begun l (block b r) = at b (lines_or b)
  where
    at : (b : Block) → LinesOrOther b → Front (block (tags l) no_blocks) (line_before l (block b r))
    at b (are_lines s) = front_tags l _ no_blocks r (front_none r)
    at b (other_block d e) =
        subst (λ (x : Blocks). Front (block (tags l) no_blocks) x) (sym (line-other l d r e))
        (front_tags l l no_blocks (block d r) (front_none (block d r)))

front-lines : (l : List ℕ) (b d : Block) (a c : Blocks) → are_tags b ≡ false → are_tags d ≡ false
    → Front (block b a) (block d c) → Front (line_before l (block b a)) (line_before l (block d c))
front-lines l b d a c e g f =
    subst (λ (x : Blocks). Front x (line_before l (block d c))) (sym (line-other l b a e))
    (subst (λ (x : Blocks). Front (block (tags l) (block b a)) x) (sym (line-other l d c g))
    (front_tags l l (block b a) (block d c) f))

front-line : (l : List ℕ) (a c : Blocks) → Front a c → Front (line_before l a) (line_before l c)
front-line l a c (front_none d) = front-begun l d
front-line l a c (front_tags s t x y f) = front_tags _ _ x y f
front-line l a c (front_same b x y e f) = front-lines l b b x y e e (front_same b x y e f)
front-line l a c (front_last b d y e g on) = front-lines l b d no_blocks y e g (front_last b d y e g on)

front-element : (name : BlockElement) (attributes : List BlockAttribute) (t : Option (List ℕ)) (i j a c : Blocks)
    → Front i j → Front a c → Front (element_before name attributes t i a) (element_before name attributes t j c)
front-element name attributes (Some s) i j a c f g = front-line _ a c g
front-element name attributes None i j a c f g = front-line _ i j f

mutual
  front-before : (b : Block) (a c : Blocks) → Front a c → Front (flat_before b a) (flat_before b c)
  front-before (paragraph content) a c f = front_same (paragraph content) a c refl f
  front-before (heading level content) a c f = front_same (heading level content) a c refl f
  front-before (code_block language s) a c f = front_same (code_block language s) a c refl f
  front-before (quote content) a c f = front_same (quote (flat_all content no_blocks)) a c refl f
  front-before thematic_break a c f = front_same thematic_break a c refl f
  front-before (list start t items) a c f = front_same (list start t (flat_items items)) a c refl f
  front-before (table alignments header rows) a c f = front_same (table alignments header rows) a c refl f
  front-before (element name attributes content) a c f =
      let ended = front-line (end_of_element name) a c f in
      front-element name attributes (text_in_line content)
      (flat_all content (line_before (end_of_element name) a))
      (flat_all content (line_before (end_of_element name) c)) a c
      (front-all content (line_before (end_of_element name) a) (line_before (end_of_element name) c) ended) f
  front-before (tags s) a c f = front_tags s s a c f

  front-all : (bs : Blocks) (a c : Blocks) → Front a c → Front (flat_all bs a) (flat_all bs c)
  front-all no_blocks a c f = f
  front-all (block b bs) a c f = front-before b (flat_all bs a) (flat_all bs c) (front-all bs a c f)

-- ---- so they may be tight

two-tight : (b x : Block) → may_be_tight (block b (block x no_blocks)) ≡ true
    → (is_paragraph b ≡ true) × (goes_on_a_paragraph x ≡ true)
two-tight b x h = (
  and_left (is_paragraph b) (goes_on_a_paragraph x) h,
  and_right (is_paragraph b) (goes_on_a_paragraph x) h,
)

from-two : (b x : Block) → is_paragraph b ≡ true → goes_on_a_paragraph x ≡ true
    → may_be_tight (block b (block x no_blocks)) ≡ true
from-two b x p g = ap (λ y. y && goes_on_a_paragraph x) p ∙ g

tight-tags : (s t : List ℕ) (a c : Blocks) → Front a c → may_be_tight (block (tags t) c) ≡ true
    → may_be_tight (block (tags s) a) ≡ true
tight-tags s t a c (front_none d) h = refl
tight-tags s t a c (front_tags u v x no_blocks f) h = absurd (cc)
tight-tags s t a c (front_tags u v x (block y ys) f) h = absurd (cc)
tight-tags s t a c (front_same b x no_blocks e f) h = absurd (cc)
tight-tags s t a c (front_same b x (block y ys) e f) h = absurd (cc)
tight-tags s t a c (front_last b d no_blocks e g on) h = absurd (cc)
tight-tags s t a c (front_last b d (block y ys) e g on) h = absurd (cc)

tight-same : (b : Block) (a c : Blocks) → Front a c → may_be_tight (block b c) ≡ true
    → may_be_tight (block b a) ≡ true
tight-same b a c (front_none d) h = refl
tight-same b a c (front_tags u v x no_blocks f) h =
    let bad : false ≡ true = (two-tight b (tags v) h).1 in absurd (cc)
tight-same b a c (front_tags u v x (block y ys) f) h = absurd (cc)
tight-same b a c (front_same d no_blocks no_blocks e f) h = h
tight-same b a c (front_same d (block z zs) no_blocks e f) h = elim f [ ]
tight-same b a c (front_same d x (block y ys) e f) h = absurd (cc)
tight-same b a c (front_last d x no_blocks e g on) h = let two = two-tight b x h in from-two b d two.0 (on two.1)
tight-same b a c (front_last d x (block y ys) e g on) h = absurd (cc)

tight-front : (a c : Blocks) → Front a c → may_be_tight c ≡ true → may_be_tight a ≡ true
tight-front a c (front_none d) h = refl
tight-front a c (front_tags s t x y f) h = tight-tags s t x y f h
tight-front a c (front_same b x y e f) h = tight-same b x y f h
tight-front a c (front_last b d y e g on) h = refl

-- ---- the last of some blocks

tail-tight : (b : Block) (r : Blocks) → may_be_tight (block b r) ≡ true → may_be_tight r ≡ true
tail-tight b no_blocks h = refl
tail-tight b (block x no_blocks) h = refl
tail-tight b (block x (block y ys)) h = absurd (cc)

line-tight : (l : List ℕ) (r : Blocks) → may_be_tight (line_before l r) ≡ true → may_be_tight r ≡ true
line-tight l no_blocks h = refl
line-tight l (block b r) h = at b r (lines_or b) h
  where
    at : (b : Block) (r : Blocks) → LinesOrOther b → may_be_tight (line_before l (block b r)) ≡ true
        → may_be_tight (block b r) ≡ true
    at b no_blocks (are_lines s) h = refl
    at b (block x no_blocks) (are_lines s) h = absurd (cc)
    at b (block x (block y ys)) (are_lines s) h = absurd (cc)
    at b r (other_block d e) h = tail-tight (tags l) (block d r) (ap may_be_tight (sym (line-other l d r e)) ∙ h)

element-tight : (name : BlockElement) (attributes : List BlockAttribute) (t : Option (List ℕ)) (i r : Blocks)
    → (may_be_tight i ≡ true → may_be_tight r ≡ true)
    → may_be_tight (element_before name attributes t i r) ≡ true → may_be_tight r ≡ true
element-tight name attributes (Some s) i r inner h = line-tight _ r h
element-tight name attributes None i r inner h = inner (line-tight _ i h)

mutual
  before-tight : (b : Block) (r : Blocks) → may_be_tight (flat_before b r) ≡ true → may_be_tight r ≡ true
  before-tight (paragraph content) r h = tail-tight (paragraph content) r h
  before-tight (heading level content) r h = tail-tight (heading level content) r h
  before-tight (code_block language s) r h = tail-tight (code_block language s) r h
  before-tight (quote content) r h = tail-tight (quote (flat_all content no_blocks)) r h
  before-tight thematic_break r h = tail-tight thematic_break r h
  before-tight (list start t items) r h = tail-tight (list start t (flat_items items)) r h
  before-tight (table alignments header rows) r h = tail-tight (table alignments header rows) r h
  before-tight (element name attributes content) r h =
      let end = line_before (end_of_element name) r in
      element-tight name attributes (text_in_line content) (flat_all content end) r
      (λ inner. line-tight (end_of_element name) r (all-tight content end inner)) h
  before-tight (tags s) r h = tail-tight (tags s) r h

  all-tight : (bs : Blocks) (r : Blocks) → may_be_tight (flat_all bs r) ≡ true → may_be_tight r ≡ true
  all-tight no_blocks r h = h
  all-tight (block b bs) r h = all-tight bs r (before-tight b (flat_all bs r) h)

-- ---- lists of blocks

flat-append : (xs ys : List Block) (r : Blocks)
    → flat_all (blocks_of (xs ++ ys)) r ≡ flat_all (blocks_of xs) (flat_all (blocks_of ys) r)
flat-append [] ys r = refl
flat-append (x ∷ xs) ys r = ap (flat_before x) (flat-append xs ys r)

flat-plain : (b : Block) (r : Blocks) → is_plain b ≡ true → flat_before b r ≡ block (flat_block b) r
flat-plain (paragraph content) r e = refl
flat-plain (heading level content) r e = refl
flat-plain (code_block language s) r e = refl
flat-plain (quote content) r e = refl
flat-plain thematic_break r e = refl
flat-plain (list start t items) r e = refl
flat-plain (table alignments header rows) r e = refl
flat-plain (element name attributes content) r e = absurd (cc)
flat-plain (tags s) r e = absurd (cc)

plain-no_tags : (b : Block) → is_plain b ≡ true → are_tags (flat_block b) ≡ false
plain-no_tags (paragraph content) e = refl
plain-no_tags (heading level content) e = refl
plain-no_tags (code_block language s) e = refl
plain-no_tags (quote content) e = refl
plain-no_tags thematic_break e = refl
plain-no_tags (list start t items) e = refl
plain-no_tags (table alignments header rows) e = refl
plain-no_tags (element name attributes content) e = absurd (cc)
plain-no_tags (tags s) e = absurd (cc)

flat-paragraph : (b : Block) → is_paragraph (flat_block b) ≡ is_paragraph b
flat-paragraph (paragraph content) = refl
flat-paragraph (heading level content) = refl
flat-paragraph (code_block language s) = refl
flat-paragraph (quote content) = refl
flat-paragraph thematic_break = refl
flat-paragraph (list start t items) = refl
flat-paragraph (table alignments header rows) = refl
flat-paragraph (element name attributes content) = refl
flat-paragraph (tags s) = refl

-- where they have to be, these may be tight
abbrev pub Tight : Bool → List Block → Type 0
Tight is_tight bs = is_tight ≡ true → may_be_tight (flattened (blocks_of bs)) ≡ true

pub tight-head : (is_tight : Bool) (xs ys : List Block) → Tight is_tight (xs ++ ys) → Tight is_tight xs
tight-head is_tight xs ys h = λ e.
    tight-front (flattened (blocks_of xs)) (flat_all (blocks_of xs) (flattened (blocks_of ys)))
    (front-all (blocks_of xs) no_blocks (flattened (blocks_of ys)) (front_none (flattened (blocks_of ys))))
    (ap may_be_tight (sym (flat-append xs ys no_blocks)) ∙ h e)

pub tight-back : (is_tight : Bool) (xs ys : List Block) → Tight is_tight (xs ++ ys) → Tight is_tight ys
tight-back is_tight xs ys h = λ e.
    all-tight (blocks_of xs) (flattened (blocks_of ys))
    (ap may_be_tight (sym (flat-append xs ys no_blocks)) ∙ h e)

-- another block in the place of the last
pub tight-put : (is_tight : Bool) (xs : List Block) (b p : Block) (ys : List Block) → is_plain b ≡ true
    → is_plain p ≡ true
    → (goes_on_a_paragraph (flat_block b) ≡ true → goes_on_a_paragraph (flat_block p) ≡ true)
    → Tight is_tight (xs ++ b ∷ ys) → Tight is_tight (xs ++ p ∷ [])
tight-put is_tight xs b p ys plain other on h = λ e.
    let behind = flattened (blocks_of ys) in
    let here : flattened (blocks_of (xs ++ p ∷ [])) ≡ flat_all (blocks_of xs) (block (flat_block p) no_blocks) =
    flat-append xs (p ∷ []) no_blocks ∙ ap (flat_all (blocks_of xs)) (flat-plain p no_blocks other) in
    let there : flattened (blocks_of (xs ++ b ∷ ys)) ≡ flat_all (blocks_of xs) (block (flat_block b) behind) =
    flat-append xs (b ∷ ys) no_blocks ∙ ap (flat_all (blocks_of xs)) (flat-plain b behind plain) in
    ap may_be_tight here
    ∙ tight-front (flat_all (blocks_of xs) (block (flat_block p) no_blocks))
    (flat_all (blocks_of xs) (block (flat_block b) behind))
    (front-all (blocks_of xs) (block (flat_block p) no_blocks) (block (flat_block b) behind)
    (front_last (flat_block p) (flat_block b) behind (plain-no_tags p other) (plain-no_tags b plain) on))
    (ap may_be_tight (sym there) ∙ h e)

first-tight : (b p : Block) (r : Blocks) → (is_paragraph b ≡ true → is_paragraph p ≡ true)
    → may_be_tight (block b r) ≡ true → may_be_tight (block p r) ≡ true
first-tight b p no_blocks same h = refl
first-tight b p (block x no_blocks) same h = let two = two-tight b x h in from-two p x (same two.0) two.1
first-tight b p (block x (block y ys)) same h = absurd (cc)

-- another block in the place of the first
pub tight-begun : (is_tight : Bool) (b p : Block) (ys : List Block) → is_plain b ≡ true → is_plain p ≡ true
    → (is_paragraph b ≡ true → is_paragraph p ≡ true)
    → Tight is_tight (b ∷ ys) → Tight is_tight (p ∷ ys)
tight-begun is_tight b p ys plain other same h = λ e.
    let behind = flattened (blocks_of ys) in
    ap may_be_tight (flat-plain p behind other)
    ∙ first-tight (flat_block b) (flat_block p) behind
    (λ is. flat-paragraph p ∙ same (sym (flat-paragraph b) ∙ is))
    (ap may_be_tight (sym (flat-plain b behind plain)) ∙ h e)
