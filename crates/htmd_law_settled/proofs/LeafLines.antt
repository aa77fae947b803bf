-- Parts whose leaves are of a kind make blocks and lines whose leaves are.
use Rattle.std.proofs.Common.{◌≡◌, ℕ, zero, suc, Bool, true, false, not, ◌&&◌, List, [], ◌∷◌, ◌++◌, refl, sym, ap}
use Rattle.std.proofs.Common.{Option, subst, ◌∙◌, map, fold, take, append_assoc, inl}
use Rattle.std.specs.Prelude.{◌⊎◌}
use Rattle.std.specs.Prelude.{if◌then◌else◌, encode_utf8, encode_utf8_all, nat_le}
use Rattle.std.specs.List.{list_all}
use Rattle.std.specs.Str.{chars, IsUtf8}
use Rattle.std.proofs.Math.Utf8.{scalars, scalar}
use Rattle.std.proofs.lemmas.Bool.{and_parts}
use Rattle.std.proofs.lemmas.List.{append-nil}
use Rattle.htmd_lexical.specs.Characters.{space}
use Rattle.htmd_lexical.specs.WhiteSpace.{is_ascii_white_space}
use Rattle.htmd_document.specs.Documents.{Inline, text, code, formatted, link, image, anchor, line_break, task}
use Rattle.htmd_document.specs.Documents.{Inlines, no_inlines, inline, Block, paragraph, heading, code_block, quote}
use Rattle.htmd_document.specs.Documents.{thematic_break, list, table, element, tags, Blocks, no_blocks, block}
use Rattle.htmd_document.specs.Documents.{Items, no_items, item, BlockAttribute}
use Rattle.htmd_document.specs.declared.document.BlockElement.{BlockElement}
use Rattle.htmd_lexical.specs.Attributes.{attribute_names}
use Rattle.htmd_lexical.specs.CharacterClasses.{are_distinct}
use Rattle.htmd_flow.specs.Nesting.{wrapped, wrapped_by, one_inline, text_or_code, met, joined, with_content, in_last}
use Rattle.htmd_flow.specs.Nesting.{Wrapper, behind, wrapper_of, shared, before_link}
use Rattle.htmd_flow.specs.Nodes.{blocks_of, line_of}
use Rattle.htmd_flow.specs.Paragraphs.{Writing, begun, is_leaf, anchored, shown_content, whole_content, paragraph_of}
use Rattle.htmd_flow.specs.Paragraphs.{open_paragraph, ended, parted, broken_off, spaced_out, white_behind, is_code_gap}
use Rattle.htmd_flow.specs.Paragraphs.{latest_of, gap_before, gap_behind, shared_wrappers, put_before, shown}
use Rattle.htmd_flow.specs.Paragraphs.{after_leaf, is_task_here}
use Rattle.htmd_flow.specs.Paragraphs.{boxed, with_task, tasked, is_boxed_item, edged, blocked}
use Rattle.htmd_flow.specs.Paragraphs.{after_character, fed, fed_all, blocks_in}
use Rattle.htmd_flow.specs.declared.paragraphs.Latest.{Latest}
use Rattle.htmd_flow.specs.declared.paragraphs.Latest.TheVariants.{Nothing, Task, Plain, Code}
use Rattle.htmd_flow.specs.declared.paragraphs.Met.TheVariants as met_before
use Rattle.htmd_flow.specs.Parts.{Around, linked, Part, run, picture, break, place, box, edge, whole}
use Rattle.htmd_flow.specs.Parts as part
use Rattle.htmd_shown.specs.Spaces.{Gap, is_white, shown_white, ends_with_space}
use Rattle.htmd_document.specs.Documents as documents
use Rattle.htmd_document.specs.NormalDocuments.{item_count}
use Rattle.htmd_law_rendering.specs.RenderedTrees.{pairs_of_element}
use Rattle.htmd_law_returning.specs.SettledDocuments.{is_right_list, has_fitting_numbers}
use Rattle.htmd_law_settled.specs.Leaves.{Leaves}
use Rattle.htmd_law_settled.proofs.OrderedLeaves.{is_ordered_element}
use Rattle.htmd_law_returning.specs.ElementPlaces.{Holder, in_flow, in_details, in_figure, inside, stands_in, is_mixed}
use Rattle.htmd_law_settled.proofs.LineShapes.{Whole}
use Rattle.htmd_law_settled.proofs.LinePlaces.{Along, IsLeaf, along-before, along-weaker, is_code_inline}
use Rattle.htmd_law_settled.proofs.LineWritings.{IsWritten, character-leaf, code-inline, shown-written, line-whole}
use lib.Utf8.{encode}

-- no attribute comes twice
abbrev pub are_different : List BlockAttribute → Bool
are_different attributes = are_distinct (attribute_names (pairs_of_element attributes))

module _ (k : Leaves) where
  -- ---- texts

  abbrev pub AllCharacters : List ℕ → Type 0
  AllCharacters [] = Unit {0}
  AllCharacters (c ∷ cs) = (scalar c ≡ true) × (k.character c ≡ true) × AllCharacters cs

  pub all-characters : (cs : List ℕ) → scalars cs ≡ true → list_all k.character cs ≡ true → AllCharacters cs
  all-characters [] e f = tt
  all-characters (c ∷ cs) e f =
      let a = and_parts (scalar c) (scalars cs) e in
      let b = and_parts (k.character c) (list_all k.character cs) f in
      (a.0, b.0, all-characters cs a.1 b.1)

  characters-append : (cs ds : List ℕ) → AllCharacters cs → AllCharacters ds → AllCharacters (cs ++ ds)
  characters-append [] ds g h = h
  characters-append (c ∷ cs) ds g h = (g.0, g.1, characters-append cs ds g.2 h)

  -- a text of such characters
  abbrev pub IsText : List ℕ → Type 0
  IsText s = (cs : List ℕ) × (s ≡ encode_utf8_all cs) × AllCharacters cs

  text-nil : IsText []
  text-nil = ([], refl, tt)

  encodes-append : (cs ds : List ℕ) → encode_utf8_all (cs ++ ds) ≡ encode_utf8_all cs ++ encode_utf8_all ds
  encodes-append [] ds = refl
  encodes-append (c ∷ cs) ds =
      ap (λ (y : List ℕ). encode_utf8 c ++ y) (encodes-append cs ds)
      ∙ sym (append_assoc (encode_utf8 c) (encode_utf8_all cs) (encode_utf8_all ds))

  text-append : (s t : List ℕ) → IsText s → IsText t → IsText (s ++ t)
  text-append s t g h = (
    g.0 ++ h.0,
    ap (λ (y : List ℕ). y ++ t) g.1 ∙ ap (λ (y : List ℕ). encode_utf8_all g.0 ++ y) h.1
        ∙ sym (encodes-append g.0 h.0),
    characters-append g.0 h.0 g.2 h.2,
  )

  text-character : (c : ℕ) → scalar c ≡ true → k.character c ≡ true → IsText (encode_utf8 c)
  text-character c e f = (c ∷ [], sym (append-nil (encode_utf8 c)), (e, f, tt))

  -- elements that a page may have
  abbrev pub AllowsElements : Type 0
  AllowsElements = (name : BlockElement) (attributes : List BlockAttribute) (content : Blocks)
      → is_ordered_element name attributes content ≡ true → k.element name attributes content ≡ true

  -- ---- documents

  abbrev mutual
    pub HasInline : Inline → Type 0
    HasInline (text s) = IsText s
    HasInline (code s) = IsText s
    HasInline (formatted f content) = (k.format f ≡ true) × HasLine content
    HasInline (link address title content) = (k.link address title ≡ true) × HasLine content
    HasInline (image address title description) = k.image address title description ≡ true
    HasInline (anchor id) = Unit {0}
    HasInline line_break = Unit {0}
    HasInline (task is_checked) = Unit {0}

    pub HasLine : Inlines → Type 0
    HasLine no_inlines = Unit {0}
    HasLine (inline x xs) = HasInline x × HasLine xs

  -- what a paragraph, a heading or a cell holds
  abbrev pub HasWhole : Inlines → Type 0
  HasWhole xs = HasLine xs × Whole xs

  pub nothing-whole : HasWhole no_inlines
  nothing-whole = (tt, (tt, tt, tt, tt))

  abbrev pub HaveCells : List Inlines → Type 0
  HaveCells [] = Unit {0}
  HaveCells (c ∷ cs) = HasWhole c × HaveCells cs

  abbrev pub HaveRows : List (List Inlines) → Type 0
  HaveRows [] = Unit {0}
  HaveRows (r ∷ rs) = HaveCells r × HaveRows rs

  -- in so many lists and quotes a page shows this list
  abbrev pub IsRightList : ℕ → Option ℕ → Bool → Items → Type 0
  IsRightList n start is_tight items =
      (is_right_list is_tight items ≡ true) × (has_fitting_numbers n start (item_count items) ≡ true)

  abbrev mutual
    -- in so many lists and quotes
    pub HasBlock : ℕ → Block → Type 0
    HasBlock n (paragraph content) = HasWhole content
    HasBlock n (heading level content) = HasWhole content × (k.heading content ≡ true)
    HasBlock n (code_block language s) = k.code language s ≡ true
    HasBlock n (quote content) = HaveInside in_flow (suc n) content
    HasBlock n thematic_break = Unit {0}
    HasBlock n (list start is_tight items) = IsRightList n start is_tight items × HaveItems (suc n) items
    HasBlock n (table alignments header rows) =
        HaveCells header × HaveRows rows × (k.table header rows ≡ true)
    HasBlock n (element name attributes content) =
        (k.element name attributes content ≡ true) × (stands_in in_flow name ≡ true)
        × (are_different attributes ≡ true)
        × HaveInside (inside name) n content
    HasBlock n (tags s) = ⊥

    -- a part of an element
    pub HasPiece : Holder → ℕ → Block → Type 0
    HasPiece h n (element name attributes content) =
        (k.element name attributes content ≡ true) × (stands_in h name ≡ true)
        × (are_different attributes ≡ true)
        × HaveInside (inside name) n content
    HasPiece h n b = ⊥

    pub HaveInside : Holder → ℕ → Blocks → Type 0
    HaveInside h n no_blocks = Unit {0}
    HaveInside in_flow n (block b bs) = HasBlock n b × HaveInside in_flow n bs
    HaveInside in_details n (block b bs) = (HasBlock n b ⊎ HasPiece in_details n b) × HaveInside in_details n bs
    HaveInside in_figure n (block b bs) = (HasBlock n b ⊎ HasPiece in_figure n b) × HaveInside in_figure n bs
    HaveInside h n (block b bs) = HasPiece h n b × HaveInside h n bs

    pub HaveItems : ℕ → Items → Type 0
    HaveItems n no_items = Unit {0}
    HaveItems n (item bs items) = HaveInside in_flow n bs × HaveItems n items

  abbrev pub HaveBlocks : ℕ → Blocks → Type 0
  HaveBlocks n bs = HaveInside in_flow n bs

  abbrev pub IsElement : Holder → ℕ → BlockElement → List BlockAttribute → Blocks → Type 0
  IsElement h n name attributes content =
      (k.element name attributes content ≡ true) × (stands_in h name ≡ true) × (are_different attributes ≡ true)
      × HaveInside (inside name) n content

  -- a block there
  abbrev pub HasIn : Holder → ℕ → Block → Type 0
  HasIn in_flow n b = HasBlock n b
  HasIn in_details n b = HasBlock n b ⊎ HasPiece in_details n b
  HasIn in_figure n b = HasBlock n b ⊎ HasPiece in_figure n b
  HasIn h n b = HasPiece h n b

  flow-in : (o : Holder) → is_mixed o ≡ true → (n : ℕ) (b : Block) → HasBlock n b → HasIn o n b
  flow-in in_flow e n b h = h
  flow-in in_details e n b h = inl h
  flow-in in_figure e n b h = inl h
  flow-in o e n b h = absurd (cc)

  -- ---- parts

  abbrev pub HasAround : Around → Type 0
  HasAround (part.formatted f) = k.format f ≡ true
  HasAround (linked node address title) = k.link address title ≡ true

  abbrev pub AllAround : List Around → Type 0
  AllAround [] = Unit {0}
  AllAround (a ∷ around) = HasAround a × AllAround around

  -- a part of what stands there
  abbrev pub HasPartIn : Holder → ℕ → Part → Type 0
  HasPartIn o n (run s around is_code) = AllCharacters (chars s) × AllAround around
  HasPartIn o n (picture address title description around) =
      (k.image address title description ≡ true) × AllAround around
  HasPartIn o n break = Unit {0}
  HasPartIn o n (place id) = Unit {0}
  HasPartIn o n (box is_checked) = Unit {0}
  HasPartIn o n edge = Unit {0}
  HasPartIn o n (whole b) = HasIn o n b

  abbrev pub AllPartsIn : Holder → ℕ → List Part → Type 0
  AllPartsIn o n [] = Unit {0}
  AllPartsIn o n (p ∷ ps) = HasPartIn o n p × AllPartsIn o n ps

  abbrev pub AllParts : ℕ → List Part → Type 0
  AllParts n ps = AllPartsIn in_flow n ps

  part-flow : (o : Holder) → is_mixed o ≡ true → (n : ℕ) (p : Part) → HasPartIn in_flow n p
      → HasPartIn o n p
  part-flow o e n (run s around is_code) h = h
  part-flow o e n (picture address title description around) h = h
  part-flow o e n break h = h
  part-flow o e n (place id) h = h
  part-flow o e n (box is_checked) h = h
  part-flow o e n edge h = h
  part-flow o e n (whole b) h = flow-in o e n b h

  pub parts-flow : (o : Holder) → is_mixed o ≡ true → (n : ℕ) (ps : List Part) → AllParts n ps
      → AllPartsIn o n ps
  parts-flow o e n [] h = tt
  parts-flow o e n (p ∷ ps) h = (part-flow o e n p h.0, parts-flow o e n ps h.1)

  -- ---- inlines in each other

  one-wrapped : (a : Around) (xs : Inlines) → HasAround a → HasLine xs → HasInline (wrapped_by a xs)
  one-wrapped (part.formatted f) xs h g = (h, g)
  one-wrapped (linked node address title) xs h g = (h, g)

  wrapped-has : (around : List Around) (y : Inline) → AllAround around → HasInline y
      → HasInline (wrapped around y)
  wrapped-has [] y h g = g
  wrapped-has (a ∷ around) y h g = one-wrapped a (one_inline (wrapped around y)) h.0 (wrapped-has around y h.1 g, tt)

  met-has : (x y : Inline) → HasInline x → HasInline y → HasLine (met x y)
  met-has (text s) (text t) g h = (text-append s t g h, tt)
  met-has (code s) (code t) g h = (text-append s t g h, tt)
  met-has (text s) y g h = (g, (h, tt))
  met-has (code s) y g h = (g, (h, tt))
  met-has x y g h = (g, (h, tt))

  joined-has : (xs : Inlines) (y : Inline) → HasLine xs → HasInline y → HasLine (joined xs y)
  joined-has no_inlines y g h = (h, tt)
  joined-has (inline x no_inlines) y g h = met-has x y g.0 h
  joined-has (inline x (inline z xs)) y g h = (g.0, joined-has (inline z xs) y g.1 h)

  abbrev Keeps : (Inlines → Inlines) → Type 0
  Keeps change = (xs : Inlines) → HasLine xs → HasLine (change xs)

  content-has : (change : Inlines → Inlines) → Keeps change → (x : Inline) → HasInline x
      → HasInline (with_content change x)
  content-has change f (formatted g content) h = (h.0, f content h.1)
  content-has change f (link address title content) h = (h.0, f content h.1)
  content-has change f x h = h

  last-has : (change : Inlines → Inlines) → Keeps change → Keeps (in_last change)
  last-has change f no_inlines h = h
  last-has change f (inline x no_inlines) h = (content-has change f x h.0, tt)
  last-has change f (inline x (inline z xs)) h = (h.0, last-has change f (inline z xs) h.1)

  behind-has : (n : ℕ) (xs : Inlines) (around : List Around) (y : Inline) → AllAround around → HasLine xs
      → HasInline y → HasLine (behind n xs around y)
  behind-has zero xs around y a g h = joined-has xs (wrapped around y) g (wrapped-has around y a h)
  behind-has (suc n) xs [] y a g h = joined-has xs y g h
  behind-has (suc n) xs (z ∷ around) y a g h =
      last-has (λ content. behind n content around y) (λ content f. behind-has n content around y a.1 f h) xs g

  take-around : (n : ℕ) (around : List Around) → AllAround around → AllAround (take n around)
  take-around zero around a = tt
  take-around (suc n) [] a = tt
  take-around (suc n) (z ∷ around) a = (a.0, take-around n around a.1)

  anchored-has : (n : ℕ) (ids : List (List ℕ)) (xs : Inlines) (around : List Around) → AllAround around
      → HasLine xs
      → HasLine (anchored n xs around ids)
  anchored-has n [] xs around a h = h
  anchored-has n (id ∷ ids) xs around a h =
      anchored-has n ids (behind n xs (take n around) (anchor id)) around a
      (behind-has n xs (take n around) (anchor id) (take-around n around a) h tt)

  either-line : (b : Bool) (xs ys : Inlines) → HasLine xs → HasLine ys → HasLine (if b then xs else ys)
  either-line true xs ys g h = g
  either-line false xs ys g h = h

  as-text : (is_code : Bool) (s : List ℕ) → IsText s → HasInline (text_or_code is_code s)
  as-text true s h = h
  as-text false s h = h

  -- ---- blocks

  abbrev AllBlocks : Holder → ℕ → List Block → Type 0
  AllBlocks o n [] = Unit {0}
  AllBlocks o n (b ∷ bs) = HasIn o n b × AllBlocks o n bs

  blocks-append : (o : Holder) (n : ℕ) (bs cs : List Block) → AllBlocks o n bs → AllBlocks o n cs
      → AllBlocks o n (bs ++ cs)
  blocks-append o n [] cs g h = h
  blocks-append o n (b ∷ bs) cs g h = (g.0, blocks-append o n bs cs g.1 h)

  of-blocks : (o : Holder) (n : ℕ) (bs : List Block) → AllBlocks o n bs → HaveInside o n (documents.blocks_of bs)
  of-blocks o n [] h = tt
  of-blocks in_flow n (b ∷ bs) h = (h.0, of-blocks in_flow n bs h.1)
  of-blocks in_details n (b ∷ bs) h = (h.0, of-blocks in_details n bs h.1)
  of-blocks in_figure n (b ∷ bs) h = (h.0, of-blocks in_figure n bs h.1)
  of-blocks o n (b ∷ bs) h = (h.0, of-blocks o n bs h.1)

  paragraph-has : (o : Holder) → is_mixed o ≡ true → (n : ℕ) (xs : Inlines) → HasWhole xs
      → AllBlocks o n (paragraph_of xs)
  paragraph-has o e n no_inlines h = tt
  paragraph-has o e n (inline x xs) h = (flow-in o e n (paragraph (inline x xs)) h, tt)

  -- at a depth, in what holds all that stands elsewhere
  module _ (spaces : k.character space ≡ true) (o : Holder) (mixed : is_mixed o ≡ true) (at : ℕ) where
    space-text : IsText (space ∷ [])
    unfolding encode
    space-text = (space ∷ [], refl, (refl, spaces, tt))

    -- ---- what is begun

    pub record HasWritingIn (w : Writing) : Type 0 where
      pub done : AllBlocks o at w.done
      pub content : HasLine w.content
      pub gap : IsText w.gap.white
      pub written : IsWritten w.latest w.content w.around w.anchors

    pub begun-in : (in_item is_flat : Bool) → HasWritingIn (begun in_item is_flat)
    begun-in in_item is_flat = record { done = tt; content = tt; gap = text-nil; written = refl }

    either-writing : (b : Bool) (v w : Writing) → HasWritingIn v → HasWritingIn w
        → HasWritingIn (if b then v else w)
    either-writing true v w g h = g
    either-writing false v w g h = h

    whole-has : (w : Writing) → HasWritingIn w → HasWhole (whole_content w)
    whole-has w h = (
      anchored-has 0 w.anchors (shown_content w) [] tt
          (either-line (is_leaf w.latest) w.content no_inlines h.content tt),
      line-whole w h.written,
    )

    ended-has : (w : Writing) → HasWritingIn w → HasWritingIn (ended w)
    ended-has w h = record {
      done = blocks-append o at w.done (open_paragraph w) h.done
          (paragraph-has o mixed at (whole_content w) (whole-has w h));
      content = tt;
      gap = text-nil;
      written = refl;
    }

    parted-has : (w : Writing) → HasWritingIn w → HasWritingIn (parted w)
    parted-has w h = either-writing (not w.is_flat && nat_le 2 w.breaks) (ended w) w (ended-has w h) h

    broken-has : (w : Writing) → HasWritingIn w → HasWritingIn (broken_off w)
    broken-has w h = record { done = h.done; content = h.content; gap = text-nil; written = h.written }

    white-text : (b : Bool) (c : ℕ) → scalar c ≡ true → k.character c ≡ true
        → IsText (encode_utf8 (if b then space else c))
    white-text true c e f = text-character space refl spaces
    white-text false c e f = text-character c e f

    gap-text : (b : Bool) (g h : Gap) → IsText g.white → IsText h.white → IsText (if b then g else h).white
    gap-text true g h a b = a
    gap-text false g h a b = b

    spaced-has : (w : Writing) (c : ℕ) (is_code : Bool) → HasWritingIn w → scalar c ≡ true
        → k.character c ≡ true
        → HasWritingIn (spaced_out w c is_code)
    spaced-has w c is_code h e f = record {
      done = h.done;
      content = h.content;
      gap = gap-text (is_ascii_white_space c && ends_with_space w.gap.white) w.gap
          (record (w.gap) {
            white = w.gap.white ++ encode_utf8 (shown_white c);
            is_code = w.gap.is_code && is_code;
          }) h.gap (text-append w.gap.white (encode_utf8 (shown_white c)) h.gap
          (white-text (is_ascii_white_space c) c e f));
      written = h.written;
    }

    white-has : (n : ℕ) (xs : Inlines) (around : List Around) (is_code : Bool) (s : List ℕ) → AllAround around
        → HasLine xs → IsText s → HasLine (white_behind n xs around is_code s)
    white-has n xs around is_code [] a g h = g
    white-has n xs around is_code (b ∷ s) a g h =
        behind-has n xs (take n around) (text_or_code is_code (b ∷ s)) (take-around n around a) g
        (as-text is_code (b ∷ s) h)

    gap-has : (w : Writing) (around : List Around) (is_code : Bool) → HasWritingIn w → AllAround around
        → HasLine (gap_before w around is_code)
    gap-has w around is_code h a =
        let wrappers = map wrapper_of around in
        let n : ℕ = shared w.around wrappers in
        either-line w.gap.has_break (behind n w.content (take n around) line_break)
        (white_behind n w.content around (is_code && is_code_gap w wrappers) w.gap.white)
        (behind-has n w.content (take n around) line_break (take-around n around a) h.content tt)
        (white-has n w.content around (is_code && is_code_gap w wrappers) w.gap.white a h.content h.gap)

    gap-behind-has : (l : Latest) (w : Writing) (around : List Around) (is_code : Bool) → HasWritingIn w
        → AllAround around → HasLine (gap_behind l w around is_code)
    gap-behind-has Nothing w around is_code h a = h.content
    gap-behind-has Task w around is_code h a = behind-has 0 w.content [] (text (space ∷ [])) tt h.content space-text
    gap-behind-has Plain w around is_code h a = gap-has w around is_code h a
    gap-behind-has Code w around is_code h a = gap-has w around is_code h a

    text-utf8 : (s : List ℕ) → IsText s → IsUtf8 s
    text-utf8 s h = (h.0, (all_scalar h.0 h.2, sym h.1))
      where
        all_scalar : (cs : List ℕ) → AllCharacters cs → scalars cs ≡ true
        all_scalar [] h = refl
        all_scalar (c ∷ cs) h = rw (h.0, all_scalar cs h.2) refl

    latest-written : (is_code : Bool) (leaf : Inline) (xs : Inlines) (ms : List Wrapper)
        → (is_code ≡ true → is_code_inline leaf ≡ true) → Whole xs × Along (is_code_inline leaf) ms xs
        → IsWritten (latest_of is_code) xs ms []
    latest-written true leaf xs ms coded h =
        let q = subst (λ b. Along b ms xs) (coded refl) h.1 in (h.0, along-weaker true xs ms q, λ e. q)
    latest-written false leaf xs ms coded h = (h.0, along-weaker (is_code_inline leaf) xs ms h.1)

    shown-has : (w : Writing) (around : List Around) (is_code : Bool) (leaf : Inline) → HasWritingIn w
        → AllAround around → HasInline leaf → IsLeaf leaf → (is_code ≡ true → is_code_inline leaf ≡ true)
        → HasWritingIn (shown w around is_code leaf)
    shown-has w around is_code leaf h a g l coded =
        let n : ℕ = shared_wrappers w (map wrapper_of around) in
        let before : Inlines = gap_behind w.latest w around is_code in
        record {
          done = h.done;
          content = behind-has n (put_before w around is_code) around leaf a
              (anchored-has n w.anchors before around a (gap-behind-has w.latest w around is_code h a)) g;
          gap = text-nil;
          written = latest-written is_code leaf (behind n (put_before w around is_code) around leaf)
              (map wrapper_of around) coded
              (shown-written w.anchors leaf l around w is_code (text-utf8 w.gap.white h.gap) refl coded w.latest refl
              h.written);
        }

    leaf-has : (w : Writing) (around : List Around) (is_code : Bool) (leaf : Inline) → HasWritingIn w
        → AllAround around → HasInline leaf → IsLeaf leaf → (is_code ≡ true → is_code_inline leaf ≡ true)
        → HasWritingIn (after_leaf w around is_code leaf)
    leaf-has w around is_code leaf h a g l coded =
        shown-has (parted w) around is_code leaf (parted-has w h) a g l coded

    tasked-has : (w : Writing) (is_checked : Bool) → HasWritingIn w → HasWritingIn (tasked w is_checked)
    tasked-has w is_checked h =
        either-writing (is_task_here w) (with_task (boxed w) is_checked) (boxed w)
        (record { done = h.done; content = (tt, tt); gap = text-nil; written = (is_checked, refl) })
        (record { done = h.done; content = h.content; gap = h.gap; written = h.written })

    edged-has : (w : Writing) → HasWritingIn w → HasWritingIn (edged w)
    edged-has w h =
        let e = ended-has w h in
        either-writing w.is_flat (broken_off w)
        (if is_boxed_item w then w else record (ended w) { met = met_before.Nothing }) (broken-has w h)
        (either-writing (is_boxed_item w) w (record (ended w) { met = met_before.Nothing }) h
        (record { done = e.done; content = e.content; gap = e.gap; written = e.written }))

    blocked-has : (w : Writing) (b : Block) → HasWritingIn w → HasIn o at b → HasWritingIn (blocked w b)
    blocked-has w b h g =
        let e = ended-has w h in
        either-writing w.is_flat (broken_off w)
        (record (ended w) { done = (ended w).done ++ b ∷ []; met = met_before.Nothing }) (broken-has w h)
        (record {
          done = blocks-append o at (ended w).done (b ∷ []) e.done (g, tt);
          content = e.content;
          gap = e.gap;
          written = e.written;
        })

    -- ---- the parts

    character-has : (w : Writing) (around : List Around) (is_code : Bool) (c : ℕ) → HasWritingIn w
        → AllAround around
        → scalar c ≡ true → k.character c ≡ true → HasWritingIn (after_character w around is_code c)
    character-has w around is_code c h a e f = by_white (is_white c) refl
      where
        by_white : (b : Bool) → is_white c ≡ b
            → HasWritingIn (if b then spaced_out w c is_code
            else after_leaf w around is_code (text_or_code is_code (encode_utf8 c)))
        by_white true q = spaced-has w c is_code h e f
        by_white false q =
            leaf-has w around is_code (text_or_code is_code (encode_utf8 c)) h a
            (as-text is_code (encode_utf8 c) (text-character c e f)) (character-leaf is_code c e q)
            (λ i. code-inline is_code (encode_utf8 c) i)

    run-has : (cs : List ℕ) (w : Writing) (around : List Around) (is_code : Bool) → HasWritingIn w
        → AllAround around
        → AllCharacters cs → HasWritingIn (fold (λ v c. after_character v around is_code c) w cs)
    run-has [] w around is_code h a f = h
    run-has (c ∷ cs) w around is_code h a f =
        run-has cs (after_character w around is_code c) around is_code
        (character-has w around is_code c h a f.0 f.1) a f.2

    anchor-written : (w : Writing) (id : List ℕ) → IsWritten w.latest w.content w.around w.anchors
        → IsWritten w.latest w.content (before_link w.around) (w.anchors ++ id ∷ [])
    anchor-written w id h = by_latest w.latest h
      where
        some : (ids : List (List ℕ)) → ids ++ id ∷ [] ≡ [] → ⊥
        some [] e = cc
        some (i ∷ ids) e = cc

        by_latest : (l : Latest) → IsWritten l w.content w.around w.anchors
            → IsWritten l w.content (before_link w.around) (w.anchors ++ id ∷ [])
        by_latest Nothing h = h
        by_latest Task h = h
        by_latest Plain h = (h.0, along-before w.content w.around h.1)
        by_latest Code h = (h.0, along-before w.content w.around h.1, λ e. absurd (some w.anchors e))

    fed-has : (w : Writing) (p : Part) → HasWritingIn w → HasPartIn o at p → HasWritingIn (fed w p)
    fed-has w (run s around is_code) h g = run-has (chars s) w around is_code h g.1 g.0
    fed-has w (picture address title description around) h g =
        leaf-has w around false (image address title description) h g.1 g.0 tt (λ i. absurd (cc))
    fed-has w break h g = broken-has w h
    fed-has w (box is_checked) h g = tasked-has (parted w) is_checked (parted-has w h)
    fed-has w (place id) h g =
        let e = parted-has w h in
        record { done = e.done; content = e.content; gap = e.gap; written = anchor-written (parted w) id e.written }
    fed-has w edge h g = edged-has w h
    fed-has w (whole b) h g = blocked-has w b h g

    pub all-fed-in : (w : Writing) (ps : List Part) → HasWritingIn w → AllPartsIn o at ps
        → HasWritingIn (fed_all w ps)
    all-fed-in w [] h g = h
    all-fed-in w (p ∷ ps) h g = all-fed-in (fed w p) ps (fed-has w p h g.0) g.1

    pub writing-inside : (w : Writing) → HasWritingIn w → HaveInside o at (blocks_in w)
    writing-inside w h = of-blocks o at (ended w).done (ended-has w h).done

    pub parts-inside : (in_item : Bool) (ps : List Part) → AllPartsIn o at ps
        → HaveInside o at (blocks_of in_item ps)
    parts-inside in_item ps h =
        writing-inside (fed_all (begun in_item false) ps)
        (all-fed-in (begun in_item false) ps (begun-in in_item false) h)

    pub parts-line-in : (ps : List Part) → AllPartsIn o at ps → HasWhole (line_of ps)
    parts-line-in ps h =
        whole-has (fed_all (begun false true) ps) (all-fed-in (begun false true) ps (begun-in false true) h)

  -- elsewhere
  module _ (spaces : k.character space ≡ true) (at : ℕ) where
    abbrev pub HasWriting : Writing → Type 0
    HasWriting w = HasWritingIn spaces in_flow refl at w

    pub begun-has : (in_item is_flat : Bool) → HasWriting (begun in_item is_flat)
    begun-has in_item is_flat = begun-in spaces in_flow refl at in_item is_flat

    pub all-fed : (w : Writing) (ps : List Part) → HasWriting w → AllParts at ps → HasWriting (fed_all w ps)
    all-fed w ps h g = all-fed-in spaces in_flow refl at w ps h g

    pub writing-blocks : (w : Writing) → HasWriting w → HaveBlocks at (blocks_in w)
    writing-blocks w h = writing-inside spaces in_flow refl at w h

    pub parts-blocks : (in_item : Bool) (ps : List Part) → AllParts at ps → HaveBlocks at (blocks_of in_item ps)
    parts-blocks in_item ps h = parts-inside spaces in_flow refl at in_item ps h

    pub parts-line : (ps : List Part) → AllParts at ps → HasWhole (line_of ps)
    parts-line ps h = parts-line-in spaces in_flow refl at ps h
