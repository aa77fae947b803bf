-- How many flat blocks an item has.
use Rattle.std.proofs.Common.{◌≡◌, ℕ, zero, suc, ◌≤◌, ◌<◌, Bool, true, false, not, ◌&&◌, ◌||◌, List, [], ◌∷◌, length, get_or}
use Rattle.std.proofs.Common.{refl, sym, ap, ◌∙◌, arith}
use Rattle.std.specs.Prelude.{Option, Some, None, is_some}
use Rattle.htmd_lexical.proofs.Cases.{test}
use Rattle.htmd_document.specs.declared.document.Block as declared
use Rattle.htmd_document.specs.declared.document.BlockElement.{BlockElement}
use Rattle.htmd_document.specs.declared.document.Block.{fold_out-Block}
use Rattle.htmd_document.specs.declared.document.Block.TheOpen.{Block-F}
use Rattle.htmd_document.specs.Documents.{BlockAttribute, Block, Blocks, no_blocks, block, paragraph, heading, code_block, quote}
use Rattle.htmd_document.specs.Documents.{thematic_break, list, table, element, tags, Inlines, Items, no_items, item}
use Rattle.htmd_document.specs.DocumentViews.{block_step, block_of, blocks_of}
use Rattle.htmd_document.specs.FlatDocuments.{line_before, element_before, flat_before, flat_all, flat_block, flat_items, flattened}
use Rattle.htmd_document.specs.FlatDocuments.{text_in_line, is_plain}
use Rattle.htmd_document.specs.Tags.{element_tag, end_of_element, element_line}
use Rattle.htmd_document.specs.TightItems.{is_paragraph, is_table, are_tags, is_short, is_tight_item, goes_on_a_paragraph}
use Rattle.htmd_document.specs.TightItems.{is_filled, is_one_or_none, begins_with_blocks}
use Rattle.htmd_flow.specs.ListViews.{is_tags_alone, are_tags_alone}

abbrev size : Blocks → ℕ
size no_blocks = zero
size (block b bs) = suc (size bs)

both-first : (a b : Bool) → (a && b) ≡ true → a ≡ true
both-first true b h = refl
both-first false b h = (cc)

both-second : (a b : Bool) → (a && b) ≡ true → b ≡ true
both-second true b h = h
both-second false b h = (cc)

-- ---- a line before

line-size : (line : List ℕ) (rest : Blocks)
    → (1 ≤ size (line_before line rest)) × (size rest ≤ size (line_before line rest))
line-size line no_blocks = (omega arith, omega arith)
line-size line (block (paragraph content) bs) = (omega arith, omega arith)
line-size line (block (heading level content) bs) = (omega arith, omega arith)
line-size line (block (code_block language t) bs) = (omega arith, omega arith)
line-size line (block (quote content) bs) = (omega arith, omega arith)
line-size line (block thematic_break bs) = (omega arith, omega arith)
line-size line (block (list start is_tight items) bs) = (omega arith, omega arith)
line-size line (block (table alignments header rows) bs) = (omega arith, omega arith)
line-size line (block (element name attributes content) bs) = (omega arith, omega arith)
line-size line (block (tags t) bs) = (omega arith, omega arith)

line-plain : (line : List ℕ) (x : Block) → is_plain x ≡ true → 2 ≤ size (line_before line (block x no_blocks))
line-plain line (paragraph content) h = omega arith
line-plain line (heading level content) h = omega arith
line-plain line (code_block language t) h = omega arith
line-plain line (quote content) h = omega arith
line-plain line thematic_break h = omega arith
line-plain line (list start is_tight items) h = omega arith
line-plain line (table alignments header rows) h = omega arith
line-plain line (element name attributes content) h = absurd (cc)
line-plain line (tags s) h = absurd (cc)

-- ---- no fewer

element-more : (name : BlockElement) (attributes : List BlockAttribute) (o : Option (List ℕ)) (inner rest : Blocks)
    → size (line_before (end_of_element name) rest) ≤ size inner
    → size rest ≤ size (element_before name attributes o inner rest)
element-more name attributes (Some s) inner rest h = (line-size (element_line name attributes s) rest).1
element-more name attributes None inner rest h =
    let a = (line-size (end_of_element name) rest).1 in
    let c = (line-size (element_tag name attributes) inner).1 in
    omega (arith, a, h, c)

mutual
  more : (b : Block) (rest : Blocks) → size rest ≤ size (flat_before b rest)
  more (paragraph content) rest = omega arith
  more (heading level content) rest = omega arith
  more (code_block language t) rest = omega arith
  more (quote content) rest = omega arith
  more thematic_break rest = omega arith
  more (list start is_tight items) rest = omega arith
  more (table alignments header rows) rest = omega arith
  more (tags s) rest = omega arith
  more (element name attributes content) rest =
      let last = line_before (end_of_element name) rest in
      element-more name attributes (text_in_line content) (flat_all content last) rest (more_all content last)

  more_all : (bs : Blocks) (rest : Blocks) → size rest ≤ size (flat_all bs rest)
  more_all no_blocks rest = omega arith
  more_all (block b bs) rest =
      let first = more b (flat_all bs rest) in let others = more_all bs rest in omega (arith, first, others)

-- ---- one more

element-two : (name : BlockElement) (attributes : List BlockAttribute) (o : Option (List ℕ)) (inner rest : Blocks)
    (alone : Bool) → (alone ≡ false → suc (size (line_before (end_of_element name) rest)) ≤ size inner)
    → (is_some o || alone) ≡ false
    → (2 ≤ size (element_before name attributes o inner rest))
    × (suc (size rest) ≤ size (element_before name attributes o inner rest))
element-two name attributes (Some s) inner rest alone g h = absurd (cc)
element-two name attributes None inner rest alone g h =
    let a = line-size (end_of_element name) rest in
    let b = g h in
    let c = (line-size (element_tag name attributes) inner).1 in
    (omega (arith, a.0, b, c), omega (arith, a.1, b, c))

mutual
  longer : (b : Block) (rest : Blocks) → is_tags_alone b ≡ false → suc (size rest) ≤ size (flat_before b rest)
  longer (paragraph content) rest h = omega arith
  longer (heading level content) rest h = omega arith
  longer (code_block language t) rest h = omega arith
  longer (quote content) rest h = omega arith
  longer thematic_break rest h = omega arith
  longer (list start is_tight items) rest h = omega arith
  longer (table alignments header rows) rest h = omega arith
  longer (tags s) rest h = omega arith
  longer (element name attributes content) rest h =
      let last = line_before (end_of_element name) rest in
      (element-two name attributes (text_in_line content) (flat_all content last) rest (are_tags_alone content)
      (λ f. longer_all content last f) h).1

  longer_all : (bs : Blocks) (rest : Blocks) → are_tags_alone bs ≡ false
      → suc (size rest) ≤ size (flat_all bs rest)
  longer_all no_blocks rest h = absurd (cc)
  longer_all (block b bs) rest h = test (is_tags_alone b)
      (λ e. let others = longer_all bs rest (sym (ap (λ x. x && are_tags_alone bs) e) ∙ h) in
      let first = more b (flat_all bs rest) in omega (arith, others, first))
      (λ e. let first = longer b (flat_all bs rest) e in
      let others = more_all bs rest in omega (arith, others, first))

-- an element that isn't tags alone is two at least
two_inside : (name : BlockElement) (attributes : List BlockAttribute) (content rest : Blocks)
    → is_tags_alone (element name attributes content) ≡ false
    → (2 ≤ size (flat_before (element name attributes content) rest))
    × (suc (size rest) ≤ size (flat_before (element name attributes content) rest))
two_inside name attributes content rest h =
    let last = line_before (end_of_element name) rest in
    element-two name attributes (text_in_line content) (flat_all content last) rest (are_tags_alone content)
    (λ f. longer_all content last f) h

-- ---- tags alone

abbrev only_tags : Blocks → Bool
only_tags no_blocks = true
only_tags (block b no_blocks) = are_tags b
only_tags (block b (block c bs)) = false

line-only : (line : List ℕ) (rest : Blocks) → only_tags rest ≡ true → only_tags (line_before line rest) ≡ true
line-only line no_blocks h = refl
line-only line (block (tags t) no_blocks) h = refl
line-only line (block (tags t) (block c bs)) h = absurd (cc)
line-only line (block (paragraph content) no_blocks) h = absurd (cc)
line-only line (block (paragraph content) (block c bs)) h = absurd (cc)
line-only line (block (heading level content) no_blocks) h = absurd (cc)
line-only line (block (heading level content) (block c bs)) h = absurd (cc)
line-only line (block (code_block language t) no_blocks) h = absurd (cc)
line-only line (block (code_block language t) (block c bs)) h = absurd (cc)
line-only line (block (quote content) no_blocks) h = absurd (cc)
line-only line (block (quote content) (block c bs)) h = absurd (cc)
line-only line (block thematic_break no_blocks) h = absurd (cc)
line-only line (block thematic_break (block c bs)) h = absurd (cc)
line-only line (block (list start is_tight items) no_blocks) h = absurd (cc)
line-only line (block (list start is_tight items) (block c bs)) h = absurd (cc)
line-only line (block (table alignments header rows) no_blocks) h = absurd (cc)
line-only line (block (table alignments header rows) (block c bs)) h = absurd (cc)
line-only line (block (element name attributes content) no_blocks) h = absurd (cc)
line-only line (block (element name attributes content) (block c bs)) h = absurd (cc)

element-alone : (name : BlockElement) (attributes : List BlockAttribute) (o : Option (List ℕ)) (inner rest : Blocks)
    (alone : Bool) → only_tags rest ≡ true → (alone ≡ true → only_tags inner ≡ true)
    → (is_some o || alone) ≡ true → only_tags (element_before name attributes o inner rest) ≡ true
element-alone name attributes (Some s) inner rest alone k g h = line-only (element_line name attributes s) rest k
element-alone name attributes None inner rest alone k g h = line-only (element_tag name attributes) inner (g h)

mutual
  alone : (b : Block) (rest : Blocks) → is_tags_alone b ≡ true → only_tags rest ≡ true
      → only_tags (flat_before b rest) ≡ true
  alone (paragraph content) rest h k = absurd (cc)
  alone (heading level content) rest h k = absurd (cc)
  alone (code_block language t) rest h k = absurd (cc)
  alone (quote content) rest h k = absurd (cc)
  alone thematic_break rest h k = absurd (cc)
  alone (list start is_tight items) rest h k = absurd (cc)
  alone (table alignments header rows) rest h k = absurd (cc)
  alone (tags s) rest h k = absurd (cc)
  alone (element name attributes content) rest h k =
      let last = line_before (end_of_element name) rest in
      element-alone name attributes (text_in_line content) (flat_all content last) rest (are_tags_alone content) k
      (λ f. alone_all content last f (line-only (end_of_element name) rest k)) h

  alone_all : (bs : Blocks) (rest : Blocks) → are_tags_alone bs ≡ true → only_tags rest ≡ true
      → only_tags (flat_all bs rest) ≡ true
  alone_all no_blocks rest h k = k
  alone_all (block b bs) rest h k =
      alone b (flat_all bs rest) (both-first (is_tags_alone b) (are_tags_alone bs) h)
      (alone_all bs rest (both-second (is_tags_alone b) (are_tags_alone bs) h) k)

only-short : (bs : Blocks) → only_tags bs ≡ true → is_short bs ≡ true
only-short no_blocks h = refl
only-short (block b no_blocks) h = refl
only-short (block b (block c bs)) h = absurd (cc)

long : (bs : Blocks) → 2 ≤ size bs → is_short bs ≡ false
long no_blocks h = absurd (omega arith)
long (block b no_blocks) h = absurd (omega arith)
long (block b (block c bs)) h = refl

-- ---- blocks of the source, which are no tags

layer-no-tags : (x : Block-F Block) → are_tags (block_step x) ≡ false
layer-no-tags (Block-F.Paragraph xs) = refl
layer-no-tags (Block-F.Heading level xs) = refl
layer-no-tags (Block-F.CodeBlock language s) = refl
layer-no-tags (Block-F.Quote bs) = refl
layer-no-tags Block-F.ThematicBreak = refl
layer-no-tags (Block-F.List start is_tight items) = refl
layer-no-tags (Block-F.Table alignments header rows) = refl
layer-no-tags (Block-F.Element name attributes bs) = refl

no-tags : (b : declared.Block) → are_tags (block_of b) ≡ false
no-tags b = ap are_tags (fold_out-Block Block block_step b) ∙ layer-no-tags _

one : (b : Block) (rest : Blocks) → 1 ≤ size (flat_before b rest)
one (paragraph content) rest = omega arith
one (heading level content) rest = omega arith
one (code_block language t) rest = omega arith
one (quote content) rest = omega arith
one thematic_break rest = omega arith
one (list start is_tight items) rest = omega arith
one (table alignments header rows) rest = omega arith
one (tags s) rest = omega arith
one (element name attributes content) rest = go (text_in_line content)
  where
    inner : Blocks
    inner = flat_all content (line_before (end_of_element name) rest)

    go : (o : Option (List ℕ)) → 1 ≤ size (element_before name attributes o inner rest)
    go (Some s) = (line-size (element_line name attributes s) rest).0
    go None = (line-size (element_tag name attributes) inner).0

-- tags alone before a block that is none
before-plain : (b x : Block) → is_tags_alone b ≡ true → is_plain x ≡ true
    → 2 ≤ size (flat_before b (block x no_blocks))
before-plain (paragraph content) x h k = absurd (cc)
before-plain (heading level content) x h k = absurd (cc)
before-plain (code_block language t) x h k = absurd (cc)
before-plain (quote content) x h k = absurd (cc)
before-plain thematic_break x h k = absurd (cc)
before-plain (list start is_tight items) x h k = absurd (cc)
before-plain (table alignments header rows) x h k = absurd (cc)
before-plain (tags s) x h k = absurd (cc)
before-plain (element name attributes content) x h k = go (text_in_line content)
  where
    last : Blocks
    last = line_before (end_of_element name) (block x no_blocks)

    inner : Blocks
    inner = flat_all content last

    go : (o : Option (List ℕ)) → 2 ≤ size (element_before name attributes o inner (block x no_blocks))
    go (Some s) = line-plain (element_line name attributes s) x k
    go None =
        let a = line-plain (end_of_element name) x k in
        let b = more_all content last in
        let c = (line-size (element_tag name attributes) inner).1 in
        omega (arith, a, b, c)

-- a block that is neither tags alone nor tags before tags alone
two-of : (b x : Block) → is_tags_alone b ≡ true → is_tags_alone x ≡ false → are_tags x ≡ false
    → 2 ≤ size (flat_before b (flat_before x no_blocks))
two-of b (paragraph content) h k t = before-plain b (paragraph content) h refl
two-of b (heading level content) h k t = before-plain b (heading level content) h refl
two-of b (code_block language s) h k t = before-plain b (code_block language s) h refl
two-of b (quote content) h k t = before-plain b (quote (flattened content)) h refl
two-of b thematic_break h k t = before-plain b thematic_break h refl
two-of b (list start is_tight items) h k t = before-plain b (flat_block (list start is_tight items)) h refl
two-of b (table alignments header rows) h k t = before-plain b (table alignments header rows) h refl
two-of b (tags s) h k t = absurd (cc)
two-of b (element name attributes content) h k t =
    let two = (two_inside name attributes content no_blocks k).0 in
    let first = more b (flat_before (element name attributes content) no_blocks) in
    omega (arith, two, first)

alone-one : (a : Bool) → (a && true) ≡ false → a ≡ false
alone-one false g = refl
alone-one true g = absurd (cc)

first-two : (b c : declared.Block) (bs : List declared.Block) → is_tags_alone (block_of b) ≡ false
    → 2 ≤ size (flattened (blocks_of (b ∷ c ∷ bs)))
first-two b c bs e =
    let rest = flat_all (blocks_of (c ∷ bs)) no_blocks in
    let longer = longer (block_of b) rest e in
    let some = one (block_of c) (flat_all (blocks_of bs) no_blocks) in
    omega (arith, longer, some)

behind : (b c : declared.Block) (ds : List declared.Block) → are_tags_alone (blocks_of (c ∷ ds)) ≡ false
    → is_tags_alone (block_of b) ≡ true → 2 ≤ size (flattened (blocks_of (b ∷ c ∷ ds)))
behind b c [] f e = two-of (block_of b) (block_of c) e (alone-one (is_tags_alone (block_of c)) f) (no-tags c)
behind b c (d ∷ ds) f e =
    let rest : 2 ≤ size (flattened (blocks_of (c ∷ d ∷ ds))) = test (is_tags_alone (block_of c))
    (λ g. behind c d ds (sym (ap (λ x. x && are_tags_alone (blocks_of (d ∷ ds))) g) ∙ f) g)
    (λ g. first-two c d ds g) in
    let kept = more (block_of b) (flattened (blocks_of (c ∷ d ∷ ds))) in
    omega (arith, rest, kept)

two : (b c : declared.Block) (bs : List declared.Block) → are_tags_alone (blocks_of (b ∷ c ∷ bs)) ≡ false
    → 2 ≤ size (flattened (blocks_of (b ∷ c ∷ bs)))
two b c bs h = test (is_tags_alone (block_of b))
    (λ e. behind b c bs (sym (ap (λ x. x && are_tags_alone (blocks_of (c ∷ bs))) e) ∙ h) e)
    (λ e. first-two b c bs e)

-- ---- what is asked of an item

pub many-short : (bs : List declared.Block) → 2 ≤ length bs
    → are_tags_alone (blocks_of bs) ≡ is_short (flattened (blocks_of bs))
many-short [] l = absurd (omega arith)
many-short (b ∷ []) l = absurd (omega arith)
many-short (b ∷ c ∷ bs) l = test (are_tags_alone (blocks_of (b ∷ c ∷ bs)))
    (λ e. e ∙ sym (only-short (flattened (blocks_of (b ∷ c ∷ bs)))
    (alone_all (blocks_of (b ∷ c ∷ bs)) no_blocks e refl)))
    (λ e. e ∙ sym (long (flattened (blocks_of (b ∷ c ∷ bs))) (two b c bs e)))

pub one-short : (b : Block) → are_tags b ≡ false
    → (is_plain b || is_tags_alone b) ≡ is_short (flattened (block b no_blocks))
one-short (paragraph content) t = refl
one-short (heading level content) t = refl
one-short (code_block language s) t = refl
one-short (quote content) t = refl
one-short thematic_break t = refl
one-short (list start is_tight items) t = refl
one-short (table alignments header rows) t = refl
one-short (tags s) t = absurd (cc)
one-short (element name attributes content) t = test (is_tags_alone (element name attributes content))
    (λ e. e ∙ sym (only-short (flattened (block (element name attributes content) no_blocks))
    (alone (element name attributes content) no_blocks e refl)))
    (λ e. e ∙ sym (long (flattened (block (element name attributes content) no_blocks))
    (two_inside name attributes content no_blocks e).0))

pub short-one : (b : declared.Block)
    → (is_plain (block_of b) || is_tags_alone (block_of b)) ≡ is_short (flattened (blocks_of (b ∷ [])))
short-one b = one-short (block_of b) (no-tags b)

-- tags among the blocks of an item
abbrev has_tags : Blocks → Bool
has_tags no_blocks = false
has_tags (block b bs) = are_tags b || has_tags bs

line-tags : (line : List ℕ) (rest : Blocks) → has_tags (line_before line rest) ≡ true
line-tags line no_blocks = refl
line-tags line (block (paragraph content) bs) = refl
line-tags line (block (heading level content) bs) = refl
line-tags line (block (code_block language t) bs) = refl
line-tags line (block (quote content) bs) = refl
line-tags line (block thematic_break bs) = refl
line-tags line (block (list start is_tight items) bs) = refl
line-tags line (block (table alignments header rows) bs) = refl
line-tags line (block (element name attributes content) bs) = refl
line-tags line (block (tags t) bs) = refl

element-tags : (name : _) (attributes : _) (content rest : Blocks)
    → has_tags (flat_before (element name attributes content) rest) ≡ true
element-tags name attributes content rest = go (text_in_line content)
  where
    inner : Blocks
    inner = flat_all content (line_before (end_of_element name) rest)

    go : (o : Option (List ℕ)) → has_tags (element_before name attributes o inner rest) ≡ true
    go (Some s) = line-tags (element_line name attributes s) rest
    go None = line-tags (element_tag name attributes) inner

-- tags are in no tight item
tagged-loose : (bs : Blocks) → has_tags bs ≡ true → is_tight_item bs ≡ false
tagged-loose no_blocks h = absurd (cc)
tagged-loose (block b no_blocks) h = last b h
  where
    last : (x : Block) → (are_tags x || false) ≡ true → (not (is_table x) && not (are_tags x)) ≡ false
    last (tags s) g = refl
    last (table alignments header rows) g = refl
    last (paragraph content) g = absurd (cc)
    last (heading level content) g = absurd (cc)
    last (code_block language t) g = absurd (cc)
    last (quote content) g = absurd (cc)
    last thematic_break g = absurd (cc)
    last (list start is_tight items) g = absurd (cc)
    last (element name attributes content) g = absurd (cc)
tagged-loose (block b (block c no_blocks)) h = pair b c h
  where
    pair : (x y : Block) → (are_tags x || (are_tags y || false)) ≡ true
        → (is_paragraph x && goes_on_a_paragraph y) ≡ false
    pair (paragraph content) (list start is_tight items) g = absurd (cc)
    pair (paragraph content) (tags s) g = refl
    pair (paragraph content) (paragraph other) g = refl
    pair (paragraph content) (heading level other) g = refl
    pair (paragraph content) (code_block language t) g = refl
    pair (paragraph content) (quote other) g = refl
    pair (paragraph content) thematic_break g = refl
    pair (paragraph content) (table alignments header rows) g = refl
    pair (paragraph content) (element name attributes other) g = refl
    pair (heading level content) y g = refl
    pair (code_block language t) y g = refl
    pair (quote content) y g = refl
    pair thematic_break y g = refl
    pair (list start is_tight items) y g = refl
    pair (table alignments header rows) y g = refl
    pair (element name attributes content) y g = refl
    pair (tags s) y g = refl
tagged-loose (block b (block c (block d bs))) h = refl

plain-form : (b : Block) (rest : Blocks) → is_plain b ≡ true → flat_before b rest ≡ block (flat_block b) rest
plain-form (paragraph content) rest h = refl
plain-form (heading level content) rest h = refl
plain-form (code_block language t) rest h = refl
plain-form (quote content) rest h = refl
plain-form thematic_break rest h = refl
plain-form (list start is_tight items) rest h = refl
plain-form (table alignments header rows) rest h = refl
plain-form (element name attributes content) rest h = absurd (cc)
plain-form (tags s) rest h = absurd (cc)

other-tags : (b : Block) (rest : Blocks) → are_tags b ≡ false → is_plain b ≡ false
    → has_tags (flat_before b rest) ≡ true
other-tags (element name attributes content) rest t h = element-tags name attributes content rest
other-tags (tags s) rest t h = absurd (cc)
other-tags (paragraph content) rest t h = absurd (cc)
other-tags (heading level content) rest t h = absurd (cc)
other-tags (code_block language s) rest t h = absurd (cc)
other-tags (quote content) rest t h = absurd (cc)
other-tags thematic_break rest t h = absurd (cc)
other-tags (list start is_tight items) rest t h = absurd (cc)
other-tags (table alignments header rows) rest t h = absurd (cc)

kept-tags : (b : Block) (rest : Blocks) → has_tags rest ≡ true → has_tags (flat_before b rest) ≡ true
kept-tags (element name attributes content) rest h = element-tags name attributes content rest
kept-tags (tags s) rest h = refl
kept-tags (paragraph content) rest h = h
kept-tags (heading level content) rest h = h
kept-tags (code_block language s) rest h = h
kept-tags (quote content) rest h = h
kept-tags thematic_break rest h = h
kept-tags (list start is_tight items) rest h = h
kept-tags (table alignments header rows) rest h = h

pub filled-flat : (bs : Blocks) → is_filled (flattened bs) ≡ is_filled bs
filled-flat no_blocks = refl
filled-flat (block b bs) = some (flattened (block b bs)) (one b (flat_all bs no_blocks))
  where
    some : (cs : Blocks) → 1 ≤ size cs → is_filled cs ≡ true
    some no_blocks h = absurd (omega arith)
    some (block c cs) h = refl

begins-flat : (items : Items) → begins_with_blocks (flat_items items) ≡ begins_with_blocks items
begins-flat no_items = refl
begins-flat (item bs rest) = filled-flat bs

one-tight-at : (b : Block) → are_tags b ≡ false
    → (is_plain b && not (is_table b)) ≡ is_tight_item (flattened (block b no_blocks))
one-tight-at (paragraph content) t = refl
one-tight-at (heading level content) t = refl
one-tight-at (code_block language s) t = refl
one-tight-at (quote content) t = refl
one-tight-at thematic_break t = refl
one-tight-at (list start is_tight items) t = refl
one-tight-at (table alignments header rows) t = refl
one-tight-at (tags s) t = absurd (cc)
one-tight-at (element name attributes content) t =
    sym (tagged-loose (flattened (block (element name attributes content) no_blocks))
    (element-tags name attributes content no_blocks))

pub one-tight : (b : declared.Block)
    → (is_plain (block_of b) && not (is_table (block_of b))) ≡ is_tight_item (flattened (blocks_of (b ∷ [])))
one-tight b = one-tight-at (block_of b) (no-tags b)

-- a block that is no paragraph before others
no-paragraph : (b c : Block) → is_plain b ≡ true → is_paragraph b ≡ false → are_tags c ≡ false
    → is_tight_item (flat_before b (flat_before c no_blocks)) ≡ false
no-paragraph b c h p t = test (is_plain c)
    (λ e. ap is_tight_item (plain-form b (flat_before c no_blocks) h
    ∙ ap (block (flat_block b)) (plain-form c no_blocks e))
    ∙ ap (λ x. x && goes_on_a_paragraph (flat_block c)) (still b h p))
    (λ e. tagged-loose (flat_before b (flat_before c no_blocks))
    (kept-tags b (flat_before c no_blocks) (other-tags c no_blocks t e)))
  where
    still : (x : Block) → is_plain x ≡ true → is_paragraph x ≡ false → is_paragraph (flat_block x) ≡ false
    still (paragraph content) g q = absurd (cc)
    still (heading level content) g q = refl
    still (code_block language s) g q = refl
    still (quote content) g q = refl
    still thematic_break g q = refl
    still (list start is_tight items) g q = refl
    still (table alignments header rows) g q = refl
    still (element name attributes content) g q = absurd (cc)
    still (tags s) g q = absurd (cc)

behind-paragraph : (content : Inlines) (c : Block) → are_tags c ≡ false
    → goes_on_a_paragraph c ≡ is_tight_item (block (paragraph content) (flat_before c no_blocks))
behind-paragraph content (list start is_tight items) t =
    ap (λ b. is_one_or_none start && b) (sym (begins-flat items))
behind-paragraph content (element name attributes inner) t =
    sym (tagged-loose (block (paragraph content) (flat_before (element name attributes inner) no_blocks))
    (element-tags name attributes inner no_blocks))
behind-paragraph content (tags s) t = absurd (cc)
behind-paragraph content (paragraph other) t = refl
behind-paragraph content (heading level other) t = refl
behind-paragraph content (code_block language s) t = refl
behind-paragraph content (quote other) t = refl
behind-paragraph content thematic_break t = refl
behind-paragraph content (table alignments header rows) t = refl

pair-tight-at : (b c : Block) → are_tags b ≡ false → are_tags c ≡ false
    → (is_paragraph b && goes_on_a_paragraph c) ≡ is_tight_item (flat_before b (flat_before c no_blocks))
pair-tight-at (paragraph content) c t u = behind-paragraph content c u
pair-tight-at (heading level content) c t u = sym (no-paragraph (heading level content) c refl refl u)
pair-tight-at (code_block language s) c t u = sym (no-paragraph (code_block language s) c refl refl u)
pair-tight-at (quote content) c t u = sym (no-paragraph (quote content) c refl refl u)
pair-tight-at thematic_break c t u = sym (no-paragraph thematic_break c refl refl u)
pair-tight-at (list start is_tight items) c t u = sym (no-paragraph (list start is_tight items) c refl refl u)
pair-tight-at (table alignments header rows) c t u = sym (no-paragraph (table alignments header rows) c refl refl u)
pair-tight-at (tags s) c t u = absurd (cc)
pair-tight-at (element name attributes content) c t u =
    sym (tagged-loose (flat_before (element name attributes content) (flat_before c no_blocks))
    (element-tags name attributes content (flat_before c no_blocks)))

pub pair-tight : (b c : declared.Block)
    → (is_paragraph (block_of b) && goes_on_a_paragraph (block_of c))
    ≡ is_tight_item (flattened (blocks_of (b ∷ c ∷ [])))
pair-tight b c = pair-tight-at (block_of b) (block_of c) (no-tags b) (no-tags c)

many-tight-at : (b c d : Block) (bs : Blocks) → are_tags b ≡ false → are_tags c ≡ false → are_tags d ≡ false
    → is_tight_item (flattened (block b (block c (block d bs)))) ≡ false
many-tight-at b c d bs t u v = test (is_plain b)
    (λ e. test (is_plain c)
    (λ f. test (is_plain d)
    (λ g. ap is_tight_item (plain-form b _ e ∙ ap (block (flat_block b)) (plain-form c _ f
    ∙ ap (block (flat_block c)) (plain-form d rest g))))
    (λ g. tagged-loose (flattened (block b (block c (block d bs))))
    (kept-tags b (flat_before c (flat_before d rest)) (kept-tags c (flat_before d rest) (other-tags d rest v g)))))
    (λ f. tagged-loose (flattened (block b (block c (block d bs))))
    (kept-tags b (flat_before c (flat_before d rest)) (other-tags c (flat_before d rest) u f))))
    (λ e. tagged-loose (flattened (block b (block c (block d bs))))
    (other-tags b (flat_before c (flat_before d rest)) t e))
  where
    rest : Blocks
    rest = flat_all bs no_blocks

pub many-tight : (bs : List declared.Block) → 2 < length bs → false ≡ is_tight_item (flattened (blocks_of bs))
many-tight [] l = absurd (omega arith)
many-tight (b ∷ []) l = absurd (omega arith)
many-tight (b ∷ c ∷ []) l = absurd (omega arith)
many-tight (b ∷ c ∷ d ∷ bs) l =
    sym (many-tight-at (block_of b) (block_of c) (block_of d) (blocks_of bs) (no-tags b) (no-tags c) (no-tags d))

-- ---- how many they are

pub single : {A : Type 0} (xs : List A) (x : A) → 1 ≤ length xs → length xs < 2 → x ≡ get_or xs 0 x
    → x ∷ [] ≡ xs
single [] x l m e = absurd (omega arith)
single (y ∷ []) x l m e = ap (λ z. z ∷ []) e
single (y ∷ z ∷ xs) x l m e = absurd (omega arith)

pub double : {A : Type 0} (xs : List A) (x y : A) → 2 ≤ length xs → length xs < 3 → x ≡ get_or xs 0 x
    → y ≡ get_or xs 1 y → x ∷ y ∷ [] ≡ xs
double [] x y l m e f = absurd (omega arith)
double (v ∷ []) x y l m e f = absurd (omega arith)
double (v ∷ w ∷ []) x y l m e f = ap (λ z. z ∷ y ∷ []) e ∙ ap (λ z. v ∷ z ∷ []) f
double (v ∷ w ∷ z ∷ xs) x y l m e f = absurd (omega arith)
