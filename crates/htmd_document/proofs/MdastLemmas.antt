-- Lemmas on documents in the form of mdast.
use Rattle.std.proofs.Common.{◌≡◌, ℕ, zero, suc, ◌+◌, ◌<◌, ◌&&◌, ◌==◌, Bool, true, false, List, [], ◌∷◌, ◌++◌, map}
use Rattle.std.proofs.Common.{length, String, string_bytes}
use Rattle.std.proofs.Common.{if◌then◌else◌, ◌≤◌, Option, Some, None, Vec, Global, codes, take, get_or, refl, sym, ◌∙◌, ap, arith}
use Rattle.std.proofs.lemmas.Bool.Decides.{nat_tests}
use Rattle.std.proofs.lemmas.List.{length-map, length-take-le, take_all}
use Rattle.serde_json.specs.Data as json
use Rattle.serde_json.specs.Data.{Data, null}
use Rattle.serde_json.specs.View.{view, items_of, items_view}
use Rattle.serde_json.specs.declared.value.Value as declared_value
use Rattle.htmd_lexical.specs.Characters.{space}
use Rattle.htmd_document.specs.Mdast.{without_space}
use Rattle.htmd_document.specs.declared.document.Inline as declared_inline
use Rattle.htmd_document.specs.Formats.{of_format, of_element}
use Rattle.htmd_document.specs.declared.document.Format.{Format}
use Rattle.htmd_document.specs.declared.document.InlineElement.{InlineElement}
use Rattle.htmd_document.specs.declared.document.Inline.TheVariants.{Formatted, rolls-Formatted, Element, rolls-Element}
use Rattle.htmd_document.specs.declared.document.Inline.TheVariants.{Abbreviation, rolls-Abbreviation}
use Rattle.htmd_document.specs.declared.document.BlockElement.{BlockElement}
use Rattle.htmd_document.specs.FlatDocuments.{flattened, flat_all, flat_items, line_before, element_before, text_in_line}
use Rattle.htmd_document.specs.Tags.{element_tag, end_of_element, element_line}
use Rattle.htmd_document.specs.Formats as format
use Rattle.htmd_document.specs.declared.document.Inline.TheFolds.{fold-roll-Inline}
use Rattle.htmd_document.specs.declared.document.Inline.TheOpen.{Inline-F}
use Rattle.htmd_document.specs.declared.document.Block.TheVariants.{rolls-List}
use Rattle.htmd_document.specs.declared.document.Block.TheVariants as built_block
use Rattle.htmd_document.specs.declared.document.Block.TheFolds.{fold-roll-Block}
use Rattle.htmd_document.specs.declared.document.Block.TheOpen.{Block-F}
use Rattle.htmd_document.specs.declared.document.Block as declared_block
use Rattle.htmd_document.specs.Documents as value
use Rattle.htmd_document.specs.Documents.{Inline, Inlines, Block, Blocks}
use Rattle.htmd_document.specs.DocumentViews.{inline_step, inline_of, inlines_of, block_step, block_of, blocks_of}
use Rattle.htmd_document.specs.Mdast.{beside, one_item, with_value, between, node_data, children_data, inlines_data}
use Rattle.htmd_document.specs.Mdast.{block_data, within_data}
use Rattle.htmd_document.specs.Mdast.{blocks_data, items_data, item_data, checked_data}
use Rattle.htmd_document.proofs.ValuesLemmas.{map-append, take-step}

-- ---- values after others

pub beside-none : (cs : json.Items) → beside cs json.no_items ≡ cs
beside-none json.no_items = refl
beside-none (json.item c cs) = ap (json.item c) (beside-none cs)

pub beside-assoc : (cs ds es : json.Items) → beside (beside cs ds) es ≡ beside cs (beside ds es)
beside-assoc json.no_items ds es = refl
beside-assoc (json.item c cs) ds es = ap (json.item c) (beside-assoc cs ds es)

items-append : (cs ds : List Data) → items_of (cs ++ ds) ≡ beside (items_of cs) (items_of ds)
items-append [] ds = refl
items-append (c ∷ cs) ds = ap (json.item c) (items-append cs ds)

pub view-append : (vs ws : List declared_value.Value)
    → items_view (vs ++ ws) ≡ beside (items_view vs) (items_view ws)
view-append vs ws = ap items_of (map-append view vs ws) ∙ items-append (map view vs) (map view ws)

pub view-push : (vs : List declared_value.Value) (v : declared_value.Value)
    → items_view (vs ++ v ∷ []) ≡ beside (items_view vs) (one_item (view v))
view-push vs v = view-append vs (v ∷ [])

pub between-pushed : (old mid mid' new children : List declared_value.Value) (v w : declared_value.Value)
    (before after : List ℕ) → mid ≡ old ++ v ∷ [] → mid' ≡ mid ++ children → new ≡ mid' ++ w ∷ []
    → view v ≡ with_value (codes "html") before → view w ≡ with_value (codes "html") after
    → items_view new ≡ beside (items_view old) (between before (items_view children) after)
between-pushed old mid mid' new children v w before after p q r e f =
    let first : json.Items = one_item (view v) in
    let last : json.Items = one_item (view w) in
    let kids : json.Items = items_view children in
    ap items_view r ∙ (view-push mid' w
    ∙ (ap (λ cs. beside cs last) (ap items_view q ∙ view-append mid children)
    ∙ (ap (λ cs. beside (beside cs kids) last) (ap items_view p ∙ view-push old v)
    ∙ (beside-assoc (beside (items_view old) first) kids last
    ∙ (beside-assoc (items_view old) first (beside kids last)
    ∙ (ap (λ d. beside (items_view old) (json.item d (beside kids last))) e
    ∙ ap (λ d. beside (items_view old) (json.item (with_value (codes "html") before) (beside kids (one_item d))))
    f))))))

map-map : {A B C : Type 0} (f : B → C) (g : A → B) (xs : List A) → map (λ x. f (g x)) xs ≡ map f (map g xs)
map-map f g [] = refl
map-map f g (x ∷ xs) = ap (λ ys. f (g x) ∷ ys) (map-map f g xs)

get_or-same : {A : Type 0} (xs : List A) (i : ℕ) (d e : A) → i < length xs → get_or xs i d ≡ get_or xs i e
get_or-same [] i d e h = absurd (omega arith)
get_or-same (x ∷ xs) zero d e h = refl
get_or-same (x ∷ xs) (suc i) d e h = get_or-same xs i d e (omega arith)

-- one more of what is mapped
pub mapped-step : {A : Type 0} (f : A → Data) (xs : List A) (i : ℕ) (x : A) (old new : List declared_value.Value)
    (v : declared_value.Value) → i < length xs → x ≡ get_or xs i x → view v ≡ f x
    → items_view old ≡ items_of (take i (map f xs)) → new ≡ old ++ v ∷ []
    → items_view new ≡ items_of (take (i + 1) (map f xs))
mapped-step f xs i x old new v h e m p q =
    ap items_view q ∙ (view-push old v
    ∙ (ap (λ cs. beside cs (one_item (view v))) p
    ∙ (ap (λ d. beside (items_of (take i (map f xs))) (one_item d)) m
    ∙ (sym (items-append (take i (map f xs)) (f x ∷ []))
    ∙ ap items_of (sym (take-step f xs i x h e))))))

pub mapped-copy : {A : Type 0} (f : A → Data) (xs : List A) (i : ℕ) (d : A) (old new : List declared_value.Value)
    (v : declared_value.Value) → i < length xs → view v ≡ f (get_or xs i d)
    → items_view old ≡ items_of (take i (map f xs)) → new ≡ old ++ v ∷ []
    → items_view new ≡ items_of (take (i + 1) (map f xs))
mapped-copy f xs i d old new v h m p q =
    mapped-step f xs i (get_or xs i d) old new v h (get_or-same xs i d (get_or xs i d) h) m p q

-- one more of what is mapped, after a first
pub headed-step : {A : Type 0} (f : A → Data) (xs : List A) (i : ℕ) (x : A) (d : Data)
    (old new : List declared_value.Value) (v : declared_value.Value) → i < length xs → x ≡ get_or xs i x
    → view v ≡ f x
    → items_view old ≡ json.item d (items_of (take i (map f xs))) → new ≡ old ++ v ∷ []
    → items_view new ≡ json.item d (items_of (take (i + 1) (map f xs)))
headed-step f xs i x d old new v h e m p q =
    ap items_view q ∙ (view-push old v
    ∙ (ap (λ cs. beside cs (one_item (view v))) p
    ∙ ap (json.item d) (ap (λ g. beside (items_of (take i (map f xs))) (one_item g)) m
    ∙ (sym (items-append (take i (map f xs)) (f x ∷ []))
    ∙ ap items_of (sym (take-step f xs i x h e))))))

-- all that is mapped, by way of what the source keeps
pub mapped-whole : {A B : Type 0} (f : B → Data) (g : A → B) (xs : List A) (i : ℕ) → length xs ≤ i
    → items_of (take i (map (λ x. f (g x)) xs)) ≡ items_of (map f (map g xs))
mapped-whole f g xs i h =
    ap items_of (take_all i (map (λ x. f (g x)) xs) (simp length-map h) ∙ map-map f g xs)

-- ---- one more inline

inlines-more : (xs : List Inline) (x : Inline) → inlines_data (value.inlines_of (xs ++ x ∷ []))
    ≡ beside (inlines_data (value.inlines_of xs)) (node_data x (children_data x))
inlines-more [] x = beside-none (node_data x (children_data x))
inlines-more (y ∷ xs) x = ap (beside (node_data y (children_data y))) (inlines-more xs x)
    ∙ sym (beside-assoc (node_data y (children_data y)) (inlines_data (value.inlines_of xs))
    (node_data x (children_data x)))

pub inlines-step : (xs : List declared_inline.Inline) (i : ℕ) (x : declared_inline.Inline)
    (old new children : json.Items)
    → i < length xs → x ≡ get_or xs i x → children ≡ children_data (inline_of x)
    → old ≡ inlines_data (value.inlines_of (take i (map inline_of xs)))
    → new ≡ beside old (node_data (inline_of x) children)
    → new ≡ inlines_data (value.inlines_of (take (i + 1) (map inline_of xs)))
inlines-step xs i x old new children h e c p q =
    q ∙ (ap (λ ds. beside ds (node_data (inline_of x) children)) p
    ∙ (ap (λ ds. beside (inlines_data (value.inlines_of (take i (map inline_of xs)))) (node_data (inline_of x) ds)) c
    ∙ (sym (inlines-more (take i (map inline_of xs)) (inline_of x))
    ∙ ap (λ ys. inlines_data (value.inlines_of ys)) (sym (take-step inline_of xs i x h e)))))

-- ---- one more block

later-blocks : (bs : List Block) (b : Block) → blocks_data false (value.blocks_of (bs ++ b ∷ []))
    ≡ beside (blocks_data false (value.blocks_of bs)) (one_item (block_data false b (within_data b)))
later-blocks [] b = refl
later-blocks (c ∷ bs) b = ap (json.item (block_data false c (within_data c))) (later-blocks bs b)

blocks-more : (in_item : Bool) (bs : List Block) (b : Block) → blocks_data in_item (value.blocks_of (bs ++ b ∷ []))
    ≡ beside (blocks_data in_item (value.blocks_of bs))
    (one_item (block_data (in_item && (length bs == 0)) b (within_data b)))
blocks-more true [] b = refl
blocks-more false [] b = refl
blocks-more true (c ∷ bs) b =
    let none : (length (c ∷ bs) == 0) ≡ false = grind (arith, nat_tests) in
    ap (json.item (block_data true c (within_data c))) (later-blocks bs b)
    ∙ ap (λ r. beside (blocks_data true (value.blocks_of (c ∷ bs))) (one_item (block_data r b (within_data b))))
    (sym none)
blocks-more false (c ∷ bs) b = ap (json.item (block_data false c (within_data c))) (later-blocks bs b)

pub blocks-step : {A : Type 0} (block_of : A → Block) (in_item is_first : Bool) (bs : List A) (i : ℕ) (b : A)
    (old new children : json.Items) (made : Data)
    → i < length bs → b ≡ get_or bs i b → children ≡ within_data (block_of b)
    → is_first ≡ (in_item && (i == 0))
    → made ≡ block_data is_first (block_of b) children
    → old ≡ blocks_data in_item (value.blocks_of (take i (map block_of bs)))
    → new ≡ beside old (one_item made)
    → new ≡ blocks_data in_item (value.blocks_of (take (i + 1) (map block_of bs)))
blocks-step block_of in_item is_first bs i b old new children made h e c f m p q =
    let front : List Block = take i (map block_of bs) in
    let size : length front ≡ i = length-take-le i (map block_of bs) (rw (length-map bs block_of) (omega arith)) in
    let first : is_first ≡ (in_item && (length front == 0)) = f ∙ ap (λ n. in_item && (n == 0)) (sym size) in
    let whole : made ≡ block_data (in_item && (length front == 0)) (block_of b) (within_data (block_of b)) =
    m ∙ (ap (λ r. block_data r (block_of b) children) first
    ∙ ap (block_data (in_item && (length front == 0)) (block_of b)) c) in
    q ∙ (ap (λ ds. beside ds (one_item made)) p
    ∙ (ap (λ d. beside (blocks_data in_item (value.blocks_of front)) (one_item d)) whole
    ∙ (sym (blocks-more in_item front (block_of b))
    ∙ ap (λ cs. blocks_data in_item (value.blocks_of cs)) (sym (take-step block_of bs i b h e)))))

-- ---- one more item

-- an item begins with a task if it does so when it is flat

line-unchecked : (line : List ℕ) (rest : Blocks) → checked_data (line_before line rest) ≡ null
line-unchecked line value.no_blocks = refl
line-unchecked line (value.block (value.paragraph xs) bs) = refl
line-unchecked line (value.block (value.heading level xs) bs) = refl
line-unchecked line (value.block (value.code_block language s) bs) = refl
line-unchecked line (value.block (value.quote cs) bs) = refl
line-unchecked line (value.block value.thematic_break bs) = refl
line-unchecked line (value.block (value.list start is_tight items) bs) = refl
line-unchecked line (value.block (value.table alignments header rows) bs) = refl
line-unchecked line (value.block (value.element name attributes cs) bs) = refl
line-unchecked line (value.block (value.tags s) bs) = refl

element-unchecked : (name : BlockElement) (attributes : List value.BlockAttribute) (s : Option (List ℕ))
    (inner rest : Blocks) → checked_data (element_before name attributes s inner rest) ≡ null
element-unchecked name attributes None inner rest = line-unchecked (element_tag name attributes) inner
element-unchecked name attributes (Some s) inner rest = line-unchecked (element_line name attributes s) rest

paragraph-checked : (xs : Inlines) (bs cs : Blocks) → checked_data (value.block (value.paragraph xs) bs)
    ≡ checked_data (value.block (value.paragraph xs) cs)
paragraph-checked value.no_inlines bs cs = refl
paragraph-checked (value.inline (value.text s) xs) bs cs = refl
paragraph-checked (value.inline (value.code s) xs) bs cs = refl
paragraph-checked (value.inline (value.formatted f ys) xs) bs cs = refl
paragraph-checked (value.inline (value.link a t ys) xs) bs cs = refl
paragraph-checked (value.inline (value.image a t d) xs) bs cs = refl
paragraph-checked (value.inline (value.anchor id) xs) bs cs = refl
paragraph-checked (value.inline value.line_break xs) bs cs = refl
paragraph-checked (value.inline (value.task d) xs) bs cs = refl

flat-checked : (bs : Blocks) → checked_data (flattened bs) ≡ checked_data bs
flat-checked value.no_blocks = refl
flat-checked (value.block (value.paragraph xs) bs) = paragraph-checked xs (flat_all bs value.no_blocks) bs
flat-checked (value.block (value.heading level xs) bs) = refl
flat-checked (value.block (value.code_block language s) bs) = refl
flat-checked (value.block (value.quote cs) bs) = refl
flat-checked (value.block value.thematic_break bs) = refl
flat-checked (value.block (value.list start is_tight items) bs) = refl
flat-checked (value.block (value.table alignments header rows) bs) = refl
flat-checked (value.block (value.element name attributes cs) bs) =
    element-unchecked name attributes (text_in_line cs)
    (flat_all cs (line_before (end_of_element name) (flat_all bs value.no_blocks))) (flat_all bs value.no_blocks)
flat-checked (value.block (value.tags s) bs) = refl

items-more : (is_tight : Bool) (items : List Blocks) (bs : Blocks) → items_data is_tight
    (flat_items (value.items_of (items ++ bs ∷ [])))
    ≡ beside (items_data is_tight (flat_items (value.items_of items)))
    (one_item (item_data is_tight (checked_data (flattened bs)) (blocks_data true (flattened bs))))
items-more is_tight [] bs = refl
items-more is_tight (cs ∷ items) bs =
    ap (json.item (item_data is_tight (checked_data (flattened cs)) (blocks_data true (flattened cs))))
    (items-more is_tight items bs)

pub items-step : (is_tight : Bool) (items : List (Vec declared_block.Block Global)) (i : ℕ)
    (bs : Vec declared_block.Block Global) (old new : json.Items) (checked made : Data) (children : json.Items)
    → i < length items → bs ≡ get_or items i bs → checked ≡ checked_data (blocks_of bs.items)
    → children ≡ blocks_data true (flattened (blocks_of bs.items)) → made ≡ item_data is_tight checked children
    → old ≡ items_data is_tight (flat_items (value.items_of (take i (map (λ b. blocks_of b.items) items))))
    → new ≡ beside old (one_item made)
    → new ≡ items_data is_tight (flat_items (value.items_of (take (i + 1) (map (λ b. blocks_of b.items) items))))
items-step is_tight items i bs old new checked made children h e k c m p q =
    let front : List Blocks = take i (map (λ b. blocks_of b.items) items) in
    let flat : Blocks = flattened (blocks_of bs.items) in
    let whole : made ≡ item_data is_tight (checked_data flat) (blocks_data true flat) =
    m ∙ (ap (λ d. item_data is_tight d children) (k ∙ sym (flat-checked (blocks_of bs.items)))
    ∙ ap (item_data is_tight (checked_data flat)) c) in
    q ∙ (ap (λ ds. beside ds (one_item made)) p
    ∙ (ap (λ d. beside (items_data is_tight (flat_items (value.items_of front))) (one_item d)) whole
    ∙ (sym (items-more is_tight front (blocks_of bs.items))
    ∙ ap (λ cs. items_data is_tight (flat_items (value.items_of cs)))
    (sym (take-step (λ b. blocks_of b.items) items i bs h e)))))

-- ---- an inline by its variant

pub inline-formatted : (format : Format) (xs : Vec declared_inline.Inline Global)
    → inline_of (Formatted format xs) ≡ value.formatted (of_format format) (inlines_of xs.items)
inline-formatted format xs =
    ap inline_of (sym (rolls-Formatted format xs))
    ∙ fold-roll-Inline Inline inline_step (Inline-F.Formatted format xs)

pub inline-element : (element : InlineElement) (xs : Vec declared_inline.Inline Global)
    → inline_of (Element element xs) ≡ value.formatted (of_element element) (inlines_of xs.items)
inline-element element xs =
    ap inline_of (sym (rolls-Element element xs))
    ∙ fold-roll-Inline Inline inline_step (Inline-F.Element element xs)

pub inline-abbreviation : (title : String Global) (xs : Vec declared_inline.Inline Global)
    → inline_of (Abbreviation title xs)
    ≡ value.formatted (format.Abbreviation (string_bytes title)) (inlines_of xs.items)
inline-abbreviation title xs =
    ap inline_of (sym (rolls-Abbreviation title xs))
    ∙ fold-roll-Inline Inline inline_step (Inline-F.Abbreviation title xs)

pub block-list : (start : Option ℕ) (tight : Bool) (items : Vec (Vec declared_block.Block Global) Global)
    → block_of (built_block.List start tight items)
    ≡ value.list start tight (value.items_of (map (λ bs. blocks_of bs.items) items.items))
block-list start tight items = ap block_of (sym (rolls-List start tight items))
    ∙ (fold-roll-Block Block block_step (Block-F.List start tight items)
    ∙ ap (λ xs. value.list start tight (value.items_of xs)) (sym
    (map-map (λ bs. value.blocks_of bs.items) _ items.items)))

-- ---- a text that no space begins

no-space-at : (b : ℕ) (s : List ℕ) (is_space : Bool) → (b == space) ≡ is_space
    → ((rest : List ℕ) → (b ∷ s) ≡ space ∷ rest → ⊥) → (b ∷ s) ≡ (if is_space then s else b ∷ s)
no-space-at b s true e h = absurd (h s (ap (λ c. c ∷ s) (grind (arith, nat_tests, e))))
no-space-at b s false e h = refl

pub no-space : (s : List ℕ) → ((rest : List ℕ) → s ≡ space ∷ rest → ⊥) → s ≡ without_space s
no-space [] h = refl
no-space (b ∷ s) h = no-space-at b s (b == space) refl h
