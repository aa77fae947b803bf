-- Flat blocks so far, lines of tags behind them, and what is to come.
use Rattle.std.proofs.Common.{◌≡◌, ℕ, zero, suc, ◌+◌, ◌*◌, ◌<◌, ◌≤◌, Bool, true, false, List, [], ◌∷◌, ◌++◌, length, drop, get_or, map, refl}
use Rattle.std.proofs.Common.{sym, ap, ◌∙◌, Option, Some, None, append_assoc, arith}
use Rattle.std.specs.Prelude.{Result, Ok, Err, OnOk}
use Rattle.std.proofs.lemmas.List.{append-nil, drop_more, drop_all}
use Rattle.htmd_lexical.specs.Characters.{line_feed}
use Rattle.htmd_document.specs.declared.document.Block as declared_block
use Rattle.htmd_document.specs.declared.document.BlockElement.{BlockElement}
use Rattle.htmd_document.specs.declared.document.Inline as declared_inline
use Rattle.htmd_document.specs.Documents as value
use Rattle.htmd_document.specs.Documents.{Block, Blocks, no_blocks, block, paragraph, heading, code_block, quote}
use Rattle.htmd_document.specs.Documents.{thematic_break, list, table, element, tags, BlockAttribute}
use Rattle.htmd_document.specs.DocumentViews.{block_of, blocks_of, inlines_of}
use Rattle.htmd_document.specs.FlatDocuments.{line_before, element_before, flat_before, flat_all, flat_block, text_in_line}
use Rattle.htmd_document.specs.FlatDocuments.{flattened, flat_items, text_alone, is_plain}
use Rattle.htmd_document.specs.NormalDocuments.{depth_of, depth_among, depth_of_items}
use Rattle.htmd_document.specs.FlatViews.{Flat, lines_before, blocks_before, before, line_begun, with_line, tags_of}
use Rattle.htmd_document.specs.FlatViews.{with_block, with_lines_ended}
use Rattle.htmd_document.specs.Tags.{element_tag, end_of_element, element_line}
use Rattle.htmd_document.proofs.ValuesLemmas.{map-append}

-- ---- a line more

lines-joined : (x : ℕ) (xs : List ℕ) (b : ℕ) (s : List ℕ)
    → x ∷ ((xs ++ (line_feed ∷ [])) ++ (b ∷ s)) ≡ x ∷ (xs ++ (line_feed ∷ b ∷ s))
lines-joined x xs b s = ap (λ l. x ∷ l) (append_assoc xs (line_feed ∷ []) (b ∷ s))

two-lines : (x : ℕ) (xs : List ℕ) (b : ℕ) (s : List ℕ) (rest : Blocks)
    → line_before (x ∷ ((xs ++ (line_feed ∷ [])) ++ (b ∷ s))) rest
    ≡ line_before (x ∷ xs) (line_before (b ∷ s) rest)
two-lines x xs b s no_blocks = ap (λ l. block (tags l) no_blocks) (lines-joined x xs b s)
two-lines x xs b s (block (paragraph content) bs) =
    ap (λ l. block (tags l) (block (paragraph content) bs)) (lines-joined x xs b s)
two-lines x xs b s (block (heading level content) bs) =
    ap (λ l. block (tags l) (block (heading level content) bs)) (lines-joined x xs b s)
two-lines x xs b s (block (code_block language t) bs) =
    ap (λ l. block (tags l) (block (code_block language t) bs)) (lines-joined x xs b s)
two-lines x xs b s (block (quote content) bs) =
    ap (λ l. block (tags l) (block (quote content) bs)) (lines-joined x xs b s)
two-lines x xs b s (block thematic_break bs) =
    ap (λ l. block (tags l) (block thematic_break bs)) (lines-joined x xs b s)
two-lines x xs b s (block (list start is_tight items) bs) =
    ap (λ l. block (tags l) (block (list start is_tight items) bs)) (lines-joined x xs b s)
two-lines x xs b s (block (table alignments header rows) bs) =
    ap (λ l. block (tags l) (block (table alignments header rows) bs)) (lines-joined x xs b s)
two-lines x xs b s (block (element name attributes content) bs) =
    ap (λ l. block (tags l) (block (element name attributes content) bs)) (lines-joined x xs b s)
two-lines x xs b s (block (tags t) bs) =
    ap (λ l. block (tags (l ++ (line_feed ∷ t))) bs) (lines-joined x xs b s)
    ∙ ap (λ l. block (tags (x ∷ l)) bs) (append_assoc xs (line_feed ∷ b ∷ s) (line_feed ∷ t))

pub line-pushed : (f : Flat) (b : ℕ) (s : List ℕ) (rest : Blocks)
    → before (with_line f (b ∷ s)) rest ≡ before f (line_before (b ∷ s) rest)
line-pushed f b s rest = ap (blocks_before f.done) (go f.lines)
  where
    go : (lines : List ℕ)
        → lines_before (line_begun lines ++ (b ∷ s)) rest ≡ lines_before lines (line_before (b ∷ s) rest)
    go [] = refl
    go (x ∷ xs) = two-lines x xs b s rest

-- ---- a block more

blocks-append : (bs cs : List Block) (rest : Blocks)
    → blocks_before (bs ++ cs) rest ≡ blocks_before bs (blocks_before cs rest)
blocks-append [] cs rest = refl
blocks-append (b ∷ bs) cs rest = ap (block b) (blocks-append bs cs rest)

tags-before : (lines : List ℕ) (b : Block) (rest : Blocks) → is_plain b ≡ true
    → blocks_before (tags_of lines) (block b rest) ≡ lines_before lines (block b rest)
tags-before [] b rest h = refl
tags-before (x ∷ xs) (paragraph content) rest h = refl
tags-before (x ∷ xs) (heading level content) rest h = refl
tags-before (x ∷ xs) (code_block language t) rest h = refl
tags-before (x ∷ xs) (quote content) rest h = refl
tags-before (x ∷ xs) thematic_break rest h = refl
tags-before (x ∷ xs) (list start is_tight items) rest h = refl
tags-before (x ∷ xs) (table alignments header rows) rest h = refl
tags-before (x ∷ xs) (element name attributes content) rest h = absurd (cc)
tags-before (x ∷ xs) (tags s) rest h = absurd (cc)

flat-plain : (b : Block) (rest : Blocks) → is_plain b ≡ true → flat_before b rest ≡ block (flat_block b) rest
flat-plain (paragraph content) rest h = refl
flat-plain (heading level content) rest h = refl
flat-plain (code_block language t) rest h = refl
flat-plain (quote content) rest h = refl
flat-plain thematic_break rest h = refl
flat-plain (list start is_tight items) rest h = refl
flat-plain (table alignments header rows) rest h = refl
flat-plain (element name attributes content) rest h = absurd (cc)
flat-plain (tags s) rest h = absurd (cc)

still-plain : (b : Block) → is_plain b ≡ true → is_plain (flat_block b) ≡ true
still-plain (paragraph content) h = refl
still-plain (heading level content) h = refl
still-plain (code_block language t) h = refl
still-plain (quote content) h = refl
still-plain thematic_break h = refl
still-plain (list start is_tight items) h = refl
still-plain (table alignments header rows) h = refl
still-plain (element name attributes content) h = absurd (cc)
still-plain (tags s) h = absurd (cc)

pub block-pushed : (f new : Flat) (b : Block) → is_plain b ≡ true → new ≡ with_block f (flat_block b)
    → (rest : Blocks)
    → before new rest ≡ before f (flat_before b rest)
block-pushed f new b plain is rest =
    let c = flat_block b in
    ap (λ g. before g rest) is
    ∙ blocks-append (f.done ++ tags_of f.lines) (c ∷ []) rest
    ∙ blocks-append f.done (tags_of f.lines) (block c rest)
    ∙ ap (blocks_before f.done) (tags-before f.lines c rest (still-plain b plain))
    ∙ ap (before f) (sym (flat-plain b rest plain))

-- the lines are ended, and a block is put behind
pub put-behind : {A : Type 0} (g : A → Block) (f : Flat) (old new : List A) (lines : List ℕ) (x : A) (b : Block)
    → record { done = map g old; lines = lines } ≡ with_lines_ended f → new ≡ old ++ x ∷ [] → g x ≡ b
    → record { done = map g new; lines = lines } ≡ with_block f b
put-behind g f old new lines x b ended put is =
    ap (λ xs. record { done = map g xs; lines = lines }) put
    ∙ ap (λ ys. record { done = ys; lines = lines }) (map-append g old (x ∷ []))
    ∙ ap (λ h. record { done = h.done ++ g x ∷ []; lines = h.lines }) ended
    ∙ ap (with_block f) is

-- ---- elements

pub whole-pushed : (f new : Flat) (name : BlockElement) (attributes : List BlockAttribute) (s : List ℕ)
    (content : Blocks) → text_in_line content ≡ Some s → new ≡ with_line f (element_line name attributes s)
    → (rest : Blocks) → before new rest ≡ before f (flat_before (element name attributes content) rest)
whole-pushed f new name attributes s content one is rest =
    ap (λ g. before g rest) is
    ∙ line-pushed f _ _ rest
    ∙ ap (λ o. before f (element_before name attributes o
    (flat_all content (line_before (end_of_element name) rest)) rest)) (sym one)

pub around-pushed : (f g h new : Flat) (name : BlockElement) (attributes : List BlockAttribute) (content : Blocks)
    → g ≡ with_line f (element_tag name attributes)
    → ((rest : Blocks) → before h rest ≡ before g (flat_all content rest))
    → new ≡ with_line h (end_of_element name) → (rest : Blocks)
    → before new rest
    ≡ before f (line_before (element_tag name attributes) (flat_all content (line_before (end_of_element name) rest)))
around-pushed f g h new name attributes content begun within ended rest =
    let last = line_before (end_of_element name) rest in
    ap (λ k. before k rest) ended ∙ line-pushed h _ _ rest ∙ within last
    ∙ ap (λ k. before k (flat_all content last)) begun ∙ line-pushed f _ _ (flat_all content last)

pub element-pushed : (f new : Flat) (name : BlockElement) (attributes : List BlockAttribute) (content : Blocks)
    → text_in_line content ≡ None
    → ((rest : Blocks) → before new rest ≡ before f (line_before (element_tag name attributes)
    (flat_all content (line_before (end_of_element name) rest))))
    → (rest : Blocks) → before new rest ≡ before f (flat_before (element name attributes content) rest)
element-pushed f new name attributes content more is rest =
    is rest ∙ ap (λ o. before f (element_before name attributes o
    (flat_all content (line_before (end_of_element name) rest)) rest)) (sym more)

-- ---- one after the other

pub pushed-more : (f g new : Flat) (bs : List declared_block.Block) (i : ℕ) (b : declared_block.Block)
    → i < length bs → b ≡ get_or bs i b
    → ((rest : Blocks) → before new rest ≡ before g (flat_before (block_of b) rest))
    → (whole : Blocks)
    → ((rest : Blocks) → before g (flat_all (blocks_of (drop i bs)) rest) ≡ before f (flat_all whole rest))
    → (rest : Blocks) → before new (flat_all (blocks_of (drop (i + 1) bs)) rest) ≡ before f (flat_all whole rest)
pushed-more f g new bs i b within is pushed whole before_it rest =
    let split : drop i bs ≡ b ∷ drop (i + 1) bs =
    drop_more bs i b within ∙ ap (λ c. c ∷ drop (i + 1) bs) (sym is) in
    pushed (flat_all (blocks_of (drop (i + 1) bs)) rest)
    ∙ ap (λ cs. before g (flat_all (blocks_of cs) rest)) (sym split) ∙ before_it rest

pub pushed-all : (f g : Flat) (bs : List declared_block.Block) (i : ℕ) (whole : Blocks) → length bs ≤ i
    → ((rest : Blocks) → before g (flat_all (blocks_of (drop i bs)) rest) ≡ before f (flat_all whole rest))
    → (rest : Blocks) → before g rest ≡ before f (flat_all whole rest)
pushed-all f g bs i whole past h rest =
    ap (λ cs. before g (flat_all (blocks_of cs) rest)) (sym (drop_all i bs past)) ∙ h rest

-- ---- all

blocks-alone : (bs : List Block) → blocks_before bs no_blocks ≡ value.blocks_of bs
blocks-alone [] = refl
blocks-alone (b ∷ bs) = ap (block b) (blocks-alone bs)

tags-alone : (lines : List ℕ) → blocks_before (tags_of lines) no_blocks ≡ lines_before lines no_blocks
tags-alone [] = refl
tags-alone (x ∷ xs) = refl

pub flattened-all : (f g new : Flat) (bs : Blocks) → f ≡ record { done = []; lines = [] }
    → ((rest : Blocks) → before g rest ≡ before f (flat_all bs rest)) → new ≡ with_lines_ended g
    → value.blocks_of new.done ≡ flattened bs
flattened-all f g new bs start pushed ended =
    sym (blocks-alone new.done) ∙ ap (λ h. blocks_before h.done no_blocks) ended
    ∙ blocks-append g.done (tags_of g.lines) no_blocks ∙ ap (blocks_before g.done) (tags-alone g.lines)
    ∙ pushed no_blocks ∙ ap (λ h. before h (flat_all bs no_blocks)) start

pub on-ok : {T E : Type 0} (r : Result T E) {A B : Type 0} → OnOk r A → (A → B) → OnOk r B
on-ok (Ok x) a f = f a
on-ok (Err e) a f = tt

-- ---- what isn't written in one line

pub not-alone : (xs : List declared_inline.Inline) → 2 ≤ length xs → None ≡ text_alone (inlines_of xs)
not-alone [] two = absurd (omega arith)
not-alone (x ∷ []) two = absurd (omega arith)
not-alone (x ∷ y ∷ xs) two = refl

pub not-in-line : (bs : List declared_block.Block) → 2 ≤ length bs → None ≡ text_in_line (blocks_of bs)
not-in-line [] two = absurd (omega arith)
not-in-line (b ∷ []) two = absurd (omega arith)
not-in-line (b ∷ c ∷ bs) two = refl

-- ---- how deep flat blocks nest

pub depth-at : {A : Type 0} (f : A → Block) (xs : List A) (i : ℕ) (x : A) → i < length xs → x ≡ get_or xs i x
    → depth_of (f x) ≤ depth_among (value.blocks_of (map f xs))
depth-at f [] i x within is = absurd (omega arith)
depth-at f (y ∷ xs) zero x within is =
    let same : depth_of (f x) ≡ depth_of (f y) = ap (λ z. depth_of (f z)) is in omega (arith, same)
depth-at f (y ∷ xs) (suc i) x within is =
    let later : depth_of (f x) ≤ depth_among (value.blocks_of (map f xs)) = depth-at f xs i x (omega arith) is in
    omega (arith, later)

pub depth-in-item : {A : Type 0} (f : A → Blocks) (xs : List A) (i : ℕ) (x : A) → i < length xs
    → x ≡ get_or xs i x → depth_among (flattened (f x)) ≤ depth_of_items
    (flat_items (value.items_of (map f xs)))
depth-in-item f [] i x within is = absurd (omega arith)
depth-in-item f (y ∷ xs) zero x within is =
    let same : depth_among (flattened (f x)) ≡ depth_among (flattened (f y)) =
    ap (λ z. depth_among (flattened (f z))) is in
    omega (arith, same)
depth-in-item f (y ∷ xs) (suc i) x within is =
    let later : depth_among (flattened (f x)) ≤ depth_of_items (flat_items (value.items_of (map f xs))) =
    depth-in-item f xs i x (omega arith) is in
    omega (arith, later)

-- with the measures of those who call: a block among flat ones, and an item of a list

pub flat-less : {A : Type 0} (f : A → Block) (xs ys : List A) (i : ℕ) (x : A) (bs : Blocks) (n : ℕ)
    → i < length xs → x ≡ get_or xs i x → xs ≡ ys → value.blocks_of (map f ys) ≡ bs
    → depth_among bs * 3 + 2 ≡ n → depth_of (f x) * 3 + 1 < n
flat-less f xs ys i x bs n within is same flat measure =
    let h : depth_of (f x) ≤ depth_among (value.blocks_of (map f xs)) = depth-at f xs i x within is in
    let e : depth_among (value.blocks_of (map f xs)) ≡ depth_among bs =
    ap depth_among (ap (λ zs. value.blocks_of (map f zs)) same ∙ flat) in
    omega (arith, h, e, measure)

pub item-less : {A : Type 0} (f : A → Blocks) (xs ys : List A) (i : ℕ) (x : A) (bs : Blocks) (b : Block)
    (start : Option ℕ) (is_tight : Bool) (n : ℕ) → i < length xs → x ≡ get_or xs i x → xs ≡ ys
    → bs ≡ f x
    → b ≡ list start is_tight (value.items_of (map f ys)) → depth_of (flat_block b) * 3 ≡ n
    → depth_among (flattened bs) * 3 + 2 < n
item-less f xs ys i x bs b start is_tight n within is same of_item shape measure =
    let h : depth_among (flattened (f x)) ≤ depth_of_items (flat_items (value.items_of (map f xs))) =
    depth-in-item f xs i x within is in
    let k : depth_among (flattened bs) ≡ depth_among (flattened (f x)) =
    ap (λ c. depth_among (flattened c)) of_item in
    let e : depth_of (flat_block b) ≡ suc (depth_of_items (flat_items (value.items_of (map f xs)))) =
    ap (λ c. depth_of (flat_block c)) shape
    ∙ ap (λ zs. suc (depth_of_items (flat_items (value.items_of (map f zs))))) (sym same) in
    omega (arith, h, k, e, measure)
