-- What nodes give depends on the elements near only by the languages that these say.
use Rattle.std.proofs.Common.{◌≡◌, ℕ, zero, suc, Bool, true, false, cond, not, ◌&&◌, ◌||◌, List, [], ◌∷◌, ◌++◌}
use Rattle.std.proofs.Common.{map, filter, fold, refl, sym, ap, ◌∙◌, Option, None, Some, length}
use Rattle.std.specs.Prelude.{take, drop, nat_lt, codes, ℤ}
use Rattle.std.specs.List.{list_any, flat_map}
use Rattle.htmd_lexical.specs.AttributePairs.{AttributePair}
use Rattle.htmd_lexical.specs.Characters.{space}
use Rattle.htmd_document.specs.Documents.{code_block}
use Rattle.htmd_document.specs.Formats.{Format, Abbreviation, of_format, of_element}
use Rattle.htmd_document.specs.declared.document.BlockElement.{BlockElement}
use Rattle.htmd_document.specs.declared.document.BlockElement.TheVariants as name
use Rattle.htmd_flow.specs.Contexts.{Context, apart, beside_code, inside_format, inside_link, inside_title, unlinked}
use Rattle.htmd_flow.specs.Contexts.{with_around, is_enough, is_link, is_lined, is_linked_to_part, has_elements}
use Rattle.htmd_flow.specs.Contexts.{in_one_line, deeper, in_code, run_in}
use Rattle.htmd_flow.specs.Flows as flow
use Rattle.htmd_flow.specs.Flows.{node_of, nodes_of, nodes_below, flow_all, flow_after, Element, Terms, no_part}
use Rattle.htmd_flow.specs.Grids as grid
use Rattle.htmd_flow.specs.Languages.{language_named, first_name, own_languages, near_languages, only_code}
use Rattle.htmd_flow.specs.Lists as lists
use Rattle.htmd_flow.specs.Levels.{list_of}
use Rattle.htmd_flow.specs.Nodes as nodes
use Rattle.htmd_flow.specs.Nodes.{Node, Row, TablePiece, TermPart, gap, of_node, of_caption, of_row, blocks_of, line_of}
use Rattle.htmd_flow.specs.Nodes.{list_parts, items_in_a_row, goes_on, is_item}
use Rattle.htmd_flow.specs.Parts.{formatted, linked, run, place, edge, whole}
use Rattle.htmd_flow.specs.RichNodes as rich
use Rattle.htmd_flow.specs.RichNodes.{Descriptions}
use Rattle.htmd_flow.specs.TableElements as elements
use Rattle.htmd_flow.specs.Terms.{is_group}
use Rattle.htmd_flow.specs.declared.table_form.TablePart.{TablePart}
use Rattle.htmd_shown.specs.AllTexts.{all_text_among, with_line_feeds, without_last_line_feed}
use Rattle.htmd_shown.specs.Attributes.{address, text_of, title_of}
use Rattle.htmd_shown.specs.Kinds.{has, content_of}
use Rattle.htmd_shown.specs.Roles as roles
use Rattle.htmd_shown.specs.Showings.{shows, show_usual_sign}
use Rattle.htmd_shown.specs.SimpleTrees.{Simple, text, image, formula, embedded, anchor, element, Simples, none, more}
use Rattle.htmd_shown.specs.Spaces.{is_blank_text}
use Rattle.htmd_shown.specs.declared.facts.Facts.{Facts}
use Rattle.htmd_shown.specs.declared.role.Role.{Role}
use Rattle.htmd_shown.specs.declared.role.Role.TheVariants as role
use Rattle.htmd_law_returning.proofs.ReadyLemmas.{here}

-- the attributes of the elements near, from the inside out
abbrev pub Near : Type 0
Near = List (List AttributePair)

abbrev said_by : Near → List (List ℕ)
said_by x = flat_map near_languages x

-- they say the same languages, also the first of them
pub record IsAlike (x y : Near) : Type 0 where
  pub all : said_by x ≡ said_by y
  pub first : (k : ℕ) → said_by (take k x) ≡ said_by (take k y)

-- ---- contexts

-- with these near
abbrev pub beside : Context → Near → Context
beside c x = record c { near = x }

take-twice : (k : ℕ) (x y : Near) → IsAlike x y → said_by (take k (take 2 x)) ≡ said_by (take k (take 2 y))
take-twice zero x y e = refl
take-twice (suc zero) x y e = once x ∙ e.first 1 ∙ sym (once y)
  where
    once : (z : Near) → said_by (take 1 (take 2 z)) ≡ said_by (take 1 z)
    once [] = refl
    once (a ∷ z) = refl
take-twice (suc (suc k)) x y e = twice x ∙ e.first 2 ∙ sym (twice y)
  where
    take-none : (j : ℕ) → said_by (take j []) ≡ []
    take-none zero = refl
    take-none (suc j) = refl

    twice : (z : Near) → said_by (take (suc (suc k)) (take 2 z)) ≡ said_by (take 2 z)
    twice [] = refl
    twice (a ∷ []) = refl
    twice (a ∷ b ∷ z) = ap (λ l. near_languages a ++ (near_languages b ++ l)) (take-none k)

alike-more : (a : List AttributePair) (x y : Near) → IsAlike x y → IsAlike (a ∷ take 2 x) (a ∷ take 2 y)
alike-more a x y e = record {
  all = ap (λ l. near_languages a ++ l) (e.first 2);
  first = firsts;
}
  where
    firsts : (k : ℕ) → said_by (take k (a ∷ take 2 x)) ≡ said_by (take k (a ∷ take 2 y))
    firsts zero = refl
    firsts (suc k) = ap (λ l. near_languages a ++ l) (take-twice k x y e)

-- an element that says none
pub silent-near : (a : List AttributePair) → near_languages a ≡ [] → IsAlike (a ∷ []) []
silent-near a h = record { all = ap (λ l. l ++ []) h; first = firsts }
  where
    firsts : (k : ℕ) → said_by (take k (a ∷ [])) ≡ said_by (take k [])
    firsts zero = refl
    firsts (suc zero) = ap (λ l. l ++ []) h
    firsts (suc (suc k)) = ap (λ l. l ++ []) h

-- ---- what doesn't depend on what is near

abbrev pub IsSame : {A : Type 0} → (Context → A) → Type 0
IsSame give = (c : Context) (x y : Near) → IsAlike x y → give (beside c x) ≡ give (beside c y)

both : {A : Type 0} {xs ys us vs : List A} → xs ≡ us → ys ≡ vs → xs ++ ys ≡ us ++ vs
both {ys = ys} {us = us} e f = ap (λ zs. zs ++ ys) e ∙ ap (λ zs. us ++ zs) f

either : {A : Type 0} (b : Bool) {p q r s : A} → p ≡ r → q ≡ s → cond b p q ≡ cond b r s
either true e f = e
either false e f = f

-- a context around
through : {A : Type 0} (around : Context → Context)
    → ((c : Context) (x : Near) → around (beside c x) ≡ beside (around c) x)
    → (give : Context → A) → IsSame give → IsSame (λ c. give (around c))
through around same give all c x y e =
    ap give (same c x) ∙ (all (around c) x y e ∙ ap give (sym (same c y)))

cond-beside : (b : Bool) (c d : Context) (x : Near) → cond b (beside c x) (beside d x) ≡ beside (cond b c d) x
cond-beside true c d x = refl
cond-beside false c d x = refl

format-beside : (f : Format) (c : Context) (x : Near) → inside_format f (beside c x) ≡ beside (inside_format f c) x
format-beside f c x = cond-beside (is_enough f c.around) c (with_around c (formatted f)) x

link-beside : (node : ℕ) (address : List ℕ) (title : Option (List ℕ)) (c : Context) (x : Near)
    → inside_link node address title (beside c x) ≡ beside (inside_link node address title c) x
link-beside node address title c x =
    cond-beside (list_any is_link c.around) c (with_around c (linked node address title)) x

title-beside : (title : Option (List ℕ)) (c : Context) (x : Near)
    → inside_title title (beside c x) ≡ beside (inside_title title c) x
title-beside None c x = refl
title-beside (Some title) c x = format-beside (Abbreviation title) c x

heading-beside : (facts : Facts) (c : Context) (x : Near)
    → flow.around_heading facts (beside c x) ≡ beside (flow.around_heading facts c) x
heading-beside facts c x = cond-beside (facts.shows_sign && is_linked_to_part c) (unlinked c) c x

around-beside : (content : Simples) (c : Context) (x : Near)
    → rich.around_title content (beside c x) ≡ beside (rich.around_title content c) x
around-beside content c x =
    cond-beside (has_elements c && is_linked_to_part c && show_usual_sign content) (unlinked c) c x

node-beside : (tree : Simple) (c : Context) (x : Near)
    → rich.around_node tree (beside c x) ≡ beside (rich.around_node tree c) x
node-beside tree c x =
    let content = content_of tree in
    either (has roles.is_title tree) (around-beside content c x) refl
    ∙ cond-beside (has roles.is_title tree) (rich.around_title content c) c x

near-same : {A : Type 0} (k : ℕ) (attributes : List AttributePair) (give : Context → A) → IsSame give
    → IsSame (λ c. give (beside_code k attributes c))
near-same zero attributes give all c x y e = all c x y e
near-same (suc zero) attributes give all c x y e =
    all c (attributes ∷ take 2 x) (attributes ∷ take 2 y) (alike-more attributes x y e)
near-same (suc (suc k)) attributes give all c x y e = refl

cell-same : {A : Type 0} (tree : Simple) (give : Context → A) → IsSame give
    → IsSame (λ c. give (rich.in_cell tree c))
cell-same (element id role.Cell facts attributes content) give all = near-same facts.pres attributes give all
cell-same tree give all = all

-- ---- leaves

image-same : (o : Option (List ℕ)) (attributes : List AttributePair) → IsSame (flow.image_parts o attributes)
image-same (Some s) attributes c x y e = refl
image-same None attributes c x y e = refl

embed-same : (id : ℕ) (address title : List ℕ) (ids : List (List ℕ))
    → IsSame (flow.embed_parts id address title ids)
embed-same id address title ids c x y e =
    ap (λ p. (flow.embed_edge c ∷ map place ids) ++ p ∷ flow.embed_edge c ∷ [])
    (through (inside_link id address None) (link-beside id address None) (λ d. run_in d title) (λ d x y e. refl) c x y
    e)

code-same : (attributes : List AttributePair) (content : Simples) → IsSame (flow.verbatim_parts attributes content)
code-same attributes content c x y e =
    let s = with_line_feeds (all_text_among content) in
    either (is_blank_text s) refl
    (either c.is_flat refl
    (ap (λ l. apart (whole (code_block (language_named (first_name
    (own_languages (only_code (list_of content) ++ attributes ∷ []) ++ l))) (without_last_line_feed s)) ∷ []))
    e.all))

-- ---- nodes

pub record IsSameNode (n : Node) : Type 0 where
  pub whole : IsSame n.whole
  pub content : IsSame n.content

abbrev pub AllSame : List Node → Type 0
AllSame [] = Unit {0}
AllSame (n ∷ ns) = IsSameNode n × AllSame ns

if-same : (b : Bool) (ns ms : List Node) → AllSame ns → AllSame ms → AllSame (cond b ns ms)
if-same true ns ms g h = g
if-same false ns ms g h = h

take-same : (k : ℕ) (ns : List Node) → AllSame ns → AllSame (take k ns)
take-same zero ns h = tt
take-same (suc k) [] h = tt
take-same (suc k) (n ∷ ns) h = (h.0, take-same k ns h.1)

drop-same : (k : ℕ) (ns : List Node) → AllSame ns → AllSame (drop k ns)
drop-same zero ns h = h
drop-same (suc k) [] h = tt
drop-same (suc k) (n ∷ ns) h = drop-same k ns h.1

before-same : (ns : List Node) → AllSame ns → IsSame (nodes.before_items ns)
before-same [] h c x y e = refl
before-same (n ∷ ns) h c x y e = either (is_item n) refl (both (h.0.whole c x y e) (before-same ns h.1 c x y e))

behind-same : (ns : List Node) → AllSame ns → IsSame (nodes.behind_item ns)
behind-same [] h c x y e = refl
behind-same (n ∷ ns) h c x y e =
    either (is_item n) refl (ap (λ ps. edge ∷ ps) (both (h.0.whole c x y e) (behind-same ns h.1 c x y e)))

items-same : (ns : List Node) → AllSame ns → IsSame (nodes.items_of ns)
items-same [] h c x y e = refl
items-same (n ∷ ns) h c x y e =
    either (is_item n)
    (ap (λ ps. nodes.item_of n ps ∷ nodes.items_of ns (beside c x))
    (both (h.0.content c x y e) (behind-same ns h.1 c x y e))
    ∙ ap (λ is. nodes.item_of n (n.content (beside c y) ++ nodes.behind_item ns (beside c y)) ∷ is)
    (items-same ns h.1 c x y e)) (items-same ns h.1 c x y e)

whole-same : (ns : List Node) → AllSame ns → IsSame (nodes.each_whole ns)
whole-same [] h c x y e = refl
whole-same (n ∷ ns) h c x y e = both (h.0.whole c x y e) (whole-same ns h.1 c x y e)

list-same : (start : Option ℤ) (ns : List Node) → AllSame ns → IsSame (list_parts start ns)
list-same start ns h c x y e =
    either (is_lined c) (ap apart (whole-same ns h c x y e))
    (ap (λ ps. ps ++ edge ∷ []) (both (ap (λ ps. edge ∷ ps) (before-same ns h c x y e))
    (ap (λ is. edge ∷ lists.lists_if_filled c.nested start is) (items-same ns h (deeper c) x y e))))

row-same : (ns : List Node) → AllSame ns → AllSame (items_in_a_row ns)
row-same [] h = tt
row-same (n ∷ ns) h = if-same (goes_on n) (n ∷ items_in_a_row ns) [] (h.0, row-same ns h.1) tt

mutual
  pub flow-same : (ns : List Node) → AllSame ns → IsSame (flow_all ns)
  flow-same [] h c x y e = refl
  flow-same (n ∷ ns) h c x y e =
      either (is_item n)
      (both (list-same None (n ∷ items_in_a_row ns) (h.0, row-same ns h.1) c x y e) (after-same ns h.1 c x y e))
      (both (h.0.whole c x y e) (flow-same ns h.1 c x y e))

  after-same : (ns : List Node) → AllSame ns → IsSame (flow_after ns)
  after-same [] h c x y e = refl
  after-same (n ∷ ns) h c x y e =
      either (goes_on n) (after-same ns h.1 c x y e) (both (h.0.whole c x y e) (flow-same ns h.1 c x y e))

-- ---- titles

within-same : (n : Node) → IsSameNode n → IsSame (rich.within n)
within-same n h = through (rich.around_node n.tree) (node-beside n.tree) n.content h.content

as-title-same : (title : BlockElement) (n : Node) → IsSameNode n → IsSameNode (rich.as_title title n)
as-title-same title n h = go (has (rich.is_title_of title) n.tree)
  where
    go : (b : Bool) → IsSameNode (cond b (record n { whole = rich.title_element title n }) n)
    go true = record {
      whole = λ c x y e.
          ap (λ ps. apart (rich.element_part title [] (blocks_of false ps))) (within-same n h c x y e);
      content = h.content;
    }
    go false = h

titled-same : (title : BlockElement) (ns : List Node) → AllSame ns → AllSame (map (rich.as_title title) ns)
titled-same title [] h = tt
titled-same title (n ∷ ns) h = (as-title-same title n h.0, titled-same title ns h.1)

details-same : (attributes : List AttributePair) (ns : List Node) → AllSame ns
    → IsSame (rich.details_parts attributes ns)
details-same attributes ns h c x y e =
    ap apart (either (has_elements c)
    (ap (λ ps. rich.element_part name.Details (rich.open_attribute attributes) (blocks_of false ps))
    (flow-same (map (rich.as_title name.Summary) ns) (titled-same name.Summary ns h) c x y e))
    (flow-same ns h c x y e))

pub figure-same : (ns : List Node) → AllSame ns → IsSame (rich.figure_parts ns)
figure-same ns h c x y e =
    ap apart (either (has_elements c)
    (ap (rich.figure_by (list_any (λ (n : Node). rich.shows_title name.FigureCaption n.tree) ns))
    (flow-same (map (rich.as_title name.FigureCaption) ns) (titled-same name.FigureCaption ns h) c x y e))
    (flow-same ns h c x y e))

-- ---- terms

abbrev AllTerms : List TermPart → Type 0
AllTerms [] = Unit {0}
AllTerms (gap ∷ parts) = AllTerms parts
AllTerms (of_node n ∷ parts) = IsSameNode n × AllTerms parts

terms-append : (ps qs : List TermPart) → AllTerms ps → AllTerms qs → AllTerms (ps ++ qs)
terms-append [] qs g h = h
terms-append (gap ∷ ps) qs g h = terms-append ps qs g h
terms-append (of_node n ∷ ps) qs g h = (g.0, terms-append ps qs g.1 h)

nodes-terms : (ns : List Node) → AllSame ns → AllTerms (map of_node ns)
nodes-terms [] h = tt
nodes-terms (n ∷ ns) h = (h.0, nodes-terms ns h.1)

described-one : (d : Descriptions) (n : Node) → IsSameNode n → IsSame (λ c. rich.with_described c d n)
described-one d n h c x y e =
    either (has roles.is_term n.tree || has roles.is_meaning n.tree)
    (ap (λ ps. record d { begun = d.begun ++ rich.description_with (has roles.is_term n.tree) ps ∷ [] })
    (within-same n h c x y e))
    (either (nat_lt 0 (length d.begun))
    (ap (λ ps. record d {
      begun = rich.onto_last_description (rich.before_more (shows false n.tree) d.begun) (edge ∷ ps);
    }) (flow-same (n ∷ []) (h, tt) c x y e))
    (ap (λ ps. record d { before = d.before ++ ps }) (flow-same (n ∷ []) (h, tt) c x y e)))

described-same : (parts : List TermPart) → AllTerms parts → (d : Descriptions)
    → IsSame (λ c. fold (rich.with_description c) d parts)
described-same [] h d c x y e = refl
described-same (gap ∷ parts) h d c x y e = described-same parts h d c x y e
described-same (of_node n ∷ parts) h d c x y e =
    ap (λ b. fold (rich.with_description (beside c x)) b parts) (described-one d n h.0 c x y e)
    ∙ described-same parts h.1 (rich.with_described (beside c y) d n) c x y e

beside-same : (n : Node) → IsSameNode n → IsSame (flow.beside_terms n)
beside-same n h c x y e =
    either (has roles.is_meaning n.tree) (ap apart (h.content c x y e))
    (either (is_item n) (h.content c x y e) (h.whole c x y e))

in-item-same : (n : Node) → IsSameNode n → IsSame (flow.within_item n)
in-item-same n h c x y e =
    either (has roles.is_meaning n.tree) (beside-same n h c x y e) (ap (λ ps. edge ∷ ps) (beside-same n h c x y e))

term-one : (m : Bool) (t : Terms) (n : Node) → IsSameNode n → IsSame (λ c. flow.with_node m c t n)
term-one m t n h c x y e =
    either (has roles.is_term n.tree) (ap (λ ps. flow.with_term m t (apart ps)) (h.content (deeper c) x y e))
    (ap (λ ps. flow.with_parts (flow.after_node t n) ps (flow.beside_terms n (beside c x)))
    (in-item-same n h (deeper c) x y e)
    ∙ ap (λ ps. flow.with_parts (flow.after_node t n) (flow.within_item n (deeper (beside c y))) ps)
    (beside-same n h c x y e))

terms-same : (m : Bool) (parts : List TermPart) → AllTerms parts → (t : Terms)
    → IsSame (λ c. fold (flow.with_part m c) t parts)
terms-same m [] h t c x y e = refl
terms-same m (gap ∷ parts) h t c x y e = terms-same m parts h (record t { goes_on = false }) c x y e
terms-same m (of_node n ∷ parts) h t c x y e =
    ap (λ u. fold (flow.with_part m (beside c x)) u parts) (term-one m t n h.0 c x y e)
    ∙ terms-same m parts h.1 (flow.with_node m (beside c y) t n) c x y e

all-terms-same : (parts : List TermPart) (ns : List Node) → AllTerms parts → AllSame ns
    → IsSame (flow.terms_by parts ns)
all-terms-same parts ns g h c x y e =
    either (has_elements c) (ap rich.parts_of_descriptions (described-same parts g rich.no_descriptions c x y e))
    (either (is_lined c || not (list_any (flow.has_role roles.is_term) parts)) (ap apart (flow-same ns h c x y e))
    (ap (flow.list_of_terms c)
    (terms-same (list_any (flow.has_role roles.is_meaning) parts) parts g flow.no_terms c x y e)))

-- ---- tables

abbrev AllRows : List Row → Type 0
AllRows [] = Unit {0}
AllRows (r ∷ rows) = AllSame r.cells × AllRows rows

rows-append : (ps qs : List Row) → AllRows ps → AllRows qs → AllRows (ps ++ qs)
rows-append [] qs g h = h
rows-append (p ∷ ps) qs g h = (g.0, rows-append ps qs g.1 h)

line-captions : (ns : List Node) → AllSame ns → IsSame (flow.captions_in_one_line ns)
line-captions [] h c x y e = refl
line-captions (n ∷ ns) h c x y e =
    both (either (has roles.is_caption n.tree) (ap (λ ps. ps ++ edge ∷ []) (h.0.content c x y e)) refl)
    (line-captions ns h.1 c x y e)

line-cells : (ns : List Node) → AllSame ns → IsSame (λ c. flat_map (flow.cell_in_one_line c) ns)
line-cells [] h c x y e = refl
line-cells (n ∷ ns) h c x y e =
    both (ap (λ ps. ps ++ run (space ∷ []) c.around false ∷ []) (h.0.content c x y e)) (line-cells ns h.1 c x y e)

line-rows : (rows : List Row) → AllRows rows → IsSame (flow.rows_in_one_line rows)
line-rows [] h c x y e = refl
line-rows (r ∷ rows) h c x y e =
    both (ap (λ ps. ps ++ edge ∷ []) (line-cells r.cells h.0 c x y e)) (line-rows rows h.1 c x y e)

captions-same : (ns : List Node) → AllSame ns → IsSame (flow.captions_among ns)
captions-same [] h c x y e = refl
captions-same (n ∷ ns) h c x y e =
    both (either (has roles.is_caption n.tree) (ap apart (h.0.content c x y e)) refl) (captions-same ns h.1 c x y e)

cells-same : (ns : List Node) → AllSame ns → IsSame (λ c. map (flow.cell_of c) ns)
cells-same [] h c x y e = refl
cells-same (n ∷ ns) h c x y e =
    both (ap (λ ps. record (flow.cell_of (beside c x) n) { content = line_of ps } ∷ [])
    (h.0.content (in_one_line c) x y e)) (cells-same ns h.1 c x y e)

rows-same : (rows : List Row) → AllRows rows → IsSame (λ c. map (flow.row_of c) rows)
rows-same [] h c x y e = refl
rows-same (r ∷ rows) h c x y e =
    both (ap (λ cells. record (flow.row_of (beside c x) r) { cells = cells } ∷ []) (cells-same r.cells h.0 c x y e))
    (rows-same rows h.1 c x y e)

grid-same : (trees : List Simple) (ns : List Node) (rows : List Row) → AllSame ns → AllRows rows
    → IsSame (flow.table_parts trees ns rows)
grid-same trees ns rows g h c x y e =
    let k = flow.before_row ns in
    let first = take-same k ns g in
    let last = drop-same k ns g in
    either (flow.is_grid trees rows)
    (ap (λ ps. edge ∷ ps) (either c.is_flat
    (both (both (line-captions (take k ns) first c x y e) (line-rows rows h c x y e))
    (line-captions (drop k ns) last c x y e))
    (ap (λ ps. ps ++ edge ∷ []) (both (both (captions-same (take k ns) first c x y e)
    (ap (λ rs. edge ∷ nodes.block_part (grid.table_of_rows (flow.filled_rows rs))) (rows-same rows h c x y e)))
    (ap (λ ps. edge ∷ ps) (captions-same (drop k ns) last c x y e))))))
    (ap apart (flow-same ns g c x y e))

abbrev AllPieces : List TablePiece → Type 0
AllPieces [] = Unit {0}
AllPieces (of_caption n ∷ pieces) = IsSameNode n × AllPieces pieces
AllPieces (of_row r ∷ pieces) = AllSame r.cells × AllPieces pieces

pieces-append : (ps qs : List TablePiece) → AllPieces ps → AllPieces qs → AllPieces (ps ++ qs)
pieces-append [] qs g h = h
pieces-append (of_caption n ∷ ps) qs g h = (g.0, pieces-append ps qs g.1 h)
pieces-append (of_row r ∷ ps) qs g h = (g.0, pieces-append ps qs g.1 h)

rows-pieces : (rows : List Row) → AllRows rows → AllPieces (map of_row rows)
rows-pieces [] h = tt
rows-pieces (r ∷ rows) h = (h.0, rows-pieces rows h.1)

if-pieces : (b : Bool) (ps qs : List TablePiece) → AllPieces ps → AllPieces qs → AllPieces (cond b ps qs)
if-pieces true ps qs g h = g
if-pieces false ps qs g h = h

kept-same : (is_kept : TablePiece → Bool) (ps : List TablePiece) → AllPieces ps → AllPieces (filter is_kept ps)
kept-same is_kept [] h = tt
kept-same is_kept (of_caption n ∷ ps) h =
    let kept = filter is_kept ps in
    if-pieces (is_kept (of_caption n)) (of_caption n ∷ kept) kept (h.0, kept-same is_kept ps h.1)
    (kept-same is_kept ps h.1)
kept-same is_kept (of_row r ∷ ps) h =
    let kept = filter is_kept ps in
    if-pieces (is_kept (of_row r)) (of_row r ∷ kept) kept (h.0, kept-same is_kept ps h.1) (kept-same is_kept ps h.1)

rich-cells-same : (has_spans is_in_head : Bool) (ns : List Node) → AllSame ns
    → IsSame (λ c. map (rich.cell_with_blocks has_spans is_in_head c) ns)
rich-cells-same has_spans is_in_head [] h c x y e = refl
rich-cells-same has_spans is_in_head (n ∷ ns) h c x y e =
    both (ap (λ ps. record (rich.cell_with_blocks has_spans is_in_head (beside c x) n) {
      content = blocks_of false ps;
    } ∷ []) (cell-same n.tree n.content h.0.content c x y e)) (rich-cells-same has_spans is_in_head ns h.1 c x y e)

pieces-same : (has_spans : Bool) (ps : List TablePiece) → AllPieces ps
    → IsSame (λ c. map (rich.piece_with_blocks has_spans c) ps)
pieces-same has_spans [] h c x y e = refl
pieces-same has_spans (of_caption n ∷ ps) h c x y e =
    both (ap (λ qs. elements.caption (blocks_of false qs) ∷ []) (within-same n h.0 c x y e))
    (pieces-same has_spans ps h.1 c x y e)
pieces-same has_spans (of_row r ∷ ps) h c x y e =
    both (ap (λ cells. elements.row (record { part = r.part; cells = cells }) ∷ [])
    (rich-cells-same has_spans r.is_in_head r.cells h.0 c x y e)) (pieces-same has_spans ps h.1 c x y e)

rich-table-same : (trees : List Simple) (attributes : List AttributePair) (ps : List TablePiece) (ns : List Node)
    → AllPieces ps → AllSame ns → IsSame (rich.rich_table_parts trees attributes ps ns)
rich-table-same trees attributes ps ns g h c x y e =
    let has_spans = rich.have_row_spans (rich.rows_in ps) in
    let kept = rich.kept_pieces ps in
    ap apart (either (rich.is_for_page trees attributes kept) (flow-same ns h c x y e)
    (ap (λ made. rich.table_with_blocks attributes kept (elements.cut_all made) (flow_all ns (beside c x)))
    (pieces-same has_spans kept (kept-same (rich.stays has_spans) ps g) c x y e)
    ∙ ap (rich.table_with_blocks attributes kept (rich.pieces_with_blocks has_spans kept (beside c y)))
    (flow-same ns h c x y e)))

-- ---- elements

module _ (own : Element) (ns : AllSame own.nodes) (rs : AllRows own.rows) (ps : AllPieces own.pieces)
    (ts : AllTerms own.terms) where
  flows : IsSame (flow_all own.nodes)
  flows = flow-same own.nodes ns

  heading-same : (level : ℕ) → IsSame (flow.heading_parts level own.facts own.nodes)
  heading-same level c x y e =
      ap apart (either c.is_flat (flows c x y e) (ap (λ parts. flow.heading_of level (line_of parts))
      (through (λ d. in_one_line (flow.around_heading own.facts d))
      (λ d z. ap in_one_line (heading-beside own.facts d z)) (flow_all own.nodes) flows c x y e)))

  quote-same : IsSame (flow.quote_parts own.nodes)
  quote-same c x y e =
      ap apart (either (is_lined c) (flows c x y e)
      (ap (λ parts. flow.quote_of (blocks_of false parts)) (flows (deeper c) x y e)))

  table-same : IsSame (flow.table_at own)
  table-same c x y e =
      either (has_elements c)
      (rich-table-same (list_of own.content) own.attributes own.pieces own.nodes ps ns c x y e)
      (grid-same (list_of own.content) own.nodes own.rows ns rs c x y e)

  title-same : IsSame (flow.title_parts own)
  title-same c x y e =
      ap apart (through (rich.around_title own.content) (around-beside own.content) (flow_all own.nodes) flows c x y e)

  beside-code : IsSame (flow.near_parts own)
  beside-code c x y e = ap apart (near-same own.facts.pres own.attributes (flow_all own.nodes) flows c x y e)

  element-same : (r : Role) → IsSame (flow.parts_of r own)
  element-same (role.Format f) c x y e =
      through (inside_format (of_format f)) (format-beside (of_format f)) (flow_all own.nodes) flows c x y e
  element-same (role.Element f) c x y e =
      through (inside_format (of_element f)) (format-beside (of_element f)) (flow_all own.nodes) flows c x y e
  element-same role.Abbreviation c x y e =
      through (inside_title (title_of own.attributes)) (title-beside (title_of own.attributes)) (flow_all own.nodes)
      flows c x y e
  element-same role.Code c x y e = flows (in_code c) x y e
  element-same role.Typed c x y e = flows (in_code c) x y e
  element-same role.Link c x y e =
      through (flow.linked_by own.id own.attributes)
      (link-beside own.id (address (text_of (codes "href") own.attributes))
      (title_of own.attributes)) (flow_all own.nodes) flows c x y e
  element-same role.Unlinked c x y e = flows (unlinked c) x y e
  element-same role.Target c x y e = flows c x y e
  element-same role.Plain c x y e = flows c x y e
  element-same role.Apart c x y e =
      ap (λ parts. (run_in c (space ∷ []) ∷ parts) ++ run_in c (space ∷ []) ∷ []) (flows c x y e)
  element-same role.LineBreak c x y e = refl
  element-same role.Input c x y e = ap (λ parts. flow.box_parts own.attributes ++ parts) (flows c x y e)
  element-same role.Anchors c x y e = either c.is_flat (flows c x y e) (ap apart (flows c x y e))
  element-same (role.Heading level) c x y e = heading-same level c x y e
  element-same role.Preformatted c x y e = code-same own.attributes own.content c x y e
  element-same role.Verbatim c x y e = code-same own.attributes own.content c x y e
  element-same role.BlockQuote c x y e = quote-same c x y e
  element-same role.ThematicBreak c x y e = refl
  element-same role.BulletList c x y e = list-same None own.nodes ns c x y e
  element-same role.NumberedList c x y e = list-same (Some (flow.start_of own.attributes)) own.nodes ns c x y e
  element-same role.Terms c x y e = all-terms-same own.terms own.nodes ts ns c x y e
  element-same role.Table c x y e = table-same c x y e
  element-same role.Details c x y e = details-same own.attributes own.nodes ns c x y e
  element-same role.Figure c x y e =
      near-same own.facts.pres own.attributes (rich.figure_parts own.nodes) (figure-same own.nodes ns) c x y e
  element-same role.Term c x y e = title-same c x y e
  element-same role.Caption c x y e = title-same c x y e
  element-same role.FigureCaption c x y e = title-same c x y e
  element-same role.Summary c x y e = title-same c x y e
  element-same role.Division c x y e = beside-code c x y e
  element-same role.Cell c x y e = beside-code c x y e
  element-same r c x y e = ap apart (flows c x y e)

-- ---- trees

cells-of : (ns : List Node) → AllSame ns → AllSame (filter flow.is_cell ns)
cells-of [] h = tt
cells-of (n ∷ ns) h =
    let cells = filter flow.is_cell ns in
    if-same (flow.is_cell n) (n ∷ cells) cells (h.0, cells-of ns h.1) (cells-of ns h.1)

either-rows : (a b : Bool) (xs ys : List Row) → AllRows xs → AllRows ys → AllRows (cond a xs (cond b ys []))
either-rows true b xs ys g h = g
either-rows false true xs ys g h = h
either-rows false false xs ys g h = tt

if-terms : (b : Bool) (ps qs : List TermPart) → AllTerms ps → AllTerms qs → AllTerms (cond b ps qs)
if-terms true ps qs g h = g
if-terms false ps qs g h = h

mutual
  unfolding node_of

  pub node-same : (tree : Simple) → IsSameNode (node_of tree)
  node-same (text s) = record { whole = λ c x y e. refl; content = λ c x y e. refl }
  node-same (image o attributes) = record { whole = image-same o attributes; content = λ c x y e. refl }
  node-same (formula tex is_alone attributes) = record { whole = λ c x y e. refl; content = λ c x y e. refl }
  node-same (embedded id address title attributes ids) = record {
    whole = embed-same id address title ids;
    content = λ c x y e. refl;
  }
  node-same (anchor id) = record { whole = λ c x y e. refl; content = λ c x y e. refl }
  node-same (element id r facts attributes content) = record {
    whole = element-same (record {
      id = id;
      facts = facts;
      attributes = attributes;
      content = content;
      nodes = nodes_of content;
      rows = flow.rows_among no_part content;
      pieces = flow.pieces_of content;
      terms = flow.terms_of content;
    }) (nodes-same content) (among-same no_part content) (pieces-among content) (terms-among content) r;
    content = flow-same (nodes_of content) (nodes-same content);
  }

  pub nodes-same : (ts : Simples) → AllSame (nodes_of ts)
  nodes-same none = tt
  nodes-same (more tree ts) = (node-same tree, nodes-same ts)

  among-same : (p : TablePart) (ts : Simples) → AllRows (flow.rows_among p ts)
  among-same p none = tt
  among-same p (more tree ts) =
      rows-append (flow.rows_at p tree) (flow.rows_among p ts) (at-same p tree) (among-same p ts)

  at-same : (p : TablePart) (tree : Simple) → AllRows (flow.rows_at p tree)
  at-same p (text s) = tt
  at-same p (image o attributes) = tt
  at-same p (formula tex is_alone attributes) = tt
  at-same p (embedded id address title attributes ids) = tt
  at-same p (anchor id) = tt
  at-same p (element id r facts attributes content) =
      let tree : Simple = element id r facts attributes content in
      either-rows (roles.is_row r) (flow.leads_to p tree) (flow.row_with p (nodes_of content))
      (flow.rows_among (flow.part_of tree) content) (cells-of (nodes_of content) (nodes-same content), tt)
      (among-same (flow.part_of tree) content)

  pieces-among : (ts : Simples) → AllPieces (flow.pieces_of ts)
  pieces-among none = tt
  pieces-among (more tree ts) =
      pieces-append (flow.pieces_at (node_of tree) (flow.rows_at no_part tree)) (flow.pieces_of ts)
      (if-pieces (has roles.is_caption (node_of tree).tree) (of_caption (node_of tree) ∷ [])
      (map of_row (flow.rows_at no_part tree)) (node-same tree, tt)
      (rows-pieces (flow.rows_at no_part tree) (at-same no_part tree))) (pieces-among ts)

  terms-among : (ts : Simples) → AllTerms (flow.terms_of ts)
  terms-among none = tt
  terms-among (more tree ts) =
      terms-append (flow.parts_of_child (node_of tree) (nodes_below tree)) (flow.terms_of ts)
      (if-terms (is_group (node_of tree).tree) (gap ∷ map of_node (nodes_below tree) ++ gap ∷ [])
      (of_node (node_of tree) ∷ [])
      (terms-append (map of_node (nodes_below tree)) (gap ∷ [])
      (nodes-terms (nodes_below tree) (below-same tree)) tt)
      (node-same tree, tt)) (terms-among ts)

  below-same : (tree : Simple) → AllSame (nodes_below tree)
  below-same (text s) = tt
  below-same (image o attributes) = tt
  below-same (formula tex is_alone attributes) = tt
  below-same (embedded id address title attributes ids) = tt
  below-same (anchor id) = tt
  below-same (element id r facts attributes content) = nodes-same content

-- what nodes give, near what says the same languages
pub all-same : (ts : Simples) → IsSame (flow_all (nodes_of ts))
all-same ts = flow-same (nodes_of ts) (nodes-same ts)

-- inside an element that says none, where nothing else is near
pub silent-same : {A : Type 0} (k : ℕ) (a : List AttributePair) → near_languages a ≡ [] → (give : Context → A)
    → IsSame give → (is_rich : Bool) (n : ℕ)
    → give (beside_code k a (here is_rich n)) ≡ give (here is_rich n)
silent-same zero a h give all is_rich n = refl
silent-same (suc zero) a h give all is_rich n = all (here is_rich n) (a ∷ []) [] (silent-near a h)
silent-same (suc (suc k)) a h give all is_rich n = refl
