-- What is in the blocks of nodes is what is in the nodes, in order: where their anchors come early, so do the blocks'.
use Rattle.std.proofs.Common.{◌≡◌, ℕ, Bool, true, false, cond, not, ◌&&◌, ◌||◌, List, [], ◌∷◌, ◌++◌, map, refl, sym, ap}
use Rattle.std.proofs.Common.{◌∙◌, subst}
use Rattle.std.specs.Prelude.{codes, Some, None}
use Rattle.std.specs.List.{flat_map}
use Rattle.std.specs.Str.{IsUtf8}
use Rattle.std.proofs.lemmas.List.{map-append}
use Rattle.htmd_lexical.specs.AttributePairs.{AttributePair}
use Rattle.htmd_document.specs.Documents.{Inline, formatted, link, image, line_break, task, Inlines, no_inlines, inline}
use Rattle.htmd_document.specs.Documents.{Block, paragraph, heading, code_block, quote, thematic_break, list, table}
use Rattle.htmd_document.specs.Documents.{tags, Blocks, no_blocks, block, Items, no_items, item}
use Rattle.htmd_document.specs.Documents as document
use Rattle.htmd_shown.specs.AllTexts.{all_text_among, image_text, dollar_sign}
use Rattle.htmd_shown.specs.Attributes.{text_of}
use Rattle.htmd_shown.specs.declared.facts.Facts.{Facts}
use Rattle.htmd_shown.specs.declared.role.Role.{Role}
use Rattle.htmd_shown.specs.declared.role.Role.TheVariants as role
use Rattle.htmd_shown.specs.Roles.{is_thematic_break, is_verbatim}
use Rattle.htmd_shown.specs.Showings.{code_shows, shows, show}
use Rattle.htmd_shown.specs.SimpleTrees as simple
use Rattle.htmd_shown.specs.SimpleTrees.{Simple, Simples, none, more}
use Rattle.htmd_shown.specs.Spaces.{is_blank_text}
use Rattle.htmd_flow.specs.Contexts.{Context}
use Rattle.htmd_flow.specs.Flows.{around_node, blocks_of, flow_all, is_grid_of, nodes_of}
use Rattle.htmd_flow.specs.Parts.{Around, formatted as format_around, linked}
use Rattle.htmd_law_documents.specs.DocumentTexts.{visible}
use Rattle.htmd_law_documents.specs.SimpleForms.{IsSound, AreSound}
use Rattle.htmd_law_documents.proofs.CodeLemmas.{blank-seen}
use Rattle.htmd_law_documents.proofs.ElementLemmas.{true-false}
use Rattle.htmd_law_documents.proofs.Readers.{Reader, read_inline, read_line, read_cells, read_block, read_blocks}
use Rattle.htmd_law_documents.proofs.Readers.{read_items, read_formula, read_by, read_tree, read_trees}
use Rattle.htmd_law_documents.proofs.VisibleLemmas.{shows-nil, visible-append, both-true, shown-shows}
use Rattle.htmd_law_documents.proofs.WrapperNodesLemmas.{shallow}
use Rattle.htmd_law_documents.proofs.WrapperRichTableLemmas.{code-unseen}
use Rattle.htmd_law_documents.proofs.WrapperTreeLemmas.{HaveAddress, HaveAddresses, content-keeps}
use Rattle.htmd_law_documents.proofs.WrapperWritingLemmas.{AllAgree}
use Rattle.htmd_law_anchors.proofs.StandLemmas.{StandAll, stand-fit}
use Rattle.htmd_law_settled.proofs.EarlyTrees.{Early, AllEarly}
use Rattle.htmd_law_settled.proofs.Things.{Thing, a_thing, an_anchor, in_order, things_in, things_of_inline}
use Rattle.htmd_law_settled.proofs.Things.{things_of_line, things_of_cells, things_of_block, things_of, things_of_items}

-- ---- the reader that takes things to see and anchors

abbrev pub things_seen : List ℕ → List Thing
things_seen cs = map (λ (c : ℕ). a_thing) cs

pub things-append : (s t : List ℕ) → IsUtf8 s → things_in (s ++ t) ≡ things_in s ++ things_in t
things-append s t u =
    ap things_seen (visible-append s t u) ∙ map-append (λ (c : ℕ). a_thing) (visible s) (visible t)

abbrev pub things : Reader
things = record {
  Wrap = Unit {0};
  Seen = Thing;
  as_format = λ format. tt;
  as_link = λ address. tt;
  read = λ wrappers is_code s. things_in s;
  mark = λ id. an_anchor ∷ [];
  picture = a_thing ∷ [];
  nothing = λ wrappers is_code. ap things_seen shows-nil.is;
  joins = λ wrappers is_code s t u v. things-append s t u;
  same = λ wrappers is_code s t u v e. ap things_seen e;
}

-- ---- documents

mutual
  inline-things : (wrappers : List (Unit {0})) (x : Inline) → read_inline things wrappers x ≡ things_of_inline x
  inline-things wrappers (document.text s) = refl
  inline-things wrappers (document.code s) = refl
  inline-things wrappers (formatted format content) = line-things (wrappers ++ tt ∷ []) content
  inline-things wrappers (link address title content) = line-things (wrappers ++ tt ∷ []) content
  inline-things wrappers (image address title description) = refl
  inline-things wrappers (document.anchor i) = refl
  inline-things wrappers line_break = refl
  inline-things wrappers (task is_checked) = refl

  line-things : (wrappers : List (Unit {0})) (xs : Inlines) → read_line things wrappers xs ≡ things_of_line xs
  line-things wrappers no_inlines = refl
  line-things wrappers (inline x xs) =
      ap (λ t. t ++ read_line things wrappers xs) (inline-things wrappers x)
      ∙ ap (λ t. things_of_inline x ++ t) (line-things wrappers xs)

cells-things : (cells : List Inlines) → read_cells things cells ≡ things_of_cells cells
cells-things [] = refl
cells-things (cell ∷ cells) =
    ap (λ t. t ++ read_cells things cells) (line-things [] cell)
    ∙ ap (λ t. things_of_line cell ++ t) (cells-things cells)

rows-things : (rows : List (List Inlines)) → flat_map (read_cells things) rows ≡ flat_map things_of_cells rows
rows-things [] = refl
rows-things (row ∷ rows) =
    ap (λ t. t ++ flat_map (read_cells things) rows) (cells-things row)
    ∙ ap (λ t. things_of_cells row ++ t) (rows-things rows)

mutual
  block-things : (b : Block) → read_block things b ≡ things_of_block b
  block-things (paragraph content) = line-things [] content
  block-things (heading level content) = line-things [] content
  block-things (code_block language s) = refl
  block-things (quote content) = blocks-things content
  block-things thematic_break = refl
  block-things (document.element name attributes content) = blocks-things content
  block-things (tags s) = refl
  block-things (list start is_tight items) = items-things items
  block-things (table alignments header rows) =
      ap (λ t. t ++ flat_map (read_cells things) rows) (cells-things header)
      ∙ ap (λ t. things_of_cells header ++ t) (rows-things rows)

  pub blocks-things : (bs : Blocks) → read_blocks things bs ≡ things_of bs
  blocks-things no_blocks = refl
  blocks-things (block b bs) =
      ap (λ t. t ++ read_blocks things bs) (block-things b) ∙ ap (λ t. things_of_block b ++ t) (blocks-things bs)

  items-things : (items : Items) → read_items things items ≡ things_of_items items
  items-things no_items = refl
  items-things (item bs items) =
      ap (λ t. t ++ read_items things items) (blocks-things bs) ∙ ap (λ t. things_of bs ++ t) (items-things items)

-- ---- lists of things and anchors

abbrev has_thing : List Thing → Bool
has_thing [] = false
has_thing (a_thing ∷ xs) = true
has_thing (an_anchor ∷ xs) = has_thing xs

or-true : (b : Bool) → (b || true) ≡ true
or-true true = refl
or-true false = refl

or-false : (b : Bool) → (b || false) ≡ b
or-false true = refl
or-false false = refl

has-append : (xs ys : List Thing) → has_thing (xs ++ ys) ≡ (has_thing xs || has_thing ys)
has-append [] ys = refl
has-append (a_thing ∷ xs) ys = refl
has-append (an_anchor ∷ xs) ys = has-append xs ys

order-append : (b : Bool) (xs ys : List Thing) → in_order b xs ≡ true
    → in_order (b || has_thing xs) ys ≡ true → in_order b (xs ++ ys) ≡ true
order-append b [] ys g h = ap (λ x. in_order x ys) (sym (or-false b)) ∙ h
order-append b (a_thing ∷ xs) ys g h =
    order-append true xs ys g (ap (λ x. in_order x ys) (sym (or-true b)) ∙ h)
order-append b (an_anchor ∷ xs) ys g h =
    let parts = both-true (not b) (in_order b xs) g in
    ap (λ x. x && in_order b (xs ++ ys)) parts.0 ∙ order-append b xs ys parts.1 h

-- nothing came before
order-before : (b : Bool) (xs : List Thing) → in_order true xs ≡ true → in_order b xs ≡ true
order-before true xs h = h
order-before false [] h = refl
order-before false (a_thing ∷ xs) h = h
order-before false (an_anchor ∷ xs) h = true-false (sym h)

seen-order : (b : Bool) (cs : List ℕ) → in_order b (things_seen cs) ≡ true
seen-order b [] = refl
seen-order b (c ∷ cs) = seen-order true cs

marks-order : (ids : List (List ℕ)) → in_order false (flat_map things.mark ids) ≡ true
marks-order [] = refl
marks-order (id ∷ ids) = marks-order ids

-- ---- what is read of nodes

-- in order behind things or not, and without things where nothing shows
pub record Reads (b shown : Bool) (xs : List Thing) : Type 0 where
  pub order : in_order b xs ≡ true
  pub quiet : shown ≡ false → has_thing xs ≡ false

nothing-reads : (b shown : Bool) → Reads b shown []
nothing-reads b shown = record { order = refl; quiet = λ e. refl }

both-read : (b s t : Bool) (xs ys : List Thing) → Reads b s xs → Reads (b || s) t ys
    → Reads b (s || t) (xs ++ ys)
both-read b true t xs ys g h = record {
  order = order-append b xs ys g.order
      (order-before (b || has_thing xs) ys (ap (λ x. in_order x ys) (sym (or-true b)) ∙ h.order));
  quiet = λ e. true-false e;
}
both-read b false t xs ys g h = record {
  order = order-append b xs ys g.order (ap (λ x. in_order (b || x) ys) (g.quiet refl) ∙ h.order);
  quiet = λ e. has-append xs ys ∙ (ap (λ x. x || has_thing ys) (g.quiet refl) ∙ h.quiet e);
}

-- a text, in which something is if something shows
text-reads : (b shown : Bool) (s : List ℕ) → (shown ≡ false → visible s ≡ []) → Reads b shown (things_in s)
text-reads b shown s h = record {
  order = seen-order b (visible s);
  quiet = λ e. ap (λ cs. has_thing (things_seen cs)) (h e);
}

formula-reads : (b : Bool) (tex : List ℕ) (is_alone : Bool) (c : Context)
    → Reads b true (read_formula things c is_alone tex)
formula-reads b tex is_alone c = record { order = either (is_alone && not c.is_flat); quiet = λ e. true-false e }
  where
    sign : List Thing
    sign = things_in (dollar_sign ∷ [])

    start : in_order b (sign ++ things_in tex) ≡ true
    start = order-append b sign (things_in tex) (seen-order b (visible (dollar_sign ∷ [])))
        (seen-order (b || has_thing sign) (visible tex))

    either : (x : Bool) → in_order b (cond x (things_in tex) ((sign ++ things_in tex) ++ sign)) ≡ true
    either true = seen-order b (visible tex)
    either false = order-append b (sign ++ things_in tex) sign start
        (seen-order (b || has_thing (sign ++ things_in tex)) (visible (dollar_sign ∷ [])))

embedded-order : (b : Bool) (ids : List (List ℕ)) (title : List ℕ) → (b ≡ true → ids ≡ [])
    → in_order b (flat_map things.mark ids ++ things_in title) ≡ true
embedded-order true ids title h =
    ap (λ xs. in_order true (flat_map things.mark xs ++ things_in title)) (h refl) ∙ seen-order true (visible title)
embedded-order false ids title h =
    order-append false (flat_map things.mark ids) (things_in title) (marks-order ids)
    (seen-order (has_thing (flat_map things.mark ids)) (visible title))

-- an element's are those in it, or of all of its text, or none
by-kind : (P : List Thing → Type 0) (r : Role) (id : ℕ) (facts : Facts) (attributes : List AttributePair)
    (all : List ℕ) (holds_grid : Bool) (inner : Context → Bool → List Thing) (c : Context) (g : Bool) → P []
    → (is_verbatim r ≡ true → P (things_in all))
    → (is_verbatim r ≡ false → is_thematic_break r ≡ false → (d : Context) (h : Bool) → P (inner d h))
    → P (read_by things r id facts attributes all holds_grid inner c g)
by-kind P role.LineBreak id facts attributes all holds_grid inner c g n v h = n
by-kind P role.ThematicBreak id facts attributes all holds_grid inner c g n v h = n
by-kind P role.Preformatted id facts attributes all holds_grid inner c g n v h = v refl
by-kind P role.Verbatim id facts attributes all holds_grid inner c g n v h = v refl
by-kind P r id facts attributes all holds_grid inner c g n v h = h refl refl _ _

not-false : (b : Bool) → not b ≡ false → b ≡ true
not-false true e = refl
not-false false e = true-false e

mutual
  tree-reads : (t : Simple) → IsSound t → (b : Bool) → Early b t → (c : Context) (g : Bool)
      → Reads b (shows true t) (read_tree things t c g)
  tree-reads (simple.text s) u b h c g =
      text-reads b (not (is_blank_text s)) s (λ e. blank-seen s (not-false (is_blank_text s) e))
  tree-reads (simple.image None attributes) u b h c g =
      let alt : List ℕ = text_of (codes "alt") attributes in
      text-reads b (not (is_blank_text (image_text attributes))) alt
      (λ e. sym (shown-shows alt u).is
      ∙ blank-seen (image_text attributes) (not-false (is_blank_text (image_text attributes)) e))
  tree-reads (simple.image (Some address) attributes) u b h c g =
      record { order = seen-order true (visible (text_of (codes "alt") attributes)); quiet = λ e. true-false e }
  tree-reads (simple.formula tex is_alone attributes) u b h c g = formula-reads b tex is_alone c
  tree-reads (simple.embedded id address title attributes ids) u b h c g =
      record { order = embedded-order b ids title h; quiet = λ e. true-false e }
  tree-reads (simple.anchor id) u b h c g =
      record { order = ap (λ x. not x && true) h; quiet = λ e. refl }
  tree-reads (simple.element id r facts attributes content) u b h c g =
      let t : Simple = simple.element id r facts attributes content in
      let code : Bool = code_shows content in
      let other : Bool = cond (is_thematic_break r) false (show true content) in
      by-kind (Reads b (shows true t)) r id facts attributes (all_text_among content) (is_grid_of content)
      (read_trees things content) (around_node t c) g (nothing-reads b (shows true t))
      (λ v. text-reads b (shows true t) (all_text_among content)
      (λ e. (code-unseen content u.1 (sym (ap (λ x. cond x code other) v) ∙ e)).is))
      (λ v k d i. subst (λ (x : Bool). Reads b x (read_trees things content d i))
      (sym (ap (λ x. cond x code other) v ∙ ap (λ x. cond x false (show true content)) k))
      (trees-read content u.1 b h d i))

  pub trees-read : (ts : Simples) → AreSound ts → (b : Bool) → AllEarly b ts → (c : Context) (g : Bool)
      → Reads b (show true ts) (read_trees things ts c g)
  trees-read none u b h c g = nothing-reads b false
  trees-read (more t ts) u b h c g =
      both-read b (shows true t) (show true ts) (read_tree things t c g) (read_trees things ts c g)
      (tree-reads t u.0 b h.0 c g) (trees-read ts u.1 (b || shows true t) h.1 c g)

-- ---- titles

-- nothing is taken from addresses
abbrev pub no-link : ℕ → Unit {0}
no-link id = tt

mutual
  no-address : (t : Simple) → HaveAddress things no-link t
  no-address (simple.text s) = tt
  no-address (simple.image address attributes) = tt
  no-address (simple.formula tex is_alone attributes) = tt
  no-address (simple.embedded id address title attributes ids) = refl
  no-address (simple.anchor id) = tt
  no-address (simple.element id r facts attributes content) = (λ e. refl, no-addresses content)

  pub no-addresses : (ts : Simples) → HaveAddresses things no-link ts
  no-addresses none = tt
  no-addresses (more t ts) = (no-address t, no-addresses ts)

pub none-around : (around : List Around) → AllAgree things no-link around
none-around [] = tt
none-around (format_around f ∷ around) = (tt, none-around around)
none-around (linked id address title ∷ around) = (refl, none-around around)

pub title-in-order : (here : Bool) (content : Simples) → AreSound content → StandAll here content
    → AllEarly false content → (c : Context) → c.is_flat ≡ false
    → in_order false (things_of (blocks_of false (flow_all (nodes_of content) c))) ≡ true
title-in-order here content u s h c e =
    let bs : Blocks = blocks_of false (flow_all (nodes_of content) c) in
    ap (in_order false)
    (sym (blocks-things bs)
    ∙ content-keeps things no-link here content (stand-fit things here content u s) (no-addresses content) c
    (none-around c.around) e)
    ∙ (trees-read content u false h (shallow c) false).order
