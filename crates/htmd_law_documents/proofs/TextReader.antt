-- The reader that takes the visible characters alone, and whether texts are UTF-8.
use Rattle.std.proofs.Common.{◌≡◌, ℕ, Bool, true, false, cond, List, [], ◌∷◌, ◌++◌, map, refl, sym, ap, ◌∙◌}
use Rattle.std.proofs.Common.{Option, Some, None, subst}
use Rattle.std.specs.Prelude.{if◌then◌else◌, is_some, codes, not, ◌&&◌}
use Rattle.std.specs.List.{flat_map, list_all, list_any}
use Rattle.std.specs.Str.{is_utf8, IsUtf8}
use Rattle.std.proofs.lemmas.List.{map-append}
use Rattle.std.proofs.lemmas.List.Folds.{list_all-append}
use Rattle.std.proofs.lemmas.Grind.{flat_map-append}
use Rattle.std.proofs.lemmas.Str.{IsUtf8-append, IsUtf8-nil, IsUtf8-from_is_utf8, is_utf8-from_IsUtf8}
use Rattle.htmd_lexical.specs.AttributePairs.{AttributePair}
use Rattle.htmd_lexical.proofs.Cases.{test}
use Rattle.htmd_document.specs.Formats.{Format, Abbreviation, of_format, of_element}
use Rattle.htmd_document.specs.Documents.{Inline, text, code, formatted, link, image, line_break, task, Inlines}
use Rattle.htmd_document.specs.Documents.{anchor}
use Rattle.htmd_document.specs.Documents.{no_inlines, inline, Block, paragraph, heading, code_block, quote}
use Rattle.htmd_document.specs.Documents.{element, tags}
use Rattle.htmd_document.specs.Documents.{thematic_break, list, table, Blocks, no_blocks, block, Items, no_items, item}
use Rattle.htmd_shown.specs.declared.facts.Facts.{Facts}
use Rattle.htmd_shown.specs.declared.role.Role.{Role}
use Rattle.htmd_shown.specs.declared.role.Role.TheVariants as role
use Rattle.htmd_shown.specs.AllTexts.{all_text_among, dollar_sign}
use Rattle.htmd_shown.specs.Attributes.{text_of, title_of, address}
use Rattle.htmd_shown.specs.Roles.{is_void}
use Rattle.htmd_shown.specs.SimpleTrees as simple
use Rattle.htmd_shown.specs.SimpleTrees.{Simple, Simples, none, more}
use Rattle.htmd_flow.specs.Contexts.{Context, inside_format, inside_title, inside_link, in_one_line}
use Rattle.htmd_flow.specs.Contexts.{has_elements, unlinked, with_around, is_enough, is_link, is_linked_to_part}
use Rattle.htmd_flow.specs.Flows.{linked_by, around_heading, around_node, is_grid_of}
use Rattle.htmd_flow.specs.Parts as part
use Rattle.htmd_law_documents.specs.DocumentTexts.{text_of_inline, text_of_line, text_of_cells, text_of_rows}
use Rattle.htmd_law_documents.specs.DocumentTexts.{text_of_block, text_of_blocks, text_of_items, visible}
use Rattle.htmd_law_documents.specs.SaidTexts.{SaysUnless, Says, SayAll}
use Rattle.htmd_law_documents.specs.SimpleForms.{IsSound, AreSound}
use Rattle.htmd_law_documents.specs.SimpleTexts.{formula_said, flat_in, grid_in, text_of_simple, text_of_simples}
use Rattle.htmd_law_documents.specs.TreeWrappers.{inside_heading}
use Rattle.htmd_law_documents.proofs.VisibleLemmas.{Shows, shows-nil, shows-append, seen-same, visible-append}
use Rattle.htmd_law_documents.proofs.VisibleLemmas.{both-true}
use Rattle.htmd_law_documents.proofs.ElementLemmas.{false-true, dollar-shows, all-texts-show, simple-utf8, simples-utf8}
use Rattle.htmd_law_documents.proofs.SaidLemmas.{say-actual}
use Rattle.htmd_law_documents.proofs.WrapperNodesLemmas.{no-elements, around-flat}
use Rattle.htmd_law_documents.proofs.Readers.{Reader, read_inline, read_line, read_cells, read_block, read_blocks}
use Rattle.htmd_law_documents.proofs.Readers.{read_items, read_formula, read_by, read_tree, read_trees, no-marks}
use Rattle.htmd_law_documents.proofs.WrapperElementLemmas.{format-change, title-change, link-change}

-- the visible characters of a text, or none where it isn't UTF-8
abbrev pub taken : List ℕ → List (Option ℕ)
taken s = if is_utf8 s then map Some (visible s) else None ∷ []

pub taken-good : (s : List ℕ) → IsUtf8 s → taken s ≡ map Some (visible s)
taken-good s u = ap (λ b. cond b (map Some (visible s)) (None ∷ [])) (is_utf8-from_IsUtf8 s u)

pub taken-append : (s t : List ℕ) → IsUtf8 s → IsUtf8 t → taken (s ++ t) ≡ taken s ++ taken t
taken-append s t u v =
    taken-good (s ++ t) (IsUtf8-append s t u v)
    ∙ (ap (map Some) (visible-append s t u)
    ∙ (map-append Some (visible s) (visible t)
    ∙ (ap (λ xs. xs ++ map Some (visible t)) (sym (taken-good s u))
    ∙ ap (λ xs. taken s ++ xs) (sym (taken-good t v)))))

abbrev pub texts : Reader
texts = record {
  Wrap = Unit {0};
  Seen = Option ℕ;
  as_format = λ format. tt;
  as_link = λ address. tt;
  read = λ wrappers is_code s. taken s;
  mark = λ id. [];
  picture = [];
  nothing = λ wrappers is_code. taken-good [] IsUtf8-nil ∙ ap (map Some) shows-nil.is;
  joins = λ wrappers is_code s t u v. taken-append s t u v;
  same = λ wrappers is_code s t u v e. taken-good s u ∙ (ap (map Some) e ∙ sym (taken-good t v));
}

-- ---- what was taken

abbrev AreSome : List (Option ℕ) → Type 0
AreSome xs = list_all is_some xs ≡ true

abbrev given : Option ℕ → List ℕ
given None = []
given (Some c) = c ∷ []

abbrev all_given : List (Option ℕ) → List ℕ
all_given xs = flat_map given xs

some-all : (cs : List ℕ) → AreSome (map Some cs)
some-all [] = refl
some-all (c ∷ cs) = some-all cs

some-given : (cs : List ℕ) → all_given (map Some cs) ≡ cs
some-given [] = refl
some-given (c ∷ cs) = ap (λ t. c ∷ t) (some-given cs)

taken-shows : (s : List ℕ) → AreSome (taken s) → Shows s (all_given (taken s))
taken-shows s h = test (is_utf8 s)
    (λ e. record {
      utf8 = IsUtf8-from_is_utf8 s e;
      is = sym (ap all_given (taken-good s (IsUtf8-from_is_utf8 s e)) ∙ some-given (visible s));
    })
    (λ e. false-true (sym (ap (λ b. list_all is_some (cond b (map Some (visible s)) (None ∷ []))) e) ∙ h))

-- texts after each other
both-show : (s t : List ℕ) (xs ys : List (Option ℕ)) → (AreSome xs → Shows s (all_given xs))
    → (AreSome ys → Shows t (all_given ys)) → AreSome (xs ++ ys) → Shows (s ++ t) (all_given (xs ++ ys))
both-show s t xs ys g h a =
    let parts = both-true (list_all is_some xs) (list_all is_some ys)
    (sym (list_all-append is_some xs ys) ∙ a) in
    seen-same (s ++ t) (all_given xs ++ all_given ys) (all_given (xs ++ ys)) (sym (flat_map-append given xs ys))
    (shows-append s t (all_given xs) (all_given ys) (g parts.0) (h parts.1))

-- ---- documents

mutual
  inline-shows : (wrappers : List (Unit {0})) (x : Inline) → AreSome (read_inline texts wrappers x)
      → Shows (text_of_inline x) (all_given (read_inline texts wrappers x))
  inline-shows wrappers (text s) h = taken-shows s h
  inline-shows wrappers (code s) h = taken-shows s h
  inline-shows wrappers (formatted format content) h = line-shows (wrappers ++ tt ∷ []) content h
  inline-shows wrappers (link address title content) h = line-shows (wrappers ++ tt ∷ []) content h
  inline-shows wrappers (image address title description) h = taken-shows description h
  inline-shows wrappers (anchor id) h = shows-nil
  inline-shows wrappers line_break h = shows-nil
  inline-shows wrappers (task is_checked) h = shows-nil

  line-shows : (wrappers : List (Unit {0})) (xs : Inlines) → AreSome (read_line texts wrappers xs)
      → Shows (text_of_line xs) (all_given (read_line texts wrappers xs))
  line-shows wrappers no_inlines h = shows-nil
  line-shows wrappers (inline x xs) h =
      both-show (text_of_inline x) (text_of_line xs) (read_inline texts wrappers x) (read_line texts wrappers xs)
      (inline-shows wrappers x) (line-shows wrappers xs) h

cells-show : (cells : List Inlines) → AreSome (read_cells texts cells)
    → Shows (text_of_cells cells) (all_given (read_cells texts cells))
cells-show [] h = shows-nil
cells-show (cell ∷ cells) h =
    both-show (text_of_line cell) (text_of_cells cells) (read_line texts [] cell) (read_cells texts cells)
    (line-shows [] cell) (cells-show cells) h

rows-show : (rows : List (List Inlines)) → AreSome (flat_map (read_cells texts) rows)
    → Shows (text_of_rows rows) (all_given (flat_map (read_cells texts) rows))
rows-show [] h = shows-nil
rows-show (row ∷ rows) h =
    both-show (text_of_cells row) (text_of_rows rows) (read_cells texts row) (flat_map (read_cells texts) rows)
    (cells-show row) (rows-show rows) h

mutual
  block-shows : (b : Block) → AreSome (read_block texts b)
      → Shows (text_of_block b) (all_given (read_block texts b))
  block-shows (paragraph content) h = line-shows [] content h
  block-shows (heading level content) h = line-shows [] content h
  block-shows (code_block language s) h = taken-shows s h
  block-shows (quote content) h = blocks-show content h
  block-shows thematic_break h = shows-nil
  block-shows (element name attributes content) h = blocks-show content h
  block-shows (tags s) h = shows-nil
  block-shows (list start is_tight items) h = items-show items h
  block-shows (table alignments header rows) h =
      both-show (text_of_cells header) (text_of_rows rows) (read_cells texts header)
      (flat_map (read_cells texts) rows) (cells-show header) (rows-show rows) h

  blocks-show : (bs : Blocks) → AreSome (read_blocks texts bs)
      → Shows (text_of_blocks bs) (all_given (read_blocks texts bs))
  blocks-show no_blocks h = shows-nil
  blocks-show (block b bs) h =
      both-show (text_of_block b) (text_of_blocks bs) (read_block texts b) (read_blocks texts bs) (block-shows b)
      (blocks-show bs) h

  items-show : (items : Items) → AreSome (read_items texts items)
      → Shows (text_of_items items) (all_given (read_items texts items))
  items-show no_items h = shows-nil
  items-show (item bs items) h =
      both-show (text_of_blocks bs) (text_of_items items) (read_blocks texts bs) (read_items texts items)
      (blocks-show bs) (items-show items) h

-- a document of which these characters are taken says them
pub blocks-say : (bs : Blocks) (cs : List ℕ) → read_blocks texts bs ≡ map Some cs → Shows (text_of_blocks bs) cs
blocks-say bs cs e =
    seen-same (text_of_blocks bs) (all_given (read_blocks texts bs)) cs (ap all_given e ∙ some-given cs)
    (blocks-show bs (ap (list_all is_some) e ∙ some-all cs))

-- ---- the simpler tree

-- no change of a context makes a document rich
format-plain : (f : Format) (c : Context) → (inside_format f c).is_rich ≡ c.is_rich
format-plain f c = either (is_enough f c.around)
  where
    either : (b : Bool) → (cond b c (with_around c (part.formatted f))).is_rich ≡ c.is_rich
    either true = refl
    either false = refl

title-plain : (o : Option (List ℕ)) (c : Context) → (inside_title o c).is_rich ≡ c.is_rich
title-plain None c = refl
title-plain (Some title) c = format-plain (Abbreviation title) c

link-plain : (id : ℕ) (s : List ℕ) (title : Option (List ℕ)) (c : Context)
    → (inside_link id s title c).is_rich ≡ c.is_rich
link-plain id s title c = either (list_any is_link c.around)
  where
    either : (b : Bool) → (cond b c (with_around c (part.linked id s title))).is_rich ≡ c.is_rich
    either true = refl
    either false = refl

heading-plain : (facts : Facts) (c : Context) → (inside_heading facts c).is_rich ≡ c.is_rich
heading-plain facts c = either c.is_flat (facts.shows_sign && is_linked_to_part c)
  where
    either : (b d : Bool) → (cond b c (in_one_line (cond d (unlinked c) c))).is_rich ≡ c.is_rich
    either true d = refl
    either false true = refl
    either false false = refl

-- in a context all is one line as it is said of an element
module _ (id : ℕ) (facts : Facts) (attributes : List AttributePair) (content : Simples) (holds_grid : Bool)
    (inner : Context → Bool → List (Option ℕ))
    (e : (c : Context) (g : Bool) → c.is_rich ≡ false → inner c g ≡ taken (text_of_simples c.is_flat g content))
    (s : Shows (all_text_among content) (visible (text_of_simples true false content)))
    (u : IsUtf8 (text_of_simples true false content)) (c : Context) (p : c.is_rich ≡ false) where
  abbrev by : Role → Bool → List (Option ℕ)
  by r g = read_by texts r id facts attributes (all_text_among content) holds_grid inner c g

  abbrev said : Role → Bool → List ℕ
  said r g = cond (is_void r) [] (text_of_simples (flat_in r c.is_flat g) (grid_in r holds_grid g) content)

  -- in another context in which as much is one line
  as-flat : (d : Context) (flat : Bool) → d.is_flat ≡ flat → d.is_rich ≡ c.is_rich
      → inner d false ≡ taken (text_of_simples flat false content)
  as-flat d flat f q = e d false (q ∙ p) ∙ ap (λ b. taken (text_of_simples b false content)) f

  all-taken : taken (all_text_among content) ≡ taken (text_of_simples true false content)
  all-taken = taken-good (all_text_among content) s.utf8 ∙ (ap (map Some) s.is
      ∙ sym (taken-good (text_of_simples true false content) u))

  and-true : (b : Bool) → (b && true) ≡ b
  and-true true = refl
  and-true false = refl

  heading-flat : (b : Bool) → c.is_flat ≡ b
      → (cond b c (in_one_line (around_heading facts c))).is_flat ≡ true
  heading-flat true f = f
  heading-flat false f = refl

  by-taken : (r : Role) (g : Bool) → by r g ≡ taken (said r g)
  by-taken role.LineBreak g = sym (taken-good [] IsUtf8-nil ∙ ap (map Some) shows-nil.is)
  by-taken role.ThematicBreak g = sym (taken-good [] IsUtf8-nil ∙ ap (map Some) shows-nil.is)
  by-taken role.Preformatted g = all-taken
  by-taken role.Verbatim g = all-taken
  by-taken (role.Heading level) g =
      as-flat (inside_heading facts c) true (heading-flat c.is_flat refl) (heading-plain facts c)
  by-taken (role.Format f) g =
      as-flat (inside_format (of_format f) c) c.is_flat (format-change (of_format f) c).flat
      (format-plain (of_format f) c)
  by-taken (role.Element f) g =
      as-flat (inside_format (of_element f) c) c.is_flat (format-change (of_element f) c).flat
      (format-plain (of_element f) c)
  by-taken role.Abbreviation g =
      as-flat (inside_title (title_of attributes) c) c.is_flat (title-change (title_of attributes) c).flat
      (title-plain (title_of attributes) c)
  by-taken role.Link g =
      as-flat (linked_by id attributes c) c.is_flat
      (link-change id (address (text_of (codes "href") attributes)) (title_of attributes) c).flat
      (link-plain id (address (text_of (codes "href") attributes)) (title_of attributes) c)
  by-taken role.Table g =
      ap (inner c) (ap (λ b. holds_grid && not (b && not c.is_flat)) p ∙ and-true holds_grid)
      ∙ e c holds_grid p
  by-taken role.Cell true = e _ _ p
  by-taken role.Cell false = e _ _ p
  by-taken role.HeaderCell true = e _ _ p
  by-taken role.HeaderCell false = e _ _ p
  by-taken r g = e _ _ p

-- a formula
formula-taken : (tex : List ℕ) → IsUtf8 tex → (is_alone : Bool) (c : Context)
    → read_formula texts c is_alone tex ≡ taken (formula_said (is_alone && not c.is_flat) tex)
formula-taken tex u is_alone c = either (is_alone && not c.is_flat)
  where
    mark : List ℕ
    mark = dollar_sign ∷ []

    either : (b : Bool)
        → cond b (taken tex) ((taken mark ++ taken tex) ++ taken mark) ≡ taken (formula_said b tex)
    either true = refl
    either false =
        sym (taken-append (dollar_sign ∷ tex) mark (IsUtf8-append mark tex dollar-shows.utf8 u) dollar-shows.utf8
        ∙ ap (λ x. x ++ taken mark) (taken-append mark tex dollar-shows.utf8 u))

mutual
  pub tree-taken : (t : Simple) → IsSound t → (c : Context) (g : Bool) → c.is_rich ≡ false
      → read_tree texts t c g ≡ taken (text_of_simple c.is_flat g t)
  tree-taken (simple.text s) u c g p = refl
  tree-taken (simple.image None attributes) u c g p = refl
  tree-taken (simple.image (Some address) attributes) u c g p = refl
  tree-taken (simple.formula tex is_alone attributes) u c g p = formula-taken tex u is_alone c
  tree-taken (simple.embedded id address title attributes anchors) u c g p =
      ap (λ xs. xs ++ taken title) (no-marks texts (λ i. refl) anchors)
  tree-taken (simple.anchor id) u c g p = sym (taken-good [] IsUtf8-nil ∙ ap (map Some) shows-nil.is)
  tree-taken (simple.element id r facts attributes content) u c g p =
      let t : Simple = simple.element id r facts attributes content in
      ap (λ d. read_by texts r id facts attributes (all_text_among content) (is_grid_of content)
      (read_trees texts content) d g) (no-elements t c (ap (λ b. b && not c.is_flat) p))
      ∙ by-taken id facts attributes content (is_grid_of content) (read_trees texts content) (trees-taken content u.1)
      (all-texts-show content u.1 false) (simples-utf8 content u.1 true false) c p r g

  pub trees-taken : (ts : Simples) → AreSound ts → (c : Context) (g : Bool) → c.is_rich ≡ false
      → read_trees texts ts c g ≡ taken (text_of_simples c.is_flat g ts)
  trees-taken none u c g p = sym (taken-good [] IsUtf8-nil ∙ ap (map Some) shows-nil.is)
  trees-taken (more t ts) u c g p =
      ap (λ xs. xs ++ read_trees texts ts c g) (tree-taken t u.0 c g p)
      ∙ (ap (λ xs. taken (text_of_simple c.is_flat g t) ++ xs) (trees-taken ts u.1 c g p)
      ∙ sym (taken-append (text_of_simple c.is_flat g t) (text_of_simples c.is_flat g ts)
      (simple-utf8 t u.0 c.is_flat g) (simples-utf8 ts u.1 c.is_flat g)))

-- ---- rich documents

-- what is taken is what these nodes say, whichever tables are of rows and columns
abbrev pub Said : Bool → Bool → Simples → List (Option ℕ) → Type 0
Said f g ts xs = (cs : List ℕ) × (xs ≡ map Some cs) × SayAll f g ts cs

abbrev SaidOne : Bool → Bool → Simple → List (Option ℕ) → Type 0
SaidOne f g t xs = (cs : List ℕ) × (xs ≡ map Some cs) × Says f g t cs

module _ (id : ℕ) (facts : Facts) (attributes : List AttributePair) (content : Simples) (u : AreSound content)
    (holds_grid : Bool) (inner : Context → Bool → List (Option ℕ))
    (e : (c : Context) (g : Bool) → Said c.is_flat g content (inner c g)) (c : Context) where
  abbrev said-by : Role → Bool → List (Option ℕ)
  said-by r g = read_by texts r id facts attributes (all_text_among content) holds_grid inner c g

  abbrev SaidBy : Role → Bool → Type 0
  SaidBy r g =
      (cs : List ℕ) × (said-by r g ≡ map Some cs) × (holds : Bool)
      × SaysUnless (is_void r) cs (SayAll (flat_in r c.is_flat g) (grid_in r holds g) content cs)

  given-said : (holds f g : Bool) (xs : List (Option ℕ)) → Said f g content xs
      → (cs : List ℕ) × (xs ≡ map Some cs) × (h : Bool) × SayAll f g content cs
  given-said holds f g xs x = (x.0, x.1, holds, x.2)

  as-said : (d : Context) (flat : Bool) → d.is_flat ≡ flat
      → (cs : List ℕ) × (inner d false ≡ map Some cs) × (h : Bool) × SayAll flat false content cs
  as-said d flat f =
      given-said false flat false (inner d false)
      (subst (λ (b : Bool). Said b false content (inner d false)) f (e d false))

  code-said : (cs : List ℕ) × (taken (all_text_among content) ≡ map Some cs) × (h : Bool)
      × SayAll true false content cs
  code-said =
      let s = all-texts-show content u false in (
        visible (text_of_simples true false content),
        taken-good (all_text_among content) s.utf8 ∙ ap (map Some) s.is,
        false,
        say-actual content u true false,
      )

  line-flat : (b : Bool) → c.is_flat ≡ b → (cond b c (in_one_line (around_heading facts c))).is_flat ≡ true
  line-flat true f = f
  line-flat false f = refl

  by-said : (r : Role) (g : Bool) → SaidBy r g
  by-said role.LineBreak g = ([], refl, false, refl)
  by-said role.ThematicBreak g = ([], refl, false, refl)
  by-said role.Preformatted g = code-said
  by-said role.Verbatim g = code-said
  by-said (role.Heading level) g = as-said (inside_heading facts c) true (line-flat c.is_flat refl)
  by-said (role.Format f) g =
      as-said (inside_format (of_format f) c) c.is_flat (format-change (of_format f) c).flat
  by-said (role.Element f) g =
      as-said (inside_format (of_element f) c) c.is_flat (format-change (of_element f) c).flat
  by-said role.Abbreviation g =
      as-said (inside_title (title_of attributes) c) c.is_flat (title-change (title_of attributes) c).flat
  by-said role.Link g =
      as-said (linked_by id attributes c) c.is_flat
      (link-change id (address (text_of (codes "href") attributes)) (title_of attributes) c).flat
  by-said role.Table g =
      let holds : Bool = holds_grid && not (has_elements c) in
      let x : Said c.is_flat holds content (inner c holds) = e c holds in
      (x.0, x.1, holds, x.2)
  by-said role.Cell true = given-said false _ _ _ (e _ _)
  by-said role.Cell false = given-said false _ _ _ (e _ _)
  by-said role.HeaderCell true = given-said false _ _ _ (e _ _)
  by-said role.HeaderCell false = given-said false _ _ _ (e _ _)
  by-said r g = given-said false _ _ _ (e _ _)

mutual
  tree-said : (t : Simple) → IsSound t → (c : Context) (g : Bool) → SaidOne c.is_flat g t (read_tree texts t c g)
  tree-said (simple.text s) u c g = (visible s, taken-good s u, refl)
  tree-said (simple.image None attributes) u c g =
      (visible (text_of (codes "alt") attributes), taken-good (text_of (codes "alt") attributes) u, refl)
  tree-said (simple.image (Some address) attributes) u c g =
      (visible (text_of (codes "alt") attributes), taken-good (text_of (codes "alt") attributes) u, refl)
  tree-said (simple.formula tex is_alone attributes) u c g =
      let s : List ℕ = formula_said (is_alone && not c.is_flat) tex in (
        visible s,
        formula-taken tex u is_alone c
            ∙ taken-good s (simple-utf8 (simple.formula tex is_alone attributes) u c.is_flat g),
        refl,
      )
  tree-said (simple.embedded id address title attributes anchors) u c g =
      (visible title, ap (λ xs. xs ++ taken title) (no-marks texts (λ i. refl) anchors) ∙ taken-good title u, refl)
  tree-said (simple.anchor id) u c g = ([], refl, refl)
  tree-said (simple.element id r facts attributes content) u c g =
      let t : Simple = simple.element id r facts attributes content in
      let d : Context = around_node t c in
      let x = by-said id facts attributes content u.1 (is_grid_of content) (read_trees texts content)
      (λ d k. trees-said content u.1 d k) d r g in (
        x.0,
        x.1,
        (
          x.2,
          subst (λ (b : Bool). SaysUnless (is_void r) x.0 (SayAll (flat_in r b g) (grid_in r x.2 g) content x.0))
              (around-flat t c) x.3,
        ),
      )

  pub trees-said : (ts : Simples) → AreSound ts → (c : Context) (g : Bool)
      → Said c.is_flat g ts (read_trees texts ts c g)
  trees-said none u c g = ([], refl, refl)
  trees-said (more t ts) u c g =
      let x = tree-said t u.0 c g in
      let y = trees-said ts u.1 c g in (
        x.0 ++ y.0,
        ap (λ xs. xs ++ read_trees texts ts c g) x.1
            ∙ (ap (λ xs. map Some x.0 ++ xs) y.1 ∙ sym (map-append Some x.0 y.0)),
        (x.0, y.0, refl, x.2, y.2),
      )
