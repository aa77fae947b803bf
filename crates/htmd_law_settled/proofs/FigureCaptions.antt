-- The figures of a page's document have captions: what shows of a caption is written into its figure.
use Rattle.std.proofs.Common.{◌≡◌, ℕ, Bool, true, false, not, ◌&&◌, ◌||◌, List, [], ◌∷◌, ◌++◌, map, fold, None}
use Rattle.std.proofs.Common.{refl, sym, ap, ◌∙◌}
use Rattle.std.specs.Prelude.{if◌then◌else◌, nat_le}
use Rattle.std.specs.List.{list_any}
use Rattle.std.specs.Str.{chars}
use Rattle.std.proofs.lemmas.Bool.{and_parts, not-true, false≢true}
use Rattle.htmd_lexical.proofs.Cases.{test}
use Rattle.htmd_document.specs.declared.document.BlockElement.TheVariants as name
use Rattle.htmd_document.specs.Documents.{Inline, image, Block, Blocks, no_blocks, block}
use Rattle.htmd_document.specs.Documents as document
use Rattle.htmd_document.specs.TightItems.{is_filled}
use Rattle.htmd_shown.specs.Kinds.{has, content_of}
use Rattle.htmd_shown.specs.Showings.{show}
use Rattle.htmd_shown.specs.Spaces.{is_white}
use Rattle.htmd_flow.specs.Contexts.{Context, has_elements}
use Rattle.htmd_flow.specs.Flows.{Node, blocks_of, flow_all, flow_after, list_parts, is_item, goes_on, items_in_a_row}
use Rattle.htmd_flow.specs.Flows.{element_part, around_node, blocks_within, is_title_of, title_element, as_title}
use Rattle.htmd_flow.specs.Flows.{titled, shows_title}
use Rattle.htmd_flow.specs.Paragraphs.{Writing, begun, open_paragraph, ended, parted, broken_off, spaced_out}
use Rattle.htmd_flow.specs.Paragraphs.{after_leaf}
use Rattle.htmd_flow.specs.Paragraphs.{is_task_here, with_task, boxed, tasked, is_boxed_item}
use Rattle.htmd_flow.specs.Paragraphs.{after_character, fed, fed_all}
use Rattle.htmd_flow.specs.declared.paragraphs.Met.TheVariants as met
use Rattle.htmd_flow.specs.Nesting.{text_or_code}
use Rattle.htmd_flow.specs.Parts.{Around, Part, run, picture, break, place, box, edge, whole}
use Rattle.std.specs.Prelude.{encode_utf8}
use Rattle.htmd_law_documents.proofs.NormalSeenLemmas.{Sits, sits-around, any-append, or-true}
use Rattle.htmd_law_returning.specs.SettledDocuments.{is_of_figure, has_caption}
use Rattle.htmd_law_settled.specs.Leaves.{Leaves}
use Rattle.htmd_law_settled.proofs.LeafNodes.{HasNode, AllNodes}
use Rattle.htmd_law_settled.proofs.LeafTitles.{caption-alone}
use Rattle.htmd_law_settled.proofs.ShownHeaders.{of-figure}

-- ---- what is written stays

abbrev holds : List Block → Bool
holds bs = list_any is_of_figure bs

record Goes (v w : Writing) : Type 0 where
  flat : w.is_flat ≡ v.is_flat
  held : holds v.done ≡ true → holds w.done ≡ true

same-goes : (w : Writing) → Goes w w
same-goes w = record { flat = refl; held = λ h. h }

then-goes : (u v w : Writing) → Goes u v → Goes v w → Goes u w
then-goes u v w a b = record { flat = b.flat ∙ a.flat; held = λ h. b.held (a.held h) }

either-goes : (v x y : Writing) (b : Bool) → Goes v x → Goes v y → Goes v (if b then x else y)
either-goes v x y true g h = g
either-goes v x y false g h = h

before-holds : (bs cs : List Block) → holds bs ≡ true → holds (bs ++ cs) ≡ true
before-holds bs cs h = any-append is_of_figure bs cs ∙ ap (λ b. b || holds cs) h

ended-goes : (w : Writing) → Goes w (ended w)
ended-goes w = record { flat = refl; held = before-holds w.done (open_paragraph w) }

parted-goes : (w : Writing) → Goes w (parted w)
parted-goes w = either-goes w (ended w) w (not w.is_flat && nat_le 2 w.breaks) (ended-goes w) (same-goes w)

broken-goes : (w : Writing) → Goes w (broken_off w)
broken-goes w = record { flat = refl; held = λ h. h }

leaf-goes : (w : Writing) (around : List Around) (is_code : Bool) (y : Inline)
    → Goes w (after_leaf w around is_code y)
leaf-goes w around is_code y = let p = parted-goes w in record { flat = p.flat; held = p.held }

character-goes : (w : Writing) (around : List Around) (is_code : Bool) (c : ℕ)
    → Goes w (after_character w around is_code c)
character-goes w around is_code c =
    let y : Inline = text_or_code is_code (encode_utf8 c) in
    either-goes w (spaced_out w c is_code) (after_leaf w around is_code y) (is_white c)
    (record { flat = refl; held = λ h. h }) (leaf-goes w around is_code y)

run-goes : (cs : List ℕ) (w : Writing) (around : List Around) (is_code : Bool)
    → Goes w (fold (λ v c. after_character v around is_code c) w cs)
run-goes [] w around is_code = same-goes w
run-goes (c ∷ cs) w around is_code =
    let v : Writing = after_character w around is_code c in
    then-goes w v (fold (λ v c. after_character v around is_code c) v cs) (character-goes w around is_code c)
    (run-goes cs v around is_code)

task-goes : (w : Writing) (is_checked : Bool) → Goes w (tasked w is_checked)
task-goes w is_checked =
    either-goes w (with_task (boxed w) is_checked) (boxed w) (is_task_here w)
    (record { flat = refl; held = λ h. h }) (record { flat = refl; held = λ h. h })

abbrev behind : Writing → Block → Writing
behind w b = record (ended w) { done = (ended w).done ++ b ∷ []; met = met.Nothing }

fed-goes : (w : Writing) (p : Part) → Goes w (fed w p)
fed-goes w (run s around is_code) = run-goes (chars s) w around is_code
fed-goes w (picture address title description around) = leaf-goes w around false (image address title description)
fed-goes w break = broken-goes w
fed-goes w (place id) = let p = parted-goes w in record { flat = p.flat; held = p.held }
fed-goes w (box is_checked) =
    then-goes w (parted w) (tasked (parted w) is_checked) (parted-goes w) (task-goes (parted w) is_checked)
fed-goes w edge =
    let e = ended-goes w in
    let v : Writing = record (ended w) { met = met.Nothing } in
    either-goes w (broken_off w) (if is_boxed_item w then w else v) w.is_flat (broken-goes w)
    (either-goes w w v (is_boxed_item w) (same-goes w) (record { flat = e.flat; held = e.held }))
fed-goes w (whole b) =
    let e = ended-goes w in
    either-goes w (broken_off w) (behind w b) w.is_flat (broken-goes w)
    (record { flat = e.flat; held = λ h. before-holds (ended w).done (b ∷ []) (e.held h) })

all-go : (ps : List Part) (w : Writing) → Goes w (fed_all w ps)
all-go [] w = same-goes w
all-go (p ∷ ps) w = then-goes w (fed w p) (fed_all (fed w p) ps) (fed-goes w p) (all-go ps (fed w p))

-- ---- a caption among parts

abbrev pub is_captioning : Part → Bool
is_captioning (whole b) = is_of_figure b
is_captioning p = false

here-holds : (p : Part) (w : Writing) → w.is_flat ≡ false → is_captioning p ≡ true
    → holds (fed w p).done ≡ true
here-holds (whole b) w f e =
    ap (λ (x : Bool). holds (if x then broken_off w else behind w b).done) f
    ∙ (any-append is_of_figure (ended w).done (b ∷ [])
    ∙ (ap (λ x. holds (ended w).done || (x || false)) e ∙ or-true (holds (ended w).done)))
here-holds p w f e = absurd (false≢true e)

all-hold : (ps : List Part) (w : Writing) → w.is_flat ≡ false → list_any is_captioning ps ≡ true
    → holds (fed_all w ps).done ≡ true
all-hold [] w f h = absurd (false≢true h)
all-hold (p ∷ ps) w f h =
    test (is_captioning p) (λ e. (all-go ps (fed w p)).held (here-holds p w f e))
    (λ e. all-hold ps (fed w p) ((fed-goes w p).flat ∙ f)
    (sym (ap (λ b. b || list_any is_captioning ps) e) ∙ h))

caption-there : (bs : List Block) → has_caption (document.blocks_of bs) ≡ holds bs
caption-there [] = refl
caption-there (b ∷ bs) = ap (λ x. is_of_figure b || x) (caption-there bs)

captioned-blocks : (ps : List Part) → list_any is_captioning ps ≡ true → has_caption (blocks_of false ps) ≡ true
captioned-blocks ps h =
    let w : Writing = fed_all (begun false false) ps in
    caption-there (ended w).done ∙ (ended-goes w).held (all-hold ps (begun false false) refl h)

-- ---- among nodes

before-captions : (ps qs : List Part) → list_any is_captioning ps ≡ true
    → list_any is_captioning (ps ++ qs) ≡ true
before-captions ps qs h = any-append is_captioning ps qs ∙ ap (λ b. b || list_any is_captioning qs) h

behind-captions : (ps qs : List Part) → list_any is_captioning qs ≡ true
    → list_any is_captioning (ps ++ qs) ≡ true
behind-captions ps qs h =
    any-append is_captioning ps qs
    ∙ (ap (λ b. list_any is_captioning ps || b) h ∙ or-true (list_any is_captioning ps))

either-captions : (b : Bool) (ps qs : List Part) → list_any is_captioning ps ≡ true
    → list_any is_captioning qs ≡ true
    → list_any is_captioning (if b then ps else qs) ≡ true
either-captions true ps qs g h = g
either-captions false ps qs g h = h

part-captions : (bs : Blocks) → is_filled bs ≡ true
    → list_any is_captioning (edge ∷ element_part name.FigureCaption [] bs ++ edge ∷ []) ≡ true
part-captions no_blocks e = absurd (false≢true e)
part-captions (block b bs) e = refl

abbrev some_show : List Node → Bool
some_show nodes = list_any (λ (n : Node). shows_title name.FigureCaption n.tree) nodes

abbrev named : List Node → List Node
named nodes = map (as_title name.FigureCaption) nodes

module _ (k : Leaves) where
  title-captions : (n : Node) → HasNode k n → has (is_title_of name.FigureCaption) n.tree ≡ true
      → show false (content_of n.tree) ≡ true → (c : Context) → has_elements c ≡ true
      → list_any is_captioning (title_element name.FigureCaption n c) ≡ true
  title-captions n h t s c e =
      let both = and_parts c.is_rich (not c.is_flat) e in
      let sits : Sits false (around_node n.tree c) =
      sits-around n.tree c (record { rich = both.0; line = not-true c.is_flat both.1 }) in
      part-captions (blocks_within n c) (h.filled (of-figure n.tree t) (around_node n.tree c) sits.rich sits.line ∙ s)

  -- it shows, or one behind it
  titled-captions : (n : Node) (nodes : List Node) → HasNode k n
      → has (is_title_of name.FigureCaption) n.tree ≡ true
      → some_show (n ∷ nodes) ≡ true → (c : Context) → has_elements c ≡ true → (rest : List Part)
      → (some_show nodes ≡ true → list_any is_captioning rest ≡ true)
      → list_any is_captioning (title_element name.FigureCaption n c ++ rest) ≡ true
  titled-captions n nodes h t s c e rest behind =
      let made : List Part = title_element name.FigureCaption n c in
      test (show false (content_of n.tree)) (λ f. before-captions made rest (title-captions n h t f c e))
      (λ f. behind-captions made rest (behind
      (sym (ap (λ b. (b && show false (content_of n.tree)) || some_show nodes) t
      ∙ ap (λ b. b || some_show nodes) f) ∙ s)))

  mutual
    flow-captions : (nodes : List Node) → AllNodes k nodes → some_show nodes ≡ true → (c : Context)
        → has_elements c ≡ true → list_any is_captioning (flow_all (named nodes) c) ≡ true
    flow-captions [] h s c e = absurd (false≢true s)
    flow-captions (n ∷ nodes) h s c e =
        let rest : List Part = flow_all (named nodes) c in
        test (has (is_title_of name.FigureCaption) n.tree)
        (λ t. let p = caption-alone n.tree t in
        rw (t, p.0) (titled-captions n nodes h.0 t s c e rest (λ f. flow-captions nodes h.1 f c e)))
        (λ t. let later = sym (ap (λ b. (b && show false (content_of n.tree)) || some_show nodes) t) ∙ s in
        let items : List Node = n ∷ items_in_a_row (named nodes) in
        rw t (either-captions (is_item n) (list_parts None items c ++ flow_after (named nodes) c) (n.whole c ++ rest)
        (behind-captions (list_parts None items c) (flow_after (named nodes) c) (after-captions nodes h.1 later c e))
        (behind-captions (n.whole c) rest (flow-captions nodes h.1 later c e))))

    after-captions : (nodes : List Node) → AllNodes k nodes → some_show nodes ≡ true → (c : Context)
        → has_elements c ≡ true → list_any is_captioning (flow_after (named nodes) c) ≡ true
    after-captions [] h s c e = absurd (false≢true s)
    after-captions (n ∷ nodes) h s c e =
        let rest : List Part = flow_all (named nodes) c in
        test (has (is_title_of name.FigureCaption) n.tree)
        (λ t. let p = caption-alone n.tree t in
        rw (t, p.0, p.1) (titled-captions n nodes h.0 t s c e rest (λ f. flow-captions nodes h.1 f c e)))
        (λ t. let later = sym (ap (λ b. (b && show false (content_of n.tree)) || some_show nodes) t) ∙ s in
        rw t (either-captions (goes_on n) (flow_after (named nodes) c) (n.whole c ++ rest)
        (after-captions nodes h.1 later c e)
        (behind-captions (n.whole c) rest (flow-captions nodes h.1 later c e))))

  pub figure-captioned : (nodes : List Node) → AllNodes k nodes → some_show nodes ≡ true → (c : Context)
      → has_elements c ≡ true → has_caption (blocks_of false (titled name.FigureCaption nodes c)) ≡ true
  figure-captioned nodes h s c e =
      captioned-blocks (titled name.FigureCaption nodes c) (flow-captions nodes h s c e)
