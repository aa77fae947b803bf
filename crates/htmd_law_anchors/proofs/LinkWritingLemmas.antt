-- The links of what is written are those around what shows: lines and paragraphs.
use Rattle.std.proofs.Common.{◌≡◌, ℕ, zero, suc, Bool, true, false, cond, not, ◌&&◌, List, [], ◌∷◌, ◌++◌, refl, sym, ap, ◌∙◌}
use Rattle.std.proofs.Common.{subst, fold, take, map}
use Rattle.std.specs.Prelude.{nat_le}
use Rattle.std.specs.List.{list_all}
use Rattle.std.specs.Str.{chars}
use Rattle.std.specs.Char.{encode_utf8}
use Rattle.htmd_lexical.specs.Characters.{space}
use Rattle.htmd_lexical.proofs.Cases.{test}
use Rattle.htmd_document.specs.Documents.{Inline, text, code, link, image, anchor, line_break, Inlines, no_inlines}
use Rattle.htmd_document.specs.Documents.{inline, Block, blocks_of}
use Rattle.htmd_document.specs.Documents as value
use Rattle.htmd_flow.specs.Contexts.{apart}
use Rattle.htmd_flow.specs.Flows as flow
use Rattle.htmd_flow.specs.Nesting.{wrapper_of, wrapped, text_or_code, met, joined, with_content, in_last, behind}
use Rattle.htmd_flow.specs.Paragraphs.{Writing, begun, is_leaf, shown_content, whole_content, anchored, paragraph_of}
use Rattle.htmd_flow.specs.Paragraphs.{open_paragraph, ended, parted, broken_off, spaced_out, white_behind}
use Rattle.htmd_flow.specs.Paragraphs.{gap_behind, shared_wrappers, put_before, shown}
use Rattle.htmd_flow.specs.Paragraphs.{after_leaf, is_task_here, boxed, with_task, tasked, is_boxed_item}
use Rattle.htmd_flow.specs.Paragraphs.{edged, blocked, after_character, fed, fed_all, blocks_in, line_in}
use Rattle.htmd_flow.specs.declared.paragraphs.Latest.{Latest}
use Rattle.htmd_flow.specs.declared.paragraphs.Latest.TheVariants.{Nothing, Task, Plain, Code}
use Rattle.htmd_flow.specs.Parts.{Around, formatted, linked, Part, run, picture, break, place, box, edge, whole}
use Rattle.htmd_shown.specs.Spaces.{is_white, is_blank_text}
use Rattle.htmd_law_anchors.specs.DocumentLinks.{LinksOf, LinksInLine, LinksInBlock, LinksInBlocks}

module _ (Is : List ℕ → Type 0) where
  -- ---- what stands around

  abbrev pub Good : Around → Type 0
  Good (formatted format) = Unit {0}
  Good (linked node address title) = Is address

  abbrev pub AllGood : List Around → Type 0
  AllGood [] = Unit {0}
  AllGood (a ∷ around) = Good a × AllGood around

  take-good : (n : ℕ) (around : List Around) → AllGood around → AllGood (take n around)
  take-good zero around h = tt
  take-good (suc n) [] h = tt
  take-good (suc n) (a ∷ around) h = (h.0, take-good n around h.1)

  wrapped-good : (around : List Around) (x : Inline) → AllGood around → LinksOf Is x
      → LinksOf Is (wrapped around x)
  wrapped-good [] x h g = g
  wrapped-good (formatted format ∷ around) x h g = (wrapped-good around x h.1 g, tt)
  wrapped-good (linked node address title ∷ around) x h g = (h.0, (wrapped-good around x h.1 g, tt))

  -- ---- inlines

  met-good : (x y : Inline) → LinksOf Is x → LinksOf Is y → LinksInLine Is (met x y)
  met-good (text s) (text t) g h = (tt, tt)
  met-good (code s) (code t) g h = (tt, tt)
  met-good x y g h = (g, (h, tt))

  joined-good : (xs : Inlines) (y : Inline) → LinksInLine Is xs → LinksOf Is y → LinksInLine Is (joined xs y)
  joined-good no_inlines y g h = (h, tt)
  joined-good (inline x no_inlines) y g h = met-good x y g.0 h
  joined-good (inline x (inline x' xs)) y g h = (g.0, joined-good (inline x' xs) y g.1 h)

  content-good : (change : Inlines → Inlines)
      → ((xs : Inlines) → LinksInLine Is xs → LinksInLine Is (change xs))
      → (x : Inline) → LinksOf Is x → LinksOf Is (with_content change x)
  content-good change f (value.formatted format content) g = f content g
  content-good change f (link address title content) g = (g.0, f content g.1)
  content-good change f x g = g

  last-good : (change : Inlines → Inlines) → ((xs : Inlines) → LinksInLine Is xs → LinksInLine Is (change xs))
      → (xs : Inlines) → LinksInLine Is xs → LinksInLine Is (in_last change xs)
  last-good change f no_inlines g = tt
  last-good change f (inline x no_inlines) g = (content-good change f x g.0, tt)
  last-good change f (inline x (inline x' xs)) g = (g.0, last-good change f (inline x' xs) g.1)

  behind-good : (n : ℕ) (xs : Inlines) (around : List Around) (y : Inline) → AllGood around → LinksInLine Is xs
      → LinksOf Is y → LinksInLine Is (behind n xs around y)
  behind-good zero xs around y h g l = joined-good xs (wrapped around y) g (wrapped-good around y h l)
  behind-good (suc n) xs [] y h g l = joined-good xs y g l
  behind-good (suc n) xs (a ∷ around) y h g l =
      last-good (λ content. behind n content around y) (λ ys k. behind-good n ys around y h.1 k l) xs g

  anchored-good : (ids : List (List ℕ)) (n : ℕ) (xs : Inlines) (around : List Around) → AllGood around
      → LinksInLine Is xs → LinksInLine Is (anchored n xs around ids)
  anchored-good [] n xs around h g = g
  anchored-good (id ∷ ids) n xs around h g =
      anchored-good ids n (behind n xs (take n around) (anchor id)) around h
      (behind-good n xs (take n around) (anchor id) (take-good n around h) g tt)

  either-line : (b : Bool) (xs ys : Inlines) → LinksInLine Is xs → LinksInLine Is ys
      → LinksInLine Is (cond b xs ys)
  either-line true xs ys g h = g
  either-line false xs ys g h = h

  one-good : (b : Bool) (s : List ℕ) → LinksOf Is (text_or_code b s)
  one-good true s = tt
  one-good false s = tt

  -- ---- blocks

  abbrev pub AllBlocks : List Block → Type 0
  AllBlocks [] = Unit {0}
  AllBlocks (b ∷ bs) = LinksInBlock Is b × AllBlocks bs

  blocks-append : (bs cs : List Block) → AllBlocks bs → AllBlocks cs → AllBlocks (bs ++ cs)
  blocks-append [] cs g h = h
  blocks-append (b ∷ bs) cs g h = (g.0, blocks-append bs cs g.1 h)

  pub blocks-links : (bs : List Block) → AllBlocks bs → LinksInBlocks Is (blocks_of bs)
  blocks-links [] h = tt
  blocks-links (b ∷ bs) h = (h.0, blocks-links bs h.1)

  paragraph-good : (xs : Inlines) → LinksInLine Is xs → AllBlocks (paragraph_of xs)
  paragraph-good no_inlines h = tt
  paragraph-good (inline x xs) h = (h, tt)

  -- ---- what is begun

  pub record Well (w : Writing) : Type 0 where
    pub done : AllBlocks w.done
    pub content : LinksInLine Is w.content

  shown-good : (w : Writing) → Well w → LinksInLine Is (shown_content w)
  shown-good w h = either-line (is_leaf w.latest) w.content no_inlines h.content tt

  pub line-links : (w : Writing) → Well w → LinksInLine Is (line_in w)
  line-links w h = anchored-good w.anchors 0 (shown_content w) [] tt (shown-good w h)

  ended-done : (w : Writing) → Well w → AllBlocks (w.done ++ open_paragraph w)
  ended-done w h =
      blocks-append w.done (open_paragraph w) h.done (paragraph-good (whole_content w) (line-links w h))

  ended-well : (w : Writing) → Well w → Well (ended w)
  ended-well w h = record { done = ended-done w h; content = tt }

  pub blocks-in-links : (w : Writing) → Well w → LinksInBlocks Is (blocks_in w)
  blocks-in-links w h = blocks-links (w.done ++ open_paragraph w) (ended-done w h)

  either-well : (b : Bool) (v w : Writing) → Well v → Well w → Well (cond b v w)
  either-well true v w g h = g
  either-well false v w g h = h

  parted-well : (w : Writing) → Well w → Well (parted w)
  parted-well w h = either-well (not w.is_flat && nat_le 2 w.breaks) (ended w) w (ended-well w h) h

  -- ---- what shows

  white-good : (s : List ℕ) (n : ℕ) (xs : Inlines) (around : List Around) (b : Bool) → AllGood around
      → LinksInLine Is xs → LinksInLine Is (white_behind n xs around b s)
  white-good [] n xs around b h g = g
  white-good (c ∷ s) n xs around b h g =
      behind-good n xs (take n around) (text_or_code b (c ∷ s)) (take-good n around h) g (one-good b (c ∷ s))

  gap-good : (w : Writing) (n : ℕ) (around : List Around) (b : Bool) → AllGood around → LinksInLine Is w.content
      → LinksInLine Is (cond w.gap.has_break (behind n w.content (take n around) line_break)
      (white_behind n w.content around b w.gap.white))
  gap-good w n around b h g =
      either-line w.gap.has_break (behind n w.content (take n around) line_break)
      (white_behind n w.content around b w.gap.white)
      (behind-good n w.content (take n around) line_break (take-good n around h) g tt)
      (white-good w.gap.white n w.content around b h g)

  behind-gap : (l : Latest) (w : Writing) (around : List Around) (k : Bool) → AllGood around
      → LinksInLine Is w.content → LinksInLine Is (gap_behind l w around k)
  behind-gap Nothing w around k h g = g
  behind-gap Task w around k h g = behind-good 0 w.content [] (text (space ∷ [])) tt g tt
  behind-gap Plain w around k h g = gap-good w _ around _ h g
  behind-gap Code w around k h g = gap-good w _ around _ h g

  shown-well : (w : Writing) (around : List Around) (k : Bool) (x : Inline) → AllGood around → LinksOf Is x
      → Well w
      → Well (shown w around k x)
  shown-well w around k x a l h = record {
    done = h.done;
    content = behind-good (shared_wrappers w (map wrapper_of around)) (put_before w around k) around x a
        (anchored-good w.anchors (shared_wrappers w (map wrapper_of around)) (gap_behind w.latest w around k) around a
        (behind-gap w.latest w around k a h.content)) l;
  }

  leaf-well : (w : Writing) (around : List Around) (k : Bool) (x : Inline) → AllGood around → LinksOf Is x
      → Well w
      → Well (after_leaf w around k x)
  leaf-well w around k x a l h = shown-well (parted w) around k x a l (parted-well w h)

  tasked-well : (w : Writing) (b : Bool) → Well w → Well (tasked w b)
  tasked-well w b h =
      either-well (is_task_here w) (with_task (boxed w) b) (boxed w) (record { done = h.done; content = (tt, tt) })
      (record { done = h.done; content = h.content })

  edged-well : (w : Writing) → Well w → Well (edged w)
  edged-well w h =
      either-well w.is_flat (broken_off w) _ (record { done = h.done; content = h.content })
      (either-well (is_boxed_item w) w _ h (record { done = ended-done w h; content = tt }))

  blocked-well : (w : Writing) (b : Block) → LinksInBlock Is b → Well w → Well (blocked w b)
  blocked-well w b l h =
      either-well w.is_flat (broken_off w) _ (record { done = h.done; content = h.content })
      (record { done = blocks-append (w.done ++ open_paragraph w) (b ∷ []) (ended-done w h) (l, tt); content = tt })

  -- ---- parts

  -- what stands around what shows is good
  abbrev pub GoodPart : Part → Type 0
  GoodPart (run s around is_code) = is_blank_text s ≡ false → AllGood around
  GoodPart (picture address title description around) = AllGood around
  GoodPart break = Unit {0}
  GoodPart (place id) = Unit {0}
  GoodPart (box is_checked) = Unit {0}
  GoodPart edge = Unit {0}
  GoodPart (whole b) = LinksInBlock Is b

  abbrev pub GoodParts : List Part → Type 0
  GoodParts [] = Unit {0}
  GoodParts (p ∷ ps) = GoodPart p × GoodParts ps

  run-well : (cs : List ℕ) (w : Writing) (around : List Around) (k : Bool)
      → (list_all is_white cs ≡ false → AllGood around)
      → Well w → Well (fold (λ v c. after_character v around k c) w cs)
  run-well [] w around k a h = h
  run-well (c ∷ cs) w around k a h = test (is_white c)
      (λ e. run-well cs (after_character w around k c) around k
      (λ f. a (ap (λ b. b && list_all is_white cs) e ∙ f))
      (subst (λ (b : Bool). Well (cond b (spaced_out w c k) (after_leaf w around k (text_or_code k (encode_utf8 c)))))
      (sym e) (record { done = h.done; content = h.content })))
      (λ e.
      let g : AllGood around = a (ap (λ b. b && list_all is_white cs) e) in
      run-well cs (after_character w around k c) around k (λ f. g)
      (subst (λ (b : Bool). Well (cond b (spaced_out w c k) (after_leaf w around k (text_or_code k (encode_utf8 c)))))
      (sym e) (leaf-well w around k (text_or_code k (encode_utf8 c)) g (one-good k (encode_utf8 c)) h)))

  fed-well : (p : Part) (w : Writing) → GoodPart p → Well w → Well (fed w p)
  fed-well (run s around k) w g h = run-well (chars s) w around k g h
  fed-well (picture address title description around) w g h =
      leaf-well w around false (image address title description) g tt h
  fed-well break w g h = record { done = h.done; content = h.content }
  fed-well (place id) w g h =
      let p : Well (parted w) = parted-well w h in record { done = p.done; content = p.content }
  fed-well (box b) w g h = tasked-well (parted w) b (parted-well w h)
  fed-well edge w g h = edged-well w h
  fed-well (whole b) w g h = blocked-well w b g h

  pub all-well : (ps : List Part) (w : Writing) → GoodParts ps → Well w → Well (fed_all w ps)
  all-well [] w g h = h
  all-well (p ∷ ps) w g h = all-well ps (fed w p) g.1 (fed-well p w g.0 h)

  pub begun-well : (in_item flat : Bool) → Well (begun in_item flat)
  begun-well in_item flat = record { done = tt; content = tt }

  -- ---- parts together

  pub parts-append : (ps qs : List Part) → GoodParts ps → GoodParts qs → GoodParts (ps ++ qs)
  parts-append [] qs g h = h
  parts-append (p ∷ ps) qs g h = (g.0, parts-append ps qs g.1 h)

  pub parts-apart : (ps : List Part) → GoodParts ps → GoodParts (apart ps)
  parts-apart ps h = (tt, parts-append ps (edge ∷ []) h (tt, tt))

  pub parts-either : (b : Bool) (ps qs : List Part) → (b ≡ true → GoodParts ps) → (b ≡ false → GoodParts qs)
      → GoodParts (cond b ps qs)
  parts-either true ps qs g h = g refl
  parts-either false ps qs g h = h refl

  pub blocks-good : (in_item : Bool) (ps : List Part) → GoodParts ps → LinksInBlocks Is (flow.blocks_of in_item ps)
  blocks-good in_item ps h =
      blocks-in-links (fed_all (begun in_item false) ps)
      (all-well ps (begun in_item false) h (begun-well in_item false))

  pub line-good : (ps : List Part) → GoodParts ps → LinksInLine Is (flow.line_of ps)
  line-good ps h =
      line-links (fed_all (begun false true) ps) (all-well ps (begun false true) h (begun-well false true))
