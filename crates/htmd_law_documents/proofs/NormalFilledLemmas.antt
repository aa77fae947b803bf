-- What shows among parts gives blocks.
use Rattle.std.proofs.Common.{◌≡◌, ℕ, zero, suc, Bool, true, false, cond, not, ◌&&◌, ◌||◌, List, [], ◌∷◌, ◌++◌, refl}
use Rattle.std.proofs.Common.{sym, ap, ◌∙◌, subst, fold, map, take, length, ◌⊎◌, inl, inr}
use Rattle.std.specs.Prelude.{nat_le, ◌==◌, encode_utf8}
use Rattle.std.specs.List.{list_any, list_all}
use Rattle.std.specs.Str.{chars}
use Rattle.htmd_lexical.specs.WhiteSpace.{is_ascii_white_space}
use Rattle.htmd_lexical.proofs.Cases.{test}
use Rattle.htmd_document.specs.Documents.{Inline, text, code, image, link, line_break, anchor, Inlines, no_inlines}
use Rattle.htmd_document.specs.Documents.{inline, Block, paragraph, blocks_of}
use Rattle.htmd_document.specs.NormalInlines.{is_anchor, are_anchors, anchors_stand_well}
use Rattle.htmd_document.specs.Documents as value
use Rattle.htmd_document.specs.TightItems.{is_filled}
use Rattle.htmd_shown.specs.Spaces.{is_white, is_blank_text}
use Rattle.htmd_flow.specs.Nesting.{Wrapper, wrapper_of, shared, wrapped, met, joined, with_content, in_last, behind}
use Rattle.htmd_flow.specs.Nesting.{text_or_code}
use Rattle.htmd_flow.specs.Grids.{is_empty_cell}
use Rattle.htmd_flow.specs.Nodes as nodes
use Rattle.htmd_flow.specs.Paragraphs.{Writing, begun, is_leaf, anchored, whole_content, paragraph_of, open_paragraph}
use Rattle.htmd_flow.specs.Paragraphs.{ended, parted, broken_off, spaced_out, white_behind, gap_before, gap_behind}
use Rattle.htmd_flow.specs.Paragraphs.{latest_of, shared_wrappers, put_before, shown, after_leaf, boxed, is_task_here}
use Rattle.htmd_flow.specs.Paragraphs.{with_task, tasked, is_boxed_item, blocks_in, edged, blocked, after_character}
use Rattle.htmd_flow.specs.Paragraphs.{fed, fed_all, is_code_gap}
use Rattle.htmd_flow.specs.declared.paragraphs.Latest.{Latest}
use Rattle.htmd_flow.specs.declared.paragraphs.Latest.TheVariants as latest
use Rattle.htmd_flow.specs.declared.paragraphs.Met.TheVariants as met_value
use Rattle.htmd_flow.specs.Parts.{Around, Part, run, picture, break, place, box, edge, whole}
use Rattle.htmd_law_documents.proofs.NormalTextLemmas.{true-false, false-true, and-false, from-not, not-false}
use Rattle.htmd_law_documents.proofs.VisibleLemmas.{both-true}
use Rattle.htmd_law_documents.proofs.NormalBlockLemmas.{NearlyAll, IsParagraph, FineBlocks}
use Rattle.htmd_law_documents.proofs.NormalPartsLemmas.{FineParts, blocks-of}
use Rattle.htmd_law_documents.proofs.NormalStandLemmas.{wrapped-plain}
use Rattle.htmd_flow.specs.TableElements.{is_paragraph_at_most, inlines_in}

-- a paragraph of nothing but anchors
abbrev pub is_lone : Block → Bool
is_lone (paragraph content) = are_anchors content
is_lone b = false

-- a part that shows, in one line or not: a text that isn't blank, an image, or a block
abbrev pub is_showing : Bool → Part → Bool
is_showing flat (run s around is_code) = not (is_blank_text s)
is_showing flat (picture address title description around) = true
is_showing flat break = false
is_showing flat (place id) = false
is_showing flat (box is_checked) = false
is_showing flat edge = false
is_showing flat (whole b) = not flat && not (is_lone b)

-- a part that gives nothing
abbrev pub is_quiet : Bool → Part → Bool
is_quiet flat (run s around is_code) = is_blank_text s
is_quiet flat (picture address title description around) = false
is_quiet flat break = true
is_quiet flat (place id) = false
is_quiet flat (box is_checked) = true
is_quiet flat edge = true
is_quiet flat (whole b) = flat

-- some part shows, or all give nothing
abbrev pub Seen : Bool → Bool → List Part → Type 0
Seen flat b ps = cond b (list_any (is_showing flat) ps) (list_all (is_quiet flat) ps) ≡ true

-- ---- inlines

left-false : (a : Bool) → (a && true) ≡ false → a ≡ false
left-false true e = e
left-false false e = refl

met-left : (x y : Inline) → is_anchor x ≡ false → are_anchors (met x y) ≡ false
met-left (text s) (text t) h = refl
met-left (code s) (code t) h = refl
met-left x y h = ap (λ b. b && is_anchor y && true) h

met-right : (x y : Inline) → is_anchor y ≡ false → are_anchors (met x y) ≡ false
met-right (text s) (text t) h = refl
met-right (code s) (code t) h = refl
met-right x y h = and-false (is_anchor x) (ap (λ b. b && true) h)

joined-old : (xs : Inlines) (y : Inline) → are_anchors xs ≡ false → are_anchors (joined xs y) ≡ false
joined-old no_inlines y h = true-false h
joined-old (inline x no_inlines) y h = met-left x y (left-false (is_anchor x) h)
joined-old (inline x (inline x' xs)) y h = test (is_anchor x)
    (λ e. and-false (is_anchor x)
    (joined-old (inline x' xs) y (sym (ap (λ b. b && are_anchors (inline x' xs)) e) ∙ h)))
    (λ e. ap (λ b. b && are_anchors (joined (inline x' xs) y)) e)

joined-new : (xs : Inlines) (y : Inline) → is_anchor y ≡ false → are_anchors (joined xs y) ≡ false
joined-new no_inlines y h = ap (λ b. b && true) h
joined-new (inline x no_inlines) y h = met-right x y h
joined-new (inline x (inline x' xs)) y h = and-false (is_anchor x) (joined-new (inline x' xs) y h)

content-same : (change : Inlines → Inlines) (x : Inline) → is_anchor (with_content change x) ≡ is_anchor x
content-same change (value.formatted f xs) = refl
content-same change (link a t xs) = refl
content-same change x = refl

last-same : (change : Inlines → Inlines) (xs : Inlines) → are_anchors (in_last change xs) ≡ are_anchors xs
last-same change no_inlines = refl
last-same change (inline x no_inlines) = ap (λ b. b && true) (content-same change x)
last-same change (inline x (inline x' xs)) = ap (λ b. is_anchor x && b) (last-same change (inline x' xs))

behind-some : (n : ℕ) (xs : Inlines) (around : List Around) (y : Inline) → are_anchors xs ≡ false
    → are_anchors (behind n xs around y) ≡ false
behind-some zero xs around y h = joined-old xs (wrapped around y) h
behind-some (suc n) xs [] y h = joined-old xs y h
behind-some (suc n) xs (a ∷ around) y h = last-same (λ content. behind n content around y) xs ∙ h

anchored-some : (n : ℕ) (ids : List (List ℕ)) (xs : Inlines) (around : List Around) → are_anchors xs ≡ false
    → are_anchors (anchored n xs around ids) ≡ false
anchored-some n [] xs around h = h
anchored-some n (id ∷ ids) xs around h =
    anchored-some n ids (behind n xs (take n around) (anchor id)) around
    (behind-some n xs (take n around) (anchor id) h)

-- ---- what is begun

-- more than a paragraph of anchors
abbrev says : List Block → Bool
says [] = false
says (b ∷ []) = not (is_lone b)
says (b ∷ c ∷ bs) = true

first-blocks : (bs cs : List Block) → says bs ≡ true → says (bs ++ cs) ≡ true
first-blocks [] cs h = false-true h
first-blocks (b ∷ []) [] h = h
first-blocks (b ∷ []) (c ∷ cs) h = refl
first-blocks (b ∷ b' ∷ bs) cs h = refl

last-blocks : (bs cs : List Block) → says cs ≡ true → says (bs ++ cs) ≡ true
last-blocks [] cs h = h
last-blocks (b ∷ bs) [] h = false-true h
last-blocks (b ∷ []) (c ∷ cs) h = refl
last-blocks (b ∷ b' ∷ bs) (c ∷ cs) h = refl

paragraph-some : (xs : Inlines) → are_anchors xs ≡ false → says (paragraph_of xs) ≡ true
paragraph-some no_inlines h = true-false h
paragraph-some (inline x xs) h = not-false h

letter-plain : (k : Bool) (s : List ℕ) → is_anchor (text_or_code k s) ≡ false
letter-plain true s = refl
letter-plain false s = refl

leaf-last : (k : Bool) → is_leaf (latest_of k) ≡ true
leaf-last true = refl
leaf-last false = refl

module _ (flat : Bool) where
  -- what has begun holds something
  record IsKept (w : Writing) : Type 0 where
    line : w.is_flat ≡ flat
    some : is_leaf w.latest ≡ true → are_anchors w.content ≡ false
    fresh : w.is_blank ≡ true → is_leaf w.latest ≡ false

  abbrev IsSeen : Writing → Type 0
  IsSeen w = ((flat ≡ false) × (says w.done ≡ true)) ⊎ (is_leaf w.latest ≡ true)

  record Goes (v w : Writing) : Type 0 where
    kept : IsKept w
    seen : IsSeen v → IsSeen w

  then-goes : (u v w : Writing) → Goes u v → Goes v w → Goes u w
  then-goes u v w a b = record { kept = b.kept; seen = λ s. b.seen (a.seen s) }

  either-goes : (v : Writing) (b : Bool) (x y : Writing) → (b ≡ true → Goes v x) → (b ≡ false → Goes v y)
      → Goes v (cond b x y)
  either-goes v true x y g h = g refl
  either-goes v false x y g h = h refl

  same-goes : (w : Writing) → IsKept w → Goes w w
  same-goes w h = record { kept = h; seen = λ s. s }

  ended-some : (w : Writing) → IsKept w → IsSeen w → says (ended w).done ≡ true
  ended-some w h (inl e) = first-blocks w.done (open_paragraph w) e.1
  ended-some w h (inr e) =
      last-blocks w.done (open_paragraph w)
      (paragraph-some (whole_content w)
      (subst (λ (b : Bool). are_anchors (anchored 0 (cond b w.content no_inlines) [] w.anchors) ≡ false) (sym e)
      (anchored-some 0 w.anchors w.content [] (h.some e))))

  ended-goes : (w : Writing) → IsKept w → flat ≡ false → Goes w (ended w)
  ended-goes w h n = record {
    kept = record { line = h.line; some = λ e. false-true e; fresh = λ e. refl };
    seen = λ s. inl (n, ended-some w h s);
  }

  parted-goes : (w : Writing) → IsKept w → Goes w (parted w)
  parted-goes w h =
      either-goes w (not w.is_flat && nat_le 2 w.breaks) (ended w) w
      (λ e. ended-goes w h (sym h.line ∙ from-not w.is_flat (both-true (not w.is_flat) (nat_le 2 w.breaks) e).0))
      (λ e. same-goes w h)

  broken-goes : (w : Writing) → IsKept w → Goes w (broken_off w)
  broken-goes w h = record {
    kept = record { line = h.line; some = h.some; fresh = h.fresh };
    seen = λ s. s;
  }

  -- ---- a leaf

  module _ (w : Writing) (around : List Around) (k : Bool) where
    gap-some : is_leaf w.latest ≡ true → are_anchors w.content ≡ false
        → are_anchors (gap_behind w.latest w around k) ≡ false
    gap-some e h = at w.latest e
      where
        n : ℕ
        n = shared w.around (map wrapper_of around)

        either : (b c : Bool) (s : List ℕ)
            → are_anchors (cond b (behind n w.content (take n around) line_break)
            (white_behind n w.content around c s))
            ≡ false
        either true c s = behind-some n w.content (take n around) line_break h
        either false c [] = h
        either false c (b ∷ s) = behind-some n w.content (take n around) (text_or_code c (b ∷ s)) h

        before : are_anchors (gap_before w around k) ≡ false
        before = either w.gap.has_break (k && is_code_gap w (map wrapper_of around)) w.gap.white

        at : (l : Latest) → is_leaf l ≡ true → are_anchors (gap_behind l w around k) ≡ false
        at latest.Nothing e = false-true e
        at latest.Task e = false-true e
        at latest.Plain e = before
        at latest.Code e = before

    shown-some : (y : Inline) → is_anchor y ≡ false → IsKept w
        → are_anchors (shown w around k y).content ≡ false
    shown-some y plain h =
        let ms : List Wrapper = map wrapper_of around in
        let put : Inlines = put_before w around k in
        test (is_leaf w.latest)
        (λ e. behind-some (shared_wrappers w ms) put around y
        (anchored-some (shared_wrappers w ms) w.anchors (gap_behind w.latest w around k) around
        (gap-some e (h.some e))))
        (λ e. subst (λ (b : Bool). are_anchors (behind (cond b (shared w.around ms) 0) put around y) ≡ false)
        (sym e)
        (joined-new put (wrapped around y) (wrapped-plain around y plain)))

    shown-goes : (y : Inline) → is_anchor y ≡ false → IsKept w → Goes w (shown w around k y)
    shown-goes y plain h = record {
      kept = record { line = h.line; some = λ e. shown-some y plain h; fresh = λ e. false-true e };
      seen = λ s. inr (leaf-last k);
    }

  leaf-goes : (w : Writing) (around : List Around) (k : Bool) (y : Inline) → is_anchor y ≡ false → IsKept w
      → Goes w (after_leaf w around k y)
  leaf-goes w around k y plain h =
      let p : Goes w (parted w) = parted-goes w h in
      then-goes w (parted w) (after_leaf w around k y) p (shown-goes (parted w) around k y plain p.kept)

  -- ---- characters

  character-goes : (w : Writing) (around : List Around) (k : Bool) (c : ℕ) → IsKept w
      → Goes w (after_character w around k c)
  character-goes w around k c h =
      let y : Inline = text_or_code k (encode_utf8 c) in
      either-goes w (is_white c) (spaced_out w c k) (after_leaf w around k y)
      (λ e. record {
        kept = record {
          line = h.line;
          some = h.some;
          fresh = λ i. h.fresh (both-true w.is_blank (is_ascii_white_space c) i).0;
        };
        seen = λ s. s;
      })
      (λ e. leaf-goes w around k y (letter-plain k (encode_utf8 c)) h)

  module _ (around : List Around) (k : Bool) where
    characters-go : (cs : List ℕ) (w : Writing) → IsKept w
        → Goes w (fold (λ v c. after_character v around k c) w cs)
    characters-go [] w h = same-goes w h
    characters-go (c ∷ cs) w h =
        let v : Writing = after_character w around k c in
        let g : Goes w v = character-goes w around k c h in
        then-goes w v (fold (λ v c. after_character v around k c) v cs) g (characters-go cs v g.kept)

    characters-show : (cs : List ℕ) (w : Writing) → IsKept w → list_all is_white cs ≡ false
        → IsSeen (fold (λ v c. after_character v around k c) w cs)
    characters-show [] w h e = true-false e
    characters-show (c ∷ cs) w h e =
        let v : Writing = after_character w around k c in
        let g : Goes w v = character-goes w around k c h in
        test (is_white c)
        (λ a. characters-show cs v g.kept (sym (ap (λ b. b && list_all is_white cs) a) ∙ e))
        (λ a. (characters-go cs v g.kept).seen
        (subst (λ (b : Bool). IsSeen (cond b (spaced_out w c k)
        (after_leaf w around k (text_or_code k (encode_utf8 c)))))
        (sym a) (inr (leaf-last k))))

  -- ---- other parts

  task-goes : (w : Writing) (c : Bool) → IsKept w → Goes w (tasked w c)
  task-goes w c h =
      either-goes w (is_task_here w) (with_task (boxed w) c) (boxed w)
      (λ e. record {
        kept = record { line = h.line; some = λ i. false-true i; fresh = λ i. refl };
        seen = λ s. at (h.fresh (both-true (w.in_item && (length w.done == 0)) w.is_blank e).1) s;
      })
      (λ e. record { kept = record { line = h.line; some = h.some; fresh = h.fresh }; seen = λ s. s })
    where
      at : is_leaf w.latest ≡ false → IsSeen w → IsSeen (with_task (boxed w) c)
      at e (inl s) = inl s
      at e (inr s) = true-false (sym s ∙ e)

  edge-goes : (w : Writing) → IsKept w → Goes w (edged w)
  edge-goes w h =
      let last : Writing = record (ended w) { met = met_value.Nothing } in
      either-goes w w.is_flat (broken_off w) (cond (is_boxed_item w) w last) (λ f. broken-goes w h)
      (λ f. either-goes w (is_boxed_item w) w last (λ i. same-goes w h)
      (λ i. record {
        kept = record { line = h.line; some = λ i. false-true i; fresh = λ i. refl };
        seen = λ s. inl (sym h.line ∙ f, ended-some w h s);
      }))

  module _ (w : Writing) (b : Block) (h : IsKept w) where
    abbrev last : Writing
    last = record (ended w) { done = (ended w).done ++ b ∷ []; met = met_value.Nothing }

    block-goes : Goes w (blocked w b)
    block-goes =
        either-goes w w.is_flat (broken_off w) last (λ f. broken-goes w h)
        (λ f. record {
          kept = record { line = h.line; some = λ i. false-true i; fresh = λ i. refl };
          seen = λ s. inl (sym h.line ∙ f, first-blocks (ended w).done (b ∷ []) (ended-some w h s));
        })

    block-shows : (not flat && not (is_lone b)) ≡ true → IsSeen (blocked w b)
    block-shows e =
        let both = both-true (not flat) (not (is_lone b)) e in
        let blocks : flat ≡ false = from-not flat both.0 in
        subst (λ (f : Bool). IsSeen (cond f (broken_off w) last)) (sym (h.line ∙ blocks))
        (inl (blocks, last-blocks (ended w).done (b ∷ []) both.1))

  part-goes : (p : Part) (w : Writing) → IsKept w → Goes w (fed w p)
  part-goes (run s around k) w h = characters-go around k (chars s) w h
  part-goes (picture address title description around) w h =
      leaf-goes w around false (image address title description) refl h
  part-goes break w h = broken-goes w h
  part-goes (place id) w h =
      let p : Goes w (parted w) = parted-goes w h in
      record {
        kept = record { line = p.kept.line; some = p.kept.some; fresh = p.kept.fresh };
        seen = p.seen;
      }
  part-goes (box c) w h =
      let p : Goes w (parted w) = parted-goes w h in
      then-goes w (parted w) (tasked (parted w) c) p (task-goes (parted w) c p.kept)
  part-goes edge w h = edge-goes w h
  part-goes (whole b) w h = block-goes w b h

  part-shows : (p : Part) (w : Writing) → IsKept w → is_showing flat p ≡ true → IsSeen (fed w p)
  part-shows (run s around k) w h e = characters-show around k (chars s) w h (from-not (is_blank_text s) e)
  part-shows (picture address title description around) w h e = inr (leaf-last false)
  part-shows break w h e = false-true e
  part-shows (place id) w h e = false-true e
  part-shows (box c) w h e = false-true e
  part-shows edge w h e = false-true e
  part-shows (whole b) w h e = block-shows w b h e

  parts-go : (ps : List Part) (w : Writing) → IsKept w → Goes w (fed_all w ps)
  parts-go [] w h = same-goes w h
  parts-go (p ∷ ps) w h =
      let g : Goes w (fed w p) = part-goes p w h in
      then-goes w (fed w p) (fed_all (fed w p) ps) g (parts-go ps (fed w p) g.kept)

  parts-show : (ps : List Part) (w : Writing) → IsKept w → list_any (is_showing flat) ps ≡ true
      → IsSeen (fed_all w ps)
  parts-show [] w h e = false-true e
  parts-show (p ∷ ps) w h e =
      let g : Goes w (fed w p) = part-goes p w h in
      test (is_showing flat p) (λ a. (parts-go ps (fed w p) g.kept).seen (part-shows p w h a))
      (λ a. parts-show ps (fed w p) g.kept (sym (ap (λ b. b || list_any (is_showing flat) ps) a) ∙ e))

  -- ---- what is quiet gives none

  record IsEmpty (w : Writing) : Type 0 where
    done : w.done ≡ []
    leaf : is_leaf w.latest ≡ false
    anchors : w.anchors ≡ []

  either-empty : (b : Bool) (x y : Writing) → IsEmpty x → IsEmpty y → IsEmpty (cond b x y)
  either-empty true x y g h = g
  either-empty false x y g h = h

  none-left : (w : Writing) → IsEmpty w → whole_content w ≡ no_inlines
  none-left w h =
      ap (λ b. anchored 0 (cond b w.content no_inlines) [] w.anchors) h.leaf
      ∙ ap (λ ids. anchored 0 no_inlines [] ids) h.anchors

  none-done : (w : Writing) → IsEmpty w → (ended w).done ≡ []
  none-done w h = ap (λ bs. bs ++ open_paragraph w) h.done ∙ ap paragraph_of (none-left w h)

  ended-empty : (w : Writing) → IsEmpty w → IsEmpty (ended w)
  ended-empty w h = record { done = none-done w h; leaf = refl; anchors = refl }

  parted-empty : (w : Writing) → IsEmpty w → IsEmpty (parted w)
  parted-empty w h = either-empty (not w.is_flat && nat_le 2 w.breaks) (ended w) w (ended-empty w h) h

  white-empty : (around : List Around) (k : Bool) (cs : List ℕ) (w : Writing) → IsEmpty w
      → list_all is_white cs ≡ true → IsEmpty (fold (λ v c. after_character v around k c) w cs)
  white-empty around k [] w h e = h
  white-empty around k (c ∷ cs) w h e =
      let both = both-true (is_white c) (list_all is_white cs) e in
      white-empty around k cs (after_character w around k c)
      (subst (λ (b : Bool). IsEmpty (cond b (spaced_out w c k)
      (after_leaf w around k (text_or_code k (encode_utf8 c)))))
      (sym both.0) (record { done = h.done; leaf = h.leaf; anchors = h.anchors })) both.1

  task-empty : (w : Writing) (c : Bool) → IsEmpty w → IsEmpty (tasked w c)
  task-empty w c h =
      either-empty (is_task_here w) (with_task (boxed w) c) (boxed w)
      (record { done = h.done; leaf = refl; anchors = h.anchors })
      (record { done = h.done; leaf = h.leaf; anchors = h.anchors })

  broken-empty : (w : Writing) → IsEmpty w → IsEmpty (broken_off w)
  broken-empty w h = record { done = h.done; leaf = h.leaf; anchors = h.anchors }

  edge-empty : (w : Writing) → IsEmpty w → IsEmpty (edged w)
  edge-empty w h =
      let new : Writing = record (ended w) { met = met_value.Nothing } in
      either-empty w.is_flat (broken_off w) (cond (is_boxed_item w) w new) (broken-empty w h)
      (either-empty (is_boxed_item w) w new h (record { done = none-done w h; leaf = refl; anchors = refl }))

  part-empty : (p : Part) (w : Writing) → IsKept w → IsEmpty w → is_quiet flat p ≡ true → IsEmpty (fed w p)
  part-empty (run s around k) w g h e = white-empty around k (chars s) w h e
  part-empty (picture address title description around) w g h e = false-true e
  part-empty break w g h e = broken-empty w h
  part-empty (place id) w g h e = false-true e
  part-empty (box c) w g h e = task-empty (parted w) c (parted-empty w h)
  part-empty edge w g h e = edge-empty w h
  part-empty (whole b) w g h e =
      subst (λ (f : Bool). IsEmpty (cond f (broken_off w) (last w b g))) (sym (g.line ∙ e)) (broken-empty w h)

  parts-empty : (ps : List Part) (w : Writing) → IsKept w → IsEmpty w → list_all (is_quiet flat) ps ≡ true
      → IsEmpty (fed_all w ps)
  parts-empty [] w g h e = h
  parts-empty (p ∷ ps) w g h e =
      let both = both-true (is_quiet flat p) (list_all (is_quiet flat) ps) e in
      parts-empty ps (fed w p) (part-goes p w g).kept (part-empty p w g h both.0) both.1

  -- ---- what is written

  -- something shows in it, or nothing is in it
  abbrev Tells : Bool → Writing → Type 0
  Tells true w = IsSeen w
  Tells false w = IsEmpty w

  pub record Holds (b : Bool) (w : Writing) : Type 0 where
    kept : IsKept w
    tells : Tells b w

  pub begun-holds : (in_item : Bool) → Holds false (begun in_item flat)
  begun-holds in_item = record {
    kept = record { line = refl; some = λ i. false-true i; fresh = λ i. refl };
    tells = record { done = refl; leaf = refl; anchors = refl };
  }

  -- with more parts
  pub fed-holds : (a b : Bool) (ps : List Part) (w : Writing) → Holds a w → Seen flat b ps
      → Holds (a || b) (fed_all w ps)
  fed-holds true b ps w h e =
      let g : Goes w (fed_all w ps) = parts-go ps w h.kept in record { kept = g.kept; tells = g.seen h.tells }
  fed-holds false true ps w h e =
      record { kept = (parts-go ps w h.kept).kept; tells = parts-show ps w h.kept e }
  fed-holds false false ps w h e =
      record { kept = (parts-go ps w h.kept).kept; tells = parts-empty ps w h.kept h.tells e }

-- ---- blocks

says-filled : (bs : List Block) → says bs ≡ true → is_filled (blocks_of bs) ≡ true
says-filled [] h = false-true h
says-filled (b ∷ bs) h = refl

pub holds-blocks : (b : Bool) (w : Writing) → Holds false b w → is_filled (blocks_in w) ≡ b
holds-blocks true w h = says-filled (ended w).done (ended-some false w h.kept h.tells)
holds-blocks false w h = ap (λ bs. is_filled (blocks_of bs)) (none-done false w h.tells)

-- what shows gives blocks
pub parts-filled : (in_item b : Bool) (ps : List Part) → Seen false b ps
    → is_filled (nodes.blocks_of in_item ps) ≡ b
parts-filled in_item b ps e =
    holds-blocks b (fed_all (begun in_item false) ps)
    (fed-holds false false b ps (begun in_item false) (begun-holds false in_item) e)

-- a paragraph of what shows isn't empty
paragraph-filled : (bs : List Block) → says bs ≡ true → is_paragraph_at_most (blocks_of bs) ≡ true
    → is_empty_cell (inlines_in (blocks_of bs)) ≡ false
paragraph-filled [] s p = false-true s
paragraph-filled (paragraph no_inlines ∷ []) s p = false-true s
paragraph-filled (paragraph (inline x xs) ∷ []) s p = refl
paragraph-filled (b ∷ []) s p = false-true p
paragraph-filled (b ∷ c ∷ bs) s p = false-true p

holds-cell : (b : Bool) (w : Writing) → Holds false b w → is_paragraph_at_most (blocks_in w) ≡ true
    → is_empty_cell (inlines_in (blocks_in w)) ≡ not b
holds-cell true w h p = paragraph-filled (ended w).done (ended-some false w h.kept h.tells) p
holds-cell false w h p = ap (λ bs. is_empty_cell (inlines_in (blocks_of bs))) (none-done false w h.tells)

-- an empty cell is one in which nothing shows
pub parts-cell : (b : Bool) (ps : List Part) → Seen false b ps
    → is_paragraph_at_most (nodes.blocks_of false ps) ≡ true
    → is_empty_cell (inlines_in (nodes.blocks_of false ps)) ≡ not (is_filled (nodes.blocks_of false ps))
parts-cell b ps e p =
    holds-cell b (fed_all (begun false false) ps)
    (fed-holds false false b ps (begun false false) (begun-holds false false) e) p
    ∙ ap not (sym (parts-filled false b ps e))

-- what has been written at the end
abbrev written : List Part → List Block
written ps = (ended (fed_all (begun false false) ps)).done

-- a paragraph alone isn't of anchors alone
stand-blocks : (bs : List Block) → says bs ≡ true → NearlyAll false (blocks_of bs)
    → is_paragraph_at_most (blocks_of bs) ≡ true → anchors_stand_well (inlines_in (blocks_of bs)) ≡ true
stand-blocks [] s h p = false-true s
stand-blocks (paragraph xs ∷ []) s h p = at h.0
  where
    at : IsParagraph false xs → anchors_stand_well xs ≡ true
    at (inl k) = sym (ap (λ b. b || anchors_stand_well xs) (from-not (are_anchors xs) s)) ∙ k.2
    at (inr k) = false-true k.0
stand-blocks (b ∷ []) s h p = refl
stand-blocks (b ∷ c ∷ bs) s h p = false-true p

pub parts-stand : (n : ℕ) (b : Bool) (ps : List Part) → FineParts false n ps → Seen false b ps
    → is_paragraph_at_most (nodes.blocks_of false ps) ≡ true
    → anchors_stand_well (inlines_in (nodes.blocks_of false ps)) ≡ true
parts-stand n b ps f e p = at b (fed-holds false false b ps (begun false false) (begun-holds false false) e)
  where
    at : (b : Bool) → Holds false b (fed_all (begun false false) ps)
        → anchors_stand_well (inlines_in (blocks_of (written ps))) ≡ true
    at true h =
        let fine : FineBlocks n false (nodes.blocks_of false ps) = blocks-of n false ps f in
        stand-blocks (written ps) (ended-some false (fed_all (begun false false) ps) h.kept h.tells) fine.nearly p
    at false h =
        ap (λ bs. anchors_stand_well (inlines_in (blocks_of bs)))
        (none-done false (fed_all (begun false false) ps) h.tells)

-- ---- a line

line-filled : (xs : Inlines) → are_anchors xs ≡ false → is_empty_cell xs ≡ false
line-filled no_inlines e = true-false e
line-filled (inline x xs) e = refl

-- what shows gives a line
pub parts-line : (b : Bool) (ps : List Part) → Seen true b ps → is_empty_cell (nodes.line_of ps) ≡ not b
parts-line b ps e =
    at b (fed-holds true false b ps (begun false true) (begun-holds true false) e)
  where
    w : Writing
    w = fed_all (begun false true) ps

    leaf : IsSeen true w → is_leaf w.latest ≡ true
    leaf (inl k) = true-false k.0
    leaf (inr k) = k

    at : (b : Bool) → Holds true b w → is_empty_cell (whole_content w) ≡ not b
    at true h =
        let last : is_leaf w.latest ≡ true = leaf h.tells in
        line-filled (whole_content w)
        (subst (λ (x : Bool). are_anchors (anchored 0 (cond x w.content no_inlines) [] w.anchors) ≡ false) (sym last)
        (anchored-some 0 w.anchors w.content [] (h.kept.some last)))
    at false h = ap is_empty_cell (none-left true w h.tells)
