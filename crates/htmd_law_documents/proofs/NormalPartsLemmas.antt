-- Parts of normal documents, and that blocks and lines of them are normal.
use Rattle.std.proofs.Common.{◌≡◌, ℕ, Bool, true, false, cond, not, ◌&&◌, List, [], ◌∷◌, ◌++◌, refl, sym, ◌∙◌}
use Rattle.std.proofs.Common.{subst, fold, length, inl, inr, arith}
use Rattle.std.specs.Prelude.{if◌then◌else◌, encode_utf8, nat_le, ◌==◌}
use Rattle.std.specs.List.{list_all}
use Rattle.std.specs.Str.{chars}
use Rattle.std.proofs.Math.Utf8.{scalars, scalar}
use Rattle.std.proofs.lemmas.List.{append-nil}
use Rattle.std.proofs.lemmas.Bool.Decides.{nat_tests}
use Rattle.htmd_lexical.specs.Characters.{null}
use Rattle.htmd_lexical.proofs.Cases.{test}
use Rattle.htmd_document.specs.Documents.{Inline, Block, Blocks, image}
use Rattle.htmd_document.specs.Documents as value
use Rattle.htmd_document.specs.LoneAnchors.{is_alone}
use Rattle.htmd_flow.specs.Contexts.{apart}
use Rattle.htmd_flow.specs.Flows.{blocks_of, line_of}
use Rattle.htmd_flow.specs.Nesting.{text_or_code}
use Rattle.htmd_flow.specs.Paragraphs.{Writing, begun, is_leaf, open_paragraph, whole_content, ended, parted}
use Rattle.htmd_flow.specs.Paragraphs.{broken_off, spaced_out}
use Rattle.htmd_flow.specs.Paragraphs.{after_leaf, boxed, with_task, tasked, is_task_here, with_anchor, is_box}
use Rattle.htmd_flow.specs.Paragraphs.{is_boxed_item, edged, blocked, after_character, fed, fed_all, blocks_in}
use Rattle.htmd_flow.specs.declared.paragraphs.Met.{Met}
use Rattle.htmd_flow.specs.declared.paragraphs.Met.TheVariants as met
use Rattle.htmd_flow.specs.Parts.{Around, Part, run, picture, break, place, box, edge, whole}
use Rattle.htmd_shown.specs.Spaces.{is_white, is_blank_text}
use Rattle.htmd_document.specs.NormalInlines.{is_attribute, is_title, is_line}
use Rattle.htmd_law_documents.proofs.VisibleLemmas.{both-true}
use Rattle.htmd_law_documents.proofs.NormalTextLemmas.{true-false, false-true, from-not}
use Rattle.htmd_law_documents.proofs.NormalLineLemmas.{FitAll}
use Rattle.htmd_law_documents.proofs.NormalLeafLemmas.{IsLeaf, IsId}
use Rattle.htmd_law_documents.proofs.NormalCharacterLemmas.{character-word, word-leaf}
use Rattle.htmd_law_documents.proofs.NormalBlockLemmas.{IsLineWell, Fine, FineBlocks, FineRow, blocks-fine}
use Rattle.htmd_law_documents.proofs.NormalBlockLemmas.{row-fine, these_stand}
use Rattle.htmd_law_documents.proofs.NormalWritingLemmas.{IsNormalWriting, IsSettled, is_fresh, nothing-normal}
use Rattle.htmd_law_documents.proofs.NormalWritingLemmas.{ended-normal, block-normal, edge-normal, broken_off-normal}
use Rattle.htmd_law_documents.proofs.NormalWritingLemmas.{spaced_out-normal, tasked-normal, anchor-normal, shown-normal}
use Rattle.htmd_law_documents.proofs.NormalWritingLemmas.{line-normal-in, State}
use Rattle.htmd_law_documents.proofs.NormalLoneLemmas.{is_code_block, code-behind, block-behind, last-stands}
use Rattle.htmd_law_documents.proofs.NormalLoneLemmas.{open-stands, stands-last}

-- ---- parts

-- characters that are no U+0000
abbrev pub is_text_character : ℕ → Bool
is_text_character c = not (c == null)

-- characters without U+0000
pub record IsRun (s : List ℕ) : Type 0 where
  pub scalar : scalars (chars s) ≡ true
  pub seen : list_all is_text_character (chars s) ≡ true

-- a part that a normal document can be made of, with at most so many lists and quotes in each other
abbrev pub FinePart : ℕ → Part → Type 0
FinePart n (run s around is_code) = IsRun s × FitAll false [] around
FinePart n (picture address title description around) =
    (is_attribute address ≡ true) × (is_title title ≡ true) × (is_line description ≡ true) × FitAll false []
    around
FinePart n break = Unit {0}
FinePart n (place id) = IsId id
FinePart n (box is_checked) = Unit {0}
FinePart n edge = Unit {0}
FinePart n (whole b) = Fine n false b

-- ---- what waits

-- nothing shows in the paragraph, or no anchor waits, or anchors wait for what shows, or they are alone in it, or were
-- in the one before and wait for a code block
pub data Wait : Type 0 where
  alone : Wait
  good : Wait
  waiting : Wait
  lone : Wait
  after : Wait

abbrev pub with_place : Wait → Wait
with_place alone = lone
with_place good = waiting
with_place waiting = waiting
with_place lone = lone
with_place after = after

-- where a paragraph has ended
abbrev pub past_edge : Wait → Wait
past_edge alone = alone
past_edge good = alone
past_edge waiting = alone
past_edge lone = after
past_edge after = after

-- after one more part, in one line or not
abbrev pub step : Bool → Wait → Part → Wait
step flat s (run t around is_code) = if is_blank_text t then s else good
step flat s (picture address title description around) = good
step flat s break = s
step flat s (place id) = with_place s
step flat s (box is_checked) = s
step flat s edge = if flat then s else past_edge s
step flat s (whole b) = if flat then s else alone

-- a paragraph may end here
abbrev pub Rests : Bool → Wait → Type 0
Rests true s = Unit {0}
Rests false alone = Unit {0}
Rests false good = Unit {0}
Rests false s = ⊥

-- at an edge it may end with anchors alone
abbrev pub Ends : Bool → Wait → Type 0
Ends true s = Unit {0}
Ends false waiting = ⊥
Ends false s = Unit {0}

-- a block may follow
abbrev pub Follows : Bool → Wait → Block → Type 0
Follows true s b = Unit {0}
Follows false alone b = is_alone b ≡ false
Follows false good b = is_alone b ≡ false
Follows false waiting b = ⊥
Follows false lone b = is_code_block b ≡ true
Follows false after b = is_code_block b ≡ true

-- something else may follow
abbrev pub Begins : Wait → Type 0
Begins after = ⊥
Begins s = Unit {0}

abbrev pub Allowed : Bool → Wait → Part → Type 0
Allowed flat s (run t around is_code) = Begins s
Allowed flat s (picture address title description around) = Begins s
Allowed flat s break = Rests flat s
Allowed flat s (place id) = Begins s
Allowed flat s (box is_checked) = Rests flat s
Allowed flat s edge = Ends flat s
Allowed flat s (whole b) = Follows flat s b

-- nothing waits at the end
abbrev pub Settles : Bool → Wait → Type 0
Settles true good = Unit {0}
Settles true s = ⊥
Settles false alone = Unit {0}
Settles false good = Unit {0}
Settles false s = ⊥

-- at the end of a document anchors may have been alone
abbrev pub Closes : Wait → Type 0
Closes alone = Unit {0}
Closes good = Unit {0}
Closes after = Unit {0}
Closes s = ⊥

-- up to an end where something waits that may
abbrev pub Runs : (Wait → Type 0) → Bool → ℕ → Wait → List Part → Type 0
Runs E flat n s [] = E s
Runs E flat n s (p ∷ ps) = FinePart n p × Allowed flat s p × Runs E flat n (step flat s p) ps

abbrev pub FineFrom : Bool → ℕ → Wait → List Part → Type 0
FineFrom flat n s ps = Runs (Settles flat) flat n s ps

-- all parts of a document
abbrev pub ClosesFrom : ℕ → Wait → List Part → Type 0
ClosesFrom n s ps = Runs Closes false n s ps

abbrev pub FineParts : Bool → ℕ → List Part → Type 0
FineParts flat n ps = FineFrom flat n good ps

-- where nothing shows all is allowed that is anywhere else
either-from : (n : ℕ) (s t : Wait) (ps : List Part) (b : Bool) → (FineFrom false n s ps → FineFrom false n t ps)
    → FineFrom false n (cond b s good) ps → FineFrom false n (cond b t good) ps
either-from n s t ps true f h = f h
either-from n s t ps false f h = h

pub fine-lone : (n : ℕ) (ps : List Part) → FineFrom false n waiting ps → FineFrom false n lone ps
fine-lone n [] h = absurd h
fine-lone n (run t around k ∷ ps) h =
    (h.0, tt, either-from n waiting lone ps (is_blank_text t) (fine-lone n ps) h.2)
fine-lone n (picture a t d around ∷ ps) h = (h.0, tt, h.2)
fine-lone n (break ∷ ps) h = absurd h.1
fine-lone n (place id ∷ ps) h = (h.0, tt, fine-lone n ps h.2)
fine-lone n (box b ∷ ps) h = absurd h.1
fine-lone n (edge ∷ ps) h = absurd h.1
fine-lone n (whole b ∷ ps) h = absurd h.1

pub fine-alone : (n : ℕ) (ps : List Part) → FineFrom false n good ps → FineFrom false n alone ps
fine-alone n [] h = tt
fine-alone n (run t around k ∷ ps) h =
    (h.0, tt, either-from n good alone ps (is_blank_text t) (fine-alone n ps) h.2)
fine-alone n (picture a t d around ∷ ps) h = (h.0, tt, h.2)
fine-alone n (break ∷ ps) h = (h.0, tt, fine-alone n ps h.2)
fine-alone n (place id ∷ ps) h = (h.0, tt, fine-lone n ps h.2)
fine-alone n (box b ∷ ps) h = (h.0, tt, fine-alone n ps h.2)
fine-alone n (edge ∷ ps) h = (h.0, tt, h.2)
fine-alone n (whole b ∷ ps) h = (h.0, h.1, h.2)

settled-append : (flat : Bool) (n : ℕ) (s : Wait) (qs : List Part) → Settles flat s → FineParts flat n qs
    → FineFrom flat n s qs
settled-append true n good qs g h = h
settled-append true n alone qs g h = absurd g
settled-append true n waiting qs g h = absurd g
settled-append true n lone qs g h = absurd g
settled-append true n after qs g h = absurd g
settled-append false n alone qs g h = fine-alone n qs h
settled-append false n good qs g h = h
settled-append false n waiting qs g h = absurd g
settled-append false n lone qs g h = absurd g
settled-append false n after qs g h = absurd g

pub fine-from : (flat : Bool) (n : ℕ) (s : Wait) (ps qs : List Part) → FineFrom flat n s ps → FineParts flat n qs
    → FineFrom flat n s (ps ++ qs)
fine-from flat n s [] qs g h = settled-append flat n s qs g h
fine-from flat n s (p ∷ ps) qs g h = (g.0, g.1, fine-from flat n (step flat s p) ps qs g.2 h)

settled-closes : (s : Wait) → Settles false s → Closes s
settled-closes alone h = tt
settled-closes good h = tt
settled-closes waiting h = absurd h
settled-closes lone h = absurd h
settled-closes after h = absurd h

pub fine-closes : (n : ℕ) (s : Wait) (ps : List Part) → FineFrom false n s ps → ClosesFrom n s ps
fine-closes n s [] h = settled-closes s h
fine-closes n s (p ∷ ps) h = (h.0, h.1, fine-closes n (step false s p) ps h.2)

-- with something apart behind it
pub fine-last : (n : ℕ) (s : Wait) (ps qs : List Part) → FineFrom false n s ps → ClosesFrom n alone qs
    → ClosesFrom n s (ps ++ edge ∷ qs)
fine-last n alone [] qs g h = (tt, tt, h)
fine-last n good [] qs g h = (tt, tt, h)
fine-last n waiting [] qs g h = absurd g
fine-last n lone [] qs g h = absurd g
fine-last n after [] qs g h = absurd g
fine-last n s (p ∷ ps) qs g h = (g.0, g.1, fine-last n (step false s p) ps qs g.2 h)

pub fine-append : (flat : Bool) (n : ℕ) (ps qs : List Part) → FineParts flat n ps → FineParts flat n qs
    → FineParts flat n (ps ++ qs)
fine-append flat n ps qs g h = fine-from flat n good ps qs g h

pub fine-nil : (flat : Bool) (n : ℕ) → FineParts flat n []
fine-nil true n = tt
fine-nil false n = tt

pub fine-edge : (flat : Bool) (n : ℕ) (ps : List Part) → FineParts flat n ps → FineParts flat n (edge ∷ ps)
fine-edge true n ps h = (tt, tt, h)
fine-edge false n ps h = (tt, tt, fine-alone n ps h)

pub fine-edges : (flat : Bool) (n : ℕ) → FineParts flat n (edge ∷ [])
fine-edges flat n = fine-edge flat n [] (fine-nil flat n)

pub fine-whole : (flat : Bool) (n : ℕ) (b : Block) → is_alone b ≡ false → Fine n false b
    → FineParts flat n (whole b ∷ [])
fine-whole true n b e h = (h, tt, tt)
fine-whole false n b e h = (h, e, tt)

pub fine-apart : (flat : Bool) (n : ℕ) (ps : List Part) → FineParts flat n ps → FineParts flat n (apart ps)
fine-apart flat n ps h =
    fine-edge flat n (ps ++ edge ∷ []) (fine-append flat n ps (edge ∷ []) h (fine-edges flat n))

pub fine-either : (flat : Bool) (n : ℕ) (b : Bool) (ps qs : List Part) → (b ≡ true → FineParts flat n ps)
    → (b ≡ false → FineParts flat n qs) → FineParts flat n (cond b ps qs)
fine-either flat n true ps qs g h = g refl
fine-either flat n false ps qs g h = h refl

pub fine-as : (flat flat' : Bool) (n : ℕ) (ps : List Part) → flat ≡ flat' → FineParts flat n ps
    → FineParts flat' n ps
fine-as flat flat' n ps e h = subst (λ (b : Bool). FineParts b n ps) e h

-- a text, whether it shows or not
pub fine-run : (flat : Bool) (n : ℕ) (s : List ℕ) (around : List Around) (k : Bool) → IsRun s
    → FitAll false [] around
    → FineParts flat n (run s around k ∷ [])
fine-run flat n s around k r f = ((r, f), tt, either flat (is_blank_text s))
  where
    either : (flat b : Bool) → Settles flat (cond b good good)
    either true true = tt
    either true false = tt
    either false true = tt
    either false false = tt

-- a text that shows, after anchors
pub shown-run : (flat : Bool) (n : ℕ) (s : List ℕ) (around : List Around) (k : Bool) → IsRun s
    → FitAll false [] around → is_blank_text s ≡ false → FineFrom flat n waiting (run s around k ∷ [])
shown-run flat n s around k r f e =
    ((r, f), tt, subst (λ (b : Bool). Settles flat (cond b waiting good)) (sym e) (fine-nil flat n))

-- ---- what is fed

-- what the state says of what is begun
abbrev pub Waits : Bool → Wait → Writing → Type 0
Waits flat alone w = (flat ≡ false) × (is_leaf w.latest ≡ false) × (w.anchors ≡ [])
Waits flat good w = w.anchors ≡ []
Waits flat waiting w = flat ≡ false → w.breaks ≡ 0
Waits flat lone w = (flat ≡ false) × (is_leaf w.latest ≡ false) × (w.breaks ≡ 0)
Waits flat after w = (flat ≡ false) × (is_leaf w.latest ≡ false)

-- where paragraphs of anchors alone stand in what is written
abbrev pub Stands : Wait → Writing → Type 0
Stands after w = these_stand true (value.blocks_of (w.done ++ open_paragraph w)) ≡ true
Stands s w = these_stand false (value.blocks_of w.done) ≡ true

pub record IsFed (n : ℕ) (in_item flat : Bool) (s : Wait) (w : Writing) : Type 0 where
  pub normal : IsNormalWriting n in_item w
  pub is_flat : w.is_flat ≡ flat
  pub waits : Waits flat s w
  pub stands : Stands s w

pub nothing-fed : (n : ℕ) (in_item flat : Bool) → IsFed n in_item flat good (begun in_item flat)
nothing-fed n in_item flat =
    record { normal = nothing-normal n in_item flat; is_flat = refl; waits = refl; stands = refl }

ends-settled : (s : Wait) (w : Writing) → Ends false s → Waits false s w → IsSettled w
ends-settled alone w r h = inr h.1
ends-settled good w r h = inl h
ends-settled waiting w r h = absurd r
ends-settled lone w r h = inr h.1
ends-settled after w r h = inr h.1

follows-ends : (s : Wait) (b : Block) → Follows false s b → Ends false s
follows-ends alone b f = tt
follows-ends good b f = tt
follows-ends waiting b f = absurd f
follows-ends lone b f = tt
follows-ends after b f = tt

settles-ends : (s : Wait) → Settles false s → Ends false s
settles-ends alone h = tt
settles-ends good h = tt
settles-ends waiting h = absurd h
settles-ends lone h = absurd h
settles-ends after h = absurd h

-- where a paragraph ends that isn't anchors alone
settled-stands : (s : Wait) (w : Writing) → State w → Settles false s → Waits false s w → Stands s w
    → these_stand false (value.blocks_of (w.done ++ open_paragraph w)) ≡ true
settled-stands alone w t g h k = open-stands w t h.2 k
settled-stands good w t g h k = open-stands w t h k
settled-stands waiting w t g h k = absurd g
settled-stands lone w t g h k = absurd g
settled-stands after w t g h k = absurd g

begins-stands : (s : Wait) (w : Writing) → Begins s → Stands s w
    → these_stand false (value.blocks_of w.done) ≡ true
begins-stands alone w b k = k
begins-stands good w b k = k
begins-stands waiting w b k = k
begins-stands lone w b k = k
begins-stands after w b k = absurd b

rests-begins : (flat : Bool) (s : Wait) (w : Writing) → Rests flat s → Waits flat s w → Begins s
rests-begins flat alone w r h = tt
rests-begins flat good w r h = tt
rests-begins flat waiting w r h = tt
rests-begins flat lone w r h = tt
rests-begins flat after w r h = absurd (subst (λ (b : Bool). Rests b after) h.0 r)

module _ (n : ℕ) (in_item flat : Bool) where
  abbrev Fed : Wait → Writing → Type 0
  Fed s w = IsFed n in_item flat s w

  -- where two breaks part paragraphs
  parts-now : (s : Wait) (w : Writing) → Begins s → Fed s w → (not w.is_flat && nat_le 2 w.breaks) ≡ true
      → Fed s (ended w)
  parts-now s w b h e = at s b h.waits h.stands
    where
      parts : (not w.is_flat ≡ true) × (nat_le 2 w.breaks ≡ true)
      parts = both-true (not w.is_flat) (nat_le 2 w.breaks) e

      blocks : flat ≡ false
      blocks = sym h.is_flat ∙ from-not w.is_flat parts.0

      few : (k : ℕ) → k ≡ 0 → nat_le 2 k ≡ true → ⊥
      few k e l = grind (arith, nat_tests)

      at : (t : Wait) → Begins t → Waits flat t w → Stands t w → Fed t (ended w)
      at alone b g k = record {
        normal = ended-normal n in_item w h.normal (inr g.1);
        is_flat = h.is_flat;
        waits = (blocks, refl, refl);
        stands = open-stands w h.normal.state g.2 k;
      }
      at good b g k = record {
        normal = ended-normal n in_item w h.normal (inl g);
        is_flat = h.is_flat;
        waits = refl;
        stands = open-stands w h.normal.state g k;
      }
      at waiting b g k = absurd (few w.breaks (g blocks) parts.1)
      at lone b g k = absurd (few w.breaks g.2 parts.1)
      at after b g k = absurd b

  parted-fed : (s : Wait) (w : Writing) → Begins s → Fed s w → Fed s (parted w)
  parted-fed s w b h = test (not w.is_flat && nat_le 2 w.breaks)
      (λ e. subst (λ (b : Bool). Fed s (cond b (ended w) w)) (sym e) (parts-now s w b h e))
      (λ e. subst (λ (b : Bool). Fed s (cond b (ended w) w)) (sym e) h)

  leaf-fed : (s : Wait) (w : Writing) (around : List Around) (k : Bool) (y : Inline) → Begins s → Fed s w
      → FitAll false [] around
      → IsLeaf k y → Fed good (after_leaf w around k y)
  leaf-fed s w around k y b h fits leaf =
      let p : Fed s (parted w) = parted-fed s w b h in
      record {
        normal = shown-normal n in_item (parted w) p.normal around k y fits leaf;
        is_flat = p.is_flat;
        waits = refl;
        stands = begins-stands s (parted w) b p.stands;
      }

  -- ---- characters

  white-fed : (s : Wait) (w : Writing) (c : ℕ) (k : Bool) → Fed s w → scalar c ≡ true → is_white c ≡ true
      → Fed s (spaced_out w c k)
  white-fed s w c k h u e = record {
    normal = spaced_out-normal n in_item w h.normal c k u e;
    is_flat = h.is_flat;
    waits = at s h.waits;
    stands = same s h.stands;
  }
    where
      at : (t : Wait) → Waits flat t w → Waits flat t (spaced_out w c k)
      at alone g = g
      at good g = g
      at waiting g = g
      at lone g = g
      at after g = g

      same : (t : Wait) → Stands t w → Stands t (spaced_out w c k)
      same alone g = g
      same good g = g
      same waiting g = g
      same lone g = g
      same after g = g

  one-good : (b : Bool) (w : Writing) → Fed (cond b good good) w → Fed good w
  one-good true w h = h
  one-good false w h = h

  characters-fed : (cs : List ℕ) (s : Wait) (w : Writing) (around : List Around) (k : Bool) → Begins s → Fed s w
      → FitAll false [] around → scalars cs ≡ true → list_all is_text_character cs ≡ true
      → Fed (cond (list_all is_white cs) s good) (fold (λ v c. after_character v around k c) w cs)
  characters-fed [] s w around k b h fits u t = h
  characters-fed (c ∷ cs) s w around k b h fits u t =
      let all = both-true (scalar c) (scalars cs) u in
      let seen = both-true (is_text_character c) (list_all is_text_character cs) t in
      let y : Inline = text_or_code k (encode_utf8 c) in
      test (is_white c)
      (λ e. subst (λ (b : Bool). Fed (cond (b && list_all is_white cs) s good)
      (fold (λ v c. after_character v around k c) (cond b (spaced_out w c k) (after_leaf w around k y)) cs)) (sym e)
      (characters-fed cs s (spaced_out w c k) around k b (white-fed s w c k h all.0 e) fits all.1 seen.1))
      (λ e. subst (λ (b : Bool). Fed (cond (b && list_all is_white cs) s good)
      (fold (λ v c. after_character v around k c) (cond b (spaced_out w c k) (after_leaf w around k y)) cs)) (sym e)
      (one-good (list_all is_white cs) (fold (λ v c. after_character v around k c) (after_leaf w around k y) cs)
      (characters-fed cs good (after_leaf w around k y) around k tt
      (leaf-fed s w around k y b h fits
      (word-leaf k (encode_utf8 c) (character-word c all.0 e (from-not (c == null) seen.0)))) fits all.1 seen.1)))

  -- ---- breaks, boxes and anchors

  break-fed : (s : Wait) (w : Writing) → Rests flat s → Fed s w → Fed s (broken_off w)
  break-fed s w r h = record {
    normal = broken_off-normal n in_item w h.normal;
    is_flat = h.is_flat;
    waits = at s r h.waits;
    stands = same s h.stands;
  }
    where
      no-wait : (b : Bool) → Rests b waiting → b ≡ false → (broken_off w).breaks ≡ 0
      no-wait true r e = true-false e
      no-wait false r e = absurd r

      at : (t : Wait) → Rests flat t → Waits flat t w → Waits flat t (broken_off w)
      at alone r g = g
      at good r g = g
      at waiting r g = λ e. no-wait flat r e
      at lone r g = absurd (subst (λ (b : Bool). Rests b lone) g.0 r)
      at after r g = g

      same : (t : Wait) → Stands t w → Stands t (broken_off w)
      same alone g = g
      same good g = g
      same waiting g = g
      same lone g = g
      same after g = g

  box-fed : (s : Wait) (w : Writing) (b : Bool) → Rests flat s → Fed s w → Fed s (tasked w b)
  box-fed s w b r h = record {
    normal = tasked-normal n in_item w h.normal b;
    is_flat = either-flat (is_task_here w);
    waits = at s r h.waits;
    stands = kept s (rests-begins flat s w r h.waits) h.stands;
  }
    where
      either-flat : (c : Bool) → (cond c (with_task (boxed w) b) (boxed w)).is_flat ≡ flat
      either-flat true = h.is_flat
      either-flat false = h.is_flat

      nothing : (c : Bool) → is_leaf w.latest ≡ false
          → is_leaf (cond c (with_task (boxed w) b) (boxed w)).latest ≡ false
      nothing true g = refl
      nothing false g = g

      same : (c : Bool) → w.anchors ≡ [] → (cond c (with_task (boxed w) b) (boxed w)).anchors ≡ []
      same true g = g
      same false g = g

      none : (c : Bool) → (cond c (with_task (boxed w) b) (boxed w)).breaks ≡ 0
      none true = refl
      none false = refl

      at : (t : Wait) → Rests flat t → Waits flat t w → Waits flat t (tasked w b)
      at alone r g = (g.0, nothing (is_task_here w) g.1, same (is_task_here w) g.2)
      at good r g = same (is_task_here w) g
      at waiting r g = λ e. none (is_task_here w)
      at lone r g = (g.0, nothing (is_task_here w) g.1, none (is_task_here w))
      at after r g = (g.0, nothing (is_task_here w) g.1)

      done : (c : Bool) → these_stand false (value.blocks_of w.done) ≡ true
          → these_stand false (value.blocks_of (cond c (with_task (boxed w) b) (boxed w)).done) ≡ true
      done true g = g
      done false g = g

      kept : (t : Wait) → Begins t → Stands t w → Stands t (tasked w b)
      kept alone i g = done (is_task_here w) g
      kept good i g = done (is_task_here w) g
      kept waiting i g = done (is_task_here w) g
      kept lone i g = done (is_task_here w) g
      kept after i g = absurd i

  place-fed : (s : Wait) (w : Writing) (id : List ℕ) → Begins s → IsId id → Fed s w
      → Fed (with_place s) (with_anchor w id)
  place-fed s w id b i h = record {
    normal = anchor-normal n in_item w h.normal id i;
    is_flat = h.is_flat;
    waits = at s b h.waits;
    stands = same s b h.stands;
  }
    where
      at : (t : Wait) → Begins t → Waits flat t w → Waits flat (with_place t) (with_anchor w id)
      at alone b g = (g.0, g.1, refl)
      at good b g = λ e. refl
      at waiting b g = λ e. refl
      at lone b g = (g.0, g.1, refl)
      at after b g = absurd b

      same : (t : Wait) → Begins t → Stands t w → Stands (with_place t) (with_anchor w id)
      same alone b g = g
      same good b g = g
      same waiting b g = g
      same lone b g = g
      same after b g = absurd b

  -- ---- edges and blocks

  box-is-fresh : (m : Met) → is_box m ≡ true → is_fresh m ≡ true
  box-is-fresh met.Nothing e = false-true e
  box-is-fresh met.Box e = refl
  box-is-fresh met.More e = false-true e

either-fed : (n : ℕ) (in_item flat : Bool) (s : Wait) (b : Bool) (v w : Writing)
    → (b ≡ true → IsFed n in_item flat s v) → (b ≡ false → IsFed n in_item flat s w)
    → IsFed n in_item flat s (cond b v w)
either-fed n in_item flat s true v w g h = g refl
either-fed n in_item flat s false v w g h = h refl

-- where the paragraph ends
module _ (n : ℕ) (in_item : Bool) (w : Writing) (normal : IsNormalWriting n in_item w) where
  abbrev over : Writing
  over = record (ended w) { met = met.Nothing }

  -- with nothing behind it
  ended-last : these_stand true (value.blocks_of (w.done ++ open_paragraph w)) ≡ true
      → these_stand true (value.blocks_of ((w.done ++ open_paragraph w) ++ [])) ≡ true
  ended-last h =
      subst (λ (bs : List Block). these_stand true (value.blocks_of bs) ≡ true)
      (sym (append-nil (w.done ++ open_paragraph w))) h

  -- the blocks are as they may be once the paragraph has ended, whether it has or not
  edge-stands : (s : Wait) → Waits false s w → Ends false s → Stands s w → Stands (past_edge s) over
  edge-stands alone h e k = open-stands w normal.state h.2 k
  edge-stands good h e k = open-stands w normal.state h k
  edge-stands waiting h e k = absurd e
  edge-stands lone h e k = ended-last (last-stands w.done (whole_content w) k)
  edge-stands after h e k = ended-last k

  same-stands : (s : Wait) → Waits false s w → Ends false s → Stands s w → Stands (past_edge s) w
  same-stands alone h e k = k
  same-stands good h e k = k
  same-stands waiting h e k = absurd e
  same-stands lone h e k = last-stands w.done (whole_content w) k
  same-stands after h e k = k

  edge-waits : (s : Wait) → Ends false s → Waits false (past_edge s) over
  edge-waits alone e = (refl, refl, refl)
  edge-waits good e = (refl, refl, refl)
  edge-waits waiting e = absurd e
  edge-waits lone e = (refl, refl)
  edge-waits after e = (refl, refl)

  same-waits : (s : Wait) → Waits false s w → Ends false s → is_leaf w.latest ≡ false
      → Waits false (past_edge s) w
  same-waits alone h e l = h
  same-waits good h e l = (refl, l, h)
  same-waits waiting h e l = absurd e
  same-waits lone h e l = (refl, l)
  same-waits after h e l = h

  block-stands : (s : Wait) (b : Block) → Waits false s w → Follows false s b → Stands s w
      → these_stand false (value.blocks_of ((w.done ++ open_paragraph w) ++ b ∷ [])) ≡ true
  block-stands alone b h f k =
      block-behind (w.done ++ open_paragraph w) b f (open-stands w normal.state h.2 k)
  block-stands good b h f k =
      block-behind (w.done ++ open_paragraph w) b f (open-stands w normal.state h k)
  block-stands waiting b h f k = absurd f
  block-stands lone b h f k =
      code-behind (w.done ++ open_paragraph w) b f (last-stands w.done (whole_content w) k)
  block-stands after b h f k = code-behind (w.done ++ open_paragraph w) b f k

module _ (n : ℕ) (in_item : Bool) where
  edge-fed : (flat : Bool) (s : Wait) (w : Writing) → Ends flat s → IsFed n in_item flat s w
      → IsFed n in_item flat (cond flat s (past_edge s)) (edged w)
  edge-fed true s w r h =
      subst (λ (b : Bool). IsFed n in_item true s (cond b (broken_off w)
      (cond (is_boxed_item w) w (record (ended w) { met = met.Nothing })))) (sym h.is_flat)
      (break-fed n in_item true s w tt h)
  edge-fed false s w r h =
      let settled : IsSettled w = ends-settled s w r h.waits in
      let box_fresh : is_boxed_item w ≡ true → is_leaf w.latest ≡ false =
      λ e. h.normal.fresh (box-is-fresh n in_item false w.met
      (both-true (w.in_item && (length w.done == 0)) (is_box w.met) e).1) in
      subst (λ (b : Bool). IsFed n in_item false (past_edge s) (cond b (broken_off w)
      (cond (is_boxed_item w) w (record (ended w) { met = met.Nothing })))) (sym h.is_flat)
      (either-fed n in_item false (past_edge s) (is_boxed_item w) w (record (ended w) { met = met.Nothing })
      (λ e. record {
        normal = h.normal;
        is_flat = h.is_flat;
        waits = same-waits n in_item w h.normal s h.waits r (box_fresh e);
        stands = same-stands n in_item w h.normal s h.waits r h.stands;
      })
      (λ e. record {
        normal = edge-normal n in_item w h.normal settled;
        is_flat = h.is_flat;
        waits = edge-waits n in_item w h.normal s r;
        stands = edge-stands n in_item w h.normal s h.waits r h.stands;
      }))

  block-fed : (flat : Bool) (s : Wait) (w : Writing) (b : Block) → Follows flat s b → Fine n false b
      → IsFed n in_item flat s w → IsFed n in_item flat (cond flat s alone) (blocked w b)
  block-fed true s w b r f h =
      subst (λ (c : Bool). IsFed n in_item true s (cond c (broken_off w)
      (record (ended w) { done = (ended w).done ++ b ∷ []; met = met.Nothing }))) (sym h.is_flat)
      (break-fed n in_item true s w tt h)
  block-fed false s w b r f h =
      subst (λ (c : Bool). IsFed n in_item false alone (cond c (broken_off w)
      (record (ended w) { done = (ended w).done ++ b ∷ []; met = met.Nothing }))) (sym h.is_flat)
      (record {
        normal = block-normal n in_item w h.normal (ends-settled s w (follows-ends s b r) h.waits) (b ∷ []) (f, tt);
        is_flat = h.is_flat;
        waits = (refl, refl, refl);
        stands = block-stands n in_item w h.normal s b h.waits r h.stands;
      })

  part-fed : (flat : Bool) (p : Part) (s : Wait) (w : Writing) → FinePart n p → Allowed flat s p
      → IsFed n in_item flat s w → IsFed n in_item flat (step flat s p) (fed w p)
  part-fed flat (run t around k) s w f a h =
      characters-fed n in_item flat (chars t) s w around k a h f.1 f.0.scalar f.0.seen
  part-fed flat (picture address title description around) s w f a h =
      leaf-fed n in_item flat s w around false (image address title description) a h f.3 (refl, f.0, f.1, f.2)
  part-fed flat break s w f a h = break-fed n in_item flat s w a h
  part-fed flat (place id) s w f a h =
      place-fed n in_item flat s (parted w) id a f (parted-fed n in_item flat s w a h)
  part-fed flat (box is_checked) s w f a h =
      let p = parted-fed n in_item flat s w (rests-begins flat s w a h.waits) h in
      box-fed n in_item flat s (parted w) is_checked a p
  part-fed flat edge s w f a h = edge-fed flat s w a h
  part-fed flat (whole b) s w f a h = block-fed flat s w b a f h

  -- what was fed, with nothing that waits
  pub record IsReady (flat : Bool) (w : Writing) : Type 0 where
    pub wait : Wait
    pub settles : Settles flat wait
    pub fed : IsFed n in_item flat wait w

  parts-fed : (flat : Bool) (ps : List Part) (s : Wait) (w : Writing) → FineFrom flat n s ps
      → IsFed n in_item flat s w → IsReady flat (fed_all w ps)
  parts-fed flat [] s w f h = record { wait = s; settles = f; fed = h }
  parts-fed flat (p ∷ ps) s w f h =
      parts-fed flat ps (step flat s p) (fed w p) f.2 (part-fed flat p s w f.0 f.1 h)

  -- more of it
  pub more-ready : (flat : Bool) (ps : List Part) (w : Writing) → FineParts flat n ps → IsReady flat w
      → IsReady flat (fed_all w ps)
  more-ready flat ps w f h =
      parts-fed flat ps h.wait w (settled-append flat n h.wait ps h.settles f) h.fed

  pub begun-ready : (flat : Bool) (ps : List Part) → FineParts flat n ps
      → IsReady flat (fed_all (begun in_item flat) ps)
  begun-ready flat ps f = parts-fed flat ps good (begun in_item flat) f (nothing-fed n in_item flat)

  -- ---- blocks and lines

  pub ready-blocks : (w : Writing) → IsReady false w → FineBlocks n in_item (blocks_in w)
  ready-blocks w h =
      blocks-fine n in_item (ended w).done
      (ended-normal n in_item w h.fed.normal
      (ends-settled h.wait w (settles-ends h.wait h.settles) h.fed.waits)).done
      (settled-stands h.wait w h.fed.normal.state h.settles h.fed.waits h.fed.stands)

-- ---- a document

record IsOver (n : ℕ) (w : Writing) : Type 0 where
  wait : Wait
  closes : Closes wait
  fed : IsFed n false false wait w

over-fed : (n : ℕ) (ps : List Part) (s : Wait) (w : Writing) → ClosesFrom n s ps → IsFed n false false s w
    → IsOver n (fed_all w ps)
over-fed n [] s w f h = record { wait = s; closes = f; fed = h }
over-fed n (p ∷ ps) s w f h =
    over-fed n ps (step false s p) (fed w p) f.2 (part-fed n false false p s w f.0 f.1 h)

closes-ends : (s : Wait) → Closes s → Ends false s
closes-ends alone h = tt
closes-ends good h = tt
closes-ends waiting h = absurd h
closes-ends lone h = absurd h
closes-ends after h = tt

over-stands : (n : ℕ) (w : Writing) → IsNormalWriting n false w → (s : Wait) → Closes s → Waits false s w
    → Stands s w → these_stand true (value.blocks_of (w.done ++ open_paragraph w)) ≡ true
over-stands n w normal alone c h k = stands-last (w.done ++ open_paragraph w) (open-stands w normal.state h.2 k)
over-stands n w normal good c h k = stands-last (w.done ++ open_paragraph w) (open-stands w normal.state h k)
over-stands n w normal waiting c h k = absurd c
over-stands n w normal lone c h k = absurd c
over-stands n w normal after c h k = k

-- what is so of all of it
pub record FineDocument (n : ℕ) (d : Blocks) : Type 0 where
  pub row : FineRow n false d
  pub stands : these_stand true d ≡ true

pub document-of : (n : ℕ) (ps : List Part) → ClosesFrom n good ps → FineDocument n (blocks_of false ps)
document-of n ps f =
    let w : Writing = fed_all (begun false false) ps in
    let h : IsOver n w = over-fed n ps good (begun false false) f (nothing-fed n false false) in
    record {
      row = row-fine n false (ended w).done
          (ended-normal n false w h.fed.normal
          (ends-settled h.wait w (closes-ends h.wait h.closes) h.fed.waits)).done;
      stands = over-stands n w h.fed.normal h.wait h.closes h.fed.waits h.fed.stands;
    }

pub blocks-of : (n : ℕ) (in_item : Bool) (ps : List Part) → FineParts false n ps
    → FineBlocks n in_item (blocks_of in_item ps)
blocks-of n in_item ps f =
    ready-blocks n in_item (fed_all (begun in_item false) ps) (begun-ready n in_item false ps f)

pub line-of : (n : ℕ) (ps : List Part) → FineParts true n ps → IsLineWell (line_of ps)
line-of n ps f =
    let h = begun-ready n false true ps f in
    line-normal-in n (fed_all (begun false true) ps) h.fed.normal
    (none h.wait (fed_all (begun false true) ps) h.settles h.fed.waits)
  where
    none : (s : Wait) (w : Writing) → Settles true s → Waits true s w → w.anchors ≡ []
    none good w g h = h
    none alone w g h = absurd g
    none waiting w g h = absurd g
    none lone w g h = absurd g
    none after w g h = absurd g
