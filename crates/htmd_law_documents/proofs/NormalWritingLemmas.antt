-- What is begun is normal, whatever is fed into it.
use Rattle.std.proofs.Common.{◌≡◌, ℕ, zero, suc, Bool, true, false, cond, ◌&&◌, ◌||◌, List, [], ◌∷◌, ◌++◌, length}
use Rattle.std.proofs.Common.{refl, sym, ◌∙◌, ap, arith, subst, map, take, Option, Some, None, inl, inr, ◌⊎◌}
use Rattle.std.specs.Prelude.{◌==◌}
use Rattle.std.proofs.Math.Utf8.{scalar}
use Rattle.std.proofs.lemmas.Bool.Decides.{nat_tests}
use Rattle.htmd_lexical.specs.Characters.{space}
use Rattle.htmd_lexical.proofs.Cases.{test}
use Rattle.htmd_document.specs.Documents.{Inline, text, code, image, line_break, task, link, anchor, Inlines}
use Rattle.htmd_document.specs.Documents.{no_inlines, inline, Block}
use Rattle.htmd_document.specs.Documents as value
use Rattle.htmd_flow.specs.Nesting.{Wrapper, wrapper_of, is_same, shared, before_link, behind, text_or_code}
use Rattle.htmd_flow.specs.Nesting.{one_inline, joined}
use Rattle.htmd_flow.specs.Paragraphs.{Writing, begun, is_leaf, is_code_leaf, anchored, shown_content, whole_content}
use Rattle.htmd_flow.specs.Paragraphs.{paragraph_of, open_paragraph, ended, broken_off, spaced_out}
use Rattle.htmd_flow.specs.Paragraphs.{white_behind, is_code_gap, gap_after_task, gap_before, gap_behind, latest_of}
use Rattle.htmd_flow.specs.Paragraphs.{shown, is_task_here, with_box, boxed, with_task}
use Rattle.htmd_flow.specs.Paragraphs.{tasked, with_anchor}
use Rattle.htmd_flow.specs.declared.paragraphs.Met.{Met}
use Rattle.htmd_flow.specs.declared.paragraphs.Met.TheVariants as met
use Rattle.htmd_flow.specs.Parts.{Around}
use Rattle.htmd_shown.specs.Spaces.{is_white}
use Rattle.htmd_flow.proofs.ParagraphsLemmas.{same-wrapper}
use Rattle.htmd_document.specs.NormalInlines.{is_text, is_break, begins_with_space, ends_with_space, has_none}
use Rattle.htmd_document.specs.NormalInlines.{first_passes, is_normal_line, are_anchors}
use Rattle.htmd_document.specs.NormalInlines.{anchors_stand_well}
use Rattle.htmd_law_documents.proofs.VisibleLemmas.{both-true}
use Rattle.htmd_law_documents.proofs.NormalTextLemmas.{and-true, not-false, true-false, false-true}
use Rattle.htmd_law_documents.proofs.NormalLineLemmas.{Ends, ends-normal, ends-last, ends-some, FitAll, Held, Open}
use Rattle.htmd_law_documents.proofs.NormalLineLemmas.{IsLast, IsShut, IsWhole, held-whole, leaf-shuts, any-shuts}
use Rattle.htmd_law_documents.proofs.NormalLineLemmas.{held-open, NoLinks, before-links, leaf-no_break}
use Rattle.htmd_law_documents.proofs.NormalBeginLemmas.{is_begun, BeginsAs, behind-begins, normal-begun}
use Rattle.htmd_law_documents.proofs.NormalStandLemmas.{Stands, stand-well}
use Rattle.htmd_law_documents.proofs.NormalLeafLemmas.{IsLeaf, IsGap, leaf-begins, leaf-last, one-ends, IsId, AllIds}
use Rattle.htmd_law_documents.proofs.NormalLeafLemmas.{wrapped-first, wrapped-first-break, wrapped-held, put-after}
use Rattle.htmd_law_documents.proofs.NormalLeafLemmas.{leaf-differs, with_ids, ids-first, anchor-put, ids-put}
use Rattle.htmd_law_documents.proofs.NormalLeafLemmas.{leaf-shown, put-stands}
use Rattle.htmd_law_documents.proofs.NormalPutLemmas.{put, put_gap, put-begins, leaf-put, AreAlike, code-held}
use Rattle.htmd_law_documents.proofs.NormalPutLemmas.{wait-held, IsPut}
use Rattle.htmd_law_documents.proofs.NormalCharacterLemmas.{IsWhite, white-none, white-text, white-spaced, space-text}
use Rattle.htmd_law_documents.proofs.NormalBlockLemmas.{IsLineWell, IsTaskLine, IsLineParagraph, IsParagraph, AllFine}
use Rattle.htmd_law_documents.proofs.NormalBlockLemmas.{fine-more, fine-first}

-- ---- what is begun

-- where the next leaf may go, with these anchors before it
abbrev pub HeldFor : List (List ℕ) → Bool → List Wrapper → Inlines → Type 0
HeldFor [] k ms xs = Held k false [] ms xs
HeldFor (id ∷ ids) k ms xs = Open false [] ms xs × NoLinks ms

for-whole : (ids : List (List ℕ)) (k : Bool) (ms : List Wrapper) (xs : Inlines) → HeldFor ids k ms xs
    → IsWhole false [] xs
for-whole [] k ms xs h = held-whole (λ l r x. IsLast k x) (leaf-shuts k) false [] ms xs h
for-whole (id ∷ ids) k ms xs h = held-whole IsShut any-shuts false [] ms xs h.0

-- with one more
for-open : (ids : List (List ℕ)) (k : Bool) (ms : List Wrapper) (xs : Inlines) → HeldFor ids k ms xs
    → Open false [] (before_link ms) xs
for-open [] k ms xs h = held-open (λ l r x. IsLast k x) (leaf-shuts k) false [] ms xs h
for-open (id ∷ ids) k ms xs h = held-open IsShut any-shuts false [] ms xs h.0

for-more : (ids : List (List ℕ)) (id : List ℕ) (k : Bool) (ms : List Wrapper) (xs : Inlines) → Open false [] ms xs
    → NoLinks ms → HeldFor (ids ++ id ∷ []) k ms xs
for-more [] id k ms xs o n = (o, n)
for-more (i ∷ ids) id k ms xs o n = (o, n)

-- a line that is begun, where the next leaf may go
pub record IsLine (ids : List (List ℕ)) (k : Bool) (ms : List Wrapper) (xs : Inlines) : Type 0 where
  pub held : HeldFor ids k ms xs
  pub no_space : first_passes begins_with_space xs ≡ false
  pub no_break : first_passes is_break xs ≡ false
  pub stands : Stands false xs

-- a task with what stands after it so far
pub record IsTasked (ids : List (List ℕ)) (k : Bool) (ms : List Wrapper) (xs : Inlines) : Type 0 where
  pub is_checked : Bool
  pub rest : Inlines
  pub is : xs ≡ inline (task is_checked) rest
  pub begins : first_passes begins_with_space rest ≡ true
  pub held : HeldFor ids k ms rest
  pub stands : Stands false rest

-- an item's first block is begun
pub record IsFirst (w : Writing) : Type 0 where
  pub in_item : w.in_item ≡ true
  pub alone : w.done ≡ []

-- what showed last in the paragraph
pub data State (w : Writing) : Type 0 where
  at_nothing : w.latest ≡ (begun false false).latest → w.content ≡ no_inlines → State w
  at_task : (is_checked : Bool) → w.latest ≡ (with_task (begun true false) false).latest → IsFirst w
      → w.content ≡ one_inline (task is_checked) → State w
  at_leaf : (k : Bool) → w.latest ≡ latest_of k → IsLine w.anchors k w.around w.content → State w
  in_task : (k : Bool) → w.latest ≡ latest_of k → IsFirst w → IsTasked w.anchors k w.around w.content
      → State w

-- nothing but a box was met since the last edge
abbrev pub is_fresh : Met → Bool
is_fresh met.Nothing = true
is_fresh met.Box = true
is_fresh met.More = false

pub record IsNormalWriting (n : ℕ) (in_item : Bool) (w : Writing) : Type 0 where
  pub item : w.in_item ≡ in_item
  pub done : AllFine n in_item w.done
  pub gap : IsWhite w.gap.white
  pub ids : AllIds w.anchors
  pub fresh : is_fresh w.met ≡ true → is_leaf w.latest ≡ false
  pub state : State w

-- it may end here
abbrev pub IsSettled : Writing → Type 0
IsSettled w = (w.anchors ≡ []) ⊎ (is_leaf w.latest ≡ false)

pub nothing-normal : (n : ℕ) (in_item flat : Bool) → IsNormalWriting n in_item (begun in_item flat)
nothing-normal n in_item flat = record {
  item = refl;
  done = tt;
  gap = white-none;
  ids = tt;
  fresh = λ e. refl;
  state = at_nothing refl refl;
}

first-kept : (v w : Writing) → v.in_item ≡ w.in_item → v.done ≡ w.done → IsFirst w → IsFirst v
first-kept v w e f h = record { in_item = e ∙ h.in_item; alone = f ∙ h.alone }

module _ (v w : Writing) (item : v.in_item ≡ w.in_item) (done : v.done ≡ w.done) (latest : v.latest ≡ w.latest)
    (content : v.content ≡ w.content) (around : v.around ≡ w.around) (anchors : v.anchors ≡ w.anchors) where
  line-kept : (k : Bool) → IsLine w.anchors k w.around w.content → IsLine v.anchors k v.around v.content
  line-kept k h =
      subst (λ (ids : List (List ℕ)). IsLine ids k v.around v.content) (sym anchors)
      (subst (λ (ms : List Wrapper). IsLine w.anchors k ms v.content) (sym around)
      (subst (λ (xs : Inlines). IsLine w.anchors k w.around xs) (sym content) h))

  tasked-kept : (k : Bool) → IsTasked w.anchors k w.around w.content → IsTasked v.anchors k v.around v.content
  tasked-kept k h =
      subst (λ (ids : List (List ℕ)). IsTasked ids k v.around v.content) (sym anchors)
      (subst (λ (ms : List Wrapper). IsTasked w.anchors k ms v.content) (sym around)
      (subst (λ (xs : Inlines). IsTasked w.anchors k w.around xs) (sym content) h))

  state-kept : State w → State v
  state-kept (at_nothing e h) = at_nothing (latest ∙ e) (content ∙ h)
  state-kept (at_task b e f h) = at_task b (latest ∙ e) (first-kept v w item done f) (content ∙ h)
  state-kept (at_leaf k e h) = at_leaf k (latest ∙ e) (line-kept k h)
  state-kept (in_task k e f h) = in_task k (latest ∙ e) (first-kept v w item done f) (tasked-kept k h)

-- ---- lines

whole-line : (xs : Inlines) → IsWhole false [] xs → first_passes begins_with_space xs ≡ false
    → first_passes is_break xs ≡ false → is_normal_line xs ≡ true
whole-line xs w s b =
    and-true (and-true (and-true (and-true (not-false s) (not-false w.no_space)) (not-false b)) (not-false w.no_break))
    w.normal

line-normal : (ids : List (List ℕ)) (k : Bool) (ms : List Wrapper) (xs : Inlines) → IsLine ids k ms xs
    → is_normal_line xs ≡ true
line-normal ids k ms xs h = whole-line xs (for-whole ids k ms xs h.held) h.no_space h.no_break

line-paragraph : (ids : List (List ℕ)) (k : Bool) (ms : List Wrapper) (xs : Inlines) → IsLine ids k ms xs
    → IsLineParagraph xs
line-paragraph ids k ms xs h =
    (line-normal ids k ms xs h, (for-whole ids k ms xs h.held).some, later (are_anchors xs) (stand-well xs h.stands))
  where
    later : (a : Bool) {b : Bool} → b ≡ true → (a || b) ≡ true
    later true e = refl
    later false e = e

task-whole : (ids : List (List ℕ)) (k : Bool) (ms : List Wrapper) (xs : Inlines) → IsTasked ids k ms xs
    → IsTaskLine xs
task-whole ids k ms xs h = record {
  is_checked = h.is_checked;
  rest = h.rest;
  is = h.is;
  begins = h.begins;
  whole = for-whole ids k ms h.rest h.held;
  stands = h.stands;
}

-- ---- anchors alone

joined-anchors : (xs : Inlines) (id : List ℕ) → are_anchors xs ≡ true
    → are_anchors (joined xs (anchor id)) ≡ true
joined-anchors no_inlines id h = refl
joined-anchors (inline (anchor i) no_inlines) id h = refl
joined-anchors (inline (anchor i) (inline x xs)) id h = joined-anchors (inline x xs) id h
joined-anchors (inline (text s) xs) id h = false-true h
joined-anchors (inline (code s) xs) id h = false-true h
joined-anchors (inline (value.formatted f ys) xs) id h = false-true h
joined-anchors (inline (link a t ys) xs) id h = false-true h
joined-anchors (inline (image a t d) xs) id h = false-true h
joined-anchors (inline line_break xs) id h = false-true h
joined-anchors (inline (task b) xs) id h = false-true h

all-anchors : (ids : List (List ℕ)) (xs : Inlines) → are_anchors xs ≡ true
    → are_anchors (with_ids xs ids) ≡ true
all-anchors [] xs h = h
all-anchors (id ∷ ids) xs h = all-anchors ids (joined xs (anchor id)) (joined-anchors xs id h)

-- what they begin with
record AnchorsBegin (xs : Inlines) : Type 0 where
  begun : is_begun xs ≡ true
  no_space : first_passes begins_with_space xs ≡ false
  no_break : first_passes is_break xs ≡ false

anchors-begin : (xs : Inlines) → are_anchors xs ≡ true → has_none xs ≡ false → AnchorsBegin xs
anchors-begin no_inlines h e = true-false e
anchors-begin (inline (anchor i) xs) h e = record { begun = refl; no_space = refl; no_break = refl }
anchors-begin (inline (text s) xs) h e = false-true h
anchors-begin (inline (code s) xs) h e = false-true h
anchors-begin (inline (value.formatted f ys) xs) h e = false-true h
anchors-begin (inline (link a t ys) xs) h e = false-true h
anchors-begin (inline (image a t d) xs) h e = false-true h
anchors-begin (inline line_break xs) h e = false-true h
anchors-begin (inline (task b) xs) h e = false-true h

record AreAnchors (xs : Inlines) : Type 0 where
  last : List ℕ
  ends : Ends false [] xs (anchor last)
  id : IsId last
  all : are_anchors xs ≡ true
  begin : AnchorsBegin xs

some-anchors : (id : List ℕ) (ids : List (List ℕ)) → AllIds (id ∷ ids)
    → AreAnchors (with_ids no_inlines (id ∷ ids))
some-anchors id ids all =
    let xs : Inlines = with_ids no_inlines (id ∷ ids) in
    let end = ids-first [] id ids all in
    let are : are_anchors xs ≡ true = all-anchors (id ∷ ids) no_inlines refl in
    record {
      last = end.0;
      ends = end.1;
      id = end.2;
      all = are;
      begin = anchors-begin xs are (ends-some false [] xs (anchor end.0) end.1);
    }

anchors-paragraph : (xs : Inlines) → AreAnchors xs → IsLineParagraph xs
anchors-paragraph xs h =
    let i : Inline = anchor h.last in
    let whole : IsWhole false [] xs = record {
      normal = ends-normal false [] xs i h.ends h.id;
      some = ends-some false [] xs i h.ends;
      no_space = ends-last false [] ends_with_space xs i h.ends;
      no_break = ends-last false [] is_break xs i h.ends;
    } in
    (whole-line xs whole h.begin.no_space h.begin.no_break, whole.some, ap (λ b. b || anchors_stand_well xs) h.all)

-- ---- where paragraphs end

opened : (n : ℕ) (in_item : Bool) (xs : Inlines) → (has_none xs ≡ false → IsParagraph in_item xs)
    → AllFine n in_item (paragraph_of xs)
opened n in_item no_inlines h = tt
opened n in_item (inline x xs) h = ((h refl, omega arith), tt)

ids-open : (n : ℕ) (in_item : Bool) (ids : List (List ℕ)) → AllIds ids
    → AllFine n in_item (paragraph_of (anchored 0 no_inlines [] ids))
ids-open n in_item [] h = tt
ids-open n in_item (id ∷ ids) h =
    let xs : Inlines = with_ids no_inlines (id ∷ ids) in
    opened n in_item xs (λ e. inl (anchors-paragraph xs (some-anchors id ids h)))

module _ (n : ℕ) (in_item : Bool) (w : Writing) (h : IsNormalWriting n in_item w) where
  abbrev Opens : Inlines → List (List ℕ) → Type 0
  Opens xs ids = AllFine n in_item (w.done ++ paragraph_of (anchored 0 xs [] ids))

  -- nothing shows, or anchors alone
  open-unshown : is_leaf w.latest ≡ false → Opens (shown_content w) w.anchors
  open-unshown e =
      subst (λ (b : Bool). Opens (cond b w.content no_inlines) w.anchors) (sym e)
      (fine-more n in_item w.done (paragraph_of (anchored 0 no_inlines [] w.anchors)) h.done
      (ids-open n false w.anchors h.ids))

  latest-leaf : (k : Bool) → is_leaf (latest_of k) ≡ true
  latest-leaf true = refl
  latest-leaf false = refl

  open-shown : (k : Bool) → w.latest ≡ latest_of k → AllFine n in_item (w.done ++ paragraph_of w.content)
      → Opens (shown_content w) []
  open-shown k e a =
      subst (λ (b : Bool). Opens (cond b w.content no_inlines) []) (sym (ap is_leaf e ∙ latest-leaf k)) a

  open-state : State w → Opens (shown_content w) []
  open-state (at_nothing e f) =
      subst (λ (b : Bool). Opens (cond b w.content no_inlines) []) (sym (ap is_leaf e))
      (fine-more n in_item w.done [] h.done tt)
  open-state (at_task b e f g) =
      subst (λ (c : Bool). Opens (cond c w.content no_inlines) []) (sym (ap is_leaf e))
      (fine-more n in_item w.done [] h.done tt)
  open-state (at_leaf k e f) =
      open-shown k e (fine-more n in_item w.done (paragraph_of w.content) h.done
      (opened n false w.content (λ s. inl (line-paragraph w.anchors k w.around w.content f))))
  open-state (in_task k e f g) =
      open-shown k e (fine-first n in_item w.done (paragraph_of w.content) f.alone
      (opened n in_item w.content (λ s. inr (sym h.item ∙ f.in_item, task-whole w.anchors k w.around w.content g))))

  -- the paragraph that is begun, if it is one, after the blocks so far
  open-fine : IsSettled w → AllFine n in_item (w.done ++ open_paragraph w)
  open-fine (inl e) =
      subst (λ (ids : List (List ℕ)). Opens (shown_content w) ids) (sym e) (open-state h.state)
  open-fine (inr e) = open-unshown e

  pub ended-normal : IsSettled w → IsNormalWriting n in_item (ended w)
  ended-normal s = record {
    item = h.item;
    done = open-fine s;
    gap = white-none;
    ids = tt;
    fresh = λ e. refl;
    state = at_nothing refl refl;
  }

  -- after a block more
  pub block-normal : IsSettled w → (bs : List Block) → AllFine n false bs
      → IsNormalWriting n in_item (record (ended w) { done = (ended w).done ++ bs; met = met.Nothing })
  block-normal s bs b = record {
    item = h.item;
    done = fine-more n in_item (w.done ++ open_paragraph w) bs (open-fine s) b;
    gap = white-none;
    ids = tt;
    fresh = λ e. refl;
    state = at_nothing refl refl;
  }

  pub edge-normal : IsSettled w → IsNormalWriting n in_item (record (ended w) { met = met.Nothing })
  edge-normal s = record {
    item = h.item;
    done = open-fine s;
    gap = white-none;
    ids = tt;
    fresh = λ e. refl;
    state = at_nothing refl refl;
  }

  -- ---- white space, breaks and boxes

  pub broken_off-normal : IsNormalWriting n in_item (broken_off w)
  broken_off-normal = record {
    item = h.item;
    done = h.done;
    gap = white-none;
    ids = h.ids;
    fresh = h.fresh;
    state = state-kept (broken_off w) w refl refl refl refl refl refl h.state;
  }

  pub spaced_out-normal : (c : ℕ) (k : Bool) → scalar c ≡ true → is_white c ≡ true
      → IsNormalWriting n in_item (spaced_out w c k)
  spaced_out-normal c k s white = record {
    item = h.item;
    done = h.done;
    gap = white-spaced w.gap c k h.gap s white;
    ids = h.ids;
    fresh = h.fresh;
    state = state-kept (spaced_out w c k) w refl refl refl refl refl refl h.state;
  }

  box-fresh : (m : Met) → is_fresh (with_box m) ≡ true → is_fresh m ≡ true
  box-fresh met.Nothing e = refl
  box-fresh met.Box e = refl
  box-fresh met.More e = e

  boxed-normal : IsNormalWriting n in_item (boxed w)
  boxed-normal = record {
    item = h.item;
    done = h.done;
    gap = h.gap;
    ids = h.ids;
    fresh = λ e. h.fresh (box-fresh w.met e);
    state = state-kept (boxed w) w refl refl refl refl refl refl h.state;
  }

  here-normal : (b : Bool) → is_task_here w ≡ true → IsNormalWriting n in_item (with_task (boxed w) b)
  here-normal b e =
      let two = both-true (w.in_item && (length w.done == 0)) w.is_blank e in
      let one = both-true w.in_item (length w.done == 0) two.0 in
      record {
        item = h.item;
        done = h.done;
        gap = white-none;
        ids = h.ids;
        fresh = λ f. refl;
        state = at_task b refl (record { in_item = one.0; alone = none w.done one.1 }) refl;
      }
    where
      none : (bs : List Block) → (length bs == 0) ≡ true → bs ≡ []
      none [] e = refl
      none (c ∷ bs) e = absurd (grind (arith, nat_tests))

  pub tasked-normal : (b : Bool) → IsNormalWriting n in_item (tasked w b)
  tasked-normal b = test (is_task_here w)
      (λ e. subst (λ (c : Bool). IsNormalWriting n in_item (cond c (with_task (boxed w) b) (boxed w))) (sym e)
      (here-normal b e))
      (λ e. subst (λ (c : Bool). IsNormalWriting n in_item (cond c (with_task (boxed w) b) (boxed w))) (sym e)
      boxed-normal)

  -- ---- anchors

  ids-more : (ids : List (List ℕ)) (id : List ℕ) → AllIds ids → IsId id → AllIds (ids ++ id ∷ [])
  ids-more [] id a i = (i, tt)
  ids-more (j ∷ ids) id a i = (a.0, ids-more ids id a.1 i)

  anchor-state : (id : List ℕ) → State w → State (with_anchor w id)
  anchor-state id (at_nothing e f) = at_nothing e f
  anchor-state id (at_task b e f g) =
      at_task b e (record { in_item = f.in_item; alone = f.alone }) g
  anchor-state id (at_leaf k e l) =
      at_leaf k e (record {
        held = for-more w.anchors id k (before_link w.around) w.content
            (for-open w.anchors k w.around w.content l.held) (before-links w.around);
        no_space = l.no_space;
        no_break = l.no_break;
        stands = l.stands;
      })
  anchor-state id (in_task k e f t) =
      in_task k e (record { in_item = f.in_item; alone = f.alone }) (record {
        is_checked = t.is_checked;
        rest = t.rest;
        is = t.is;
        begins = t.begins;
        held = for-more w.anchors id k (before_link w.around) t.rest
            (for-open w.anchors k w.around t.rest t.held) (before-links w.around);
        stands = t.stands;
      })

  pub anchor-normal : (id : List ℕ) → IsId id → IsNormalWriting n in_item (with_anchor w id)
  anchor-normal id i = record {
    item = h.item;
    done = h.done;
    gap = h.gap;
    ids = ids-more w.anchors id h.ids i;
    fresh = h.fresh;
    state = anchor-state id h.state;
  }

-- ---- the gap before a leaf

abbrev white_gap : Bool → List ℕ → Option Inline
white_gap c [] = None
white_gap c (b ∷ s) = Some (text_or_code c (b ∷ s))

abbrev gap_of : Writing → List Around → Bool → Option Inline
gap_of w around k =
    cond w.gap.has_break (Some line_break) (white_gap (k && is_code_gap w (map wrapper_of around)) w.gap.white)

white-put : (n : ℕ) (xs : Inlines) (around : List Around) (c : Bool) (s : List ℕ)
    → white_behind n xs around c s ≡ put_gap n xs around (white_gap c s)
white-put n xs around c [] = refl
white-put n xs around c (b ∷ s) = refl

gap-put : (w : Writing) (around : List Around) (k : Bool)
    → gap_before w around k ≡ put_gap (shared w.around (map wrapper_of around)) w.content around (gap_of w around k)
gap-put w around k =
    at (shared w.around (map wrapper_of around)) (k && is_code_gap w (map wrapper_of around)) w.gap.has_break
  where
    at : (n : ℕ) (c b : Bool)
        → cond b (behind n w.content (take n around) line_break) (white_behind n w.content around c w.gap.white)
        ≡ put_gap n w.content around (cond b (Some line_break) (white_gap c w.gap.white))
    at n c true = refl
    at n c false = white-put n w.content around c w.gap.white

-- ---- codes beside each other

-- all wrappers are shared if as many are
alike : (l : Bool) (ms ns : List Wrapper) → (shared ms ns == length ms) ≡ true
    → (shared ms ns == length ns) ≡ true
    → AreAlike l ms ns
alike l [] [] e f = tt
alike l [] (n ∷ ns) e f = absurd (grind (arith, nat_tests))
alike l (m ∷ ms) [] e f = absurd (grind (arith, nat_tests))
alike l (m ∷ ms) (n ∷ ns) e f = test (is_same m n)
    (λ s. (
      same-wrapper m n s,
      alike _ ms ns
          (less (shared ms ns) (length ms) (sym (ap (λ b. cond b (suc (shared ms ns)) 0 == suc (length ms)) s) ∙ e))
          (less (shared ms ns) (length ns) (sym (ap (λ b. cond b (suc (shared ms ns)) 0 == suc (length ns)) s) ∙ f)),
    ))
    (λ s. absurd (none (length ms) (sym (ap (λ b. cond b (suc (shared ms ns)) 0 == suc (length ms)) s) ∙ e)))
  where
    less : (j k : ℕ) → (suc j == suc k) ≡ true → (j == k) ≡ true
    less j k e = grind (arith, nat_tests)

    none : (k : ℕ) → (0 == suc k) ≡ true → ⊥
    none k e = grind (arith, nat_tests)

latest-code : (k : Bool) → is_code_leaf (latest_of k) ≡ k
latest-code true = refl
latest-code false = refl

module _ (w : Writing) (j k : Bool) (around : List Around) (y : Inline) (xs : Inlines)
    (latest : w.latest ≡ latest_of j) (gap : IsWhite w.gap.white) (fits : FitAll false [] around)
    (leaf : IsLeaf k y) where
  abbrev wrappers : List Wrapper
  wrappers = map wrapper_of around

  abbrev n : ℕ
  n = shared w.around wrappers

  abbrev Goes : List (List ℕ) → Option Inline → Type 0
  Goes ids g = IsPut k false [] wrappers xs (behind n (put n xs around g ids) around y)

  -- where code comes after code, without anchors between
  record IsBetweenCodes : Type 0 where
    was : j ≡ true
    none : (length w.anchors == 0) ≡ true
    same : AreAlike false w.around wrappers

  between-codes : is_code_gap w wrappers ≡ true → IsBetweenCodes
  between-codes c =
      let five = both-true (is_code_leaf w.latest && w.gap.is_code && (length w.anchors == 0)
      && (n == length w.around)) (n == length wrappers) c in
      let four = both-true (is_code_leaf w.latest && w.gap.is_code && (length w.anchors == 0)) (n == length w.around)
      five.0 in
      let three = both-true (is_code_leaf w.latest && w.gap.is_code) (length w.anchors == 0) four.0 in
      let two = both-true (is_code_leaf w.latest) w.gap.is_code three.0 in
      record {
        was = sym (latest-code j) ∙ (sym (ap is_code_leaf latest) ∙ two.0);
        none = three.1;
        same = alike false w.around wrappers four.1 five.1;
      }

  module _ (held : Held j false [] w.around xs) where
    as-code : (s : List ℕ) (y' : Inline) → IsLeaf true y' → j ≡ true → AreAlike false w.around wrappers
        → is_text s ≡ true
        → IsPut true false [] wrappers xs (behind n (put n xs around (Some (code s)) []) around y')
    as-code s (code t) h e a i = code-held false [] w.around xs around s t
        (subst (λ (b : Bool). Held b false [] w.around xs) e held) fits a i h.1
    as-code s (text t) h e a i = true-false h.0
    as-code s (image p q d) h e a i = true-false h.0
    as-code s (anchor p) h e a i = absurd h
    as-code s (value.formatted f ys) h e a i = absurd h
    as-code s (link p q ys) h e a i = absurd h
    as-code s line_break h e a i = absurd h
    as-code s (task b) h e a i = absurd h

    plain : (g : Option Inline) → IsGap g → Goes [] g
    plain g h = leaf-put j k false [] w.around xs around g y held fits h leaf

    code-gap : (s : List ℕ) → k ≡ true → is_code_gap w wrappers ≡ true → is_text s ≡ true
        → Goes [] (Some (code s))
    code-gap s e c i =
        let b : IsBetweenCodes = between-codes c in
        subst (λ (b : Bool). IsPut b false [] wrappers xs (behind n (put n xs around (Some (code s)) []) around y))
        (sym e) (as-code s y (subst (λ (b : Bool). IsLeaf b y) e leaf) b.was b.same i)

    white-goes : (c : Bool) (s : List ℕ) → (k && is_code_gap w wrappers) ≡ c → IsWhite s
        → Goes [] (white_gap c s)
    white-goes c [] e h = plain None tt
    white-goes false (b ∷ s) e h = plain (Some (text (b ∷ s))) (white-text b s h)
    white-goes true (b ∷ s) e h =
        let parts = both-true k (is_code_gap w wrappers) e in
        code-gap (b ∷ s) parts.0 parts.1 (white-text b s h)

    gap-goes : (b : Bool) → Goes [] (cond b (Some line_break) (white_gap (k && is_code_gap w wrappers) w.gap.white))
    gap-goes true = plain (Some line_break) tt
    gap-goes false = white-goes (k && is_code_gap w wrappers) w.gap.white refl gap

  module _ (id : List ℕ) (ids : List (List ℕ)) (held : HeldFor (id ∷ ids) j w.around xs)
      (all : AllIds (id ∷ ids))
      (some : w.anchors ≡ id ∷ ids) where
    waits : (g : Option Inline) → IsGap g → Goes (id ∷ ids) g
    waits g h = wait-held k w.around xs around g id ids y held.0 held.1 fits h all leaf

    no-codes : {A : Type 0} → is_code_gap w wrappers ≡ true → A
    no-codes c = absurd (clash (sym (ap (λ is. length is == 0) some) ∙ (between-codes c).none))
      where
        clash : (length (id ∷ ids) == 0) ≡ true → ⊥
        clash e = grind (arith, nat_tests)

    white-waits : (c : Bool) (s : List ℕ) → (k && is_code_gap w wrappers) ≡ c → IsWhite s
        → Goes (id ∷ ids) (white_gap c s)
    white-waits c [] e h = waits None tt
    white-waits false (b ∷ s) e h = waits (Some (text (b ∷ s))) (white-text b s h)
    white-waits true (b ∷ s) e h = no-codes (both-true k (is_code_gap w wrappers) e).1

    gap-waits : (b : Bool)
        → Goes (id ∷ ids) (cond b (Some line_break) (white_gap (k && is_code_gap w wrappers) w.gap.white))
    gap-waits true = waits (Some line_break) tt
    gap-waits false = white-waits (k && is_code_gap w wrappers) w.gap.white refl gap

  goes-by : (ids : List (List ℕ)) → w.anchors ≡ ids → HeldFor ids j w.around xs → AllIds ids
      → Goes ids (gap_of w around k)
  goes-by [] e held all = gap-goes held w.gap.has_break
  goes-by (id ∷ ids) e held all = gap-waits id ids held all e w.gap.has_break

  pub goes-on : HeldFor w.anchors j w.around xs → AllIds w.anchors → Goes w.anchors (gap_of w around k)
  goes-on held all = goes-by w.anchors refl held all

-- ---- a task stays before what follows it

behind-task : (n : ℕ) (b : Bool) (xs : Inlines) (around : List Around) (y : Inline) → is_begun xs ≡ true
    → behind n (inline (task b) xs) around y ≡ inline (task b) (behind n xs around y)
behind-task n b no_inlines around y e = false-true e
behind-task zero b (inline x xs) around y e = refl
behind-task (suc n) b (inline x xs) [] y e = refl
behind-task (suc n) b (inline x xs) (a ∷ around) y e = refl

ids-task : (n : ℕ) (b : Bool) (ids : List (List ℕ)) (xs : Inlines) (around : List Around) (y : Inline)
    → is_begun xs ≡ true
    → behind n (anchored n (inline (task b) xs) around ids) around y
    ≡ inline (task b) (behind n (anchored n xs around ids) around y)
ids-task n b [] xs around y e = behind-task n b xs around y e
ids-task n b (id ∷ ids) xs around y e =
    let ys : Inlines = behind n xs (take n around) (anchor id) in
    ap (λ zs. behind n (anchored n zs around ids) around y) (behind-task n b xs (take n around) (anchor id) e)
    ∙ ids-task n b ids ys around y (behind-begins n xs (take n around) (anchor id) e).begun

task-put : (n : ℕ) (b : Bool) (xs : Inlines) (around : List Around) (g : Option Inline) (ids : List (List ℕ))
    (y : Inline) → is_begun xs ≡ true
    → behind n (put n (inline (task b) xs) around g ids) around y
    ≡ inline (task b) (behind n (put n xs around g ids) around y)
task-put n b xs around None ids y e = ids-task n b ids xs around y e
task-put n b xs around (Some g) ids y e =
    ap (λ zs. behind n (anchored n zs around ids) around y) (behind-task n b xs (take n around) g e)
    ∙ ids-task n b ids (behind n xs (take n around) g) around y (behind-begins n xs (take n around) g e).begun

-- ---- what shows

module _ (n : ℕ) (in_item : Bool) (w : Writing) (h : IsNormalWriting n in_item w) (around : List Around)
    (k : Bool) (y : Inline) (fits : FitAll false [] around) (leaf : IsLeaf k y) where
  abbrev ns : List Wrapper
  ns = map wrapper_of around

  abbrev new : Writing
  new = shown w around k y

  -- the inlines after a leaf more, with so many wrappers shared, by what stands before it
  abbrev after : ℕ → Inlines → Inlines
  after m xs = behind m (anchored m xs around w.anchors) around y

  -- the first leaf, with anchors before it
  first-line : (ids : List (List ℕ)) → AllIds ids
      → IsLine [] k ns (behind 0 (anchored 0 no_inlines around ids) around y)
  first-line [] all = record {
    held = wrapped-held k false [] around y fits leaf;
    no_space = wrapped-first around y (leaf-begins k y leaf);
    no_break = wrapped-first-break around y (leaf-no_break y (leaf-last k y leaf).leaf);
    stands = put-stands no_inlines around None [] y tt (leaf-shown k y leaf) tt;
  }
  first-line (id ∷ ids) all =
      let xs : Inlines = with_ids no_inlines (id ∷ ids) in
      let are : AreAnchors xs = some-anchors id ids all in
      let begins : BeginsAs xs (behind 0 xs around y) = behind-begins 0 xs around y are.begin.begun in
      record {
        held = anchor-put [] k xs around y are.last are.ends are.id fits leaf;
        no_space = begins.space ∙ are.begin.no_space;
        no_break = begins.break ∙ are.begin.no_break;
        stands = put-stands no_inlines around None (id ∷ ids) y tt (leaf-shown k y leaf) tt;
      }

  first-leaf : w.content ≡ no_inlines → IsLine [] k ns (after 0 w.content)
  first-leaf e = subst (λ (xs : Inlines). IsLine [] k ns (after 0 xs)) (sym e) (first-line w.anchors h.ids)

  -- after a task a space, and then anchors
  abbrev gap_text : Inlines
  gap_text = one_inline (text (space ∷ []))

  space-held : (ids : List (List ℕ)) → AllIds ids
      → Held k false [] ns (behind 0 (anchored 0 gap_text around ids) around y)
  space-held [] all =
      put-after k false [] gap_text (text (space ∷ [])) around y (one-ends false [] (text (space ∷ []))) space-text
      fits
      leaf (leaf-differs (text (space ∷ [])) around refl)
  space-held (id ∷ ids) all =
      ids-put [] k gap_text (text (space ∷ [])) around id ids y (one-ends false [] (text (space ∷ []))) space-text
      fits
      all leaf

  task-leaf : (b : Bool) → w.content ≡ one_inline (task b) → IsTasked [] k ns (after 0 (gap_after_task w))
  task-leaf b e =
      subst (λ (xs : Inlines). IsTasked [] k ns (after 0 (behind 0 xs [] (text (space ∷ []))))) (sym e)
      (record {
        is_checked = b;
        rest = after 0 gap_text;
        is = ids-task 0 b w.anchors gap_text around y refl;
        begins = (put-begins 0 gap_text around None w.anchors y refl).space;
        held = space-held w.anchors h.ids;
        stands = put-stands gap_text around None w.anchors y tt (leaf-shown k y leaf)
            (tt, λ a. false-true a, tt);
      })

  next-leaf : (j : Bool) → w.latest ≡ latest_of j → IsLine w.anchors j w.around w.content
      → IsLine [] k ns (after (shared w.around ns) (gap_before w around k))
  next-leaf j e l =
      let m : ℕ = shared w.around ns in
      let g : Option Inline = gap_of w around k in
      let whole : IsWhole false [] w.content = for-whole w.anchors j w.around w.content l.held in
      let begins : BeginsAs w.content (behind m (put m w.content around g w.anchors) around y) =
      put-begins m w.content around g w.anchors y (normal-begun false [] w.content whole.normal whole.some) in
      let goes : IsPut k false [] ns w.content (behind m (put m w.content around g w.anchors) around y) =
      goes-on w j k around y w.content e h.gap fits leaf l.held h.ids in
      subst (λ (xs : Inlines). IsLine [] k ns (after m xs)) (sym (gap-put w around k))
      (record {
        held = goes.held;
        no_space = begins.space ∙ l.no_space;
        no_break = begins.break ∙ l.no_break;
        stands = goes.stands l.stands;
      })

  next-tasked : (j : Bool) → w.latest ≡ latest_of j → IsTasked w.anchors j w.around w.content
      → IsTasked [] k ns (after (shared w.around ns) (gap_before w around k))
  next-tasked j e l =
      let m : ℕ = shared w.around ns in
      let g : Option Inline = gap_of w around k in
      let whole : IsWhole false [] l.rest = for-whole w.anchors j w.around l.rest l.held in
      let begun : is_begun l.rest ≡ true = normal-begun false [] l.rest whole.normal whole.some in
      let goes : IsPut k false [] ns l.rest (behind m (put m l.rest around g w.anchors) around y) =
      goes-on w j k around y l.rest e h.gap fits leaf l.held h.ids in
      subst (λ (xs : Inlines). IsTasked [] k ns (after m xs)) (sym (gap-put w around k))
      (record {
        is_checked = l.is_checked;
        rest = behind m (put m l.rest around g w.anchors) around y;
        is = ap (λ xs. behind m (put m xs around g w.anchors) around y) l.is
            ∙ task-put m l.is_checked l.rest around g w.anchors y begun;
        begins = (put-begins m l.rest around g w.anchors y begun).space ∙ l.begins;
        held = goes.held;
        stands = goes.stands l.stands;
      })

  leaf-state : State w → State new
  leaf-state (at_nothing e f) =
      at_leaf k refl
      (subst (λ l. IsLine [] k ns (after (cond (is_leaf l) (shared w.around ns) 0) (gap_behind l w around k))) (sym e)
      (first-leaf f))
  leaf-state (at_task b e f g) =
      in_task k refl (record { in_item = f.in_item; alone = f.alone })
      (subst (λ l. IsTasked [] k ns (after (cond (is_leaf l) (shared w.around ns) 0) (gap_behind l w around k)))
      (sym e)
      (task-leaf b g))
  leaf-state (at_leaf true e f) =
      at_leaf k refl
      (subst (λ l. IsLine [] k ns (after (cond (is_leaf l) (shared w.around ns) 0) (gap_behind l w around k))) (sym e)
      (next-leaf true e f))
  leaf-state (at_leaf false e f) =
      at_leaf k refl
      (subst (λ l. IsLine [] k ns (after (cond (is_leaf l) (shared w.around ns) 0) (gap_behind l w around k))) (sym e)
      (next-leaf false e f))
  leaf-state (in_task true e f g) =
      in_task k refl (record { in_item = f.in_item; alone = f.alone })
      (subst (λ l. IsTasked [] k ns (after (cond (is_leaf l) (shared w.around ns) 0) (gap_behind l w around k)))
      (sym e)
      (next-tasked true e g))
  leaf-state (in_task false e f g) =
      in_task k refl (record { in_item = f.in_item; alone = f.alone })
      (subst (λ l. IsTasked [] k ns (after (cond (is_leaf l) (shared w.around ns) 0) (gap_behind l w around k)))
      (sym e)
      (next-tasked false e g))

  pub shown-normal : IsNormalWriting n in_item new
  shown-normal = record {
    item = h.item;
    done = h.done;
    gap = white-none;
    ids = tt;
    fresh = λ e. false-true e;
    state = leaf-state h.state;
  }

-- ---- the one line

pub line-normal-in : (n : ℕ) (w : Writing) → IsNormalWriting n false w → w.anchors ≡ []
    → IsLineWell (whole_content w)
line-normal-in n w h e =
    subst (λ (ids : List (List ℕ)). IsLineWell (anchored 0 (shown_content w) [] ids)) (sym e) (at h.state)
  where
    leaf : (k : Bool) → is_leaf (latest_of k) ≡ true
    leaf true = refl
    leaf false = refl

    none : is_leaf w.latest ≡ false → IsLineWell (shown_content w)
    none l = subst (λ (b : Bool). IsLineWell (cond b w.content no_inlines)) (sym l) (refl, tt)

    at : State w → IsLineWell (shown_content w)
    at (at_nothing l f) = none (ap is_leaf l)
    at (at_task b l f g) = none (ap is_leaf l)
    at (at_leaf k l f) =
        subst (λ (b : Bool). IsLineWell (cond b w.content no_inlines)) (sym (ap is_leaf l ∙ leaf k))
        (line-normal w.anchors k w.around w.content f, f.stands)
    at (in_task k l f g) = true-false (sym f.in_item ∙ h.item)
