-- Anchors that stay stand where they come back; so do none at all.
use Rattle.std.proofs.Common.{◌≡◌, ◌==◌, length, ℕ, Bool, true, false, not, ◌&&◌, ◌||◌, cond, List, [], ◌∷◌, refl}
use Rattle.std.proofs.Common.{sym, ap, ◌∙◌}
use Rattle.std.specs.List.{list_all}
use Rattle.std.specs.Str.{chars}
use Rattle.std.proofs.lemmas.Bool.{and_parts}
use Rattle.htmd_lexical.proofs.Cases.{test}
use Rattle.htmd_document.specs.Documents.{Inline, text, code, formatted, link, image, anchor, line_break, task}
use Rattle.htmd_document.specs.Documents.{Inlines, no_inlines, inline, paragraph, heading, code_block, quote}
use Rattle.htmd_document.specs.Documents.{thematic_break, list, table, element, tags, Blocks, no_blocks, block, Items}
use Rattle.htmd_document.specs.Documents.{no_items, item}
use Rattle.htmd_document.specs.Formats.{Format, is_same_format}
use Rattle.htmd_document.specs.NormalInlines.{is_normal, are_normal, may_meet, meets, is_anchor, are_anchors}
use Rattle.htmd_document.specs.NormalInlines.{has_none, are_whole, is_normal_item, is_normal_line, anchors_stand_well}
use Rattle.htmd_document.specs.NormalInlines.{last_passes, ends_with_space, is_break}
use Rattle.htmd_document.specs.NormalDocuments.{are_normal_blocks, are_normal_items}
use Rattle.htmd_document.specs.NormalDocuments.{is_normal_paragraph, is_normal_heading, is_normal_element}
use Rattle.htmd_document.specs.NormalDocuments.{is_normal_list, is_normal_table, is_normal_row, are_normal_cells}
use Rattle.htmd_document.specs.NormalDocuments.{has_cell}
use Rattle.htmd_document.specs.TightItems.{is_filled}
use Rattle.htmd_document_of_tree.specs.declared.anchors.Anchors.{Anchors}
use Rattle.htmd_document_of_tree.specs.declared.anchors.Anchors.TheVariants as which
use Rattle.htmd_document.specs.Documents.{Block}
use Rattle.htmd_law_returning.specs.LastingAnchors.{is_unseen, are_unseen, block_leads, items_lead, cells_lead}
use Rattle.htmd_law_returning.specs.NoAnchors.{block_has_no_anchors, items_have_no_anchors}
use Rattle.htmd_law_returning.specs.LastingAnchors.{anchors_stay, anchors_stand, lines_stand, line_keeps}
use Rattle.htmd_law_returning.proofs.KeptBlocks.{blocks_keep, items_keep, kept, keeps_anchors}
use Rattle.htmd_law_returning.specs.LastingAnchors.{heading_keeps, goes_on, past_gaps}
use Rattle.htmd_document.specs.AnchorIds.{has_unique_ids}
use Rattle.htmd_document.specs.LoneAnchors.{stand_alone, all_stand}
use Rattle.htmd_law_returning.specs.LastingAnchors.{is_headed_element, title_keeps}
use Rattle.htmd_law_returning.specs.NoAnchors.{has_no_anchors, have_no_anchors, blocks_have_no_anchors}
use Rattle.htmd_law_returning.specs.SettledDocuments.{is_settled_inline, are_settled_inlines, is_settled_line}
use Rattle.htmd_law_returning.specs.SettledDocuments.{are_settled_blocks, are_settled_items, is_white_at_break}
use Rattle.htmd_law_returning.specs.SettledDocuments.{is_settled_table, shows_last_column, is_right_list}
use Rattle.htmd_law_returning.specs.SettledDocuments.{is_settled_link, behind_box, is_settled_paragraph, are_away}
use Rattle.htmd_law_returning.specs.WholeLines.{is_gap, is_same_around, is_apart, is_whole_inside, are_whole_inside}
use Rattle.htmd_law_returning.specs.WholeLines.{begins_white, ends_white}
use Rattle.htmd_law_returning.proofs.BoxLemmas.{text-keeps, box-normal, first-is}
use Rattle.htmd_lexical.specs.Characters.{space}
use Rattle.htmd_lexical.specs.CharacterClasses.{first_is}
use Rattle.htmd_document.specs.FlatDocuments.{flat_items}
use Rattle.htmd_law_returning.proofs.LineFormLemmas.{normal-one}
use Rattle.htmd_law_returning.proofs.PieceLemmas.{blank-begins, blank-ends}
use Rattle.htmd_law_returning.proofs.StartLemmas.{false-true, true-false, from-not}
use Rattle.htmd_law_returning.proofs.TextLemmas.{text-line}
use Rattle.htmd_law_returning.proofs.ElementForms.{is_bounded, are_settled_alone, settled-alone}

-- ---- a line without anchors

both : (a b : Bool) → a ≡ true → b ≡ true → (a && b) ≡ true
both true b h e = e
both false b h e = false-true h

not-false : (b : Bool) → b ≡ false → not b ≡ true
not-false true h = true-false h
not-false false h = refl

no-anchor : (x : Inline) → has_no_anchors x ≡ true → is_anchor x ≡ false
no-anchor (text s) h = refl
no-anchor (code s) h = refl
no-anchor (formatted f c) h = refl
no-anchor (link a t c) h = refl
no-anchor (image a t d) h = refl
no-anchor (anchor id) h = false-true h
no-anchor line_break h = refl
no-anchor (task d) h = refl

-- neighbours aren't in the same format
unlike : (x y : Inline) → may_meet x y ≡ true → is_same_around x y ≡ false
unlike (formatted f c) (formatted g d) h = either (is_same_format f g) h
  where
    either : (s : Bool) → ((not ((s && true) && true) && true) && true) ≡ true → s ≡ false
    either true e = false-true e
    either false e = refl
unlike (formatted f c) (text s) h = refl
unlike (formatted f c) (code s) h = refl
unlike (formatted f c) (link a t d) h = refl
unlike (formatted f c) (image a t d) h = refl
unlike (formatted f c) (anchor id) h = refl
unlike (formatted f c) line_break h = refl
unlike (formatted f c) (task d) h = refl
unlike (text s) y h = refl
unlike (code s) y h = refl
unlike (link a t c) y h = refl
unlike (image a t d) y h = refl
unlike (anchor id) y h = refl
unlike line_break y h = refl
unlike (task d) y h = refl

-- no two gaps stand beside each other
one-gap : (y z : Inline) (zs : Inlines) (b : Bool) (fs : List Format) → may_meet y z ≡ true
    → is_white_at_break y (inline z zs) ≡ false → is_normal b fs y ≡ true → is_settled_inline y ≡ true
    → is_normal b fs z ≡ true → is_settled_inline z ≡ true → is_gap y ≡ true → is_gap z ≡ false
one-gap (text s) (text t) zs b fs h w n e m g k = false-true h
one-gap (text s) line_break zs b fs h w n e m g k =
    true-false (sym (blank-ends (chars s) (text-line s e n).some k) ∙ w)
one-gap line_break (text t) zs b fs h w n e m g k = not-blank (is_gap (text t)) refl
  where
    not-blank : (x : Bool) → is_gap (text t) ≡ x → is_gap (text t) ≡ false
    not-blank false q = q
    not-blank true q = true-false (sym (blank-begins (chars t) (text-line t g m).some q) ∙ w)
one-gap line_break line_break zs b fs h w n e m g k = false-true h
one-gap y (code s) zs b fs h w n e m g k = refl
one-gap y (formatted f c) zs b fs h w n e m g k = refl
one-gap y (link a t c) zs b fs h w n e m g k = refl
one-gap y (image a t d) zs b fs h w n e m g k = refl
one-gap y (anchor id) zs b fs h w n e m g k = refl
one-gap y (task d) zs b fs h w n e m g k = refl
one-gap (code s) z zs b fs h w n e m g k = false-true k
one-gap (formatted f c) z zs b fs h w n e m g k = false-true k
one-gap (link a t c) z zs b fs h w n e m g k = false-true k
one-gap (image a t d) z zs b fs h w n e m g k = false-true k
one-gap (anchor id) z zs b fs h w n e m g k = false-true k
one-gap (task d) z zs b fs h w n e m g k = false-true k

-- what is known of a line
record IsUnplaced (b : Bool) (fs : List Format) (xs : Inlines) : Type 0 where
  free : have_no_anchors xs ≡ true
  normal : are_normal b fs xs ≡ true
  whole : are_whole_inside xs ≡ true
  settled : are_settled_inlines xs ≡ true

record IsFirst (b : Bool) (fs : List Format) (x : Inline) (xs : Inlines) : Type 0 where
  free : has_no_anchors x ≡ true
  normal : is_normal b fs x ≡ true
  meets_next : meets x xs ≡ true
  whole : is_whole_inside x ≡ true
  apart : is_apart x xs ≡ true
  settled : is_settled_inline x ≡ true
  black : is_white_at_break x xs ≡ false
  rest : IsUnplaced b fs xs

first-of : (b : Bool) (fs : List Format) (x : Inline) (xs : Inlines) → IsUnplaced b fs (inline x xs)
    → IsFirst b fs x xs
first-of b fs x xs h =
    let frees = and_parts (has_no_anchors x) (have_no_anchors xs) h.free in
    let normals = normal-one b fs x xs h.normal in
    let wholes = and_parts (is_whole_inside x && is_apart x xs) (are_whole_inside xs) h.whole in
    let whole_one = and_parts (is_whole_inside x) (is_apart x xs) wholes.0 in
    let settleds = and_parts (is_settled_inline x && not (is_white_at_break x xs)) (are_settled_inlines xs)
    h.settled in
    let own = and_parts (is_settled_inline x) (not (is_white_at_break x xs)) settleds.0 in
    record {
      free = frees.0;
      normal = normals.own;
      meets_next = normals.meets_next;
      whole = whole_one.0;
      apart = whole_one.1;
      settled = own.0;
      black = from-not (is_white_at_break x xs) own.1;
      rest = record { free = frees.1; normal = normals.rest; whole = wholes.1; settled = settleds.1 };
    }

-- no format goes on
ends-there : (b : Bool) (fs : List Format) (x : Inline) (xs : Inlines) → IsFirst b fs x xs
    → goes_on x (past_gaps xs) ≡ false
ends-there b fs x no_inlines h = refl
ends-there b fs x (inline y no_inlines) h =
    let next = first-of b fs y no_inlines h.rest in
    test (is_gap y)
    (λ e. rw e refl)
    (λ e. rw (e, no-anchor y next.free) (unlike x y h.meets_next))
ends-there b fs x (inline y (inline z zs)) h =
    let next = first-of b fs y (inline z zs) h.rest in
    let third = first-of b fs z zs next.rest in
    test (is_gap y)
    (λ e.
    let single = one-gap y z zs b fs next.meets_next next.black next.normal next.settled third.normal third.settled
    e in
    rw (e, single, no-anchor z third.free)
    (from-not (is_same_around x z) (sym (ap (λ g. not (g && is_same_around x z)) e) ∙ h.apart)))
    (λ e. rw (e, no-anchor y next.free) (unlike x y h.meets_next))

mutual
  all-keep : (b : Bool) (fs : List Format) (xs : Inlines) → IsUnplaced b fs xs → line_keeps xs ≡ true
  all-keep b fs no_inlines h = refl
  all-keep b fs (inline x xs) h =
      let first = first-of b fs x xs h in
      both ((keeps_anchors x && not (is_anchor x && begins_white xs)) && not (goes_on x (past_gaps xs))) (line_keeps xs)
      (both (keeps_anchors x && not (is_anchor x && begins_white xs)) (not (goes_on x (past_gaps xs)))
      (both (keeps_anchors x) (not (is_anchor x && begins_white xs)) (one-keeps b fs x xs first)
      (ap (λ a. not (a && begins_white xs)) (no-anchor x first.free)))
      (not-false (goes_on x (past_gaps xs)) (ends-there b fs x xs first)))
      (all-keep b fs xs first.rest)

  one-keeps : (b : Bool) (fs : List Format) (x : Inline) (xs : Inlines) → IsFirst b fs x xs
      → keeps_anchors x ≡ true
  one-keeps b fs (text s) xs h = refl
  one-keeps b fs (code s) xs h = refl
  one-keeps b fs (formatted f c) xs h =
      all-keep b (f ∷ fs) c (record {
        free = h.free;
        normal = (and_parts _ (are_normal b (f ∷ fs) c) h.normal).1;
        whole = (and_parts (are_whole_inside c) (not (begins_white c))
            (and_parts (are_whole_inside c && not (begins_white c)) (not (ends_white c)) h.whole).0).0;
        settled = h.settled;
      })
  one-keeps b fs (link a t c) xs h =
      all-keep true fs c (record {
        free = h.free;
        normal = (and_parts _ (are_normal true fs c) h.normal).1;
        whole = (and_parts (are_whole_inside c) (not (begins_white c))
            (and_parts (are_whole_inside c && not (begins_white c)) (not (ends_white c)) h.whole).0).0;
        settled = (and_parts (is_settled_link a t) (are_settled_inlines c) h.settled).1;
      })
  one-keeps b fs (image a t d) xs h = refl
  one-keeps b fs (anchor id) xs h = false-true h.free
  one-keeps b fs line_break xs h = refl
  one-keeps b fs (task d) xs h = refl

pub plain-keeps : (xs : Inlines) → have_no_anchors xs ≡ true → are_normal false [] xs ≡ true
    → is_settled_line xs ≡ true → line_keeps xs ≡ true
plain-keeps xs h n e =
    let parts = and_parts _ (are_settled_inlines xs) e in
    let whole = and_parts (are_whole_inside xs && not (begins_white xs)) (not (ends_white xs)) parts.0 in
    all-keep false [] xs (record {
      free = h;
      normal = n;
      whole = (and_parts (are_whole_inside xs) (not (begins_white xs)) whole.0).0;
      settled = parts.1;
    })

-- ---- a paragraph without anchors

task-keeps : (d : Bool) (xs : Inlines) → line_keeps xs ≡ true → line_keeps (inline (task d) xs) ≡ true
task-keeps d xs h = rw h (either (past_gaps xs))
  where
    either : (ys : Inlines) → (not (goes_on (task d) ys) && true) ≡ true
    either no_inlines = refl
    either (inline y ys) = refl

-- a task, a space and what stands behind it
box-keep : (d : Bool) (c : ℕ) (s : List ℕ) (xs : Inlines)
    → line_keeps (behind_box (inline (task d) (inline (text (c ∷ s)) xs))) ≡ true
    → line_keeps (inline (task d) (inline (text (c ∷ s)) xs)) ≡ true
box-keep d c [] xs h = task-keeps d (inline (text (c ∷ [])) xs) (text-keeps (c ∷ []) xs h)
box-keep d c (b ∷ s) xs h =
    task-keeps d (inline (text (c ∷ b ∷ s)) xs)
    (text-keeps (c ∷ b ∷ s) xs (and_parts (not (goes_on (text (b ∷ s)) (past_gaps xs))) (line_keeps xs) h).1)

box-free : (d : Bool) (c : ℕ) (s : List ℕ) (xs : Inlines) → have_no_anchors xs ≡ true
    → have_no_anchors (behind_box (inline (task d) (inline (text (c ∷ s)) xs))) ≡ true
box-free d c [] xs h = h
box-free d c (b ∷ s) xs h = h

task-keep : (b d : Bool) (xs : Inlines) → have_no_anchors xs ≡ true
    → cond b (is_normal_item (inline (task d) xs)) (is_normal_line (inline (task d) xs)) ≡ true
    → is_settled_paragraph (inline (task d) xs) ≡ true → line_keeps (inline (task d) xs) ≡ true
task-keep false d xs h n e = false-true (and_parts (are_whole (inline (task d) xs)) false n).1
task-keep true d no_inlines h n e = false-true n
task-keep true d (inline (text []) xs) h n e = false-true n
task-keep true d (inline (text (c ∷ s)) xs) h n e =
    let line : Inlines = inline (text (c ∷ s)) xs in
    let all = and_parts ((first_is space (c ∷ s) && not (last_passes ends_with_space line))
    && not (last_passes is_break line)) (are_normal false [] line) n in
    let ends = and_parts (first_is space (c ∷ s) && not (last_passes ends_with_space line))
    (not (last_passes is_break line)) all.0 in
    let own = and_parts (first_is space (c ∷ s)) (not (last_passes ends_with_space line)) ends.0 in
    box-keep d c s xs (plain-keeps (behind_box (inline (task d) line)) (box-free d c s xs h)
    (box-normal d c s xs (first-is c s own.0) all.1) e)
task-keep true d (inline (code s) xs) h n e = false-true n
task-keep true d (inline (formatted f c) xs) h n e = false-true n
task-keep true d (inline (link a t c) xs) h n e = false-true n
task-keep true d (inline (image a t i) xs) h n e = false-true n
task-keep true d (inline (anchor id) xs) h n e = false-true n
task-keep true d (inline line_break xs) h n e = false-true n
task-keep true d (inline (task f) xs) h n e = false-true n

either-same : (b x : Bool) → cond b x x ≡ x
either-same true x = refl
either-same false x = refl

-- one that begins with no task
line-keep : (b : Bool) (xs : Inlines) → have_no_anchors xs ≡ true
    → cond b (is_normal_item xs) (is_normal_line xs) ≡ true → is_settled_line xs ≡ true
    → is_normal_item xs ≡ is_normal_line xs → line_keeps xs ≡ true
line-keep b xs h n e same =
    plain-keeps xs h (and_parts (are_whole xs) (are_normal false [] xs)
    (sym (ap (λ x. cond b x (is_normal_line xs)) same ∙ either-same b (is_normal_line xs)) ∙ n)).1 e

pub words-keep : (b : Bool) (xs : Inlines) → have_no_anchors xs ≡ true
    → cond b (is_normal_item xs) (is_normal_line xs) ≡ true → is_settled_paragraph xs ≡ true
    → line_keeps xs ≡ true
words-keep b no_inlines h n e = refl
words-keep b (inline (text s) xs) h n e = line-keep b (inline (text s) xs) h n e refl
words-keep b (inline (code s) xs) h n e = line-keep b (inline (code s) xs) h n e refl
words-keep b (inline (formatted f c) xs) h n e = line-keep b (inline (formatted f c) xs) h n e refl
words-keep b (inline (link a t c) xs) h n e = line-keep b (inline (link a t c) xs) h n e refl
words-keep b (inline (image a t d) xs) h n e = line-keep b (inline (image a t d) xs) h n e refl
words-keep b (inline (anchor id) xs) h n e = false-true h
words-keep b (inline line_break xs) h n e = line-keep b (inline line_break xs) h n e refl
words-keep b (inline (task d) xs) h n e = task-keep b d xs h n e

pub no-anchors-first : (xs : Inlines) → have_no_anchors xs ≡ true → has_none xs ≡ false
    → are_anchors xs ≡ false
no-anchors-first no_inlines h e = true-false e
no-anchors-first (inline x xs) h e =
    ap (λ a. a && are_anchors xs) (no-anchor x (and_parts (has_no_anchors x) (have_no_anchors xs) h).0)

paragraph-keep : (b is_end : Bool) (xs : Inlines) (d : Blocks) → have_no_anchors xs ≡ true
    → is_normal_paragraph b xs ≡ true → is_settled_paragraph xs ≡ true
    → (line_keeps xs && (not (are_anchors xs) || stand_alone is_end d)) ≡ true
paragraph-keep b is_end xs d h n e =
    let parts = and_parts (not (has_none xs) && cond b (is_normal_item xs) (is_normal_line xs))
    (are_anchors xs || anchors_stand_well xs) n in
    let own = and_parts (not (has_none xs)) (cond b (is_normal_item xs) (is_normal_line xs)) parts.0 in
    both (line_keeps xs) (not (are_anchors xs) || stand_alone is_end d) (words-keep b xs h own.1 e)
    (ap (λ a. not a || stand_alone is_end d) (no-anchors-first xs h (from-not (has_none xs) own.0)))

pub heading-free : (xs : Inlines) → have_no_anchors xs ≡ true → heading_keeps xs ≡ true
heading-free no_inlines h = refl
heading-free (inline (text s) xs) h = h
heading-free (inline (code s) xs) h = h
heading-free (inline (formatted f c) xs) h = h
heading-free (inline (link a t c) xs) h = h
heading-free (inline (image a t d) xs) h = h
heading-free (inline (anchor id) xs) h = false-true h
heading-free (inline line_break xs) h = h
heading-free (inline (task d) xs) h = h

behind-free : (xs : Inlines) → have_no_anchors xs ≡ true → have_no_anchors (behind_box xs) ≡ true
behind-free no_inlines h = h
behind-free (inline (task d) no_inlines) h = h
behind-free (inline (task d) (inline (text []) xs)) h = h
behind-free (inline (task d) (inline (text (c ∷ [])) xs)) h = h
behind-free (inline (task d) (inline (text (c ∷ e ∷ s)) xs)) h = h
behind-free (inline (task d) (inline x xs)) h = h
behind-free (inline x xs) h = h

-- ---- documents

-- cells without anchors
plain-cells : (cells : List Inlines) → list_all have_no_anchors cells ≡ true → are_normal_cells cells ≡ true
    → list_all is_settled_line cells ≡ true → list_all line_keeps cells ≡ true
plain-cells cells h n e =
    each cells h (and_parts (list_all is_normal_line cells) (list_all anchors_stand_well cells) n).0 e
  where
    each : (cells : List Inlines) → list_all have_no_anchors cells ≡ true → list_all is_normal_line cells ≡ true
        → list_all is_settled_line cells ≡ true → list_all line_keeps cells ≡ true
    each [] h n e = refl
    each (c ∷ cs) h n e =
        let free = and_parts (have_no_anchors c) (list_all have_no_anchors cs) h in
        let normal = and_parts (is_normal_line c) (list_all is_normal_line cs) n in
        let settled = and_parts (is_settled_line c) (list_all is_settled_line cs) e in
        both (line_keeps c) (list_all line_keeps cs)
        (plain-keeps c free.0 (and_parts (are_whole c) (are_normal false [] c) normal.0).1 settled.0)
        (each cs free.1 normal.1 settled.1)

plain-rows : (k : ℕ) (rows : List (List Inlines)) → list_all (list_all have_no_anchors) rows ≡ true
    → list_all (is_normal_row k) rows ≡ true → list_all (list_all is_settled_line) rows ≡ true
    → list_all (list_all line_keeps) rows ≡ true
plain-rows k [] h n e = refl
plain-rows k (r ∷ rs) h n e =
    let free = and_parts (list_all have_no_anchors r) (list_all (list_all have_no_anchors) rs) h in
    let normal = and_parts (is_normal_row k r) (list_all (is_normal_row k) rs) n in
    let settled = and_parts (list_all is_settled_line r) (list_all (list_all is_settled_line) rs) e in
    both (list_all line_keeps r) (list_all (list_all line_keeps) rs)
    (plain-cells r free.0 (and_parts _ (are_normal_cells r) normal.0).1 settled.0)
    (plain-rows k rs free.1 normal.1 settled.1)

or-true : (a b : Bool) → b ≡ true → (a || b) ≡ true
or-true true b h = refl
or-true false b h = h

cells-lead : (cells : List Inlines) → list_all have_no_anchors cells ≡ true → cells_lead cells ≡ true
cells-lead [] h = refl
cells-lead (c ∷ cs) h =
    let p = and_parts (have_no_anchors c) (list_all have_no_anchors cs) h in
    both (heading_keeps c) (cond (has_none c) (cells_lead cs) (list_all have_no_anchors cs)) (heading-free c p.0)
    (either (has_none c) (cells-lead cs p.1) p.1)
  where
    either : (x : Bool) {y z : Bool} → y ≡ true → z ≡ true → cond x y z ≡ true
    either true e f = e
    either false e f = f

mutual
  block-leads : (b : Block) → block_has_no_anchors b ≡ true → block_leads b ≡ true
  block-leads (paragraph xs) h = heading-free (behind_box xs) (behind-free xs h)
  block-leads (heading level xs) h = refl
  block-leads (code_block language s) h = h
  block-leads (quote bs) h = title-keeps bs h
  block-leads thematic_break h = h
  block-leads (list start is_tight items) h = items-lead items h
  block-leads (table alignments header rows) h =
      let p = and_parts (list_all have_no_anchors header) (list_all (list_all have_no_anchors) rows) h in
      both (cells_lead header) (list_all (list_all have_no_anchors) rows) (cells-lead header p.0) p.1
  block-leads (element name attributes bs) h =
      or-true (is_headed_element name) (title_keeps bs) (title-keeps bs h)
  block-leads (tags s) h = h

  title-keeps : (d : Blocks) → blocks_have_no_anchors d ≡ true → title_keeps d ≡ true
  title-keeps no_blocks h = refl
  title-keeps (block b d) h =
      let p = and_parts (block_has_no_anchors b) (blocks_have_no_anchors d) h in
      both (block_leads b) (cond (is_unseen b) (title_keeps d) (blocks_have_no_anchors d)) (block-leads b p.0)
      (either (is_unseen b) (title-keeps d p.1) p.1)
    where
      either : (x : Bool) {y z : Bool} → y ≡ true → z ≡ true → cond x y z ≡ true
      either true e f = e
      either false e f = f

  items-lead : (items : Items) → items_have_no_anchors items ≡ true → items_lead items ≡ true
  items-lead no_items h = refl
  items-lead (item bs rest) h =
      let p = and_parts (blocks_have_no_anchors bs) (items_have_no_anchors rest) h in
      both (title_keeps bs) (cond (are_unseen bs) (items_lead rest) (items_have_no_anchors rest)) (title-keeps bs p.0)
      (either (are_unseen bs) (items-lead rest p.1) p.1)
    where
      either : (x : Bool) {y z : Bool} → y ≡ true → z ≡ true → cond x y z ≡ true
      either true e f = e
      either false e f = f

mutual
  pub none-keep : (d : Blocks) (b is_end : Bool) → blocks_have_no_anchors d ≡ true
      → are_normal_blocks b d ≡ true
      → are_settled_alone d ≡ true → blocks_keep is_end d ≡ true
  none-keep no_blocks b is_end h n e = refl
  none-keep (block (paragraph xs) d) b is_end h n e =
      let free = and_parts (have_no_anchors xs) (blocks_have_no_anchors d) h in
      let normal = and_parts (is_normal_paragraph b xs) (are_normal_blocks false d) n in
      let settled = and_parts (is_settled_paragraph xs) (are_settled_alone d) e in
      both (line_keeps xs && (not (are_anchors xs) || stand_alone is_end d)) (blocks_keep is_end d)
      (paragraph-keep b is_end xs d free.0 normal.0 settled.0) (none-keep d false is_end free.1 normal.1 settled.1)
  none-keep (block (heading level xs) d) b is_end h n e =
      let free = and_parts (have_no_anchors xs) (blocks_have_no_anchors d) h in
      let normal = and_parts (is_normal_heading level xs) (are_normal_blocks false d) n in
      let settled = and_parts (is_settled_line xs && are_away xs) (are_settled_alone d) e in
      let line = and_parts (_ && is_normal_line xs) (anchors_stand_well xs) normal.0 in
      let words = and_parts (are_whole xs) (are_normal false [] xs) (and_parts _ (is_normal_line xs) line.0).1 in
      both ((line_keeps xs && heading_keeps xs) && true) (blocks_keep is_end d)
      (both (line_keeps xs && heading_keeps xs) true (both (line_keeps xs) (heading_keeps xs)
      (plain-keeps xs free.0 words.1 (and_parts (is_settled_line xs) (are_away xs) settled.0).0)
      (heading-free xs free.0)) refl) (none-keep d false is_end free.1 normal.1 settled.1)
  none-keep (block (code_block language s) d) b is_end h n e =
      none-keep d false is_end h (and_parts _ (are_normal_blocks false d) n).1 (and_parts _ (are_settled_alone d) e).1
  none-keep (block (quote bs) d) b is_end h n e =
      let free = and_parts (blocks_have_no_anchors bs) (blocks_have_no_anchors d) h in
      let normal = and_parts (is_filled bs && are_normal_blocks false bs) (are_normal_blocks false d) n in
      let settled = and_parts (are_settled_alone bs) (are_settled_alone d) e in
      both (blocks_keep false bs && true) (blocks_keep is_end d)
      (both (blocks_keep false bs) true (none-keep bs false false free.0
      (and_parts (is_filled bs) (are_normal_blocks false bs) normal.0).1 settled.0)
      refl)
      (none-keep d false is_end free.1 normal.1 settled.1)
  none-keep (block thematic_break d) b is_end h n e = none-keep d false is_end h n e
  none-keep (block (list start is_tight items) d) b is_end h n e =
      let free = and_parts (items_have_no_anchors items) (blocks_have_no_anchors d) h in
      let normal = and_parts (is_normal_list start is_tight (flat_items items) && are_normal_items items)
      (are_normal_blocks false d) n in
      let settled = and_parts (is_right_list is_tight items && are_settled_items items) (are_settled_alone d) e in
      both (items_keep items && true) (blocks_keep is_end d)
      (both (items_keep items) true (none-keep-items items free.0 (and_parts _ (are_normal_items items) normal.0).1
      (and_parts (is_right_list is_tight items) (are_settled_items items) settled.0).1) refl)
      (none-keep d false is_end free.1 normal.1 settled.1)
  none-keep (block (table alignments header rows) d) b is_end h n e =
      let free = and_parts (list_all have_no_anchors header && list_all (list_all have_no_anchors) rows)
      (blocks_have_no_anchors d) h in
      let free_lines = and_parts (list_all have_no_anchors header) (list_all (list_all have_no_anchors) rows) free.0 in
      let normal = and_parts (is_normal_table alignments header rows) (are_normal_blocks false d) n in
      let form = and_parts ((has_cell header && (length alignments == length header)) && are_normal_cells header)
      (list_all (is_normal_row (length header)) rows) normal.0 in
      let own = and_parts (has_cell header && (length alignments == length header)) (are_normal_cells header) form.0 in
      let settled = and_parts (is_settled_table header rows) (are_settled_alone d) e in
      let good = and_parts (list_all is_settled_line header && list_all (list_all is_settled_line) rows)
      (shows_last_column header rows) settled.0 in
      let all = and_parts (list_all is_settled_line header) (list_all (list_all is_settled_line) rows) good.0 in
      let keep : Bool = list_all line_keeps header && list_all (list_all line_keeps) rows in
      both (keep && true) (blocks_keep is_end d)
      (both keep true (both (list_all line_keeps header) (list_all (list_all line_keeps) rows)
      (plain-cells header free_lines.0 own.1 all.0) (plain-rows (length header) rows free_lines.1 form.1 all.1)) refl)
      (none-keep d false is_end free.1 normal.1 settled.1)
  none-keep (block (element name attributes bs) d) b is_end h n e =
      let free = and_parts (blocks_have_no_anchors bs) (blocks_have_no_anchors d) h in
      let normal = and_parts (is_normal_element name attributes bs && are_normal_blocks false bs)
      (are_normal_blocks false d) n in
      let apart = is_bounded name bs in
      let settled = and_parts (apart && are_settled_alone bs) (are_settled_alone d) e in
      let inner = (and_parts _ (are_normal_blocks false bs) normal.0).1 in
      let first = not (is_headed_element name) || title_keeps bs in
      let stay = blocks_keep false bs && first in
      both (stay && true) (blocks_keep is_end d)
      (both stay true (both (blocks_keep false bs) first
      (none-keep bs false false free.0 inner (and_parts apart (are_settled_alone bs) settled.0).1)
      (or-true (not (is_headed_element name)) (title_keeps bs) (title-keeps bs free.0))) refl)
      (none-keep d false is_end free.1 normal.1 settled.1)
  none-keep (block (tags s) d) b is_end h n e = false-true n

  none-keep-items : (items : Items) → items_have_no_anchors items ≡ true → are_normal_items items ≡ true
      → are_settled_items items ≡ true → items_keep items ≡ true
  none-keep-items no_items h n e = refl
  none-keep-items (item bs rest) h n e =
      let free = and_parts (blocks_have_no_anchors bs) (items_have_no_anchors rest) h in
      let normal = and_parts (are_normal_blocks true bs) (are_normal_items rest) n in
      let settled = and_parts (are_settled_blocks bs) (are_settled_items rest) e in
      both (blocks_keep false bs) (items_keep rest) (none-keep bs true false free.0 normal.0
      (settled-alone bs settled.0))
      (none-keep-items rest free.1 normal.1 settled.1)

standing-keep : (d : Blocks) → anchors_stand d ≡ true → blocks_keep true d ≡ true
standing-keep d h =
    let p = and_parts (lines_stand d && all_stand true d) (has_unique_ids d) h in
    let q = and_parts (lines_stand d) (all_stand true d) p.0 in
    kept d true q.0 q.1

pub stay-keep : (w : Anchors) (d : Blocks) → anchors_stay w d ≡ true → are_normal_blocks false d ≡ true
    → are_settled_blocks d ≡ true → blocks_keep true d ≡ true
stay-keep which.None d h normal settled = none-keep d false true h normal (settled-alone d settled)
stay-keep which.Linked d h normal settled = standing-keep d (and_parts (anchors_stand d) _ h).0
stay-keep which.All d h normal settled = standing-keep d h
