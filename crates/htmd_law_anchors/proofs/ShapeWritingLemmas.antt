-- Whether anything shows of parts: by what kinds of parts there are alone.
use Rattle.std.proofs.Common.{◌≡◌, ℕ, zero, suc, ◌+◌, ◌≤◌, Bool, true, false, cond, not, ◌&&◌, ◌||◌, List, [], ◌∷◌}
use Rattle.std.proofs.Common.{◌++◌, refl, sym, ap, ◌∙◌, subst, fold, length, take, map, arith}
use Rattle.std.specs.Prelude.{nat_le, ◌==◌}
use Rattle.std.specs.List.{list_all}
use Rattle.std.specs.Str.{chars}
use Rattle.std.specs.Char.{encode_utf8}
use Rattle.htmd_lexical.specs.Characters.{space}
use Rattle.htmd_lexical.specs.WhiteSpace.{is_ascii_white_space}
use Rattle.htmd_lexical.proofs.Cases.{test}
use Rattle.htmd_document.specs.Documents.{Inline, text, code, image, anchor, line_break, Inlines, no_inlines, inline}
use Rattle.htmd_document.specs.Documents.{Block}
use Rattle.htmd_document.specs.Documents as value
use Rattle.htmd_document.specs.TightItems.{is_filled, is_paragraph}
use Rattle.htmd_flow.specs.Flows.{blocks_of, line_of}
use Rattle.htmd_flow.specs.Nesting.{wrapper_of, shared, wrapped, text_or_code, met, joined, in_last, behind}
use Rattle.htmd_flow.specs.Paragraphs.{Writing, begun, is_leaf, whole_content, anchored, paragraph_of}
use Rattle.htmd_flow.specs.Paragraphs.{open_paragraph, ended, parted, broken_off, spaced_out, white_behind}
use Rattle.htmd_flow.specs.Paragraphs.{gap_behind, shared_wrappers, put_before, shown, latest_of}
use Rattle.htmd_flow.specs.Paragraphs.{after_leaf, is_task_here, boxed, with_task, tasked, with_anchor, is_boxed_item}
use Rattle.htmd_flow.specs.Paragraphs.{edged, blocked, after_character, fed, fed_all, blocks_in}
use Rattle.htmd_flow.specs.declared.paragraphs.Latest.{Latest}
use Rattle.htmd_flow.specs.declared.paragraphs.Latest.TheVariants.{Nothing, Task, Plain, Code}
use Rattle.htmd_flow.specs.declared.paragraphs.Met.TheVariants as met
use Rattle.htmd_flow.specs.Parts.{Around, Part, run, picture, break, place, box, edge, whole}
use Rattle.htmd_shown.specs.Spaces.{is_white, is_blank_text}
use Rattle.htmd_law_documents.proofs.ElementLemmas.{false-true, true-false}
use Rattle.htmd_law_anchors.proofs.TruthLemmas.{or-true, or-none, or-assoc}

-- ---- inlines that are there

abbrev pub some_line : Inlines → Bool
some_line no_inlines = false
some_line (inline x xs) = true

met-some : (x y : Inline) → some_line (met x y) ≡ true
met-some (text s) (text t) = refl
met-some (code s) (code t) = refl
met-some x y = refl

joined-some : (xs : Inlines) (y : Inline) → some_line (joined xs y) ≡ true
joined-some no_inlines y = refl
joined-some (inline x no_inlines) y = met-some x y
joined-some (inline x (inline x' xs)) y = refl

last-some : (change : Inlines → Inlines) (xs : Inlines) → some_line xs ≡ true
    → some_line (in_last change xs) ≡ true
last-some change no_inlines e = false-true e
last-some change (inline x no_inlines) e = refl
last-some change (inline x (inline x' xs)) e = refl

behind-some : (n : ℕ) (xs : Inlines) (around : List Around) (y : Inline) → some_line xs ≡ true
    → some_line (behind n xs around y) ≡ true
behind-some zero xs around y e = joined-some xs (wrapped around y)
behind-some (suc n) xs [] y e = joined-some xs y
behind-some (suc n) xs (a ∷ around) y e = last-some (λ content. behind n content around y) xs e

anchored-some : (ids : List (List ℕ)) (n : ℕ) (xs : Inlines) (around : List Around) → some_line xs ≡ true
    → some_line (anchored n xs around ids) ≡ true
anchored-some [] n xs around e = e
anchored-some (id ∷ ids) n xs around e =
    anchored-some ids n (behind n xs (take n around) (anchor id)) around
    (behind-some n xs (take n around) (anchor id) e)

white-some : (s : List ℕ) (n : ℕ) (xs : Inlines) (around : List Around) (b : Bool) → some_line xs ≡ true
    → some_line (white_behind n xs around b s) ≡ true
white-some [] n xs around b e = e
white-some (c ∷ s) n xs around b e = behind-some n xs (take n around) (text_or_code b (c ∷ s)) e

gap-some : (w : Writing) (n : ℕ) (around : List Around) (b : Bool) → some_line w.content ≡ true
    → some_line (cond w.gap.has_break (behind n w.content (take n around) line_break)
    (white_behind n w.content around b w.gap.white)) ≡ true
gap-some w n around b e = either w.gap.has_break
  where
    either : (d : Bool) → some_line (cond d (behind n w.content (take n around) line_break)
        (white_behind n w.content around b w.gap.white)) ≡ true
    either true = behind-some n w.content (take n around) line_break e
    either false = white-some w.gap.white n w.content around b e

behind-gap-some : (l : Latest) (w : Writing) (around : List Around) (k : Bool) → some_line w.content ≡ true
    → some_line (gap_behind l w around k) ≡ true
behind-gap-some Nothing w around k e = e
behind-gap-some Task w around k e = behind-some 0 w.content [] (text (space ∷ [])) e
behind-gap-some Plain w around k e = gap-some w _ around _ e
behind-gap-some Code w around k e = gap-some w _ around _ e

-- ---- how much there is

abbrev pub nonnil : List (List ℕ) → Bool
nonnil [] = false
nonnil (id ∷ ids) = true

abbrev pub bit : Bool → ℕ
bit true = 1
bit false = 0

-- a paragraph counts one, and another block two
abbrev pub block_weight : Block → ℕ
block_weight b = cond (is_paragraph b) 1 2

abbrev pub weight : List Block → ℕ
weight [] = 0
weight (b ∷ bs) = block_weight b + weight bs

abbrev pub opens : Writing → Bool
opens w = is_leaf w.latest || nonnil w.anchors

abbrev pub D : Writing → ℕ
D w = weight w.done

abbrev pub O : Writing → ℕ
O w = bit (opens w)

pub bit-small : (b : Bool) → bit b ≤ 1
bit-small true = omega arith
bit-small false = omega arith

pub weight-append : (xs ys : List Block) → weight (xs ++ ys) ≡ weight xs + weight ys
weight-append [] ys = none (weight ys)
  where
    none : (n : ℕ) → n ≡ 0 + n
    none n = omega arith
weight-append (x ∷ xs) ys = add (block_weight x) (weight (xs ++ ys)) (weight xs) (weight ys) (weight-append xs ys)
  where
    add : (a b c d : ℕ) → b ≡ c + d → a + b ≡ (a + c) + d
    add a b c d e = omega arith

paragraph-weight : (xs : Inlines) → weight (paragraph_of xs) ≡ bit (some_line xs)
paragraph-weight no_inlines = refl
paragraph-weight (inline x xs) = refl

-- what is begun, in an item or not and in one line or not
pub record St (in_item flat : Bool) (w : Writing) : Type 0 where
  pub some : is_leaf w.latest ≡ true → some_line w.content ≡ true
  pub black : is_leaf w.latest ≡ true → w.is_blank ≡ false
  pub item : w.in_item ≡ in_item
  pub line : w.is_flat ≡ flat
  pub none : flat ≡ true → D w ≡ 0

whole-some : (w : Writing) → (is_leaf w.latest ≡ true → some_line w.content ≡ true)
    → some_line (whole_content w) ≡ opens w
whole-some w f = at (is_leaf w.latest) w.anchors f
  where
    at : (l : Bool) (ids : List (List ℕ)) → (l ≡ true → some_line w.content ≡ true)
        → some_line (anchored 0 (cond l w.content no_inlines) [] ids) ≡ (l || nonnil ids)
    at true ids f = anchored-some ids 0 w.content [] (f refl)
    at false [] f = refl
    at false (id ∷ ids) f =
        anchored-some ids 0 (behind 0 no_inlines (take 0 []) (anchor id)) []
        (joined-some no_inlines (wrapped (take 0 []) (anchor id)))

module _ (in_item flat : Bool) where
  abbrev S : Writing → Type 0
  S w = St in_item flat w

  pub ended-weight : (w : Writing) → S w → weight (w.done ++ open_paragraph w) ≡ D w + O w
  ended-weight w h =
      weight-append w.done (open_paragraph w)
      ∙ ap (λ n. D w + n) (paragraph-weight (whole_content w) ∙ ap bit (whole-some w h.some))

  pub started : S (begun in_item flat)
  started = record {
    some = λ e. false-true e;
    black = λ e. false-true e;
    item = refl;
    line = refl;
    none = λ e. refl;
  }

  ended-st : (w : Writing) → flat ≡ false → S w → S (ended w)
  ended-st w f h = record {
    some = λ e. false-true e;
    black = λ e. false-true e;
    item = h.item;
    line = h.line;
    none = λ e. true-false (sym e ∙ f);
  }

  pub either-st : (b : Bool) (v w : Writing) → (b ≡ true → S v) → (b ≡ false → S w) → S (cond b v w)
  either-st true v w g h = g refl
  either-st false v w g h = h refl

  parts-flat : (w : Writing) → S w → (not w.is_flat && nat_le 2 w.breaks) ≡ true → flat ≡ false
  parts-flat w h e = at w.is_flat h.line e
    where
      at : (b : Bool) → b ≡ flat → (not b && nat_le 2 w.breaks) ≡ true → flat ≡ false
      at true f e = false-true e
      at false f e = sym f

  pub parted-st : (w : Writing) → S w → S (parted w)
  parted-st w h =
      either-st (not w.is_flat && nat_le 2 w.breaks) (ended w) w (λ e. ended-st w (parts-flat w h e) h) (λ e. h)

  pub latest-leaf : (k : Bool) → is_leaf (latest_of k) ≡ true
  latest-leaf true = refl
  latest-leaf false = refl

  shown-some : (w : Writing) (around : List Around) (k : Bool) (x : Inline) → S w
      → some_line (behind (shared_wrappers w (map wrapper_of around)) (put_before w around k) around x) ≡ true
  shown-some w around k x h = at (is_leaf w.latest) refl
    where
      at : (l : Bool) → is_leaf w.latest ≡ l
          → some_line (behind (shared_wrappers w (map wrapper_of around)) (put_before w around k) around x) ≡ true
      at true e =
          behind-some (shared_wrappers w (map wrapper_of around)) (put_before w around k) around x
          (anchored-some w.anchors (shared_wrappers w (map wrapper_of around)) (gap_behind w.latest w around k) around
          (behind-gap-some w.latest w around k (h.some e)))
      at false e =
          subst (λ (n : ℕ). some_line (behind n (put_before w around k) around x) ≡ true)
          (sym (ap (λ b. cond b (shared w.around (map wrapper_of around)) 0) e))
          (joined-some (put_before w around k) (wrapped around x))

  shown-st : (w : Writing) (around : List Around) (k : Bool) (x : Inline) → S w → S (shown w around k x)
  shown-st w around k x h = record {
    some = λ e. shown-some w around k x h;
    black = λ e. refl;
    item = h.item;
    line = h.line;
    none = h.none;
  }

  pub leaf-st : (w : Writing) (around : List Around) (k : Bool) (x : Inline) → S w → S (after_leaf w around k x)
  leaf-st w around k x h = shown-st (parted w) around k x (parted-st w h)

  pub white-st : (w : Writing) (c : ℕ) (k : Bool) → S w → S (spaced_out w c k)
  white-st w c k h = record {
    some = h.some;
    black = λ e. ap (λ b. b && is_ascii_white_space c) (h.black e);
    item = h.item;
    line = h.line;
    none = h.none;
  }

  broken-st : (w : Writing) → S w → S (broken_off w)
  broken-st w h = record { some = h.some; black = h.black; item = h.item; line = h.line; none = h.none }

  anchor-st : (w : Writing) (id : List ℕ) → S w → S (with_anchor w id)
  anchor-st w id h = record { some = h.some; black = h.black; item = h.item; line = h.line; none = h.none }

  boxed-st : (w : Writing) → S w → S (boxed w)
  boxed-st w h = record { some = h.some; black = h.black; item = h.item; line = h.line; none = h.none }

  tasked-st : (w : Writing) (b : Bool) → S w → S (tasked w b)
  tasked-st w b h =
      either-st (is_task_here w) (with_task (boxed w) b) (boxed w)
      (λ e. record {
        some = λ f. false-true f;
        black = λ f. false-true f;
        item = h.item;
        line = h.line;
        none = h.none;
      })
      (λ e. boxed-st w h)

  edged-st : (w : Writing) → S w → S (edged w)
  edged-st w h =
      either-st w.is_flat (broken_off w) (cond (is_boxed_item w) w (record (ended w) { met = met.Nothing }))
      (λ e. broken-st w h)
      (λ e. either-st (is_boxed_item w) w (record (ended w) { met = met.Nothing }) (λ f. h)
      (λ f.
      let v : S (ended w) = ended-st w (sym h.line ∙ e) h in
      record { some = v.some; black = v.black; item = v.item; line = v.line; none = v.none }))

  blocked-st : (w : Writing) (b : Block) → S w → S (blocked w b)
  blocked-st w b h =
      either-st w.is_flat (broken_off w) (record (ended w) { done = (ended w).done ++ b ∷ []; met = met.Nothing })
      (λ e. broken-st w h)
      (λ e.
      let v : S (ended w) = ended-st w (sym h.line ∙ e) h in
      record {
        some = v.some;
        black = v.black;
        item = v.item;
        line = v.line;
        none = λ f. true-false (sym f ∙ (sym h.line ∙ e));
      })

  run-st : (cs : List ℕ) (w : Writing) (around : List Around) (k : Bool) → S w
      → S (fold (λ v c. after_character v around k c) w cs)
  run-st [] w around k h = h
  run-st (c ∷ cs) w around k h =
      run-st cs (after_character w around k c) around k
      (either-st (is_white c) (spaced_out w c k) (after_leaf w around k (text_or_code k (encode_utf8 c)))
      (λ e. white-st w c k h) (λ e. leaf-st w around k (text_or_code k (encode_utf8 c)) h))

  pub fed-st : (p : Part) (w : Writing) → S w → S (fed w p)
  fed-st (run s around k) w h = run-st (chars s) w around k h
  fed-st (picture address title description around) w h =
      leaf-st w around false (image address title description) h
  fed-st break w h = broken-st w h
  fed-st (place id) w h = anchor-st (parted w) id (parted-st w h)
  fed-st (box b) w h = tasked-st (parted w) b (parted-st w h)
  fed-st edge w h = edged-st w h
  fed-st (whole b) w h = blocked-st w b h

-- ---- whether anything is there

-- something shows of a part, in one line or not, or it is an anchor
abbrev pub fills : Bool → Part → Bool
fills flat (run s around is_code) = not (is_blank_text s)
fills flat (picture address title description around) = true
fills flat break = false
fills flat (place id) = true
fills flat (box is_checked) = false
fills flat edge = false
fills flat (whole b) = not flat

abbrev pub any_fills : Bool → List Part → Bool
any_fills flat [] = false
any_fills flat (p ∷ ps) = fills flat p || any_fills flat ps

abbrev pub Full : Bool → ℕ → Type 0
Full true n = 1 ≤ n
Full false n = n ≡ 0

full-more : (b : Bool) (m n : ℕ) → m ≡ n → Full b m → Full b n
full-more b m n e h = subst (Full b) e h

module _ (in_item flat : Bool) where
  parted-total : (w : Writing) → St in_item flat w → D (parted w) + O (parted w) ≡ D w + O w
  parted-total w h = either (not w.is_flat && nat_le 2 w.breaks)
    where
      plus : (a b : ℕ) → a ≡ b → a + 0 ≡ b
      plus a b e = omega arith

      either : (b : Bool) → D (cond b (ended w) w) + O (cond b (ended w) w) ≡ D w + O w
      either true = plus (weight (w.done ++ open_paragraph w)) (D w + O w) (ended-weight in_item flat w h)
      either false = refl

  one-more : (d : ℕ) (b : Bool) → b ≡ true → 1 ≤ d + bit b
  one-more d true e = omega arith
  one-more d false e = false-true e

  leaf-full : (w : Writing) (around : List Around) (k : Bool) (x : Inline)
      → 1 ≤ D (after_leaf w around k x) + O (after_leaf w around k x)
  leaf-full w around k x =
      one-more (D (parted w)) (is_leaf (latest_of k) || false)
      (or-none (is_leaf (latest_of k)) ∙ latest-leaf in_item flat k)

  run-full : (cs : List ℕ) (w : Writing) (around : List Around) (k b : Bool) → Full b (D w + O w)
      → Full (b || not (list_all is_white cs)) (D (fold (λ v c. after_character v around k c) w cs)
      + O (fold (λ v c. after_character v around k c) w cs))
  run-full [] w around k b h = subst (λ (x : Bool). Full x (D w + O w)) (sym (or-none b)) h
  run-full (c ∷ cs) w around k b h = test (is_white c)
      (λ e.
      let next : Full b (D (after_character w around k c) + O (after_character w around k c)) =
      subst (λ (x : Bool). Full b (D
      (cond x (spaced_out w c k) (after_leaf w around k (text_or_code k (encode_utf8 c))))
      + O (cond x (spaced_out w c k) (after_leaf w around k (text_or_code k (encode_utf8 c)))))) (sym e) h in
      subst (λ (x : Bool). Full (b || not (x && list_all is_white cs)) (rest-of c cs)) (sym e)
      (run-full cs (after_character w around k c) around k b next))
      (λ e.
      let next : 1 ≤ D (after_character w around k c) + O (after_character w around k c) =
      subst (λ (x : Bool). 1 ≤ D (cond x (spaced_out w c k) (after_leaf w around k (text_or_code k (encode_utf8 c))))
      + O (cond x (spaced_out w c k) (after_leaf w around k (text_or_code k (encode_utf8 c))))) (sym e)
      (leaf-full w around k (text_or_code k (encode_utf8 c))) in
      subst (λ (x : Bool). Full x (rest-of c cs))
      (sym (ap (λ x. b || not (x && list_all is_white cs)) e ∙ or-true b))
      (run-full cs (after_character w around k c) around k true next))
    where
      rest-of : ℕ → List ℕ → ℕ
      rest-of c cs =
          D (fold (λ v c. after_character v around k c) (after_character w around k c) cs)
          + O (fold (λ v c. after_character v around k c) (after_character w around k c) cs)

  box-total : (w : Writing) (c : Bool) → St in_item flat w → D (tasked w c) + O (tasked w c) ≡ D w + O w
  box-total w c h = either (is_task_here w) refl
    where
      blank : (a b d : Bool) → (a && b && d) ≡ true → d ≡ true
      blank true true d e = e
      blank true false d e = false-true e
      blank false b d e = false-true e

      white : (l : Bool) → is_leaf w.latest ≡ l → w.is_blank ≡ true → (false || nonnil w.anchors)
          ≡ (l || nonnil w.anchors)
      white true e f = true-false (sym f ∙ h.black e)
      white false e f = refl

      either : (b : Bool) → is_task_here w ≡ b
          → D (cond b (with_task (boxed w) c) (boxed w)) + O (cond b (with_task (boxed w) c) (boxed w)) ≡ D w + O w
      either true e =
          ap (λ x. D w + bit x) (white (is_leaf w.latest) refl (blank w.in_item (length w.done == 0) w.is_blank e))
      either false e = refl

  edge-total : (w : Writing) → St in_item flat w → D (edged w) + O (edged w) ≡ D w + O w
  edge-total w h = either w.is_flat (is_boxed_item w)
    where
      plus : (a b : ℕ) → a ≡ b → a + 0 ≡ b
      plus a b e = omega arith

      either : (b d : Bool)
          → D (cond b (broken_off w) (cond d w (record (ended w) { met = met.Nothing })))
          + O (cond b (broken_off w) (cond d w (record (ended w) { met = met.Nothing }))) ≡ D w + O w
      either true d = refl
      either false true = refl
      either false false = plus (weight (w.done ++ open_paragraph w)) (D w + O w) (ended-weight in_item flat w h)

  some-weight : (b : Block) → 1 ≤ block_weight b
  some-weight b = at (is_paragraph b)
    where
      at : (x : Bool) → 1 ≤ cond x 1 2
      at true = omega arith
      at false = omega arith

  whole-full : (w : Writing) (b : Block) (f : Bool) → St in_item flat w → Full f (D w + O w)
      → Full (f || not flat) (D (blocked w b) + O (blocked w b))
  whole-full w b f h g = either w.is_flat h.line
    where
      more : (a c d : ℕ) → a ≡ c + d → 1 ≤ d → 1 ≤ a + 0
      more a c d e l = omega arith

      left : (a : ℕ) → 1 ≤ a → 1 ≤ a + 0
      left a l = omega arith

      either : (x : Bool) → x ≡ flat
          → Full (f || not flat) (D (cond x (broken_off w) (record (ended w) {
            done = (ended w).done ++ b ∷ [];
            met = met.Nothing;
          }))
          + O (cond x (broken_off w) (record (ended w) { done = (ended w).done ++ b ∷ []; met = met.Nothing })))
      either true e =
          subst (λ (y : Bool). Full (f || not y) (D w + O w)) e
          (subst (λ (y : Bool). Full y (D w + O w)) (sym (or-none f)) g)
      either false e =
          subst (λ (y : Bool). Full (f || not y) (weight ((w.done ++ open_paragraph w) ++ b ∷ []) + 0)) e
          (subst (λ (y : Bool). Full y (weight ((w.done ++ open_paragraph w) ++ b ∷ []) + 0)) (sym (or-true f))
          (more (weight ((w.done ++ open_paragraph w) ++ b ∷ [])) (weight (w.done ++ open_paragraph w))
          (block_weight b + 0) (weight-append (w.done ++ open_paragraph w) (b ∷ []))
          (left (block_weight b) (some-weight b))))

  place-full : (w : Writing) (id : List ℕ)
      → 1 ≤ D (with_anchor w id) + O (with_anchor w id)
  place-full w id = one-more (D w) (is_leaf w.latest || nonnil (w.anchors ++ id ∷ []))
      (at (is_leaf w.latest) w.anchors)
    where
      at : (l : Bool) (ids : List (List ℕ)) → (l || nonnil (ids ++ id ∷ [])) ≡ true
      at true ids = refl
      at false [] = refl
      at false (other ∷ ids) = refl

  true-full : (f : Bool) (n : ℕ) → 1 ≤ n → Full (f || true) n
  true-full f n l = subst (λ (x : Bool). Full x n) (sym (or-true f)) l

  same-full : (f : Bool) (m n : ℕ) → m ≡ n → Full f n → Full (f || false) m
  same-full f m n e h = subst (λ (x : Bool). Full x m) (sym (or-none f)) (full-more f n m (sym e) h)

  fed-full : (p : Part) (w : Writing) (f : Bool) → St in_item flat w → Full f (D w + O w)
      → Full (f || fills flat p) (D (fed w p) + O (fed w p))
  fed-full (run s around k) w f h g = run-full (chars s) w around k f g
  fed-full (picture address title description around) w f h g =
      true-full f _ (leaf-full w around false (image address title description))
  fed-full break w f h g = same-full f (D w + O w) (D w + O w) refl g
  fed-full (place id) w f h g = true-full f _ (place-full (parted w) id)
  fed-full (box b) w f h g =
      same-full f (D (tasked (parted w) b) + O (tasked (parted w) b)) (D w + O w)
      (box-total (parted w) b (parted-st in_item flat w h) ∙ parted-total w h) g
  fed-full edge w f h g = same-full f (D (edged w) + O (edged w)) (D w + O w) (edge-total w h) g
  fed-full (whole b) w f h g = whole-full w b f h g

  -- what is begun, with whether anything is there
  pub record Begun (f : Bool) (w : Writing) : Type 0 where
    pub st : St in_item flat w
    pub full : Full f (D w + O w)

  pub all-full : (ps : List Part) (w : Writing) (f : Bool) → Begun f w
      → Begun (f || any_fills flat ps) (fed_all w ps)
  all-full [] w f h = subst (λ (x : Bool). Begun x w) (sym (or-none f)) h
  all-full (p ∷ ps) w f h =
      subst (λ (x : Bool). Begun x (fed_all (fed w p) ps)) (or-assoc f (fills flat p) (any_fills flat ps))
      (all-full ps (fed w p) (f || fills flat p)
      (record { st = fed-st in_item flat p w h.st; full = fed-full p w f h.st h.full }))

  pub nothing-begun : Begun false (begun in_item flat)
  nothing-begun = record { st = started in_item flat; full = refl }

filled-weight : (bs : List Block) (f : Bool) → Full f (weight bs) → is_filled (value.blocks_of bs) ≡ f
filled-weight [] true h = absurd (none h)
  where
    none : 1 ≤ 0 → ⊥
    none h = omega arith
filled-weight [] false h = refl
filled-weight (b ∷ bs) true h = refl
filled-weight (b ∷ bs) false h = absurd (some (is_paragraph b) (weight bs) h)
  where
    some : (x : Bool) (n : ℕ) → cond x 1 2 + n ≡ 0 → ⊥
    some true n e = omega arith
    some false n e = omega arith

-- an item that is begun is filled
pub begun-filled : (in_item f : Bool) (w : Writing) → Begun in_item false f w → is_filled (blocks_in w) ≡ f
begun-filled in_item f w h =
    filled-weight (w.done ++ open_paragraph w) f
    (full-more f (D w + O w) (weight (w.done ++ open_paragraph w)) (sym (ended-weight in_item false w h.st)) h.full)

pub blocks-filled : (in_item : Bool) (ps : List Part) → is_filled (blocks_of in_item ps) ≡ any_fills false ps
blocks-filled in_item ps =
    begun-filled in_item (any_fills false ps) (fed_all (begun in_item false) ps)
    (all-full in_item false ps (begun in_item false) false (nothing-begun in_item false))

pub line-filled : (ps : List Part) → some_line (line_of ps) ≡ any_fills true ps
line-filled ps =
    let w : Writing = fed_all (begun false true) ps in
    let h : Begun false true (any_fills true ps) w =
    all-full false true ps (begun false true) false (nothing-begun false true) in
    whole-some w h.st.some ∙ at (opens w) (any_fills true ps) (D w) (h.st.none refl) h.full
  where
    at : (b f : Bool) (d : ℕ) → d ≡ 0 → Full f (d + bit b) → b ≡ f
    at true true d e h = refl
    at false false d e h = refl
    at true false d e h = absurd (omega arith)
    at false true d e h = absurd (omega arith)
