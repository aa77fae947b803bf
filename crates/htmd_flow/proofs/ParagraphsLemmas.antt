-- Lemmas on parts one after another.
use Rattle.std.proofs.Common.{◌≡◌, ℕ, suc, ◌≤◌, Bool, true, false, ◌&&◌, ◌==◌, List, [], ◌∷◌, ◌++◌, map, length}
use Rattle.std.proofs.Common.{take, drop, refl, sym, subst, ◌∙◌, ap, arith, fold, cond, if◌then◌else◌}
use Rattle.std.proofs.Common.{Result, Ok, Err, IfOk}
use Rattle.std.specs.Prelude.{encode_utf8, min}
use Rattle.std.proofs.lemmas.Bool.Decides.{nat_tests}
use Rattle.std.proofs.lemmas.List.{append-nil, length-map, length-append, take_all, length-take-le, length-take}
use Rattle.std.proofs.lemmas.List.{take-append-drop, map_push}
use Rattle.std.proofs.lemmas.List.Sums.{fold-append}
use Rattle.std.specs.Prelude.{String, string_bytes}
use Rattle.std.specs.declared.alloc.Global.{Global}
use Rattle.std.specs.Str.{chars}
use Rattle.std.proofs.lemmas.Str.{chars-nil}
use Rattle.std.proofs.Math.Seq.{take-append_seam}
use Rattle.htmd_document.specs.Documents.{Block, Inline, Inlines, no_inlines, line_break, anchor}
use Rattle.htmd_flow.specs.Nesting.{Wrapper, of_format, of_link, wrapper_of, is_same, shared, behind}
use Rattle.htmd_flow.specs.Nesting.{text_or_code}
use Rattle.htmd_flow.specs.Paragraphs.{Writing, parted, after_leaf, after_character}
use Rattle.htmd_flow.specs.Paragraphs.{shared_wrappers, latest_of, is_leaf, spaced_out}
use Rattle.htmd_flow.specs.Paragraphs.{gap_before, white_behind, is_code_gap, put_before, anchored, shown_content}
use Rattle.htmd_flow.specs.Paragraphs.{whole_content, gap_behind, open_paragraph, paragraph_of}
use Rattle.htmd_flow.specs.declared.paragraphs.Latest.TheVariants.{Nothing}
use Rattle.htmd_flow.specs.declared.paragraphs.Met.TheVariants as met
use Rattle.htmd_flow.specs.ParagraphViews.{with_blocks, with_latest, untasked, emptied, IsPut, IsGapPut, IsLike}
use Rattle.htmd_flow.specs.ParagraphViews.{IsReached}
use Rattle.htmd_document.specs.DocumentViews.{inline_of}
use Rattle.htmd_document.specs.declared.document.Inline.TheVariants as source
use Rattle.htmd_flow.specs.Parts.{Around}
use Rattle.htmd_flow.specs.PartViews.{around_of}
use Rattle.htmd_flow.specs.declared.around.Around as declared
use Rattle.htmd_flow.proofs.NestLemmas.{inline-anchor}
use Rattle.htmd_shown.specs.Spaces.{is_white}
use Rattle.htmd_document.proofs.FormatsLemmas.{same-format, same-itself}

-- ---- what is shared

pub same-wrapper : (m n : Wrapper) → is_same m n ≡ true → m ≡ n
same-wrapper (of_format f) (of_format g) h = ap of_format (same-format f g h)
same-wrapper (of_link m) (of_link n) h = ap of_link (grind (arith, nat_tests, h))
same-wrapper (of_format f) (of_link n) h = cc
same-wrapper (of_link m) (of_format g) h = cc

pub alike-wrapper : (m : Wrapper) → is_same m m ≡ true
alike-wrapper (of_format f) = same-itself f
alike-wrapper (of_link n) = grind (arith, nat_tests)

pub shared-self : (ms : List Wrapper) → shared ms ms ≡ length ms
shared-self [] = refl
shared-self (m ∷ ms) = rw (alike-wrapper m) (ap suc (shared-self ms))

if-suc : (b : Bool) (n k : ℕ) → n ≤ k → cond b (suc n) 0 ≤ suc k
if-suc true n k h = omega arith
if-suc false n k h = omega arith

pub shared-le : (ms ns : List Wrapper) → shared ms ns ≤ length ms
shared-le [] ns = omega arith
shared-le (m ∷ ms) [] = omega arith
shared-le (m ∷ ms) (n ∷ ns) = if-suc (is_same m n) (shared ms ns) (length ms) (shared-le ms ns)

pub shared-le-other : (ms ns : List Wrapper) → shared ms ns ≤ length ns
shared-le-other [] ns = omega arith
shared-le-other (m ∷ ms) [] = omega arith
shared-le-other (m ∷ ms) (n ∷ ns) = if-suc (is_same m n) (shared ms ns) (length ns) (shared-le-other ms ns)

prefix-step : (b : Bool) (m n : Wrapper) (ms ns : List Wrapper) (k : ℕ) → (b ≡ true → m ≡ n)
    → take k ms ≡ take k ns
    → take (cond b (suc k) 0) (m ∷ ms) ≡ take (cond b (suc k) 0) (n ∷ ns)
prefix-step true m n ms ns k same h = ap (λ x. x ∷ take k ms) (same refl) ∙ ap (λ xs. n ∷ xs) h
prefix-step false m n ms ns k same h = refl

pub shared-prefix : (ms ns : List Wrapper) → take (shared ms ns) ms ≡ take (shared ms ns) ns
shared-prefix [] [] = refl
shared-prefix [] (n ∷ ns) = refl
shared-prefix (m ∷ ms) [] = refl
shared-prefix (m ∷ ms) (n ∷ ns) =
    prefix-step (is_same m n) m n ms ns (shared ms ns) (same-wrapper m n) (shared-prefix ms ns)

leaf-le : (b : Bool) (n k : ℕ) → n ≤ k → cond b n 0 ≤ k
leaf-le true n k h = h
leaf-le false n k h = omega arith

pub wrappers-le : (w : Writing) (ns : List Wrapper) → shared_wrappers w ns ≤ length ns
wrappers-le w ns = leaf-le (is_leaf w.latest) (shared w.around ns) (length ns) (shared-le-other w.around ns)

leaf-prefix : (b : Bool) (n : ℕ) (ms ns : List Wrapper) → take n ms ≡ take n ns → take (cond b n 0) ms ≡ take
    (cond b n 0) ns
leaf-prefix true n ms ns h = h
leaf-prefix false n ms ns h = refl

pub wrappers-prefix : (w : Writing) (ns : List Wrapper) → take (shared_wrappers w ns) w.around
    ≡ take (shared_wrappers w ns) ns
wrappers-prefix w ns = leaf-prefix (is_leaf w.latest) (shared w.around ns) w.around ns (shared-prefix w.around ns)

-- ---- a leaf after a gap

pub reached-shown : (old mid : Writing) (around : List Around) (is_code : Bool) (n : ℕ) (leaf : Inline)
    (content : Inlines) (wrappers : List Wrapper) → IsReached old mid around is_code n
    → content ≡ behind n mid.content around leaf → wrappers ≡ take n mid.around
    ++ drop n (map wrapper_of around)
    → record (with_latest (record mid { content = content; around = wrappers }) (latest_of is_code))
    { met = met.More }
    ≡ after_leaf old around is_code leaf
reached-shown old mid around is_code n leaf content wrappers h p q =
    let outer : List Wrapper = map wrapper_of around in
    let prefix : take n (parted old).around ≡ take n outer =
    ap (λ k. take k (parted old).around) h.count ∙ (wrappers-prefix (parted old) outer ∙ ap (λ k. take k outer)
    (sym h.count)) in
    let all : wrappers ≡ outer =
    q ∙ (ap (λ xs. xs ++ drop n outer) (h.put.wrappers ∙ prefix) ∙ take-append-drop n outer) in
    let put : content ≡ behind (shared_wrappers (parted old) outer)
    (put_before (parted old) around is_code) around leaf =
    p ∙ (ap (λ xs. behind n xs around leaf) h.put.content
    ∙ ap (λ k. behind k (put_before (parted old) around is_code) around leaf) h.count) in
    let none : mid.anchors ≡ [] = h.anchors in
    let a : mid.in_item ≡ (parted old).in_item = h.put.in_item in
    let b : mid.is_flat ≡ (parted old).is_flat = h.put.is_flat in
    let d : mid.done ≡ (parted old).done = h.put.done in
    cc

pub reached-le : (old mid : Writing) (around : List Around) (is_code : Bool) (n : ℕ)
    → IsReached old mid around is_code n → n ≤ length around
reached-le old mid around is_code n h =
    rw h.count (rw (length-map around wrapper_of) at (wrappers-le (parted old) (map wrapper_of around)))

-- ---- a text, and what follows it

-- white space is read
pub white-read : (w w' : Writing) (around : List Around) (is_code : Bool) (s rest : List ℕ) (c : ℕ)
    → chars s ≡ c ∷ chars rest → is_white c ≡ true → w' ≡ spaced_out w c is_code
    → fold (λ v c'. after_character v around is_code c') w' (chars rest)
    ≡ fold (λ v c'. after_character v around is_code c') w (chars s)
white-read w w' around is_code s rest c begins white e =
    let step : Writing → ℕ → Writing = λ v c'. after_character v around is_code c' in
    let read : w' ≡ step w c = e ∙ ap (λ b. if b then spaced_out w c is_code
    else after_leaf w around is_code (text_or_code is_code (encode_utf8 c))) (sym white) in
    ap (λ u. fold step u (chars rest)) read ∙ ap (fold step w) (sym begins)

-- nothing is left to read
pub read-end : (w : Writing) (around : List Around) (is_code : Bool) (given rest : List ℕ) → given ≡ rest
    → length given ≡ 0 → w ≡ fold (λ v c'. after_character v around is_code c') w (chars rest)
read-end w around is_code [] rest e h =
    ap (λ cs. fold (λ v c'. after_character v around is_code c') w cs) (sym chars-nil)
    ∙ ap (λ r. fold (λ v c'. after_character v around is_code c') w (chars r)) e
read-end w around is_code (b ∷ s) rest e h = absurd (omega arith)

-- ---- a gap

pub IfOk-two : {X E : Type 0} (r : Result X E) (P Q R : X → Type 0) → ((x : X) → P x → Q x → R x)
    → IfOk r P → IfOk r Q → IfOk r R
IfOk-two (Ok x) P Q R f p q = f x p q
IfOk-two (Err e) P Q R f p q = tt

pub gap-break : (w : Writing) (around : List Around) (is_code : Bool) (n : ℕ)
    → n ≡ shared w.around (map wrapper_of around) → w.gap.has_break ≡ true
    → behind n w.content (take n around) line_break ≡ gap_before w around is_code
gap-break w around is_code n e h =
    let k : ℕ = shared w.around (map wrapper_of around) in
    ap (λ m. behind m w.content (take m around) line_break) e
    ∙ ap (λ b. if b then behind k w.content (take k around) line_break else
    white_behind k w.content around (is_code && is_code_gap w (map wrapper_of around)) w.gap.white) (sym h)

white-some : (n : ℕ) (xs : Inlines) (around : List Around) (is_code : Bool) (s : List ℕ)
    → (length s == 0) ≡ false
    → behind n xs (take n around) (text_or_code is_code s) ≡ white_behind n xs around is_code s
white-some n xs around is_code [] h = cc
white-some n xs around is_code (b ∷ s) h = refl

white-none : (n : ℕ) (xs : Inlines) (around : List Around) (is_code : Bool) (s : List ℕ)
    → (length s == 0) ≡ true
    → xs ≡ white_behind n xs around is_code s
white-none n xs around is_code [] h = refl
white-none n xs around is_code (b ∷ s) h = absurd (grind (arith, nat_tests, h))

pub gap-white : (w : Writing) (around : List Around) (is_code : Bool) (n : ℕ)
    → n ≡ shared w.around (map wrapper_of around) → w.gap.has_break ≡ false → (length w.gap.white == 0)
    ≡ false
    → behind n w.content (take n around) (text_or_code (is_code && is_code_gap w (map wrapper_of around)) w.gap.white)
    ≡ gap_before w around is_code
gap-white w around is_code n e h some =
    let k : ℕ = shared w.around (map wrapper_of around) in
    let whole : Bool = is_code && is_code_gap w (map wrapper_of around) in
    white-some n w.content around whole w.gap.white some
    ∙ (ap (λ m. white_behind m w.content around whole w.gap.white) e
    ∙ ap (λ b. if b then behind k w.content (take k around) line_break else
    white_behind k w.content around whole w.gap.white) (sym h))

-- what is open after a gap
pub gap-wrappers : (ms rest wrappers : List Wrapper) (n : ℕ) → n ≤ length ms → wrappers ≡ take n ms ++ rest
    → take n wrappers ≡ take n ms
gap-wrappers ms rest wrappers n h e =
    let size : length (take n ms) ≡ n = length-take-le n ms h in
    ap (take n) e ∙ (ap (λ k. take k (take n ms ++ rest)) (sym size) ∙ take-append_seam (take n ms) rest)

pub gap-bound : (ms rest wrappers : List Wrapper) (n : ℕ) → n ≤ length ms → wrappers ≡ take n ms ++ rest
    → n ≤ length wrappers
gap-bound ms rest wrappers n h e =
    let size : length (take n ms) ≡ n = length-take-le n ms h in
    rw (e, length-append) (omega arith)

-- ---- anchors

-- one more anchor
pub anchor_more : (old mid new : Writing) (xs : Inlines) (around : List Around) (ids : List (List ℕ)) (id : List ℕ)
    → IsPut old mid (length around) (anchored (length around) xs around ids)
    → new.in_item ≡ mid.in_item → new.is_flat ≡ mid.is_flat → new.done ≡ mid.done
    → new.latest ≡ mid.latest
    → new.met ≡ mid.met → new.content ≡ behind (length around) mid.content around (anchor id)
    → new.around ≡ take (length around) mid.around ++ drop (length around) (map wrapper_of around)
    → IsPut old new (length around) (anchored (length around) xs around (ids ++ id ∷ []))
anchor_more old mid new xs around ids id h a b c d e f g = record {
  in_item = a ∙ h.in_item;
  is_flat = b ∙ h.is_flat;
  done = c ∙ h.done;
  latest = d ∙ h.latest;
  met = e ∙ h.met;
  content = f ∙ ap (λ ys. behind (length around) ys around (anchor id)) h.content
      ∙ ap (λ rs. behind (length around) (anchored (length around) xs around ids) rs (anchor id))
      (sym (take_all (length around) around (omega arith)))
      ∙ sym (fold-append (λ ys i. behind (length around) ys (take (length around) around) (anchor i)) xs ids
      (id ∷ []));
  wrappers = gap-wrappers mid.around _ new.around (length around) h.bound g ∙ h.wrappers;
  bound = gap-bound mid.around _ new.around (length around) h.bound g;
}

-- the same by what the source keeps
pub anchors_pushed : (old mid : Writing) (content : Inlines) (wrappers : List Wrapper) (around : List declared.Around)
    (done : List (String Global)) (id : String Global)
    → IsPut old mid (length around)
    (anchored (length around) old.content (map around_of around) (map string_bytes done))
    → content ≡ behind (length around) mid.content (map around_of around) (inline_of (source.Anchor id))
    → wrappers ≡ take (length around) mid.around ++ drop (length around) (map wrapper_of (map around_of around))
    → IsPut old (record mid { content = content; around = wrappers }) (length around)
    (anchored (length around) old.content (map around_of around) (map string_bytes (done ++ id ∷ [])))
anchors_pushed old mid content wrappers around done id h e f =
    let size : length (map around_of around) ≡ length around = length-map around around_of in
    let outer : List Around = map around_of around in
    let put : IsPut old mid (length outer) (anchored (length outer) old.content outer (map string_bytes done)) =
    subst (λ n. IsPut old mid n (anchored n old.content outer (map string_bytes done))) (sym size) h in
    let one : IsPut old (record mid { content = content; around = wrappers }) (length outer)
    (anchored (length outer) old.content outer (map string_bytes done ++ string_bytes id ∷ [])) =
    anchor_more old mid (record mid { content = content; around = wrappers }) old.content outer (map string_bytes done)
    (string_bytes id) put refl refl refl refl refl
    (e ∙ ap (behind (length around) mid.content outer) (inline-anchor id)
    ∙ ap (λ n. behind n mid.content outer (anchor (string_bytes id))) (sym size))
    (f ∙ ap (λ n. take n mid.around ++ drop n (map wrapper_of outer)) (sym size)) in
    subst (λ ids. IsPut old (record mid { content = content; around = wrappers }) (length around)
    (anchored (length around) old.content outer ids)) (sym (map_push string_bytes done id))
    (subst (λ n. IsPut old (record mid { content = content; around = wrappers }) n
    (anchored n old.content outer (map string_bytes done ++ string_bytes id ∷ []))) size one)

pub untasked_content : (w : Writing) → (untasked w).content ≡ shown_content w
untasked_content w = by (is_leaf w.latest)
  where
    by : (b : Bool) → (cond b w (record w { content = no_inlines; around = [] })).content
        ≡ cond b w.content no_inlines
    by true = refl
    by false = refl

untasked_anchors : (w : Writing) → (untasked w).anchors ≡ w.anchors
untasked_anchors w = by (is_leaf w.latest)
  where
    by : (b : Bool) → (cond b w (record w { content = no_inlines; around = [] })).anchors ≡ w.anchors
    by true = refl
    by false = refl

untasked_rest : (w : Writing) → emptied (untasked w) ≡ emptied w
untasked_rest w = by (is_leaf w.latest)
  where
    by : (b : Bool) → emptied (cond b w (record w { content = no_inlines; around = [] })) ≡ emptied w
    by true = refl
    by false = refl

-- ---- the paragraph is taken

-- with the anchors after what shows
pub taken_content : (w v : Writing) (xs : Inlines) → v ≡ untasked w
    → xs ≡ anchored 0 v.content [] v.anchors → xs ≡ whole_content w
taken_content w v xs e h =
    h ∙ ap (λ (u : Writing). anchored 0 u.content [] u.anchors) e
    ∙ ap (λ ys. anchored 0 ys [] (untasked w).anchors) (untasked_content w)
    ∙ ap (anchored 0 (shown_content w) []) (untasked_anchors w)

same_rest : (v mid : Writing) (xs : Inlines) → IsPut v mid 0 xs → mid.anchors ≡ [] → IsLike v mid
    → record mid { content = no_inlines; around = [] } ≡ emptied v
same_rest v mid xs h a k =
    let b : mid.in_item ≡ v.in_item = h.in_item in
    let c : mid.is_flat ≡ v.is_flat = h.is_flat in
    let d : mid.done ≡ v.done = h.done in
    let e : mid.latest ≡ v.latest = h.latest in
    let f : mid.met ≡ v.met = h.met in
    let g : mid.gap ≡ v.gap = k.gap in
    let i : mid.is_blank ≡ v.is_blank = k.is_blank in
    let j : mid.breaks ≡ v.breaks = k.breaks in
    cc

pub taken_rest : (w v mid new : Writing) (xs : Inlines) → v ≡ untasked w → IsPut v mid 0 xs → mid.anchors ≡ []
    → IsLike v mid → new ≡ record mid { content = no_inlines; around = [] } → new ≡ emptied w
taken_rest w v mid new xs e h a k n = n ∙ same_rest v mid xs h a k ∙ ap emptied e ∙ untasked_rest w

-- ---- all before a leaf

put_twice : (a b c : Writing) (n : ℕ) (xs ys : Inlines) → IsPut a b n xs → IsPut b c n ys → IsPut a c n ys
put_twice a b c n xs ys h k = record {
  in_item = k.in_item ∙ h.in_item;
  is_flat = k.is_flat ∙ h.is_flat;
  done = k.done ∙ h.done;
  latest = k.latest ∙ h.latest;
  met = k.met ∙ h.met;
  content = k.content;
  wrappers = k.wrappers ∙ h.wrappers;
  bound = k.bound;
}

anchored_taken : (n : ℕ) (xs : Inlines) (around : List Around) (ids : List (List ℕ))
    → anchored n xs (take n around) ids ≡ anchored n xs around ids
anchored_taken n xs around ids =
    let h : length (take n around) ≡ min n (length around) = length-take n around in
    ap (λ rs. fold (λ ys id. behind n ys rs (anchor id)) xs ids) (take_all n (take n around) (omega (arith, h)))

pub reached_all : (old a b c : Writing) (around slice : List Around) (is_code : Bool) (n m : ℕ)
    → a ≡ parted old → n ≡ shared_wrappers a (map wrapper_of around) → slice ≡ take n around → m ≡ n
    → IsGapPut a b n (gap_behind a.latest a around is_code)
    → IsPut b c m (anchored m b.content slice b.anchors) → c.anchors ≡ []
    → IsReached old c around is_code n
reached_all old a b c around slice is_code n m e f s l h k none =
    let content : anchored m b.content slice b.anchors ≡ put_before a around is_code =
    ap (λ i. anchored i b.content slice b.anchors) l
    ∙ ap (λ rs. anchored n b.content rs b.anchors) s
    ∙ anchored_taken n b.content around b.anchors
    ∙ ap (λ xs. anchored n xs around b.anchors) h.put.content
    ∙ ap (λ ids. anchored n (gap_behind a.latest a around is_code) around ids) h.anchors
    ∙ ap (λ i. anchored i (gap_behind a.latest a around is_code) around a.anchors) f in
    let second : IsPut b c n (anchored m b.content slice b.anchors) =
    subst (λ i. IsPut b c i (anchored m b.content slice b.anchors)) l k in
    let whole : IsPut a c n (put_before a around is_code) =
    subst (λ xs. IsPut a c n xs) content (put_twice a b c n _ _ h.put second) in
    record {
      count = f ∙ ap (λ (w : Writing). shared_wrappers w (map wrapper_of around)) e;
      put = subst (λ (w : Writing). IsPut w c n (put_before w around is_code)) e whole;
      anchors = none;
    }

pub taken_of : (mid : Writing) (content : Inlines) (wrappers : List Wrapper) → content ≡ no_inlines
    → wrappers ≡ []
    → record mid { content = content; around = wrappers } ≡ record mid { content = no_inlines; around = [] }
taken_of mid content wrappers e f =
    ap (λ xs. record mid { content = xs; around = wrappers }) e
    ∙ ap (λ (ws : List Wrapper). record mid { content = no_inlines; around = ws }) f

-- ---- where nothing is put

pub without_items : {A : Type 0} (xs : List A) → (length xs == 0) ≡ true → xs ≡ []
without_items [] e = refl
without_items (x ∷ xs) e = absurd (grind (arith, nat_tests, e))

-- without anchors
pub none_put : (w : Writing) (n : ℕ) (around : List Around) → w.anchors ≡ [] → n ≤ length w.around
    → IsPut w w n (anchored n w.content around w.anchors)
none_put w n around e h = record {
  in_item = refl;
  is_flat = refl;
  done = refl;
  latest = refl;
  met = refl;
  content = ap (anchored n w.content around) (sym e);
  wrappers = refl;
  bound = h;
}

nothing_open : (w : Writing) → w.latest ≡ Nothing → w.anchors ≡ [] → open_paragraph w ≡ []
nothing_open w e f =
    ap (λ ids. paragraph_of (anchored 0 (shown_content w) [] ids)) f
    ∙ ap (λ l. paragraph_of (cond (is_leaf l) w.content no_inlines)) e

-- a paragraph in which nothing showed, without anchors
pub idle_ended : (w : Writing) (content : Inlines) (wrappers : List Wrapper) → w.latest ≡ Nothing
    → w.anchors ≡ [] → content ≡ no_inlines → wrappers ≡ []
    → record w { content = content; around = wrappers } ≡ emptied (with_blocks w (open_paragraph w))
idle_ended w content wrappers e f g h =
    taken_of w content wrappers g h
    ∙ ap (λ (ids : List (List ℕ)). record w { content = no_inlines; around = []; anchors = ids }) f
    ∙ ap (λ (d : List Block). record (emptied w) { done = d })
    (sym (append-nil w.done) ∙ ap (λ bs. w.done ++ bs) (sym (nothing_open w e f)))
