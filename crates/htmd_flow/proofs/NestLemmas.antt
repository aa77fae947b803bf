-- Lemmas on inlines that are open, as the source keeps them.
use Rattle.std.proofs.Common.{◌≡◌, ℕ, zero, suc, ◌+◌, ◌-◌, ◌≤◌, ◌<◌, true, false, List, [], ◌∷◌, ◌++◌, map, length}
use Rattle.std.proofs.Common.{take, drop, get_or, String, Global, string_bytes, Option}
use Rattle.std.proofs.Common.{refl, sym, ◌∙◌, ap, arith, append_assoc, add-one, not, cond}
use Rattle.std.specs.Prelude.{slice_index_or, slice_set, Result, Ok, Err, IfOk, is_ok}
use Rattle.std.specs.List.{prefix_len}
use Rattle.std.proofs.lemmas.List.{length-map, length-drop, length-take, drop-map, take-map}
use Rattle.std.proofs.Math.ListN.{get_or-map}
use Rattle.htmd_flow.specs.declared.around.Around as declared_around
use Rattle.htmd_document.specs.declared.document.Inline as declared_inline
use Rattle.htmd_document.specs.declared.document.Inline.TheBlock.{Text, Code, Formatted', Element', Anchor, Link'}
use Rattle.htmd_document.specs.declared.document.Inline.TheBlock.{Image, LineBreak, Task}
use Rattle.htmd_document.specs.declared.document.Inline.TheFolds.{fold_out-Inline}
use Rattle.htmd_flow.specs.declared.nest.Frame as declared_frame
use Rattle.htmd_document.specs.Documents.{Inlines, no_inlines, inline, Inline}
use Rattle.htmd_document.specs.Documents as value
use Rattle.htmd_document.specs.DocumentViews.{bytes_of_title, inline_step, inline_of, inlines_of}
use Rattle.htmd_flow.specs.Nesting.{Wrapper, wrapper_of, is_same, shared, met, wrapped_by, wrapped}
use Rattle.htmd_flow.specs.Contexts.{is_link}
use Rattle.htmd_flow.specs.Nesting.{one_inline, joined, behind, of_format, before_link}
use Rattle.htmd_flow.specs.NestViews.{Frame, frame_of, frame_after, followed, within, wrappers_of, is_format_frame}
use Rattle.htmd_flow.specs.Parts.{Around, formatted, linked}
use Rattle.htmd_flow.specs.PartViews.{around_of}
use Rattle.htmd_flow.proofs.NestingLemmas.{within-push, within-open, behind-within}
use Rattle.htmd_document.proofs.ValuesLemmas.{map-append, take-step}

pub inlines-append : (xs ys : List Inline) → value.inlines_of (xs ++ ys) ≡ followed (value.inlines_of xs)
    (value.inlines_of ys)
inlines-append [] ys = refl
inlines-append (x ∷ xs) ys = ap (inline x) (inlines-append xs ys)

pub inlines-push : (xs : List declared_inline.Inline) (x : declared_inline.Inline)
    → inlines_of (xs ++ x ∷ []) ≡ followed (inlines_of xs) (one_inline (inline_of x))
inlines-push xs x =
    ap value.inlines_of (map-append inline_of xs (x ∷ [])) ∙ inlines-append (map inline_of xs) (inline_of x ∷ [])

pub inlines-pushed : (new old : List declared_inline.Inline) (x : declared_inline.Inline) (y : Inline)
    → new ≡ old ++ x ∷ [] → inline_of x ≡ y → inlines_of new ≡ followed (inlines_of old) (one_inline y)
inlines-pushed new old x y p e =
    ap inlines_of p ∙ (inlines-push old x ∙ ap (λ z. followed (inlines_of old) (one_inline z)) e)

-- the innermost frame closes
pub close-frame : (frames rest : List declared_frame.Frame) (f : declared_frame.Frame)
    (content done : List declared_inline.Inline) (x : declared_inline.Inline)
    → frames ≡ rest ++ f ∷ []
    → inline_of x ≡ wrapped_by (around_of f.around) (inlines_of content)
    → done ≡ f.before.items ++ x ∷ []
    → within (map frame_of rest) (inlines_of done) ≡ within (map frame_of frames) (inlines_of content)
close-frame frames rest f content done x whole wrap put =
    let closed : inlines_of done ≡ followed (inlines_of f.before.items)
    (one_inline (wrapped_by (around_of f.around) (inlines_of content))) =
    ap inlines_of put ∙ (inlines-push f.before.items x
    ∙ ap (λ y. followed (inlines_of f.before.items) (one_inline y))
    wrap) in
    let open_frames : map frame_of frames ≡ map frame_of rest ++ frame_of f ∷ [] =
    ap (map frame_of) whole ∙ map-append frame_of rest (f ∷ []) in
    ap (within (map frame_of rest)) closed
    ∙ (sym (within-push (map frame_of rest) (inlines_of f.before.items) (around_of f.around) (inlines_of content))
    ∙ ap (λ fs. within fs (inlines_of content)) (sym open_frames))

-- ---- one more of a list

pub drop-step : {A B : Type 0} (f : A → B) (xs : List A) (i : ℕ) (x : A) → i < length xs → x ≡ get_or xs i x
    → drop i (map f xs) ≡ f x ∷ drop (i + 1) (map f xs)
drop-step f [] i x h e = absurd (omega arith)
drop-step f (y ∷ ys) zero x h e = ap (λ z. f z ∷ map f ys) (sym e)
drop-step f (y ∷ ys) (suc i) x h e = rw add-one (rw add-one at (drop-step f ys i x (omega arith) e))

pub drop-step-twice : {A B C : Type 0} (g : B → C) (f : A → B) (xs : List A) (i : ℕ) (x : A)
    → i < length xs → x ≡ get_or xs i x
    → drop i (map g (map f xs)) ≡ g (f x) ∷ drop (i + 1) (map g (map f xs))
drop-step-twice g f xs i x h e =
    drop-step g (map f xs) i (f x) (rw (length-map xs f) h) (ap f e ∙ sym (get_or-map f xs i x))

take-step-twice : {A B C : Type 0} (g : B → C) (f : A → B) (xs : List A) (i : ℕ) (x : A)
    → i < length xs → x ≡ get_or xs i x
    → take (i + 1) (map g (map f xs)) ≡ take i (map g (map f xs)) ++ g (f x) ∷ []
take-step-twice g f xs i x h e =
    take-step g (map f xs) i (f x) (rw (length-map xs f) h) (ap f e ∙ sym (get_or-map f xs i x))

-- ---- what is shared

pub shared-more : (ms ns rest rest' : List Wrapper) (i : ℕ) (m n : Wrapper)
    → drop i ms ≡ m ∷ rest → drop i ns ≡ n ∷ rest' → is_same m n ≡ true
    → (i + 1) + shared rest rest' ≡ i + shared (drop i ms) (drop i ns)
shared-more ms ns rest rest' i m n p q same =
    rw (p, q, same) (omega arith)

pub shared-else : (ms ns rest rest' : List Wrapper) (i : ℕ) (m n : Wrapper)
    → drop i ms ≡ m ∷ rest → drop i ns ≡ n ∷ rest' → is_same m n ≡ false
    → shared (drop i ms) (drop i ns) ≡ 0
shared-else ms ns rest rest' i m n p q same = rw (p, q, same) refl

pub shared-end : (ms ns : List Wrapper) (i : ℕ) → length ms ≤ i → shared (drop i ms) ns ≡ 0
shared-end [] ns zero h = refl
shared-end [] ns (suc i) h = refl
shared-end (m ∷ ms) ns zero h = absurd (omega arith)
shared-end (m ∷ ms) ns (suc i) h = shared-end ms ns i (omega arith)

pub shared-end-other : (ms ns : List Wrapper) (i : ℕ) → length ns ≤ i → shared ms (drop i ns) ≡ 0
shared-end-other [] ns i h = refl
shared-end-other (m ∷ ms) [] zero h = refl
shared-end-other (m ∷ ms) [] (suc i) h = refl
shared-end-other (m ∷ ms) (n ∷ ns) zero h = absurd (omega arith)
shared-end-other (m ∷ ms) (n ∷ ns) (suc i) h = shared-end-other (m ∷ ms) ns i (omega arith)

-- ---- texts that meet

-- the last one is made longer
pub joined-set : (old : List declared_inline.Inline) (k : ℕ) (x x' : declared_inline.Inline) (y : Inline)
    → k + 1 ≡ length old → x ≡ slice_index_or old k x → met (inline_of x) y ≡ one_inline (inline_of x')
    → inlines_of (slice_set old k x') ≡ joined (inlines_of old) y
joined-set [] k x x' y e h m = absurd (omega (arith, e))
joined-set (a ∷ []) zero x x' y e h m = sym m ∙ ap (λ z. met (inline_of z) y) h
joined-set (a ∷ []) (suc k) x x' y e h m = absurd (omega (arith, e))
joined-set (a ∷ b ∷ xs) zero x x' y e h m = absurd (omega (arith, e))
joined-set (a ∷ b ∷ xs) (suc k) x x' y e h m =
    ap (inline (inline_of a)) (joined-set (b ∷ xs) k x x' y (omega (arith, e)) h m)

-- one more after the last one, which stays
pub beside-set : (old : List declared_inline.Inline) (k : ℕ) (x : declared_inline.Inline) (y : Inline)
    → k + 1 ≡ length old → x ≡ slice_index_or old k x
    → met (inline_of x) y ≡ inline (inline_of x) (one_inline y)
    → followed (inlines_of (slice_set old k x)) (one_inline y) ≡ joined (inlines_of old) y
beside-set [] k x y e h m = absurd (omega (arith, e))
beside-set (a ∷ []) zero x y e h m = sym m ∙ ap (λ z. met (inline_of z) y) h
beside-set (a ∷ []) (suc k) x y e h m = absurd (omega (arith, e))
beside-set (a ∷ b ∷ xs) zero x y e h m = absurd (omega (arith, e))
beside-set (a ∷ b ∷ xs) (suc k) x y e h m =
    ap (inline (inline_of a)) (beside-set (b ∷ xs) k x y (omega (arith, e)) h m)

pub where_ok : {T E : Type 0} (r : Result T E) (P : Type 0) → (is_ok r ≡ true → P) → IfOk r (λ _. P)
where_ok (Ok x) P f = f refl
where_ok (Err e) P f = tt

pub inline-text : (s : String Global) → inline_of (Text s) ≡ value.text (string_bytes s)
unfolding declared_inline.out-Inline denote.Hole.Carrier.out
inline-text s = fold_out-Inline Inline inline_step (Text s)

pub inline-break : inline_of LineBreak ≡ value.line_break
unfolding declared_inline.out-Inline denote.Hole.Carrier.out
inline-break = fold_out-Inline Inline inline_step LineBreak

pub inline-anchor : (id : String Global) → inline_of (declared_inline.Anchor id) ≡ value.anchor (string_bytes id)
unfolding declared_inline.out-Inline denote.Hole.Carrier.out
inline-anchor id = fold_out-Inline Inline inline_step (declared_inline.Anchor id)

pub inline-image : (address : String Global) (title : Option (String Global)) (description : String Global)
    → inline_of (Image address title description)
    ≡ value.image (string_bytes address) (bytes_of_title title) (string_bytes description)
unfolding declared_inline.out-Inline denote.Hole.Carrier.out
inline-image address title description = fold_out-Inline Inline inline_step (Image address title description)

pub met-no_text : (x : declared_inline.Inline) (t : List ℕ) → ((s : String Global) → x ≡ Text s → ⊥)
    → met (inline_of x) (value.text t) ≡ inline (inline_of x) (one_inline (value.text t))
unfolding declared_inline.out-Inline denote.Hole.Carrier.out
met-no_text (Text s) t h = absurd (h s refl)
met-no_text (Code s) t h = rw (fold_out-Inline Inline inline_step (Code s)) refl
met-no_text (Formatted' f n r) t h = rw (fold_out-Inline Inline inline_step (Formatted' f n r)) refl
met-no_text (Element' e n r) t h = rw (fold_out-Inline Inline inline_step (Element' e n r)) refl
met-no_text (declared_inline.Abbreviation' ti n r) t h =
    rw (fold_out-Inline Inline inline_step (declared_inline.Abbreviation' ti n r)) refl
met-no_text (Anchor i) t h = rw (fold_out-Inline Inline inline_step (Anchor i)) refl
met-no_text (Link' a ti n r) t h = rw (fold_out-Inline Inline inline_step (Link' a ti n r)) refl
met-no_text (Image a ti d) t h = rw (fold_out-Inline Inline inline_step (Image a ti d)) refl
met-no_text LineBreak t h = rw (fold_out-Inline Inline inline_step LineBreak) refl
met-no_text (Task b) t h = rw (fold_out-Inline Inline inline_step (Task b)) refl

pub met-no_code : (x : declared_inline.Inline) (t : List ℕ) → ((s : String Global) → x ≡ Code s → ⊥)
    → met (inline_of x) (value.code t) ≡ inline (inline_of x) (one_inline (value.code t))
unfolding declared_inline.out-Inline denote.Hole.Carrier.out
met-no_code (Text s) t h = rw (fold_out-Inline Inline inline_step (Text s)) refl
met-no_code (Code s) t h = absurd (h s refl)
met-no_code (Formatted' f n r) t h = rw (fold_out-Inline Inline inline_step (Formatted' f n r)) refl
met-no_code (Element' e n r) t h = rw (fold_out-Inline Inline inline_step (Element' e n r)) refl
met-no_code (declared_inline.Abbreviation' ti n r) t h =
    rw (fold_out-Inline Inline inline_step (declared_inline.Abbreviation' ti n r)) refl
met-no_code (Anchor i) t h = rw (fold_out-Inline Inline inline_step (Anchor i)) refl
met-no_code (Link' a ti n r) t h = rw (fold_out-Inline Inline inline_step (Link' a ti n r)) refl
met-no_code (Image a ti d) t h = rw (fold_out-Inline Inline inline_step (Image a ti d)) refl
met-no_code LineBreak t h = rw (fold_out-Inline Inline inline_step LineBreak) refl
met-no_code (Task b) t h = rw (fold_out-Inline Inline inline_step (Task b)) refl

-- ---- a place is reached

-- one more frame opens
pub opened-step : (fs fs' : List Frame) (content content' : Inlines) (outer : List declared_around.Around) (i : ℕ)
    (a : declared_around.Around) (x : Inline) → i < length outer → a ≡ get_or outer i a
    → fs' ≡ fs ++ frame_after content (around_of a) ∷ [] → content' ≡ no_inlines
    → within fs' (joined content' (wrapped (drop (i + 1) (map around_of outer)) x))
    ≡ within fs (joined content (wrapped (drop i (map around_of outer)) x))
opened-step fs fs' content content' outer i a x h e p q =
    let rest : List Around = drop (i + 1) (map around_of outer) in
    ap (λ gs. within gs (joined content' (wrapped rest x))) p
    ∙ (ap (λ ys. within (fs ++ frame_after content (around_of a) ∷ []) (joined ys (wrapped rest x))) q
    ∙ (within-open fs content (around_of a) (wrapped rest x)
    ∙ ap (λ rs. within fs (joined content (wrapped rs x))) (sym (drop-step around_of outer i a h e))))

pub opened-wrappers : (fs₀ fs fs' : List Frame) (outer : List declared_around.Around) (i : ℕ)
    (a : declared_around.Around)
    (content : Inlines) → i < length outer → a ≡ get_or outer i a
    → fs' ≡ fs ++ frame_after content (around_of a) ∷ []
    → map (λ f. wrapper_of f.around) fs ≡ map (λ f. wrapper_of f.around) fs₀ ++ take i (wrappers_of outer)
    → map (λ f. wrapper_of f.around) fs' ≡ map (λ f. wrapper_of f.around) fs₀
    ++ take (i + 1) (wrappers_of outer)
opened-wrappers fs₀ fs fs' outer i a content h e p q =
    let wrapper : Frame → Wrapper = λ f. wrapper_of f.around in
    ap (map wrapper) p
    ∙ (map-append wrapper fs (frame_after content (around_of a) ∷ [])
    ∙ (ap (λ ms. ms ++ wrapper_of (around_of a) ∷ []) q
    ∙ (append_assoc (map wrapper fs₀) (take i (wrappers_of outer)) (wrapper_of (around_of a) ∷ [])
    ∙ ap (λ ms. map wrapper fs₀ ++ ms) (sym (take-step-twice wrapper_of around_of outer i a h e)))))

take-whole : {A : Type 0} (xs : List A) (n : ℕ) → length xs ≤ n → take n xs ≡ xs
take-whole [] zero h = refl
take-whole [] (suc n) h = refl
take-whole (x ∷ xs) zero h = absurd (omega arith)
take-whole (x ∷ xs) (suc n) h = ap (λ ys. x ∷ ys) (take-whole xs n (omega arith))

drop-whole : {A : Type 0} (xs : List A) (n : ℕ) → length xs ≤ n → drop n xs ≡ []
drop-whole [] zero h = refl
drop-whole [] (suc n) h = refl
drop-whole (x ∷ xs) zero h = absurd (omega arith)
drop-whole (x ∷ xs) (suc n) h = drop-whole xs n (omega arith)

-- what a range of what stands around is
rest-range : (around : List declared_around.Around) (n : ℕ) → n ≤ length around
    → take (length around - n) (drop n around) ≡ drop n around
rest-range around n h = take-whole (drop n around) (length around - n) (simp length-drop (omega arith))

pub reached-place : (old fs₀ fs : List Frame) (content content₀ now : Inlines)
    (around : List declared_around.Around)
    (n i : ℕ) (x : Inline) → n ≤ length old → n ≤ length around
    → length (take (length around - n) (drop n around)) ≤ i → fs₀ ≡ take n old
    → within fs₀ content₀ ≡ within old content
    → within fs (joined now (wrapped (drop i (map around_of (take (length around - n) (drop n around)))) x))
    ≡ within fs₀ (joined content₀ (wrapped (map around_of (take (length around - n) (drop n around))) x))
    → within fs (joined now x) ≡ behind n (within old content) (map around_of around) x
reached-place old fs₀ fs content content₀ now around n i x h k all p same e =
    let outer : List declared_around.Around = take (length around - n) (drop n around) in
    let none : drop i (map around_of outer) ≡ [] = drop-whole (map around_of outer) i (simp length-map all) in
    let size : length fs₀ ≡ n = rw p (simp length-take (omega arith)) in
    let rest : map around_of outer ≡ drop n (map around_of around) =
    ap (map around_of) (rest-range around n k) ∙ sym (drop-map around_of n around) in
    ap (λ rs. within fs (joined now (wrapped rs x))) (sym none)
    ∙ (e
    ∙ (ap (λ rs. within fs₀ (joined content₀ (wrapped rs x)))
    (rest ∙ ap (λ m. drop m (map around_of around)) (sym size))
    ∙ (sym (behind-within fs₀ content₀ (map around_of around) x (simp length-map (omega arith)))
    ∙ (ap (λ m. behind m (within fs₀ content₀) (map around_of around) x) size
    ∙ ap (λ xs. behind n xs (map around_of around) x) same))))

pub reached-wrappers : (old fs₀ fs : List Frame) (around : List declared_around.Around) (n i : ℕ)
    → n ≤ length around → length (take (length around - n) (drop n around)) ≤ i → fs₀ ≡ take n old
    → map (λ f. wrapper_of f.around) fs
    ≡ map (λ f. wrapper_of f.around) fs₀ ++ take i (wrappers_of (take (length around - n) (drop n around)))
    → map (λ f. wrapper_of f.around) fs
    ≡ take n (map (λ f. wrapper_of f.around) old) ++ drop n (wrappers_of around)
reached-wrappers old fs₀ fs around n i h all p e =
    let wrapper : Frame → Wrapper = λ f. wrapper_of f.around in
    let outer : List declared_around.Around = take (length around - n) (drop n around) in
    let whole : take i (wrappers_of outer) ≡ wrappers_of outer =
    take-whole (wrappers_of outer) i (simp (length-map, length-map) all) in
    let rest : wrappers_of outer ≡ drop n (wrappers_of around) =
    ap wrappers_of (rest-range around n h)
    ∙ (ap (map wrapper_of) (sym (drop-map around_of n around))
    ∙ sym (drop-map wrapper_of n (map around_of around))) in
    e ∙ (ap (λ ms. map wrapper fs₀ ++ ms) (whole ∙ rest)
    ∙ ap (λ ms. ms ++ drop n (wrappers_of around)) (ap (map wrapper) p ∙ sym (take-map wrapper n old)))

-- ---- without the link that is open

front-step : (a : Around) (ms : List Wrapper) (n : ℕ) → take n ms ≡ before_link ms
    → take (cond (not (is_link a)) (1 + n) 0) (wrapper_of a ∷ ms) ≡ before_link (wrapper_of a ∷ ms)
front-step (formatted f) ms n e =
    ap (λ k. take k (of_format f ∷ ms)) (one n) ∙ ap (λ ns. of_format f ∷ ns) e
  where
    one : (n : ℕ) → 1 + n ≡ suc n
    one n = omega arith
front-step (linked node address title) ms n e = refl

pub before-frames : (fs : List declared_frame.Frame)
    → take (prefix_len is_format_frame fs) (map (λ f. wrapper_of f.around) (map frame_of fs))
    ≡ before_link (map (λ f. wrapper_of f.around) (map frame_of fs))
before-frames [] = refl
before-frames (f ∷ fs) =
    front-step (around_of f.around) (map (λ f. wrapper_of f.around) (map frame_of fs)) (prefix_len is_format_frame fs)
    (before-frames fs)
