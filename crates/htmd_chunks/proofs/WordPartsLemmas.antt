-- The words of normal inlines: what each begins with, and that it is one word alone too.
use Rattle.std.proofs.Common.{◌≡◌, ℕ, Bool, true, false, not, cond, List, [], ◌∷◌, ◌++◌}
use Rattle.std.proofs.Common.{refl, sym, ap, ◌∙◌, subst, append_assoc, append-nil, eqb-true, Option, Some, None}
use Rattle.std.specs.Prelude.{◌==◌, ◌&&◌, ◌||◌}
use Rattle.std.specs.List.{list_any}
use Rattle.std.proofs.lemmas.Bool.{and_parts, or_parts, not-true}
use Rattle.std.proofs.lemmas.List.Folds.{list_any-append}
use Rattle.htmd_lexical.specs.Characters.{space}
use Rattle.htmd_text.specs.Trims.{is_line_feed}
use Rattle.htmd_markdown.specs.declared.line_break.BrStyle.{BrStyle}
use Rattle.htmd_document.specs.Documents.{Inline, text, code, formatted, link, image, anchor, line_break, task}
use Rattle.htmd_document.specs.Documents.{Inlines, no_inlines, inline, inlines_of}
use Rattle.htmd_document.specs.NormalInlines.{is_normal, are_normal, meets}
use Rattle.htmd_document.specs.NormalInlines.{is_text as is_normal_text, is_break as is_break_inline}
use Rattle.htmd_document.specs.NormalInlines.{is_line, has_double_space, has_none, first_passes, last_passes}
use Rattle.htmd_document.specs.NormalInlines.{are_trimmed}
use Rattle.htmd_document.specs.NormalInlines.{are_whole, begins_with_space, ends_with_space, is_normal_line}
use Rattle.htmd_document.specs.NormalInlines.{is_normal_item, are_anchors, anchors_stand_well}
use Rattle.htmd_document.specs.NormalDocuments.{is_normal_paragraph}
use Rattle.htmd_commonmark.specs.CharacterKinds.{first_character}
use Rattle.htmd_commonmark.specs.InlineEnds.{follows}
use Rattle.htmd_commonmark.specs.InlineMarkdown.{with_inline, place_of}
use Rattle.htmd_commonmark.specs.TextEscapes.{is_marked}
use Rattle.htmd_commonmark.specs.declared.inline_ends.Following.{Following}
use Rattle.htmd_commonmark.specs.declared.line.LineKind.TheVariants.{Paragraph}
use Rattle.htmd_chunks.specs.Runs.{is_none}
use Rattle.htmd_chunks.specs.Words.{Word, is_shown, shows_before, shows_behind, cut_text, is_break, begins_shown}
use Rattle.htmd_chunks.specs.Words.{with_text}
use Rattle.htmd_chunks.specs.Words.{ended, begun, words_from, words_of, first_text, behind_text}
use Rattle.htmd_chunks.proofs.BegunTextsLemmas.{line_in, at, inlines-kept, first-begins, escaped-begins}
use Rattle.htmd_chunks.proofs.CleanTextsLemmas.{in-text, clean-front, clean-back}
use Rattle.htmd_chunks.proofs.JoinedWordsLemmas.{GoodText, GoodInline, good_text, good_other, good_task, WordOk}
use Rattle.htmd_chunks.proofs.JoinedWordsLemmas.{written_of}
use Rattle.htmd_chunks.proofs.RunsLemmas.{IsSomething, something}
use Rattle.htmd_chunks.proofs.ShiftsLemmas.{StartsApart, no_start, starts, is_text}
use Rattle.htmd_chunks.proofs.ShortRunsLemmas.{Each, of_none, of_more, each-behind}
use Rattle.htmd_chunks.proofs.MergedTextsLemmas.{first-kept}
use Rattle.htmd_chunks.proofs.ShortTablesLemmas.{in-line-text}
use Rattle.htmd_chunks.proofs.SizesLemmas.{begins_well}

-- ---- texts

pub normal-good : (s : List ℕ) → is_normal_text s ≡ true → GoodText s
normal-good s h = record { clean = in-text s h; plain = in-line-text s h }

good-front : (q v : List ℕ) → GoodText (q ++ space ∷ v) → GoodText q
good-front q v good = record {
  clean = clean-front 0 q space v refl good.clean;
  plain =
      (or_parts (list_any is_line_feed q) (list_any is_line_feed (space ∷ v))
      (sym (list_any-append is_line_feed q (space ∷ v)) ∙ good.plain)).0;
}

good-back : (q v : List ℕ) → GoodText (q ++ space ∷ v) → GoodText v
good-back q v good = record {
  clean = clean-back 0 q space v refl refl good.clean;
  plain =
      (or_parts (list_any is_line_feed q) (list_any is_line_feed (space ∷ v))
      (sym (list_any-append is_line_feed q (space ∷ v)) ∙ good.plain)).1;
}

-- ---- parts of a text

abbrev Imply : Bool → Bool → Type 0
Imply a b = a ≡ true → b ≡ true

-- What a text is cut into: all of it, or what stands before a space and others. Alone each is one part too.
data Chain : Bool → Bool → List ℕ → List ℕ → List (List ℕ) → Type 0 where
  chain_end : (before behind : Bool) (so_far s : List ℕ)
      → ((e : Bool) → Imply e behind → cut_text before e so_far s ≡ (so_far ++ s) ∷ [])
      → Chain before behind so_far s ((so_far ++ s) ∷ [])
  chain_more : (before behind : Bool) (so_far s y v : List ℕ) (parts : List (List ℕ)) → s ≡ y ++ space ∷ v
      → cut_text before false so_far y ≡ (so_far ++ y) ∷ [] → shows_before before (so_far ++ y) ≡ true
      → shows_behind behind v ≡ true → Chain false behind [] v parts
      → Chain before behind so_far s ((so_far ++ y) ∷ parts)

shows-mono : (e f : Bool) (s : List ℕ) → Imply e f → shows_behind e s ≡ true → shows_behind f s ≡ true
shows-mono e f [] imply h = imply h
shows-mono e f (b ∷ s) imply h = h

not-both : (a b : Bool) → (b ≡ true → a ≡ true) → a ≡ false → b ≡ false
not-both a true imply none = absurd (let x : true ≡ false = sym (imply refl) ∙ none in cc)
not-both a false imply none = refl

mono-all : (a b c d : Bool) → (c ≡ true → d ≡ true) → (a && b && c) ≡ true → (a && b && d) ≡ true
mono-all true true c d imply h = imply h
mono-all true false c d imply h = absurd (cc)
mono-all false b c d imply h = absurd (cc)

-- what shows behind stays
shown-front : (behind : Bool) (y x : List ℕ) → shows_behind false y ≡ true
    → shows_behind behind (y ++ x) ≡ true
shown-front behind [] x h = absurd (cc)
shown-front behind (c ∷ y) x h = told (first_character (c ∷ y)) refl h
  where
    told : (o : Option ℕ) → first_character (c ∷ y) ≡ o → is_shown (first_character (c ∷ y)) ≡ true
        → is_shown (first_character ((c ∷ y) ++ x)) ≡ true
    told None is k = absurd (let bad : false ≡ true = ap is_shown (sym is) ∙ k in cc)
    told (Some d) is k = ap is_shown (first-kept c y x d is) ∙ ap is_shown (sym is) ∙ k

-- no space before the first part's end
chain-later : (before behind : Bool) (b : ℕ) (so_far s : List ℕ) (parts : List (List ℕ))
    → ((b == space) && shows_before before so_far && shows_behind behind s) ≡ false
    → Chain before behind (so_far ++ b ∷ []) s parts → Chain before behind so_far (b ∷ s) parts
chain-later before behind b so_far s parts none (chain_end x y f t alone) =
    subst (λ l. Chain before behind so_far (b ∷ s) (l ∷ [])) (sym (append_assoc so_far (b ∷ []) s))
    (chain_end before behind so_far (b ∷ s) (λ e imply.
    ap (λ t. cond t (so_far ∷ cut_text false e [] s) (cut_text before e (so_far ++ b ∷ []) s))
    (not-both ((b == space) && shows_before before so_far && shows_behind behind s)
    ((b == space) && shows_before before so_far && shows_behind e s)
    (mono-all (b == space) (shows_before before so_far) (shows_behind e s) (shows_behind behind s)
    (shows-mono e behind s imply)) none)
    ∙ alone e imply ∙ ap (λ l. l ∷ []) (append_assoc so_far (b ∷ []) s)))
chain-later before behind b so_far s parts none (chain_more x z f t y v rest split alone before_it behind_it others) =
    subst (λ l. Chain before behind so_far (b ∷ s) (l ∷ rest)) (sym (append_assoc so_far (b ∷ []) y))
    (chain_more before behind so_far (b ∷ s) (b ∷ y) v rest (ap (λ l. b ∷ l) split)
    (ap (λ t. cond t (so_far ∷ cut_text false false [] y) (cut_text before false (so_far ++ b ∷ []) y))
    (not-both ((b == space) && shows_before before so_far && shows_behind behind s)
    ((b == space) && shows_before before so_far && shows_behind false y)
    (mono-all (b == space) (shows_before before so_far) (shows_behind false y) (shows_behind behind s)
    (λ h. ap (shows_behind behind) split ∙ shown-front behind y (space ∷ v) h)) none)
    ∙ alone ∙ ap (λ l. l ∷ []) (append_assoc so_far (b ∷ []) y))
    (ap (shows_before before) (sym (append_assoc so_far (b ∷ []) y)) ∙ before_it) behind_it others)

chain-here : (before behind : Bool) (b : ℕ) (so_far s : List ℕ) (parts : List (List ℕ))
    → ((b == space) && shows_before before so_far && shows_behind behind s) ≡ true
    → Chain false behind [] s parts → Chain before behind so_far (b ∷ s) (so_far ∷ parts)
chain-here before behind b so_far s parts is others =
    let p = and_parts ((b == space) && shows_before before so_far) (shows_behind behind s) is in
    let q = and_parts (b == space) (shows_before before so_far) p.0 in
    subst (λ l. Chain before behind so_far (b ∷ s) (l ∷ parts)) (append-nil so_far)
    (chain_more before behind so_far (b ∷ s) [] s parts (ap (λ c. c ∷ s) (eqb-true b space q.0))
    (ap (λ l. l ∷ []) (sym (append-nil so_far)))
    (ap (shows_before before) (append-nil so_far) ∙ q.1) p.1 others)

chain : (before behind : Bool) (so_far s : List ℕ) → Chain before behind so_far s (cut_text before behind so_far s)
chain before behind so_far [] =
    subst (λ p. Chain before behind so_far [] (p ∷ [])) (append-nil so_far)
    (chain_end before behind so_far [] (λ e imply. ap (λ p. p ∷ []) (sym (append-nil so_far))))
chain before behind so_far (b ∷ s) =
    elim ((b == space) && shows_before before so_far && shows_behind behind s)
    as (λ e. ((b == space) && shows_before before so_far && shows_behind behind s) ≡ e
    → Chain before behind so_far (b ∷ s)
    (cond e (so_far ∷ cut_text false behind [] s) (cut_text before behind (so_far ++ b ∷ []) s))) [
      | true ↦ λ is. chain-here before behind b so_far s (cut_text false behind [] s) is (chain false behind [] s)
      | false ↦ λ none.
          chain-later before behind b so_far s (cut_text before behind (so_far ++ b ∷ []) s) none
          (chain before behind (so_far ++ b ∷ []) s)
    ] refl

chain-some : (before behind : Bool) (so_far s : List ℕ) (parts : List (List ℕ))
    → Chain before behind so_far s parts
    → IsSomething parts
chain-some before behind so_far s parts (chain_end x y f t alone) = something (f ++ t) []
chain-some before behind so_far s parts (chain_more x z f t y v rest split alone p q others) = something (f ++ y) rest

-- ---- words so far

abbrev over : List Inline → Inlines → Inlines
over [] rest = rest
over (x ∷ xs) rest = inline x (over xs rest)

over-end : (xs : List Inline) → inlines_of xs ≡ over xs no_inlines
over-end [] = refl
over-end (x ∷ xs) = ap (λ l. inline x l) (over-end xs)

over-more : (xs : List Inline) (x : Inline) (rest : Inlines) → over (xs ++ x ∷ []) rest ≡ over xs (inline x rest)
over-more [] x rest = refl
over-more (y ∷ xs) x rest = ap (λ l. inline y l) (over-more xs x rest)

-- behind a text another inline stands
data Second : Inline → List Inline → Type 0 where
  second_other : (x : Inline) (xs : List Inline) → is_text x ≡ false → Second x xs
  second_apart : (x y : Inline) (ys : List Inline) → is_text y ≡ false → Second x (y ∷ ys)

second-more : (x : Inline) (xs : List Inline) (y : Inline) → Second x xs → Second x (xs ++ y ∷ [])
second-more x xs y (second_other z zs other) = second_other z (zs ++ y ∷ []) other
second-more x xs y (second_apart z u us other) = second_apart z u (us ++ y ∷ []) other

-- the word so far, before what follows; something may show before it
data Shape : Word → Inlines → Bool → Type 0 where
  fresh_word : (rest : Inlines) (before : Bool) → begins_shown rest ≡ true
      → (before ≡ true → StartsApart rest)
      → Shape [] rest before
  one_text : (b : ℕ) (s : List ℕ) (rest : Inlines) (before : Bool) → GoodText (b ∷ s) → StartsApart rest
      → Shape (text (b ∷ s) ∷ []) rest before
  longer : (x : Inline) (xs : List Inline) (rest : Inlines) (before : Bool) → GoodInline x → is_break x ≡ false
      → Each GoodInline xs → Second x xs → Shape (x ∷ xs) rest before

-- the word is reached when it is read alone, whatever follows
record State (w : Word) (rest : Inlines) (before : Bool) : Type 0 where
  shape : Shape w rest before
  reach : (r : Inlines) → Imply (begins_shown r) (begins_shown rest)
      → (is_none w ≡ true → before ≡ true → StartsApart r)
      → words_from false [] (over w r) ≡ words_from before w r

-- a word, which is one alone
pub record WordDone (style : BrStyle) (w : Word) : Type 0 where
  pub ok : WordOk style w
  pub alone : words_from false [] (inlines_of w) ≡ w ∷ []

good-begins : (style : BrStyle) (x : Inline) (xs : List Inline) → GoodInline x → is_break x ≡ false
    → begins_well (written_of style (x ∷ xs)) ≡ true
good-begins style x xs good other =
    let f = follows Paragraph None (inlines_of xs) in
    inlines-kept Paragraph style false (with_inline (line_in Paragraph style false) (at [] []) f x) None (inlines_of xs)
    (first style f x good other)
  where
    first : (style : BrStyle) (f : Following) (x : Inline) → GoodInline x → is_break x ≡ false
        → begins_well (with_inline (line_in Paragraph style false) (at [] []) f x).text ≡ true
    first style f x (good_text b s good) other =
        escaped-begins (is_marked (place_of (line_in Paragraph style false) [] f.after) (b ∷ s)) (b ∷ s)
        (ap not (or_parts (is_line_feed b) (list_any is_line_feed s) good.plain).0)
    first style f x (good_other y apart normal) other = first-begins style f y other normal
    first style f x (good_task true) other = refl
    first style f x (good_task false) other = refl

other-first : (x : Inline) (xs : Word) → is_text x ≡ false → first_text (x ∷ xs) ≡ []
other-first (text s) xs other = absurd (cc)
other-first (code s) xs other = refl
other-first (formatted format content) xs other = refl
other-first (link address title content) xs other = refl
other-first (image address title description) xs other = refl
other-first (anchor id) xs other = refl
other-first line_break xs other = refl
other-first (task is_checked) xs other = refl

other-behind : (x : Inline) (xs : Word) → is_text x ≡ false → behind_text (x ∷ xs) ≡ x ∷ xs
other-behind (text s) xs other = absurd (cc)
other-behind (code s) xs other = refl
other-behind (formatted format content) xs other = refl
other-behind (link address title content) xs other = refl
other-behind (image address title description) xs other = refl
other-behind (anchor id) xs other = refl
other-behind line_break xs other = refl
other-behind (task is_checked) xs other = refl

other-ok : (style : BrStyle) (x : Inline) (xs : List Inline) → is_text x ≡ false → GoodInline x
    → is_break x ≡ false
    → Each GoodInline xs → WordOk style (x ∷ xs)
other-ok style x xs other good shown each = record {
  f = [];
  bw = x ∷ xs;
  is = refl;
  first = other-first x xs other;
  behind = other-behind x xs other;
  apart = starts x (inlines_of xs) other;
  good = record { clean = refl; plain = refl };
  each = of_more x xs good each;
  some = something x xs;
  well = good-begins style x xs good shown;
}

text-ok : (style : BrStyle) (b : ℕ) (s : List ℕ) (xs : List Inline) → GoodText (b ∷ s) → Each GoodInline xs
    → StartsApart (inlines_of xs) → WordOk style (text (b ∷ s) ∷ xs)
text-ok style b s xs good each apart = record {
  f = b ∷ s;
  bw = xs;
  is = refl;
  first = refl;
  behind = refl;
  apart = apart;
  good = good;
  each = of_more (text (b ∷ s)) xs (good_text b s good) each;
  some = something (text (b ∷ s)) xs;
  well = good-begins style (text (b ∷ s)) xs (good_text b s good) refl;
}

shape-ok : (style : BrStyle) (w : Word) (rest : Inlines) (before : Bool) → Shape w rest before → is_none w ≡ false
    → WordOk style w
shape-ok style w rest before (fresh_word r e shown apart) some = absurd (cc)
shape-ok style w rest before (one_text b s r e good apart) some = text-ok style b s [] good of_none no_start
shape-ok style w rest before (longer x xs r e good shown each (second_other y ys other)) some =
    other-ok style x xs other good shown each
shape-ok style w rest before (longer x xs r e (good_text b s good) shown each (second_apart y z zs other)) some =
    text-ok style b s (z ∷ zs) good each (starts z (inlines_of zs) other)
shape-ok style w rest before (longer x xs r e (good_other u apart normal) shown each (second_apart y z zs other)) some =
    other-ok style x xs apart (good_other u apart normal) shown each
shape-ok style w rest before (longer x xs r e (good_task c) shown each (second_apart y z zs other)) some =
    other-ok style (task c) xs refl (good_task c) shown each

finish : (style : BrStyle) (w : Word) (rest : Inlines) (before : Bool) → State w rest before → is_none w ≡ false
    → WordDone style w
finish style w rest before state some = record {
  ok = shape-ok style w rest before state.shape some;
  alone =
      ap (words_from false []) (over-end w)
      ∙ state.reach no_inlines (λ h. absurd (cc)) (λ none e. no_start);
}

-- ---- one more inline

pushed : (w : Word) (x : Inline) (rest : Inlines) (before after : Bool) → is_text x ≡ false → GoodInline x
    → ((r : Inlines) → words_from before w (inline x r) ≡ words_from after (w ++ x ∷ []) r)
    → State w (inline x rest) before → State (w ++ x ∷ []) rest after
pushed w x rest before after other good step state = record {
  shape = shaped w state.shape;
  reach =
      λ r imply apart. ap (words_from false []) (over-more w x r)
      ∙ state.reach (inline x r) (λ h. h) (λ none e. starts x r other) ∙ step r;
}
  where
    unbroken : (e : Bool) → not e ≡ true → e ≡ false
    unbroken true h = absurd (cc)
    unbroken false h = refl

    shaped : (w : Word) → Shape w (inline x rest) before → Shape (w ++ x ∷ []) rest after
    shaped w (fresh_word r e shown apart) =
        longer x [] rest after good (unbroken (is_break x) shown) of_none (second_other x [] other)
    shaped w (one_text b s r e good_one apart) =
        longer (text (b ∷ s)) (x ∷ []) rest after (good_text b s good_one) refl (of_more x [] good of_none)
        (second_apart (text (b ∷ s)) x [] other)
    shaped w (longer y ys r e good_y shown each second) =
        longer y (ys ++ x ∷ []) rest after good_y shown
        (each-behind GoodInline ys (x ∷ []) each (of_more x [] good of_none)) (second-more y ys x second)

-- the same before another text
no-start-text : (s : List ℕ) (rest : Inlines) → StartsApart (inline (text s) rest) → ⊥
no-start-text s rest apart = from (inline (text s) rest) apart refl
  where
    from : (xs : Inlines) → StartsApart xs → xs ≡ inline (text s) rest → ⊥
    from xs no_start is = cc
    from xs (starts x r other) is =
        let same : x ≡ text s = cc in
        let bad : true ≡ false = ap is_text (sym same) ∙ other in
        cc

retext : (w : Word) (s t : List ℕ) (rest other : Inlines) (before : Bool) → State w (inline (text s) rest) before
    → State w (inline (text t) other) before
retext w s t rest other before state = record {
  shape = shaped w state.shape;
  reach = λ r imply apart. state.reach r (λ h. refl) apart;
}
  where
    shaped : (w : Word) → Shape w (inline (text s) rest) before → Shape w (inline (text t) other) before
    shaped w (fresh_word r e shown apart) =
        fresh_word (inline (text t) other) before refl (λ is. absurd (no-start-text s rest (apart is)))
    shaped w (one_text b u r e good apart) = absurd (no-start-text s rest apart)
    shaped w (longer x xs r e good shown each second) =
        longer x xs (inline (text t) other) before good shown each second

-- nothing shows before a text that begins a word
unshown : (w : Word) (s : List ℕ) (rest : Inlines) (before : Bool) → Shape w (inline (text s) rest) before
    → is_none w ≡ true → before ≡ true → ⊥
unshown w s rest before (fresh_word r e shown apart) none is = no-start-text s rest (apart is)
unshown w s rest before (one_text b u r e good apart) none is = absurd (cc)
unshown w s rest before (longer x xs r e good shown each second) none is = absurd (cc)

-- a text that isn't cut
texted : (w : Word) (b : ℕ) (s : List ℕ) (rest : Inlines) (before : Bool) → GoodText (b ∷ s)
    → StartsApart rest
    → ((e : Bool) → Imply e (begins_shown rest) → cut_text before e [] (b ∷ s) ≡ (b ∷ s) ∷ [])
    → State w (inline (text (b ∷ s)) rest) before → State (w ++ text (b ∷ s) ∷ []) rest true
texted w b s rest before good apart alone state = record {
  shape = shaped w state.shape;
  reach =
      λ r imply starts_apart. ap (words_from false []) (over-more w (text (b ∷ s)) r)
      ∙ state.reach (inline (text (b ∷ s)) r) (λ h. h)
      (λ none is. absurd (unshown w (b ∷ s) rest before state.shape none is))
      ∙ ap (λ parts. ended w parts ++ words_from true (begun w parts) r) (alone (begins_shown r) imply);
}
  where
    shaped : (w : Word) → Shape w (inline (text (b ∷ s)) rest) before
        → Shape (w ++ text (b ∷ s) ∷ []) rest true
    shaped w (fresh_word r e shown apart_r) = one_text b s rest true good apart
    shaped w (one_text c u r e good_one apart_r) = absurd (no-start-text (b ∷ s) rest apart_r)
    shaped w (longer x xs r e good_x shown each second) =
        longer x (xs ++ text (b ∷ s) ∷ []) rest true good_x shown
        (each-behind GoodInline xs (text (b ∷ s) ∷ []) each
        (of_more (text (b ∷ s)) [] (good_text b s good) of_none))
        (second-more x xs (text (b ∷ s)) second)

started : (rest : Inlines) → begins_shown rest ≡ true → State [] rest false
started rest shown = record {
  shape = fresh_word rest false shown (λ is. absurd (cc));
  reach = λ r imply apart. refl;
}

before-same : (r : Inlines) → StartsApart r → words_from false [] r ≡ words_from true [] r
before-same r no_start = refl
before-same r (starts (text s) rest other) = absurd (cc)
before-same r (starts (code s) rest other) = refl
before-same r (starts (formatted format content) rest other) = refl
before-same r (starts (link address title content) rest other) = refl
before-same r (starts (image address title description) rest other) = refl
before-same r (starts (anchor id) rest other) = refl
before-same r (starts line_break rest other) = refl
before-same r (starts (task is_checked) rest other) = refl

-- ---- the words of a text

-- what follows the text's last part
abbrev Later : BrStyle → Inlines → Type 0
Later style rest = (w : Word) → State w rest true → Each (WordDone style) (words_from true w rest)

some-text : (s : List ℕ) → shows_before false s ≡ true → is_none s ≡ false
some-text [] h = absurd (cc)
some-text (b ∷ s) h = refl

-- the first word is done, and others are
first-done : (style : BrStyle) (w : Word) (rest : Inlines) (p : List ℕ) (parts : List (List ℕ))
    → IsSomething parts
    → WordDone style (with_text w p)
    → Each (WordDone style) (ended [] parts ++ words_from true (begun [] parts) rest)
    → Each (WordDone style) (ended w (p ∷ parts) ++ words_from true (begun w (p ∷ parts)) rest)
first-done style w rest p parts (something q more) done others =
    of_more (with_text w p) (ended [] (q ∷ more) ++ words_from true (begun [] (q ∷ more)) rest) done others

text-alone : (style : BrStyle) (b : ℕ) (y : List ℕ) → GoodText (b ∷ y)
    → cut_text false false [] (b ∷ y) ≡ (b ∷ y) ∷ [] → WordDone style (text (b ∷ y) ∷ [])
text-alone style b y good alone =
    finish style (text (b ∷ y) ∷ []) no_inlines true
    (texted [] b y no_inlines false good no_start
    (λ e imply. unshown-end e imply)
    (started (inline (text (b ∷ y)) no_inlines) refl)) refl
  where
    unshown-end : (e : Bool) → Imply e false → cut_text false e [] (b ∷ y) ≡ (b ∷ y) ∷ []
    unshown-end true imply = absurd (let bad : false ≡ true = imply refl in cc)
    unshown-end false imply = alone

-- the last part of a text, and what follows
last-words : (style : BrStyle) (rest : Inlines) (v : List ℕ) → GoodText v → StartsApart rest → Later style rest
    → shows_behind (begins_shown rest) v ≡ true
    → ((e : Bool) → Imply e (begins_shown rest) → cut_text false e [] v ≡ v ∷ [])
    → Each (WordDone style) (words_from true (with_text [] v) rest)
last-words style rest [] good apart later shown alone =
    later [] (record {
      shape = fresh_word rest true shown (λ is. apart);
      reach = λ r imply starts_apart. before-same r (starts_apart refl refl);
    })
last-words style rest (b ∷ v) good apart later shown alone =
    later (text (b ∷ v) ∷ [])
    (texted [] b v rest false good apart alone (started (inline (text (b ∷ v)) rest) refl))

-- what is known of parts, where nothing was read before them
data Links (before behind : Bool) (s : List ℕ) : List (List ℕ) → Type 0 where
  link_end : ((e : Bool) → Imply e behind → cut_text before e [] s ≡ s ∷ [])
      → Links before behind s (s ∷ [])
  link_more : (y v : List ℕ) (parts : List (List ℕ)) → s ≡ y ++ space ∷ v
      → cut_text before false [] y ≡ y ∷ []
      → shows_before before y ≡ true → shows_behind behind v ≡ true → Chain false behind [] v parts
      → Links before behind s (y ∷ parts)

links : (before behind : Bool) (so_far s : List ℕ) (parts : List (List ℕ)) → Chain before behind so_far s parts
    → so_far ≡ [] → Links before behind s parts
links before behind so_far s parts (chain_end x z f t alone) is =
    subst (λ g. Links x z t ((g ++ t) ∷ [])) (sym is)
    (link_end (λ e imply. ap (λ g. cut_text x e g t) (sym is) ∙ alone e imply ∙ ap (λ g. (g ++ t) ∷ []) is))
links before behind so_far s parts (chain_more x z f t y v rest split alone before_it behind_it others) is =
    subst (λ g. Links x z t ((g ++ y) ∷ rest)) (sym is)
    (link_more y v rest split
    (ap (λ g. cut_text x false g y) (sym is) ∙ alone ∙ ap (λ g. (g ++ y) ∷ []) is)
    (ap (λ g. shows_before x (g ++ y)) (sym is) ∙ before_it) behind_it others)

-- the parts of a text behind the first; `fuel`: as many as there may be
later-words : (fuel : List (List ℕ)) (style : BrStyle) (rest : Inlines) (v : List ℕ) (parts : List (List ℕ))
    → fuel ≡ parts → Links false (begins_shown rest) v parts → GoodText v → StartsApart rest
    → Later style rest
    → shows_behind (begins_shown rest) v ≡ true
    → Each (WordDone style) (ended [] parts ++ words_from true (begun [] parts) rest)
later-words fuel style rest v parts same (link_end alone) good apart later shown =
    last-words style rest v good apart later shown alone
later-words [] style rest v parts same (link_more y w others split alone before_it behind_it more) good apart later
    shown =
    absurd (cc)
later-words (p ∷ fuel) style rest v parts same (link_more y w others split alone before_it behind_it more) good apart
    later
    shown =
    let whole : GoodText (y ++ space ∷ w) = subst GoodText split good in
    let left : fuel ≡ others = cc in
    first-done style [] rest y others (chain-some false (begins_shown rest) [] w others more)
    (inner y (some-text y before_it) (good-front y w whole) alone)
    (later-words fuel style rest w others left (links false (begins_shown rest) [] w others more refl)
    (good-back y w whole) apart later behind_it)
  where
    inner : (y : List ℕ) → is_none y ≡ false → GoodText y → cut_text false false [] y ≡ y ∷ []
        → WordDone style (with_text [] y)
    inner [] some good alone = absurd (cc)
    inner (b ∷ y) some good alone = text-alone style b y good alone

-- all parts of a text, behind the word so far
text-words : (style : BrStyle) (w : Word) (b : ℕ) (s : List ℕ) (rest : Inlines) (before : Bool)
    (parts : List (List ℕ)) → GoodText (b ∷ s) → StartsApart rest
    → State w (inline (text (b ∷ s)) rest) before
    → Later style rest → Links before (begins_shown rest) (b ∷ s) parts
    → Each (WordDone style) (ended w parts ++ words_from true (begun w parts) rest)
text-words style w b s rest before parts good apart state later (link_end alone) =
    later (w ++ text (b ∷ s) ∷ []) (texted w b s rest before good apart alone state)
text-words style w b s rest before parts good apart state later
    (link_more y v others split alone before_it behind_it more) =
    let whole : GoodText (y ++ space ∷ v) = subst GoodText split good in
    first-done style w rest y others (chain-some false (begins_shown rest) [] v others more)
    (done w state y (good-front y v whole) alone before_it)
    (later-words others style rest v others refl (links false (begins_shown rest) [] v others more refl)
    (good-back y v whole) apart later behind_it)
  where
    only : (c : ℕ) (y : List ℕ) (e : Bool) → Imply e false
        → cut_text before false [] (c ∷ y) ≡ (c ∷ y) ∷ []
        → cut_text before e [] (c ∷ y) ≡ (c ∷ y) ∷ []
    only c y true imply alone = absurd (let bad : false ≡ true = imply refl in cc)
    only c y false imply alone = alone

    some-end : (w : Word) (x : Inline) → is_none (w ++ x ∷ []) ≡ false
    some-end [] x = refl
    some-end (y ∷ w) x = refl

    done : (w : Word) → State w (inline (text (b ∷ s)) rest) before → (y : List ℕ) → GoodText y
        → cut_text before false [] y ≡ y ∷ [] → shows_before before y ≡ true
        → WordDone style (with_text w y)
    done [] state [] good alone shown = absurd (unshown [] (b ∷ s) rest before state.shape refl shown)
    done (x ∷ xs) state [] good alone shown =
        finish style (x ∷ xs) (inline (text (b ∷ s)) rest) before state refl
    done w state (c ∷ y) good alone shown =
        finish style (w ++ text (c ∷ y) ∷ []) no_inlines true
        (texted w c y no_inlines before good no_start (λ e imply. only c y e imply alone)
        (retext w (b ∷ s) (c ∷ y) rest no_inlines before state)) (some-end w (text (c ∷ y)))

-- ---- all words

apart-behind : (s : List ℕ) (rest : Inlines) → meets (text s) rest ≡ true → StartsApart rest
apart-behind s no_inlines h = no_start
apart-behind s (inline (text t) rest) h = absurd (cc)
apart-behind s (inline (code t) rest) h = starts (code t) rest refl
apart-behind s (inline (formatted format content) rest) h = starts (formatted format content) rest refl
apart-behind s (inline (link address title content) rest) h = starts (link address title content) rest refl
apart-behind s (inline (image address title description) rest) h = starts (image address title description) rest refl
apart-behind s (inline (anchor id) rest) h = starts (anchor id) rest refl
apart-behind s (inline line_break rest) h = starts line_break rest refl
apart-behind s (inline (task is_checked) rest) h = starts (task is_checked) rest refl

-- the parts of a normal inline before others
normal-parts : (x : Inline) (rest : Inlines) → are_normal false [] (inline x rest) ≡ true
    → (is_normal false [] x ≡ true) × (meets x rest ≡ true) × (are_normal false [] rest ≡ true)
normal-parts x rest h =
    let p = and_parts (is_normal false [] x && meets x rest) (are_normal false [] rest) h in
    let q = and_parts (is_normal false [] x) (meets x rest) p.0 in
    (q.0, q.1, p.1)

shape-some : (w : Word) (before : Bool) → Shape w no_inlines before → is_none w ≡ false
shape-some w before (fresh_word r e shown apart) = absurd (cc)
shape-some w before (one_text b s r e good apart) = refl
shape-some w before (longer x xs r e good shown each second) = refl

words-done : (style : BrStyle) (before : Bool) (w : Word) (rest : Inlines) → are_normal false [] rest ≡ true
    → State w rest before → Each (WordDone style) (words_from before w rest)
words-done style before w no_inlines normal state =
    of_more w [] (finish style w no_inlines before state (shape-some w before state.shape)) of_none
words-done style before w (inline (text []) rest) normal state =
    absurd (empty (normal-parts (text []) rest normal).0)
  where
    empty : is_normal_text [] ≡ true → ⊥
    empty h =
        let p = (and_parts (is_line [] && false) (not (has_double_space [])) h).0 in
        let bad : false ≡ true = (and_parts (is_line []) false p).1 in
        cc
words-done style before w (inline (text (b ∷ s)) rest) normal state =
    let p = normal-parts (text (b ∷ s)) rest normal in
    text-words style w b s rest before (cut_text before (begins_shown rest) [] (b ∷ s)) (normal-good (b ∷ s) p.0)
    (apart-behind (b ∷ s) rest p.1) state (λ v next. words-done style true v rest p.2 next)
    (links before (begins_shown rest) [] (b ∷ s) (cut_text before (begins_shown rest) [] (b ∷ s))
    (chain before (begins_shown rest) [] (b ∷ s)) refl)
words-done style before w (inline (code s) rest) normal state =
    let p = normal-parts (code s) rest normal in
    words-done style true (w ++ code s ∷ []) rest p.2
    (pushed w (code s) rest before true refl (good_other (code s) refl p.0) (λ r. refl) state)
words-done style before w (inline (formatted format content) rest) normal state =
    let x = formatted format content in
    let p = normal-parts x rest normal in
    words-done style true (w ++ x ∷ []) rest p.2
    (pushed w x rest before true refl (good_other x refl p.0) (λ r. refl) state)
words-done style before w (inline (link address title content) rest) normal state =
    let x = link address title content in
    let p = normal-parts x rest normal in
    words-done style true (w ++ x ∷ []) rest p.2
    (pushed w x rest before true refl (good_other x refl p.0) (λ r. refl) state)
words-done style before w (inline (image address title description) rest) normal state =
    let x = image address title description in
    let p = normal-parts x rest normal in
    words-done style true (w ++ x ∷ []) rest p.2
    (pushed w x rest before true refl (good_other x refl p.0) (λ r. refl) state)
words-done style before w (inline (anchor id) rest) normal state =
    let p = normal-parts (anchor id) rest normal in
    words-done style true (w ++ anchor id ∷ []) rest p.2
    (pushed w (anchor id) rest before true refl (good_other (anchor id) refl p.0) (λ r. refl) state)
words-done style before w (inline line_break rest) normal state =
    let p = normal-parts line_break rest normal in
    words-done style false (w ++ line_break ∷ []) rest p.2
    (pushed w line_break rest before false refl (good_other line_break refl p.0) (λ r. refl) state)
words-done style before w (inline (task is_checked) rest) normal state = absurd (cc)

-- ---- of a paragraph

same-break : (x : Inline) → not (is_break_inline x) ≡ true → not (is_break x) ≡ true
same-break (text s) h = refl
same-break (code s) h = refl
same-break (formatted format content) h = refl
same-break (link address title content) h = refl
same-break (image address title description) h = refl
same-break (anchor id) h = refl
same-break line_break h = h
same-break (task is_checked) h = refl

line-done : (style : BrStyle) (content : Inlines) → has_none content ≡ false → is_normal_line content ≡ true
    → Each (WordDone style) (words_of content)
line-done style no_inlines some normal = absurd (cc)
line-done style (inline x rest) some normal =
    let all = inline x rest in
    let p = and_parts (are_whole all) (are_normal false [] all) normal in
    let whole = (and_parts (are_trimmed all && not (is_break_inline x)) (not (last_passes is_break_inline all))
    p.0).0 in
    let shown = (and_parts (are_trimmed all) (not (is_break_inline x)) whole).1 in
    words-done style false [] all p.1 (started all (same-break x shown))

item-done : (style : BrStyle) (content : Inlines) → has_none content ≡ false → is_normal_item content ≡ true
    → Each (WordDone style) (words_of content)
item-done style no_inlines some normal = absurd (cc)
item-done style (inline (task is_checked) rest) some normal =
    let p = and_parts (first_passes begins_with_space rest && not (last_passes ends_with_space rest)
    && not (last_passes is_break_inline rest)) (are_normal false [] rest) normal in
    words-done style false (task is_checked ∷ []) rest p.1 (record {
      shape = longer (task is_checked) [] rest false (good_task is_checked) refl of_none
          (second_other (task is_checked) [] refl);
      reach = λ r imply apart. refl;
    })
item-done style (inline (text s) rest) some normal = line-done style (inline (text s) rest) some normal
item-done style (inline (code s) rest) some normal = line-done style (inline (code s) rest) some normal
item-done style (inline (formatted format content) rest) some normal =
    line-done style (inline (formatted format content) rest) some normal
item-done style (inline (link address title content) rest) some normal =
    line-done style (inline (link address title content) rest) some normal
item-done style (inline (image address title description) rest) some normal =
    line-done style (inline (image address title description) rest) some normal
item-done style (inline (anchor id) rest) some normal = line-done style (inline (anchor id) rest) some normal
item-done style (inline line_break rest) some normal = line-done style (inline line_break rest) some normal

pub paragraph-done : (style : BrStyle) (in_item : Bool) (content : Inlines)
    → is_normal_paragraph in_item content ≡ true → Each (WordDone style) (words_of content)
paragraph-done style in_item content normal =
    let line = cond in_item (is_normal_item content) (is_normal_line content) in
    let p = and_parts (not (has_none content) && line) (are_anchors content || anchors_stand_well content) normal in
    let q = and_parts (not (has_none content)) line p.0 in
    let some = not-true (has_none content) q.0 in
    elim in_item
    as (λ e. cond e (is_normal_item content) (is_normal_line content) ≡ true
    → Each (WordDone style) (words_of content)) [
      | true ↦ λ h. item-done style content some h
      | false ↦ λ h. line-done style content some h
    ] q.1
