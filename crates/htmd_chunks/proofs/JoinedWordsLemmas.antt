-- Words put together take no more than when they are written alone.
use Rattle.std.proofs.Common.{◌≡◌, ℕ, ◌+◌, ◌≤◌, Bool, true, false, cond, List, [], ◌∷◌, ◌++◌, length, reverse}
use Rattle.std.proofs.Common.{refl, sym, ap, ◌∙◌, subst, append_assoc, append-nil, arith, Option, Some, None}
use Rattle.std.specs.Prelude.{◌&&◌, is_none, slice_get}
use Rattle.std.specs.List.{list_any, sum_by}
use Rattle.std.specs.Str.{chars}
use Rattle.std.proofs.lemmas.Bool.{or_from}
use Rattle.std.proofs.lemmas.List.Folds.{list_any-append}
use Rattle.std.proofs.lemmas.List.Sums.{sum_by-cons}
use Rattle.std.proofs.lemmas.Str.{chars-nil}
use Rattle.htmd_lexical.specs.Characters.{space}
use Rattle.htmd_text.specs.Trims.{is_line_feed}
use Rattle.htmd_markdown.specs.declared.line_break.BrStyle.{BrStyle}
use Rattle.htmd_document.specs.Documents.{Inline, text, code, formatted, link, image, anchor, line_break, task}
use Rattle.htmd_document.specs.Documents.{inlines_of, paragraph}
use Rattle.htmd_document.specs.NormalInlines.{is_normal}
use Rattle.htmd_commonmark.specs.declared.inline_ends.Following.{Following}
use Rattle.htmd_commonmark.specs.declared.line.LineKind.TheVariants.{Paragraph}
use Rattle.htmd_commonmark.specs.declared.options.DocumentOptions.{DocumentOptions}
use Rattle.htmd_commonmark.specs.InlineEnds.{first_of, follows, escaped_first}
use Rattle.htmd_commonmark.specs.InlineMarkdown.{written, with_inline, place_of, written_task}
use Rattle.htmd_commonmark.specs.TextEscapes.{escaped}
use Rattle.htmd_commonmark.specs.WrittenText.{Written, character_before, begins_line, in_line}
use Rattle.htmd_chunks.specs.Measures.{block_cost}
use Rattle.htmd_chunks.specs.Pieces.{piece_options}
use Rattle.htmd_chunks.specs.Sizes.{text_size, cost}
use Rattle.htmd_chunks.specs.Words.{Word, text_after, with_text_behind, first_text, behind_text, with_word}
use Rattle.htmd_chunks.specs.Words.{further_words}
use Rattle.htmd_chunks.specs.Words.{put_together, word_cost, words_cost}
use Rattle.htmd_chunks.specs.declared.size.Margin.{Margin}
use Rattle.htmd_chunks.proofs.BegunTextsLemmas.{line_in, at, inline-apart}
use Rattle.htmd_chunks.proofs.CleanTextsLemmas.{IsClean, in-append, in-inline, escaped-clean, chars-behind, clean-some}
use Rattle.htmd_chunks.proofs.CleanTextsLemmas.{clean-front, clean-back, chars-ascii}
use Rattle.htmd_chunks.proofs.MergedTextsLemmas.{standing, put_marks, inline_alone, merged}
use Rattle.htmd_chunks.proofs.LineMarksLemmas.{Differ, no_other, one_other, line-differs}
use Rattle.htmd_chunks.proofs.RunsLemmas.{IsSomething, something}
use Rattle.htmd_chunks.proofs.ShiftsLemmas.{Same, Near, same-near, shift-same, space-near, plain-near, StartsApart}
use Rattle.htmd_chunks.proofs.ShiftsLemmas.{emit-near, Calm, calm_none, calm_space, calm-following, is_text}
use Rattle.htmd_chunks.proofs.ShiftsLemmas.{HasCharacters, same-trans, same-sym}
use Rattle.htmd_chunks.proofs.ShortRunsLemmas.{Each, of_none, of_more, each-behind}
use Rattle.htmd_chunks.proofs.SizesLemmas.{begins_well}
use Rattle.htmd_chunks.proofs.SparserLemmas.{Sparser, alike, fewer, sparser-same, sparser-append, sparser-cost}
use Rattle.htmd_chunks.proofs.SparserLemmas.{spaced-cost}
use Rattle.htmd_chunks.proofs.WordsLemmas.{text-at_end}
use Rattle.htmd_chunks.proofs.WrittenSizesLemmas.{leaf-alone, line-apart}

-- ---- inlines of words

-- a text of whole characters in one line, which isn't empty
pub record GoodText (s : List ℕ) : Type 0 where
  pub clean : IsClean s
  pub plain : list_any is_line_feed s ≡ false

pub data GoodInline : Inline → Type 0 where
  good_text : (b : ℕ) (s : List ℕ) → GoodText (b ∷ s) → GoodInline (text (b ∷ s))
  good_other : (x : Inline) → is_text x ≡ false → is_normal false [] x ≡ true → GoodInline x
  good_task : (is_checked : Bool) → GoodInline (task is_checked)

text-joined : (t f : List ℕ) → GoodText t → GoodText f → GoodText (t ++ space ∷ f)
text-joined t f one two = record {
  clean = in-append t (space ∷ f) one.clean two.clean;
  plain =
      list_any-append is_line_feed t (space ∷ f)
      ∙ or_from (list_any is_line_feed t) (list_any is_line_feed (space ∷ f)) one.plain two.plain;
}

no-text : GoodText []
no-text = record { clean = refl; plain = refl }

-- ---- what is written of a list of inlines

abbrev pub written_of : BrStyle → List Inline → List ℕ
written_of style xs = (written (line_in Paragraph style false) (at [] []) None (inlines_of xs)).text

-- of inlines before others
abbrev upto : BrStyle → Written → List Inline → List Inline → Written
upto style w [] ys = w
upto style w (x ∷ xs) ys =
    upto style (with_inline (line_in Paragraph style false) w (follows Paragraph None (inlines_of (xs ++ ys))) x) xs ys

split-written : (style : BrStyle) (w : Written) (xs ys : List Inline)
    → written (line_in Paragraph style false) w None (inlines_of (xs ++ ys))
    ≡ written (line_in Paragraph style false) (upto style w xs ys) None (inlines_of ys)
split-written style w [] ys = refl
split-written style w (x ∷ xs) ys =
    split-written style
    (with_inline (line_in Paragraph style false) w (follows Paragraph None (inlines_of (xs ++ ys))) x) xs ys

-- what stands first behind them is all that counts
upto-first : (style : BrStyle) (w : Written) (xs : List Inline) (x y : Inline) (us vs : List Inline)
    → first_of Paragraph x ≡ first_of Paragraph y → upto style w xs (x ∷ us) ≡ upto style w xs (y ∷ vs)
upto-first style w [] x y us vs same = refl
upto-first style w (z ∷ []) x y us vs same =
    ap (λ o. with_inline (line_in Paragraph style false) w (record { after = o; is_last = false }) z) same
upto-first style w (z ∷ z' ∷ xs) x y us vs same =
    upto-first style
    (with_inline (line_in Paragraph style false) w (record { after = first_of Paragraph z'; is_last = false }) z)
    (z' ∷ xs) x y us vs same

-- no definitions come
upto-at : (style : BrStyle) (t : List ℕ) (xs ys : List Inline)
    → upto style (at t []) xs ys ≡ at (upto style (at t []) xs ys).text []
upto-at style t [] ys = refl
upto-at style t (x ∷ xs) ys =
    let l = line_in Paragraph style false in
    let f = follows Paragraph None (inlines_of (xs ++ ys)) in
    let is = inline-apart Paragraph style false t [] f x in
    let now = (with_inline l (at t []) f x).text in
    ap (λ (w : Written). upto style w xs ys) is ∙ upto-at style now xs ys
    ∙ ap (λ (w : Written). at (upto style w xs ys).text []) (sym is)

good-clean : (style : BrStyle) (w : Written) (f : Following) (x : Inline) → GoodInline x → IsClean w.text
    → IsClean (with_inline (line_in Paragraph style false) w f x).text
good-clean style w f x (good_text b s good) clean =
    let place = place_of (line_in Paragraph style false) w.text f.after in
    in-append w.text (escaped place (b ∷ s)) clean (escaped-clean place (b ∷ s) good.clean)
good-clean style w f x (good_other y other normal) clean = in-inline style false [] w f y normal clean
good-clean style w f x (good_task true) clean = in-append w.text (written_task true) clean refl
good-clean style w f x (good_task false) clean = in-append w.text (written_task false) clean refl

upto-clean : (style : BrStyle) (w : Written) (xs ys : List Inline) → Each GoodInline xs → IsClean w.text
    → IsClean (upto style w xs ys).text
upto-clean style w xs ys of_none clean = clean
upto-clean style w xs ys (of_more x rest good others) clean =
    let f = follows Paragraph None (inlines_of (rest ++ ys)) in
    upto-clean style (with_inline (line_in Paragraph style false) w f x) rest ys others
    (good-clean style w f x good clean)

-- ---- a text with a space in it, and what stands behind

near-trans : (a b c : List ℕ) → Near a b → Near b c → Near a c
near-trans a b c p q = record {
  fit = λ sign after l first last is. p.fit sign after l first last is ∙ q.fit sign after l first last is;
  more =
      λ d u none bits. same-trans (a ++ d ∷ u) (b ++ d ∷ u) (c ++ d ∷ u) (p.more d u none bits)
      (q.more d u none bits);
}

near-sym : (a b : List ℕ) → Near a b → Near b a
near-sym a b p = record {
  fit = λ sign after l first last is. sym (p.fit sign after l first last is);
  more = λ d u none bits. same-sym (a ++ d ∷ u) (b ++ d ∷ u) (p.more d u none bits);
}

near-refl : (a b : List ℕ) → a ≡ b → Near a b
near-refl a b is = subst (Near a) is (same-near a a (record { before = λ u. refl; escaped = λ u. refl }))

marks-some : (after : Option ℕ) (b : ℕ) (s : List ℕ)
    → (c : ℕ) × (v : List ℕ) × (put_marks (inline_alone after) [] (b ∷ s) ≡ c ∷ v)
marks-some after b s =
    elim (inline_alone after [] b s)
    as (λ e. (c : ℕ) × (v : List ℕ) × (cond e (92 ∷ b ∷ put_marks (inline_alone after) (b ∷ []) s)
    (b ∷ put_marks (inline_alone after) (b ∷ []) s) ≡ c ∷ v)) [
      | true ↦ (92, b ∷ put_marks (inline_alone after) (b ∷ []) s, refl)
      | false ↦ (b, put_marks (inline_alone after) (b ∷ []) s, refl)
    ]

-- nothing stands before the first text
nothing-before : character_before [] ≡ None
nothing-before = ap (λ cs. in_line (slice_get (reverse cs) 0)) chars-nil

alone-place : (style : BrStyle) (after : Option ℕ)
    → place_of (line_in Paragraph style false) [] after ≡ standing true None after
alone-place style after =
    let none : character_before [] ≡ None = nothing-before in
    ap (λ o. standing (is_none o && true) o after) none

differ-sparser : (a b : List ℕ) → Differ a b → Sparser b a
differ-sparser a b (no_other is) = subst (Sparser b) (sym is) (sparser-same b)
differ-sparser a b (one_other q c v left right plain) =
    subst (λ x. Sparser x a) (sym right)
    (subst (Sparser (q ++ c ∷ v)) (sym (left ∙ append_assoc q (92 ∷ []) (c ∷ v)))
    (sparser-append q q (c ∷ v) (92 ∷ c ∷ v) (sparser-same q) (fewer c v v plain.line (sparser-same v))))

clean-half : (q : List ℕ) (c : ℕ) (v : List ℕ) → IsClean ((q ++ 92 ∷ []) ++ c ∷ v) → IsClean q
clean-half q c v clean = clean-front 0 q 92 (c ∷ v) refl (subst IsClean (append_assoc q (92 ∷ []) (c ∷ v)) clean)

differ-near : (a b : List ℕ) → IsClean a → Differ a b → Near b a
differ-near a b clean (no_other is) = near-refl b a (sym is)
differ-near a b clean (one_other q c v left right plain) =
    subst (λ x. Near x a) (sym right)
    (subst (Near (q ++ c ∷ v)) (sym left)
    (near-sym ((q ++ 92 ∷ []) ++ c ∷ v) (q ++ c ∷ v)
    (plain-near q c v (clean-half q c v (subst IsClean left clean)) plain)))

-- a text before others, if it is one
abbrev pub with_first : List ℕ → List Inline → List Inline
with_first [] bw = bw
with_first (b ∷ s) bw = text (b ∷ s) ∷ bw

has-characters : (b : ℕ) (v : List ℕ) → IsClean (b ∷ v) → HasCharacters (b ∷ v)
has-characters b v clean =
    λ u. subst (λ (l : List ℕ). IsSomething l) (sym (chars-behind (b ∷ v) u clean))
    (grown (chars (b ∷ v)) (chars u) (clean-some b v clean))
  where
    grown : (xs ys : List ℕ) → IsSomething xs → IsSomething (xs ++ ys)
    grown xs ys (something x rest) = something x (rest ++ ys)

-- what is written behind a space
after-space : (style : BrStyle) (front rt f : List ℕ) (after : Option ℕ) (bw : List Inline)
    → (follows Paragraph None (inlines_of bw)).after ≡ after
    → IsClean front → IsClean (put_marks (inline_alone after) [] f) → GoodText f → Sparser front rt
    → StartsApart (inlines_of bw)
    → Sparser
    (written (line_in Paragraph style false)
    (at ((front ++ space ∷ []) ++ put_marks (inline_alone after) [] f) []) None (inlines_of bw)).text
    (rt ++ space ∷ written_of style (with_first f bw))
after-space style front rt [] after bw is clean s_clean good sparse apart =
    let l = line_in Paragraph style false in
    let x = front ++ space ∷ [] in
    let e = emit-near style x [] (inlines_of bw) apart (space-near front clean) in
    let left : (written l (at (x ++ []) []) None (inlines_of bw)).text ≡ front ++ space ∷ e.put =
    ap (λ t. (written l (at t []) None (inlines_of bw)).text) (append-nil x)
    ∙ ap (λ (w : Written). w.text) e.left ∙ append_assoc front (space ∷ []) e.put in
    subst (λ a. Sparser a (rt ++ space ∷ written_of style bw)) (sym left)
    (subst (λ b. Sparser (front ++ space ∷ e.put) (rt ++ space ∷ b)) (sym (ap (λ (w : Written). w.text) e.right))
    (sparser-append front rt (space ∷ e.put) (space ∷ e.put) sparse (sparser-same (space ∷ e.put))))
after-space style front rt (b ∷ f) after bw is clean s_clean good sparse apart =
    let l = line_in Paragraph style false in
    let x = front ++ space ∷ [] in
    let s = put_marks (inline_alone after) [] (b ∷ f) in
    let g = (follows Paragraph None (inlines_of bw)).after in
    let whole = escaped (place_of l [] g) (b ∷ f) in
    let place : place_of l [] g ≡ standing true None after =
    ap (place_of l []) is ∙ alone-place style after in
    let d : Differ whole s =
    subst (λ p. Differ (escaped p (b ∷ f)) s) (sym place) (line-differs after (b ∷ f)) in
    let whole_clean = escaped-clean (place_of l [] g) (b ∷ f) good.clean in
    let near : Near (x ++ s) whole =
    near-trans (x ++ s) s whole (same-near (x ++ s) s (shifted front s (marks-some after b f) clean s_clean))
    (differ-near whole s whole_clean d) in
    let e = emit-near style (x ++ s) whole (inlines_of bw) apart near in
    let left : (written l (at (x ++ s) []) None (inlines_of bw)).text ≡ front ++ space ∷ (s ++ e.put) =
    ap (λ (w : Written). w.text) e.left ∙ append_assoc x s e.put
    ∙ append_assoc front (space ∷ []) (s ++ e.put) in
    subst (λ a. Sparser a (rt ++ space ∷ written_of style (text (b ∷ f) ∷ bw))) (sym left)
    (subst (λ t. Sparser (front ++ space ∷ (s ++ e.put)) (rt ++ space ∷ t))
    (sym (ap (λ (w : Written). w.text) e.right))
    (sparser-append front rt (space ∷ (s ++ e.put)) (space ∷ (whole ++ e.put)) sparse
    (alike space (s ++ e.put) (whole ++ e.put)
    (sparser-append s whole e.put e.put (differ-sparser whole s d) (sparser-same e.put)))))
  where
    shifted : (front s : List ℕ) → ((c : ℕ) × (v : List ℕ) × (s ≡ c ∷ v)) → IsClean front → IsClean s
        → Same ((front ++ space ∷ []) ++ s) s
    shifted front s some clean s_clean =
        subst (λ t. Same ((front ++ space ∷ []) ++ t) t) (sym some.2)
        (shift-same front some.0 some.1 (in-append front (space ∷ []) clean refl)
        (has-characters some.0 some.1 (subst IsClean some.2 s_clean)))

-- behind clean text: a text, a space and a text, and others
joined-text : (style : BrStyle) (p t f : List ℕ) (bw : List Inline) → IsClean p → GoodText t → GoodText f
    → StartsApart (inlines_of bw)
    → Sparser
    (written (line_in Paragraph style false) (with_inline (line_in Paragraph style false) (at p [])
    (follows Paragraph None (inlines_of bw)) (text (t ++ space ∷ f))) None (inlines_of bw)).text
    ((p ++ escaped (place_of (line_in Paragraph style false) p None) t)
    ++ space ∷ written_of style (with_first f bw))
joined-text style p t f bw clean good_t good_f apart =
    let l = line_in Paragraph style false in
    let after = (follows Paragraph None (inlines_of bw)).after in
    let place = place_of l p after in
    let m = merged (begins_line p && true) (character_before p) after t f good_t.clean good_t.plain in
    let front = p ++ m.front in
    let s = put_marks (inline_alone after) [] f in
    let whole : IsClean (m.front ++ space ∷ s) =
    subst IsClean m.is
    (escaped-clean place (t ++ space ∷ f) (in-append t (space ∷ f) good_t.clean good_f.clean)) in
    let s_clean = clean-back 0 m.front space s refl refl whole in
    let state : p ++ escaped place (t ++ space ∷ f) ≡ (front ++ space ∷ []) ++ s =
    ap (λ e. p ++ e) m.is ∙ sym (append_assoc p m.front (space ∷ s))
    ∙ sym (append_assoc front (space ∷ []) s) in
    let rt = p ++ escaped (place_of l p None) t in
    subst (λ x. Sparser (written l (at x []) None (inlines_of bw)).text
    (rt ++ space ∷ written_of style (with_first f bw)))
    (sym state)
    (after-space style front rt f after bw refl (in-append p m.front clean (m.whole good_f.clean)) s_clean good_f
    (sparser-append p p m.front (escaped (place_of l p None) t) (sparser-same p) m.sparse) apart)

-- ---- words

-- a word: a text that it may begin with, and what stands behind that
pub record WordOk (style : BrStyle) (w : Word) : Type 0 where
  pub f : List ℕ
  pub bw : List Inline
  pub is : w ≡ with_first f bw
  pub first : first_text w ≡ f
  pub behind : behind_text w ≡ bw
  pub apart : StartsApart (inlines_of bw)
  pub good : GoodText f
  pub each : Each GoodInline w
  pub some : IsSomething w
  pub well : begins_well (written_of style w) ≡ true

data Snoc : List Inline → Type 0 where
  snoc_of : (ys : List Inline) (y : Inline) → Snoc (ys ++ y ∷ [])

snoc-more : (x : Inline) (xs : List Inline) → Snoc xs → Snoc (x ∷ xs)
snoc-more x xs (snoc_of ys y) = snoc_of (x ∷ ys) y

snoc : (x : Inline) (xs : List Inline) → Snoc (x ∷ xs)
snoc x [] = snoc_of [] x
snoc x (y ∷ xs) = snoc-more x (y ∷ xs) (snoc y xs)

each-front : (ys : List Inline) (zs : List Inline) → Each GoodInline (ys ++ zs) → Each GoodInline ys
each-front [] zs each = of_none
each-front (y ∷ ys) zs (of_more x rest good others) = of_more y ys good (each-front ys zs others)

each-last : (ys : List Inline) (y : Inline) → Each GoodInline (ys ++ y ∷ []) → GoodInline y
each-last [] y (of_more x rest good others) = good
each-last (z ∷ ys) y (of_more x rest good others) = each-last ys y others

after-other : (y : Inline) (s : List ℕ) → is_text y ≡ false → text_after y s ≡ y ∷ text s ∷ []
after-other (text t) s other = absurd (cc)
after-other (code t) s other = refl
after-other (formatted format content) s other = refl
after-other (link address title content) s other = refl
after-other (image address title description) s other = refl
after-other (anchor id) s other = refl
after-other line_break s other = refl
after-other (task is_checked) s other = refl

upto-snoc : (style : BrStyle) (w : Written) (ys : List Inline) (y : Inline) (zs : List Inline)
    → upto style w (ys ++ y ∷ []) zs
    ≡ with_inline (line_in Paragraph style false) (upto style w ys (y ∷ zs))
    (follows Paragraph None (inlines_of zs)) y
upto-snoc style w [] y zs = refl
upto-snoc style w (x ∷ ys) y zs =
    let l = line_in Paragraph style false in
    ap (λ xs. upto style (with_inline l w (follows Paragraph None (inlines_of xs)) x) (ys ++ y ∷ []) zs)
    (append_assoc ys (y ∷ []) zs)
    ∙ upto-snoc style (with_inline l w (follows Paragraph None (inlines_of (ys ++ y ∷ zs))) x) ys y zs

space-first : (f : List ℕ) → first_of Paragraph (text (space ∷ f)) ≡ Some space
space-first f = ap (λ cs. escaped_first (slice_get cs 0)) (chars-ascii space f refl refl)

text-first : (b : ℕ) (t x : List ℕ) → IsClean (b ∷ t)
    → first_of Paragraph (text ((b ∷ t) ++ x)) ≡ first_of Paragraph (text (b ∷ t))
text-first b t x clean =
    ap escaped_first
    (ap (λ cs. slice_get cs 0) (chars-behind (b ∷ t) x clean)
    ∙ front (chars (b ∷ t)) (chars x) (clean-some b t clean))
  where
    front : (xs ys : List ℕ) → IsSomething xs → slice_get (xs ++ ys) 0 ≡ slice_get xs 0
    front xs ys (something c rest) = refl

-- a word behind inlines that end in no text
behind-other : (style : BrStyle) (ys : List Inline) (y : Inline) (f : List ℕ) (bw : List Inline)
    → is_text y ≡ false → Each GoodInline (ys ++ y ∷ []) → GoodText f → StartsApart (inlines_of bw)
    → Sparser (written_of style ((ys ++ y ∷ []) ++ text (space ∷ f) ∷ bw))
    (written_of style (ys ++ y ∷ []) ++ space ∷ written_of style (with_first f bw))
behind-other style ys y f bw other each good apart =
    let l = line_in Paragraph style false in
    let start : Written = at [] [] in
    let xs = ys ++ y ∷ [] in
    let zs = text (space ∷ f) ∷ bw in
    let p = (upto style start xs []).text in
    let alone : upto style start xs [] ≡ at p [] = upto-at style [] xs [] in
    let same : upto style start xs zs ≡ upto style start xs [] =
    upto-snoc style start ys y zs
    ∙ ap (λ w. with_inline l w (follows Paragraph None (inlines_of zs)) y) (upto-first style start ys y y zs [] refl)
    ∙ calm-following style (upto style start ys (y ∷ [])) y (follows Paragraph None (inlines_of zs))
    (follows Paragraph None (inlines_of [])) other (subst Calm (sym (space-first f)) calm_space) calm_none
    ∙ sym (upto-snoc style start ys y []) in
    let joined : written_of style (xs ++ zs)
    ≡ (written l (with_inline l (at p []) (follows Paragraph None (inlines_of bw)) (text (space ∷ f))) None
    (inlines_of bw)).text =
    ap (λ (w : Written). w.text) (split-written style start xs zs)
    ∙ ap (λ w. (written l w None (inlines_of zs)).text) (same ∙ alone) in
    let before : written_of style xs ≡ p =
    ap (λ l. written_of style l) (sym (append-nil xs)) ∙ ap (λ (w : Written). w.text)
    (split-written style start xs []) in
    subst (λ a. Sparser a (written_of style xs ++ space ∷ written_of style (with_first f bw))) (sym joined)
    (subst (λ a. Sparser (written l (with_inline l (at p []) (follows Paragraph None (inlines_of bw))
    (text (space ∷ f)))
    None (inlines_of bw)).text (a ++ space ∷ written_of style (with_first f bw))) (append-nil p ∙ sym before)
    (joined-text style p [] f bw (upto-clean style start xs [] each refl) no-text good apart))

-- or in a text
joined-behind : (style : BrStyle) (ys : List Inline) (b : ℕ) (t f : List ℕ) (bw : List Inline)
    → Each GoodInline ys → GoodText (b ∷ t) → GoodText f → StartsApart (inlines_of bw)
    → Sparser (written_of style (ys ++ text ((b ∷ t) ++ space ∷ f) ∷ bw))
    (written_of style (ys ++ text (b ∷ t) ∷ []) ++ space ∷ written_of style (with_first f bw))
joined-behind style ys b t f bw each good_t good_f apart =
    let l = line_in Paragraph style false in
    let start : Written = at [] [] in
    let big = text ((b ∷ t) ++ space ∷ f) in
    let small = text (b ∷ t) in
    let p = (upto style start ys (small ∷ [])).text in
    let alone : upto style start ys (small ∷ []) ≡ at p [] = upto-at style [] ys (small ∷ []) in
    let joined : written_of style (ys ++ big ∷ bw)
    ≡ (written l (with_inline l (at p []) (follows Paragraph None (inlines_of bw)) big) None (inlines_of bw)).text =
    ap (λ (w : Written). w.text) (split-written style start ys (big ∷ bw))
    ∙ ap (λ w. (written l w None (inlines_of (big ∷ bw))).text)
    (upto-first style start ys big small bw [] (text-first b t (space ∷ f) good_t.clean) ∙ alone) in
    let before : written_of style (ys ++ small ∷ []) ≡ p ++ escaped (place_of l p None) (b ∷ t) =
    ap (λ (w : Written). w.text) (split-written style start ys (small ∷ []))
    ∙ ap (λ w. (written l w None (inlines_of (small ∷ []))).text) alone in
    subst (λ a. Sparser a (written_of style (ys ++ small ∷ []) ++ space ∷ written_of style (with_first f bw)))
    (sym joined)
    (subst (λ a. Sparser (written l (with_inline l (at p []) (follows Paragraph None (inlines_of bw)) big) None
    (inlines_of bw)).text (a ++ space ∷ written_of style (with_first f bw))) (sym before)
    (joined-text style p (b ∷ t) f bw (upto-clean style start ys (small ∷ []) each refl) good_t good_f apart))

-- a word behind others, and what is known of both
record Joined (style : BrStyle) (xs : List Inline) (w : Word) : Type 0 where
  sparse : Sparser (written_of style (with_word xs w)) (written_of style xs ++ space ∷ written_of style w)
  each : Each GoodInline (with_word xs w)
  some : IsSomething (with_word xs w)

some-behind : (xs ys : List Inline) → IsSomething xs → IsSomething (xs ++ ys)
some-behind xs ys (something x rest) = something x (rest ++ ys)

some-last : (ys zs : List Inline) (z : Inline) → IsSomething (ys ++ z ∷ zs)
some-last [] zs z = something z zs
some-last (y ∷ ys) zs z = something y (ys ++ z ∷ zs)

each-bw : (style : BrStyle) (w : Word) (ok : WordOk style w) → Each GoodInline ok.bw
each-bw style w ok = from ok.f ok.bw (subst (Each GoodInline) ok.is ok.each)
  where
    from : (f : List ℕ) (bw : List Inline) → Each GoodInline (with_first f bw) → Each GoodInline bw
    from [] bw each = each
    from (b ∷ f) bw (of_more x rest good others) = others

join-other : (style : BrStyle) (ys : List Inline) (y : Inline) (w : Word) → Each GoodInline (ys ++ y ∷ [])
    → WordOk style w → is_text y ≡ false → Joined style (ys ++ y ∷ []) w
join-other style ys y w each ok other =
    let xs = ys ++ y ∷ [] in
    let next = text (space ∷ ok.f) in
    let is : with_word xs w ≡ xs ++ next ∷ ok.bw =
    ap (λ f. with_text_behind xs (space ∷ f) ++ behind_text w) ok.first
    ∙ ap (λ bw. with_text_behind xs (space ∷ ok.f) ++ bw) ok.behind
    ∙ ap (λ l. l ++ ok.bw) (text-at_end ys y [] (space ∷ ok.f)
    ∙ ap (λ l. ys ++ l) (after-other y (space ∷ ok.f) other))
    ∙ append_assoc ys (y ∷ next ∷ []) ok.bw ∙ sym (append_assoc ys (y ∷ []) (next ∷ ok.bw)) in
    record {
      sparse =
          subst (λ x. Sparser (written_of style x) (written_of style xs ++ space ∷ written_of style w)) (sym is)
          (subst (λ v. Sparser (written_of style (xs ++ next ∷ ok.bw))
          (written_of style xs ++ space ∷ written_of style v))
          (sym ok.is) (behind-other style ys y ok.f ok.bw other each ok.good ok.apart));
      each =
          subst (Each GoodInline) (sym is)
          (each-behind GoodInline xs (next ∷ ok.bw) each
          (of_more next ok.bw (good_text space ok.f (text-joined [] ok.f no-text ok.good)) (each-bw style w ok)));
      some = subst (λ (l : List Inline). IsSomething l) (sym is) (some-behind xs (next ∷ ok.bw) (some-last ys [] y));
    }

join-last : (style : BrStyle) (ys : List Inline) (y : Inline) (w : Word) → Each GoodInline (ys ++ y ∷ [])
    → WordOk style w → GoodInline y → Joined style (ys ++ y ∷ []) w
join-last style ys y w each ok (good_text b t good) =
    let big = text ((b ∷ t) ++ space ∷ ok.f) in
    let is : with_word (ys ++ text (b ∷ t) ∷ []) w ≡ ys ++ big ∷ ok.bw =
    ap (λ f. with_text_behind (ys ++ text (b ∷ t) ∷ []) (space ∷ f) ++ behind_text w) ok.first
    ∙ ap (λ bw. with_text_behind (ys ++ text (b ∷ t) ∷ []) (space ∷ ok.f) ++ bw) ok.behind
    ∙ ap (λ l. l ++ ok.bw) (text-at_end ys (text (b ∷ t)) [] (space ∷ ok.f))
    ∙ append_assoc ys (big ∷ []) ok.bw in
    let front = each-front ys (text (b ∷ t) ∷ []) each in
    record {
      sparse =
          subst (λ x. Sparser (written_of style x) (written_of style (ys ++ text (b ∷ t) ∷ [])
          ++ space ∷ written_of style w))
          (sym is)
          (subst (λ v. Sparser (written_of style (ys ++ big ∷ ok.bw))
          (written_of style (ys ++ text (b ∷ t) ∷ []) ++ space ∷ written_of style v)) (sym ok.is)
          (joined-behind style ys b t ok.f ok.bw front good ok.good ok.apart));
      each =
          subst (Each GoodInline) (sym is)
          (each-behind GoodInline ys (big ∷ ok.bw) front
          (of_more big ok.bw (good_text b (t ++ space ∷ ok.f) (text-joined (b ∷ t) ok.f good ok.good))
          (each-bw style w ok)));
      some = subst (λ (l : List Inline). IsSomething l) (sym is) (some-last ys ok.bw big);
    }
join-last style ys y w each ok (good_other x other normal) = join-other style ys x w each ok other
join-last style ys y w each ok (good_task is_checked) = join-other style ys (task is_checked) w each ok refl

join-word : (style : BrStyle) (xs : List Inline) (w : Word) → IsSomething xs → Each GoodInline xs → WordOk style w
    → Joined style xs w
join-word style xs w (something x rest) each ok = from (x ∷ rest) (snoc x rest) each
  where
    from : (xs : List Inline) → Snoc xs → Each GoodInline xs → Joined style xs w
    from xs (snoc_of ys y) each = join-last style ys y w each ok (each-last ys y each)

-- inlines so far, and words behind them
pub words-cost : (options : DocumentOptions) (m : Margin) (xs : List Inline) (ws : List Word) → IsSomething xs
    → Each GoodInline xs → Each (WordOk options.br_style) ws
    → cost m (text_size (written_of options.br_style (further_words xs ws)))
    ≤ cost m (text_size (written_of options.br_style xs)) + sum_by (word_cost (piece_options options) m) ws + length
    ws
words-cost options m xs ws some each of_none = omega arith
words-cost options m xs ws some each (of_more w rest ok others) =
    let style = options.br_style in
    let j = join-word style xs w some each ok in
    omega (
      arith,
      words-cost options m (with_word xs w) rest j.some j.each others,
      sparser-cost m (written_of style (with_word xs w)) (written_of style xs ++ space ∷ written_of style w) j.sparse,
      spaced-cost m (written_of style xs) (written_of style w) ok.well,
      sum_by-cons (word_cost (piece_options options) m) w rest,
    )

-- words put together
pub together-cost : (options : DocumentOptions) (m : Margin) (w : Word) (ws : List Word)
    → Each (WordOk options.br_style) (w ∷ ws)
    → block_cost (piece_options options) m (paragraph (inlines_of (put_together (w ∷ ws))))
    ≤ words_cost (piece_options options) m (w ∷ ws)
together-cost options m w ws (of_more v rest ok others) =
    let content = inlines_of (further_words w ws) in
    omega (
      arith,
      ap (cost m) (leaf-alone options (paragraph content)
          (ap (λ (w : Written). w.definitions) (line-apart options Paragraph [] content))),
      words-cost options m w ws ok.some ok.each others,
      sum_by-cons (word_cost (piece_options options) m) w ws,
    )
