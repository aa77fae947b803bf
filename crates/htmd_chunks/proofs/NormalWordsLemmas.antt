-- The words of a normal paragraph: each ends and the next begins with what shows.
use Rattle.std.proofs.Common.{◌≡◌, ℕ, Bool, true, false, not, cond, List, [], ◌∷◌, ◌++◌, map, refl, sym, ap, ◌∙◌}
use Rattle.std.proofs.Common.{append_assoc, subst}
use Rattle.std.specs.Prelude.{◌&&◌, ◌||◌, ◌==◌}
use Rattle.std.proofs.lemmas.List.{append-nil}
use Rattle.htmd_lexical.specs.Characters.{space}
use Rattle.htmd_document.specs.Documents.{Inline, text, code, formatted, link, image, anchor, line_break, task}
use Rattle.htmd_document.specs.Documents.{Inlines, no_inlines, inline}
use Rattle.htmd_document.specs.NormalDocuments.{is_normal_paragraph}
use Rattle.htmd_document.specs.NormalInlines.{is_normal, are_normal, meets, has_none, has_double_space, ends_in_space}
use Rattle.htmd_document.specs.NormalInlines.{is_break, are_whole, is_normal_line, is_normal_item, first_passes}
use Rattle.htmd_document.specs.NormalInlines.{last_passes, begins_with_space, ends_with_space, are_anchors}
use Rattle.htmd_document.specs.NormalInlines.{anchors_stand_well}
use Rattle.htmd_chunks.specs.Runs.{together}
use Rattle.htmd_chunks.specs.Words.{Word, shows_before, shows_behind, cut_text, begins_shown, with_text, ended, begun}
use Rattle.htmd_chunks.specs.Words.{words_from, words_of, with_text_behind, first_text, behind_text, with_word}
use Rattle.htmd_chunks.specs.Words.{further_words, put_together}
use Rattle.htmd_chunks.specs.Words.{is_break as is_line_break}
use Rattle.htmd_chunks.proofs.NormalTextsLemmas.{ends-behind, double-back, double-ends, double-begins, single-space}
use Rattle.htmd_chunks.proofs.NormalTextsLemmas.{FirstCut, LastCut, InnerCut, LaterCuts, AllCuts}
use Rattle.htmd_chunks.proofs.RunsLemmas.{and_left, and_right, IsSomething, something, together-append}
use Rattle.htmd_chunks.proofs.RunsLemmas.{RunsHave, no_runs, run_of}
use Rattle.htmd_chunks.proofs.WordsLemmas.{Kind, a_text, other, kind_of, NotText, nothing_more, not_text, text-kind}
use Rattle.htmd_chunks.proofs.WordsLemmas.{prefixed, prefix-first, words-other, words-some, not-text, cut-some}
use Rattle.htmd_chunks.proofs.WordsLemmas.{is_text as is_words}

pub not-so : (A : Type 0) → false ≡ true → A
not-so A e = absurd (cc)

-- ---- where a text is cut

cuts-link : (behind : Bool) (q : List ℕ) (parts : List (List ℕ)) → IsSomething parts → InnerCut q
    → LaterCuts behind parts → LaterCuts behind (q ∷ parts)
cuts-link behind q parts (something r rest) inner cuts = (inner, cuts)

start-behind : (behind : Bool) (b : ℕ) (s : List ℕ) → has_double_space (b ∷ s) ≡ false
    → (b == space) ≡ true
    → shows_behind behind s ≡ true → LastCut behind s
start-behind behind b [] single e shows = shows
start-behind behind b (c ∷ s) single e shows = double-begins b c s single e

later-step : (behind : Bool) (so_far : List ℕ) (b : ℕ) (s : List ℕ) (x y z : Bool) → (b == space) ≡ x
    → shows_before false so_far ≡ y → shows_behind behind s ≡ z
    → has_double_space (so_far ++ b ∷ s) ≡ false → LastCut behind (so_far ++ b ∷ s)
    → (LastCut behind s → LaterCuts behind (cut_text false behind [] s))
    → LaterCuts behind (cut_text false behind (so_far ++ b ∷ []) s)
    → LaterCuts behind (cond ((x && y) && z) (so_far ∷ cut_text false behind [] s)
    (cut_text false behind (so_far ++ b ∷ []) s))
later-step behind [] b s true true true e f g single start rest more = not-so _ f
later-step behind (c ∷ cs) b s true true true e f g single start rest more =
    cuts-link behind (c ∷ cs) (cut_text false behind [] s) (cut-some false behind [] s)
    (start, double-ends c cs b s single e)
    (rest (start-behind behind b s (double-back (c ∷ cs) (b ∷ s) single) e g))
later-step behind so_far b s false y z e f g single start rest more = more
later-step behind so_far b s true false z e f g single start rest more = more
later-step behind so_far b s true true false e f g single start rest more = more

later-cuts : (behind : Bool) (so_far s : List ℕ) → has_double_space (so_far ++ s) ≡ false
    → LastCut behind (so_far ++ s) → LaterCuts behind (cut_text false behind so_far s)
later-cuts behind so_far [] single start = subst (LastCut behind) (append-nil so_far) start
later-cuts behind so_far (b ∷ s) single start =
    let same : so_far ++ b ∷ s ≡ (so_far ++ b ∷ []) ++ s = sym (append_assoc so_far (b ∷ []) s) in
    let behind_so_far = double-back (b ∷ []) s (double-back so_far (b ∷ s) single) in
    later-step behind so_far b s (b == space) (shows_before false so_far) (shows_behind behind s) refl refl refl
    single start
    (λ next. later-cuts behind [] s behind_so_far next)
    (later-cuts behind (so_far ++ b ∷ []) s (subst (λ (l : List ℕ). has_double_space l ≡ false) same single)
    (subst (LastCut behind) same start))

cuts-begin : (before behind : Bool) (p : List ℕ) (parts : List (List ℕ)) → IsSomething parts → FirstCut before p
    → LaterCuts behind parts → AllCuts before behind (p ∷ parts)
cuts-begin before behind p parts (something r rest) first cuts = (first, cuts)

first-step : (before behind : Bool) (so_far : List ℕ) (b : ℕ) (s : List ℕ) (x y z : Bool) → (b == space) ≡ x
    → shows_before before so_far ≡ y → shows_behind behind s ≡ z
    → has_double_space (so_far ++ b ∷ s) ≡ false
    → AllCuts before behind (cut_text before behind (so_far ++ b ∷ []) s)
    → AllCuts before behind (cond ((x && y) && z) (so_far ∷ cut_text false behind [] s)
    (cut_text before behind (so_far ++ b ∷ []) s))
first-step before behind so_far b s true true true e f g single more =
    cuts-begin before behind so_far (cut_text false behind [] s) (cut-some false behind [] s)
    (at so_far f single)
    (later-cuts behind [] s (double-back (b ∷ []) s (double-back so_far (b ∷ s) single))
    (start-behind behind b s (double-back so_far (b ∷ s) single) e g))
  where
    at : (so_far : List ℕ) → shows_before before so_far ≡ true → has_double_space (so_far ++ b ∷ s) ≡ false
        → FirstCut before so_far
    at [] f single = f
    at (c ∷ cs) f single = double-ends c cs b s single e
first-step before behind so_far b s false y z e f g single more = more
first-step before behind so_far b s true false z e f g single more = more
first-step before behind so_far b s true true false e f g single more = more

all-cuts : (before behind : Bool) (so_far s : List ℕ) → has_double_space (so_far ++ s) ≡ false
    → AllCuts before behind (cut_text before behind so_far s)
all-cuts before behind so_far [] single = tt
all-cuts before behind so_far (b ∷ s) single =
    first-step before behind so_far b s (b == space) (shows_before before so_far) (shows_behind behind s) refl refl
    refl single
    (all-cuts before behind (so_far ++ b ∷ []) s
    (subst (λ (l : List ℕ). has_double_space l ≡ false) (sym (append_assoc so_far (b ∷ []) s)) single))

-- ---- ends of words

abbrev pub is_task : Inline → Bool
is_task (task is_checked) = true
is_task _ = false

-- they end with something that shows, and with no space
pub data EndsWell : List Inline → Type 0 where
  text_end : (xs : List Inline) (b : ℕ) (s : List ℕ) → ends_in_space (b ∷ s) ≡ false
      → EndsWell (xs ++ text (b ∷ s) ∷ [])
  other_end : (xs : List Inline) (x : Inline) → is_words x ≡ false → is_break x ≡ false → is_task x ≡ false
      → EndsWell (xs ++ x ∷ [])

pub data BeginsWell : List Inline → Type 0 where
  text_begin : (b : ℕ) (s : List ℕ) (xs : List Inline) → (b == space) ≡ false
      → BeginsWell (text (b ∷ s) ∷ xs)
  other_begin : (x : Inline) (xs : List Inline) → is_words x ≡ false → is_break x ≡ false
      → BeginsWell (x ∷ xs)

-- each ends, and the next begins so
abbrev pub Linked : List (List Inline) → Type 0
Linked [] = Unit {0}
Linked (a ∷ []) = Unit {0}
Linked (a ∷ b ∷ rest) = (EndsWell a × BeginsWell b) × Linked (b ∷ rest)

data StartsWell : List (List Inline) → Type 0 where
  begun_so : (w : List Inline) (ws : List (List Inline)) → BeginsWell w → Linked (w ∷ ws)
      → StartsWell (w ∷ ws)

link-begun : (w : List Inline) (ws : List (List Inline)) → EndsWell w → StartsWell ws → Linked (w ∷ ws)
link-begun w ws ends (begun_so v vs begins linked) = ((ends, begins), linked)

begun-by : (x : Inline) (ws : List Word) → IsSomething ws → ((w : Word) → BeginsWell (x ∷ w))
    → Linked (prefixed x ws) → StartsWell (prefixed x ws)
begun-by x ws (something v vs) begins linked = begun_so (x ∷ v) vs (begins v) linked

-- ---- words of a text

same-break : (x : Inline) → is_line_break x ≡ is_break x
same-break (text s) = refl
same-break (code s) = refl
same-break (formatted f content) = refl
same-break (link a t content) = refl
same-break (image a t d) = refl
same-break (anchor id) = refl
same-break line_break = refl
same-break (task t) = refl

no-break : (x : Inline) → not (is_line_break x) ≡ true → is_break x ≡ false
no-break x h = at (is_line_break x) (is_break x) (same-break x) h
  where
    at : (a b : Bool) → a ≡ b → not a ≡ true → b ≡ false
    at false b e h = sym e
    at true b e h = absurd (cc)

last-begun : (q : List ℕ) (rest : Inlines) → LastCut (begins_shown rest) q → NotText rest
    → ((v : Word) → Linked (words_from true v rest)) → StartsWell (words_from true (with_text [] q) rest)
last-begun (b ∷ q) rest cut not all =
    let same = prefix-first true (text (b ∷ q)) [] rest in
    subst (λ (l : List Word). StartsWell l) (sym same)
    (begun-by (text (b ∷ q)) (words_from true [] rest) (words-some true [] rest)
    (λ w. text_begin b q w cut)
    (subst (λ (l : List Word). Linked l) same (all (text (b ∷ q) ∷ []))))
last-begun [] rest cut nothing_more all = not-so _ cut
last-begun [] rest cut (not_text x others e) all =
    let step = words-other true [] x others e in
    let same : words_from true [] (inline x others) ≡ prefixed x (words_from step.0 [] others) =
    step.1 ∙ prefix-first step.0 x [] others in
    subst (λ (l : List Word). StartsWell l) (sym same)
    (begun-by x (words_from step.0 [] others) (words-some step.0 [] others)
    (λ w. other_begin x w e (no-break x cut))
    (subst (λ (l : List Word). Linked l) same (all [])))

later-begun : (q : List ℕ) (parts : List (List ℕ)) (rest : Inlines)
    → LaterCuts (begins_shown rest) (q ∷ parts) → NotText rest
    → ((v : Word) → Linked (words_from true v rest))
    → StartsWell (ended [] (q ∷ parts) ++ words_from true (begun [] (q ∷ parts)) rest)
later-begun q [] rest cuts not all = last-begun q rest cuts not all
later-begun [] (r ∷ parts) rest cuts not all = absurd (cuts.0)
later-begun (b ∷ q) (r ∷ parts) rest cuts not all =
    let behind = ended [] (r ∷ parts) ++ words_from true (begun [] (r ∷ parts)) rest in
    begun_so (text (b ∷ q) ∷ []) behind (text_begin b q [] cuts.0.0)
    (link-begun (text (b ∷ q) ∷ []) behind (text_end [] b q cuts.0.1) (later-begun r parts rest cuts.1 not all))

first-ends : (before : Bool) (w : Word) (p : List ℕ) → FirstCut before p → (before ≡ true → EndsWell w)
    → EndsWell (with_text w p)
first-ends before w [] cut ends = ends cut
first-ends before w (b ∷ s) cut ends = text_end w b s cut

text-linked : (before : Bool) (w : Word) (parts : List (List ℕ)) (rest : Inlines) → IsSomething parts
    → AllCuts before (begins_shown rest) parts → NotText rest → (before ≡ true → EndsWell w)
    → ((v : Word) → Linked (words_from true v rest))
    → Linked (ended w parts ++ words_from true (begun w parts) rest)
text-linked before w parts rest (something p []) cuts not ends all = all (with_text w p)
text-linked before w parts rest (something p (q ∷ more)) cuts not ends all =
    link-begun (with_text w p) (ended [] (q ∷ more) ++ words_from true (begun [] (q ∷ more)) rest)
    (first-ends before w p cuts.0 ends) (later-begun q more rest cuts.1 not all)

-- ---- words of inlines

abbrev begins_text : Inlines → Bool
begins_text (inline (text s) rest) = true
begins_text _ = false

begins-other : (rest : Inlines) → NotText rest → begins_text rest ≡ false
begins-other rest nothing_more = refl
begins-other rest (not_text (text s) others e) = absurd (cc)
begins-other rest (not_text (code s) others e) = refl
begins-other rest (not_text (formatted f c) others e) = refl
begins-other rest (not_text (link a t c) others e) = refl
begins-other rest (not_text (image a t d) others e) = refl
begins-other rest (not_text (anchor id) others e) = refl
begins-other rest (not_text line_break others e) = refl
begins-other rest (not_text (task t) others e) = refl

normal-rest : (x : Inline) (rest : Inlines) → are_normal false [] (inline x rest) ≡ true
    → are_normal false [] rest ≡ true
normal-rest x rest h = and_right (is_normal false [] x && meets x rest) (are_normal false [] rest) h

words-linked : (content : Inlines) (before : Bool) (w : Word) → are_normal false [] content ≡ true
    → (before ≡ true → begins_text content ≡ true → EndsWell w) → Linked (words_from before w content)
words-linked no_inlines before w h ends = tt
words-linked (inline (text s) rest) before w h ends =
    let first = and_left (is_normal false [] (text s) && meets (text s) rest) (are_normal false [] rest) h in
    let single = single-space s (and_left (is_normal false [] (text s)) (meets (text s) rest) first) in
    let not = not-text false [] s rest (and_right (is_normal false [] (text s)) (meets (text s) rest) first) in
    text-linked before w (cut_text before (begins_shown rest) [] s) rest
    (cut-some before (begins_shown rest) [] s) (all-cuts before (begins_shown rest) [] s single) not
    (λ e. ends e refl)
    (λ v. words-linked rest true v (normal-rest (text s) rest h)
    (λ e begins. not-so _ (sym (begins-other rest not) ∙ begins)))
words-linked (inline (code s) rest) before w h ends =
    words-linked rest true (w ++ code s ∷ []) (normal-rest (code s) rest h)
    (λ e begins. other_end w (code s) refl refl refl)
words-linked (inline (formatted f c) rest) before w h ends =
    words-linked rest true (w ++ formatted f c ∷ []) (normal-rest (formatted f c) rest h)
    (λ e begins. other_end w (formatted f c) refl refl refl)
words-linked (inline (link a t c) rest) before w h ends =
    words-linked rest true (w ++ link a t c ∷ []) (normal-rest (link a t c) rest h)
    (λ e begins. other_end w (link a t c) refl refl refl)
words-linked (inline (image a t d) rest) before w h ends =
    words-linked rest true (w ++ image a t d ∷ []) (normal-rest (image a t d) rest h)
    (λ e begins. other_end w (image a t d) refl refl refl)
words-linked (inline (anchor id) rest) before w h ends =
    words-linked rest true (w ++ anchor id ∷ []) (normal-rest (anchor id) rest h)
    (λ e begins. other_end w (anchor id) refl refl refl)
words-linked (inline line_break rest) before w h ends =
    words-linked rest false (w ++ line_break ∷ []) (normal-rest line_break rest h) (λ e begins. not-so _ e)
words-linked (inline (task t) rest) before w h ends = absurd (cc)

line-linked : (xs : Inlines) → is_normal_line xs ≡ true → Linked (words_of xs)
line-linked xs h =
    words-linked xs false [] (and_right (are_whole xs) (are_normal false [] xs) h) (λ e begins. not-so _ e)

item-linked : (xs : Inlines) → is_normal_item xs ≡ true → Linked (words_of xs)
item-linked no_inlines h = tt
item-linked (inline (task t) rest) h =
    words-linked rest false (task t ∷ []) (and_right
    (first_passes begins_with_space rest && not (last_passes ends_with_space rest) && not (last_passes is_break rest))
    (are_normal false [] rest) h) (λ e begins. not-so _ e)
item-linked (inline (text s) rest) h = line-linked (inline (text s) rest) h
item-linked (inline (code s) rest) h = line-linked (inline (code s) rest) h
item-linked (inline (formatted f c) rest) h = line-linked (inline (formatted f c) rest) h
item-linked (inline (link a t c) rest) h = line-linked (inline (link a t c) rest) h
item-linked (inline (image a t d) rest) h = line-linked (inline (image a t d) rest) h
item-linked (inline (anchor id) rest) h = line-linked (inline (anchor id) rest) h
item-linked (inline line_break rest) h = line-linked (inline line_break rest) h

either-linked : (in_item : Bool) (xs : Inlines) → cond in_item (is_normal_item xs) (is_normal_line xs) ≡ true
    → Linked (words_of xs)
either-linked true xs h = item-linked xs h
either-linked false xs h = line-linked xs h

pub paragraph-linked : (in_item : Bool) (xs : Inlines) → is_normal_paragraph in_item xs ≡ true
    → Linked (words_of xs)
paragraph-linked in_item xs h =
    let inner = cond in_item (is_normal_item xs) (is_normal_line xs) in
    either-linked in_item xs (and_right (not (has_none xs)) inner
    (and_left (not (has_none xs) && inner) (are_anchors xs || anchors_stand_well xs) h))

-- ---- words put together

-- a text behind inlines ends them
pub record EndsInText (ys : List Inline) (t : List ℕ) : Type 0 where
  pub before : List Inline
  pub start : List ℕ
  pub is : ys ≡ before ++ text (start ++ t) ∷ []

pub text-ends : (xs : List Inline) (t : List ℕ) → EndsInText (with_text_behind xs t) t
text-ends [] t = record { before = []; start = []; is = refl }
text-ends (x ∷ []) t = at x (kind_of x)
  where
    at : (x : Inline) → Kind x → EndsInText (with_text_behind (x ∷ []) t) t
    at x (a_text s) = record { before = []; start = s; is = refl }
    at x (other y b f after) = record { before = x ∷ []; start = []; is = after t }
text-ends (x ∷ y ∷ xs) t =
    let rest = text-ends (y ∷ xs) t in
    record { before = x ∷ rest.before; start = rest.start; is = ap (λ l. x ∷ l) rest.is }

ends-grown : (a zs : List Inline) → EndsWell zs → EndsWell (a ++ zs)
ends-grown a zs (text_end xs b s e) =
    subst (λ (l : List Inline). EndsWell l) (append_assoc a xs (text (b ∷ s) ∷ [])) (text_end (a ++ xs) b s e)
ends-grown a zs (other_end xs x e f g) =
    subst (λ (l : List Inline). EndsWell l) (append_assoc a xs (x ∷ [])) (other_end (a ++ xs) x e f g)

ends-as : (zs : List Inline) (r : List ℕ) (c : ℕ) (u : List ℕ) → ends_in_space (r ++ c ∷ u) ≡ false
    → EndsWell (zs ++ text (r ++ c ∷ u) ∷ [])
ends-as zs [] c u e = text_end zs c u e
ends-as zs (d ∷ r) c u e = text_end zs d (r ++ c ∷ u) e

ends-text : (xs : List Inline) (b : ℕ) (s : List ℕ) → ends_in_space (b ∷ s) ≡ false
    → EndsWell (with_word xs (text (b ∷ s) ∷ []))
ends-text xs b s e =
    let put = text-ends xs (space ∷ b ∷ s) in
    subst (λ (l : List Inline). EndsWell l) (sym (append-nil (with_text_behind xs (space ∷ b ∷ s)) ∙ put.is))
    (ends-as put.before put.start space (b ∷ s)
    (ends-behind put.start space (b ∷ s) ∙ ends-behind (space ∷ []) b s ∙ e))

ends-rest : (y : Inline) (ys : List Inline) → Kind y → EndsWell ys → EndsWell (behind_text (y ∷ ys))
ends-rest y ys (a_text s) ends = ends
ends-rest y ys (other z behind f after) ends =
    subst (λ (l : List Inline). EndsWell l) (sym (behind ys)) (ends-grown (y ∷ []) ys ends)

ends-word : (xs : List Inline) (w : Word) → EndsWell w → EndsWell (with_word xs w)
ends-word xs w (text_end [] b s e) = ends-text xs b s e
ends-word xs w (text_end (y ∷ ys) b s e) =
    let rest = ys ++ text (b ∷ s) ∷ [] in
    ends-grown (with_text_behind xs (space ∷ first_text (y ∷ rest))) (behind_text (y ∷ rest))
    (ends-rest y rest (kind_of y) (text_end ys b s e))
ends-word xs w (other_end [] x e f g) =
    ends-grown (with_text_behind xs (space ∷ first_text (x ∷ []))) (behind_text (x ∷ []))
    (subst (λ (l : List Inline). EndsWell l) (sym ((text-kind x (kind_of x) e).behind [])) (other_end [] x e f g))
ends-word xs w (other_end (y ∷ ys) x e f g) =
    let rest = ys ++ x ∷ [] in
    ends-grown (with_text_behind xs (space ∷ first_text (y ∷ rest))) (behind_text (y ∷ rest))
    (ends-rest y rest (kind_of y) (other_end ys x e f g))

begins-word : (xs : List Inline) (w : Word) → BeginsWell xs → BeginsWell (with_word xs w)
begins-word xs w (text_begin b s [] e) = text_begin b (s ++ space ∷ first_text w) (behind_text w) e
begins-word xs w (text_begin b s (y ∷ ys) e) =
    text_begin b s (with_text_behind (y ∷ ys) (space ∷ first_text w) ++ behind_text w) e
begins-word xs w (other_begin x [] e f) =
    subst (λ (l : List Inline). BeginsWell (l ++ behind_text w))
    (sym ((text-kind x (kind_of x) e).after (space ∷ first_text w)))
    (other_begin x (text (space ∷ first_text w) ∷ behind_text w) e f)
begins-word xs w (other_begin x (y ∷ ys) e f) =
    other_begin x (with_text_behind (y ∷ ys) (space ∷ first_text w) ++ behind_text w) e f

abbrev AllEnd : List Word → Type 0
AllEnd [] = Unit {0}
AllEnd (w ∷ ws) = EndsWell w × AllEnd ws

further-ends : (xs : List Inline) (ws : List Word) → EndsWell xs → AllEnd ws → EndsWell (further_words xs ws)
further-ends xs [] ends all = ends
further-ends xs (w ∷ ws) ends all = further-ends (with_word xs w) ws (ends-word xs w all.0) all.1

further-begins : (xs : List Inline) (ws : List Word) → BeginsWell xs → BeginsWell (further_words xs ws)
further-begins xs [] begins = begins
further-begins xs (w ∷ ws) begins = further-begins (with_word xs w) ws (begins-word xs w begins)

-- the words joined go on as the last of them
pub linked-joined : (xs ys : List Inline) (yss : List (List Inline)) → Linked (ys ∷ yss)
    → Linked (with_word xs ys ∷ yss)
linked-joined xs ys [] linked = tt
linked-joined xs ys (z ∷ yss) linked = ((ends-word xs ys linked.0.0, linked.0.1), linked.1)

-- ---- runs of words

linked-back : (xs ys : List (List Inline)) → Linked (xs ++ ys) → Linked ys
linked-back [] ys h = h
linked-back (x ∷ []) [] h = tt
linked-back (x ∷ []) (y ∷ ys) h = h.1
linked-back (x ∷ z ∷ xs) ys h = linked-back (z ∷ xs) ys h.1

linked-seam : (w : Word) (ws : List Word) (v : Word) (vs : List Word) → Linked ((w ∷ ws) ++ v ∷ vs)
    → AllEnd (w ∷ ws) × BeginsWell v
linked-seam w [] v vs h = ((h.0.0, tt), h.0.1)
linked-seam w (x ∷ ws) v vs h = let rest = linked-seam x ws v vs h.1 in ((h.0.0, rest.0), rest.1)

pub runs-linked : (parts : List (List (List Word))) → RunsHave parts → Linked (together (together parts))
    → Linked (map (λ units. put_together (together units)) parts)
runs-linked parts no_runs linked = tt
runs-linked parts (run_of w ws units rest no_runs) linked = tt
runs-linked parts (run_of w ws units rest (run_of v vs others more have)) linked =
    let next : List (List (List Word)) = ((v ∷ vs) ∷ others) ∷ more in
    let run = w ∷ (ws ++ together units) in
    let go_on = v ∷ (vs ++ together (others ++ together more)) in
    let apart : Linked (run ++ go_on) =
    subst (λ (l : List Word). Linked l) (together-append ((w ∷ ws) ∷ units) (together next)) linked in
    let seam = linked-seam w (ws ++ together units) v (vs ++ together (others ++ together more)) apart in (
      (
        further-ends w (ws ++ together units) seam.0.0 seam.0.1,
        further-begins v (vs ++ together others) seam.1,
      ),
      runs-linked next (run_of v vs others more have) (linked-back run go_on apart),
    )
