-- The language of a code block: the first name that there is.
use Rattle.std.proofs.Common.{◌≡◌, ℕ, ◌+◌, ◌<◌, Bool, true, false, cond, not, ◌||◌, List, [], ◌∷◌, ◌++◌}
use Rattle.std.proofs.Common.{length, get_or, drop, map, refl, sym, ap, ◌∙◌, arith, Option, None, Some, codes}
use Rattle.std.proofs.Common.{MatchOption, ◌≢◌, ◌&&◌, subst}
use Rattle.std.proofs.lemmas.Bool.{false≢true}
use Rattle.std.specs.Prelude.{filter, flat_map, ◌==◌}
use Rattle.std.specs.Option.{option_or}
use Rattle.std.specs.List.{list_any, list_all}
use Rattle.std.proofs.lemmas.List.{drop_at, append-nil}
use Rattle.std.proofs.lemmas.Slice.Eq.{starts_is}
use Rattle.std.proofs.lemmas.Bool.Decides.{Decides-eqb, nat_tests}
use Rattle.std.specs.Borrow.{Bor}
use Rattle.std.specs.Str.{bytes_eq}
use Rattle.std.specs.Str.Pattern.{FindsTextPrefix, StripsPrefix}
use Rattle.htmd_lexical.proofs.BytesLemmas.{same_bytes}
use Rattle.htmd_shown.specs.Roles.{is_among}
use Rattle.htmd_lexical.proofs.Cases.{test}
use Rattle.htmd_lexical.specs.AttributePairs.{AttributePair}
use Rattle.htmd_shown.specs.Attributes.{is_filled}
use Rattle.htmd_shown.specs.SimpleTrees.{Simple, text, image, formula, embedded, anchor, element}
use Rattle.htmd_flow.specs.Languages.{name_if, first_name, begins_with, rest_of, after_beginning, prefixed}
use Rattle.htmd_flow.specs.Languages.{own_beginnings, named, data_of, own_languages, is_code, is_no_text, if_code}
use Rattle.htmd_flow.specs.Languages.{only_code, languages, is_name, named_by, named_words, brush, no_language, no_languages}
use Rattle.htmd_flow.specs.Languages.{first_only, up_to_semicolon, up_to_semicolons}
use Rattle.htmd_flow.specs.declared.language.Next.{Next}
use Rattle.htmd_flow.specs.declared.language.Next.TheVariants as next
use Rattle.htmd_flow.specs.LanguageViews.{first_of, code_attributes, attributes_if_code, if_last, code_among}
use Rattle.htmd_flow.specs.LanguageViews.{expected, brushed, next_after, pending, is_language}
use Rattle.htmd_flow.proofs.ListsLemmas.{map_at}
use Rattle.htmd_flow.proofs.LoopsLemmas.{at_default}

-- ---- the first name

pub or_none : {A : Type 0} (a : Option A) → option_or a None ≡ a
or_none None = refl
or_none (Some x) = refl

pub or_or : {A : Type 0} (a b c : Option A) → option_or (option_or a b) c ≡ option_or a (option_or b c)
or_or None b c = refl
or_or (Some x) b c = refl

pub first_of_one : (s : List ℕ) → first_name (s ∷ []) ≡ name_if s
first_of_one s = or_none (name_if s)

pub first_of_two : (xs ys : List (List ℕ)) → first_name (xs ++ ys) ≡ option_or (first_name xs) (first_name ys)
first_of_two [] ys = refl
first_of_two (x ∷ xs) ys =
    ap (option_or (name_if x)) (first_of_two xs ys) ∙ sym (or_or (name_if x) (first_name xs) (first_name ys))

pub first_of_three : (xs ys zs : List (List ℕ))
    → first_name (xs ++ ys ++ zs) ≡ option_or (option_or (first_name xs) (first_name ys)) (first_name zs)
first_of_three xs ys zs =
    first_of_two (xs ++ ys) zs ∙ ap (λ o. option_or o (first_name zs)) (first_of_two xs ys)

-- ---- of elements near

pub near_one : (g : List AttributePair → List (List ℕ)) (a : List AttributePair)
    → first_name (flat_map g (a ∷ [])) ≡ first_name (g a)
near_one g a = ap first_name (append-nil (g a))

pub near_two : (g : List AttributePair → List (List ℕ)) (a b : List AttributePair)
    → first_name (flat_map g (a ∷ b ∷ [])) ≡ option_or (first_name (g a)) (first_name (g b))
near_two g a b =
    first_of_two (g a) (flat_map g (b ∷ [])) ∙ ap (option_or (first_name (g a))) (near_one g b)

pub near_three : (g : List AttributePair → List (List ℕ)) (a b c : List AttributePair)
    → first_name (flat_map g (a ∷ b ∷ c ∷ []))
    ≡ option_or (option_or (first_name (g a)) (first_name (g b))) (first_name (g c))
near_three g a b c =
    first_of_two (g a) (flat_map g (b ∷ c ∷ [])) ∙ ap (option_or (first_name (g a))) (near_two g b c)
    ∙ sym (or_or (first_name (g a)) (first_name (g b)) (first_name (g c)))

-- ---- of the code itself

both_if : (g : List AttributePair → List (List ℕ)) (own attributes : List AttributePair) (b : Bool)
    → first_name (g []) ≡ None
    → first_name (flat_map g (cond b (attributes ∷ []) [] ++ own ∷ []))
    ≡ option_or (first_name (g (first_of (cond b (attributes ∷ []) [])))) (first_name (g own))
both_if g own attributes true none = near_two g attributes own
both_if g own attributes false none =
    near_one g own ∙ sym (ap (λ n. option_or n (first_name (g own))) none)

-- by the first of these, if there is one, and by its own
both : (g : List AttributePair → List (List ℕ)) (own : List AttributePair) (ts : List Simple)
    → first_name (g []) ≡ None
    → first_name (flat_map g (if_code ts ++ own ∷ []))
    ≡ option_or (first_name (g (first_of (if_code ts)))) (first_name (g own))
both g own [] none = near_one g own ∙ sym (ap (λ n. option_or n (first_name (g own))) none)
both g own (text s ∷ []) none =
    near_one g own ∙ sym (ap (λ n. option_or n (first_name (g own))) none)
both g own (text s ∷ u ∷ ts) none =
    near_one g own ∙ sym (ap (λ n. option_or n (first_name (g own))) none)
both g own (image address attributes ∷ []) none =
    near_one g own ∙ sym (ap (λ n. option_or n (first_name (g own))) none)
both g own (image address attributes ∷ u ∷ ts) none =
    near_one g own ∙ sym (ap (λ n. option_or n (first_name (g own))) none)
both g own (formula tex is_alone attributes ∷ []) none =
    near_one g own ∙ sym (ap (λ n. option_or n (first_name (g own))) none)
both g own (formula tex is_alone attributes ∷ u ∷ ts) none =
    near_one g own ∙ sym (ap (λ n. option_or n (first_name (g own))) none)
both g own (embedded id address title attributes anchors ∷ []) none =
    near_one g own ∙ sym (ap (λ n. option_or n (first_name (g own))) none)
both g own (embedded id address title attributes anchors ∷ u ∷ ts) none =
    near_one g own ∙ sym (ap (λ n. option_or n (first_name (g own))) none)
both g own (anchor id ∷ []) none =
    near_one g own ∙ sym (ap (λ n. option_or n (first_name (g own))) none)
both g own (anchor id ∷ u ∷ ts) none =
    near_one g own ∙ sym (ap (λ n. option_or n (first_name (g own))) none)
both g own (element id role facts attributes content ∷ []) none = both_if g own attributes (is_code role) none
both g own (element id role facts attributes content ∷ u ∷ ts) none =
    near_one g own ∙ sym (ap (λ n. option_or n (first_name (g own))) none)

pub own_first : (ts : List Simple) (own : List AttributePair)
    → first_name (own_languages (only_code ts ++ own ∷ []))
    ≡ option_or
    (option_or (first_name (prefixed own_beginnings (code_attributes ts))) (first_name (prefixed own_beginnings own)))
    (option_or
    (option_or (first_name (named (code_attributes ts))) (first_name (named own)))
    (option_or (first_name (data_of (code_attributes ts))) (first_name (data_of own))))
own_first ts own =
    let all = only_code ts ++ own ∷ [] in
    let words = option_or (first_name (named (code_attributes ts))) (first_name (named own)) in
    let given = option_or (first_name (data_of (code_attributes ts))) (first_name (data_of own)) in
    let first = first_name (flat_map (prefixed own_beginnings) all) in
    first_of_three (flat_map (prefixed own_beginnings) all) (flat_map named all) (flat_map data_of all)
    ∙ or_or first (first_name (flat_map named all)) (first_name (flat_map data_of all))
    ∙ ap (λ n. option_or first (option_or n (first_name (flat_map data_of all))))
    (both named own (filter is_no_text ts) refl)
    ∙ ap (λ n. option_or first (option_or words n)) (both data_of own (filter is_no_text ts) refl)
    ∙ ap (λ n. option_or n (option_or words given)) (both (prefixed own_beginnings) own (filter is_no_text ts) refl)

-- ---- the only node

pub code_text : (is_first : Bool) (own : List AttributePair) (t : Simple) (ts : List Simple) → is_no_text t ≡ false
    → code_among is_first own (t ∷ ts) ≡ code_among is_first own ts
code_text true own t ts e =
    ap (λ b. first_of (if_code (cond b (t ∷ filter is_no_text ts) (filter is_no_text ts)))) e
code_text false own t ts e = ap (λ b. if_last own (cond b (t ∷ filter is_no_text ts) (filter is_no_text ts))) e

code_if : (attributes : List AttributePair) (b : Bool)
    → first_of (cond b (attributes ∷ []) []) ≡ cond b attributes []
code_if attributes true = refl
code_if attributes false = refl

code_alone : (t : Simple) (rest : List Simple)
    → first_of (if_code (t ∷ rest)) ≡ if_last (attributes_if_code t) rest
code_alone (text s) [] = refl
code_alone (image address attributes) [] = refl
code_alone (formula tex is_alone attributes) [] = refl
code_alone (embedded id address title attributes anchors) [] = refl
code_alone (anchor id) [] = refl
code_alone (element id role facts attributes content) [] = code_if attributes (is_code role)
code_alone (text s) (u ∷ rest) = refl
code_alone (image address attributes) (u ∷ rest) = refl
code_alone (formula tex is_alone attributes) (u ∷ rest) = refl
code_alone (embedded id address title attributes anchors) (u ∷ rest) = refl
code_alone (anchor id) (u ∷ rest) = refl
code_alone (element id role facts attributes content) (u ∷ rest) = refl

pub code_first : (own : List AttributePair) (t : Simple) (ts : List Simple) → is_no_text t ≡ true
    → code_among true own (t ∷ ts) ≡ code_among false (attributes_if_code t) ts
code_first own t ts e =
    ap (λ b. first_of (if_code (cond b (t ∷ filter is_no_text ts) (filter is_no_text ts)))) e
    ∙ code_alone t (filter is_no_text ts)

pub code_more : (own : List AttributePair) (t : Simple) (ts : List Simple) → is_no_text t ≡ true
    → code_among false own (t ∷ ts) ≡ []
code_more own t ts e = ap (λ b. if_last own (cond b (t ∷ filter is_no_text ts) (filter is_no_text ts))) e

-- ---- beginnings

pub begins : (p s x : List ℕ) → s ≡ p ++ x → x ≡ rest_of p s
begins p s x e =
    sym (drop_at p x (length p) refl) ∙ sym (ap (drop (length p)) e)
    ∙ sym (ap (λ b. cond b (drop (length p) s) []) ((starts_is Decides-eqb s p _ refl).1 x e))

pub begins_not : (p s : List ℕ) → ((rest : List ℕ) → s ≢ p ++ rest) → [] ≡ rest_of p s
begins_not p s h = test (begins_with p s)
    (λ e. absurd (h (drop (length p) s) ((starts_is Decides-eqb s p _ refl).0 e)))
    (λ e. sym (ap (λ b. cond b (drop (length p) s) []) e))

pub first_after : (b : List ℕ) (bs : List (List ℕ)) (w r : List ℕ) → r ≡ rest_of b w → is_filled r ≡ true
    → name_if r ≡ first_name (after_beginning (b ∷ bs) w)
first_after b bs w r e h =
    sym (first_of_one r)
    ∙ ap (λ x. first_name (x ∷ [])) e
    ∙ sym (ap (λ c. first_name (cond c (rest_of b w ∷ []) (after_beginning bs w))) (sym (ap is_filled e) ∙ h))

pub next_beginning : (b : List ℕ) (bs : List (List ℕ)) (w r : List ℕ) → r ≡ rest_of b w
    → is_filled r ≡ false
    → after_beginning (b ∷ bs) w ≡ after_beginning bs w
next_beginning b bs w r e h =
    ap (λ c. cond c (rest_of b w ∷ []) (after_beginning bs w)) (sym (ap is_filled e) ∙ h)

-- what `strip_prefix` says of a text
pub strip_text : (p s : List ℕ) (r : Option (Bor (List ℕ)))
    → MatchOption r (FindsTextPrefix p s None) (λ x. StripsPrefix (FindsTextPrefix p) s x.now)
    → MatchOption r ((rest : List ℕ) → s ≢ p ++ rest) (λ x. s ≡ p ++ x.now)
strip_text p s None h = λ rest e. h rest e
strip_text p s (Some x) (n, k, d, l) = k.1 ∙ ap (λ (t : List ℕ). p ++ t) (sym d)

-- ---- words that are languages

one_of : (names : List (List ℕ)) (w : List ℕ) → list_all is_name names ≡ true → is_among names w ≡ true
    → is_name w ≡ true
one_of [] w h e = (cc)
one_of (n ∷ names) w h e = test (bytes_eq n w)
    (λ s. sym (ap is_name (same_bytes n w s)) ∙ front (is_name n) h)
    (λ o. one_of names w (behind (is_name n) h) (sym (ap (λ b. b || is_among names w) o) ∙ e))
  where
    front : (b : Bool) → (b && list_all is_name names) ≡ true → b ≡ true
    front true q = refl
    front false q = (cc)

    behind : (b : Bool) → (b && list_all is_name names) ≡ true → list_all is_name names ≡ true
    behind true q = q
    behind false q = (cc)

pub known_name : (w : List ℕ) (ws : List (List ℕ)) → is_among languages w ≡ true
    → first_name (filter (is_among languages) (w ∷ ws)) ≡ Some w
known_name w ws e =
    ap (λ b. first_name (cond b (w ∷ filter (is_among languages) ws) (filter (is_among languages) ws))) e
    ∙ ap (λ b. option_or (cond b (Some w) None) (first_name (filter (is_among languages) ws)))
    (one_of languages w refl e)

pub known_other : (w : List ℕ) (ws : List (List ℕ)) → is_among languages w ≡ false
    → filter (is_among languages) (w ∷ ws) ≡ filter (is_among languages) ws
known_other w ws e = ap (λ b. cond b (w ∷ filter (is_among languages) ws) (filter (is_among languages) ws)) e

-- ---- words of highlighters

abbrev brush_word : List ℕ
brush_word = codes "brush:"

abbrev writers : List (List ℕ)
writers = codes "sourceCode" ∷ codes "hljs" ∷ []

abbrev next_language : List (List ℕ) → List (List ℕ)
next_language ws = first_only (filter (λ w. not (no_language w)) ws)

-- a word that is one of two
writer_cases : (P : List ℕ → Type 0) (w : List ℕ) → is_among writers w ≡ true → P (codes "sourceCode")
    → P (codes "hljs") → P w
writer_cases P w e p q = test (bytes_eq (codes "sourceCode") w)
    (λ s. subst P (same_bytes (codes "sourceCode") w s) p)
    (λ o. test (bytes_eq (codes "hljs") w)
    (λ s. subst P (same_bytes (codes "hljs") w s) q)
    (λ n. absurd (false≢true (sym
    (ap (λ b. b || (bytes_eq (codes "hljs") w || false)) o ∙ ap (λ b. b || false) n)
    ∙ e))))

begins_no_writer : (w : List ℕ) → begins_with brush_word w ≡ true → is_among writers w ≡ false
begins_no_writer w b = test (is_among writers w)
    (λ e. absurd (false≢true (writer_cases (λ v. begins_with brush_word v ≡ true → false ≡ true) w e
    (λ h. h) (λ h. h) b)))
    (λ e. e)

-- what follows of a word by what is known of it
named_brush : (w : List ℕ) (ws : List (List ℕ)) → begins_with brush_word w ≡ true
    → named_by w ws ≡ brush (drop 6 w) ws
named_brush w ws e = ap (λ b. cond b (brush (drop 6 w) ws) (cond (is_among writers w) (next_language ws) [])) e

named_else : (w : List ℕ) (ws : List (List ℕ)) → begins_with brush_word w ≡ false
    → named_by w ws ≡ cond (is_among writers w) (next_language ws) []
named_else w ws e = ap (λ b. cond b (brush (drop 6 w) ws) (cond (is_among writers w) (next_language ws) [])) e

no_brush : (w : List ℕ) → begins_with brush_word w ≡ false → first_name (brushed w) ≡ None
no_brush w e = ap (λ b. first_name (up_to_semicolon (cond b (drop 6 w) []) ∷ [])) e

next_other : (n : Next) (w : List ℕ) → bytes_eq w brush_word ≡ false
    → next_after n w ≡ cond (is_among writers w) next.Language
    (cond (is_language n && no_language w) next.Language next.Nothing)
next_other n w e =
    ap (λ b. cond b next.Brush (cond (is_among writers w) next.Language
    (cond (is_language n && no_language w) next.Language next.Nothing))) e

not_brush : (w : List ℕ) → begins_with brush_word w ≡ false → bytes_eq w brush_word ≡ false
not_brush w e = test (bytes_eq w brush_word)
    (λ s. absurd (false≢true (sym e ∙ ap (begins_with brush_word) (same_bytes w brush_word s))))
    (λ o. o)

filled_more : (b : ℕ) (s : List ℕ) → is_filled (b ∷ s) ≡ true
filled_more b s = grind (arith, nat_tests)

empty_of : (s : List ℕ) → is_filled s ≡ false → s ≡ []
empty_of [] h = refl
empty_of (b ∷ s) h = absurd (false≢true (sym h ∙ filled_more b s))

abbrev Steps : Next → List ℕ → Type 0
Steps n w = (ws rest : List (List ℕ)) → first_name (named_by w ws ++ rest)
    ≡ option_or (first_name (brushed w)) (first_name (pending (next_after n w) ws ++ rest))

-- after a word that says nothing of this one
step_alone : (n : Next) (w : List ℕ) → (is_language n && no_language w) ≡ false → Steps n w
step_alone n w plain ws rest = test (begins_with brush_word w)
    (λ e. test (is_filled (drop 6 w))
    (λ f.
    let no : bytes_eq w brush_word ≡ false = test (bytes_eq w brush_word)
    (λ s. absurd (false≢true (sym (ap (λ v. is_filled (drop 6 v)) (same_bytes w brush_word s)) ∙ f))) (λ o. o) in
    let nothing : next_after n w ≡ next.Nothing =
    next_other n w no
    ∙ ap (λ b. cond b next.Language (cond (is_language n && no_language w) next.Language next.Nothing))
    (begins_no_writer w e)
    ∙ ap (λ b. cond b next.Language next.Nothing) plain in
    ap (λ xs. first_name (xs ++ rest)) (named_brush w ws e
    ∙ ap (λ b. cond b (up_to_semicolon (drop 6 w) ∷ []) (up_to_semicolons (first_only ws))) f)
    ∙ sym (ap (λ n. option_or (first_name (brushed w)) (first_name (pending n ws ++ rest))) nothing
    ∙ ap (λ b. option_or (first_name (up_to_semicolon (cond b (drop 6 w) []) ∷ [])) (first_name rest)) e
    ∙ ap (λ a. option_or a (first_name rest)) (first_of_one (up_to_semicolon (drop 6 w)))))
    (λ f.
    let is : brush_word ≡ w =
    sym ((starts_is Decides-eqb w brush_word _ refl).0 e ∙ ap (λ x. brush_word ++ x) (empty_of (drop 6 w) f)) in
    subst (λ v. first_name (named_by v ws ++ rest)
    ≡ option_or (first_name (brushed v)) (first_name (pending (next_after n v) ws ++ rest))) is refl))
    (λ e. test (is_among writers w)
    (λ a.
    let language : next_after n w ≡ next.Language =
    next_other n w (not_brush w e)
    ∙ ap (λ b. cond b next.Language (cond (is_language n && no_language w) next.Language next.Nothing)) a in
    ap (λ xs. first_name (xs ++ rest)) (named_else w ws e ∙ ap (λ b. cond b (next_language ws) []) a)
    ∙ sym (ap (λ n. option_or (first_name (brushed w)) (first_name (pending n ws ++ rest))) language
    ∙ ap (λ o. option_or o (first_name (next_language ws ++ rest))) (no_brush w e)))
    (λ a.
    let nothing : next_after n w ≡ next.Nothing =
    next_other n w (not_brush w e)
    ∙ ap (λ b. cond b next.Language (cond (is_language n && no_language w) next.Language next.Nothing)) a
    ∙ ap (λ b. cond b next.Language next.Nothing) plain in
    ap (λ xs. first_name (xs ++ rest)) (named_else w ws e ∙ ap (λ b. cond b (next_language ws) []) a)
    ∙ sym (ap (λ n. option_or (first_name (brushed w)) (first_name (pending n ws ++ rest))) nothing
    ∙ ap (λ o. option_or o (first_name rest)) (no_brush w e))))

or_again : {A : Type 0} (a b : Option A) → option_or a (option_or a b) ≡ option_or a b
or_again None b = refl
or_again (Some x) b = refl

-- a word of a highlighter doesn't begin with `brush:`
none_begins : (w : List ℕ) (names : List (List ℕ)) → list_any (begins_with brush_word) names ≡ false
    → begins_with brush_word w ≡ true → is_among names w ≡ false
none_begins w [] h e = refl
none_begins w (n ∷ names) h e =
    ap (λ b. b || is_among names w) (test (bytes_eq n w)
    (λ s. absurd (false≢true (sym (front (begins_with brush_word n) h)
    ∙ ap (begins_with brush_word) (same_bytes n w s)
    ∙ e)))
    (λ o. o))
    ∙ none_begins w names (behind (begins_with brush_word n) h) e
  where
    front : (b : Bool) → (b || list_any (begins_with brush_word) names) ≡ false → b ≡ false
    front true q = q
    front false q = refl

    behind : (b : Bool) → (b || list_any (begins_with brush_word) names) ≡ false
        → list_any (begins_with brush_word) names ≡ false
    behind true q = absurd (false≢true (sym q))
    behind false q = q

no_language_begins : (w : List ℕ) → no_language w ≡ true → begins_with brush_word w ≡ false
no_language_begins w h = test (begins_with brush_word w)
    (λ e. absurd (false≢true (sym (none_begins w no_languages refl e) ∙ h)))
    (λ e. e)

-- a word of a highlighter after one that says that a language follows
step_past : (w : List ℕ) (ws rest : List (List ℕ)) → no_language w ≡ true
    → first_name (next_language ws ++ (named_by w ws ++ rest))
    ≡ option_or (first_name (brushed w)) (first_name (pending (next_after next.Language w) ws ++ rest))
step_past w ws rest h =
    let e = no_language_begins w h in
    let language : next_after next.Language w ≡ next.Language =
    next_other next.Language w (not_brush w e)
    ∙ ap (λ b. cond (is_among writers w) next.Language (cond b next.Language next.Nothing)) h
    ∙ either (is_among writers w) in
    first_of_two (next_language ws) (named_by w ws ++ rest)
    ∙ ap (λ xs. option_or (first_name (next_language ws)) (first_name (xs ++ rest))) (named_else w ws e)
    ∙ again (is_among writers w)
    ∙ sym (ap (λ n. option_or (first_name (brushed w)) (first_name (pending n ws ++ rest))) language
    ∙ ap (λ o. option_or o (first_name (next_language ws ++ rest))) (no_brush w e)
    ∙ first_of_two (next_language ws) rest)
  where
    either : (b : Bool) → cond b next.Language next.Language ≡ next.Language
    either true = refl
    either false = refl

    again : (b : Bool) → option_or (first_name (next_language ws)) (first_name (cond b (next_language ws) [] ++ rest))
        ≡ option_or (first_name (next_language ws)) (first_name rest)
    again true =
        ap (option_or (first_name (next_language ws))) (first_of_two (next_language ws) rest)
        ∙ or_again (first_name (next_language ws)) (first_name rest)
    again false = refl

pub named_step : (n : Next) (w : List ℕ) (ws : List (List ℕ))
    → first_name (pending n (w ∷ ws) ++ named_words (w ∷ ws))
    ≡ option_or (option_or (first_name (expected n w)) (first_name (brushed w)))
    (first_name (pending (next_after n w) ws ++ named_words ws))
named_step next.Nothing w ws = step_alone next.Nothing w refl ws (named_words ws)
named_step next.Brush w ws =
    ap (option_or (name_if (up_to_semicolon w))) (step_alone next.Brush w refl ws (named_words ws))
    ∙ sym (or_or (name_if (up_to_semicolon w)) (first_name (brushed w)) (first_name
    (pending (next_after next.Brush w) ws ++ named_words ws)))
    ∙ sym (ap (λ o. option_or (option_or o (first_name (brushed w)))
    (first_name (pending (next_after next.Brush w) ws ++ named_words ws))) (first_of_one (up_to_semicolon w)))
named_step next.Language w ws = test (no_language w)
    (λ h.
    ap (λ b. first_name (first_only (cond (not b) (w ∷ filter (λ w. not (no_language w)) ws)
    (filter (λ w. not (no_language w)) ws)) ++ (named_by w ws ++ named_words ws))) h
    ∙ step_past w ws (named_words ws) h
    ∙ sym (ap (λ b. option_or (option_or (first_name (cond b [] (w ∷ []))) (first_name (brushed w)))
    (first_name (pending (next_after next.Language w) ws ++ named_words ws))) h))
    (λ h.
    ap (λ b. first_name (first_only (cond (not b) (w ∷ filter (λ w. not (no_language w)) ws)
    (filter (λ w. not (no_language w)) ws)) ++ (named_by w ws ++ named_words ws))) h
    ∙ ap (option_or (name_if w)) (step_alone next.Language w h ws (named_words ws))
    ∙ sym (or_or (name_if w) (first_name (brushed w)) (first_name
    (pending (next_after next.Language w) ws ++ named_words ws)))
    ∙ sym (ap (λ o. option_or (option_or o (first_name (brushed w)))
    (first_name (pending (next_after next.Language w) ws ++ named_words ws))) (first_of_one w))
    ∙ sym (ap (λ b. option_or (option_or (first_name (cond b [] (w ∷ []))) (first_name (brushed w)))
    (first_name (pending (next_after next.Language w) ws ++ named_words ws))) h))

-- ---- loops

pub filled_if : (s : List ℕ) (b : Bool) → b ≡ (length s == 0) → b ≡ false → is_filled s ≡ true
filled_if [] b e f = absurd (false≢true (sym f ∙ e))
filled_if (x ∷ s) b e f = filled_more x s

pub empty_if : (s : List ℕ) (b : Bool) → b ≡ (length s == 0) → b ≡ true → is_filled s ≡ false
empty_if [] b e t = refl
empty_if (x ∷ s) b e t = absurd (false≢true (sym (more x s) ∙ sym e ∙ t))
  where
    more : (x : ℕ) (s : List ℕ) → (length (x ∷ s) == 0) ≡ false
    more x s = grind (arith, nat_tests)

pub code_end : (is_first : Bool) (own : List AttributePair) → cond is_first own [] ≡ []
    → own ≡ code_among is_first own []
code_end true own n = n
code_end false own n = refl

-- a beginning after which something follows, or not
pub after_found : (bs : List (Bor (List ℕ))) (i : ℕ) (d : Bor (List ℕ)) (w r : List ℕ) (b : Bool)
    (whole : Option (List ℕ)) → i < length bs → r ≡ rest_of (get_or bs i d).now w → b ≡ (length r == 0)
    → b ≡ false
    → first_name (after_beginning (map (λ x. x.now) (drop i bs)) w) ≡ whole → name_if r ≡ whole
after_found bs i d w r b whole l e h f all =
    first_after (get_or bs i d).now (map (λ x. x.now) (drop (i + 1) bs)) w r e (filled_if r b h f)
    ∙ sym (ap (λ xs. first_name (after_beginning xs w))
    (map_at (λ x. x.now) bs i (get_or bs i d) l (at_default bs i d l)))
    ∙ all

pub after_passed : (bs : List (Bor (List ℕ))) (i : ℕ) (d : Bor (List ℕ)) (w r : List ℕ) (b : Bool)
    (whole : Option (List ℕ)) → i < length bs → r ≡ rest_of (get_or bs i d).now w → b ≡ (length r == 0)
    → b ≡ true
    → first_name (after_beginning (map (λ x. x.now) (drop i bs)) w) ≡ whole
    → first_name (after_beginning (map (λ x. x.now) (drop (i + 1) bs)) w) ≡ whole
after_passed bs i d w r b whole l e h t all =
    sym (ap (λ xs. first_name (after_beginning xs w))
    (map_at (λ x. x.now) bs i (get_or bs i d) l (at_default bs i d l))
    ∙ ap first_name (next_beginning (get_or bs i d).now (map (λ x. x.now) (drop (i + 1) bs)) w r e
    (empty_if r b h t)))
    ∙ all

-- what one, two or three elements say
pub ruleset near_steps = (near_one, near_two, near_three)
