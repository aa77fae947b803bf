-- A code span is read as its code: its grave accents are matched by its own.
use Rattle.std.proofs.Common.{◌≡◌, ◌∙◌, refl, ap, sym, ℕ, zero, suc, ◌+◌, ◌-◌, Bool, true, false, List, [], ◌∷◌, ◌++◌}
use Rattle.std.proofs.Common.{Some, arith, subst, length}
use Rattle.std.specs.Prelude.{not, ◌&&◌, ◌||◌, ◌==◌, if◌then◌else◌, slice_index, reverse, drop}
use Rattle.std.specs.List.{list_all, list_any, onto_first}
use Rattle.std.proofs.lemmas.Bool.{eqb-true, eqb-false, eq-eqb, ne_eqb, and_parts, not-true, not-false, or_parts}
use Rattle.std.proofs.lemmas.Bool.{and_from, and_right}
use Rattle.std.proofs.lemmas.List.{append_assoc, append-nil, length-append, length-replicate, reverse-append}
use Rattle.std.proofs.lemmas.List.{reverse-reverse}
use Rattle.htmd_lexical.specs.CharacterClasses.{first_is, leading_run, behind_run}
use Rattle.htmd_markdown.specs.Runs.{runs, has_run}
use Rattle.htmd_markdown.specs.CodeSpans.{delimited_text, meets_delimiter}
use Rattle.htmd_commonmark_reading.specs.Markup.{no_inlines, code}
use Rattle.htmd_commonmark_reading.specs.DelimiterRuns.{finished}
use Rattle.htmd_commonmark_reading.specs.InlineTokens.{is_grave_accent, graves, before_graves, in_one_line, code_text}
use Rattle.htmd_commonmark_reading.specs.InlineTokens.{is_space, without_last}
use Rattle.htmd_commonmark_reading.specs.Brackets.{References, and_tokens, scanned, code_with, code_step}
use Rattle.htmd_document.specs.NormalInlines.{is_line_byte}
use Rattle.htmd_law_inlines.proofs.Pieces.{IsRead, steps_to, pushed}
use Rattle.htmd_law_inlines.proofs.TextPieces.{skips, test, differs}

-- ---- no row of so many

-- no row of exactly so many grave accents is in the text, before which so many stand
abbrev pub lacks : ℕ → ℕ → List ℕ → Bool
lacks n k [] = not (k == n)
lacks n k (c ∷ s) = if c == 96 then lacks n (suc k) s else not (k == n) && lacks n 0 s

abbrev run_is : ℕ → List ℕ → Bool
run_is n run = length run == n

-- some run has so many, where the first has some more
abbrev any_plus : ℕ → ℕ → List (List ℕ) → Bool
any_plus n k [] = k == n
any_plus n k (r ∷ rs) = (k + length r == n) || list_any (λ run. length run == n) rs

or_none : (x : Bool) → (x || false) ≡ x
or_none true = refl
or_none false = refl

either : (x y : Bool) → (x || not y) ≡ not (not x && y)
either true y = refl
either false y = refl

not_not : (x : Bool) → not (not x) ≡ x
not_not true = refl
not_not false = refl

plus_onto : (n k c : ℕ) (rs : List (List ℕ)) → any_plus n k (onto_first c rs) ≡ any_plus n (suc k) rs
plus_onto n k c [] =
    let e : k + 1 ≡ suc k = omega arith in or_none (k + 1 == n) ∙ ap (λ m. m == n) e
plus_onto n k c (r ∷ rs) =
    let e : k + suc (length r) ≡ suc k + length r = omega arith in
    ap (λ m. (m == n) || list_any (λ run. length run == n) rs) e

plus_none : (n : ℕ) (rs : List (List ℕ)) → (0 == n) ≡ false → list_any (λ run. length run == n) rs
    ≡ any_plus n 0 rs
plus_none n [] h = sym h
plus_none n (r ∷ rs) h =
    let e : length r ≡ 0 + length r = omega arith in
    ap (λ m. (m == n) || list_any (λ run. length run == n) rs) e

lacks_any : (n k : ℕ) (s : List ℕ) → (0 == n) ≡ false → any_plus n k (runs 96 s) ≡ not (lacks n k s)
lacks_any n k [] h =
    let e : k + 0 ≡ k = omega arith in
    or_none (k + 0 == n) ∙ ap (λ m. m == n) e ∙ sym (not_not (k == n))
lacks_any n k (c ∷ s) h =
    test (c == 96)
    (λ e. rw e (plus_onto n k c (runs 96 s) ∙ lacks_any n (suc k) s h))
    (λ e. rw e
    (let i : k + 0 ≡ k = omega arith in
    ap (λ m. (m == n) || list_any (λ run. length run == n) (runs 96 s)) i
    ∙ ap (λ t. (k == n) || t) (plus_none n (runs 96 s) h ∙ lacks_any n 0 s h) ∙ either (k == n) (lacks n 0 s)))

-- ---- what is before the closing row

ends_row : (n j m : ℕ) (ks : List ℕ) → j + m ≡ n → first_is 96 ks ≡ false
    → before_graves n j (graves m ++ ks) ≡ Some []
ends_row n j zero [] e h = rw (eq-eqb n j (omega arith)) refl
ends_row n j zero (d ∷ ks) e h = rw (h, eq-eqb n j (omega arith)) refl
ends_row n j (suc m) ks e h = ends_row n (suc j) m ks (omega arith) h

-- the text doesn't end with a grave accent
abbrev pub ends_apart : ℕ → List ℕ → Bool
ends_apart k [] = k == 0
ends_apart k (c ∷ s) = if c == 96 then ends_apart (suc k) s else ends_apart 0 s

graves_more : (k : ℕ) (s : List ℕ) → graves (suc k) ++ s ≡ graves k ++ (96 ∷ s)
graves_more zero s = refl
graves_more (suc k) s = ap (λ l. 96 ∷ l) (graves_more k s)

pub code_before : (n k : ℕ) (c ks : List ℕ) → lacks n k c ≡ true → ends_apart k c ≡ true
    → first_is 96 ks ≡ false
    → before_graves n k (c ++ (graves n ++ ks)) ≡ Some (graves k ++ c)
code_before n k [] ks l w h = rw (eqb-true k 0 w) (ends_row n 0 n ks (omega arith) h)
code_before n k (d ∷ c) ks l w h =
    test (d == 96)
    (λ e. rw (e, code_before n (suc k) c ks (rw e at l) (rw e at w) h)
    (ap (λ x. Some x) (graves_more k c ∙ ap (λ x. graves k ++ (x ∷ c)) (sym (eqb-true d 96 e)))))
    (λ e. let p = and_parts (not (k == n)) (lacks n 0 c) (rw e at l) in
    let q : (n == k) ≡ false =
    ne_eqb n k (λ x. let y = eqb-false k n (not-true (k == n) p.0) in absurd (y (sym x))) in
    rw (e, q, code_before n 0 c ks p.1 (rw e at w) h) refl)

-- ---- the span

graves_length : (n : ℕ) (ks : List ℕ) → first_is 96 ks ≡ false
    → length (leading_run is_grave_accent (graves n ++ ks)) ≡ n
graves_length zero [] h = refl
graves_length zero (d ∷ ks) h = rw h refl
graves_length (suc n) ks h = ap suc (graves_length n ks h)

behind_graves : (n : ℕ) (ks : List ℕ) → first_is 96 ks ≡ false
    → behind_run is_grave_accent (graves n ++ ks) ≡ ks
behind_graves zero [] h = refl
behind_graves zero (d ∷ ks) h = rw h refl
behind_graves (suc n) ks h = behind_graves n ks h

first_of_two : (c d ks : List ℕ) → first_is 96 c ≡ false
    → (first_is 96 d ≡ false → first_is 96 (c ++ d) ≡ false)
first_of_two [] d ks h = λ k. k
first_of_two (x ∷ c) d ks h = λ k. h

-- a row of so many and one more on both sides of a text
pub span_read : (refs : References) (in_link : Bool) (before ks : List ℕ) (n x : ℕ) (c s : List ℕ)
    → lacks (suc n) 0 (x ∷ c) ≡ true → ends_apart 0 (x ∷ c) ≡ true → (x == 96) ≡ false
    → first_is 96 ks ≡ false
    → code_text (in_one_line (x ∷ c)) ≡ s
    → IsRead refs in_link before (graves (suc n) ++ ((x ∷ c) ++ graves (suc n))) ks (code s no_inlines)
span_read refs in_link before ks n x c s l w f h t =
    let inner = (x ∷ c) ++ graves (suc n) in
    let rest = (x ∷ c) ++ (graves (suc n) ++ ks) in
    let whole : (graves n ++ inner) ++ ks ≡ graves n ++ rest =
    append_assoc (graves n) inner ks ∙ ap (λ l. graves n ++ l) (append_assoc (x ∷ c) (graves (suc n)) ks) in
    record {
      tokens = finished (code s no_inlines) ∷ [];
      scans = λ b v.
          steps_to refs 96 ((graves n ++ inner) ++ ks) before b (code_with b n (Some (x ∷ c)))
          (ap (code_step b) whole
          ∙ ap (λ m. code_with b m (before_graves (suc m) 0 (behind_run is_grave_accent (graves n ++ rest))))
          (graves_length n rest f)
          ∙ ap (λ r. code_with b n (before_graves (suc n) 0 r)) (behind_graves n rest f)
          ∙ ap (code_with b n) (code_before (suc n) 0 (x ∷ c) ks l w h))
          ∙ ap (λ m. scanned refs ((graves n ++ inner) ++ ks) m (96 ∷ before)
          (and_tokens b (finished (code (code_text (in_one_line (x ∷ c))) no_inlines) ∷ [])))
          (let a = length-append (graves n) inner in let d = length-append (x ∷ c) (graves (suc n)) in
          let i : length (graves n) ≡ n = length-replicate n 96 in
          let j : length (graves (suc n)) ≡ suc n = length-replicate (suc n) 96 in
          let k : n + length (x ∷ c) + suc n ≡ length (graves n ++ inner) = omega arith in k)
          ∙ skips refs (graves n ++ inner) ks (96 ∷ before)
          (and_tokens b (finished (code (code_text (in_one_line (x ∷ c))) no_inlines) ∷ []))
          ∙ ap (λ u. scanned refs ks 0 (pushed (graves (suc n) ++ inner) before)
          (and_tokens b (finished (code u no_inlines) ∷ []))) t;
      means = λ st. refl;
    }

-- ---- what is in the span

plain_line : (s : List ℕ) → list_all is_line_byte s ≡ true → in_one_line s ≡ s
plain_line [] h = refl
plain_line (c ∷ s) h =
    let p = and_parts (is_line_byte c) (list_all is_line_byte s) h in
    rw (differs is_line_byte c 10 p.0 refl, plain_line s p.1) refl

plain_push : (s : List ℕ) → list_all is_line_byte s ≡ true → list_all is_line_byte (s ++ (32 ∷ [])) ≡ true
plain_push [] h = refl
plain_push (c ∷ s) h =
    let p = and_parts (is_line_byte c) (list_all is_line_byte s) h in
    and_from (is_line_byte c) (list_all is_line_byte (s ++ (32 ∷ []))) p.0 (plain_push s p.1)

lacks_push : (n k : ℕ) (s : List ℕ) → (0 == n) ≡ false → lacks n k (s ++ (32 ∷ [])) ≡ lacks n k s
lacks_push n k [] h = rw h (test (k == n) (λ e. rw e refl) (λ e. rw e refl))
lacks_push n k (c ∷ s) h =
    test (c == 96) (λ e. rw e (lacks_push n (suc k) s h))
    (λ e. rw e (ap (λ t. not (k == n) && t) (lacks_push n 0 s h)))

apart_push : (k : ℕ) (s : List ℕ) → ends_apart k (s ++ (32 ∷ [])) ≡ true
apart_push k [] = refl
apart_push k (c ∷ s) = test (c == 96) (λ e. rw e (apart_push (suc k) s)) (λ e. rw e (apart_push 0 s))

-- the last character
abbrev last_of : ℕ → List ℕ → ℕ
last_of x [] = x
last_of x (y ∷ s) = last_of y s

last_index : (x : ℕ) (s : List ℕ) → slice_index (x ∷ s) (length (x ∷ s) - 1) ≡ last_of x s
last_index x [] = refl
last_index x (y ∷ s) =
    let place : length (x ∷ y ∷ s) - 1 ≡ suc (length (y ∷ s) - 1) = omega arith in
    ap (slice_index (x ∷ y ∷ s)) place ∙ last_index y s

apart_last : (k x : ℕ) (s : List ℕ) → (last_of x s == 96) ≡ false → ends_apart k (x ∷ s) ≡ true
apart_last k x [] h = rw h refl
apart_last k x (y ∷ s) h =
    test (x == 96) (λ e. rw e (apart_last (suc k) y s h)) (λ e. rw e (apart_last 0 y s h))

spaces_first : (x : ℕ) (s : List ℕ) → (x == 96) ≡ true → list_all is_space (x ∷ s) ≡ false
spaces_first x s h = rw (eqb-true x 96 h) refl

spaces_last : (x : ℕ) (s : List ℕ) → (last_of x s == 96) ≡ true → list_all is_space (x ∷ s) ≡ false
spaces_last x [] h = rw (eqb-true x 96 h) refl
spaces_last x (y ∷ s) h = and_right (is_space x) (list_all is_space (y ∷ s)) (spaces_last y s h)

spaces_push : (s : List ℕ) → list_all is_space s ≡ false → list_all is_space (s ++ (32 ∷ [])) ≡ false
spaces_push [] h = absurd (cc)
spaces_push (c ∷ s) h =
    test (is_space c) (λ e. rw e (spaces_push s (rw e at h))) (λ e. rw e refl)

cut_last : (s : List ℕ) → without_last (s ++ (32 ∷ [])) ≡ s
cut_last s = ap (λ l. reverse (drop 1 l)) (reverse-append s (32 ∷ [])) ∙ reverse-reverse s

padded_text : (s : List ℕ) → list_all is_space s ≡ false → code_text (32 ∷ (s ++ (32 ∷ []))) ≡ s
padded_text s h =
    ap (λ l. if first_is 32 l && not (list_all is_space (s ++ (32 ∷ []))) then without_last (s ++ (32 ∷ []))
    else 32 ∷ (s ++ (32 ∷ []))) (reverse-append (32 ∷ s) (32 ∷ []))
    ∙ ap (λ t. if not t then without_last (s ++ (32 ∷ [])) else 32 ∷ (s ++ (32 ∷ []))) (spaces_push s h)
    ∙ cut_last s

bare_text : (s : List ℕ) → first_is 32 s ≡ false → code_text s ≡ s
bare_text s h = rw h refl

-- ---- the span as it is written

-- two spaces inside
padded_span : (n : ℕ) (s : List ℕ) → delimited_text true (suc n) s
    ≡ graves (suc n) ++ ((32 ∷ (s ++ (32 ∷ []))) ++ graves (suc n))
padded_span n s =
    ap (λ l. (l ++ (32 ∷ [])) ++ graves (suc n)) (append_assoc (graves (suc n)) (32 ∷ []) s)
    ∙ ap (λ l. l ++ graves (suc n)) (append_assoc (graves (suc n)) (32 ∷ s) (32 ∷ []))
    ∙ append_assoc (graves (suc n)) (32 ∷ (s ++ (32 ∷ []))) (graves (suc n))

bare_span : (n : ℕ) (s : List ℕ) → delimited_text false (suc n) s ≡ graves (suc n) ++ (s ++ graves (suc n))
bare_span n s =
    ap (λ l. (l ++ graves (suc n))) (append-nil ((graves (suc n) ++ []) ++ s)
    ∙ ap (λ l. l ++ s) (append-nil (graves (suc n))))
    ∙ append_assoc (graves (suc n)) s (graves (suc n))

no_run_lacks : (n : ℕ) (s : List ℕ) → (0 == n) ≡ false → has_run 96 n s ≡ false → lacks n 0 s ≡ true
no_run_lacks n s z h =
    not-false (lacks n 0 s) (sym (lacks_any n 0 s z) ∙ sym (plus_none n (runs 96 s) z) ∙ h)

zero_first : (n : ℕ) → (0 == suc n) ≡ false
zero_first n = ne_eqb 0 (suc n) (λ e. absurd (omega arith))

no_spaces : (x : ℕ) (s : List ℕ) → meets_delimiter (x ∷ s) ≡ true → list_all is_space (x ∷ s) ≡ false
no_spaces x s m =
    test (x == 96) (spaces_first x s)
    (λ e. let y : (slice_index (x ∷ s) (length (x ∷ s) - 1) == 96) ≡ true = rw e at m in
    spaces_last x s (ap (λ c. c == 96) (sym (last_index x s)) ∙ y))

-- between so many and one more grave accents, of which the code has no row
pub delimited_read : (refs : References) (in_link : Bool) (before ks : List ℕ) (n x : ℕ) (s : List ℕ)
    → list_all is_line_byte (x ∷ s) ≡ true → (x == 32) ≡ false → has_run 96 (suc n) (x ∷ s) ≡ false
    → first_is 96 ks ≡ false
    → IsRead refs in_link before (delimited_text (meets_delimiter (x ∷ s)) (suc n) (x ∷ s)) ks
    (code (x ∷ s) no_inlines)
delimited_read refs in_link before ks n x s p sp r h =
    let l = no_run_lacks (suc n) (x ∷ s) (zero_first n) r in
    test (meets_delimiter (x ∷ s))
    (λ m. rw m (subst (λ t. IsRead refs in_link before t ks (code (x ∷ s) no_inlines))
    (sym (padded_span n (x ∷ s)))
    (span_read refs in_link before ks n 32 ((x ∷ s) ++ (32 ∷ [])) (x ∷ s)
    (and_from (not (0 == suc n)) (lacks (suc n) 0 ((x ∷ s) ++ (32 ∷ []))) (ap not (zero_first n))
    (lacks_push (suc n) 0 (x ∷ s) (zero_first n) ∙ l))
    (apart_push 0 (x ∷ s)) refl h
    (ap (λ t. code_text (32 ∷ t)) (plain_line ((x ∷ s) ++ (32 ∷ [])) (plain_push (x ∷ s) p))
    ∙ padded_text (x ∷ s) (no_spaces x s m)))))
    (λ m. let q = or_parts (x == 96) (slice_index (x ∷ s) (length (x ∷ s) - 1) == 96) m in
    rw m (subst (λ t. IsRead refs in_link before t ks (code (x ∷ s) no_inlines)) (sym (bare_span n (x ∷ s)))
    (span_read refs in_link before ks n x s (x ∷ s) l
    (apart_last 0 x s (ap (λ c. c == 96) (sym (last_index x s)) ∙ q.1)) q.0 h
    (ap code_text (plain_line (x ∷ s) p) ∙ bare_text (x ∷ s) sp))))
