-- What a line starts, by its first character.
use Rattle.std.proofs.Common.{◌≡◌, ℕ, zero, suc, ◌+◌, ◌-◌, ◌<◌, ◌≤◌, Bool, true, false, ◌&&◌, ◌||◌, List, [], ◌∷◌}
use Rattle.std.proofs.Common.{length, drop, get_or, refl, ap, sym, ◌∙◌, arith, subst, Some, None}
use Rattle.std.proofs.lemmas.Bool.{and_parts}
use Rattle.std.proofs.lemmas.Bool.Decides.{nat_tests}
use Rattle.std.proofs.lemmas.Str.{IsCharBoundary-after_ascii}
use Rattle.std.specs.Str.{IsUtf8, IsCharBoundary}
use Rattle.std.specs.Char.{is_ascii_digit}
use Rattle.std.specs.Prelude.{◌==◌, nat_le, if◌then◌else◌, codes}
use Rattle.htmd_lexical.specs.Characters.{is_one_of}
use Rattle.htmd_lexical.proofs.Cases.{test}
use Rattle.htmd_lexical.specs.CharacterClasses.{is_empty}
use Rattle.htmd_commonmark_reading.specs.Characters.{is_space_or_tab, past_blanks}
use Rattle.htmd_commonmark_reading.specs.Lines.{Line, line, spaces, indent_at, cut, marks, after_marker, indent}
use Rattle.htmd_commonmark_reading.specs.Lines.{is_blank, is_blank_text}
use Rattle.htmd_commonmark_reading.specs.Boxes.{quoting, html, raw, leaf, rule}
use Rattle.htmd_commonmark_reading.specs.BlockStarts.{After, Start, no_start, whole, first_line, fresh, alone, started}
use Rattle.htmd_commonmark_reading.specs.BlockStarts.{started_by}
use Rattle.htmd_commonmark_reading.specs.BlockStarts.{code_start, behind_quote, behind_padding, heading_start}
use Rattle.htmd_commonmark_reading.specs.BlockStarts.{fence_start}
use Rattle.htmd_commonmark_reading.specs.BlockStarts.{html_start, unless_rule, item_start, sign, quote_sign}
use Rattle.htmd_commonmark_reading.specs.BlockStarts.{heading_sign, fence_sign, tag_sign, rule_sign, bullet_or_rule}
use Rattle.htmd_commonmark_reading.specs.BlockStarts.{bullet, digit, no_sign, has_end, block_ends, digits, delimiter}
use Rattle.htmd_commonmark_reading.specs.BlockStarts.{number_of}
use Rattle.htmd_commonmark_reading.specs.BlockStarts.{if_numbered, is_rule}
use Rattle.htmd_commonmark_reader.specs.LineViews.{line_of}
use Rattle.htmd_commonmark_reader.specs.declared.lines.Line.{Line as Held}
use Rattle.htmd_commonmark_reader.specs.HtmlBlocks.{ends_of}
use Rattle.htmd_commonmark_reader.specs.Markers.{Numbered, numbered}
use Rattle.htmd_commonmark_reader.specs.declared.html_blocks.HtmlEnd.{HtmlEnd}
use Rattle.htmd_commonmark_reader.specs.declared.html_blocks.HtmlEnd.TheVariants.{TextElement, Comment, Instruction}
use Rattle.htmd_commonmark_reader.specs.declared.html_blocks.HtmlEnd.TheVariants.{Declaration, CharacterData, BlankLine}
use Rattle.htmd_commonmark_reader.proofs.LinesLemmas.{uncut_line, cut_marks, blank_spaces, blank_text}

blank_marks : (s : List ℕ) → is_blank_text s ≡ true → marks s ≡ []
blank_marks [] e = refl
blank_marks (c ∷ s) e =
    let h = and_parts (is_space_or_tab c) (is_blank_text s) e in rw h.0 (blank_marks s h.1)

pub start_blank : (a : After) (l : Line) → is_blank l ≡ true → no_start ≡ started a l
start_blank a l e = sym (ap (λ m. started_by m zero a l) (blank_marks l.text e))

spaces_marks : (n : ℕ) (s : List ℕ) → marks (spaces n s) ≡ marks s
spaces_marks zero s = refl
spaces_marks (suc n) s = spaces_marks n s

content_marks : (s t : List ℕ) (c : ℕ) → c ∷ t ≡ past_blanks s → marks s ≡ c ∷ marks t
content_marks [] t c e = absurd (cc)
content_marks (d ∷ s) t c e =
    test (is_space_or_tab d)
    (λ q. let f = rw q at e in rw q (content_marks s t c f))
    (λ q. let f : c ∷ t ≡ d ∷ s = rw q at e in
    let here : marks (d ∷ s) ≡ d ∷ marks s = rw q refl in
    here ∙ ap first_marked (sym f))
  where
    first_marked : List ℕ → List ℕ
    first_marked [] = []
    first_marked (x ∷ y) = x ∷ marks y

same_start : (m : List ℕ) (a : After) (l : Line) → marks l.text ≡ m → started_by m zero a l ≡ started a l
same_start m a l e = ap (λ x. started_by x zero a l) (sym e)

-- ---- HTML blocks

space_end : (end : HtmlEnd) (s : List ℕ) → has_end (ends_of end) (32 ∷ s) ≡ has_end (ends_of end) s
space_end TextElement s = refl
space_end Comment s = refl
space_end Instruction s = refl
space_end Declaration s = refl
space_end CharacterData s = refl
space_end BlankLine s = refl

pub spaces_end : (end : HtmlEnd) (n : ℕ) (s : List ℕ)
    → has_end (ends_of end) (spaces n s) ≡ has_end (ends_of end) s
spaces_end end zero s = refl
spaces_end end (suc n) s = space_end end (spaces n s) ∙ spaces_end end n s

pub html_found : (a : After) (text rest : List ℕ) (ends : List (List ℕ)) (b : Bool)
    → Some ends ≡ block_ends a rest
    → b ≡ has_end ends text
    → (if b then whole (html text) else first_line (leaf (raw ends (text ∷ [])))) ≡ html_start a text rest
html_found a text rest ends b e f = rw (sym e, f) refl

-- ---- numbers

number_marks : (u : List ℕ) → is_one_of (codes ".)") (delimiter u) ≡ true
    → marks (drop (suc (length (digits u))) u) ≡ drop (suc (length (digits u))) (marks u)
number_marks [] e = absurd (cc)
number_marks (d ∷ u) e =
    test (is_ascii_digit d)
    (λ q. let f = rw q at e in
    let black : is_space_or_tab d ≡ false = grind (arith, nat_tests) in
    rw (q, black) (number_marks u f))
    (λ q. let f = rw q at e in
    let black : is_space_or_tab d ≡ false = grind (arith, nat_tests) in
    rw (q, black) refl)

skipped : (n : ℕ) (m : List ℕ) (a : After) (l : Line) → started_by m n a l ≡ started_by (drop n m) zero a l
skipped zero m a l = refl
skipped (suc n) [] a l = refl
skipped (suc n) (c ∷ m) a l = skipped n m a l

pub no_number : (s : List ℕ) (other : Start) → None ≡ numbered s → no_start ≡ if_numbered s other
no_number s other e =
    test (nat_le (length (digits s)) 9 && is_one_of (codes ".)") (delimiter s))
    (λ q. let f = rw q at e in absurd (cc)) (λ q. rw q refl)

pub one_number : (s : List ℕ) (x : Numbered) (other : Start) → Some x ≡ numbered s
    → (other ≡ if_numbered s other)
    × (x ≡ record { sign = delimiter s; number = number_of s; size = suc (length (digits s)) })
one_number s x other e =
    test (nat_le (length (digits s)) 9 && is_one_of (codes ".)") (delimiter s))
    (λ q. let f = rw q at e in (rw q refl, cc)) (λ q. let f = rw q at e in absurd (cc))

-- ---- by the first character

-- a line with its content, after so many columns
module _ (a : After) (k m i : ℕ) (s : List ℕ) (c : ℕ) (t : List ℕ) (e : i ≡ indent_at k (spaces m s))
    (f : c ∷ t ≡ past_blanks s) where
  abbrev pub here : Line
  here = line k (spaces m s)

  abbrev pub bare : Line
  bare = line (k + i) (c ∷ t)

  begun : started a here ≡ started_by (c ∷ marks t) zero a here
  begun = ap (λ x. started_by x zero a here) (spaces_marks m s ∙ content_marks s t c f)

  pub bare_is : cut (indent here) here ≡ bare
  bare_is = ap (λ n. cut n here) (sym e) ∙ sym (uncut_line k m i s (c ∷ t) e f i (omega arith))

  near : i ≤ 3 → nat_le (indent here) 3 ≡ true
  near l = ap (λ n. nat_le n 3) (sym e) ∙ (grind (arith, nat_tests))

  pub start_deep : 3 < i → code_start a here ≡ started a here
  start_deep l =
      let deep : nat_le (indent here) 3 ≡ false = ap (λ n. nat_le n 3) (sym e) ∙ (grind (arith, nat_tests)) in
      sym (begun ∙ (rw (deep, started_by) refl))

  -- the rest of a line behind a quote's marker
  quote_rest : marks ((behind_quote bare).text) ≡ marks t
  quote_rest = cut_marks (k + i + 1) 1 t

  pub start_quote : i ≤ 3 → sign c ≡ quote_sign
      → first_line (fresh quoting (behind_quote bare) (started alone (behind_quote bare))) ≡ started a here
  start_quote l q =
      let open_ : started_by (c ∷ marks t) zero a here
      ≡ first_line (fresh quoting (behind_quote (cut (indent here) here))
      (started_by (marks t) zero alone (behind_quote (cut (indent here) here)))) =
      rw (near l, q, started_by) refl in
      sym (begun ∙ open_
      ∙ ap (λ b. first_line (fresh quoting (behind_quote b) (started_by (marks t) zero alone (behind_quote b))))
      bare_is
      ∙ ap (λ x. first_line (fresh quoting (behind_quote bare) x))
      (same_start (marks t) alone (behind_quote bare) quote_rest))

  pub start_heading : i ≤ 3 → sign c ≡ heading_sign → heading_start (c ∷ t) ≡ started a here
  start_heading l q =
      let open_ : started_by (c ∷ marks t) zero a here ≡ heading_start ((cut (indent here) here).text) =
      rw (near l, q, started_by) refl in
      sym (begun ∙ open_ ∙ ap (λ (b : Line). heading_start b.text) bare_is)

  pub start_fence : i ≤ 3 → sign c ≡ fence_sign → fence_start i c (c ∷ t) ≡ started a here
  start_fence l q =
      let open_ : started_by (c ∷ marks t) zero a here
      ≡ fence_start (indent here) c ((cut (indent here) here).text) =
      rw (near l, q, started_by) refl in
      sym (begun ∙ open_ ∙ ap (λ (b : Line). fence_start (indent here) c b.text) bare_is
      ∙ ap (λ n. fence_start n c (c ∷ t)) (sym e))

  pub start_tag : i ≤ 3 → sign c ≡ tag_sign → html_start a (spaces m s) t ≡ started a here
  start_tag l q =
      let open_ : started_by (c ∷ marks t) zero a here
      ≡ html_start a (spaces m s) (drop 1 ((cut (indent here) here).text)) =
      rw (near l, q, started_by) refl in
      sym (begun ∙ open_ ∙ ap (λ (b : Line). html_start a (spaces m s) (drop 1 b.text)) bare_is)

  pub start_rule : i ≤ 3 → sign c ≡ rule_sign → unless_rule c (c ∷ t) no_start ≡ started a here
  start_rule l q =
      let open_ : started_by (c ∷ marks t) zero a here ≡ unless_rule c ((cut (indent here) here).text) no_start =
      rw (near l, q, started_by) refl in
      sym (begun ∙ open_ ∙ ap (λ (b : Line). unless_rule c b.text no_start) bare_is)

  pub start_none : i ≤ 3 → sign c ≡ no_sign → no_start ≡ started a here
  start_none l q =
      let open_ : started_by (c ∷ marks t) zero a here ≡ no_start = rw (near l, q, started_by) refl in
      sym (begun ∙ open_)

  abbrev behind : Line
  behind = line (k + i + 1) t

  item_rest : marks ((behind_padding behind).text) ≡ marks t
  item_rest = cut_marks (k + i + 1) _ t

  abbrev listed : Start
  listed = item_start a c None (suc i) behind (started alone (behind_padding behind))

  abbrev listed_from : ℕ → Line → Start
  listed_from n b =
      item_start a c None (suc n) (after_marker 1 b)
      (started_by (marks t) zero alone (behind_padding (after_marker 1 b)))

  listed_is : listed_from (indent here) (cut (indent here) here) ≡ listed
  listed_is =
      ap (listed_from (indent here)) bare_is ∙ ap (λ n. listed_from n bare) (sym e)
      ∙ ap (item_start a c None (suc i) behind) (same_start (marks t) alone (behind_padding behind) item_rest)

  pub start_bullet : i ≤ 3 → sign c ≡ bullet → listed ≡ started a here
  start_bullet l q =
      let open_ : started_by (c ∷ marks t) zero a here ≡ listed_from (indent here) (cut (indent here) here) =
      rw (near l, q, started_by) refl in
      sym (begun ∙ open_ ∙ listed_is)

  pub start_either : i ≤ 3 → sign c ≡ bullet_or_rule → unless_rule c (c ∷ t) listed ≡ started a here
  start_either l q =
      let open_ : started_by (c ∷ marks t) zero a here
      ≡ unless_rule c ((cut (indent here) here).text) (listed_from (indent here) (cut (indent here) here)) =
      rw (near l, q, started_by) refl in
      sym (begun ∙ open_
      ∙ ap (λ (b : Line). unless_rule c b.text (listed_from (indent here) (cut (indent here) here))) bare_is
      ∙ ap (unless_rule c (c ∷ t)) listed_is)

  abbrev after_number : Line → Line
  after_number b = after_marker (suc (length (digits b.text))) b

  abbrev numbered_from : ℕ → Line → Start
  numbered_from n b =
      if_numbered b.text
      (item_start a (delimiter b.text) (Some (number_of b.text)) (suc (length (digits b.text)) + n) (after_number b)
      (started_by (marks t) (length (digits b.text)) alone (behind_padding (after_number b))))

  abbrev numbered_item : Start → Start
  numbered_item inner =
      item_start a (delimiter (c ∷ t)) (Some (number_of (c ∷ t))) (suc (length (digits (c ∷ t))) + i)
      (after_number bare) inner

  number_inner : is_space_or_tab c ≡ false → is_one_of (codes ".)") (delimiter (c ∷ t)) ≡ true
      → started_by (marks t) (length (digits (c ∷ t))) alone (behind_padding (after_number bare))
      ≡ started alone (behind_padding (after_number bare))
  number_inner black q =
      let n = length (digits (c ∷ t)) in
      let rest : marks (drop (suc n) (c ∷ t)) ≡ drop (suc n) (marks (c ∷ t)) = number_marks (c ∷ t) q in
      let first : marks (c ∷ t) ≡ c ∷ marks t = rw black refl in
      let all : marks ((behind_padding (after_number bare)).text) ≡ drop n (marks t) =
      cut_marks (k + i + suc n) _ (drop (suc n) (c ∷ t)) ∙ rest ∙ ap (drop (suc n)) first in
      skipped n (marks t) alone (behind_padding (after_number bare))
      ∙ same_start (drop n (marks t)) alone (behind_padding (after_number bare)) all

  number_is : is_space_or_tab c ≡ false → numbered_from i bare
      ≡ if_numbered (c ∷ t) (numbered_item (started alone (behind_padding (after_number bare))))
  number_is black =
      test (nat_le (length (digits (c ∷ t))) 9)
      (λ p. test (is_one_of (codes ".)") (delimiter (c ∷ t)))
      (λ q. ap (λ x. if_numbered (c ∷ t) (numbered_item x)) (number_inner black q))
      (λ q. rw (p, q) refl))
      (λ p. rw p refl)

  pub start_digit : i ≤ 3 → sign c ≡ digit → is_space_or_tab c ≡ false
      → if_numbered (c ∷ t) (numbered_item (started alone (behind_padding (after_number bare)))) ≡ started a here
  start_digit l q black =
      let open_ : started_by (c ∷ marks t) zero a here ≡ numbered_from (indent here) (cut (indent here) here) =
      rw (near l, q, started_by) refl in
      sym (begun ∙ open_ ∙ ap (numbered_from (indent here)) bare_is ∙ ap (λ n. numbered_from n bare) (sym e)
      ∙ number_is black)

-- what a text begins with
pub first_and_rest : (s : List ℕ) (c : ℕ) → 0 < length s → get_or s 0 0 ≡ c → c ∷ drop 1 s ≡ s
first_and_rest [] c l e = absurd (omega arith)
first_and_rest (d ∷ s) c l e = ap (λ (x : ℕ). x ∷ s) (sym e)

sign_ascii : (c : ℕ) → (sign c ≡ no_sign → ⊥) → c < 128
sign_ascii c n =
    test (c == 62) (λ e. grind (arith, nat_tests))
    (λ e1. test (c == 35) (λ e. grind (arith, nat_tests))
    (λ e2. test ((c == 96) || (c == 126)) (λ e. grind (arith, nat_tests))
    (λ e3. test (c == 60) (λ e. grind (arith, nat_tests))
    (λ e4. test (c == 95) (λ e. grind (arith, nat_tests))
    (λ e5. test ((c == 42) || (c == 45)) (λ e. grind (arith, nat_tests))
    (λ e6. test (c == 43) (λ e. grind (arith, nat_tests))
    (λ e7. test (is_ascii_digit c) (λ e. grind (arith, nat_tests))
    (λ e8. absurd (n (rw (e1, e2, e3, e4, e5, e6, e7, e8) refl))))))))))

digit_black : (c : ℕ) → sign c ≡ digit → is_space_or_tab c ≡ false
digit_black c q =
    test (is_space_or_tab c)
    (λ e. absurd (white e))
    (λ e. e)
  where
    white : is_space_or_tab c ≡ true → ⊥
    white e =
        test (c == 32)
        (λ f. let g : c ≡ 32 = grind (arith, nat_tests) in
        let h : no_sign ≡ digit = sym (ap sign g) ∙ q in absurd (cc))
        (λ f. let g : c ≡ 9 = grind (arith, nat_tests) in
        let h : no_sign ≡ digit = sym (ap sign g) ∙ q in absurd (cc))

-- after the first character a text may be cut
pub first_cut : (text bytes : List ℕ) → IsUtf8 bytes → bytes ≡ text → 0 < length text
    → (sign (get_or bytes 0 0) ≡ no_sign → ⊥) → IsCharBoundary text 1
first_cut text bytes u b l n =
    IsCharBoundary-after_ascii text 0 (subst IsUtf8 b u) l
    (sign_ascii (get_or text 0 0) (λ q. n (ap (λ s. sign (get_or s 0 0)) b ∙ q)))

pub rule_here : (c : ℕ) (s : List ℕ) (other : Start) → is_rule c s ≡ true
    → whole rule ≡ unless_rule c s other
rule_here c s other e = rw e refl

pub no_rule : (c : ℕ) (s : List ℕ) (other : Start) → is_rule c s ≡ false → other ≡ unless_rule c s other
no_rule c s other e = rw e refl

-- a line and its content, as the reader holds them
module _ (a : After) (l content : Held) (bytes : List ℕ) (e : l.indent ≡ indent (line_of l))
    (f : l.content.now ≡ past_blanks l.text.now) (close : l.indent ≤ 3) (same : content.text.now ≡ l.content.now)
    (place : line_of content ≡ cut l.indent (line_of l)) (filled : 0 < length content.text.now)
    (b : bytes ≡ content.text.now) where
  abbrev pub first : ℕ
  first = get_or bytes 0 0

  abbrev tail : List ℕ
  tail = drop 1 content.text.now

  split : first ∷ tail ≡ content.text.now
  split = first_and_rest content.text.now first filled (ap (λ s. get_or s 0 0) (sym b))

  whole_content : first ∷ tail ≡ past_blanks l.text.now
  whole_content = split ∙ same ∙ f

  at : line_of content ≡ line (l.column + l.indent) (first ∷ tail)
  at =
      place ∙ sym (uncut_line l.column l.spaces l.indent l.text.now (first ∷ tail) e whole_content l.indent
      (omega arith))

  pub by_quote : sign first ≡ quote_sign
      → first_line (fresh quoting (behind_quote (line_of content)) (started alone (behind_quote (line_of content))))
      ≡ started a (line_of l)
  by_quote q =
      ap (λ x. first_line (fresh quoting (behind_quote x) (started alone (behind_quote x)))) at
      ∙ start_quote a l.column l.spaces l.indent l.text.now first tail e whole_content close q

  pub by_heading : sign first ≡ heading_sign → heading_start content.text.now ≡ started a (line_of l)
  by_heading q =
      ap heading_start (sym split)
      ∙ start_heading a l.column l.spaces l.indent l.text.now first tail e whole_content close q

  pub by_fence : sign first ≡ fence_sign → fence_start l.indent first content.text.now ≡ started a (line_of l)
  by_fence q =
      ap (fence_start l.indent first) (sym split)
      ∙ start_fence a l.column l.spaces l.indent l.text.now first tail e whole_content close q

  pub by_tag : sign first ≡ tag_sign → html_start a ((line_of l).text) tail ≡ started a (line_of l)
  by_tag q = start_tag a l.column l.spaces l.indent l.text.now first tail e whole_content close q

  pub by_rule : sign first ≡ rule_sign → unless_rule first content.text.now no_start ≡ started a (line_of l)
  by_rule q =
      ap (λ s. unless_rule first s no_start) (sym split)
      ∙ start_rule a l.column l.spaces l.indent l.text.now first tail e whole_content close q

  abbrev pub bullet_item : Line → Start
  bullet_item x =
      item_start a first None (suc l.indent) (after_marker 1 x) (started alone (behind_padding (after_marker 1 x)))

  pub by_bullet : sign first ≡ bullet → bullet_item (line_of content) ≡ started a (line_of l)
  by_bullet q =
      ap bullet_item at ∙ start_bullet a l.column l.spaces l.indent l.text.now first tail e whole_content close q

  pub by_either : sign first ≡ bullet_or_rule
      → unless_rule first content.text.now (bullet_item (line_of content)) ≡ started a (line_of l)
  by_either q =
      ap (λ s. unless_rule first s (bullet_item (line_of content))) (sym split)
      ∙ ap (λ x. unless_rule first (first ∷ tail) (bullet_item x)) at
      ∙ start_either a l.column l.spaces l.indent l.text.now first tail e whole_content close q

  abbrev number_item : Line → Start
  number_item x =
      if_numbered x.text (item_start a (delimiter x.text) (Some (number_of x.text))
      (suc (length (digits x.text)) + l.indent) (after_marker (suc (length (digits x.text))) x)
      (started alone (behind_padding (after_marker (suc (length (digits x.text))) x))))

  pub by_digit : sign first ≡ digit → number_item (line_of content) ≡ started a (line_of l)
  by_digit q =
      ap number_item at
      ∙ start_digit a l.column l.spaces l.indent l.text.now first tail e whole_content close q (digit_black first q)

  pub by_none : sign first ≡ no_sign → no_start ≡ started a (line_of l)
  by_none q = start_none a l.column l.spaces l.indent l.text.now first tail e whole_content close q

-- ---- blank and deep lines

pub deep_start : (a : After) (l : Held) → l.indent ≡ indent (line_of l) → 3 < l.indent
    → (is_blank (line_of l) ≡ false) → code_start a (line_of l) ≡ started a (line_of l)
deep_start a l e d n = go (past_blanks l.text.now) refl
  where
    go : (x : List ℕ) → past_blanks l.text.now ≡ x → code_start a (line_of l) ≡ started a (line_of l)
    go [] q =
        let blank : is_blank (line_of l) ≡ true =
        blank_spaces l.spaces l.text.now ∙ sym (blank_text l.text.now) ∙ ap is_empty q in
        let no : true ≡ false = sym blank ∙ n in absurd (cc)
    go (c ∷ t) q = start_deep a l.column l.spaces l.indent l.text.now c t e (sym q) d

pub filled_content : (l : Held) (x : List ℕ) → l.content.now ≡ past_blanks l.text.now → x ≡ l.content.now
    → is_blank (line_of l) ≡ false → 0 < length x
filled_content l [] f g n =
    let blank : is_blank (line_of l) ≡ true =
    blank_spaces l.spaces l.text.now ∙ sym (blank_text l.text.now) ∙ ap is_empty (sym f ∙ sym g) in
    let no : true ≡ false = sym blank ∙ n in absurd (cc)
filled_content l (c ∷ x) f g n = omega arith

-- after a number's marker a text may be cut
pub number_cut : (text bytes : List ℕ) (n : ℕ) → IsUtf8 bytes → bytes ≡ text → 0 < n → n ≤ length bytes
    → get_or bytes (n - 1) 0 < 128 → IsCharBoundary text n
number_cut text bytes n u b l m h =
    let k : n - 1 + 1 ≡ n = omega arith in
    subst (λ s. IsCharBoundary s n) b
    (subst (IsCharBoundary bytes) k (IsCharBoundary-after_ascii bytes (n - 1) u (omega arith) h))
