-- What is written of normal inlines is whole characters, so what stands behind it is read alike.
use Rattle.std.proofs.Common.{◌≡◌, ℕ, zero, suc, ◌+◌, ◌-◌, ◌*◌, ◌/◌, ◌%◌, ◌<◌, ◌≤◌, Bool, true, false, not, cond, List}
use Rattle.std.proofs.Common.{[]}
use Rattle.std.proofs.Common.{◌∷◌, ◌++◌, get_or, refl, sym, ap, ◌∙◌, subst, arith, eqb-true}
use Rattle.std.proofs.Common.{Option, Some, None, codes, ltb}
use Rattle.std.specs.Prelude.{◌&&◌, ◌==◌, nat_lt, replicate}
use Rattle.std.specs.Char.{is_ascii}
use Rattle.std.specs.List.{list_any}
use Rattle.std.specs.Str.{IsUtf8, is_utf8, chars, chars_after, continuation_len, lead_bits}
use Rattle.std.proofs.lemmas.Bool.{and_parts}
use Rattle.std.proofs.lemmas.Bool.Decides.{nat_tests}
use Rattle.std.proofs.lemmas.Str.{IsUtf8-from_is_utf8}
use Rattle.htmd_lexical.specs.Characters.{space, vertical_bar, right_square_bracket, asterisk, underscore, tilde}
use Rattle.htmd_lexical.specs.Characters.{ampersand, less_than_sign, greater_than_sign, quotation_mark, backslash}
use Rattle.htmd_lexical.specs.CharacterClasses.{is_empty}
use Rattle.htmd_text.specs.EscapedPlaces.{with_backslashes}
use Rattle.htmd_markdown.specs.CodeSpans.{meets_delimiter, smallest_unused_len, delimited_text, space_if}
use Rattle.htmd_markdown.specs.LineBreaks as breaks
use Rattle.htmd_markdown.specs.declared.line_break.BrStyle.{BrStyle}
use Rattle.htmd_markdown.specs.declared.line_break.BrStyle.TheVariants.{TwoSpaces, Backslash}
use Rattle.htmd_document.specs.Documents.{Inline, text, code, formatted, link, image, anchor, line_break, task}
use Rattle.htmd_document.specs.Documents.{Inlines, no_inlines, inline}
use Rattle.htmd_document.specs.Formats.{Format, Emphasis, Strong, Deleted, Superscript, Subscript, Inserted}
use Rattle.htmd_document.specs.Formats.{Underlined, Marked, Small, Keyboard, Abbreviation}
use Rattle.htmd_document.specs.NormalInlines.{is_line, is_line_byte, is_text, has_double_space, is_trimmed, has_none}
use Rattle.htmd_document.specs.NormalInlines.{is_attribute, is_title, meets, are_whole, is_barred, has_title}
use Rattle.htmd_document.specs.NormalInlines.{is_normal, are_normal}
use Rattle.htmd_document.specs.Tags.{escaped_value}
use Rattle.htmd_document.specs.Tags as html
use Rattle.htmd_commonmark.specs.declared.inline_ends.Following.{Following}
use Rattle.htmd_commonmark.specs.declared.line.Line.{Line}
use Rattle.htmd_commonmark.specs.declared.line.LineKind.TheVariants.{Paragraph}
use Rattle.htmd_commonmark.specs.declared.marks.Sides.{Sides}
use Rattle.htmd_commonmark.specs.declared.text_escape.Place.{Place}
use Rattle.htmd_commonmark.specs.Addresses.{is_escaped, escaped_in, needs_brackets, destination, title}
use Rattle.htmd_commonmark.specs.InlineEnds.{follows}
use Rattle.htmd_commonmark.specs.InlineMarkdown.{written, with_inline, sides_of, place_of, written_code, needs_tags}
use Rattle.htmd_commonmark.specs.InlineMarkdown.{place_in_tags, written_resource, place_of_description}
use Rattle.htmd_commonmark.specs.Marks.{Mark, mark_for, fits, row, tags_of}
use Rattle.htmd_commonmark.specs.References.{is_reference}
use Rattle.htmd_commonmark.specs.TextEscapes.{is_marked, escaped}
use Rattle.htmd_commonmark.specs.WrittenText.{Written, wrote}
use Rattle.htmd_commonmark.proofs.TextEscapesLemmas.{mark_is_ascii}
use Rattle.htmd_chunks.proofs.BegunTextsLemmas.{line_in}
use Rattle.htmd_chunks.proofs.RunsLemmas.{IsSomething, something}
use lib.Utf8.{encode, encodes}

-- ---- whole characters

-- So many bytes of a character are to come. The text ends with a character, and no byte of ASCII stands in one.
abbrev pub clean : ℕ → List ℕ → Bool
clean zero [] = true
clean (suc n) [] = false
clean zero (b ∷ s) = clean (continuation_len b) s
clean (suc n) (b ∷ s) = not (nat_lt b 128) && clean n s

abbrev pub IsClean : List ℕ → Type 0
IsClean s = clean 0 s ≡ true

clean-behind : (n : ℕ) (s t : List ℕ) → clean n s ≡ true → IsClean t → clean n (s ++ t) ≡ true
clean-behind zero [] t h k = k
clean-behind (suc n) [] t h k = absurd (cc)
clean-behind zero (b ∷ s) t h k = clean-behind (continuation_len b) s t h k
clean-behind (suc n) (b ∷ s) t h k =
    let p = and_parts (not (nat_lt b 128)) (clean n s) h in
    ap (λ e. e && clean n (s ++ t)) p.0 ∙ clean-behind n s t p.1 k

pub in-append : (s t : List ℕ) → IsClean s → IsClean t → IsClean (s ++ t)
in-append s t one two = clean-behind 0 s t one two

-- what stands behind is read alike
after-clean : (n c : ℕ) (s t : List ℕ) → clean n s ≡ true
    → chars_after n c (s ++ t) ≡ chars_after n c s ++ chars t
unfolding chars
after-clean zero c [] [] h = refl
after-clean zero c [] (b ∷ t) h = refl
after-clean (suc n) c [] t h = absurd (cc)
after-clean zero c (b ∷ s) t h = ap (λ l. c ∷ l) (after-clean (continuation_len b) (lead_bits b) s t h)
after-clean (suc n) c (b ∷ s) t h =
    after-clean n (c * 64 + (b - 128)) s t (and_parts (not (nat_lt b 128)) (clean n s) h).1

pub chars-behind : (s t : List ℕ) → IsClean s → chars (s ++ t) ≡ chars s ++ chars t
unfolding chars
chars-behind [] t h = refl
chars-behind (b ∷ s) t h = after-clean (continuation_len b) (lead_bits b) s t h

-- a byte of ASCII is a character
pub chars-ascii : (b : ℕ) (s : List ℕ) → continuation_len b ≡ 0 → lead_bits b ≡ b
    → chars (b ∷ s) ≡ b ∷ chars s
unfolding chars
chars-ascii b [] none bits = ap (λ n. chars_after n (lead_bits b) []) none ∙ ap (λ c. c ∷ []) bits
chars-ascii b (c ∷ s) none bits =
    ap (λ n. chars_after n (lead_bits b) (c ∷ s)) none
    ∙ ap (λ d. d ∷ chars_after (continuation_len c) (lead_bits c) s) bits

-- what stands before and behind a byte of ASCII
pub clean-front : (n : ℕ) (q : List ℕ) (c : ℕ) (v : List ℕ) → nat_lt c 128 ≡ true
    → clean n (q ++ c ∷ v) ≡ true
    → clean n q ≡ true
clean-front zero [] c v low h = refl
clean-front (suc n) [] c v low h =
    absurd (let p = (and_parts (not (nat_lt c 128)) (clean n v) h).0 in
    let bad : false ≡ true = ap not (sym low) ∙ p in cc)
clean-front zero (b ∷ q) c v low h = clean-front (continuation_len b) q c v low h
clean-front (suc n) (b ∷ q) c v low h =
    let p = and_parts (not (nat_lt b 128)) (clean n (q ++ c ∷ v)) h in
    ap (λ e. e && clean n q) p.0 ∙ clean-front n q c v low p.1

pub clean-back : (n : ℕ) (q : List ℕ) (c : ℕ) (v : List ℕ) → nat_lt c 128 ≡ true
    → continuation_len c ≡ 0
    → clean n (q ++ c ∷ v) ≡ true → IsClean v
clean-back zero [] c v low none h = ap (λ k. clean k v) (sym none) ∙ h
clean-back (suc n) [] c v low none h =
    absurd (let p = (and_parts (not (nat_lt c 128)) (clean n v) h).0 in
    let bad : false ≡ true = ap not (sym low) ∙ p in cc)
clean-back zero (b ∷ q) c v low none h = clean-back (continuation_len b) q c v low none h
clean-back (suc n) (b ∷ q) c v low none h =
    clean-back n q c v low none (and_parts (not (nat_lt b 128)) (clean n (q ++ c ∷ v)) h).1

-- such a text has characters
after-some : (n c : ℕ) (s : List ℕ) → clean n s ≡ true → IsSomething (chars_after n c s)
after-some zero c [] h = something c []
after-some zero c (b ∷ s) h = something c (chars_after (continuation_len b) (lead_bits b) s)
after-some (suc n) c [] h = absurd (cc)
after-some (suc n) c (b ∷ s) h =
    after-some n (c * 64 + (b - 128)) s (and_parts (not (nat_lt b 128)) (clean n s) h).1

pub clean-some : (b : ℕ) (s : List ℕ) → IsClean (b ∷ s) → IsSomething (chars (b ∷ s))
unfolding chars
clean-some b s h = after-some (continuation_len b) (lead_bits b) s h

-- ---- UTF-8

high : (b : ℕ) → 128 ≤ b → not (nat_lt b 128) ≡ true
high b le = grind (arith, nat_tests)

two-bytes : (c : ℕ) → c < 2048 → continuation_len (192 + c / 64) ≡ 1
two-bytes c lt =
    let a : nat_lt (192 + c / 64) 128 ≡ false = grind (arith, nat_tests) in
    let b : nat_lt (192 + c / 64) 224 ≡ true = grind (arith, nat_tests) in
    ap (λ e. cond e 0 (cond (nat_lt (192 + c / 64) 224) 1 (cond (nat_lt (192 + c / 64) 240) 2 3))) a
    ∙ ap (λ e. cond e 1 (cond (nat_lt (192 + c / 64) 240) 2 3)) b

three-bytes : (c : ℕ) → c < 65536 → continuation_len (224 + c / 4096) ≡ 2
three-bytes c lt =
    let a : nat_lt (224 + c / 4096) 128 ≡ false = grind (arith, nat_tests) in
    let b : nat_lt (224 + c / 4096) 224 ≡ false = grind (arith, nat_tests) in
    let d : nat_lt (224 + c / 4096) 240 ≡ true = grind (arith, nat_tests) in
    ap (λ e. cond e 0 (cond (nat_lt (224 + c / 4096) 224) 1 (cond (nat_lt (224 + c / 4096) 240) 2 3))) a
    ∙ ap (λ e. cond e 1 (cond (nat_lt (224 + c / 4096) 240) 2 3)) b
    ∙ ap (λ e. cond e 2 3) d

four-bytes : (c : ℕ) → continuation_len (240 + c) ≡ 3
four-bytes c =
    let a : nat_lt (240 + c) 128 ≡ false = grind (arith, nat_tests) in
    let b : nat_lt (240 + c) 224 ≡ false = grind (arith, nat_tests) in
    let d : nat_lt (240 + c) 240 ≡ false = grind (arith, nat_tests) in
    ap (λ e. cond e 0 (cond (nat_lt (240 + c) 224) 1 (cond (nat_lt (240 + c) 240) 2 3))) a
    ∙ ap (λ e. cond e 1 (cond (nat_lt (240 + c) 240) 2 3)) b ∙ ap (λ e. cond e 2 3) d

pub one-byte : (c : ℕ) → c < 128 → continuation_len c ≡ 0
one-byte c lt =
    let a : nat_lt c 128 ≡ true = grind (arith, nat_tests) in
    ap (λ e. cond e 0 (cond (nat_lt c 224) 1 (cond (nat_lt c 240) 2 3))) a

later-byte : (n b : ℕ) (s : List ℕ) → clean n s ≡ true → clean (suc n) ((128 + b) ∷ s) ≡ true
later-byte n b s h = ap (λ e. e && clean n s) (high (128 + b) (omega arith)) ∙ h

encode-clean : (c : ℕ) (s : List ℕ) → IsClean s → IsClean (encode c ++ s)
unfolding encode
encode-clean c s h =
    elim (ltb c 128)
    as (λ e. ltb c 128 ≡ e → IsClean (cond e (c ∷ []) (cond (ltb c 2048)
    ((192 + c / 64) ∷ (128 + c % 64) ∷ [])
    (cond (ltb c 65536) ((224 + c / 4096) ∷ (128 + (c / 64) % 64) ∷ (128 + c % 64) ∷ [])
    ((240 + c / 262144) ∷ (128 + (c / 4096) % 64) ∷ (128 + (c / 64) % 64) ∷ (128 + c % 64) ∷ []))) ++ s)) [
      | true ↦ λ lt. ap (λ n. clean n s) (one-byte c (grind (arith, nat_tests, lt))) ∙ h
      | false ↦ λ ge.
          elim (ltb c 2048)
          as (λ e. ltb c 2048 ≡ e → IsClean (cond e ((192 + c / 64) ∷ (128 + c % 64) ∷ [])
          (cond (ltb c 65536) ((224 + c / 4096) ∷ (128 + (c / 64) % 64) ∷ (128 + c % 64) ∷ [])
          ((240 + c / 262144) ∷ (128 + (c / 4096) % 64) ∷ (128 + (c / 64) % 64) ∷ (128 + c % 64) ∷ [])) ++ s)) [
            | true ↦ λ lt.
                ap (λ n. clean n ((128 + c % 64) ∷ s)) (two-bytes c (grind (arith, nat_tests, lt)))
                ∙ later-byte 0 (c % 64) s h
            | false ↦ λ ge2.
                elim (ltb c 65536)
                as (λ e. ltb c 65536 ≡ e
                → IsClean (cond e ((224 + c / 4096) ∷ (128 + (c / 64) % 64) ∷ (128 + c % 64) ∷ [])
                ((240 + c / 262144) ∷ (128 + (c / 4096) % 64) ∷ (128 + (c / 64) % 64) ∷ (128 + c % 64) ∷ [])
                ++ s)) [
                  | true ↦ λ lt.
                      ap (λ n. clean n ((128 + (c / 64) % 64) ∷ (128 + c % 64) ∷ s))
                      (three-bytes c (grind (arith, nat_tests, lt)))
                      ∙ later-byte 1 ((c / 64) % 64) ((128 + c % 64) ∷ s) (later-byte 0 (c % 64) s h)
                  | false ↦ λ ge3.
                      ap (λ n. clean n ((128 + (c / 4096) % 64) ∷ (128 + (c / 64) % 64) ∷ (128 + c % 64) ∷ s))
                      (four-bytes (c / 262144))
                      ∙ later-byte 2 ((c / 4096) % 64) ((128 + (c / 64) % 64) ∷ (128 + c % 64) ∷ s)
                      (later-byte 1 ((c / 64) % 64) ((128 + c % 64) ∷ s) (later-byte 0 (c % 64) s h))
                ] refl
          ] refl
    ] refl

encodes-clean : (cs : List ℕ) → IsClean (encodes cs)
encodes-clean [] = refl
encodes-clean (c ∷ cs) = encode-clean c (encodes cs) (encodes-clean cs)

pub utf8-clean : (s : List ℕ) → is_utf8 s ≡ true → IsClean s
utf8-clean s h = from (IsUtf8-from_is_utf8 s h)
  where
    from : IsUtf8 s → IsClean s
    from u = subst IsClean u.1.1 (encodes-clean u.0)

-- ---- texts

in-either : (e : Bool) (s t : List ℕ) → IsClean s → IsClean t → IsClean (cond e s t)
in-either true s t one two = one
in-either false s t one two = two

in-repeat : (n b : ℕ) → continuation_len b ≡ 0 → IsClean (replicate n b)
in-repeat zero b none = refl
in-repeat (suc n) b none = ap (λ k. clean k (replicate n b)) none ∙ in-repeat n b none

in-line : (s : List ℕ) → is_line s ≡ true → IsClean s
in-line s h = utf8-clean s (and_parts (is_utf8 s) _ h).0

pub in-text : (s : List ℕ) → is_text s ≡ true → IsClean s
in-text s h =
    in-line s (and_parts (is_line s) (not (is_empty s))
    (and_parts (is_line s && not (is_empty s)) (not (has_double_space s)) h).0).0

in-attribute : (s : List ℕ) → is_attribute s ≡ true → IsClean s
in-attribute s h = utf8-clean s (and_parts (is_utf8 s) _ h).0

-- ---- escapes

-- in a character nothing is marked
unmarked : (b : ℕ) (n : ℕ) (s : List ℕ) (e : Bool) → clean (suc n) (b ∷ s) ≡ true
    → (e ≡ true → is_ascii b ≡ true)
    → e ≡ false
unmarked b n s true h low =
    let p = (and_parts (not (nat_lt b 128)) (clean n s) h).0 in
    absurd (let is = low refl in let x : false ≡ true = grind (arith, nat_tests, p, is) in cc)
unmarked b n s false h low = refl

-- marks of this text, the next byte at this place
backslashes-clean : (marked : ℕ → Bool) (n k : ℕ) (s : List ℕ) → clean n s ≡ true
    → ((i : ℕ) → marked (k + i) ≡ true → is_ascii (get_or s i 0) ≡ true)
    → clean n (with_backslashes marked k s) ≡ true
backslashes-clean marked zero k [] h low = refl
backslashes-clean marked (suc n) k [] h low = absurd (cc)
backslashes-clean marked zero k (b ∷ s) h low =
    let rest = with_backslashes marked (suc k) s in
    let more = backslashes-clean marked (continuation_len b) (suc k) s h
    (λ i is. low (suc i) (ap marked (omega arith) ∙ is)) in
    in-either (marked k) (backslash ∷ b ∷ rest) (b ∷ rest) more more
backslashes-clean marked (suc n) k (b ∷ s) h low =
    let p = and_parts (not (nat_lt b 128)) (clean n s) h in
    let rest = with_backslashes marked (suc k) s in
    let none : marked k ≡ false =
    unmarked b n s (marked k) h (λ is. low 0 (ap marked (omega arith) ∙ is)) in
    ap (λ e. clean (suc n) (cond e (backslash ∷ b ∷ rest) (b ∷ rest))) none
    ∙ ap (λ e. e && clean n rest) p.0
    ∙ backslashes-clean marked n (suc k) s p.1 (λ i is. low (suc i) (ap marked (omega arith) ∙ is))

pub escaped-clean : (place : Place) (s : List ℕ) → IsClean s → IsClean (escaped place s)
escaped-clean place s h =
    backslashes-clean (is_marked place s) 0 0 s h
    (λ i is. mark_is_ascii place s i (ap (is_marked place s) (omega arith) ∙ is))

-- the signs that stand in addresses and titles
data Signs : List ℕ → Type 0 where
  brackets : Signs (codes "<>")
  signs : Signs (codes "()<>")
  quotes : Signs (codes "\"")

escapes-ascii : (ss : List ℕ) → Signs ss → (b : ℕ) (s : List ℕ) → is_escaped ss b s ≡ true
    → is_ascii b ≡ true
escapes-ascii ss brackets b s e = grind (arith, nat_tests)
escapes-ascii ss signs b s e = grind (arith, nat_tests)
escapes-ascii ss quotes b s e = grind (arith, nat_tests)

reference-ascii : (b : ℕ) (x : Bool) → ((b == ampersand) && x) ≡ true → is_ascii b ≡ true
reference-ascii b x e = grind (arith, nat_tests)

signs-clean : (ss : List ℕ) → Signs ss → (n : ℕ) (s : List ℕ) → clean n s ≡ true
    → clean n (escaped_in ss s) ≡ true
signs-clean ss are zero [] h = refl
signs-clean ss are (suc n) [] h = absurd (cc)
signs-clean ss are zero (b ∷ s) h =
    let rest = escaped_in ss s in
    let more = signs-clean ss are (continuation_len b) s h in
    elim (is_escaped ss b s)
    as (λ e. is_escaped ss b s ≡ e
    → IsClean (cond e (backslash ∷ b ∷ []) (cond ((b == ampersand) && is_reference s) (codes "&amp;") (b ∷ []))
    ++ rest)) [
      | true ↦ λ is. more
      | false ↦ λ is.
          elim ((b == ampersand) && is_reference s)
          as (λ e. ((b == ampersand) && is_reference s) ≡ e
          → IsClean (cond e (codes "&amp;") (b ∷ []) ++ rest)) [
            | true ↦ λ at.
                (let none : continuation_len b ≡ 0 =
                one-byte b (let low = reference-ascii b (is_reference s) at in grind (arith, nat_tests, low)) in
                ap (λ k. clean k rest) (sym none) ∙ more)
            | false ↦ λ at. more
          ] refl
    ] refl
signs-clean ss are (suc n) (b ∷ s) h =
    let p = and_parts (not (nat_lt b 128)) (clean n s) h in
    let rest = escaped_in ss s in
    let first = unmarked b n s (is_escaped ss b s) h (escapes-ascii ss are b s) in
    let second = unmarked b n s ((b == ampersand) && is_reference s) h (reference-ascii b (is_reference s)) in
    ap (λ e. clean (suc n) (cond e (backslash ∷ b ∷ [])
    (cond ((b == ampersand) && is_reference s) (codes "&amp;") (b ∷ [])) ++ rest)) first
    ∙ ap (λ e. clean (suc n) (cond e (codes "&amp;") (b ∷ []) ++ rest)) second
    ∙ ap (λ e. e && clean n rest) p.0 ∙ signs-clean ss are n s p.1

-- what stands for a byte of a value
picked : (e : Bool) (b c : ℕ) (t other rest : List ℕ) → (b == c) ≡ e → continuation_len c ≡ 0 → IsClean t
    → clean (continuation_len b) rest ≡ true → IsClean (other ++ rest) → IsClean (cond e t other ++ rest)
picked true b c t other rest is none ok more else =
    in-append t rest ok (ap (λ k. clean k rest) (sym (ap continuation_len (eqb-true b c is) ∙ none)) ∙ more)
picked false b c t other rest is none ok more else = else

skipped : (e : Bool) (n : ℕ) (t other rest : List ℕ) → e ≡ false → clean n (other ++ rest) ≡ true
    → clean n (cond e t other ++ rest) ≡ true
skipped true n t other rest is more = absurd (cc)
skipped false n t other rest is more = more

apart-from : (b c : ℕ) → not (nat_lt b 128) ≡ true → c < 128 → (b == c) ≡ false
apart-from b c h lt = grind (arith, nat_tests, h, lt)

value-clean : (n : ℕ) (s : List ℕ) → clean n s ≡ true → clean n (escaped_value s) ≡ true
value-clean zero [] h = refl
value-clean (suc n) [] h = absurd (cc)
value-clean zero (b ∷ s) h =
    let rest = escaped_value s in
    let more = value-clean (continuation_len b) s h in
    picked (b == ampersand) b ampersand (codes "&amp;") _ rest refl refl refl more
    (picked (b == less_than_sign) b less_than_sign (codes "&lt;") _ rest refl refl refl more
    (picked (b == greater_than_sign) b greater_than_sign (codes "&gt;") _ rest refl refl refl more
    (picked (b == quotation_mark) b quotation_mark (codes "&quot;") _ rest refl refl refl more
    (picked (b == vertical_bar) b vertical_bar (codes "&#124;") _ rest refl refl refl more
    (picked (b == right_square_bracket) b right_square_bracket (codes "&#93;") (b ∷ []) rest refl refl refl more
    more)))))
value-clean (suc n) (b ∷ s) h =
    let p = and_parts (not (nat_lt b 128)) (clean n s) h in
    let rest = escaped_value s in
    let here : clean (suc n) (b ∷ rest) ≡ true = ap (λ e. e && clean n rest) p.0 ∙ value-clean n s p.1 in
    skipped (b == ampersand) (suc n) (codes "&amp;") _ rest (apart-from b ampersand p.0 (omega arith))
    (skipped (b == less_than_sign) (suc n) (codes "&lt;") _ rest (apart-from b less_than_sign p.0 (omega arith))
    (skipped (b == greater_than_sign) (suc n) (codes "&gt;") _ rest (apart-from b greater_than_sign p.0 (omega arith))
    (skipped (b == quotation_mark) (suc n) (codes "&quot;") _ rest (apart-from b quotation_mark p.0 (omega arith))
    (skipped (b == vertical_bar) (suc n) (codes "&#124;") _ rest (apart-from b vertical_bar p.0 (omega arith))
    (skipped (b == right_square_bracket) (suc n) (codes "&#93;") (b ∷ []) rest
    (apart-from b right_square_bracket p.0 (omega arith)) here)))))

-- ---- addresses and titles

in-destination : (s : List ℕ) → IsClean s → IsClean (destination s)
in-destination s h =
    in-either (needs_brackets s) ((codes "<" ++ escaped_in (codes "<>") s) ++ codes ">") (escaped_in (codes "()<>") s)
    (in-append (codes "<" ++ escaped_in (codes "<>") s) (codes ">")
    (in-append (codes "<") (escaped_in (codes "<>") s) refl (signs-clean (codes "<>") brackets 0 s h)) refl)
    (signs-clean (codes "()<>") signs 0 s h)

in-title : (t : Option (List ℕ)) → is_title t ≡ true → IsClean (title t)
in-title None h = refl
in-title (Some s) h =
    let a = is_attribute s in
    let q = and_parts (a && list_any is_line_byte s) (list_any (λ b. not (b == space)) s) h in
    let kept = (and_parts a (list_any is_line_byte s) q.0).0 in
    in-append (codes " \"" ++ escaped_in (codes "\"") s) (codes "\"")
    (in-append (codes " \"") (escaped_in (codes "\"") s) refl
    (signs-clean (codes "\"") quotes 0 s (in-attribute s kept))) refl

in-resource : (address : List ℕ) (t : Option (List ℕ)) → is_attribute address ≡ true → is_title t ≡ true
    → IsClean (written_resource address t)
in-resource address t a b =
    in-append ((codes "](" ++ destination address) ++ title t) (codes ")")
    (in-append (codes "](" ++ destination address) (title t)
    (in-append (codes "](") (destination address) refl (in-destination address (in-attribute address a)))
    (in-title t b)) refl

-- ---- inlines

in-code : (l : Line) (s : List ℕ) → is_text s ≡ true → IsClean (written_code l s)
in-code l s h =
    let n = smallest_unused_len s in
    let padded = meets_delimiter s in
    let plain = in-text s h in
    let pad : IsClean (space_if padded) = in-either padded (space ∷ []) [] refl refl in
    let signs = in-repeat n 96 refl in
    in-either (needs_tags l s) ((codes "<code>" ++ escaped (place_in_tags l) s) ++ codes "</code>")
    (delimited_text padded n s)
    (in-append (codes "<code>" ++ escaped (place_in_tags l) s) (codes "</code>")
    (in-append (codes "<code>") (escaped (place_in_tags l) s) refl
    (escaped-clean (place_in_tags l) s plain)) refl)
    (in-append (((replicate n 96 ++ space_if padded) ++ s) ++ space_if padded) (replicate n 96)
    (in-append ((replicate n 96 ++ space_if padded) ++ s) (space_if padded)
    (in-append (replicate n 96 ++ space_if padded) s
    (in-append (replicate n 96) (space_if padded) signs pad) plain) pad) signs)

-- both marks of a format
abbrev MarkClean : Mark → Type 0
MarkClean mark = IsClean mark.opener × IsClean mark.closer

mark-either : (e : Bool) (a b : Mark) → MarkClean a → MarkClean b → MarkClean (cond e a b)
mark-either true a b one two = one
mark-either false a b one two = two

mark-in : (format : Format) (s : Sides) → has_title format ≡ true → MarkClean (mark_for format s)
mark-in Emphasis s h =
    mark-either (fits asterisk s) (row asterisk (codes "*"))
    (cond (fits underscore s) (row underscore (codes "_")) (tags_of Emphasis)) (refl, refl)
    (mark-either (fits underscore s) (row underscore (codes "_")) (tags_of Emphasis) (refl, refl) (refl, refl))
mark-in Strong s h =
    mark-either (fits asterisk s) (row asterisk (codes "**"))
    (cond (fits underscore s) (row underscore (codes "__")) (tags_of Strong)) (refl, refl)
    (mark-either (fits underscore s) (row underscore (codes "__")) (tags_of Strong) (refl, refl) (refl, refl))
mark-in Deleted s h =
    mark-either (fits tilde s) (row tilde (codes "~~")) (tags_of Deleted) (refl, refl) (refl, refl)
mark-in Superscript s h = (refl, refl)
mark-in Subscript s h = (refl, refl)
mark-in Inserted s h = (refl, refl)
mark-in Underlined s h = (refl, refl)
mark-in Marked s h = (refl, refl)
mark-in Small s h = (refl, refl)
mark-in Keyboard s h = (refl, refl)
mark-in (Abbreviation t) s h = (
  in-append (codes "<abbr title=\"" ++ escaped_value t) (codes "\">")
      (in-append (codes "<abbr title=\"") (escaped_value t) refl
      (value-clean 0 t (in-text t (and_parts (is_text t) (is_trimmed t) h).0))) refl,
  refl,
)

in-anchor : (id : List ℕ) → IsClean id → IsClean (html.anchor id)
in-anchor id h =
    in-append ((codes "<a id=\"" ++ escaped_value id) ++ codes "\">") (codes "</a>")
    (in-append (codes "<a id=\"" ++ escaped_value id) (codes "\">")
    (in-append (codes "<a id=\"") (escaped_value id) refl (value-clean 0 id h)) refl) refl

break-clean : (style : BrStyle) → IsClean (breaks.line_break style)
break-clean TwoSpaces = refl
break-clean Backslash = refl

mutual
  pub in-inlines : (style : BrStyle) (in_link : Bool) (around : List Format) (w : Written) (closing : Option ℕ)
      (xs : Inlines) → are_normal in_link around xs ≡ true → IsClean w.text
      → IsClean (written (line_in Paragraph style in_link) w closing xs).text
  in-inlines style in_link around w closing no_inlines normal h = h
  in-inlines style in_link around w closing (inline x rest) normal h =
      let l = line_in Paragraph style in_link in
      let f = follows Paragraph closing rest in
      let p = and_parts (is_normal in_link around x && meets x rest) (are_normal in_link around rest) normal in
      in-inlines style in_link around (with_inline l w f x) closing rest p.1
      (in-inline style in_link around w f x (and_parts (is_normal in_link around x) (meets x rest) p.0).0 h)

  pub in-inline : (style : BrStyle) (in_link : Bool) (around : List Format) (w : Written) (f : Following) (x : Inline)
      → is_normal in_link around x ≡ true → IsClean w.text
      → IsClean (with_inline (line_in Paragraph style in_link) w f x).text
  in-inline style in_link around w f (text s) normal h =
      let place = place_of (line_in Paragraph style in_link) w.text f.after in
      in-append w.text (escaped place s) h (escaped-clean place s (in-text s normal))
  in-inline style in_link around w f (code s) normal h =
      in-append w.text (written_code (line_in Paragraph style in_link) s) h
      (in-code (line_in Paragraph style in_link) s (and_parts (is_text s) (is_trimmed s) normal).0)
  in-inline style in_link around w f (formatted format content) normal h =
      let l = line_in Paragraph style in_link in
      let mark = mark_for format (sides_of l w.text f content) in
      let a = not (is_barred around format) in
      let b = has_title format in
      let c = not (has_none content) in
      let d = are_whole content in
      let p = and_parts (a && b && c && d) (are_normal in_link (format ∷ around) content) normal in
      let q = and_parts (a && b && c) d p.0 in
      let r = and_parts (a && b) c q.0 in
      let marks = mark-in format (sides_of l w.text f content) (and_parts a b r.0).1 in
      in-append (written l (wrote w mark.opener) (Some mark.sign) content).text mark.closer
      (in-inlines style in_link (format ∷ around) (wrote w mark.opener) (Some mark.sign) content p.1
      (in-append w.text mark.opener h marks.0)) marks.1
  in-inline style in_link around w f (link address name content) normal h =
      let a = not in_link in
      let b = is_attribute address in
      let c = is_title name in
      let d = not (has_none content) in
      let p = and_parts (a && b && c && d) (are_normal true around content) normal in
      let q = and_parts (a && b && c) d p.0 in
      let r = and_parts (a && b) c q.0 in
      in-append (written (line_in Paragraph style true) (wrote w (codes "[")) (Some right_square_bracket) content).text
      (written_resource address name)
      (in-inlines style true around (wrote w (codes "[")) (Some right_square_bracket) content p.1
      (in-append w.text (codes "[") h refl))
      (in-resource address name (and_parts a b r.0).1 r.1)
  in-inline style in_link around w f (image address name description) normal h =
      let a = is_attribute address in
      let b = is_title name in
      let p = and_parts (a && b) (is_line description) normal in
      let q = and_parts a b p.0 in
      let d = escaped place_of_description description in
      in-append w.text ((codes "![" ++ d) ++ written_resource address name) h
      (in-append (codes "![" ++ d) (written_resource address name)
      (in-append (codes "![") d refl
      (escaped-clean place_of_description description (in-line description p.1)))
      (in-resource address name q.0 q.1))
  in-inline style in_link around w f (anchor id) normal h =
      let p = and_parts (not in_link && is_text id) (is_trimmed id) normal in
      in-append w.text (html.anchor id) h (in-anchor id (in-text id (and_parts (not in_link) (is_text id) p.0).1))
  in-inline style in_link around w f line_break normal h = in-append w.text (breaks.line_break style) h
      (break-clean style)
  in-inline style in_link around w f (task is_checked) normal h = absurd (cc)
