-- Code spans and autolinks as the writer makes them.
use Rattle.std.proofs.Common.{◌≡◌, ◌∙◌, refl, ap, sym, ℕ, zero, suc, ◌+◌, ◌<◌, ◌≤◌, ◌⊎◌, inl, inr, Bool, true, false}
use Rattle.std.proofs.Common.{List, [], ◌∷◌, ◌++◌, Option, Some, None, arith, subst, length, codes, get_or}
use Rattle.std.specs.Prelude.{not, ◌&&◌, ◌||◌, ◌==◌, if◌then◌else◌, slice_index, nat_le, nat_lt}
use Rattle.std.specs.List.{list_all, list_any, position_or_len, range_with_len, prefix_len}
use Rattle.std.specs.Char.{is_ascii_alphabetic, is_ascii_alphanumeric}
use Rattle.std.specs.Int.{is_in_range}
use Rattle.std.proofs.lemmas.Bool.{cases_lt, eqb-true, eq-eqb, and_parts, and_from, not-true, or_parts, leb-false}
use Rattle.std.proofs.lemmas.Bool.{lt-ltb, or_left, or_right, or_cases}
use Rattle.std.proofs.lemmas.List.{append_assoc, length-append}
use Rattle.std.proofs.lemmas.List.Sums.{passes_at_first}
use Rattle.htmd_lexical.specs.Characters.{is_one_of}
use Rattle.htmd_lexical.specs.CharacterClasses.{first_is, leading_run, behind_run}
use Rattle.htmd_markdown.specs.Runs.{longest_run, has_run}
use Rattle.htmd_markdown.specs.CodeSpans.{delimited_text, meets_delimiter}
use Rattle.htmd_markdown.proofs.RunsLemmas.{no_run_so_long}
use Rattle.htmd_commonmark.specs.CodeSpans.{code_span}
use Rattle.htmd_commonmark.specs.References.{is_reference, holds_reference}
use Rattle.htmd_commonmark.specs.Addresses.{is_autolink, begins_with_scheme, is_barred, is_scheme_character}
use Rattle.htmd_commonmark.specs.Addresses.{is_space_or_control}
use Rattle.htmd_commonmark.specs.InlineMarkdown.{autolink}
use Rattle.htmd_commonmark_reading.specs.Characters.{resolved, referenced, dereferenced, reference, Piece, itself}
use Rattle.htmd_commonmark_reading.specs.Characters.{piece_or}
use Rattle.htmd_commonmark_reading.specs.RawTags.{begins_with_letter}
use Rattle.htmd_commonmark_reading.specs.InlineTokens.{is_in_scheme, is_in_uri, is_scheme, uri, angle, if_uri, if_email}
use Rattle.htmd_commonmark_reading.specs.InlineTokens.{if_tag, email, if_closed, link_to}
use Rattle.htmd_commonmark_reading.specs.RawTags.{raw_tag}
use Rattle.htmd_commonmark_reading.specs.Markup.{no_inlines, code, link, letters}
use Rattle.htmd_commonmark_reading.specs.DelimiterRuns.{finished}
use Rattle.htmd_commonmark_reading.specs.Brackets.{References, and_tokens, scanned, token_step, angle_step}
use Rattle.htmd_document.specs.NormalInlines.{is_line_byte}
use Rattle.htmd_law_inlines.proofs.Pieces.{IsRead, steps_to}
use Rattle.htmd_law_inlines.proofs.TextPieces.{test, skips, is_no_reference}
use Rattle.htmd_law_inlines.proofs.ReferencePieces.{Writes, written_none}
use Rattle.htmd_law_inlines.proofs.CodePieces.{delimited_read}

-- ---- code spans

range_at : (a n k : ℕ) → k < n → get_or (range_with_len a n) k 0 ≡ a + k
range_at a zero k lt = absurd (omega arith)
range_at a (suc n) zero lt = omega arith
range_at a (suc n) (suc k) lt = range_at (a + 1) n k (omega arith) ∙ omega arith

range_length : (a n : ℕ) → length (range_with_len a n) ≡ n
range_length a zero = refl
range_length a (suc n) = ap suc (range_length (a + 1) n)

unused_at : (s : List ℕ) (n k : ℕ) → n ≡ longest_run 96 s
    → k ≡ position_or_len (λ m. not (has_run 96 m s)) (range_with_len 1 n) → ((k < n) ⊎ (n ≤ k))
    → has_run 96 (1 + k) s ≡ false
unused_at s n k most first (inl lt) =
    let size = range_length 1 n in
    let free = passes_at_first (λ m. not (has_run 96 m s)) (range_with_len 1 n) 0 (omega (arith, size)) in
    let here : get_or (range_with_len 1 n)
    (position_or_len (λ m. not (has_run 96 m s)) (range_with_len 1 n)) 0 ≡ 1 + k =
    ap (λ i. get_or (range_with_len 1 n) i 0) (sym first) ∙ range_at 1 n k lt in
    not-true (has_run 96 (1 + k) s) (ap (λ m. not (has_run 96 m s)) (sym here) ∙ free)
unused_at s n k most first (inr le) = no_run_so_long 96 (1 + k) s (omega arith)

-- a code span is read as its code
pub code_read : (refs : References) (in_link : Bool) (before ks : List ℕ) (x : ℕ) (s : List ℕ)
    → list_all is_line_byte (x ∷ s) ≡ true → (x == 32) ≡ false → first_is 96 ks ≡ false
    → IsRead refs in_link before (code_span (x ∷ s)) ks (code (x ∷ s) no_inlines)
code_read refs in_link before ks x s p sp h =
    let n = longest_run 96 (x ∷ s) in
    let k = position_or_len (λ m. not (has_run 96 m (x ∷ s))) (range_with_len 1 n) in
    let e : 1 + k ≡ suc k = omega arith in
    subst (λ m. IsRead refs in_link before (delimited_text (meets_delimiter (x ∷ s)) m (x ∷ s)) ks
    (code (x ∷ s) no_inlines))
    (sym e)
    (delimited_read refs in_link before ks k x s p sp
    (ap (λ m. has_run 96 m (x ∷ s)) (sym e) ∙ unused_at (x ∷ s) n k refl refl (cases_lt k n)) h)

-- ---- autolinks

scheme_run : (s r : List ℕ) → slice_index s (prefix_len is_scheme_character s) ≡ 58
    → (length (leading_run is_in_scheme (s ++ r)) ≡ prefix_len is_scheme_character s)
    × (first_is 58 (behind_run is_in_scheme (s ++ r)) ≡ true)
scheme_run [] r h = absurd (omega arith)
scheme_run (c ∷ s) r h =
    test (is_in_scheme c)
    (λ e. let n = prefix_len is_scheme_character s in
    let i : 1 + n ≡ suc n = omega arith in
    let h' : slice_index (c ∷ s) (1 + n) ≡ 58 = rw e at h in
    let next = scheme_run s r (ap (slice_index (c ∷ s)) (sym i) ∙ h') in
    rw e (ap suc next.0 ∙ sym i, next.1))
    (λ e. let h' : c ≡ 58 = rw e at h in rw e (refl, eq-eqb c 58 h'))

letter_or_digit : (c : ℕ) → is_ascii_alphabetic c ≡ true → is_ascii_alphanumeric c ≡ true
letter_or_digit c h =
    elim (or_cases (is_in_range 65 90 c) (is_in_range 97 122 c) h) as (λ x. is_ascii_alphanumeric c ≡ true) [
      | inl x ↦ or_left (is_in_range 48 57 c || is_in_range 65 90 c) (is_in_range 97 122 c)
          (or_right (is_in_range 48 57 c) (is_in_range 65 90 c) x)
      | inr x ↦ or_right (is_in_range 48 57 c || is_in_range 65 90 c) (is_in_range 97 122 c) x
    ]

scheme_letter : (s r : List ℕ) → is_ascii_alphabetic (slice_index s 0) ≡ true
    → begins_with_letter (leading_run is_in_scheme (s ++ r)) ≡ true
scheme_letter [] r h = absurd (cc)
scheme_letter (c ∷ s) r h =
    let e : is_in_scheme c ≡ true =
    or_left (is_ascii_alphanumeric c) (is_one_of (codes "+.-") c) (letter_or_digit c h) in
    rw e h

uri_run : (s ks : List ℕ) → list_any is_barred s ≡ false
    → (leading_run is_in_uri (s ++ (62 ∷ ks)) ≡ s) × (behind_run is_in_uri (s ++ (62 ∷ ks)) ≡ 62 ∷ ks)
uri_run [] ks h = (refl, refl)
uri_run (c ∷ s) ks h =
    let p = or_parts (is_barred c) (list_any is_barred s) h in
    let q = or_parts (is_space_or_control c) (is_one_of (codes "<>") c) p.0 in
    let r = or_parts (nat_le c 32) (c == 0x7F) q.0 in
    let a = or_parts (c == 60) ((c == 62) || false) q.1 in
    let z = or_parts (c == 62) false a.1 in
    let e : is_in_uri c ≡ true =
    and_from (nat_lt 32 c) (not ((c == 0x7F) || (c == 60) || (c == 62))) (lt-ltb 32 c (leb-false c 32 r.0))
    (rw (r.1, a.0, z.0) refl) in
    let next = uri_run s ks p.1 in
    rw e (ap (λ l. c ∷ l) next.0, next.1)

writes_itself : (s : List ℕ) → Writes s s
writes_itself [] = refl
writes_itself (c ∷ s) = inl (refl, writes_itself s)

no_piece : (r : Option Piece) (b : ℕ) → is_no_reference r ≡ true → piece_or r (itself b) ≡ itself b
no_piece None b h = refl
no_piece (Some p) b h = absurd (cc)

no_references : (s : List ℕ) → holds_reference s ≡ false → dereferenced s ≡ s
no_references [] h = refl
no_references (b ∷ s) h =
    let p = or_parts ((b == 38) && is_reference s) (holds_reference s) h in
    let e : referenced b s ≡ itself b =
    test (b == 38)
    (λ x. rw x (no_piece (reference s) b (written_none s s (writes_itself s) (rw x at p.0)))) (λ x. rw x refl) in
    ap (λ (x : Piece). x.meaning ++ resolved referenced x.following s) e ∙ ap (λ l. b ∷ l) (no_references s p.1)

uri_is : (s ks : List ℕ) → is_autolink s ≡ true → uri (s ++ (62 ∷ ks)) ≡ Some s
uri_is s ks h =
    let p = and_parts (begins_with_scheme s && not (list_any is_barred s)) (not (holds_reference s)) h in
    let q = and_parts (begins_with_scheme s) (not (list_any is_barred s)) p.0 in
    let len = prefix_len is_scheme_character s in
    let t1 = and_parts (is_ascii_alphabetic (slice_index s 0) && nat_le 2 len && nat_le len 32)
    (slice_index s len == 58) q.0 in
    let t2 = and_parts (is_ascii_alphabetic (slice_index s 0) && nat_le 2 len) (nat_le len 32) t1.0 in
    let t3 = and_parts (is_ascii_alphabetic (slice_index s 0)) (nat_le 2 len) t2.0 in
    let r = 62 ∷ ks in
    let front = leading_run is_in_scheme (s ++ r) in
    let run = scheme_run s r (eqb-true (slice_index s len) 58 t1.1) in
    let is : (is_scheme front && first_is 58 (behind_run is_in_scheme (s ++ r))) ≡ true =
    and_from (is_scheme front) (first_is 58 (behind_run is_in_scheme (s ++ r)))
    (and_from (begins_with_letter front && nat_le 2 (length front)) (nat_le (length front) 32)
    (and_from (begins_with_letter front) (nat_le 2 (length front)) (scheme_letter s r t3.0)
    (ap (nat_le 2) run.0 ∙ t3.1))
    (ap (λ n. nat_le n 32) run.0 ∙ t2.1)) run.1 in
    let whole = uri_run s ks (not-true (list_any is_barred s) q.1) in
    ap (λ t. if t then if_closed (leading_run is_in_uri (s ++ r)) (behind_run is_in_uri (s ++ r)) else None) is
    ∙ ap (λ l. if_closed l (behind_run is_in_uri (s ++ r))) whole.0 ∙ ap (if_closed s) whole.1

pub autolink_read : (refs : References) (in_link : Bool) (before s ks : List ℕ) → is_autolink s ≡ true
    → IsRead refs in_link before (autolink s) ks (link s None (letters s no_inlines) no_inlines)
autolink_read refs in_link before s ks h = record {
  tokens = finished (link s None (letters s no_inlines) no_inlines) ∷ [];
  scans = λ b w.
      let t = s ++ (62 ∷ ks) in
      let p = and_parts (begins_with_scheme s && not (list_any is_barred s)) (not (holds_reference s)) h in
      let new = and_tokens b (finished (link s None (letters s no_inlines) no_inlines) ∷ []) in
      let more : suc (length s) ≡ length (s ++ (62 ∷ [])) = let l = length-append s (62 ∷ []) in omega arith in
      steps_to refs 60 ((s ++ (62 ∷ [])) ++ ks) before b
      (token_step b (link s None (letters s no_inlines) no_inlines) (suc (length s)))
      (ap (λ l. angle_step b (angle l)) (append_assoc s (62 ∷ []) ks)
      ∙ ap (λ u. angle_step b (if_uri u (if_email (email t) (if_tag (raw_tag t))))) (uri_is s ks h)
      ∙ ap (λ d. token_step b (link_to d d) (suc (length s))) (no_references s (not-true (holds_reference s) p.1)))
      ∙ ap (λ n. scanned refs ((s ++ (62 ∷ [])) ++ ks) n (60 ∷ before) new) more
      ∙ skips refs (s ++ (62 ∷ [])) ks (60 ∷ before) new;
  means = λ st. refl;
}
