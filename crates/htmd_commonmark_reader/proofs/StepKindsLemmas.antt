-- Steps of the scan, by what a character begins.
use Rattle.std.proofs.Common.{◌≡◌, ◌∙◌, ℕ, suc, ◌+◌, ◌-◌, ◌<◌, ◌≤◌, true, false, List, [], ◌∷◌, ◌++◌}
use Rattle.std.proofs.Common.{length, drop, take, refl, ap, sym, subst, arith, Option, Some, None}
use Rattle.std.specs.Prelude.{◌==◌, ◌&&◌, nat_le, map, replicate, codes}
use Rattle.std.specs.Str.{IsUtf8, IsCharBoundary}
use Rattle.std.proofs.lemmas.Bool.{eqb-true, le-leb, lt-leb, leb-true, leb-false}
use Rattle.std.proofs.lemmas.Str.{IsCharBoundary-after_ascii}
use Rattle.std.proofs.lemmas.List.{append-nil, length-take, drop-drop}
use Rattle.htmd_lexical.proofs.Cases.{test}
use Rattle.htmd_lexical.proofs.RunsLemmas.{drop_run}
use Rattle.htmd_lexical.specs.CharacterClasses.{first_is, leading_run, behind_run}
use Rattle.htmd_commonmark_reading.specs.BlockStarts.{is_same}
use Rattle.htmd_commonmark_reading.specs.Brackets as spec
use Rattle.htmd_commonmark_reading.specs.Brackets.{Brackets, bracket, and_tokens}
use Rattle.htmd_commonmark_reading.specs.Characters.{Piece, is_space_or_tab, past_blanks, begins_with_punctuation}
use Rattle.htmd_commonmark_reading.specs.Characters.{dereferenced, itself, piece_or, reference}
use Rattle.htmd_commonmark_reading.specs.DelimiterRuns.{finished, run_of}
use Rattle.htmd_commonmark_reading.specs.DelimiterRuns as token
use Rattle.htmd_commonmark_reading.specs.InlineTokens.{is_grave_accent, before_graves, in_one_line, code_text, angle}
use Rattle.htmd_commonmark_reading.specs.InlineTokens.{if_uri, if_email, if_tag, link_to}
use Rattle.htmd_commonmark_reading.specs.Markup.{Inlines, no_inlines, letter, letters, line_break, signs, code, raw}
use Rattle.htmd_parts.specs.Parts as parts
use Rattle.htmd_parts.specs.Parts.{Part, begun, ended, link_end, inlines_parts}
use Rattle.htmd_commonmark_reader.proofs.CutsLemmas.{row_cut}
use Rattle.htmd_commonmark_reader.specs.Scans.{IsScan}
use Rattle.htmd_commonmark_reader.specs.Slots.{link_parts}
use Rattle.htmd_commonmark_reader.specs.Steps.{IsStep}
use Rattle.htmd_commonmark_reader.specs.declared.brackets.Scan.{Scan}

-- ---- parts

letters_before : (s : List ℕ) (rest : List Part)
    → map parts.letter s ++ rest ≡ inlines_parts (letters s no_inlines) rest
letters_before [] rest = refl
letters_before (c ∷ s) rest = ap (λ l. parts.letter c ∷ l) (letters_before s rest)

pub autolink_parts : (address s : List ℕ)
    → link_parts address s ++ [] ≡ inlines_parts (link_to address s) []
autolink_parts address s =
    append-nil (link_parts address s)
    ∙ ap (λ l. begun (parts.link address None) ∷ l) (letters_before s (ended link_end ∷ []))

-- ---- backslashes

pub newline_cut : (s : List ℕ) → IsUtf8 s → first_is 10 s ≡ true → IsCharBoundary s 1
newline_cut [] u e = absurd (cc)
newline_cut (c ∷ t) u e =
    let k = eqb-true c 10 e in IsCharBoundary-after_ascii (c ∷ t) 0 u (omega arith) (omega (arith, k))

pub slash_break : (b : Brackets) (s rest : List ℕ) (scan : Scan) → first_is 10 s ≡ true
    → rest ≡ past_blanks (drop 1 s) → IsScan (and_tokens b (finished (line_break no_inlines) ∷ [])) scan
    → IsStep (spec.backslash_step b s) s rest scan
slash_break b [] rest scan e r h = absurd (cc)
slash_break b (c ∷ t) rest scan e r h =
    rw e (record { stack = h; behind = r ∙ sym (drop_run is_space_or_tab t) })

pub slash_escape : (b : Brackets) (s escaped rest : List ℕ) (scan : Scan) → first_is 10 s ≡ false
    → begins_with_punctuation s ≡ true → escaped ≡ take 1 s → rest ≡ drop 1 s
    → IsScan (and_tokens b (finished (letters escaped no_inlines) ∷ [])) scan
    → IsStep (spec.backslash_step b s) s rest scan
slash_escape b [] escaped rest scan e p x r h = absurd (cc)
slash_escape b (c ∷ t) escaped rest scan e p x r h =
    let here = subst (λ l. IsScan (and_tokens b (finished (letters l no_inlines) ∷ [])) scan) x h in
    rw (e, p) (record { stack = here; behind = r })

pub slash_alone : (b : Brackets) (s : List ℕ) (scan : Scan) → first_is 10 s ≡ false
    → begins_with_punctuation s ≡ false
    → IsScan (and_tokens b (finished (letters (92 ∷ []) no_inlines) ∷ [])) scan
    → IsStep (spec.backslash_step b s) s s scan
slash_alone b [] scan e p h = record { stack = h; behind = refl }
slash_alone b (c ∷ t) scan e p h = rw (e, p) (record { stack = h; behind = refl })

-- ---- rows and runs

pub row_is : (c : ℕ) (s : List ℕ)
    → leading_run (is_same c) s ≡ replicate (length (leading_run (is_same c) s)) c
row_is c [] = refl
row_is c (d ∷ s) =
    test (d == c)
    (λ e. rw e (ap (λ x. x ∷ leading_run (is_same c) s) (eqb-true d c e) ∙ ap (λ l. c ∷ l) (row_is c s)))
    (λ e. rw e refl)

-- of a run at its first sign
pub record RunAt (c : ℕ) (s row after : List ℕ) : Type 0 where
  pub first : first_is c s ≡ true
  pub run_is : row ≡ leading_run (is_same c) s
  pub after_is : after ≡ behind_run (is_same c) s

pub record RunBehind (c : ℕ) (t row after : List ℕ) : Type 0 where
  pub count : length row ≡ suc (length (leading_run (is_same c) t))
  pub after_is : after ≡ behind_run (is_same c) t
  pub drops : after ≡ drop (length (leading_run (is_same c) t)) t

pub run_behind : (c : ℕ) (s row after : List ℕ) → RunAt c s row after → RunBehind c (drop 1 s) row after
run_behind c [] row after h = absurd (let e = h.first in cc)
run_behind c (d ∷ t) row after h =
    let e : (d == c) ≡ true = h.first in
    let one : leading_run (is_same c) (d ∷ t) ≡ d ∷ leading_run (is_same c) t = rw e refl in
    let two : behind_run (is_same c) (d ∷ t) ≡ behind_run (is_same c) t = rw e refl in
    record {
      count = ap length (h.run_is ∙ one);
      after_is = h.after_is ∙ two;
      drops = h.after_is ∙ two ∙ sym (drop_run (is_same c) t);
    }

pub content_length : (content behind : List ℕ) (len : ℕ) → content ≡ take len behind → len ≤ length behind
    → length content ≡ len
content_length content behind len e l = omega (arith, ap length e, length-take len behind)

pub code_found : (b : Brackets) (s row behind content rest : List ℕ) (len : ℕ) (scan : Scan)
    → RunAt 96 s row behind → Some content ≡ before_graves (length row) 0 behind → length content ≡ len
    → rest ≡ drop (len + length row) behind
    → IsScan (and_tokens b (finished (code (code_text (in_one_line content)) no_inlines) ∷ [])) scan
    → IsStep (spec.code_step b (drop 1 s)) (drop 1 s) rest scan
code_found b s row behind content rest len scan h e l r k =
    let t = drop 1 s in
    let n = length (leading_run is_grave_accent t) in
    let at = run_behind 96 s row behind h in
    let found : Some content ≡ before_graves (suc n) 0 (behind_run is_grave_accent t) =
    e ∙ ap (λ j. before_graves j 0 behind) at.count ∙ ap (before_graves (suc n) 0) at.after_is in
    let all : n + (len + suc n) ≡ n + length content + suc n = omega (arith, l) in
    let behind_is : rest ≡ drop (n + length content + suc n) t =
    r ∙ ap (λ j. drop (len + j) behind) at.count ∙ ap (drop (len + suc n)) at.drops ∙ drop-drop (len + suc n) n t
    ∙ ap (λ j. drop j t) all in
    subst (λ o. IsStep (spec.code_with b n o) t rest scan) found (record { stack = k; behind = behind_is })

pub record CodeCut (behind : List ℕ) (len count : ℕ) : Type 0 where
  pub before : IsCharBoundary behind len
  pub after : IsCharBoundary behind (len + count)

pub code_cut : (s row behind : List ℕ) (len : ℕ) → RunAt 96 s row behind → IsUtf8 behind
    → len ≤ length behind
    → Some (take len behind) ≡ before_graves (length row) 0 behind → CodeCut behind len (length row)
code_cut s row behind len h u l e =
    let n = length (leading_run (is_same 96) (drop 1 s)) in
    let at = run_behind 96 s row behind h in
    let cut = row_cut behind len n u l (e ∙ ap (λ j. before_graves j 0 behind) at.count) in
    record {
      before = cut.before;
      after = subst (λ j. IsCharBoundary behind (len + j)) (sym at.count) cut.behind;
    }

pub code_missing : (b : Brackets) (s row behind : List ℕ) (scan : Scan)
    → RunAt 96 s row behind → None ≡ before_graves (length row) 0 behind
    → IsScan (and_tokens b (finished (signs 96 (length row) no_inlines) ∷ [])) scan
    → IsStep (spec.code_step b (drop 1 s)) (drop 1 s) behind scan
code_missing b s row behind scan h e k =
    let t = drop 1 s in
    let n = length (leading_run is_grave_accent t) in
    let at = run_behind 96 s row behind h in
    let none : None ≡ before_graves (suc n) 0 (behind_run is_grave_accent t) =
    e ∙ ap (λ j. before_graves j 0 behind) at.count ∙ ap (before_graves (suc n) 0) at.after_is in
    subst (λ o. IsStep (spec.code_with b n o) t behind scan) none
    (record {
      stack = subst (λ j. IsScan (and_tokens b (finished (signs 96 j no_inlines) ∷ [])) scan) at.count k;
      behind = at.drops;
    })

one_more : (n : ℕ) → nat_le 3 (suc n) ≡ nat_le 2 n
one_more n =
    test (nat_le 2 n) (λ e. let l = leb-true 2 n e in le-leb 3 (suc n) (omega arith) ∙ sym e)
    (λ e. let l = leb-false 2 n e in lt-leb 3 (suc n) (omega arith) ∙ sym e)

pub run_as_text : (b : Brackets) (c : ℕ) (before s row after : List ℕ) (scan : Scan) → RunAt c s row after
    → ((c == 126) && nat_le 3 (length row)) ≡ true
    → IsScan (and_tokens b (finished (signs c (length row) no_inlines) ∷ [])) scan
    → IsStep (spec.run_step b c before (drop 1 s)) (drop 1 s) after scan
run_as_text b c before s row after scan h e k =
    let t = drop 1 s in
    let n = length (leading_run (is_same c) t) in
    let at = run_behind c s row after h in
    let long : ((c == 126) && nat_le 2 n) ≡ true =
    ap (λ x. (c == 126) && x) (sym (one_more n)) ∙ ap (λ j. (c == 126) && nat_le 3 j) (sym at.count) ∙ e in
    rw long (record {
      stack = subst (λ j. IsScan (and_tokens b (finished (signs c j no_inlines) ∷ [])) scan) at.count k;
      behind = at.drops;
    })

pub run_as_run : (b : Brackets) (c : ℕ) (before s row after : List ℕ) (scan : Scan) → RunAt c s row after
    → ((c == 126) && nat_le 3 (length row)) ≡ false
    → IsScan (and_tokens b (token.run (run_of c (length row) before after) ∷ [])) scan
    → IsStep (spec.run_step b c before (drop 1 s)) (drop 1 s) after scan
run_as_run b c before s row after scan h e k =
    let t = drop 1 s in
    let n = length (leading_run (is_same c) t) in
    let at = run_behind c s row after h in
    let short : ((c == 126) && nat_le 2 n) ≡ false =
    ap (λ x. (c == 126) && x) (sym (one_more n)) ∙ ap (λ j. (c == 126) && nat_le 3 j) (sym at.count) ∙ e in
    rw short (record {
      stack =
          subst (λ j. IsScan (and_tokens b (token.run (run_of c j before (behind_run (is_same c) t)) ∷ [])) scan)
          at.count
          (subst (λ l. IsScan (and_tokens b (token.run (run_of c (length row) before l) ∷ [])) scan) at.after_is k);
      behind = at.drops;
    })

-- ---- what `<` begins

pub from_first : (s : List ℕ) (n : ℕ) → take (n - 0) s ≡ take n s
from_first s n = ap (λ k. take k s) (less_none n)
  where
    less_none : (n : ℕ) → n - 0 ≡ n
    less_none n = omega arith

address_step : (b : Brackets) (s t rest : List ℕ) (n : ℕ) (x : Inlines) (scan : Scan) → t ≡ take n s
    → n < length s
    → rest ≡ drop (n + 1) s → IsScan (and_tokens b (finished x ∷ [])) scan
    → IsStep (spec.angle_step b (record { content = x; following = suc (length (take n s)) })) s rest scan
address_step b s t rest n x scan e l r h =
    let size : n + 1 ≡ suc (length (take n s)) = omega (arith, length-take n s) in
    record { stack = h; behind = r ∙ ap (λ j. drop j s) size }

pub uri_step : (b : Brackets) (s t rest : List ℕ) (n : ℕ) (scan : Scan)
    → if_uri (Some (take n s)) (if_tag None) ≡ angle s
    → t ≡ take n s → n < length s → rest ≡ drop (n + 1) s
    → IsScan (and_tokens b (finished (link_to (dereferenced t) (dereferenced t)) ∷ [])) scan
    → IsStep (spec.angle_step b (angle s)) s rest scan
uri_step b s t rest n scan e q l r h =
    subst (λ p. IsStep (spec.angle_step b p) s rest scan) e
    (address_step b s t rest n (link_to (dereferenced (take n s)) (dereferenced (take n s))) scan q l r
    (subst (λ x. IsScan (and_tokens b (finished (link_to (dereferenced x) (dereferenced x)) ∷ [])) scan) q h))

pub email_step : (b : Brackets) (s t rest : List ℕ) (n : ℕ) (scan : Scan)
    → if_email (Some (take n s)) (if_tag None) ≡ angle s
    → t ≡ take n s → n < length s → rest ≡ drop (n + 1) s
    → IsScan (and_tokens b (finished (link_to (codes "mailto:" ++ t) t) ∷ [])) scan
    → IsStep (spec.angle_step b (angle s)) s rest scan
email_step b s t rest n scan e q l r h =
    subst (λ p. IsStep (spec.angle_step b p) s rest scan) e
    (address_step b s t rest n (link_to (codes "mailto:" ++ take n s) (take n s)) scan q l r
    (subst (λ x. IsScan (and_tokens b (finished (link_to (codes "mailto:" ++ x) x) ∷ [])) scan) q h))

pub tag_step : (b : Brackets) (here s t rest : List ℕ) (n : ℕ) (scan : Scan) → here ≡ 60 ∷ s
    → if_tag (Some (take n s)) ≡ angle s → t ≡ take (n + 1) here → n ≤ length s → rest ≡ drop n s
    → IsScan (and_tokens b (finished (raw t no_inlines) ∷ [])) scan
    → IsStep (spec.angle_step b (angle s)) s rest scan
tag_step b here s t rest n scan f e q l r h =
    let one : take (n + 1) here ≡ 60 ∷ take n s =
    ap (take (n + 1)) f ∙ ap (λ j. take j (60 ∷ s)) (omega_is n) in
    let size : n ≡ length (take n s) = omega (arith, length-take n s) in
    subst (λ p. IsStep (spec.angle_step b p) s rest scan) e
    (record {
      stack = subst (λ x. IsScan (and_tokens b (finished (raw x no_inlines) ∷ [])) scan) (q ∙ one) h;
      behind = r ∙ ap (λ j. drop j s) size;
    })
  where
    omega_is : (n : ℕ) → n + 1 ≡ suc n
    omega_is n = omega arith

pub less_step : (b : Brackets) (s : List ℕ) (scan : Scan) → if_tag None ≡ angle s
    → IsScan (and_tokens b (finished (letters (60 ∷ []) no_inlines) ∷ [])) scan
    → IsStep (spec.angle_step b (angle s)) s s scan
less_step b s scan e h =
    subst (λ p. IsStep (spec.angle_step b p) s s scan) e (record { stack = h; behind = refl })

-- ---- references

pub reference_found : (b : Brackets) (s rest : List ℕ) (p : Piece) (scan : Scan)
    → ◌≡◌ {A = Option Piece} (Some p) (reference s) → rest ≡ drop p.following s
    → IsScan (and_tokens b (finished (letters p.meaning no_inlines) ∷ [])) scan
    → IsStep (spec.piece_step b (piece_or (reference s) (itself 38))) s rest scan
reference_found b s rest p scan e r h =
    subst (λ o. IsStep (spec.piece_step b (piece_or o (itself 38))) s rest scan) e (record { stack = h; behind = r })

pub reference_missing : (b : Brackets) (s : List ℕ) (scan : Scan) → ◌≡◌ {A = Option Piece} None (reference s)
    → IsScan (and_tokens b (finished (letters (38 ∷ []) no_inlines) ∷ [])) scan
    → IsStep (spec.piece_step b (piece_or (reference s) (itself 38))) s s scan
reference_missing b s scan e h =
    subst (λ o. IsStep (spec.piece_step b (piece_or o (itself 38))) s s scan) e (record { stack = h; behind = refl })

-- ---- brackets that open

pub image_opens : (b : Brackets) (s text : List ℕ) (scan : Scan) → first_is 91 s ≡ true → text ≡ drop 1 s
    → IsScan (bracket true true text [] b) scan → IsStep (spec.exclamation_step b s) s text scan
image_opens b s text scan e t h =
    rw e (record { stack = subst (λ x. IsScan (bracket true true x [] b) scan) t h; behind = t })

pub exclamation_alone : (b : Brackets) (s : List ℕ) (scan : Scan) → first_is 91 s ≡ false
    → IsScan (and_tokens b (finished (letter 33 no_inlines) ∷ [])) scan
    → IsStep (spec.exclamation_step b s) s s scan
exclamation_alone b s scan e h = rw e (record { stack = h; behind = refl })
