-- Code blocks of normal documents.
use Rattle.std.proofs.Common.{◌≡◌, ℕ, Bool, true, false, cond, not, ◌&&◌, List, [], ◌∷◌, refl, sym, ap, ◌∙◌, subst}
use Rattle.std.proofs.Common.{fold, arith}
use Rattle.std.specs.Prelude.{◌==◌}
use Rattle.std.specs.List.{list_all}
use Rattle.std.specs.Str.{chars, IsUtf8}
use Rattle.std.proofs.lemmas.Str.{chars-encodes}
use Rattle.std.proofs.lemmas.Bool.Decides.{nat_tests}
use Rattle.htmd_lexical.specs.Characters.{line_feed, carriage_return}
use Rattle.htmd_lexical.proofs.Cases.{test}
use Rattle.htmd_text.specs.Trims.{trimmed_text, is_line_feed}
use Rattle.htmd_text.proofs.TrimsLemmas.{line_feed_of_ascii}
use Rattle.htmd_shown.specs.AllTexts.{Lines, no_lines, with_character, written_for, with_line_feeds, lines_of}
use Rattle.htmd_shown.specs.ShownTexts.{is_shown}
use Rattle.htmd_shown.specs.AllTexts.{without_last_line_feed}
use Rattle.htmd_flow.specs.Flows.{code_parts}
use Rattle.htmd_flow.specs.Parts.{Around, run, edge}
use Rattle.htmd_document.specs.NormalDocuments.{is_code_byte}
use Rattle.htmd_law_documents.specs.DocumentTexts.{visible}
use Rattle.htmd_law_documents.proofs.VisibleLemmas.{both-true, shows-itself}
use Rattle.htmd_law_documents.proofs.PiecesLemmas.{line_feed-white, AreUtf8, pieces-show}
use Rattle.htmd_law_documents.proofs.CodeLemmas.{feeds-show, lines-scalar}
use Rattle.htmd_law_documents.proofs.NormalTextLemmas.{and-true, all-append, PassesWide}
use Rattle.htmd_law_documents.proofs.NormalLineLemmas.{FitAll}
use Rattle.htmd_law_documents.proofs.NormalPartsLemmas.{is_text_character, IsRun, FineParts, fine-append, fine-nil}
use Rattle.htmd_law_documents.proofs.NormalPartsLemmas.{fine-edges, fine-run}
use Rattle.htmd_law_documents.proofs.NormalValueLemmas.{IsClean, text-run, utf8-trimmed, seen-trimmed, all-less}
use Rattle.htmd_law_documents.proofs.NormalValueLemmas.{encodes-pass, chars-pass, AllPieces, pieces-pass}

text-wide : PassesWide is_text_character
text-wide b l = grind (arith, nat_tests)

code-wide : PassesWide is_code_byte
code-wide b l = grind (arith, nat_tests)

code-text : (b : ℕ) → is_code_byte b ≡ true → is_text_character b ≡ true
code-text b e = grind (arith, nat_tests)

written-code : (after : Bool) (c : ℕ) → is_text_character c ≡ true
    → list_all is_code_byte (written_for after c) ≡ true
written-code after c t = test (c == carriage_return)
    (λ e. subst (λ (b : Bool). list_all is_code_byte (cond b (line_feed ∷ []) other) ≡ true) (sym e) refl)
    (λ e. subst (λ (b : Bool). list_all is_code_byte (cond b (line_feed ∷ []) other) ≡ true) (sym e)
    (either ((c == line_feed) && after) (and-true (kept c e t) refl)))
  where
    other : List ℕ
    other = cond ((c == line_feed) && after) [] (c ∷ [])

    kept : (c : ℕ) → (c == carriage_return) ≡ false → is_text_character c ≡ true → is_code_byte c ≡ true
    kept c e t = grind (arith, nat_tests)

    either : (b : Bool) → list_all is_code_byte (c ∷ []) ≡ true → list_all is_code_byte (cond b [] (c ∷ []))
        ≡ true
    either true h = refl
    either false h = h

lines-code : (cs : List ℕ) (l : Lines) → list_all is_text_character cs ≡ true
    → list_all is_code_byte l.written ≡ true
    → list_all is_code_byte (fold with_character l cs).written ≡ true
lines-code [] l t h = h
lines-code (c ∷ cs) l t h =
    let parts = both-true (is_text_character c) (list_all is_text_character cs) t in
    lines-code cs (with_character l c) parts.1
    (all-append is_code_byte l.written (written_for l.after_return c) h (written-code l.after_return c parts.0))

pub feeds-code : (s : List ℕ) → IsClean s → list_all is_code_byte (with_line_feeds s) ≡ true
feeds-code s h =
    encodes-pass is_code_byte code-wide (fold with_character no_lines (chars s)).written
    (lines-code (chars s) no_lines (chars-pass is_text_character text-wide s h.utf8 h.seen) refl)

written-shown : (after : Bool) (c : ℕ) → is_shown c ≡ true → list_all is_shown (written_for after c) ≡ true
written-shown after c t = either (c == carriage_return) ((c == line_feed) && after)
  where
    either : (b d : Bool) → list_all is_shown (cond b (line_feed ∷ []) (cond d [] (c ∷ []))) ≡ true
    either true d = refl
    either false true = refl
    either false false = and-true t refl

lines-shown : (cs : List ℕ) (l : Lines) → list_all is_shown cs ≡ true → list_all is_shown l.written ≡ true
    → list_all is_shown (fold with_character l cs).written ≡ true
lines-shown [] l t h = h
lines-shown (c ∷ cs) l t h =
    let parts = both-true (is_shown c) (list_all is_shown cs) t in
    lines-shown cs (with_character l c) parts.1
    (all-append is_shown l.written (written_for l.after_return c) h (written-shown l.after_return c parts.0))

pub feeds-clean : (s : List ℕ) → IsClean s → IsClean (with_line_feeds s)
feeds-clean s h =
    let new : List ℕ = (fold with_character no_lines (chars s)).written in
    record {
      utf8 = (feeds-show s (visible s) (shows-itself s h.utf8)).utf8;
      seen = all-less is_code_byte is_text_character code-text (with_line_feeds s) (feeds-code s h);
      shown = ap (list_all is_shown) (chars-encodes new (lines-scalar s h.utf8))
          ∙ lines-shown (chars s) no_lines h.shown refl;
    }

pub without-code : (s : List ℕ) → list_all is_code_byte s ≡ true
    → list_all is_code_byte (without_last_line_feed s) ≡ true
without-code [] h = refl
without-code (b ∷ []) h = either (b == line_feed)
  where
    either : (c : Bool) → list_all is_code_byte (cond c [] (b ∷ [])) ≡ true
    either true = refl
    either false = h
without-code (b ∷ c ∷ s) h =
    let parts = both-true (is_code_byte b) (list_all is_code_byte (c ∷ s)) h in
    and-true parts.0 (without-code (c ∷ s) parts.1)

-- ---- lines of code

last-true : (a b : Bool) → (a && b) ≡ true → b ≡ true
last-true a b e = (both-true a b e).1

pub code-lines : (flat : Bool) (n : ℕ) (pieces : List (List ℕ)) (around : List Around) → AreUtf8 pieces
    → AllPieces (λ b. not (is_line_feed b) && is_text_character b) pieces → FitAll false [] around
    → FineParts flat n (code_parts pieces around)
code-lines flat n [] around u h f = fine-nil flat n
code-lines flat n (s ∷ pieces) around u h f =
    let line : IsRun s = text-run s u.0
    (all-less (λ b. not (is_line_feed b) && is_text_character b) is_text_character
    (λ b e. last-true (not (is_line_feed b)) (is_text_character b) e) s h.0) in
    fine-append flat n (run s around true ∷ edge ∷ []) (code_parts pieces around)
    (fine-append flat n (run s around true ∷ []) (edge ∷ []) (fine-run flat n s around true line f)
    (fine-edges flat n))
    (code-lines flat n pieces around u.1 h.1 f)

pub lines-fine : (flat : Bool) (n : ℕ) (s : List ℕ) (around : List Around) → IsClean s → FitAll false [] around
    → FineParts flat n (code_parts (lines_of s) around)
lines-fine flat n s around h f =
    let t : List ℕ = trimmed_text is_line_feed s in
    let utf8 : IsUtf8 t = utf8-trimmed is_line_feed line_feed_of_ascii s h.utf8 in
    code-lines flat n (lines_of s) around (pieces-show is_line_feed line_feed-white t utf8).texts
    (pieces-pass is_line_feed is_text_character t (seen-trimmed is_line_feed s h.seen)) f
