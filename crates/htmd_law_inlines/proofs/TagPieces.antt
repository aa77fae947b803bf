-- Tags and line breaks that are written are read as those.
use Rattle.std.proofs.Common.{◌≡◌, ◌∙◌, refl, ap, ℕ, suc, Bool, true, List, [], ◌∷◌, ◌++◌, length, codes}
use Rattle.std.specs.Prelude.{not}
use Rattle.std.proofs.lemmas.Bool.{not-true}
use Rattle.htmd_commonmark_reading.specs.Characters.{is_space_or_tab}
use Rattle.htmd_commonmark_reading.specs.Markup.{no_inlines, raw, line_break}
use Rattle.htmd_commonmark_reading.specs.DelimiterRuns.{finished}
use Rattle.htmd_commonmark_reading.specs.InlineTokens.{angle}
use Rattle.htmd_commonmark_reading.specs.Brackets.{References, and_tokens, token_step, no_step, blanks}
use Rattle.htmd_law_inlines.proofs.Pieces.{IsRead, steps_to}
use Rattle.htmd_law_inlines.proofs.TextPieces.{skips}

-- ---- tags

-- a tag of these characters after its `<`
abbrev pub IsTag : List ℕ → Type 0
IsTag t = (ks : List ℕ) → angle (t ++ ks) ≡ record { content = raw (60 ∷ t) no_inlines; following = length t }

pub tag_read : (refs : References) (in_link : Bool) (before t ks : List ℕ) → IsTag t
    → IsRead refs in_link before (60 ∷ t) ks (raw (60 ∷ t) no_inlines)
tag_read refs in_link before t ks h = record {
  tokens = finished (raw (60 ∷ t) no_inlines) ∷ [];
  scans = λ b w.
      steps_to refs 60 (t ++ ks) before b (token_step b (raw (60 ∷ t) no_inlines) (length t)) (rw (h ks) refl)
      ∙ skips refs t ks (60 ∷ before) (and_tokens b (finished (raw (60 ∷ t) no_inlines) ∷ []));
  means = λ st. refl;
}

pub opens_em : (refs : References) (in_link : Bool) (before ks : List ℕ)
    → IsRead refs in_link before (codes "<em>") ks (raw (codes "<em>") no_inlines)
opens_em refs in_link before ks = tag_read refs in_link before (codes "em>") ks (λ ks. refl)

pub closes_em : (refs : References) (in_link : Bool) (before ks : List ℕ)
    → IsRead refs in_link before (codes "</em>") ks (raw (codes "</em>") no_inlines)
closes_em refs in_link before ks = tag_read refs in_link before (codes "/em>") ks (λ ks. refl)

pub opens_strong : (refs : References) (in_link : Bool) (before ks : List ℕ)
    → IsRead refs in_link before (codes "<strong>") ks (raw (codes "<strong>") no_inlines)
opens_strong refs in_link before ks = tag_read refs in_link before (codes "strong>") ks (λ ks. refl)

pub closes_strong : (refs : References) (in_link : Bool) (before ks : List ℕ)
    → IsRead refs in_link before (codes "</strong>") ks (raw (codes "</strong>") no_inlines)
closes_strong refs in_link before ks = tag_read refs in_link before (codes "/strong>") ks (λ ks. refl)

pub opens_del : (refs : References) (in_link : Bool) (before ks : List ℕ)
    → IsRead refs in_link before (codes "<del>") ks (raw (codes "<del>") no_inlines)
opens_del refs in_link before ks = tag_read refs in_link before (codes "del>") ks (λ ks. refl)

pub closes_del : (refs : References) (in_link : Bool) (before ks : List ℕ)
    → IsRead refs in_link before (codes "</del>") ks (raw (codes "</del>") no_inlines)
closes_del refs in_link before ks = tag_read refs in_link before (codes "/del>") ks (λ ks. refl)

pub opens_code : (refs : References) (in_link : Bool) (before ks : List ℕ)
    → IsRead refs in_link before (codes "<code>") ks (raw (codes "<code>") no_inlines)
opens_code refs in_link before ks = tag_read refs in_link before (codes "code>") ks (λ ks. refl)

pub closes_code : (refs : References) (in_link : Bool) (before ks : List ℕ)
    → IsRead refs in_link before (codes "</code>") ks (raw (codes "</code>") no_inlines)
closes_code refs in_link before ks = tag_read refs in_link before (codes "/code>") ks (λ ks. refl)

-- ---- line breaks

pub breaks_tag : (refs : References) (in_link : Bool) (before ks : List ℕ)
    → IsRead refs in_link before (codes "<br>") ks (raw (codes "<br>") no_inlines)
breaks_tag refs in_link before ks = tag_read refs in_link before (codes "br>") ks (λ ks. refl)

-- a line that doesn't begin with white space
abbrev pub begins_well : List ℕ → Bool
begins_well [] = true
begins_well (c ∷ ks) = not (is_space_or_tab c)

no_blanks : (ks : List ℕ) → begins_well ks ≡ true → blanks ks ≡ 0
no_blanks [] h = refl
no_blanks (c ∷ ks) h = rw (not-true (is_space_or_tab c) h) refl

pub breaks_slash : (refs : References) (in_link : Bool) (before ks : List ℕ) → begins_well ks ≡ true
    → IsRead refs in_link before (codes "\\\n") ks (line_break no_inlines)
breaks_slash refs in_link before ks h = record {
  tokens = finished (line_break no_inlines) ∷ [];
  scans = λ b w.
      steps_to refs 92 (10 ∷ ks) before b (token_step b (line_break no_inlines) 1)
      (ap (λ n. token_step b (line_break no_inlines) (suc n)) (no_blanks ks h));
  means = λ st. refl;
}

pub breaks_spaces : (refs : References) (in_link : Bool) (before ks : List ℕ) → begins_well ks ≡ true
    → IsRead refs in_link before (codes "  \n") ks (line_break no_inlines)
breaks_spaces refs in_link before ks h = record {
  tokens = finished (line_break no_inlines) ∷ [];
  scans = λ b w.
      steps_to refs 32 (32 ∷ 10 ∷ ks) before b (no_step b) refl
      ∙ steps_to refs 32 (10 ∷ ks) (32 ∷ before) b (no_step b) refl
      ∙ steps_to refs 10 ks (32 ∷ 32 ∷ before) b (token_step b (line_break no_inlines) 0)
      (ap (token_step b (line_break no_inlines)) (no_blanks ks h));
  means = λ st. refl;
}
