-- The definitions after a conversion, and what has none.
use Rattle.std.proofs.Common.{◌≡◌, ℕ, false, List, [], ◌∷◌, ◌++◌, map, refl, ap, ◌∙◌, String, Global, string_bytes}
use Rattle.std.proofs.Common.{append_assoc, ◌≤◌, length, take}
use Rattle.std.specs.Prelude.{◌==◌}
use Rattle.std.proofs.lemmas.List.{take_all}
use Rattle.std.specs.List.{flat_map}
use Rattle.htmd_lexical.specs.Characters.{line_feed}
use Rattle.htmd_lexical.specs.BlankLines.{blank_line}
use Rattle.htmd_walk.specs.Anchors.{definitions_block}
use Rattle.htmd_walk.specs.Markdown.{append_text}

-- a definition on a line of its own
abbrev pub on_its_line : String Global → List ℕ
on_its_line line = line_feed ∷ string_bytes line

lines-joined : (lines : List (String Global))
    → flat_map on_its_line lines ≡ flat_map (λ next. line_feed ∷ [] ++ next) (map string_bytes lines)
lines-joined [] = refl
lines-joined (line ∷ lines) = ap (λ l. on_its_line line ++ l) (lines-joined lines)

regrouped : (base line rest : List ℕ) → ((base ++ line_feed ∷ []) ++ ((line_feed ∷ line) ++ rest)) ++ blank_line
    ≡ base ++ ((blank_line ++ (line ++ rest)) ++ blank_line)
regrouped base line rest = simp append_assoc

definitions-written : (base : List ℕ) (line : String Global) (lines : List (String Global))
    → ((base ++ line_feed ∷ []) ++ flat_map on_its_line (line ∷ lines)) ++ blank_line
    ≡ base ++ append_text (definitions_block (map string_bytes (line ∷ lines)))
definitions-written base line lines =
    regrouped base (string_bytes line) (flat_map on_its_line lines)
    ∙ ap (λ l. base ++ ((blank_line ++ (string_bytes line ++ l)) ++ blank_line)) (lines-joined lines)

pub definitions-all : (base : List ℕ) (lines : List (String Global)) (n : ℕ) → (length lines == 0) ≡ false
    → length lines ≤ n → ((base ++ line_feed ∷ []) ++ flat_map on_its_line (take n lines)) ++ blank_line
    ≡ base ++ append_text (definitions_block (map string_bytes lines))
definitions-all base [] n some all = cc
definitions-all base (line ∷ lines) n some all =
    ap (λ l. ((base ++ line_feed ∷ []) ++ flat_map on_its_line l) ++ blank_line) (take_all n (line ∷ lines) all)
    ∙ definitions-written base line lines
