-- The parts of closed blocks, with the definitions that are found, are those of what a text says.
use Rattle.std.proofs.Common.{◌≡◌, ℕ, Bool, true, false, List, [], ◌∷◌, drop, map, refl, sym, ap, ◌∙◌, true≢false}
use Rattle.std.proofs.Common.{string_bytes}
use Rattle.std.specs.Prelude.{option_map}
use Rattle.std.specs.Str.{chars}
use Rattle.std.proofs.lemmas.Str.{chars_from_encodes, IsUtf8-string_bytes}
use Rattle.htmd_commonmark_reading.specs.Boxes.{ClosedBlocks}
use Rattle.htmd_commonmark_reading.specs.Brackets.{References}
use Rattle.htmd_commonmark_reading.specs.Containers.{parsed}
use Rattle.htmd_commonmark_reading.specs.LinkDefinitions as spec
use Rattle.htmd_commonmark_reading.specs.Lines.{without_null, split_lines, placed}
use Rattle.htmd_commonmark_reading.specs.Lists.{collected, plain, gapped}
use Rattle.htmd_commonmark_reading.specs.Reading.{finished, read}
use Rattle.htmd_commonmark_reader.specs.ClosedParts.{ClosedPart, closed_parts}
use Rattle.htmd_commonmark_reader.specs.Definitions.{held_of, encoded}
use Rattle.htmd_commonmark_reader.specs.Keys.{definition_of}
use Rattle.htmd_commonmark_reader.specs.declared.definitions.Definition.{Definition}
use Rattle.htmd_parts.specs.Parts.{Part, parts_of}

-- ---- definitions

one-found : (d : Definition) (s : spec.Definition) → held_of d ≡ encoded s → definition_of d ≡ s
one-found d s e =
    let key : chars (string_bytes d.key) ≡ s.key =
    sym (chars_from_encodes s.key (string_bytes d.key) (IsUtf8-string_bytes d.key) (sym (ap (λ r. r.key) e))) in
    ap (λ k. record {
      key = k;
      address = string_bytes d.address;
      title = option_map (λ t. string_bytes t) d.title;
    }) key
    ∙ ap (λ a. record { key = s.key; address = a; title = option_map (λ t. string_bytes t) d.title })
    (ap (λ r. r.address) e)
    ∙ ap (λ t. record { key = s.key; address = s.address; title = t }) (ap (λ r. r.title) e)

abbrev is_nil : List spec.Definition → Bool
is_nil [] = true
is_nil (d ∷ ds) = false

abbrev first_or : spec.Definition → List spec.Definition → spec.Definition
first_or d [] = d
first_or d (e ∷ es) = e

pub all-found : (ds : List Definition) (ss : References) → map held_of ds ≡ map encoded ss
    → map definition_of ds ≡ ss
all-found [] [] e = refl
all-found [] (s ∷ ss) e = absurd (true≢false (ap is_nil e))
all-found (d ∷ ds) [] e = absurd (true≢false (sym (ap is_nil e)))
all-found (d ∷ ds) (s ∷ ss) e =
    ap (λ x. x ∷ map definition_of ds) (one-found d s (ap (first_or (held_of d)) e))
    ∙ ap (λ l. s ∷ l) (all-found ds ss (ap (drop 1) e))

-- ---- the call

-- the closed blocks of a text without U+0000
abbrev pub blocks_of : List ℕ → ClosedBlocks
blocks_of s = parsed (placed (split_lines s))

pub whole-read : (text s : List ℕ) (refs : References) (ds : List Definition) (cs : List ClosedPart) (out : List Part)
    → s ≡ without_null text → cs ≡ closed_parts (blocks_of s) []
    → map held_of ds ≡ map encoded (collected (blocks_of s)) → refs ≡ map definition_of ds
    → ((ps : ClosedBlocks) → cs ≡ closed_parts ps [] → out ≡ parts_of (plain (gapped refs ps)))
    → out ≡ parts_of (read text)
whole-read text s refs ds cs out e k f r h =
    h (blocks_of s) k
    ∙ ap (λ x. parts_of (plain (gapped x (blocks_of s)))) (r ∙ all-found ds (collected (blocks_of s)) f)
    ∙ ap (λ t. parts_of (finished (blocks_of t))) e
