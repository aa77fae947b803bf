-- End tags in foreign content, and U+FFFD for each character.
use Rattle.std.proofs.Common.{◌≡◌, ◌∙◌, ℕ, suc, ◌+◌, ◌<◌, true, false, List, ◌∷◌, ◌++◌, length, drop, get_or}
use Rattle.std.proofs.Common.{append_assoc, drop-cons, add-one, ap, sym, refl}
use Rattle.std.specs.Char.{encode_utf8}
use Rattle.htmd_html5_state.specs.Foreign.{ForeignEnd, by_mode, closed_to, nothing, foreign_end, goes_by_mode}
use Rattle.htmd_html5_state.specs.Foreign.{after_foreign_end}
use Rattle.htmd_html5_state.specs.Names.{NameValue, text_of_name}
use Rattle.htmd_html5_state.specs.State.{StateValue}
use Rattle.htmd_html5_tokens.specs.References.{replacement_character}
use Rattle.htmd_html5.specs.ForeignContent.{end_breaks_out, end_in_foreign, replacements}
use Rattle.htmd_html5.specs.Modes.{by_mode_rules}
use Rattle.htmd_html5.specs.Tokens.{end_tag}

unchanged : (ending : ForeignEnd) (s : StateValue) → goes_by_mode ending ≡ true → after_foreign_end ending s ≡ s
unchanged by_mode s e = refl
unchanged (closed_to stack) s e = cc
unchanged nothing s e = refl

pub end_goes : (name : NameValue) (spelled : List ℕ) (s new : StateValue) → end_breaks_out name ≡ false
    → spelled ≡ text_of_name name → goes_by_mode (foreign_end spelled s.stack) ≡ true
    → new ≡ after_foreign_end (foreign_end spelled s.stack) s
    → by_mode_rules (end_tag name) new ≡ end_in_foreign name s
end_goes name spelled s new e t g n =
    let same = n ∙ unchanged (foreign_end spelled s.stack) s g in
    let h = rw t at g in
    rw (e, h) (ap (by_mode_rules (end_tag name)) same)

-- one more character is replaced
pub replaced_more : (replaced new bytes all : List ℕ) (i : ℕ) → i < length bytes
    → new ≡ replaced ++ encode_utf8 replacement_character → replaced ++ replacements (drop i bytes) ≡ all
    → new ++ replacements (drop (i + 1) bytes) ≡ all
replaced_more replaced new bytes all i h n e =
    let here : drop i bytes ≡ get_or bytes i 0 ∷ drop (suc i) bytes = drop-cons bytes i 0 h in
    rw add-one
    (ap (λ (x : List ℕ). x ++ replacements (drop (suc i) bytes)) n
    ∙ append_assoc replaced (encode_utf8 replacement_character) (replacements (drop (suc i) bytes))
    ∙ ap (λ (x : List ℕ). replaced ++ replacements x) (sym here) ∙ e)
