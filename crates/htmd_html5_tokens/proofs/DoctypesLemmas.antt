-- Texts in any case, and quotes.
use Rattle.std.proofs.Common.{◌≡◌, ℕ, ◌&&◌, false, List, [], ◌∷◌, length, map, refl, ap, arith, None}
use Rattle.std.specs.Char.{to_ascii_lowercase}
use Rattle.std.specs.Prelude.{◌==◌}
use Rattle.std.specs.Str.{bytes_eq}
use Rattle.htmd_lexical.specs.CharacterClasses.{first_is, begins_in_any_case, behind_run}
use Rattle.htmd_lexical.specs.TagReading.{is_other}
use Rattle.htmd_html5_tokens.specs.Doctypes.{quoted_by}
use Rattle.htmd_html5_tokens.proofs.BeginningsLemmas.{other_ends}

pub quote_lacks : (q : ℕ) (s after : List ℕ) → after ≡ behind_run (is_other q) s → first_is q after ≡ false
    → None ≡ quoted_by q s
quote_lacks q s after e f =
    let g = rw e at f in
    rw (other_ends q s g) refl

-- texts of one length
pub same_length : (s n : List ℕ) → length s ≡ length n
    → begins_in_any_case n s ≡ bytes_eq (map to_ascii_lowercase s) n
same_length [] [] e = refl
same_length [] (p ∷ n) e = absurd (omega arith)
same_length (b ∷ s) [] e = absurd (omega arith)
same_length (b ∷ s) (p ∷ n) e = ap (λ x. (to_ascii_lowercase b == p) && x) (same_length s n (omega arith))
