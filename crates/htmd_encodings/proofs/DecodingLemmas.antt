-- Bytes decoded, a code unit at a time.
use Rattle.std.proofs.Common.{◌≡◌, ◌∙◌, sym, refl, ℕ, ◌-◌, ◌≤◌, Bool, true, false, Option, List, [], ◌∷◌, ◌++◌}
use Rattle.std.proofs.Common.{length, take, drop, get_or, append_assoc, arith}
use Rattle.std.proofs.lemmas.List.{take_rest}
use Rattle.std.proofs.lemmas.Bool.{false_from_ne_true}
use Rattle.std.proofs.lemmas.Str.{utf8_lossy-IsUtf8, IsUtf8-from_is_utf8, is_utf8-from_IsUtf8}
use Rattle.std.specs.Str.{IsUtf8, is_utf8}
use Rattle.std.specs.Str.Lossy.{utf8_lossy}
use Rattle.std.specs.Char.{encode_utf8}
use Rattle.std.specs.Char.Utf16.{is_high_surrogate}
use Rattle.htmd_encodings.specs.declared.encodings.ByteOrder.{ByteOrder}
use Rattle.htmd_encodings.specs.declared.encodings.Encoding.TheVariants.{Utf8}
use Rattle.htmd_encodings.specs.declared.encodings.Encoding.{Encoding}
use Rattle.htmd_encodings.specs.Decoding.{believed, outweighs_utf8, replacement_text, said_anywhere, said_or_default}
use Rattle.htmd_lexical.proofs.Cases.{test}
use Rattle.htmd_encodings.specs.Utf16.{code_unit, code_units_after}

-- one code unit more
pub units-more : (order : ByteOrder) (waits waits_then : Bool) (rest done done_then whole : List ℕ) (unit : ℕ)
    → 2 ≤ length rest → unit ≡ code_unit order (get_or rest 0 0) (get_or rest 1 0)
    → waits_then ≡ is_high_surrogate unit → done_then ≡ done ++ unit ∷ []
    → done ++ code_units_after waits order rest ≡ whole
    → done_then ++ code_units_after waits_then order (take (length rest - 2) (drop 2 rest)) ≡ whole
units-more order waits waits_then [] done done_then whole unit some e w d h = absurd (omega arith)
units-more order waits waits_then (a ∷ []) done done_then whole unit some e w d h = absurd (omega arith)
units-more order waits waits_then (a ∷ b ∷ s) done done_then whole unit some e w d h =
    rw (take_rest (a ∷ b ∷ s) 2, d, w, e) (append_assoc done (code_unit order a b ∷ []) _ ∙ h)

-- bytes that are UTF-8 are their own text
pub lossy_of_utf8 : (bytes : List ℕ) → IsUtf8 bytes → bytes ≡ utf8_lossy bytes
lossy_of_utf8 bytes u = sym (utf8_lossy-IsUtf8 bytes u)

-- one error for bytes of which there are some
pub replaced : (bytes : List ℕ) → 1 ≤ length bytes → 0xEF ∷ 0xBF ∷ 0xBD ∷ [] ≡ replacement_text bytes
unfolding encode_utf8
replaced [] l = absurd (omega arith)
replaced (b ∷ s) l = refl

-- ---- what is believed

pub believed_utf8 : (said : Option Encoding) (text bytes : List ℕ) → outweighs_utf8 said ≡ false → IsUtf8 bytes
    → text ≡ bytes
    → (believed said bytes ≡ Utf8) × (text ≡ bytes) × (utf8_lossy bytes ≡ bytes)
believed_utf8 said text bytes o u e = (rw (is_utf8-from_IsUtf8 bytes u, o) refl, e, utf8_lossy-IsUtf8 bytes u)

pub believed_other : (said : Option Encoding) (bytes : List ℕ) → ¬ (IsUtf8 bytes)
    → believed said bytes ≡ said_or_default (said_anywhere said bytes)
believed_other said bytes n =
    let no : is_utf8 bytes ≡ false = false_from_ne_true (is_utf8 bytes) (λ e. n (IsUtf8-from_is_utf8 bytes e)) in
    rw no refl

pub believed_said : (said : Option Encoding) (bytes : List ℕ) → outweighs_utf8 said ≡ true
    → believed said bytes ≡ said_or_default (said_anywhere said bytes)
believed_said said bytes o = test (is_utf8 bytes) (λ e. rw (e, o) refl) (λ e. rw e refl)
