-- Texts with backslashes, written after others and read back.
use Rattle.std.proofs.Common.{◌≡◌, ℕ, zero, suc, ◌+◌, ◌<◌, ◌≤◌, Bool, true, false, List, [], ◌∷◌, ◌++◌, length, get_or}
use Rattle.std.proofs.Common.{refl, sym, ap, ◌∙◌, arith, append_assoc, ⊎_elim}
use Rattle.std.specs.Prelude.{◌==◌, slice_index}
use Rattle.std.specs.List.{list_all, between}
use Rattle.std.specs.Str.{IsUtf8}
use Rattle.std.specs.Char.{is_ascii, is_ascii_punctuation}
use Rattle.std.proofs.lemmas.Bool.{or_cases, or_parts, and_parts}
use Rattle.std.proofs.lemmas.Bool.Decides.{nat_tests}
use Rattle.std.proofs.lemmas.List.{append-nil}
use Rattle.htmd_lexical.specs.Characters.{backslash, is_one_of}
use Rattle.htmd_text.specs.EscapedPlaces.{with_backslashes}
use Rattle.htmd_text.specs.Unescape.{unescape}
use Rattle.htmd_text.proofs.EscapedPlacesLemmas.{Writing, writing_none, writing_plain, writing_marked, writing_all}
use Rattle.htmd_text.proofs.UnescapeLemmas.{reads_back}
use Rattle.htmd_markdown.specs.Addresses.{parentheses, escaped_address, holds_backslash, HoldsAddress}

among_ascii : (characters : List ℕ) (b : ℕ) → list_all is_ascii characters ≡ true
    → is_one_of characters b ≡ true
    → is_ascii b ≡ true
among_ascii [] b all e = cc
among_ascii (c ∷ characters) b all e =
    let parts = and_parts (is_ascii c) (list_all is_ascii characters) all in
    ⊎_elim (λ first. grind (arith, nat_tests)) (among_ascii characters b parts.1)
    (or_cases (b == c) (is_one_of characters b) e)

-- What was written after a text, the piece that waits, and what the rest becomes, are the whole.
pub record Escaping (marked : ℕ → Bool) (s before out : List ℕ) (from i : ℕ) : Type 0 where
  pub written : List ℕ
  pub out_is : out ≡ before ++ written
  pub writing : Writing marked s written from i

pub escaping_none : (marked : ℕ → Bool) (s before : List ℕ) → IsUtf8 s → Escaping marked s before before 0 0
escaping_none marked s before text = record {
  written = [];
  out_is = sym (append-nil before);
  writing = writing_none marked s [] text refl;
}

pub escaping_plain : (marked : ℕ → Bool) (s before out : List ℕ) (from i : ℕ) → i < length s
    → marked i ≡ false
    → Escaping marked s before out from i → Escaping marked s before out from (i + 1)
escaping_plain marked s before out from i lt plain was = record {
  written = was.written;
  out_is = was.out_is;
  writing = writing_plain marked s was.written from i lt plain was.writing;
}

pub escaping_marked : (marked : ℕ → Bool) (s before out : List ℕ) (from i : ℕ) → i < length s
    → marked i ≡ true
    → is_ascii (get_or s i 0) ≡ true → Escaping marked s before out from i
    → Escaping marked s before ((out ++ between from i s) ++ backslash ∷ []) i (i + 1)
escaping_marked marked s before out from i lt here ascii was = record {
  written = (was.written ++ between from i s) ++ backslash ∷ [];
  out_is = rw was.out_is (simp append_assoc);
  writing = writing_marked marked s was.written from i lt here ascii was.writing;
}

pub escaping_all : (marked : ℕ → Bool) (s before out : List ℕ) (from i : ℕ) → length s ≤ i
    → Escaping marked s before out from i
    → out ++ between from (length s) s ≡ before ++ with_backslashes marked 0 s
escaping_all marked s before out from i past was =
    ap (λ l. l ++ between from (length s) s) was.out_is
    ∙ append_assoc before was.written (between from (length s) s)
    ∙ ap (λ l. before ++ l) (writing_all marked s was.written from i past was.writing)

-- a character of these is ASCII
pub among_is_ascii : (characters s : List ℕ) (i : ℕ) → list_all is_ascii characters ≡ true
    → is_one_of characters (slice_index s i) ≡ true → is_ascii (get_or s i 0) ≡ true
among_is_ascii characters s i all e = among_ascii characters (slice_index s i) all e

-- ---- an address without backslashes reads back

no_backslash : (s : List ℕ) (i : ℕ) → holds_backslash s ≡ false → (get_or s i 0 == backslash) ≡ false
no_backslash [] i none = refl
no_backslash (b ∷ s) zero none = (or_parts (b == backslash) (holds_backslash s) none).0
no_backslash (b ∷ s) (suc i) none = no_backslash s i (or_parts (b == backslash) (holds_backslash s) none).1

parenthesis_is_punctuation : (b : ℕ) → is_one_of parentheses b ≡ true → is_ascii_punctuation b ≡ true
parenthesis_is_punctuation b e = grind (arith, nat_tests)

pub address_reads_back : (address : List ℕ) → holds_backslash address ≡ false
    → unescape (escaped_address address) ≡ address
address_reads_back address none =
    let here : (i : ℕ) → 0 + i ≡ i = λ i. omega arith in
    reads_back (λ k. is_one_of parentheses (slice_index address k)) 0 address
    (λ i e. parenthesis_is_punctuation (get_or address i 0) (rw (here i) at e))
    (λ i _ _. no_backslash address i none)

pub holds_address : (before address behind text : List ℕ) → holds_backslash address ≡ false
    → text ≡ before ++ escaped_address address ++ behind → HoldsAddress before address behind text
holds_address before address behind text none is = record {
  written = escaped_address address;
  whole = is;
  reads_back = address_reads_back address none;
}
