-- One more line of a title.
use Rattle.std.proofs.Common.{◌≡◌, ℕ, ◌+◌, ◌<◌, Bool, true, false, List, [], ◌∷◌, ◌++◌, length, get_or, take, map, refl}
use Rattle.std.proofs.Common.{sym, ap, ◌∙◌, codes, arith, append_assoc}
use Rattle.std.specs.Prelude.{◌==◌, filter}
use Rattle.std.proofs.lemmas.Bool.Decides.{nat_tests}
use Rattle.std.proofs.lemmas.List.{take_more, map_push, append-nil, length_push}
use Rattle.std.proofs.lemmas.List.Elements.{filter-append}
use Rattle.htmd_lexical.specs.Characters.{line_feed}
use Rattle.htmd_text.specs.Joins.{joined_texts}
use Rattle.htmd_text.specs.Trims.{trimmed_text}
use Rattle.htmd_lexical.specs.WhiteSpace.{is_document_white_space}
use Rattle.htmd_text.proofs.JoinsLemmas.{item_joined}
use Rattle.htmd_markdown.specs.Addresses.{escaped_among}
use Rattle.htmd_markdown.specs.Titles.{is_filled}

-- the first n lines as they are written
abbrev pub filled_lines_of : List (List ℕ) → ℕ → List (List ℕ)
filled_lines_of ls n = filter is_filled (map (trimmed_text is_document_white_space) (take n ls))

abbrev pub escaped_line : List ℕ → List ℕ
escaped_line = escaped_among (codes "\"")

abbrev pub written : List (List ℕ) → List ℕ
written ls = joined_texts (line_feed ∷ []) (map escaped_line ls)

-- What was written after a text of the first n lines.
pub record Tidying (ls : List (List ℕ)) (before out : List ℕ) (is_first : Bool) (n : ℕ) : Type 0 where
  pub out_is : out ≡ before ++ written (filled_lines_of ls n)
  pub begun : is_first ≡ (length (filled_lines_of ls n) == 0)

filled_more : (ls : List (List ℕ)) (n : ℕ) (x : List ℕ) → (n < length ls) × (x ≡ get_or ls n x)
    → filled_lines_of ls (n + 1) ≡ filled_lines_of ls n ++ filter is_filled (trimmed_text is_document_white_space x
    ∷ [])
filled_more ls n x here =
    ap (λ l. filter is_filled (map (trimmed_text is_document_white_space) l)) (take_more ls n x here.0
    ∙ ap (λ y. take n ls ++ y ∷ []) (sym here.1))
    ∙ ap (filter is_filled) (map_push (trimmed_text is_document_white_space) (take n ls) x)
    ∙ filter-append is_filled (map (trimmed_text is_document_white_space) (take n ls))
    (trimmed_text is_document_white_space x ∷ [])

empty_is : (t : List ℕ) → (length t == 0) ≡ true → filter is_filled (t ∷ []) ≡ []
empty_is [] e = refl
empty_is (b ∷ t) e = grind (arith, nat_tests)

some_is : (t : List ℕ) → (length t == 0) ≡ false → filter is_filled (t ∷ []) ≡ t ∷ []
some_is [] e = cc
some_is (b ∷ t) e = refl

nil_if : (xs : List (List ℕ)) → (length xs == 0) ≡ true → xs ≡ []
nil_if [] e = refl
nil_if (x ∷ xs) e = grind (arith, nat_tests)

some_if : (xs : List (List ℕ)) → (length xs == 0) ≡ false → 0 < length xs
some_if xs e = grind (arith, nat_tests)

some_more : (xs : List (List ℕ)) (x : List ℕ) → false ≡ (length (xs ++ x ∷ []) == 0)
some_more xs x = let size = length_push xs x in grind (arith, nat_tests)

pub tidying_none : (ls : List (List ℕ)) (out : List ℕ) → Tidying ls out out true 0
tidying_none ls out = record { out_is = sym (append-nil out); begun = refl }

pub tidying_empty : (ls : List (List ℕ)) (before out : List ℕ) (is_first : Bool) (n : ℕ) (x : List ℕ)
    → (n < length ls) × (x ≡ get_or ls n x) → (length (trimmed_text is_document_white_space x) == 0) ≡ true
    → Tidying ls before out is_first n → Tidying ls before out is_first (n + 1)
tidying_empty ls before out is_first n x here empty was =
    let same : filled_lines_of ls (n + 1) ≡ filled_lines_of ls n =
    filled_more ls n x here ∙ ap (λ l. filled_lines_of ls n ++ l)
    (empty_is (trimmed_text is_document_white_space x) empty)
    ∙ append-nil (filled_lines_of ls n) in
    record {
      out_is = was.out_is ∙ ap (λ l. before ++ written l) (sym same);
      begun = was.begun ∙ ap (λ l. length l == 0) (sym same);
    }

pub tidying_first : (ls : List (List ℕ)) (before out : List ℕ) (is_first : Bool) (n : ℕ) (x : List ℕ)
    → (n < length ls) × (x ≡ get_or ls n x) → (length (trimmed_text is_document_white_space x) == 0) ≡ false
    → is_first ≡ true → Tidying ls before out is_first n
    → Tidying ls before (out ++ escaped_line (trimmed_text is_document_white_space x)) false (n + 1)
tidying_first ls before out is_first n x here some first was =
    let t = trimmed_text is_document_white_space x in
    let none : filled_lines_of ls n ≡ [] = nil_if (filled_lines_of ls n) (sym was.begun ∙ first) in
    let one : filled_lines_of ls (n + 1) ≡ t ∷ [] = filled_more ls n x here
    ∙ ap (λ l. l ++ filter is_filled (t ∷ [])) none
    ∙ some_is t some in
    let start : out ≡ before = was.out_is ∙ ap (λ l. before ++ written l) none ∙ append-nil before in
    record {
      out_is = ap (λ l. l ++ escaped_line t) start ∙ ap (λ l. before ++ l) (sym (append-nil (escaped_line t)))
          ∙ ap (λ l. before ++ written l) (sym one);
      begun = sym (ap (λ l. length l == 0) one);
    }

pub tidying_later : (ls : List (List ℕ)) (before out : List ℕ) (is_first : Bool) (n : ℕ) (x : List ℕ)
    → (n < length ls) × (x ≡ get_or ls n x) → (length (trimmed_text is_document_white_space x) == 0) ≡ false
    → is_first ≡ false → Tidying ls before out is_first n
    → Tidying ls before ((out ++ line_feed ∷ []) ++ escaped_line (trimmed_text is_document_white_space x)) false
    (n + 1)
tidying_later ls before out is_first n x here some later was =
    let t = trimmed_text is_document_white_space x in
    let more : filled_lines_of ls (n + 1) ≡ filled_lines_of ls n ++ t ∷ [] = filled_more ls n x here
    ∙ ap (λ l. filled_lines_of ls n ++ l) (some_is t some) in
    let grown = item_joined escaped_line (line_feed ∷ []) (filled_lines_of ls n) t
    (some_if (filled_lines_of ls n) (sym was.begun ∙ later)) in
    record {
      out_is = rw (more, grown, was.out_is) (simp append_assoc);
      begun = some_more (filled_lines_of ls n) t ∙ ap (λ l. length l == 0) (sym more);
    }
