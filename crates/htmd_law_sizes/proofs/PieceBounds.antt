-- How long the pieces of inlines are at most: texts, codes, addresses, titles, numbers.
use Rattle.std.proofs.Common.{◌≡◌, refl, ℕ, zero, suc, ◌+◌, ◌*◌, ◌-◌, ◌<◌, ◌≤◌, ◌%◌, ◌/◌, Bool, true, false, List, []}
use Rattle.std.proofs.Common.{◌∷◌, ◌++◌, length, mod-lt, arith}
use Rattle.std.proofs.lemmas.Bool.Decides.{nat_tests}
use Rattle.std.proofs.lemmas.List.FromFn.{length-range_with_len}
use Rattle.std.specs.Prelude.{◌&&◌, ◌==◌, if◌then◌else◌, codes, not, Option, Some, None}
use Rattle.std.specs.Fmt.{digits, digits_onto, digit_glyph, decimal}
use Rattle.std.specs.List.{prefix_len, position_or_len, range_with_len}
use Rattle.htmd_lexical.specs.Characters.{ampersand, backslash, grave_accent, space}
use Rattle.htmd_text.specs.EscapedPlaces.{with_backslashes}
use Rattle.htmd_markdown.specs.CodeSpans.{space_if, delimited_text, meets_delimiter, smallest_unused_len}
use Rattle.htmd_markdown.specs.Runs.{longest_run, has_run}
use Rattle.htmd_markdown.specs.LineBreaks as breaks
use Rattle.htmd_markdown.specs.declared.line_break.BrStyle.{BrStyle}
use Rattle.htmd_markdown.specs.declared.line_break.BrStyle.TheVariants.{TwoSpaces, Backslash}
use Rattle.htmd_markdown.proofs.RunsLemmas.{longest_run-le-length}
use Rattle.htmd_document.specs.Tags as html
use Rattle.htmd_commonmark.specs.declared.line.Line.{Line}
use Rattle.htmd_commonmark.specs.Addresses.{is_escaped, piece, escaped_in, needs_brackets, destination, title}
use Rattle.htmd_commonmark.specs.CodeSpans.{code_span}
use Rattle.htmd_commonmark.specs.InlineMarkdown.{with_last_escaped, needs_tags, place_in_tags, written_code}
use Rattle.htmd_commonmark.specs.InlineMarkdown.{written_break, written_task, written_resource, place_of_description}
use Rattle.htmd_commonmark.specs.InlineMarkdown.{written_image, autolink, definition, reference_number}
use Rattle.htmd_commonmark.specs.References.{is_reference}
use Rattle.htmd_commonmark.specs.declared.text_escape.Place.{Place}
use Rattle.htmd_commonmark.specs.TextEscapes.{is_marked, escaped}
use Rattle.htmd_commonmark.specs.WrittenText.{is_one_line}
use Rattle.htmd_law_sizes.specs.DocumentSizes.{size_of_option}
use Rattle.htmd_law_sizes.proofs.CountsLemmas.{is_break, Cost, empty, cost_append, within, either, whole, fixed}
use Rattle.htmd_law_sizes.proofs.CountsLemmas.{cost_cons, plain_cons, repeated, cost_take}

-- ---- texts

backslashes : (marked : ℕ → Bool) (k : ℕ) (s : List ℕ)
    → Cost is_break (with_backslashes marked k s) (2 * length s)
    (length s)
backslashes marked k [] = within (empty is_break) (omega arith) (omega arith)
backslashes marked k (b ∷ s) = go (marked k) (backslashes marked (suc k) s)
  where
    go : (t : Bool) → Cost is_break (with_backslashes marked (suc k) s) (2 * length s) (length s)
        → Cost is_break
        (if t then backslash ∷ b ∷ with_backslashes marked (suc k) s else b ∷ with_backslashes marked (suc k) s)
        (2 * suc (length s)) (suc (length s))
    go true g = within (plain_cons backslash refl (cost_cons b g)) (omega arith) (omega arith)
    go false g = within (cost_cons b g) (omega arith) (omega arith)

pub escaped_cost : (place : Place) (s : List ℕ) → Cost is_break (escaped place s) (2 * length s) (length s)
escaped_cost place s = backslashes (is_marked place s) 0 s

-- a heading's last sign may be escaped
pub ended_cost : {t : List ℕ} {a n : ℕ} (c : Bool) → Cost is_break t a n
    → Cost is_break (if c then with_last_escaped t else t) (a + 2) n
ended_cost {t} true g =
    within (cost_append (cost_take (length t - 1) g) (fixed is_break (codes "\\#") 2 refl refl)) (omega arith)
    (omega arith)
ended_cost false g = within g (omega arith) (omega arith)

-- ---- codes

space_cost : (t : Bool) → Cost is_break (space_if t) 1 0
space_cost true = fixed is_break (space ∷ []) 1 refl refl
space_cost false = within (empty is_break) (omega arith) (omega arith)

delimited_cost : (t : Bool) (n : ℕ) (s : List ℕ)
    → Cost is_break (delimited_text t n s) (2 * n + 2 + length s) (length s)
delimited_cost t n s =
    let signs = repeated is_break grave_accent refl n in
    within (cost_append (cost_append (cost_append (cost_append signs (space_cost t)) (whole is_break s))
    (space_cost t)) signs)
    (omega arith) (omega arith)

prefix_le : (p : ℕ → Bool) (xs : List ℕ) → prefix_len p xs ≤ length xs
prefix_le p [] = omega arith
prefix_le p (x ∷ xs) = go (p x) (prefix_le p xs)
  where
    go : (t : Bool) → prefix_len p xs ≤ length xs → (if t then 1 + prefix_len p xs else 0) ≤ suc (length xs)
    go true i = omega (arith, i)
    go false i = omega arith

position_le : (p : ℕ → Bool) (xs : List ℕ) → position_or_len p xs ≤ length xs
position_le p xs = prefix_le (λ x. not (p x)) xs

unused_le : (s : List ℕ) → smallest_unused_len s ≤ 1 + length s
unused_le s =
    let n = longest_run grave_accent s in
    let a = position_le (λ n. not (has_run grave_accent n s)) (range_with_len 1 n) in
    omega (arith, a, length-range_with_len 1 n, longest_run-le-length grave_accent s)

span_cost : (s : List ℕ) → Cost is_break (code_span s) (3 * length s + 4) (length s)
span_cost s =
    within (delimited_cost (meets_delimiter s) (smallest_unused_len s) s) (omega (arith, unused_le s)) (omega arith)

pub code_cost : (line : Line) (s : List ℕ) → Cost is_break (written_code line s) (3 * length s + 13) (length s)
code_cost line s = go (needs_tags line s)
  where
    go : (t : Bool)
        → Cost is_break
        (if t then codes "<code>" ++ escaped (place_in_tags line) s ++ codes "</code>" else code_span s)
        (3 * length s + 13) (length s)
    go true =
        within
        (cost_append (fixed is_break (codes "<code>") 6 refl refl)
        (cost_append (escaped_cost (place_in_tags line) s) (fixed is_break (codes "</code>") 7 refl refl)))
        (omega arith) (omega arith)
    go false = within (span_cost s) (omega arith) (omega arith)

-- ---- breaks and tasks

styled_break : (style : BrStyle) → Cost is_break (breaks.line_break style) 3 1
styled_break TwoSpaces = record { long = omega arith; passing = omega arith }
styled_break Backslash = record { long = omega arith; passing = omega arith }

pub break_cost : (line : Line) → Cost is_break (written_break line) 4 1
break_cost line = go (is_one_line line.kind)
  where
    go : (t : Bool) → Cost is_break (if t then codes "<br>" else breaks.line_break line.br_style) 4 1
    go true = within (fixed is_break (codes "<br>") 4 refl refl) (omega arith) (omega arith)
    go false = within (styled_break line.br_style) (omega arith) (omega arith)

pub task_cost : (t : Bool) → Cost is_break (written_task t) 3 0
task_cost true = fixed is_break (codes "[x]") 3 refl refl
task_cost false = fixed is_break (codes "[ ]") 3 refl refl

-- ---- addresses and titles

piece_cost : (signs : List ℕ) (b : ℕ) (s : List ℕ) → Cost is_break (piece signs b s) 5 1
piece_cost signs b s = go (is_escaped signs b s) ((b == ampersand) && is_reference s)
  where
    go : (t u : Bool) → Cost is_break
        (if t then backslash ∷ b ∷ [] else (if u then codes "&amp;" else b ∷ [])) 5 1
    go true u = within (plain_cons backslash refl (cost_cons b (empty is_break))) (omega arith) (omega arith)
    go false true = within (fixed is_break (codes "&amp;") 5 refl refl) (omega arith) (omega arith)
    go false false = within (cost_cons b (empty is_break)) (omega arith) (omega arith)

escaped_in_cost : (signs s : List ℕ) → Cost is_break (escaped_in signs s) (5 * length s) (length s)
escaped_in_cost signs [] = within (empty is_break) (omega arith) (omega arith)
escaped_in_cost signs (b ∷ s) =
    within (cost_append (piece_cost signs b s) (escaped_in_cost signs s)) (omega arith) (omega arith)

pub destination_cost : (s : List ℕ) → Cost is_break (destination s) (2 + 5 * length s) (length s)
destination_cost s = go (needs_brackets s)
  where
    go : (t : Bool)
        → Cost is_break
        (if t then codes "<" ++ escaped_in (codes "<>") s ++ codes ">" else escaped_in (codes "()<>") s)
        (2 + 5 * length s) (length s)
    go true =
        within
        (cost_append (fixed is_break (codes "<") 1 refl refl)
        (cost_append (escaped_in_cost (codes "<>") s) (fixed is_break (codes ">") 1 refl refl)))
        (omega arith) (omega arith)
    go false = within (escaped_in_cost (codes "()<>") s) (omega arith) (omega arith)

pub title_cost : (name : Option (List ℕ)) → Cost is_break (title name) (3 + 5 * size_of_option name)
    (size_of_option name)
title_cost None = within (empty is_break) (omega arith) (omega arith)
title_cost (Some s) =
    within
    (cost_append (fixed is_break (codes " \"") 2 refl refl)
    (cost_append (escaped_in_cost (codes "\"") s) (fixed is_break (codes "\"") 1 refl refl)))
    (omega arith) (omega arith)

pub resource_cost : (address : List ℕ) (name : Option (List ℕ))
    → Cost is_break (written_resource address name) (8 + 5 * length address + 5 * size_of_option name)
    (length address + size_of_option name)
resource_cost address name =
    within
    (cost_append
    (cost_append (cost_append (fixed is_break (codes "](") 2 refl refl) (destination_cost address)) (title_cost name))
    (fixed is_break (codes ")") 1 refl refl))
    (omega arith) (omega arith)

pub image_cost : (address : List ℕ) (name : Option (List ℕ)) (description : List ℕ)
    → Cost is_break (written_image address name description)
    (10 + 5 * length address + 5 * size_of_option name + 2 * length description)
    (length address + size_of_option name + length description)
image_cost address name description =
    within
    (cost_append (fixed is_break (codes "![") 2 refl refl)
    (cost_append (escaped_cost place_of_description description) (resource_cost address name)))
    (omega arith) (omega arith)

pub autolink_cost : (address : List ℕ) → Cost is_break (autolink address) (2 + length address) (length address)
autolink_cost address =
    within
    (cost_append (fixed is_break (codes "<") 1 refl refl)
    (cost_append (whole is_break address) (fixed is_break (codes ">") 1 refl refl)))
    (omega arith) (omega arith)

-- ---- numbers

-- a decimal digit is neither a line feed nor a bar
digit_plain : (d : ℕ) → d < 10 → is_break (digit_glyph false d) ≡ false
digit_plain d h = grind (arith, nat_tests)

digits_cost : (k n : ℕ) {acc : List ℕ} {a m : ℕ} → Cost is_break acc a m
    → Cost is_break (digits_onto k 10 false n acc)
    (k + a) m
digits_cost zero n g = within g (omega arith) (omega arith)
digits_cost (suc k) n g =
    let more = plain_cons (digit_glyph false (n % 10)) (digit_plain (n % 10) (mod-lt n (omega arith))) g in
    either (n / 10 == 0) (within more (omega arith) (omega arith))
    (within (digits_cost k (n / 10) more) (omega arith) (omega arith))

-- a number is written with 64 digits at most
pub decimal_cost : (n : ℕ) → Cost is_break (decimal n) 64 0
unfolding digits
decimal_cost n = digits_cost 64 n (empty is_break)

pub reference_cost : (n : ℕ) → Cost is_break (reference_number n) 67 0
reference_cost n =
    within
    (cost_append (fixed is_break (codes "][") 2 refl refl)
    (cost_append (decimal_cost n) (fixed is_break (codes "]") 1 refl refl)))
    (omega arith) (omega arith)

pub definition_cost : (n : ℕ) (address : List ℕ) (name : Option (List ℕ))
    → Cost is_break (definition n address name) (73 + 5 * length address + 5 * size_of_option name)
    (length address + size_of_option name)
definition_cost n address name =
    within
    (cost_append
    (cost_append
    (cost_append (cost_append (fixed is_break (codes "[") 1 refl refl) (decimal_cost n))
    (fixed is_break (codes "]: ") 3 refl refl))
    (destination_cost address))
    (title_cost name))
    (omega arith) (omega arith)

-- ---- anchors

byte_cost : (b : ℕ) → Cost is_break (html.in_value b) 6 1
byte_cost b =
    either (b == 38) (within (fixed is_break (codes "&amp;") 5 refl refl) (omega arith) (omega arith))
    (either (b == 60) (within (fixed is_break (codes "&lt;") 4 refl refl) (omega arith) (omega arith))
    (either (b == 62) (within (fixed is_break (codes "&gt;") 4 refl refl) (omega arith) (omega arith))
    (either (b == 34) (within (fixed is_break (codes "&quot;") 6 refl refl) (omega arith) (omega arith))
    (either (b == 124) (within (fixed is_break (codes "&#124;") 6 refl refl) (omega arith) (omega arith))
    (either (b == 93) (within (fixed is_break (codes "&#93;") 5 refl refl) (omega arith) (omega arith))
    (within (cost_cons b (empty is_break)) (omega arith) (omega arith)))))))

value_cost : (s : List ℕ) → Cost is_break (html.escaped_value s) (6 * length s) (length s)
value_cost [] = within (empty is_break) (omega arith) (omega arith)
value_cost (b ∷ s) = within (cost_append (byte_cost b) (value_cost s)) (omega arith) (omega arith)

pub abbreviation_cost : (title : List ℕ)
    → Cost is_break (html.abbreviation_tag title) (15 + 6 * length title) (length title)
abbreviation_cost title =
    within
    (cost_append (cost_append (fixed is_break (codes "<abbr title=\"") 13 refl refl) (value_cost title))
    (fixed is_break (codes "\">") 2 refl refl))
    (omega arith) (omega arith)

pub anchor_cost : (id : List ℕ) → Cost is_break (html.anchor id) (6 * length id + 13) (length id)
anchor_cost id =
    within
    (cost_append
    (cost_append (cost_append (fixed is_break (codes "<a id=\"") 7 refl refl) (value_cost id))
    (fixed is_break (codes "\">") 2 refl refl))
    (fixed is_break (codes "</a>") 4 refl refl))
    (omega arith) (omega arith)
