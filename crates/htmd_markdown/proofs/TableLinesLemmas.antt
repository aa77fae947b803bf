-- All lines of a table: characters, bars and line ends.
use Rattle.std.proofs.Common.{◌≡◌, ℕ, zero, suc, ◌+◌, ◌-◌, ◌<◌, ◌≤◌, true, List, [], ◌∷◌, ◌++◌, length, take, map, refl}
use Rattle.std.proofs.Common.{sym, ap, ◌∙◌, subst, arith, append_assoc, length-append, lit<}
use Rattle.std.specs.Prelude.{not, ◌&&◌, ◌==◌, slice_index, replicate, All}
use Rattle.std.specs.List.{slice_split, flat_map}
use Rattle.std.specs.Str.{IsUtf8, chars}
use Rattle.std.specs.Str.Lines.{lines, lines_of_parts, strip_carriage_return}
use Rattle.std.proofs.lemmas.Bool.{cond-false}
use Rattle.std.proofs.lemmas.List.{append-nil, get_or_at}
use Rattle.std.proofs.lemmas.List.Elements.{All-nil, All-cons}
use Rattle.std.proofs.lemmas.List.Splits.{slice_split_at}
use Rattle.std.proofs.lemmas.List.Folds.{list_all-append}
use Rattle.std.proofs.lemmas.Str.{IsUtf8-nil, IsUtf8-append, IsUtf8-from_ascii}
use Rattle.htmd_lexical.specs.Characters.{line_feed, space, vertical_bar}
use Rattle.htmd_markdown.specs.Tables as spec
use Rattle.htmd_markdown.specs.TableReading.{IsTableLine, IsEven}
use Rattle.htmd_markdown.specs.CellBytes.{bar}
use Rattle.htmd_markdown.proofs.CellsLemmas.{lacks}
use Rattle.htmd_markdown.proofs.CharacterCounts.{characters, characters-append, characters_are}
use Rattle.htmd_markdown.proofs.TablesLemmas.{AreCells, padded_lacks, none_of, line_bars}
use lib.Utf8.{encode}

-- each cell fits its column
abbrev pub Fit : List (List ℕ) → List ℕ → Type 0
Fit [] widths = Unit {0}
Fit (cell ∷ cells) [] = ⊥
Fit (cell ∷ cells) (width ∷ widths) = (length (chars cell) ≤ width) × Fit cells widths

-- what a line of a table is made of
pub record IsLine (widths : List ℕ) (cells : List (List ℕ)) : Type 0 where
  pub each : AreCells cells
  pub count : length cells ≡ length widths
  pub fit : Fit cells widths

-- how many characters a line has
abbrev pub line_width : List ℕ → ℕ
line_width [] = 1
line_width (width ∷ widths) = width + 3 + line_width widths

spaces_characters : (n : ℕ) → characters (replicate n space) ≡ n
spaces_characters zero = refl
spaces_characters (suc n) = let one = characters-append (space ∷ []) (replicate n space) in let rest =
    spaces_characters n in omega (arith, one, rest)

padded_characters : (cell : List ℕ) (width : ℕ) → IsUtf8 cell → length (chars cell) ≤ width
    → characters (spec.padded_cell cell width) ≡ width + 2
padded_characters cell width text fits =
    let n = width - length (chars cell) in
    let pad = replicate n space in
    let first = characters-append (space ∷ []) (cell ++ (pad ++ space ∷ [])) in
    let second = characters-append cell (pad ++ space ∷ []) in
    let third = characters-append pad (space ∷ []) in
    let own = characters_are cell text in
    let spaces = spaces_characters n in
    omega (arith, first, second, third, own, spaces, fits)

barred_characters : (cells : List (List ℕ)) (widths : List ℕ) → AreCells cells → length cells ≡ length widths
    → Fit cells widths → characters (spec.barred_cells cells widths) + 1 ≡ line_width widths
barred_characters [] [] are same fit = refl
barred_characters [] (width ∷ widths) are same fit = absurd (omega arith)
barred_characters (cell ∷ cells) [] are same fit = absurd fit
barred_characters (cell ∷ cells) (width ∷ widths) are same fit =
    let here = characters-append (spec.padded_cell cell width) (vertical_bar ∷ spec.barred_cells cells widths) in
    let own = padded_characters cell width are.0.text fit.0 in
    let more = characters-append bar (spec.barred_cells cells widths) in
    let rest = barred_characters cells widths are.1 (omega arith) fit.1 in
    omega (arith, here, own, more, rest)

line_characters : (cells : List (List ℕ)) (widths : List ℕ) → IsLine widths cells
    → characters (spec.line cells widths) ≡ line_width widths
line_characters cells widths is =
    let one = characters-append bar (spec.barred_cells cells widths) in
    let rest = barred_characters cells widths is.each is.count is.fit in
    omega (arith, one, rest)

spaces_ascii : (n i : ℕ) → slice_index (replicate n space) i < 128
spaces_ascii zero i = lit< tt
spaces_ascii (suc n) zero = lit< tt
spaces_ascii (suc n) (suc i) = spaces_ascii n i

spaces_text : (n : ℕ) → IsUtf8 (replicate n space)
spaces_text n = IsUtf8-from_ascii (replicate n space) (spaces_ascii n)

padded_text : (cell : List ℕ) (width : ℕ) → IsUtf8 cell → IsUtf8 (spec.padded_cell cell width)
padded_text cell width text =
    let pad = replicate (width - length (chars cell)) space in
    IsUtf8-append (space ∷ []) (cell ++ (pad ++ space ∷ [])) (spaces_text 1)
    (IsUtf8-append cell (pad ++ space ∷ []) text
    (IsUtf8-append pad (space ∷ []) (spaces_text (width - length (chars cell))) (spaces_text 1)))

bar_text : IsUtf8 bar
unfolding encode
bar_text = (bar, (refl, refl))

barred_text : (cells : List (List ℕ)) (widths : List ℕ) → AreCells cells
    → IsUtf8 (spec.barred_cells cells widths)
barred_text [] widths are = IsUtf8-nil
barred_text (cell ∷ cells) [] are = IsUtf8-nil
barred_text (cell ∷ cells) (width ∷ widths) are =
    IsUtf8-append (spec.padded_cell cell width) (vertical_bar ∷ spec.barred_cells cells widths)
    (padded_text cell width are.0.text)
    (IsUtf8-append bar (spec.barred_cells cells widths) bar_text (barred_text cells widths are.1))

line_text : (cells : List (List ℕ)) (widths : List ℕ) → AreCells cells → IsUtf8 (spec.line cells widths)
line_text cells widths are = IsUtf8-append bar (spec.barred_cells cells widths) bar_text (barred_text cells widths are)

barred_lacks : (cells : List (List ℕ)) (widths : List ℕ) → AreCells cells
    → lacks line_feed (spec.barred_cells cells widths) ≡ true
barred_lacks [] widths are = refl
barred_lacks (cell ∷ cells) [] are = refl
barred_lacks (cell ∷ cells) (width ∷ widths) are =
    list_all-append (λ b. not (b == line_feed)) (spec.padded_cell cell width)
    (vertical_bar ∷ spec.barred_cells cells widths)
    ∙ ap (λ front. front && lacks line_feed (vertical_bar ∷ spec.barred_cells cells widths))
    (padded_lacks cell width line_feed refl are.0.line_feeds)
    ∙ barred_lacks cells widths are.1

line_lacks : (cells : List (List ℕ)) (widths : List ℕ) → AreCells cells
    → lacks line_feed (spec.line cells widths)
    ≡ true
line_lacks cells widths are = barred_lacks cells widths are

-- a line of the table, as the law of its lines says
is_table_line : (cells : List (List ℕ)) (widths : List ℕ) → IsLine widths cells
    → IsTableLine (line_width widths) (length widths) (spec.line cells widths)
is_table_line cells widths is = record {
  characters = sym (characters_are (spec.line cells widths) (line_text cells widths is.each))
      ∙ line_characters cells widths is;
  bars = line_bars cells widths is.count is.each;
}

-- ---- lines of the text

-- the lines, each with its line feed
abbrev pub joined_lines : List (List ℕ) → List ℕ
joined_lines ls = flat_map (λ l. l ++ line_feed ∷ []) ls

-- a line ends with a bar, if with anything
abbrev pub EndsWithBar : List ℕ → Type 0
EndsWithBar l = (front : List ℕ) × (l ≡ front ++ vertical_bar ∷ [])

-- the line may stand in a text of lines
pub record IsWhole (l : List ℕ) : Type 0 where
  pub line_feeds : lacks line_feed l ≡ true
  pub ends : EndsWithBar l

abbrev pub AreWhole : List (List ℕ) → Type 0
AreWhole [] = Unit {0}
AreWhole (l ∷ ls) = IsWhole l × AreWhole ls

split_lines : (ls : List (List ℕ)) → AreWhole ls
    → slice_split (λ b. b == line_feed) (joined_lines ls) ≡ ls ++ [] ∷ []
split_lines [] are = refl
split_lines (l ∷ ls) are =
    ap (slice_split (λ b. b == line_feed)) (append_assoc l (line_feed ∷ []) (joined_lines ls))
    ∙ slice_split_at (λ b. b == line_feed) l line_feed (joined_lines ls) (none_of line_feed l are.0.line_feeds) refl
    ∙ ap (λ rest. l ∷ rest) (split_lines ls are.1)

bar_stays : (front : List ℕ) → strip_carriage_return (front ++ vertical_bar ∷ []) ≡ front ++ vertical_bar ∷ []
bar_stays front =
    let l = front ++ vertical_bar ∷ [] in
    let size : length l ≡ length front + 1 = length-append front (vertical_bar ∷ []) in
    let last : slice_index l (length l - 1) ≡ vertical_bar = ap (slice_index l) (omega (arith, size))
    ∙ get_or_at front vertical_bar [] 0 (length front) refl in
    cond-false (slice_index l (length l - 1) == 13) (take (length l - 1) l) l (ap (λ b. b == 13) last)

whole_stays : (l : List ℕ) → EndsWithBar l → strip_carriage_return l ≡ l
whole_stays l (front, e) = ap strip_carriage_return e ∙ bar_stays front ∙ sym e

lines_of : (ls : List (List ℕ)) → AreWhole ls → lines_of_parts (ls ++ [] ∷ []) ≡ ls
lines_of [] are = refl
lines_of (l ∷ []) are = ap (λ x. x ∷ []) (whole_stays l are.0.ends)
lines_of (l ∷ m ∷ ls) are = ap (λ x. x ∷ lines_of_parts ((m ∷ ls) ++ [] ∷ [])) (whole_stays l are.0.ends)
    ∙ ap (λ rest. l ∷ rest) (lines_of (m ∷ ls) are.1)

-- the lines of a text of lines
pub lines_are : (ls : List (List ℕ)) → AreWhole ls → lines (joined_lines ls) ≡ ls
lines_are ls are = ap lines_of_parts (split_lines ls are) ∙ lines_of ls are

barred_ends : (cells : List (List ℕ)) (widths : List ℕ) → length cells ≡ length widths → (front : List ℕ)
    → EndsWithBar ((front ++ vertical_bar ∷ []) ++ spec.barred_cells cells widths)
barred_ends [] widths same front = (front, append-nil (front ++ vertical_bar ∷ []))
barred_ends (cell ∷ cells) [] same front = absurd (omega arith)
barred_ends (cell ∷ cells) (width ∷ widths) same front =
    let padded = spec.padded_cell cell width in
    let before = (front ++ vertical_bar ∷ []) ++ padded in
    let more = barred_ends cells widths (omega arith) before in (
      more.0,
      sym (append_assoc (front ++ vertical_bar ∷ []) padded (vertical_bar ∷ spec.barred_cells cells widths))
          ∙ sym (append_assoc before bar (spec.barred_cells cells widths)) ∙ more.1,
    )

is_whole : (cells : List (List ℕ)) (widths : List ℕ) → IsLine widths cells → IsWhole (spec.line cells widths)
is_whole cells widths is = record {
  line_feeds = line_lacks cells widths is.each;
  ends = barred_ends cells widths is.count [];
}

-- each is the cells of a line of the table
abbrev pub AreLines : List ℕ → List (List (List ℕ)) → Type 0
AreLines widths [] = Unit {0}
AreLines widths (cells ∷ rest) = IsLine widths cells × AreLines widths rest

all_whole : (widths : List ℕ) (rest : List (List (List ℕ))) → AreLines widths rest
    → AreWhole (map (λ cells. spec.line cells widths) rest)
all_whole widths [] are = tt
all_whole widths (cells ∷ rest) are = (is_whole cells widths are.0, all_whole widths rest are.1)

all_table_lines : (widths : List ℕ) (rest : List (List (List ℕ))) → AreLines widths rest
    → All (IsTableLine (line_width widths) (length widths)) (map (λ cells. spec.line cells widths) rest)
all_table_lines widths [] are = All-nil (IsTableLine (line_width widths) (length widths))
all_table_lines widths (cells ∷ rest) are =
    All-cons (IsTableLine (line_width widths) (length widths)) (spec.line cells widths)
    (map (λ c. spec.line c widths) rest) (is_table_line cells widths are.0) (all_table_lines widths rest are.1)

-- all lines are alike
pub lines_even : (widths : List ℕ) (rest : List (List (List ℕ))) → AreLines widths rest
    → IsEven (length widths) (joined_lines (map (λ cells. spec.line cells widths) rest))
lines_even widths rest are =
    let ls = map (λ cells. spec.line cells widths) rest in (
      line_width widths,
      subst (λ (l : List (List ℕ)). All (IsTableLine (line_width widths) (length widths)) l)
          (sym (lines_are ls (all_whole widths rest are))) (all_table_lines widths rest are),
    )
