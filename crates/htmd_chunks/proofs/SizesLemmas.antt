-- Sizes add up as texts are put together.
use Rattle.std.proofs.Common.{◌≡◌, ℕ, zero, suc, ◌+◌, ◌*◌, Bool, true, false, not, cond, List, [], ◌∷◌, ◌++◌, length}
use Rattle.std.proofs.Common.{map, refl}
use Rattle.std.proofs.Common.{sym, ap, ◌∙◌, subst, append_assoc, length-append, add-zero, mul-add, arith}
use Rattle.std.specs.Prelude.{◌==◌, codes, replicate}
use Rattle.std.specs.List.{count_by, flat_map, list_any, onto_first, slice_split}
use Rattle.std.proofs.lemmas.Bool.{eqb-true, or_parts}
use Rattle.std.proofs.lemmas.List.{append-nil, length-replicate}
use Rattle.std.proofs.lemmas.List.Sums.{sum_by-append}
use Rattle.htmd_lexical.specs.CharacterClasses.{is_empty}
use Rattle.htmd_lexical.specs.Characters.{line_feed, space}
use Rattle.htmd_text.specs.Indents.{indented_line, next_line, indented_lines}
use Rattle.htmd_text.specs.Trims.{is_line_feed}
use Rattle.htmd_commonmark.specs.Pages.{IsMarker, quoted_line, quoted, indented}
use Rattle.htmd_chunks.specs.CodeLines.{joined_lines}
use Rattle.htmd_chunks.specs.Sizes.{plus, text_size, gap_size, quoted_size, indented_size}
use Rattle.htmd_chunks.specs.declared.size.Size.{Size}
use Rattle.htmd_chunks.proofs.RunsLemmas.{IsSomething, something}

abbrev pub Line : Type 0
Line = List ℕ

abbrev pub lines : Line → List Line
lines s = slice_split is_line_feed s

-- ---- sizes by their parts

pub same_size : (a b : Size) → a.bytes ≡ b.bytes → a.full ≡ b.full → a.empty ≡ b.empty → a ≡ b
same_size a b bytes full empty =
    ap (λ n. record { bytes = n; full = a.full; empty = a.empty }) bytes
    ∙ ap (λ n. record { bytes = b.bytes; full = n; empty = a.empty }) full
    ∙ ap (λ n. record { bytes = b.bytes; full = b.full; empty = n }) empty

abbrev is_full : Line → Bool
is_full line = not (is_empty line)

counted : (p : Line → Bool) (ks ls : List Line) → count_by p (ks ++ ls) ≡ count_by p ks + count_by p ls
counted p ks ls = sum_by-append (λ l. cond (p l) 1 0) ks ls

-- ---- lines

onto-some : (b : ℕ) (ls : List Line) → IsSomething (onto_first b ls)
onto-some b [] = something (b ∷ []) []
onto-some b (l ∷ ls) = something (b ∷ l) ls

pub some-lines : (s : Line) → IsSomething (lines s)
some-lines [] = something [] []
some-lines (b ∷ s) =
    elim (b == line_feed) as (λ e. IsSomething (cond e ([] ∷ lines s) (onto_first b (lines s)))) [
      | true ↦ something [] (lines s)
      | false ↦ onto-some b (lines s)
    ]

onto-append : (b : ℕ) (ks ls : List Line) → IsSomething ks → onto_first b (ks ++ ls) ≡ onto_first b ks ++ ls
onto-append b ks ls (something x xs) = refl

pub lines-behind : (s t : Line) → lines (s ++ line_feed ∷ t) ≡ lines s ++ lines t
lines-behind [] t = refl
lines-behind (b ∷ s) t =
    ap (λ ls. cond (b == line_feed) ([] ∷ ls) (onto_first b ls)) (lines-behind s t)
    ∙ ap (λ ls. cond (b == line_feed) ([] ∷ (lines s ++ lines t)) ls)
    (onto-append b (lines s) (lines t) (some-lines s))
    ∙ elim (b == line_feed)
    as (λ e. cond e ([] ∷ (lines s ++ lines t)) (onto_first b (lines s) ++ lines t)
    ≡ cond e ([] ∷ lines s) (onto_first b (lines s)) ++ lines t) [
      | true ↦ refl
      | false ↦ refl
    ]

pub size-behind : (s t : Line)
    → text_size (s ++ line_feed ∷ t) ≡ plus (plus (text_size s) (gap_size true)) (text_size t)
size-behind s t =
    let all = lines-behind s t in
    let full : (text_size (s ++ line_feed ∷ t)).full ≡ (text_size s).full + (text_size t).full =
    ap (count_by is_full) all ∙ counted is_full (lines s) (lines t) in
    let empty : (text_size (s ++ line_feed ∷ t)).empty ≡ (text_size s).empty + (text_size t).empty =
    ap (count_by is_empty) all ∙ counted is_empty (lines s) (lines t) in
    same_size (text_size (s ++ line_feed ∷ t)) (plus (plus (text_size s) (gap_size true)) (text_size t))
    (omega (arith, length-append s (line_feed ∷ t)))
    (omega (arith, full)) (omega (arith, empty))

pub size-apart : (s t : Line) → text_size (s ++ codes "\n\n" ++ t)
    ≡ plus (plus (text_size s) (gap_size false)) (text_size t)
size-apart s t =
    let first = size-behind s (line_feed ∷ t) in
    let second = size-behind [] t in
    ap text_size (append_assoc s (codes "\n\n") t) ∙ first
    ∙ same_size (plus (plus (text_size s) (gap_size true)) (text_size (line_feed ∷ t)))
    (plus (plus (text_size s) (gap_size false)) (text_size t))
    (omega arith)
    (omega (arith, ap (λ z. z.full) second)) (omega (arith, ap (λ z. z.empty) second))

-- the lines of a text, none of which has a line feed
pub data Splits : Line → List Line → Type 0 where
  one : (l : Line) → lines l ≡ l ∷ [] → Splits l (l ∷ [])
  more : (l s : Line) (ls : List Line) → lines l ≡ l ∷ [] → Splits s ls
      → Splits (l ++ line_feed ∷ s) (l ∷ ls)

alone : (b : ℕ) (l : Line) → (b == line_feed) ≡ false → lines l ≡ l ∷ []
    → lines (b ∷ l) ≡ (b ∷ l) ∷ []
alone b l other is =
    ap (λ e. cond e ([] ∷ lines l) (onto_first b (lines l))) other ∙ ap (onto_first b) is

split-more : (b : ℕ) (s : Line) (ls : List Line) → Splits s ls → (e : Bool) → (b == line_feed) ≡ e
    → Splits (b ∷ s) (cond e ([] ∷ ls) (onto_first b ls))
split-more b s ls split true e =
    subst (λ (x : ℕ). Splits (x ∷ s) ([] ∷ ls)) (sym (eqb-true b line_feed e)) (more [] s ls refl split)
split-more b s ls (one l is) false e = one (b ∷ l) (alone b l e is)
split-more b s ls (more l rest ks is split) false e = more (b ∷ l) rest ks (alone b l e is) split

pub splits : (s : Line) → Splits s (lines s)
splits [] = one [] refl
splits (b ∷ s) = split-more b s (lines s) (splits s) (b == line_feed) refl

some-split : (f : Line → Line) (s : Line) (ls : List Line) → Splits s ls → IsSomething (map f ls)
some-split f s ls (one l is) = something (f l) []
some-split f s ls (more l rest ks is split) = something (f l) (map f ks)

pub joined-more : (l : Line) (ls : List Line) → IsSomething ls
    → joined_lines (l ∷ ls) ≡ l ++ line_feed ∷ joined_lines ls
joined-more l ls (something x xs) = refl

-- ---- quotes

full-line : (b : ℕ) (l : Line) → lines (b ∷ l) ≡ (b ∷ l) ∷ []
    → text_size (b ∷ l) ≡ record { bytes = length (b ∷ l); full = 1; empty = 0 }
full-line b l is =
    same_size (text_size (b ∷ l)) (record { bytes = length (b ∷ l); full = 1; empty = 0 }) refl
    (ap (count_by is_full) is) (ap (count_by is_empty) is)

line-quoted : (l : Line) → lines l ≡ l ∷ [] → text_size (quoted_line l) ≡ quoted_size (text_size l)
line-quoted [] is = refl
line-quoted (b ∷ l) is =
    full-line 62 (space ∷ b ∷ l) (alone 62 (space ∷ b ∷ l) refl (alone space (b ∷ l) refl is))
    ∙ same_size (record { bytes = length (62 ∷ space ∷ b ∷ l); full = 1; empty = 0 })
    (quoted_size (record { bytes = length (b ∷ l); full = 1; empty = 0 })) (omega arith) refl refl
    ∙ ap quoted_size (sym (full-line b l is))

quoted-sum : (a b : Size) → plus (plus (quoted_size a) (gap_size true)) (quoted_size b)
    ≡ quoted_size (plus (plus a (gap_size true)) b)
quoted-sum a b =
    same_size (plus (plus (quoted_size a) (gap_size true)) (quoted_size b))
    (quoted_size (plus (plus a (gap_size true)) b)) (omega arith) (omega arith) refl

lines-quoted : (s : Line) (ls : List Line) → Splits s ls
    → text_size (joined_lines (map quoted_line ls)) ≡ quoted_size (text_size s)
lines-quoted s ls (one l is) = ap text_size (append-nil (quoted_line l)) ∙ line-quoted l is
lines-quoted s ls (more l rest ks is split) =
    ap text_size (joined-more (quoted_line l) (map quoted_line ks) (some-split quoted_line rest ks split))
    ∙ size-behind (quoted_line l) (joined_lines (map quoted_line ks))
    ∙ ap (λ z. plus (plus z (gap_size true)) (text_size (joined_lines (map quoted_line ks)))) (line-quoted l is)
    ∙ ap (plus (plus (quoted_size (text_size l)) (gap_size true))) (lines-quoted rest ks split)
    ∙ quoted-sum (text_size l) (text_size rest) ∙ ap quoted_size (sym (size-behind l rest))

pub size-quoted : (s : Line) → text_size (quoted s) ≡ quoted_size (text_size s)
size-quoted s = lines-quoted s (lines s) (splits s)

-- ---- items

-- the first line isn't empty
abbrev pub begins_well : Line → Bool
begins_well [] = false
begins_well (b ∷ s) = not (is_line_feed b)

pub behind-marker : (m t : Line) → list_any is_line_feed m ≡ false → lines t ≡ t ∷ []
    → lines (m ++ t) ≡ (m ++ t) ∷ []
behind-marker [] t none is = is
behind-marker (b ∷ m) t none is =
    let p = or_parts (is_line_feed b) (list_any is_line_feed m) none in
    alone b (m ++ t) p.0 (behind-marker m t p.1 is)

behind-spaces : (n : ℕ) (t : Line) → lines t ≡ t ∷ []
    → lines (replicate n space ++ t) ≡ (replicate n space ++ t) ∷ []
behind-spaces zero t is = is
behind-spaces (suc n) t is = alone space (replicate n space ++ t) refl (behind-spaces n t is)

pub full-text : (t : Line) → lines t ≡ t ∷ [] → is_empty t ≡ false
    → text_size t ≡ record { bytes = length t; full = 1; empty = 0 }
full-text [] is some = absurd (cc)
full-text (b ∷ t) is some = full-line b t is

pub still-some : (front : Line) (b : ℕ) (l : Line) → is_empty (front ++ b ∷ l) ≡ false
still-some [] b l = refl
still-some (c ∷ front) b l = refl

-- a line that isn't empty, behind so many bytes
wider-line : (width b : ℕ) (l front : Line) → lines (b ∷ l) ≡ (b ∷ l) ∷ []
    → lines (front ++ b ∷ l) ≡ (front ++ b ∷ l) ∷ [] → length front ≡ width
    → text_size (front ++ b ∷ l) ≡ indented_size width (text_size (b ∷ l))
wider-line width b l front is wider long =
    full-text (front ++ b ∷ l) wider (still-some front b l)
    ∙ same_size (record { bytes = length (front ++ b ∷ l); full = 1; empty = 0 })
    (indented_size width (record { bytes = length (b ∷ l); full = 1; empty = 0 }))
    (omega (arith, length-append front (b ∷ l), long)) refl refl
    ∙ ap (indented_size width) (sym (full-line b l is))

line-indented : (width : ℕ) (l : Line) → lines l ≡ l ∷ []
    → text_size (indented_line width l) ≡ indented_size width (text_size l)
line-indented width [] is =
    same_size (text_size []) (indented_size width (text_size [])) (omega arith) refl refl
line-indented width (b ∷ l) is =
    wider-line width b l (replicate width space) is (behind-spaces width (b ∷ l) is)
    (length-replicate width space)

indented-sum : (width : ℕ) (a b : Size)
    → plus (plus (indented_size width a) (gap_size true)) (indented_size width b)
    ≡ indented_size width (plus (plus a (gap_size true)) b)
indented-sum width a b =
    same_size (plus (plus (indented_size width a) (gap_size true)) (indented_size width b))
    (indented_size width (plus (plus a (gap_size true)) b))
    (omega (arith, mul-add width (a.full + 0) b.full, ap (λ n. width * n) (add-zero a.full))) refl refl

-- lines behind a text
later-lines : (width : ℕ) (p s : Line) (ls : List Line) → Splits s ls
    → text_size (p ++ flat_map (next_line width) ls)
    ≡ plus (plus (text_size p) (gap_size true)) (indented_size width (text_size s))
later-lines width p s ls (one l is) =
    ap (λ z. text_size (p ++ line_feed ∷ z)) (append-nil (indented_line width l))
    ∙ size-behind p (indented_line width l)
    ∙ ap (plus (plus (text_size p) (gap_size true))) (line-indented width l is)
later-lines width p s ls (more l rest ks is split) =
    let next = p ++ line_feed ∷ indented_line width l in
    let one_more : text_size next
    ≡ plus (plus (text_size p) (gap_size true)) (indented_size width (text_size l)) =
    size-behind p (indented_line width l)
    ∙ ap (plus (plus (text_size p) (gap_size true))) (line-indented width l is) in
    ap text_size (sym (append_assoc p (line_feed ∷ indented_line width l) (flat_map (next_line width) ks)))
    ∙ later-lines width next rest ks split
    ∙ ap (λ z. plus (plus z (gap_size true)) (indented_size width (text_size rest))) one_more
    ∙ plus-apart (plus (text_size p) (gap_size true)) (indented_size width (text_size l))
    (indented_size width (text_size rest))
    ∙ ap (plus (plus (text_size p) (gap_size true))) (indented-sum width (text_size l) (text_size rest)
    ∙ ap (indented_size width) (sym (size-behind l rest)))
  where
    plus-apart : (a b c : Size)
        → plus (plus (plus a b) (gap_size true)) c ≡ plus a (plus (plus b (gap_size true)) c)
    plus-apart a b c =
        same_size (plus (plus (plus a b) (gap_size true)) c) (plus a (plus (plus b (gap_size true)) c))
        (omega arith) (omega arith) (omega arith)

-- the first line of an item
first-line : (marker : Line) (spaces b : ℕ) (l : Line) → IsMarker marker → lines (b ∷ l) ≡ (b ∷ l) ∷ []
    → text_size ((marker ++ replicate spaces space) ++ b ∷ l)
    ≡ indented_size (length marker + spaces) (text_size (b ∷ l))
first-line marker spaces b l is single =
    wider-line (length marker + spaces) b l (marker ++ replicate spaces space) single
    (ap lines (append_assoc marker (replicate spaces space) (b ∷ l))
    ∙ behind-marker marker (replicate spaces space ++ b ∷ l) is.line (behind-spaces spaces (b ∷ l) single)
    ∙ ap (λ t. t ∷ []) (sym (append_assoc marker (replicate spaces space) (b ∷ l))))
    (length-append marker (replicate spaces space) ∙ ap (λ n. length marker + n) (length-replicate spaces space))

item-lines : (marker : Line) (spaces : ℕ) (s : Line) (ls : List Line) → IsMarker marker → begins_well s ≡ true
    → Splits s ls
    → text_size ((marker ++ replicate spaces space) ++ indented_lines (length marker + spaces) ls)
    ≡ indented_size (length marker + spaces) (text_size s)
item-lines marker spaces s ls is well (one [] single) = absurd (cc)
item-lines marker spaces s ls is well (one (b ∷ l) single) =
    ap (λ t. text_size ((marker ++ replicate spaces space) ++ t)) (append-nil (b ∷ l))
    ∙ first-line marker spaces b l is single
item-lines marker spaces s ls is well (more [] rest ks single split) = absurd (cc)
item-lines marker spaces s ls is well (more (b ∷ l) rest ks single split) =
    let width = length marker + spaces in
    let front = (marker ++ replicate spaces space) ++ b ∷ l in
    let behind = flat_map (next_line width) ks in
    ap text_size (sym (append_assoc (marker ++ replicate spaces space) (b ∷ l) behind))
    ∙ later-lines width front rest ks split
    ∙ ap (λ z. plus (plus z (gap_size true)) (indented_size width (text_size rest)))
    (first-line marker spaces b l is single)
    ∙ indented-sum width (text_size (b ∷ l)) (text_size rest)
    ∙ ap (indented_size width) (sym (size-behind (b ∷ l) rest))

pub item-indented : (marker : Line) (spaces : ℕ) (s : Line) → IsMarker marker → begins_well s ≡ true
    → text_size (indented marker spaces s) ≡ indented_size (length marker + spaces) (text_size s)
item-indented marker spaces [] is well = absurd (cc)
item-indented marker spaces (b ∷ s) is well =
    item-lines marker spaces (b ∷ s) (lines (b ∷ s)) is well (splits (b ∷ s))

pub size-indented : (marker : Line) (spaces b : ℕ) (s : Line) → IsMarker marker → is_line_feed b ≡ false
    → text_size (indented marker spaces (b ∷ s)) ≡ indented_size (length marker + spaces) (text_size (b ∷ s))
size-indented marker spaces b s is well = item-indented marker spaces (b ∷ s) is (ap not well)

-- an empty one
pub item-empty : (marker : Line) (spaces : ℕ) → IsMarker marker
    → text_size (indented marker spaces []) ≡ record { bytes = length marker; full = 1; empty = 0 }
item-empty marker spaces is =
    let alone_is : lines marker ≡ marker ∷ [] =
    ap lines (sym (append-nil marker)) ∙ behind-marker marker [] is.line refl
    ∙ ap (λ t. t ∷ []) (append-nil marker) in
    ap text_size (append-nil (marker ++ []) ∙ append-nil marker)
    ∙ full-text marker alone_is (filled-text marker is.some)
  where
    filled-text : (t : Line) → (length t == 0) ≡ false → is_empty t ≡ false
    filled-text [] some = absurd (cc)
    filled-text (b ∷ t) some = refl
