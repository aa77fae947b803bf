-- The white space at the ends of a text, and what is between.
use Rattle.std.proofs.Common.{◌≡◌, ◌≢◌, ℕ, ◌+◌, ◌-◌, ◌<◌, ◌≤◌, List, [], ◌∷◌, ◌++◌, length, get_or, take, drop, min}
use Rattle.std.proofs.Common.{refl, sym, ap, ◌∙◌, subst, arith, append_assoc, length-append, length-drop, Some}
use Rattle.std.specs.Char.{is_not_whitespace, encode_utf8}
use Rattle.std.specs.List.{insert_slice}
use Rattle.std.specs.Str.{IsUtf8, IsTrimStart, IsTrimEnd, EmptyOrStartsWithPassing, encode_utf8_all, IsCharBoundary}
use Rattle.std.specs.Str.{trim_start, trim_end}
use Rattle.std.specs.String.Boundary.{IsSplitPoint}
use Rattle.std.proofs.Math.Seq.{take-append_seam, drop-append_seam}
use Rattle.std.proofs.lemmas.List.{take_min, drop_min, take-append-drop, length-take-le, get_or_append_left}
use Rattle.std.proofs.lemmas.Str.{encode_same, IsCharBoundary-from_rest}
use Rattle.htmd_text.proofs.TrimsLemmas.{rest_boundary, front_boundary}
use Rattle.htmd_markdown.specs.Emphases as spec
use Rattle.htmd_markdown.specs.Emphases.{IsTight, AreMarksInside, IsWhiteSpace, between, emphasised_text}
use Rattle.htmd_markdown.specs.declared.emphasis.Emphasis.{Emphasis}

-- what was cut from the start, by the length of the rest
pub cut_is : (s r : List ℕ) (n : ℕ) → r ≡ drop n s → take (length s - length r) s ≡ take n s
cut_is s r n e =
    let size : length r ≡ length s - n = ap length e ∙ length-drop n s in
    let place : length s - length r ≡ min n (length s) = omega (arith, size) in
    ap (λ k. take k s) place ∙ take_min n s

-- a text that is not empty begins with the character with which any text begins that goes on from it
begins_same : (middle after rest : List ℕ) (c : ℕ) → IsUtf8 middle → middle ≢ []
    → middle ++ after ≡ encode_utf8 c ++ rest → (more : List ℕ) × (middle ≡ encode_utf8 c ++ more)
begins_same middle after rest c ([], (scalar, e)) filled whole = absurd (filled (sym e))
begins_same middle after rest c (d ∷ ds, (scalar, e)) filled whole =
    let spelled : encode_utf8 d ++ (encode_utf8_all ds ++ after) ≡ encode_utf8 c ++ rest =
    sym (append_assoc (encode_utf8 d) (encode_utf8_all ds) after) ∙ ap (λ l. l ++ after) e ∙ whole in
    let same : d ≡ c = (encode_same d c (encode_utf8_all ds ++ after) rest spelled).0 in
    (encode_utf8_all ds, sym e ∙ ap (λ b. encode_utf8 b ++ encode_utf8_all ds) same)

some_length : (s : List ℕ) → s ≢ [] → 0 < length s
some_length [] filled = absurd (filled refl)
some_length (b ∷ s) filled = omega arith

-- without white space at its end, the beginning of a text that begins with none is tight
tight : (rest middle after : List ℕ) → IsUtf8 middle → middle ≢ [] → middle ++ after ≡ rest
    → ((more : List ℕ) × EmptyOrStartsWithPassing is_not_whitespace rest more) → IsTrimEnd rest middle
    → IsTight middle
tight rest middle after text filled whole (more, begins) end =
    let some : 0 < length rest = omega (arith, some_length middle filled, ap length whole, length-append middle after)
    in
    let first = begins some in
    let same = begins_same middle after more first.0 text filled (whole ∙ first.2) in
    record {
      filled = filled;
      begins = (same.0, λ _. (first.0, first.1, same.1, first.3));
      ends = end.3;
    }

-- the marks around what the two trims leave
pub marks_inside : (mark s rest middle before after out : List ℕ) → IsUtf8 middle → middle ≢ []
    → IsTrimStart s rest
    → IsTrimEnd rest middle → before ≡ take (length s - length rest) s → after ≡ drop (length middle) rest
    → out ≡ (((before ++ mark) ++ middle) ++ mark) ++ after → AreMarksInside mark s out
marks_inside mark s rest middle before after out text filled start end b a e =
    let front : before ≡ take start.0 s = b ∙ cut_is s rest start.0 start.1 in
    let back : after ≡ drop end.0 rest = a ∙ ap (λ k. drop k rest) end.4 in
    let inner : middle ++ after ≡ rest = rw (back, end.1) (take-append-drop end.0 rest) in
    let all : before ++ rest ≡ s = rw (front, start.1) (take-append-drop start.0 s) in
    let split : s ≡ (before ++ middle) ++ after = sym all ∙ ap (λ l. before ++ l) (sym inner)
    ∙ sym (append_assoc before middle after) in (
      before,
      middle,
      after,
      (
        e,
        split,
        subst (λ (l : List ℕ). IsWhiteSpace l) (sym front) start.2,
        tight rest middle after text filled inner start.3 end,
        subst (λ (l : List ℕ). IsWhiteSpace l) (sym back) end.2,
      ),
    )

-- a text between marks is one where there is something between them
between_filled : (mark before middle after : List ℕ) → middle ≢ []
    → between mark before middle after ≡ Some ((((before ++ mark) ++ middle) ++ mark) ++ after)
between_filled mark before [] after filled = absurd (filled refl)
between_filled mark before (b ∷ middle) after filled = refl

-- what begins where the white space at the start ends
rest_is : (s rest : List ℕ) → IsTrimStart s rest → rest ≡ drop (length s - length rest) s
rest_is s rest start =
    let size : length rest ≡ length s - start.0 = ap length start.1 ∙ length-drop start.0 s in
    let place : length s - length rest ≡ min start.0 (length s) = omega (arith, start.4) in
    start.1 ∙ sym (drop_min start.0 s) ∙ ap (λ k. drop k s) (sym place)

-- the text is its white space, what is between, and white space again
parts : (s rest middle : List ℕ) → IsTrimStart s rest → IsTrimEnd rest middle
    → s ≡ (take (length s - length rest) s ++ middle) ++ drop (length middle) rest
parts s rest middle start end =
    let before = take (length s - length rest) s in
    let front : middle ≡ take (length middle) rest = end.1 ∙ ap (λ k. take k rest) (sym end.4) in
    let inner : middle ++ drop (length middle) rest ≡ rest = ap (λ l. l ++ drop (length middle) rest) front
    ∙ take-append-drop (length middle) rest in
    let all : before ++ rest ≡ s = ap (λ l. before ++ l) (rest_is s rest start)
    ∙ take-append-drop (length s - length rest) s in
    sym all ∙ ap (λ l. before ++ l) (sym inner) ∙ sym (append_assoc before middle (drop (length middle) rest))

-- a mark at the seam of two texts
inserted : (xs ys mark : List ℕ) (n : ℕ) → n ≡ length xs
    → insert_slice (xs ++ ys) n mark ≡ (xs ++ mark) ++ ys
inserted xs ys mark n e = rw (e, take-append_seam xs ys, drop-append_seam xs ys) refl

-- first the mark at the end, then that at the start
both_inserted : (before middle after mark s : List ℕ) (start end : ℕ) → s ≡ (before ++ middle) ++ after
    → start ≡ length before → end ≡ start + length middle
    → insert_slice (insert_slice s end mark) start mark ≡ (((before ++ mark) ++ middle) ++ mark) ++ after
both_inserted before middle after mark s start end whole first last =
    let size : end ≡ length (before ++ middle) = omega (arith, length-append before middle) in
    let behind : insert_slice s end mark ≡ ((before ++ middle) ++ mark) ++ after =
    ap (λ l. insert_slice l end mark) whole ∙ inserted (before ++ middle) after mark end size in
    let apart : ((before ++ middle) ++ mark) ++ after ≡ before ++ (middle ++ (mark ++ after)) = simp append_assoc in
    ap (λ l. insert_slice l start mark) (behind ∙ apart)
    ∙ inserted before (middle ++ (mark ++ after)) mark start first
    ∙ simp append_assoc

-- the text that the code makes
pub marks_put : (mark s rest middle once out : List ℕ) (start end : ℕ) → IsTrimStart s rest
    → IsTrimEnd rest middle → start ≡ length s - length rest → end ≡ start + length middle
    → once ≡ insert_slice s end mark → out ≡ insert_slice once start mark
    → out ≡ (((take (length s - length rest) s ++ mark) ++ middle) ++ mark) ++ drop (length middle) rest
marks_put mark s rest middle once out start end cut_start cut_end first last at_end at_start =
    let size = length-take-le (length s - length rest) s (omega arith) in
    at_start
    ∙ ap (λ l. insert_slice l start mark) at_end
    ∙ both_inserted (take (length s - length rest) s) middle (drop (length middle) rest) mark s start end
    (parts s rest middle cut_start cut_end) (omega (arith, size)) last

-- such a text is the content with emphasis
pub emphasised_is : (emphasis : Emphasis) (mark s rest middle out : List ℕ) → mark ≡ spec.mark emphasis
    → rest ≡ trim_start s → middle ≡ trim_end rest → middle ≢ []
    → out ≡ (((take (length s - length rest) s ++ mark) ++ middle) ++ mark) ++ drop (length middle) rest
    → emphasised_text emphasis s ≡ Some out
emphasised_is emphasis mark s rest middle out marked start end filled e =
    let before = take (length s - length rest) s in
    let after = drop (length middle) rest in
    let same : emphasised_text emphasis s ≡ between mark before middle after = rw (end, start, marked) refl in
    same ∙ between_filled mark before middle after filled ∙ ap (λ l. Some l) (sym e)

-- a mark may stand after what is left
pub end_may_take : (s rest middle : List ℕ) (end : ℕ) → IsUtf8 rest → IsUtf8 middle → IsTrimStart s rest
    → IsTrimEnd rest middle → end ≡ length s - length rest + length middle → IsSplitPoint s end
end_may_take s rest middle end text text_middle cut_start cut_end place =
    let cut : IsCharBoundary rest (length middle) =
    front_boundary rest middle cut_end.0 text text_middle cut_end.5 cut_end.4 cut_end.1 in
    let here = IsCharBoundary-from_rest s (length s - length rest) (length middle) (omega arith)
    (subst (λ (l : List ℕ). IsCharBoundary l (length middle)) (rest_is s rest cut_start) cut) in
    subst (λ (k : ℕ). IsSplitPoint s k) (sym place) (here.0, λ _. here.1)

-- what comes before a mark stays
before_mark : (s mark : List ℕ) (n i : ℕ) → n ≤ length s → i < n
    → get_or (insert_slice s n mark) i 0 ≡ get_or s i 0
before_mark s mark n i le lt =
    let size = length-take-le n s le in
    let within : i < length (take n s) = omega arith in
    ap (λ l. get_or l i 0) (append_assoc (take n s) mark (drop n s))
    ∙ get_or_append_left (take n s) (mark ++ drop n s) 0 i within
    ∙ sym (get_or_append_left (take n s) (drop n s) 0 i within)
    ∙ ap (λ l. get_or l i 0) (take-append-drop n s)

-- with a mark after what is left, one may stand in front of it too
pub start_may_take : (s rest middle mark marked : List ℕ) (start end : ℕ) → IsUtf8 rest → middle ≢ []
    → IsTrimStart s rest → IsTrimEnd rest middle → start ≡ length s - length rest
    → end ≡ start + length middle → marked ≡ insert_slice s end mark → IsSplitPoint marked start
start_may_take s rest middle mark marked start end text filled cut_start cut_end first last e =
    let here = rest_boundary s rest cut_start.0 text cut_start.4 cut_start.1 in
    let some : 0 < length middle = some_length middle filled in
    let within : end ≤ length s = omega (arith, cut_start.4, cut_end.4, cut_end.5) in
    let same : get_or marked start 0 ≡ get_or s start 0 =
    ap (λ l. get_or l start 0) e ∙ before_mark s mark end start within (omega arith) in
    let front = length-take-le end s within in
    let size : length marked ≡ length (take end s) + length mark + length (drop end s) =
    ap length e ∙ simp length-append in
    let there : IsCharBoundary s start = subst (λ (k : ℕ). IsCharBoundary s k) (sym first) here in
    let begins = there.1 (omega arith) in
    (omega arith, λ _ _. subst (λ (b : ℕ). 128 ≤ b → 192 ≤ b) (sym same) begins)
