-- Each part of a tag takes at least one character: what is left after a part, and one more, is no longer than the text.
use Rattle.std.proofs.Common.{◌≡◌, ℕ, suc, ◌<◌, ◌≤◌, Bool, true, false, List, [], length, drop, ap, arith, length-drop}
use Rattle.std.specs.Prelude.{if◌then◌else◌}
use Rattle.htmd_lexical.specs.WhiteSpace.{is_ascii_white_space}
use Rattle.htmd_lexical.specs.CharacterClasses.{is_empty, first_is, behind_run}
use Rattle.htmd_lexical.specs.TagReading.{TagPart, malformed, tag_end, attribute, is_other, quoted_value}
use Rattle.htmd_lexical.proofs.Cases.{test}
use Rattle.htmd_lexical.proofs.RunsLemmas.{behind_within}

-- one more than what is left after a part
abbrev pub size_of : TagPart → ℕ
size_of malformed = 0
size_of (tag_end slash s) = suc (length s)
size_of (attribute name value s) = suc (length s)

pub choice_size : (b : Bool) (p q : TagPart) (n : ℕ) → size_of p ≤ n → size_of q ≤ n
    → size_of (if b then p else q) ≤ n
choice_size true p q n h k = h
choice_size false p q n h k = k

quoted_size : (q : ℕ) (name s : List ℕ) → size_of (quoted_value q name s) ≤ suc (length s)
quoted_size q name s =
    let k = behind_within (is_other q) s in
    let d = length-drop 1 (behind_run (is_other q) s) in
    test (is_empty (behind_run (is_other q) s)) (λ e. rw e (omega arith)) (λ e. rw e (omega arith))

-- a value, given how readers take one without quotation marks
pub value_size : (name s : List ℕ) (unquoted : TagPart) → size_of unquoted ≤ suc (length s)
    → size_of (if first_is 34 s then quoted_value 34 name (drop 1 s)
    else if first_is 39 s then quoted_value 39 name (drop 1 s) else unquoted) ≤ suc (length s)
value_size name s unquoted u =
    let d = length-drop 1 s in
    let two = quoted_size 34 name (drop 1 s) in
    let one = quoted_size 39 name (drop 1 s) in
    choice_size (first_is 34 s) _ _ _ (omega arith) (choice_size (first_is 39 s) _ _ _ (omega arith) u)

-- what follows the name of an attribute, given how readers take its value
pub name_size : (name s : List ℕ) (value_of : List ℕ → TagPart)
    → ((t : List ℕ) → size_of (value_of t) ≤ suc (length t))
    → size_of (if first_is 61 (behind_run is_ascii_white_space s)
    then value_of (behind_run is_ascii_white_space (drop 1 (behind_run is_ascii_white_space s)))
    else attribute name [] s) ≤ suc (length s)
name_size name s value_of h =
    let sign : List ℕ = behind_run is_ascii_white_space s in
    let k = behind_within is_ascii_white_space s in
    let d = length-drop 1 sign in
    let l = behind_within is_ascii_white_space (drop 1 sign) in
    let v = h (behind_run is_ascii_white_space (drop 1 sign)) in
    choice_size (first_is 61 sign) _ _ _ (omega arith) (omega arith)

pub rest_shorter : (part : TagPart) (s name value rest : List ℕ) → size_of part ≤ length s
    → attribute name value rest ≡ part → length rest < length s
rest_shorter part s name value rest l e =
    let a : suc (length rest) ≡ size_of part = ap size_of e in
    omega arith
