-- Blocks of raw HTML: texts without CR, and blank lines.
use Rattle.std.proofs.Common.{◌≡◌, ◌≢◌, ℕ, Bool, true, false, ◌&&◌, eqb, List, [], ◌∷◌, ◌++◌, refl, sym, ap, ◌∙◌}
use Rattle.std.proofs.Common.{subst, arith}
use Rattle.std.proofs.Math.Bool.{and-true, and-false, or-true}
use Rattle.std.proofs.lemmas.Bool.Decides.{nat_tests}
use Rattle.std.proofs.lemmas.Bool.{false≢true, eqb-true, and_parts, or_parts}
use Rattle.std.proofs.lemmas.Str.{encodes-append, encodes-chars, chars_past_char}
use Rattle.std.specs.Char.{is_whitespace}
use Rattle.std.specs.List.{list_any, list_all}
use Rattle.std.specs.Str.{IsUtf8, chars, encode_utf8_all}
use Rattle.htmd_lexical.specs.Characters.{line_feed, carriage_return}
use Rattle.htmd_lexical.specs.BlankLines.{with_blank_lines}
use Rattle.htmd_values.specs.RawBlocks.{line_feed_reference, begins_line, without_blank_lines, raw_block, HasBlankLine}
use Rattle.htmd_values.specs.RawBlocks.{has_carriage_return, raw_html_from, raw_html, RefersToLineFeeds, nothing, same}
use Rattle.htmd_values.specs.RawBlocks.{reference, IsRawBlock}
use Rattle.htmd_values.specs.SerialiserSteps.{has_blank_line_from, has_blank_line}
use Rattle.htmd_lexical.proofs.Cases.{test}
use lib.Utf8.{encode}

-- ---- texts without CR

-- without CR, a text is rewritten to its raw text
without_blank_lines-raw_html : (after : Bool) (cs : List ℕ) → list_any (λ c. eqb c carriage_return) cs ≡ false
    → without_blank_lines after cs ≡ raw_html_from after cs
without_blank_lines-raw_html after [] h = refl
without_blank_lines-raw_html after (c ∷ cs) h =
    let parts = or_parts (eqb c carriage_return) (list_any (λ c. eqb c carriage_return) cs) h in
    let other : eqb c carriage_return ≡ false = parts.0 in
    let escaped : without_blank_lines false cs ≡ raw_html_from false cs =
    without_blank_lines-raw_html false cs parts.1 in
    let ended : without_blank_lines true cs ≡ raw_html_from true cs = without_blank_lines-raw_html true cs parts.1 in
    let white : without_blank_lines (after && is_whitespace c) cs ≡ raw_html_from (after && is_whitespace c) cs =
    without_blank_lines-raw_html (after && is_whitespace c) cs parts.1 in
    test (eqb c line_feed) (λ y. rw (y, escaped, ended) refl) (λ n. rw (n, other, white) refl)

-- ---- blank lines

-- a raw text has no blank line
raw_html_from-no_blank_line : (after : Bool) (cs : List ℕ)
    → has_blank_line_from after (raw_html_from after cs) ≡ false
raw_html_from-no_blank_line after [] = refl
raw_html_from-no_blank_line after (c ∷ cs) =
    test (eqb c line_feed)
    (λ y. test after (λ a. rw (y, a) (raw_html_from-no_blank_line false cs))
    (λ a. rw (y, a, y) (raw_html_from-no_blank_line true cs)))
    (λ n. rw (n, n) (raw_html_from-no_blank_line (after && is_whitespace c) cs))

-- a line feed after white space after a line feed is found
found_behind : (between behind : List ℕ) → list_all is_whitespace between ≡ true
    → has_blank_line_from true (between ++ line_feed ∷ behind) ≡ true
found_behind [] behind w = refl
found_behind (c ∷ between) behind w =
    let parts = and_parts (is_whitespace c) (list_all is_whitespace between) w in
    let white : is_whitespace c ≡ true = parts.0 in
    test (eqb c line_feed) (λ y. rw y refl) (λ n. rw (n, white) (found_behind between behind parts.1))

found : (after : Bool) (before between behind : List ℕ) → list_all is_whitespace between ≡ true
    → has_blank_line_from after (before ++ line_feed ∷ between ++ line_feed ∷ behind) ≡ true
found after [] between behind w = rw (found_behind between behind w) (or-true after)
found after (c ∷ before) between behind w =
    test (eqb c line_feed)
    (λ y. rw (y, found true before between behind w) (or-true after))
    (λ n. rw n (found (after && is_whitespace c) before between behind w))

-- the test finds each blank line
none_found : (cs : List ℕ) → has_blank_line cs ≡ false → HasBlankLine cs → ⊥
none_found cs e b =
    false≢true (sym e ∙ (ap has_blank_line b.text ∙ found false b.before b.between b.behind b.white))

module _ (total : Bool) (c : ℕ) (cs : List ℕ) where
  -- a line feed after a line feed
  pub found_here : c ≡ line_feed → has_blank_line_from true (c ∷ cs) ≡ total → true ≡ total
  found_here e h = let y : eqb c line_feed ≡ true = grind (arith, nat_tests) in rw y at h

  -- the first of two line feeds
  pub past_line_feed : c ≡ line_feed → has_blank_line_from false (c ∷ cs) ≡ total
      → has_blank_line_from true cs ≡ total
  past_line_feed e h = let y : eqb c line_feed ≡ true = grind (arith, nat_tests) in rw y at h

  pub past_other : (after : Bool) → c ≢ line_feed → has_blank_line_from after (c ∷ cs) ≡ total
      → has_blank_line_from (after && is_whitespace c) cs ≡ total
  past_other after e h = let n : eqb c line_feed ≡ false = grind (arith, nat_tests) in rw n at h

-- the test, one character on
pub has_blank_line-turn : (s rest : List ℕ) (c : ℕ) (after total : Bool) → IsUtf8 s → s ≡ encode c ++ rest
    → has_blank_line_from after (chars s) ≡ total → has_blank_line_from after (c ∷ chars rest) ≡ total
has_blank_line-turn s rest c after total u e h = ap (has_blank_line_from after) (sym (chars_past_char s rest c u e))
    ∙ h

-- what holds no blank line after a line feed holds none anywhere
none_afresh : (after : Bool) (cs : List ℕ) → has_blank_line_from after cs ≡ false
    → has_blank_line_from false cs ≡ false
none_afresh after [] h = refl
none_afresh after (c ∷ cs) h =
    test (eqb c line_feed)
    (λ y. rw y (or_parts after (has_blank_line_from true cs) (rw y at h)).1)
    (λ n. rw n (none_afresh (after && is_whitespace c) cs (rw n at h)))

-- a line feed would make a blank line after white space
begins_none : (after : Bool) (cs : List ℕ) → has_blank_line_from after cs ≡ false
    → (after && begins_line cs) ≡ false
begins_none after [] h = and-false after
begins_none after (c ∷ cs) h =
    test (eqb c line_feed)
    (λ y. rw (or_parts after (has_blank_line_from true cs) (rw y at h)).0 refl)
    (λ n. rw n (and-false after))

carriage_return-white : (after : Bool) (c : ℕ) → eqb c carriage_return ≡ true
    → (after && is_whitespace c) ≡ after
carriage_return-white after c e =
    subst (λ x. (after && is_whitespace x) ≡ after) (sym (eqb-true c carriage_return e)) (and-true after)

-- a text with no blank line is not changed
without_blank_lines-same : (after : Bool) (cs : List ℕ) → has_blank_line_from after cs ≡ false
    → without_blank_lines after cs ≡ cs
without_blank_lines-same after [] h = refl
without_blank_lines-same after (c ∷ cs) h =
    test (eqb c line_feed)
    (λ y.
    let parts = or_parts after (has_blank_line_from true cs) (rw y at h) in
    rw (y, parts.0) (ap (λ x. c ∷ x) (without_blank_lines-same true cs parts.1)))
    (λ n.
    let none : has_blank_line_from (after && is_whitespace c) cs ≡ false = rw n at h in
    test (eqb c carriage_return)
    (λ y.
    let behind : has_blank_line_from after cs ≡ false =
    subst (λ x. has_blank_line_from x cs ≡ false) (carriage_return-white after c y) none in
    rw (n, y, begins_none after cs behind)
    (ap (λ x. c ∷ x) (without_blank_lines-same false cs (none_afresh after cs behind))))
    (λ o. rw (n, o) (ap (λ x. c ∷ x) (without_blank_lines-same (after && is_whitespace c) cs none))))

-- nor as bytes
pub without_blank_lines-none : (s : List ℕ) → IsUtf8 s → has_blank_line (chars s) ≡ false
    → s ≡ encode_utf8_all (without_blank_lines false (chars s))
without_blank_lines-none s u h =
    sym (ap encode_utf8_all (without_blank_lines-same false (chars s) h) ∙ encodes-chars s u)

-- ---- references to line feeds

same_all : (cs : List ℕ) {s t : List ℕ} → RefersToLineFeeds s t → RefersToLineFeeds (cs ++ s) (cs ++ t)
same_all [] r = r
same_all (c ∷ cs) r = same c (same_all cs r)

encode-line_feed : encode line_feed ≡ line_feed ∷ []
unfolding encode
encode-line_feed = refl

encodes-reference : encode_utf8_all line_feed_reference ≡ line_feed_reference
unfolding encode
encodes-reference = refl

raw_html_from-refers : (after : Bool) (cs : List ℕ)
    → RefersToLineFeeds (encode_utf8_all cs) (encode_utf8_all (raw_html_from after cs))
raw_html_from-refers after [] = nothing
raw_html_from-refers after (c ∷ cs) =
    test (eqb c line_feed)
    (λ y. test after
    (λ a. rw (y, a)
    (subst (λ x. RefersToLineFeeds (x ++ encode_utf8_all cs)
    (encode_utf8_all (line_feed_reference ++ raw_html_from false cs)))
    (sym (ap encode (eqb-true c line_feed y) ∙ encode-line_feed))
    (subst (λ x. RefersToLineFeeds (line_feed ∷ encode_utf8_all cs) x)
    (sym (encodes-append line_feed_reference (raw_html_from false cs)
    ∙ ap (λ x. x ++ encode_utf8_all (raw_html_from false cs)) encodes-reference))
    (reference (raw_html_from-refers false cs)))))
    (λ a. rw (y, a) (same_all (encode c) (raw_html_from-refers true cs))))
    (λ n. rw n (same_all (encode c) (raw_html_from-refers (after && is_whitespace c) cs)))

-- the block of a text without CR
pub raw_block-raw_html : (s text : List ℕ) → IsUtf8 s → text ≡ raw_block s → has_carriage_return s ≡ false
    → IsRawBlock s text
raw_block-raw_html s text u e h = record {
  block = e ∙ ap (λ cs. with_blank_lines (encode_utf8_all cs)) (without_blank_lines-raw_html false (chars s) h);
  line_feeds_alone =
      subst (λ x. RefersToLineFeeds x (encode_utf8_all (raw_html (chars s)))) (encodes-chars s u)
      (raw_html_from-refers false (chars s));
  no_blank_line = none_found (raw_html (chars s)) (raw_html_from-no_blank_line false (chars s));
}
