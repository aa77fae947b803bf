-- What a token's text holds, and tokens that are no text, which leave the texts as they are.
use Rattle.std.proofs.Common.{◌≡◌, ◌∙◌, ℕ, zero, suc, ◌+◌, ◌≤◌, Bool, true, false, List, [], ◌∷◌, ◌++◌, drop, refl, sym}
use Rattle.std.proofs.Common.{ap, arith, cond}
use Rattle.std.specs.Prelude.{IsUtf8, ◌==◌, ◌&&◌, count_by}
use Rattle.std.specs.Str.{chars}
use Rattle.std.specs.Char.{encode_utf8}
use Rattle.std.proofs.lemmas.Bool.{true≢false, and_parts, eqb-true, cond_both}
use Rattle.std.proofs.lemmas.List.Elements.{All-nil}
use Rattle.std.proofs.lemmas.List.Sums.{sum_by-cons}
use Rattle.std.proofs.lemmas.Str.{IsUtf8-past_char, chars_past_char, encode_ascii}
use Rattle.htmd_lexical.proofs.Cases.{test}
use Rattle.htmd_lexical.specs.Characters.{line_feed}
use Rattle.htmd_lexical.specs.WhiteSpace.{is_ascii_white_space}
use Rattle.htmd_lexical.specs.CharacterClasses.{first_is}
use Rattle.htmd_html5_state.specs.Names.{NameValue, name_of_text}
use Rattle.htmd_html5_state.specs.Nodes.{new_node, document, children_at, parent_at}
use Rattle.htmd_html5_state.specs.OpenElements.{pop}
use Rattle.htmd_html5_state.specs.State.{StateValue, initial_state}
use Rattle.htmd_html5.specs.Tokens.{start_tag, end_tag, comment, doctype, end_of_file}
use Rattle.htmd_html5.specs.Feeding.{is_text_mode, without_line_feed, with_nothing_skipped, close_raw, out_of_text_mode}
use Rattle.htmd_html5.specs.Feeding.{feed_end_tag, named, feed_at}
use Rattle.htmd_html5.specs.Html5Documents.{is_end}
use Rattle.htmd_law_html5.specs.PageLetters.{occurrences, occurrences_in, is_character, with_text_of}
use Rattle.htmd_law_html5.proofs.NodeParts.{times}
use Rattle.htmd_law_html5.proofs.Forests.{once_under}
use Rattle.htmd_law_html5.proofs.OpenNodes.{pop_fewer}
use Rattle.htmd_law_html5.proofs.Keeping.{none_held, Sound, Kept, Keeps, after, nothing, by_test, untouched}
use Rattle.htmd_law_html5.proofs.Keeping.{on_stack_keeps}
use Rattle.htmd_law_html5.proofs.KeepingModes.{process_keeps}
use Rattle.htmd_law_html5.proofs.TextsPut.{occurs_cons}
use Rattle.htmd_html5_tokens.specs.Tokens as tokens

-- ---- a text without its first line feed

pub record Shortened (c : ℕ) (s t : List ℕ) : Type 0 where
  pub utf8 : IsUtf8 t
  pub fewer : occurrences c t ≤ occurrences c s
  pub same : is_ascii_white_space c ≡ false → occurrences c t ≡ occurrences c s

line_feed_is_none : (c : ℕ) → is_ascii_white_space c ≡ false
    → ◌≡◌ {A = ℕ} (cond (is_character c line_feed) 1 0) 0
line_feed_is_none c e =
    test (line_feed == c)
    (λ t. absurd (true≢false (ap is_ascii_white_space (eqb-true line_feed c t) ∙ e))) (λ t. rw t refl)

dropped : (c : ℕ) (s : List ℕ) → first_is line_feed s ≡ true → IsUtf8 s → Shortened c s (drop 1 s)
unfolding occurrences
dropped c [] e u = absurd (true≢false (sym e))
dropped c (b ∷ s) e u = record {
  utf8 = IsUtf8-past_char (b ∷ s) s line_feed u whole;
  fewer =
      let f = first in
      let g = sum_by-cons (λ x. cond (is_character c x) 1 0) line_feed (chars s) in
      omega arith;
  same = λ w.
      let f = first in
      let g = sum_by-cons (λ x. cond (is_character c x) 1 0) line_feed (chars s) in
      let none = line_feed_is_none c w in
      omega arith;
}
  where
    whole : b ∷ s ≡ encode_utf8 line_feed ++ s
    whole = ap (λ x. x ∷ s) (eqb-true b line_feed e)
        ∙ ap (λ (x : List ℕ). x ++ s) (sym (encode_ascii line_feed (omega arith)))

    first : count_by (is_character c) (chars (b ∷ s)) ≡ count_by (is_character c) (line_feed ∷ chars s)
    first = ap (count_by (is_character c)) (chars_past_char (b ∷ s) s line_feed u whole)

pub shortened : (c : ℕ) (skips : Bool) (s : List ℕ) → IsUtf8 s → Shortened c s (without_line_feed skips s)
shortened c skips s u =
    cond_both (skips && first_is line_feed s) _ _ (λ t. Shortened c s t)
    (λ e. dropped c s (and_parts skips (first_is line_feed s) e).1 u)
    (λ e. record { utf8 = u; fewer = omega arith; same = λ w. refl })

-- ---- tokens that are no text

close_raw_keeps : Keeps close_raw
close_raw_keeps = record { keeps = λ s h. (on_stack_keeps pop pop_fewer).keeps s h }

out_of_text_mode_keeps : Keeps out_of_text_mode
out_of_text_mode_keeps = by_test (λ s. is_text_mode s.content) close_raw_keeps nothing

feed_end_tag_keeps : (name : NameValue) → Keeps (feed_end_tag name)
feed_end_tag_keeps name = by_test (λ s. is_text_mode s.content) close_raw_keeps (process_keeps (end_tag name) refl)

pub with_nothing_skipped_keeps : Keeps with_nothing_skipped
with_nothing_skipped_keeps = untouched (λ s. refl) (λ s n l. l)

abbrev pub OthersKept : tokens.TokenValue → Bool → StateValue → Type 0
OthersKept (tokens.text text) skips s = Unit {0}
OthersKept token skips s = Kept s (feed_at token skips s)

pub others_kept : (token : tokens.TokenValue) (skips : Bool) (s : StateValue) → Sound s → OthersKept token skips s
others_kept (tokens.text text) skips s h = tt
others_kept (tokens.start_tag tag) skips s h =
    (after (process_keeps (start_tag (named tag)) refl) out_of_text_mode_keeps).keeps s h
others_kept (tokens.end_tag tag) skips s h = (feed_end_tag_keeps (name_of_text tag.name)).keeps s h
others_kept (tokens.comment text) skips s h =
    (after (process_keeps (comment text) refl) out_of_text_mode_keeps).keeps s h
others_kept (tokens.doctype quirks) skips s h =
    (after (process_keeps (doctype quirks) refl) out_of_text_mode_keeps).keeps s h
others_kept tokens.end_of_file skips s h = (after (process_keeps end_of_file refl) out_of_text_mode_keeps).keeps s h

-- ---- how often a character stands in a token's text

abbrev pub count : ℕ → tokens.TokenValue → ℕ
count c (tokens.text text) = occurrences c text
count c _ = 0

pub count_with : (c : ℕ) (token : tokens.TokenValue) (more : List (List ℕ))
    → occurrences_in c (with_text_of token more) ≡ count c token + occurrences_in c more
count_with c (tokens.text text) more = occurs_cons c text more
count_with c _ more = omega arith

pub end_counts_none : (c : ℕ) (token : tokens.TokenValue) → is_end token ≡ true → count c token ≡ 0
end_counts_none c (tokens.text text) e = absurd (true≢false (sym e))
end_counts_none c _ e = refl

-- ---- the first state

initial_forest : (n p : ℕ) → times n (children_at (new_node document ∷ []) p)
    ≤ once_under (parent_at (new_node document ∷ []) n) p
initial_forest n zero = omega arith
initial_forest n (suc p) = omega arith

pub initial_sound : (scripting : Bool) → Sound (initial_state scripting)
initial_sound scripting = record {
  held = λ n l. absurd (true≢false (sym (none_held l)));
  utf8 = All-nil IsUtf8;
  forest = record { once = initial_forest };
  root = refl;
}
