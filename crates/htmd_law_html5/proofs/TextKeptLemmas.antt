-- The text of a page is kept.
use Rattle.std.proofs.Common.{◌≡◌, ◌∙◌, ℕ, true, false, List, [], ◌∷◌, ◌++◌, refl, sym, ap}
use Rattle.std.proofs.lemmas.Bool.{true≢false}
use Rattle.std.specs.Prelude.{filter}
use Rattle.std.specs.Str.{chars}
use Rattle.htmd_html5.specs.Html5Documents.{html5_document}
use Rattle.htmd_law_html5.specs.PageLetters.{texts_of}
use Rattle.htmd_law_html5.specs.TextKept.{is_kept, kept_texts, characters_of, characters_in, TextIsKept}
use Rattle.htmd_law_html5.specs.TextKept.{all_characters, WholeTextIsKept}
use Rattle.htmd_law_html5.proofs.Counted.{Choice, counted_of, counted_in}
use Rattle.htmd_law_html5.proofs.CountedOrder.{counted_in_order}

-- white space counts too, and the head isn't opened once more
abbrev kept_choice : Choice
kept_choice = record {
  counts = is_kept;
  reopens = false;
  nulls = true;
  no_null = λ e. refl;
  no_replacement = λ e. refl;
  no_white = λ e c w. absurd (true≢false (sym e));
}

same_characters : (texts : List (List ℕ)) → counted_in kept_choice texts ≡ characters_in texts
unfolding characters_of counted_of
same_characters [] = refl
same_characters (s ∷ texts) = ap (λ (x : List ℕ). characters_of s ++ x) (same_characters texts)

pub text_kept : TextIsKept
text_kept scripting page u e early =
    sym (same_characters (texts_of (html5_document scripting page)))
    ∙ (counted_in_order kept_choice scripting page u e (λ z. early) (λ z. absurd (true≢false z))
    ∙ same_characters (kept_texts scripting page))

-- ---- without U+0000

abbrev all_choice : Choice
all_choice = record {
  counts = λ c. true;
  reopens = false;
  nulls = false;
  no_null = λ e. absurd (true≢false (sym e));
  no_replacement = λ e. absurd (true≢false (sym e));
  no_white = λ e c w. absurd (true≢false (sym e));
}

all_pass : (xs : List ℕ) → filter (λ x. true) xs ≡ xs
all_pass [] = refl
all_pass (x ∷ xs) = ap (λ (ys : List ℕ). x ∷ ys) (all_pass xs)

same_text : (texts : List (List ℕ)) → counted_in all_choice texts ≡ all_characters texts
unfolding counted_of
same_text [] = refl
same_text (s ∷ texts) =
    ap (λ (x : List ℕ). x ++ counted_in all_choice texts) (all_pass (chars s))
    ∙ ap (λ (x : List ℕ). chars s ++ x) (same_text texts)

pub whole_text_kept : WholeTextIsKept
whole_text_kept scripting page u e early clean =
    sym (same_text (texts_of (html5_document scripting page)))
    ∙ (counted_in_order all_choice scripting page u e (λ z. early) (λ z. clean)
    ∙ same_text (kept_texts scripting page))
