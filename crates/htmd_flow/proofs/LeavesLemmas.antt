-- What leaves give.
use Rattle.std.proofs.Common.{◌≡◌, ℕ, ◌+◌, ◌<◌, Bool, true, false, cond, List, [], ◌∷◌, ◌++◌, length, get_or, take, map}
use Rattle.std.proofs.Common.{refl, sym, ap, ◌∙◌, Option, not, ◌&&◌, ◌||◌, arith, encode_utf8}
use Rattle.std.proofs.Common.{encode_utf8_all, filter, fold}
use Rattle.std.specs.List.{list_any, list_all}
use Rattle.std.specs.Str.{chars}
use Rattle.std.proofs.lemmas.List.{take_more, append-nil}
use Rattle.std.proofs.lemmas.List.Folds.{list_all-append}
use Rattle.std.proofs.lemmas.Str.{chars-nil, encode_ascii, length-encode, len_utf8_bounds, inside_one}
use Rattle.std.proofs.lemmas.Bool.Decides.{nat_tests}
use Rattle.std.proofs.lemmas.List.Sums.{fold-append}
use Rattle.htmd_lexical.specs.AttributePairs.{AttributePair}
use Rattle.htmd_lexical.specs.WhiteSpace.{is_ascii_white_space}
use Rattle.htmd_lexical.proofs.Cases.{test}
use Rattle.htmd_shown.specs.AllTexts.{lines_of, without_last_line_feed}
use Rattle.htmd_shown.specs.Attributes.{is_filled, address}
use Rattle.htmd_shown.specs.ShownTexts.{is_shown, shown_text}
use Rattle.htmd_shown.specs.SimpleTrees.{Simples}
use Rattle.htmd_shown.specs.Spaces.{is_blank_text}
use Rattle.htmd_document.specs.Documents.{code_block}
use Rattle.htmd_document.specs.declared.document.Block.{Block}
use Rattle.htmd_document.specs.DocumentViews.{blocks_of}
use Rattle.htmd_flow.specs.declared.around.Around.{Around}
use Rattle.htmd_flow.specs.Contexts.{Context, run_in, is_link, with_around, apart, inside_link}
use Rattle.htmd_flow.specs.Flows.{code_parts, text_in_lines, is_paragraph_at_most}
use Rattle.htmd_flow.specs.ItemViews.{is_space_or_unseen}
use Rattle.htmd_flow.specs.Languages.{language_of_block}
use Rattle.htmd_flow.specs.Levels.{list_of}
use Rattle.htmd_flow.specs.Paragraphs.{Writing, fed, fed_all, after_character}
use Rattle.htmd_flow.specs.Parts as part
use Rattle.htmd_flow.specs.Parts.{linked, Part, run, edge, whole}
use Rattle.htmd_flow.specs.PartViews.{around_of}

-- a text that is empty gives nothing
pub description_given : (w : Writing) (context : Context) (s : List ℕ)
    → fed w (run_in context s) ≡ fed_all w (cond (is_filled s) (run_in context s ∷ []) [])
description_given w context [] =
    ap (λ cs. fold (λ v c. after_character v context.around context.is_code c) w cs) chars-nil
description_given w context (b ∷ s) =
    sym (ap (λ f. fed_all w (cond f (run_in context (b ∷ s) ∷ []) [])) (filled b s))
  where
    filled : (b : ℕ) (s : List ℕ) → is_filled (b ∷ s) ≡ true
    filled b s = grind (arith, nat_tests)

-- one more line of code
code_push : (lines : List (List ℕ)) (x : List ℕ) (around : List part.Around)
    → code_parts (lines ++ x ∷ []) around ≡ code_parts lines around ++ run x around true ∷ edge ∷ []
code_push [] x around = refl
code_push (l ∷ lines) x around = ap (λ ps. run l around true ∷ edge ∷ ps) (code_push lines x around)

pub at_most_more : (bs : List Block) → 1 < length bs → false ≡ is_paragraph_at_most (blocks_of bs)
at_most_more [] l = absurd (omega (arith, l))
at_most_more (b ∷ []) l = absurd (omega (arith, l))
at_most_more (b ∷ c ∷ bs) l = refl

pub code_more : (lines : List (List ℕ)) (around : List part.Around) (w v : Writing) (n : ℕ) (x : List ℕ)
    → (n < length lines) × (x ≡ get_or lines n x)
    → v ≡ fed_all w (code_parts (take n lines) around)
    → fed (fed v (run x around true)) edge ≡ fed_all w (code_parts (take (n + 1) lines) around)
code_more lines around w v n x h e =
    ap (λ u. fed (fed u (run x around true)) edge) e
    ∙ sym (fold-append fed w (code_parts (take n lines) around) (run x around true ∷ edge ∷ []))
    ∙ ap (fed_all w) (sym (code_push (take n lines) x around))
    ∙ ap (λ y. fed_all w (code_parts (take n lines ++ y ∷ []) around)) h.1
    ∙ ap (λ ls. fed_all w (code_parts ls around)) (sym (take_more lines n x h.0))

-- ---- what stands around

pub any_around : (p : part.Around → Bool) (xs : List Around) → list_any (λ a. p (around_of a)) xs ≡ list_any p
    (map around_of xs)
any_around p [] = refl
any_around p (x ∷ xs) = ap (λ b. p (around_of x) || b) (any_around p xs)

-- ---- a text of white space alone

spaces-encode : (c : ℕ) → list_all is_ascii_white_space (encode_utf8 c) ≡ is_ascii_white_space c
spaces-encode c = from (encode_utf8 c) refl
  where
    alone : (b : Bool) → (b && true) ≡ b
    alone true = refl
    alone false = refl

    ascii : (b : ℕ) → is_ascii_white_space b ≡ true → b < 128
    ascii b e = grind (arith, nat_tests)

    clash : true ≡ false → ⊥
    clash e = (cc)

    from : (xs : List ℕ) → xs ≡ encode_utf8 c → list_all is_ascii_white_space xs ≡ is_ascii_white_space c
    from [] e = absurd (omega (arith, ap length e, length-encode c, (len_utf8_bounds c).0))
    from (b ∷ r) e = test (is_ascii_white_space c)
        (λ h. ap (list_all is_ascii_white_space) (e ∙ encode_ascii c (ascii c h)) ∙ alone (is_ascii_white_space c))
        (λ h. test (is_ascii_white_space b)
        (λ g. let same : c ≡ b = inside_one c [] (b ∷ r) 0 (e ∙ sym (append-nil (encode_utf8 c)))
        (omega (arith, ap length e)) (ascii b g) in
        absurd (clash (sym g ∙ ap is_ascii_white_space (sym same) ∙ h)))
        (λ g. ap (λ x. x && list_all is_ascii_white_space r) g ∙ sym h))

spaces-encodes : (cs : List ℕ) → list_all is_ascii_white_space (encode_utf8_all (filter is_shown cs))
    ≡ list_all is_space_or_unseen cs
spaces-encodes [] = refl
spaces-encodes (c ∷ cs) = test (is_shown c)
    (λ h. ap (λ b. list_all is_ascii_white_space (encode_utf8_all
    (cond b (c ∷ filter is_shown cs) (filter is_shown cs)))) h
    ∙ list_all-append is_ascii_white_space (encode_utf8 c) (encode_utf8_all (filter is_shown cs))
    ∙ ap (λ b. b && list_all is_ascii_white_space (encode_utf8_all (filter is_shown cs))) (spaces-encode c)
    ∙ ap (λ b. is_ascii_white_space c && b) (spaces-encodes cs)
    ∙ by_shown (is_ascii_white_space c) (is_shown c) (list_all is_space_or_unseen cs) h)
    (λ h. ap (λ b. list_all is_ascii_white_space (encode_utf8_all
    (cond b (c ∷ filter is_shown cs) (filter is_shown cs)))) h
    ∙ spaces-encodes cs
    ∙ by_hidden (is_ascii_white_space c) (is_shown c) (list_all is_space_or_unseen cs) h)
  where
    by_shown : (x y z : Bool) → y ≡ true → (x && z) ≡ ((x || not y) && z)
    by_shown true y z h = refl
    by_shown false y z h = sym (ap (λ b. not b && z) h)

    by_hidden : (x y z : Bool) → y ≡ false → z ≡ ((x || not y) && z)
    by_hidden true y z h = refl
    by_hidden false y z h = sym (ap (λ b. not b && z) h)

pub spaces_shown : (s : List ℕ)
    → list_all is_space_or_unseen (chars s) ≡ list_all is_ascii_white_space (shown_text s)
spaces_shown s = sym (spaces-encodes (chars s))

-- ---- a text in which all lines count

module _ (w : Writing) (attributes : List AttributePair) (content : Simples) (s : List ℕ) (context : Context) where
  abbrev in_lines : List Part
  in_lines = edge ∷ code_parts (lines_of s) context.around

  abbrev as_block : List Part
  as_block = apart (whole (code_block (language_of_block attributes (list_of content) context.near)
      (without_last_line_feed s)) ∷ [])

  pub text_blank : is_blank_text s ≡ true → fed w edge ≡ fed_all w (text_in_lines attributes content s context)
  text_blank h = sym (ap (λ b. fed_all w (cond b (edge ∷ []) (cond context.is_flat in_lines as_block))) h)

  pub text_flat : is_blank_text s ≡ false → context.is_flat ≡ true
      → fed_all (fed w edge) (code_parts (lines_of s) context.around)
      ≡ fed_all w (text_in_lines attributes content s context)
  text_flat h f = sym (ap (λ b. fed_all w (cond b (edge ∷ []) (cond context.is_flat in_lines as_block))) h
      ∙ ap (λ b. fed_all w (cond b in_lines as_block)) f)

  pub text_block : is_blank_text s ≡ false → context.is_flat ≡ false
      → fed (fed (fed w edge) (whole (code_block (language_of_block attributes (list_of content) context.near)
      (without_last_line_feed s)))) edge
      ≡ fed_all w (text_in_lines attributes content s context)
  text_block h f = sym (ap (λ b. fed_all w (cond b (edge ∷ []) (cond context.is_flat in_lines as_block))) h
      ∙ ap (λ b. fed_all w (cond b in_lines as_block)) f)

-- ---- links

pub link_held : (id : ℕ) (address : List ℕ) (title : Option (List ℕ)) (context : Context)
    → list_any is_link context.around ≡ true → context ≡ inside_link id address title context
link_held id address title context h = sym (ap (λ b. cond b context (with_around context (linked id address title))) h)

pub link_new : (id : ℕ) (address : List ℕ) (title : Option (List ℕ)) (context : Context)
    → list_any is_link context.around ≡ false
    → with_around context (linked id address title) ≡ inside_link id address title context
link_new id address title context h =
    sym (ap (λ b. cond b context (with_around context (linked id address title))) h)
