-- What is between the blank lines of a block of raw HTML has references in place of some line feeds.
use Rattle.std.proofs.Common.{List, [], ap, arith, codes, eqb, false, length, length-append, not, refl, subst, sym}
use Rattle.std.proofs.Common.{true, ℕ, ◌++◌, ◌∙◌, ◌∷◌, ◌≡◌}
use Rattle.std.proofs.lemmas.Bool.{eqb-true, and_parts}
use Rattle.std.proofs.lemmas.Str.{encodes-chars}
use Rattle.std.specs.List.{list_any}
use Rattle.std.specs.Str.{IsUtf8, chars, encode_utf8_all}
use Rattle.htmd_lexical.specs.BlankLines.{with_blank_lines}
use Rattle.htmd_lexical.proofs.Cases.{test}
use Rattle.htmd_lexical.specs.CharacterClasses.{lacks}
use Rattle.htmd_values.specs.RawBlocks.{RefersToLineFeeds, raw_block, raw_html}
use Rattle.htmd_values.proofs.RawBlocksLemmas.{raw_block-raw_html}
use lib.Utf8.{encode}

encode-carriage_return : encode 13 ≡ 13 ∷ []
unfolding encode
encode-carriage_return = refl

-- no byte 13, no character 13
no_carriage_return : (cs : List ℕ) → lacks 13 (encode_utf8_all cs) ≡ true
    → list_any (λ c. eqb c 13) cs ≡ false
no_carriage_return [] e = refl
no_carriage_return (c ∷ cs) e = test (eqb c 13)
    (λ y. let q : encode c ≡ 13 ∷ [] = ap encode (eqb-true c 13 y) ∙ encode-carriage_return in let z =
    rw q at e in
    absurd (cc))
    (λ n. rw (n, no_carriage_return cs (lacks-behind 13 (encode c) (encode_utf8_all cs) e)) refl)
  where
    lacks-behind : (b : ℕ) (s t : List ℕ) → lacks b (s ++ t) ≡ true → lacks b t ≡ true
    lacks-behind b [] t e = e
    lacks-behind b (c ∷ s) t e = lacks-behind b s t (and_parts (not (eqb c b)) (lacks b (s ++ t)) e).1

pub same_parts : (a c b d : List ℕ) → a ++ b ≡ c ++ d → length a ≡ length c → (a ≡ c) × (b ≡ d)
same_parts [] [] b d e l = (refl, e)
same_parts [] (y ∷ c) b d e l = absurd (omega arith)
same_parts (x ∷ a) [] b d e l = absurd (omega arith)
same_parts (x ∷ a) (y ∷ c) b d e l =
    let h : x ≡ y = cc in
    let i = same_parts a c b d (cc) (omega arith) in
    (rw (h, i.0) refl, i.1)

-- what is between blank lines
between_same : (s t : List ℕ) → with_blank_lines s ≡ with_blank_lines t → s ≡ t
between_same s t e =
    let p = (same_parts (codes "\n\n") (codes "\n\n") (s ++ codes "\n\n") (t ++ codes "\n\n") e refl).1 in
    (same_parts s t (codes "\n\n") (codes "\n\n") p (let a = length-append s (codes "\n\n") in
    let b = length-append t (codes "\n\n") in let c = ap length p in omega arith)).0

pub block_refers : (s x : List ℕ) → IsUtf8 s → lacks 13 s ≡ true → raw_block s ≡ with_blank_lines x
    → RefersToLineFeeds s x
block_refers s x u l e =
    let n : list_any (λ c. eqb c 13) (chars s) ≡ false =
    no_carriage_return (chars s) (ap (lacks 13) (encodes-chars s u)
    ∙ l) in
    let b = raw_block-raw_html s (raw_block s) u refl n in
    subst (λ y. RefersToLineFeeds s y) (between_same (encode_utf8_all (raw_html (chars s))) x (sym b.block ∙ e))
    b.line_feeds_alone
