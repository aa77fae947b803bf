-- What is read under fewer names and a smaller depth is read so under more.
use Rattle.std.proofs.Common.{Bool, List, None, Option, Some, [], ap, arith, inl, inr, length, not, refl, subst, suc}
use Rattle.std.proofs.Common.{sym, true, zero, ℕ, ◌&&◌, ◌∙◌, ◌∷◌, ◌≡◌, ◌≤◌}
use Rattle.std.specs.Char.{is_ascii_alphanumeric}
use Rattle.std.specs.Prelude.{◌==◌}
use Rattle.htmd_lexical.specs.CharacterClasses.{behind_run, first_is, leading_run}
use Rattle.htmd_grammar.specs.HtmlDocuments.{below_body, body_text}
use Rattle.htmd_grammar.specs.Grammar.{ReadsForest, ReadsTree, may_end_rows}
use Rattle.htmd_law_trees.specs.GrammarLaws.{MoreRulesReadMore, MoreRulesReadMoreDocuments}
use Rattle.htmd_grammar.specs.Nesting.{Context, parent_name}
use Rattle.htmd_grammar.specs.RawContent.{content_of, holds_raw_text, text_of}
use Rattle.htmd_grammar.specs.References.{Names, Piece, behind, behind_ampersand, decode, named, piece_at, put, stands}
use Rattle.htmd_grammar.specs.Rules.{Rules, character_named}
use Rattle.htmd_values.specs.Serialisation.{is_void}
use Rattle.htmd_grammar.specs.Tags.{decode_values}
use Rattle.htmd_lexical.specs.AttributePairs.{AttributePair}
use Rattle.htmd_values.specs.ValueTrees.{ValueForest, ValueTree, comment, doctype, document, element}
use Rattle.htmd_values.specs.ValueTrees.{more, none, text}
use Rattle.htmd_grammar.proofs.ReferencesLemmas.{put_parts}
use Rattle.htmd_grammar.proofs.TagsLemmas.{values_parts}
use Rattle.htmd_grammar.proofs.TreeTexts.{Inside}
use Rattle.htmd_lexical.proofs.Cases.{test}

module _ (few many : Names) (has : (n : List ℕ) (c : ℕ) → character_named few n ≡ Some c
    → character_named many n ≡ Some c) where
  named_more : (k m : ℕ) (n v : List ℕ) (o : Option ℕ) → character_named few n ≡ o
      → named k o ≡ stands m v
      → named k (character_named many n) ≡ stands m v
  named_more k m n v None q e = absurd (cc)
  named_more k m n v (Some c) q e = rw (has n c q) e

  and_more : (s v : List ℕ) (m : ℕ) → behind_ampersand few s ≡ stands m v
      → behind_ampersand many s ≡ stands m v
  and_more s v m e = test (first_is 35 s) (λ t. let w = rw t at e in rw t w)
      (λ t. test (first_is 59 (behind_run is_ascii_alphanumeric s) && not (first_is 59 s))
      (λ q. let w = rw (t, q) at e in
      rw (t, q) (named_more (suc (length (leading_run is_ascii_alphanumeric s))) m
      (leading_run is_ascii_alphanumeric s) v (character_named few (leading_run is_ascii_alphanumeric s)) refl w))
      (λ q. let w = rw (t, q) at e in rw (t, q) w))

  piece_more : (b : ℕ) (s v : List ℕ) (m : ℕ) → piece_at few b s ≡ stands m v
      → piece_at many b s ≡ stands m v
  piece_more b s v m e = test (b == 38) (λ t. let w = rw t at e in rw t (and_more s v m w)) (λ t. let w = rw t at e in
      rw t w)

  decode_more : (s : List ℕ) (n : ℕ) (u : List ℕ) → decode few n s ≡ Some u → decode many n s ≡ Some u
  decode_more [] n u e = e
  decode_more (b ∷ s) (suc n) u e = decode_more s n u e
  decode_more (b ∷ s) zero u e =
      let p = put_parts (piece_at few b s) (λ n. decode few n s) u e in
      ap (λ (x : Piece). put x (λ n. decode many n s)) (piece_more b s p.1 p.0 p.3)
      ∙ (ap (behind p.1) (decode_more s p.0 p.2 p.4) ∙ ap (λ (y : List ℕ). Some y) (sym p.5))

  values_more : (spelled attributes : List AttributePair) → decode_values few spelled ≡ Some attributes
      → decode_values many spelled ≡ Some attributes
  values_more [] attributes e = e
  values_more (a ∷ spelled) attributes e =
      let w = values_parts a.name (decode few 0 a.value) (decode_values few spelled) attributes e in
      rw (decode_more a.value 0 w.0 w.2, values_more spelled w.1 w.3)
      (ap (λ (y : List AttributePair). Some y) (sym w.4))

module _ (few many : Names) (small great : ℕ) (z : Bool)
    (has : (n : List ℕ) (c : ℕ) → character_named few n ≡ Some c
    → character_named many n ≡ Some c) (deep : small ≤ great) where
  abbrev Fewer : Rules
  Fewer = record { names = few; depth = small; scripting = z }

  abbrev More : Rules
  More = record { names = many; depth = great; scripting = z }

  text_more : (p s u : List ℕ) → text_of Fewer p s ≡ Some u → text_of More p s ≡ Some u
  text_more p s u e = test (holds_raw_text z p) (λ t. let w = rw t at e in rw t w) (λ t. let w = rw t at e in
      rw t (decode_more few many has s 0 u w))

  element_more : (c : Context) (l : Bool) (n : List ℕ) (attributes : List AttributePair) (ks : ValueForest)
      (s : List ℕ)
      → ((inner : List ℕ) → ReadsForest Fewer (n ∷ c) true ks inner
      → ReadsForest More (n ∷ c) true ks inner)
      → ReadsTree Fewer c l (element n attributes ks) s → ReadsTree More c l (element n attributes ks) s
  element_more c l n attributes ks s ih h = (h.0, (let a = h.1 in omega arith), go h.2)
    where
      go : Inside Fewer c l n attributes ks s → Inside More c l n attributes ks s
      go (inl w) = inl (
        w.0,
        w.1,
        w.2,
        w.3,
        ((w.4).0, (w.4).1, (w.4).2, values_more few many has (w.4).0 attributes (w.4).3, (w.4).4, (w.4).5),
        test (is_void n) (λ v. let m = rw v at w.5 in rw v m) (λ v. let m = rw v at w.5 in
            rw v (ih (content_of n w.1) m.0, m.1)),
      )
      go (inr w) = inr (w.0, w.1, w.2, w.3, w.4, w.5, ih w.0 w.6, w.7)

  mutual
    node_more : (t : ValueTree) (c : Context) (l : Bool) (s : List ℕ) → ReadsTree Fewer c l t s
        → ReadsTree More c l t s
    node_more (document ks) c l s h = h
    node_more doctype c l s h = h
    node_more (text u) c l s h = (h.0, h.1, text_more (parent_name c) s u h.2, h.3, (let a = h.4 in omega arith))
    node_more (comment u) c l s h = (h.0, h.1, (let a = h.2 in omega arith))
    node_more (element n attributes ks) c l s h =
        element_more c l n attributes ks s (λ inner k. nodes_more ks (n ∷ c) true inner k) h

    pub nodes_more : (ts : ValueForest) (c : Context) (l : Bool) (s : List ℕ) → ReadsForest Fewer c l ts s
        → ReadsForest More c l ts s
    nodes_more none c l s h = h
    nodes_more (more t ts) c l s h =
        (h.0, h.1, h.2, h.3, node_more t c (may_end_rows l ts h.1) h.0 h.4, nodes_more ts c l h.1 h.5)

pub more_rules : MoreRulesReadMore
more_rules less many_rules few c s ts h =
    subst (λ (z : Bool). ReadsForest (record { names = many_rules.names; depth = many_rules.depth; scripting = z }) c
    true ts s) few.scripting
    (nodes_more less.names many_rules.names less.depth many_rules.depth less.scripting few.names few.depth ts c true s
    h)

pub more_rules_documents : MoreRulesReadMoreDocuments
more_rules_documents less many_rules few s t h =
    (h.0, h.1, h.2, more_rules less many_rules few below_body (body_text s) h.1 h.3)
