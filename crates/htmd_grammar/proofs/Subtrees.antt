-- A node of a tree that was read is read in its place, and so is what the serialiser writes of it.
use Rattle.std.proofs.Common.{Bool, List, [], ap, inl, inr, refl, rules, subst, sym, true, ℕ, ◌++◌, ◌∙◌, ◌∷◌, ◌≡◌, ◌⊎◌}
use Rattle.std.proofs.lemmas.List.{append-nil}
use Rattle.std.specs.Bool.{MatchBool}
use Rattle.htmd_lexical.specs.CharacterClasses.{lacks}
use Rattle.htmd_grammar.specs.Grammar.{ReadsForest, ReadsTree, begins_with_row, may_end_rows, reads}
use Rattle.htmd_grammar.specs.Nesting.{Context, is_tbody}
use Rattle.htmd_values.specs.RawBlocks.{RefersToLineFeeds}
use Rattle.htmd_grammar.specs.RawContent.{content_of}
use Rattle.htmd_grammar.specs.ReadBack.{AreIn, DenotesAlone, IsIn, RawBlockReadsBack, ReadsBack, reads_alone}
use Rattle.htmd_grammar.specs.Rules.{Rules, project}
use Rattle.htmd_values.specs.Serialisation.{is_void, serialisation}
use Rattle.htmd_grammar.specs.Tags.{IsEndTag, IsStartTag}
use Rattle.htmd_lexical.specs.AttributePairs.{AttributePair}
use Rattle.htmd_values.specs.ValueTrees.{ValueForest, ValueTree, comment, doctype, document, element}
use Rattle.htmd_values.specs.ValueTrees.{more, none, text}
use Rattle.htmd_grammar.proofs.EscapeLemmas.{HasEscapes}
use Rattle.htmd_grammar.proofs.LackLemmas.{ser_no_carriage_return}
use Rattle.htmd_grammar.proofs.RawReadBack.{block_refers}
use Rattle.htmd_grammar.proofs.ReadBackLemmas.{node_back}
use Rattle.htmd_grammar.proofs.Uniqueness.{unique_in}
use Rattle.htmd_lexical.proofs.Cases.{test}

module _ (rules : Rules) (d : Context) (k : List ℕ) (attributes : List AttributePair) (us : ValueForest) where
  abbrev Sought : ValueTree
  Sought = element k attributes us

  abbrev Read : Type 0
  Read = (m : Bool) × (y : List ℕ) × ReadsTree rules d m Sought y

  element_holds : (c : Context) (l : Bool) (n : List ℕ) (as_ : List AttributePair) (ks : ValueForest) (s : List ℕ)
      → ((y : List ℕ) → ReadsForest rules (n ∷ c) true ks y → AreIn (n ∷ c) ks d Sought → Read)
      → ReadsTree rules c l (element n as_ ks) s → AreIn (n ∷ c) ks d Sought → Read
  element_holds c l n as_ ks s ih h i = go h.2
    where
      nothing_in : (z : ValueForest) → z ≡ none → AreIn (n ∷ c) z d Sought → ⊥
      nothing_in z e j = rw e at j

      go : ((tag inner end : List ℕ) × (s ≡ tag ++ (inner ++ end)) × IsStartTag rules.names tag n as_
          × MatchBool (is_void n) ((inner ≡ []) × (end ≡ []) × (ks ≡ none))
          (ReadsForest rules (n ∷ c) true ks (content_of n inner) × IsEndTag end n))
          ⊎ ((inner end : List ℕ) × (s ≡ inner ++ end) × (is_tbody n ≡ true) × (as_ ≡ [])
          × (begins_with_row ks ≡ true)
          × ReadsForest rules (n ∷ c) true ks inner × (IsEndTag end n ⊎ ((end ≡ []) × (l ≡ true)))) → Read
      go (inl w) = test (is_void n)
          (λ v. let e = rw v at w.5 in absurd (nothing_in ks e.2 i))
          (λ v. let e = rw v at w.5 in ih (content_of n w.1) e.0 i)
      go (inr w) = ih w.0 w.6 i

  mutual
    node_in : (t : ValueTree) (c : Context) (l : Bool) (s : List ℕ) → ReadsTree rules c l t s → IsIn c t d Sought
        → Read
    node_in (document as_) c l s h i = absurd i
    node_in doctype c l s h i = absurd i
    node_in (text u) c l s h i = absurd (let e = i.1 in cc)
    node_in (comment u) c l s h i = absurd (let e = i.1 in cc)
    node_in (element n as_ ks) c l s h (inl i) = (
      l,
      s,
      subst (λ (t : ValueTree). ReadsTree rules d l t s) (sym i.1)
          (subst (λ (x : Context). ReadsTree rules x l (element n as_ ks) s) (sym i.0) h),
    )
    node_in (element n as_ ks) c l s h (inr i) =
        element_holds c l n as_ ks s (λ y g j. nodes_in ks (n ∷ c) true y g j)
        h i

    pub nodes_in : (ts : ValueForest) (c : Context) (l : Bool) (s : List ℕ) → ReadsForest rules c l ts s
        → AreIn c ts d Sought → Read
    nodes_in none c l s h i = absurd i
    nodes_in (more t ts) c l s h (inl i) = node_in t c (may_end_rows l ts h.1) h.0 h.4 i
    nodes_in (more t ts) c l s h (inr i) = nodes_in ts c l h.1 h.5 i

  -- a node alone
  alone : (x : List ℕ) → ReadsTree rules d true Sought x → reads rules d x (more Sought none)
  alone x h = (x, [], sym (append-nil x), tt, h, refl)

  -- law 1 and law 2 at once: the serialisation, with references in place of some line feeds, is read as the node
  pub referred_back : HasEscapes rules.names → (c : Context) (s x : List ℕ) (ts : ValueForest)
      → reads rules c s ts
      → AreIn c ts d Sought → reads_alone Sought ≡ true
      → RefersToLineFeeds (serialisation Sought) x → reads rules d x (more Sought none)
  referred_back has c s x ts h i p r =
      let w = nodes_in ts c true s h i in
      alone x (node_back rules has Sought d w.0 true w.1 x (λ q. absurd (cc)) w.2 p r)

  -- no carriage return in its serialisation
  pub subtree_lacks : (c : Context) (s : List ℕ) (ts : ValueForest) → reads rules c s ts → AreIn c ts d Sought
      → reads_alone Sought ≡ true → lacks 13 (serialisation Sought) ≡ true
  subtree_lacks c s ts h i p = let w = nodes_in ts c true s h i in ser_no_carriage_return rules Sought d w.0 w.1 w.2 p

-- the theorem, for any rules whose names are the serialiser's and more
pub reads_back : (rules : Rules) → HasEscapes rules.names → ReadsBack rules
reads_back rules has c s ts h d t p x r = go d t p.context p.is_element p.stands p.plain r
  where
    go : (d : Context) (t : ValueTree) → d ≡ p.parent ∷ p.above → t ≡ element p.name p.attributes p.children
        → AreIn c ts d t → reads_alone t ≡ true → RefersToLineFeeds (serialisation t) x
        → DenotesAlone rules d x (more t none)
    go d t e f i q r = rw (e, f) (back (rw (e, f) at i) (rw f at q) (rw f at r))
      where
        back : AreIn c ts (p.parent ∷ p.above) (element p.name p.attributes p.children)
            → reads_alone (element p.name p.attributes p.children) ≡ true
            → RefersToLineFeeds (serialisation (element p.name p.attributes p.children)) x
            → DenotesAlone rules (p.parent ∷ p.above) x (more (element p.name p.attributes p.children) none)
        back i q r =
            let k = referred_back rules (p.parent ∷ p.above) p.name p.attributes p.children has c s x ts h i q r in
            record {
              denotes = k;
              alone = λ us l. unique_in rules p.parent p.above x us
                  (more (element p.name p.attributes p.children) none) l k;
            }

pub raw_block_reads_back : (rules : Rules) → HasEscapes rules.names → RawBlockReadsBack rules
raw_block_reads_back rules has c s ts h d t p u x e =
    reads_back rules has c s ts h d t p x (block_refers (serialisation t) x u no_return e)
  where
    no_return : lacks 13 (serialisation t) ≡ true
    no_return =
        let e : AreIn c ts d (element p.name p.attributes p.children) =
        subst (λ (y : ValueTree). AreIn c ts d y) p.is_element p.stands in
        ap (λ (y : ValueTree). lacks 13 (serialisation y)) p.is_element
        ∙ subtree_lacks rules d p.name p.attributes p.children c s ts h e (ap reads_alone (sym p.is_element)
        ∙ p.plain)

pub project_has : (z : Bool) → HasEscapes (project z).names
project_has z = record { amp = refl; lt = refl; gt = refl; quot = refl; nbsp = refl }
