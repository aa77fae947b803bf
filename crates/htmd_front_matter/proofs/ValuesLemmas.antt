-- What a page says of itself, node by node.
use Rattle.std.proofs.Common.{◌≡◌, ◌<◌, ℕ, List, length, refl, sym, ap, ◌∙◌, None, String, Vec, Global}
use Rattle.std.proofs.Common.{◌+◌, ◌++◌, [], ◌∷◌, map, get_or, drop, append_assoc, codes, string_bytes}
use Rattle.std.specs.Prelude.{flat_map}
use Rattle.std.specs.List.{join_by}
use Rattle.std.proofs.lemmas.List.{drop_more}
use Rattle.std.proofs.lemmas.List.Folds.{flat_map-map}
use Rattle.htmd_lexical.specs.declared.attribute.Attribute.{Attribute}
use Rattle.htmd_nodes.specs.NumberedTrees.{NumberedForest, with_children, value_tree}
use Rattle.htmd_nodes.specs.Views.{data_of}
use Rattle.htmd_nodes.specs.declared.tree.NodeData.{NodeData}
use Rattle.htmd_text.specs.Joins.{joined_texts}
use Rattle.htmd_nodes.specs.declared.tree.NodeData.TheVariants.{Document, Doctype, Text, Comment, Element}
use Rattle.htmd_front_matter.specs.declared.values.Key.{Key}
use Rattle.htmd_front_matter.specs.Sources.{Source}
use Rattle.htmd_front_matter.specs.Values.{found_in, text_of}

-- only the Document and elements say something
pub value-other : (source : Source) (id : ℕ) (d : NodeData) (f : NumberedForest) → (d ≡ Document → ⊥)
    → ((name : List ℕ) (attributes : Vec Attribute Global) → d ≡ Element name attributes → ⊥)
    → found_in source (value_tree (with_children id (data_of d) f)) ≡ None
value-other source id Document f g h = absurd (g refl)
value-other source id Doctype f g h = refl
value-other source id (Text s) f g h = refl
value-other source id (Comment s) f g h = refl
value-other source id (Element name attributes) f g h = absurd (h name attributes refl)

-- only a text has one
pub text-other : (id : ℕ) (d : NodeData) (f : NumberedForest) → ((s : String Global) → d ≡ Text s → ⊥)
    → text_of (value_tree (with_children id (data_of d) f)) ≡ None
text-other id Document f h = refl
text-other id Doctype f h = refl
text-other id (Text s) f h = absurd (h s refl)
text-other id (Comment s) f h = refl
text-other id (Element name attributes) f h = refl

-- ---- one key more

pub keys-turn : {X : Type 0} (f : Key → List X) (keys : List Key) (d : Key) (i : ℕ) (old new whole : List X)
    → i < length keys
    → old ++ flat_map f (drop i keys) ≡ whole → new ≡ old ++ f (get_or keys i d)
    → new ++ flat_map f (drop (i + 1) keys) ≡ whole
keys-turn f keys d i old new whole l so_far e =
    ap (λ x. x ++ flat_map f (drop (i + 1) keys)) e
    ∙ (append_assoc old (f (get_or keys i d)) (flat_map f (drop (i + 1) keys))
    ∙ (ap (λ (ks : List Key). old ++ flat_map f ks) (sym (drop_more keys i d l)) ∙ so_far))

-- ---- members in a row

pub joined_members : (members : List (String Global))
    → join_by string_bytes (codes ",") members ≡ joined_texts (codes ",") (map string_bytes members)
joined_members [] = refl
joined_members (m ∷ ms) =
    ap (λ x. string_bytes m ++ x) (sym (flat_map-map (λ s. codes "," ++ s) string_bytes ms))
