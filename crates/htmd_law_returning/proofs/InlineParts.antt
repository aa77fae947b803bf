-- What the trees of a line give as parts, one by one.
use Rattle.std.proofs.Common.{◌≡◌, ℕ, Bool, true, false, List, [], ◌∷◌}
use Rattle.std.proofs.Common.{◌++◌, refl, ap, ◌∙◌}
use Rattle.std.proofs.Common.{Option, Some}
use Rattle.std.proofs.Common.{cond}
use Rattle.std.specs.List.{list_any}
use Rattle.std.proofs.lemmas.Bool.{and_parts}
use Rattle.htmd_lexical.specs.AttributePairs.{AttributePair}
use Rattle.htmd_document.specs.Formats.{Format, Emphasis, Strong, Deleted, Superscript, Subscript, Inserted, Underlined}
use Rattle.htmd_document.specs.Formats.{Marked, Small, Keyboard, Abbreviation}
use Rattle.htmd_document.specs.NormalInlines.{has_title}
use Rattle.htmd_flow.specs.Contexts.{is_link, inside_link, inside_format, inside_title}
use Rattle.htmd_flow.specs.Flows.{node_of, nodes_of, flow_all}
use Rattle.htmd_flow.specs.Parts as part
use Rattle.htmd_flow.specs.Parts.{Around, Part}
use Rattle.htmd_shown.specs.declared.facts.Facts.{Facts}
use Rattle.htmd_shown.specs.declared.role.Role.TheVariants as role
use Rattle.htmd_shown.specs.Attributes.{address, title_of, description_of}
use Rattle.htmd_shown.specs.Facts.{made}
use Rattle.htmd_shown.specs.SimpleTrees.{Simples, none, more, element}
use Rattle.htmd_shown.specs.SimpleTrees as simple
use Rattle.htmd_law_rendering.specs.RenderedTrees.{encoded_address, pairs_of_format}
use Rattle.htmd_law_rendering.specs.RenderedTrees.{pairs_of_link}
use Rattle.htmd_law_returning.specs.SettledDocuments.{is_one_line}
use Rattle.htmd_law_returning.specs.PageFormats.{format_shows}
use Rattle.htmd_law_returning.proofs.FormatLemmas.{place}
use Rattle.htmd_law_returning.proofs.FormatLemmas.{format_role}
use Rattle.htmd_law_returning.proofs.FormatLemmas.{abbreviation-title}

module _ (is_rich : Bool) where
  abbrev pub gives_at : Bool → ℕ → List Around → Simples → List Part
  gives_at flat n around ts = flow_all (nodes_of ts) (place flat is_rich n around)

  pub text-gives : (flat : Bool) (n : ℕ) (around : List Around) (s : List ℕ) (ts : Simples)
      → gives_at flat n around (more (simple.text s) ts) ≡ part.run s around false ∷ gives_at flat n around ts
  unfolding node_of
  text-gives flat n around s ts = refl

  pub code-gives : (flat : Bool) (n : ℕ) (around : List Around) (id : ℕ) (s : List ℕ) (ts : Simples)
      → gives_at flat n around (more (made id role.Code [] (more (simple.text s) none)) ts)
      ≡ part.run s around true ∷ gives_at flat n around ts
  unfolding node_of
  code-gives flat n around id s ts = refl

  pub break-gives : (flat : Bool) (n : ℕ) (around : List Around) (id : ℕ) (ts : Simples)
      → gives_at flat n around (more (made id role.LineBreak [] none) ts) ≡ part.break ∷ gives_at flat n around ts
  unfolding node_of
  break-gives flat n around id ts = refl

  pub image-gives : (flat : Bool) (n : ℕ) (around : List Around) (s : List ℕ) (attributes : List AttributePair)
      (ts : Simples)
      → gives_at flat n around (more (simple.image (Some s) attributes) ts)
      ≡ part.picture (address s) (title_of attributes) (description_of attributes) around
      ∷ gives_at flat n around ts
  unfolding node_of
  image-gives flat n around s attributes ts = refl

  pub none-gives : (flat : Bool) (n : ℕ) (around : List Around) → gives_at flat n around none ≡ []
  unfolding node_of
  none-gives flat n around = refl

  pub format-gives : (flat : Bool) (n : ℕ) (around : List Around) (id : ℕ) (f : Format)
      (facts : Facts) (content ts : Simples) → format_shows is_rich f ≡ true → has_title f ≡ true
      → inside_format f (place flat is_rich n around) ≡ place flat is_rich n (around ++ part.formatted f ∷ [])
      → gives_at flat n around (more (element id (format_role f) facts (pairs_of_format f) content) ts)
      ≡ gives_at flat n (around ++ part.formatted f ∷ []) content ++ gives_at flat n around ts
  unfolding node_of
  format-gives flat n around id Emphasis facts content ts m t e =
      ap (λ c. flow_all (nodes_of content) c ++ gives_at flat n around ts) e
  format-gives flat n around id Strong facts content ts m t e =
      ap (λ c. flow_all (nodes_of content) c ++ gives_at flat n around ts) e
  format-gives flat n around id Deleted facts content ts m t e =
      ap (λ c. flow_all (nodes_of content) c ++ gives_at flat n around ts) e
  format-gives flat n around id Superscript facts content ts m t e =
      ap (λ c. flow_all (nodes_of content) c ++ gives_at flat n around ts) e
  format-gives flat n around id Subscript facts content ts m t e =
      ap (λ c. flow_all (nodes_of content) c ++ gives_at flat n around ts) e
  format-gives flat n around id Inserted facts content ts m t e =
      ap (λ c. flow_all (nodes_of content) c ++ gives_at flat n around ts) e
  format-gives flat n around id Underlined facts content ts m t e =
      ap (λ c. flow_all (nodes_of content) c ++ gives_at flat n around ts) e
  format-gives flat n around id Marked facts content ts m t e =
      ap (λ c. flow_all (nodes_of content) c ++ gives_at flat n around ts) e
  format-gives flat n around id Small facts content ts m t e =
      ap (λ c. flow_all (nodes_of content) c ++ gives_at flat n around ts) e
  format-gives flat n around id Keyboard facts content ts m t e =
      ap (λ c. flow_all (nodes_of content) c ++ gives_at flat n around ts) e
  format-gives flat n around id (Abbreviation title) facts content ts m t e =
      ap (λ o. flow_all (nodes_of content) (inside_title o (place flat is_rich n around)) ++ gives_at flat n around ts)
      (abbreviation-title title t (and_parts is_rich (is_one_line title) m).1)
      ∙ ap (λ c. flow_all (nodes_of content) c ++ gives_at flat n around ts) e

  pub link-gives : (flat : Bool) (n : ℕ) (around : List Around) (id : ℕ) (a : List ℕ) (title : Option (List ℕ))
      (facts : Facts) (content ts : Simples) → list_any is_link around ≡ false → address (encoded_address a) ≡ a
      → title_of (pairs_of_link a title) ≡ title
      → gives_at flat n around (more (element id role.Link facts (pairs_of_link a title) content) ts)
      ≡ gives_at flat n (around ++ part.linked id a title ∷ []) content ++ gives_at flat n around ts
  unfolding node_of
  link-gives flat n around id a title facts content ts free e t =
      ap (λ x. flow_all (nodes_of content) (inside_link id x (title_of (pairs_of_link a title))
      (place flat is_rich n around)) ++ gives_at flat n around ts) e
      ∙ (ap (λ x. flow_all (nodes_of content) (inside_link id a x (place flat is_rich n around))
      ++ gives_at flat n around ts) t
      ∙ ap (λ b. flow_all (nodes_of content) (cond b (place flat is_rich n around)
      (place flat is_rich n (around ++ part.linked id a title ∷ []))) ++ gives_at flat n around ts) free)
