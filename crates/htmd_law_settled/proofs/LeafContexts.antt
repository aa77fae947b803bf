-- What stands around a node is of a kind, in formats and links and out of them.
use Rattle.std.proofs.Common.{◌≡◌, ℕ, zero, suc, Bool, true, false, List, [], ◌∷◌, ◌++◌, Option}
use Rattle.std.specs.Prelude.{if◌then◌else◌}
use Rattle.std.specs.List.{list_any}
use Rattle.htmd_lexical.specs.AttributePairs.{AttributePair}
use Rattle.htmd_document.specs.Formats.{Format}
use Rattle.htmd_flow.specs.Contexts.{Context, with_around, is_enough, is_link, inside_format, inside_link, in_code}
use Rattle.htmd_flow.specs.Contexts.{without_link, unlinked, beside_code}
use Rattle.htmd_flow.specs.Parts.{Around, linked}
use Rattle.htmd_flow.specs.Parts as part
use Rattle.htmd_law_settled.specs.Leaves.{Leaves}
use Rattle.htmd_law_settled.proofs.LeafLines.{HasAround, AllAround}
use Rattle.htmd_law_settled.proofs.LeafNodes.{FitsIn}

module _ (k : Leaves) where
  pub around-append : (around others : List Around) → AllAround k around → AllAround k others
      → AllAround k (around ++ others)
  around-append [] others g h = h
  around-append (a ∷ around) others g h = (g.0, around-append around others g.1 h)

  pub either-fits : (at : ℕ) (b : Bool) (c d : Context) → FitsIn k at c → FitsIn k at d
      → FitsIn k at (if b then c else d)
  either-fits at true c d g h = g
  either-fits at false c d g h = h

  pub with-fits : (at : ℕ) (c : Context) (a : Around) → FitsIn k at c → HasAround k a
      → FitsIn k at (with_around c a)
  with-fits at c a f h = record {
    around = around-append c.around (a ∷ []) f.around (h, tt);
    rich = f.rich;
    nested = f.nested;
    tables = f.tables;
  }

  pub format-fits : (at : ℕ) (g : Format) (c : Context) → k.format g ≡ true → FitsIn k at c
      → FitsIn k at (inside_format g c)
  format-fits at g c e f =
      either-fits at (is_enough g c.around) c (with_around c (part.formatted g)) f
      (with-fits at c (part.formatted g) f e)

  pub link-fits : (at : ℕ) (id : ℕ) (s : List ℕ) (title : Option (List ℕ)) (c : Context)
      → k.link s title ≡ true
      → FitsIn k at c → FitsIn k at (inside_link id s title c)
  link-fits at id s title c e f =
      either-fits at (list_any is_link c.around) c (with_around c (linked id s title)) f
      (with-fits at c (linked id s title) f e)

  pub either-around : (b : Bool) (xs ys : List Around) → AllAround k xs → AllAround k ys
      → AllAround k (if b then xs else ys)
  either-around true xs ys g h = g
  either-around false xs ys g h = h

  pub without-has : (around : List Around) → AllAround k around → AllAround k (without_link around)
  without-has [] h = tt
  without-has (a ∷ around) h =
      either-around (is_link a) around (a ∷ without_link around) h.1 (h.0, without-has around h.1)

  pub unlinked-fits : (at : ℕ) (c : Context) → FitsIn k at c → FitsIn k at (unlinked c)
  unlinked-fits at c f =
      record { around = without-has c.around f.around; rich = f.rich; nested = f.nested; tables = f.tables }

  pub code-fits : (at : ℕ) (c : Context) → FitsIn k at c → FitsIn k at (in_code c)
  code-fits at c f = record { around = f.around; rich = f.rich; nested = f.nested; tables = f.tables }

  pub beside-fits : (at : ℕ) (n : ℕ) (attributes : List AttributePair) (c : Context) → FitsIn k at c
      → FitsIn k at (beside_code n attributes c)
  beside-fits at zero attributes c f = f
  beside-fits at (suc zero) attributes c f =
      record { around = f.around; rich = f.rich; nested = f.nested; tables = f.tables }
  beside-fits at (suc (suc n)) attributes c f =
      record { around = f.around; rich = f.rich; nested = f.nested; tables = f.tables }
