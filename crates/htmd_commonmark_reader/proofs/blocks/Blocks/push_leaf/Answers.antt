-- One leaf is closed.
use Rattle.std.proofs.Common.{◌∙◌, ◌∷◌, ◌++◌, [], map, refl, ap, sym, append-nil}
use Rattle.std.proofs.lemmas.List.{map-append}
use Rattle.htmd_commonmark_reader.specs.ClosedParts.{part_of, parts_of}
use Rattle.htmd_commonmark_reader.specs.Definitions.{held_of, encoded}
use Rattle.htmd_commonmark_reader.specs.declared.closed.Closed.TheVariants.{Leaf}
use Rattle.htmd_commonmark_reader.proofs.ClosedPartsLemmas.{leaf_parts, leaf_found}
use Rattle.htmd_commonmark_reader.proofs.OpenBlocksLemmas.{and-false}
use Rattle.htmd_commonmark_reader.proofs.blocks.Blocks.push_leaf.Goals as goal

pub returns : goal.returns
returns c =
    let o = c.args.self.now in
    let p = c.args.leaf in
    record {
      parts = ap parts_of c.in_ok-push.ensures.items ∙ map-append part_of o.closed.items (Leaf o.gap p ∷ [])
          ∙ ap (λ l. parts_of o.closed.items ++ l) (sym (leaf_parts o.gap p));
      found = sym (append-nil (map held_of o.definitions.items))
          ∙ ap (λ ds. map held_of o.definitions.items ++ map encoded ds) (sym (leaf_found p));
      boxes = refl;
      none = sym (and-false o.is_empty);
      gap = refl;
      inner = refl;
    }
