-- The block of an element of a document that was read reads back.
use Rattle.std.proofs.Common.{◌≡◌, ◌∙◌, sym, List, ℕ, string_bytes, Ok, Err}
use Rattle.std.specs.Prelude.{Result, IfOk}
use Rattle.std.specs.Str.{IsUtf8}
use Rattle.htmd_nodes.specs.NumberedTrees.{tree_of, value_tree}
use Rattle.htmd_tree.specs.NodeValues.{IsReadBack}
use Rattle.htmd_tree.proofs.RawBlockLemmas.{block_reads_back}
use Rattle.htmd_values.specs.RawBlocks.{raw_block}
use Rattle.htmd_values.specs.Serialisation.{serialisation}
use Rattle.htmd_tree.proofs.raw_blocks.raw_block.Goals as goal

-- what follows of a text from two facts of it
of_each : {T E : Type 0} (r : Result T E) (First Second P : T → Type 0) → IfOk r First → IfOk r Second
    → ((t : T) → First t → Second t → P t) → IfOk r P
of_each (Ok t) First Second P first second follows = follows t first second
of_each (Err e) First Second P first second follows = tt

pub returns-clause-reads_back : goal.returns-clause-reads_back
returns-clause-reads_back c =
    let items = c.args.tree.now in
    let written : List ℕ = serialisation (value_tree (tree_of items c.args.node)) in
    of_each c.raw_block.result (λ text. string_bytes text ≡ raw_block written) (λ _. IsUtf8 written)
    (λ text. IsReadBack items c.args.node (string_bytes text)) c.raw_block.ensures.text c.raw_block.ensures.utf8
    (λ text block utf8 scripting s children same read deep name attributes what plain x e.
    block_reads_back scripting (c.raw_html_reads_back.ensures.block scripting) s children items same read c.args.node
    deep c.requires name attributes what plain utf8 x (sym block ∙ e))
