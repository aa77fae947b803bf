-- One more part of a leaf or a quote, and what the last part takes.
use Rattle.std.proofs.Common.{◌≡◌, ℕ, zero, suc, ◌+◌, Bool, ◌<◌, List, [], ◌∷◌, ◌++◌, length, map, sym, ap, ◌∙◌}
use Rattle.std.proofs.Common.{◌⊎◌, inl, inr, get_or, arith}
use Rattle.std.proofs.lemmas.List.{map-append}
use Rattle.htmd_document.specs.Documents as value
use Rattle.htmd_document.specs.DocumentViews.{block_of, blocks_of}
use Rattle.htmd_document.specs.declared.document.Block.{Block}
use Rattle.htmd_chunks.specs.ChunkViews.{block_part_of, part_of}
use Rattle.htmd_chunks.specs.Cuts.{block_part, leaf_parts, quote_part, quote_parts, cost_of_last, cost_of_last_blocks}
use Rattle.htmd_chunks.specs.Measures.{block_cost, blocks_size}
use Rattle.htmd_chunks.specs.Sizes.{cost}
use Rattle.htmd_chunks.specs.declared.bounds.Bounds.{Bounds}
use Rattle.htmd_chunks.specs.declared.filling.BlockPart.{BlockPart}
use Rattle.htmd_chunks.specs.declared.filling.Part.{Part}
use Rattle.htmd_chunks.specs.declared.joint.Joint.{Joint}
use Rattle.htmd_chunks.specs.declared.joint.Joint.TheVariants as joint
use Rattle.htmd_chunks.specs.declared.size.Margin.{Margin}

-- ---- parts

-- the first part begins a block, a later one goes on so
abbrev pub GoesOn : List BlockPart → List Joint → List Joint → Type 0
GoesOn parts continues how = ((length parts ≡ 0) × (continues ≡ [])) ⊎
    ((0 < length parts) × (continues ≡ how))

at_first : (continues how : List Joint) → GoesOn [] continues how → continues ≡ []
at_first continues how (inl h) = h.1
at_first continues how (inr h) = let some = h.0 in absurd (omega arith)

at_later : (p : BlockPart) (parts : List BlockPart) (continues how : List Joint) → GoesOn (p ∷ parts) continues how
    → continues ≡ how
at_later p parts continues how (inl h) = let none = h.0 in absurd (omega arith)
at_later p parts continues how (inr h) = h.1

pub leaf-more : (name : Joint) (parts new : List BlockPart) (blocks : List Block) (b : Block) (p : BlockPart)
    → map block_part_of parts ≡ leaf_parts name (map block_of blocks)
    → new ≡ parts ++ p ∷ [] → p.block ≡ b → GoesOn parts p.continues.items (name ∷ [])
    → map block_part_of new ≡ leaf_parts name (map block_of (blocks ++ b ∷ []))
leaf-more name [] new [] b p so_far pushed block how =
    ap (map block_part_of) pushed
    ∙ ap (λ joints. block_part joints (block_of p.block) ∷ []) (at_first p.continues.items (name ∷ []) how)
    ∙ ap (λ x. block_part [] (block_of x) ∷ []) block
leaf-more name (q ∷ parts) new [] b p so_far pushed block how = absurd (cc)
leaf-more name [] new (c ∷ blocks) b p so_far pushed block how = absurd (cc)
leaf-more name (q ∷ parts) new (c ∷ blocks) b p so_far pushed block how =
    let behind = map (block_part (name ∷ [])) (map block_of blocks) in
    ap (map block_part_of) pushed ∙ map-append block_part_of (q ∷ parts) (p ∷ [])
    ∙ ap (λ l. l ++ block_part_of p ∷ []) so_far
    ∙ ap (λ joints. (block_part [] (block_of c) ∷ behind) ++ block_part joints (block_of p.block) ∷ [])
    (at_later q parts p.continues.items (name ∷ []) how)
    ∙ ap (λ x. (block_part [] (block_of c) ∷ behind) ++ block_part (name ∷ []) (block_of x) ∷ []) block
    ∙ ap (λ l. block_part [] (block_of c) ∷ l)
    (sym (map-append (block_part (name ∷ [])) (map block_of blocks) (block_of b ∷ [])))
    ∙ ap (leaf_parts name) (sym (map-append block_of (c ∷ blocks) (b ∷ [])))

pub quote-more : (parts new : List BlockPart) (contents : List Part) (c : Part) (p : BlockPart)
    → map block_part_of parts ≡ quote_parts (map part_of contents)
    → new ≡ parts ++ p ∷ [] → block_of p.block ≡ value.quote (blocks_of c.blocks.items)
    → GoesOn parts p.continues.items (joint.Quote ∷ c.continues.items)
    → map block_part_of new ≡ quote_parts (map part_of (contents ++ c ∷ []))
quote-more [] new [] c p so_far pushed block how =
    ap (map block_part_of) pushed
    ∙ ap (λ joints. block_part joints (block_of p.block) ∷ [])
    (at_first p.continues.items (joint.Quote ∷ c.continues.items) how)
    ∙ ap (λ x. block_part [] x ∷ []) block
quote-more (q ∷ parts) new [] c p so_far pushed block how = absurd (cc)
quote-more [] new (d ∷ contents) c p so_far pushed block how = absurd (cc)
quote-more (q ∷ parts) new (d ∷ contents) c p so_far pushed block how =
    let whole = block_part [] (value.quote (blocks_of d.blocks.items)) in
    let behind = map quote_part (map part_of contents) in
    ap (map block_part_of) pushed ∙ map-append block_part_of (q ∷ parts) (p ∷ [])
    ∙ ap (λ l. l ++ block_part_of p ∷ []) so_far
    ∙ ap (λ joints. (whole ∷ behind) ++ block_part joints (block_of p.block) ∷ [])
    (at_later q parts p.continues.items (joint.Quote ∷ c.continues.items) how)
    ∙ ap (λ x. (whole ∷ behind) ++ block_part (joint.Quote ∷ c.continues.items) x ∷ []) block
    ∙ ap (λ l. whole ∷ l) (sym (map-append quote_part (map part_of contents) (part_of c ∷ [])))
    ∙ ap quote_parts (sym (map-append part_of (d ∷ contents) (c ∷ [])))

-- ---- the last part

pub last-cost : (c : Bounds) (m : Margin) (parts : List BlockPart) (i : ℕ) (p : BlockPart) → i + 1 ≡ length parts
    → p ≡ get_or parts i p → cost_of_last c m (map block_part_of parts)
    ≡ block_cost c.options m (block_of p.block)
last-cost c m [] i p last is = absurd (omega arith)
last-cost c m (q ∷ []) zero p last is = ap (λ x. block_cost c.options m (block_of x.block)) (sym is)
last-cost c m (q ∷ []) (suc i) p last is = absurd (omega arith)
last-cost c m (q ∷ r ∷ parts) zero p last is = absurd (omega arith)
last-cost c m (q ∷ r ∷ parts) (suc i) p last is = last-cost c m (r ∷ parts) i p (omega arith) is

pub last-blocks : (c : Bounds) (m : Margin) (t : Bool) (parts : List Part) (i : ℕ) (p : Part)
    → i + 1 ≡ length parts
    → p ≡ get_or parts i p → cost_of_last_blocks c m t (map part_of parts)
    ≡ cost m (blocks_size c.options t (blocks_of p.blocks.items))
last-blocks c m t [] i p last is = absurd (omega arith)
last-blocks c m t (q ∷ []) zero p last is =
    ap (λ x. cost m (blocks_size c.options t (blocks_of x.blocks.items))) (sym is)
last-blocks c m t (q ∷ []) (suc i) p last is = absurd (omega arith)
last-blocks c m t (q ∷ r ∷ parts) zero p last is = absurd (omega arith)
last-blocks c m t (q ∷ r ∷ parts) (suc i) p last is = last-blocks c m t (r ∷ parts) i p (omega arith) is
