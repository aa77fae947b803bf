-- An image, or a link.
use Rattle.std.proofs.Common.{◌≡◌, [], ◌∷◌, ◌++◌, sym, subst}
use Rattle.htmd_parts.specs.Parts.{inlines_parts}
use Rattle.htmd_commonmark_reader.specs.Scans.{link_inlines}
use Rattle.htmd_commonmark_reader.specs.Slots.{slots_parts}
use Rattle.htmd_commonmark_reader.specs.declared.slots.Slot.TheVariants.{BeginLink, EndLink, BeginImage, EndImage}
use Rattle.htmd_commonmark_reader.proofs.ScansLemmas.{image_parts, link_parts}
use Rattle.htmd_commonmark_reader.proofs.brackets.link_slots.Goals as goal

pub returns-then-is_image : goal.returns-then-is_image
returns-then-is_image c = λ xs inner e.
    let t = c.args.target in
    subst (λ b. slots_parts (BeginImage t ∷ (inner ++ (EndImage t ∷ [])))
    ≡ inlines_parts (link_inlines b t xs) [])
    (sym c.if-is_image.true) (image_parts t xs inner e)

pub returns-else-is_image : goal.returns-else-is_image
returns-else-is_image c = λ xs inner e.
    let t = c.args.target in
    subst (λ b. slots_parts (BeginLink t ∷ (inner ++ (EndLink ∷ []))) ≡ inlines_parts (link_inlines b t xs) [])
    (sym c.if-is_image.false) (link_parts t xs inner e)
