-- The laws of the conversion.
use Rattle.std.proofs.Common.{◌≡◌, ℕ, Bool, true, false, List, [], ◌∷◌, ◌++◌, length, refl, ap, ◌∙◌, cond}
use Rattle.std.specs.List.{prefix_len}
use Rattle.std.specs.Str.{bytes_eq}
use Rattle.std.proofs.lemmas.Bool.{cond-false}
use Rattle.std.proofs.lemmas.Slice.Eq.{bytes_eq-Decides}
use Rattle.htmd_text.specs.Trims.{is_line_feed}
use Rattle.htmd_markdown.proofs.TrimmedTexts.{Begins, trimmed_between}
use Rattle.htmd_walk.specs.Choice.{indexes, tag_at}
use Rattle.htmd_walk.specs.Markdown.{walked_node}
use Rattle.htmd_law_trees.specs.ContentLaws.{ContentIsTrimmed, RepeatsAreKept}
use Rattle.htmd_walk.proofs.ChoiceLemmas.{indexes-append}

none_passes : (passes : ℕ → Bool) (s : List ℕ) → Begins passes s → prefix_len passes s ≡ 0
none_passes passes [] begins = refl
none_passes passes (b ∷ s) begins = cond-false (passes b) _ _ begins

pub content_is_trimmed : ContentIsTrimmed
content_is_trimmed config items start =
    let text = (walked_node config items start).text in
    let bare = (trimmed_between is_line_feed text).bare in
    (none_passes is_line_feed _ bare.front, none_passes is_line_feed _ bare.back)

-- if the tag is found, its index stands there twice
twice : (tag : List ℕ) (index : ℕ) (b : Bool) → b ≡ true
    → cond b (index ∷ []) [] ++ cond b (index ∷ []) [] ≡ index ∷ index ∷ []
twice tag index true e = refl
twice tag index false e = ap (λ (b : Bool). cond b (index ∷ index ∷ []) []) e

pub repeats_are_kept : RepeatsAreKept
repeats_are_kept config tag handler =
    let index = length config.handlers in
    let new = tag_at index tag ∷ tag_at index tag ∷ [] in
    indexes-append tag config.registered new
    ∙ ap (λ (l : List ℕ). l ++ indexes tag config.registered)
    (twice tag index (bytes_eq tag tag) ((bytes_eq-Decides tag tag).1 refl))
