-- A list of parts without the frame.
use Rattle.std.proofs.Common.{◌≡◌, ℕ, cond, List, [], ◌∷◌, map, refl, ap, ◌∙◌, Option}
use Rattle.htmd_lexical.proofs.Cases.{test}
use Rattle.htmd_nodes.specs.Views.{data_of}
use Rattle.htmd_article.specs.declared.parts.Part as source
use Rattle.htmd_article.specs.declared.parts.Part.{out-Part}
use Rattle.htmd_article.specs.Parts.{Part, part, more, parts_of}
use Rattle.htmd_article.specs.Frames.{is_frame, without_frame, without_frame_in, total_below, over}
use Rattle.htmd_article.specs.PartViews.{part_of}
use Rattle.htmd_article.proofs.PartsLemmas.{part-out}

abbrev left_or : Option ℕ → Part → List Part → List Part
left_or total (part d f inner) others =
    cond (is_frame total d f) others (without_frame_in total (part d f inner) ∷ others)

abbrev pub left : Option ℕ → List Part → List Part
left total [] = []
left total (p ∷ ps) = left_or total p (left total ps)

pub without_frame-list : (total : Option ℕ) (ps : List Part)
    → without_frame total (parts_of ps) ≡ parts_of (left total ps)
without_frame-list total [] = refl
without_frame-list total (part d f inner ∷ ps) =
    let others = without_frame-list total ps in
    test (is_frame total d f) (λ so. rw so others)
    (λ otherwise. rw otherwise (ap (more (without_frame_in total (part d f inner))) others))

-- a part without the frame in it
pub framed-out : (total : Option ℕ) (p : source.Part) → without_frame_in total (part_of p)
    ≡ over (data_of (out-Part p).node.now) (out-Part p).facts (parts_of
    (left (total_below total (data_of (out-Part p).node.now)) (map part_of (out-Part p).parts.items)))
framed-out total p =
    ap (without_frame_in total) (part-out p)
    ∙ ap (over (data_of (out-Part p).node.now) (out-Part p).facts)
    (without_frame-list (total_below total (data_of (out-Part p).node.now)) (map part_of (out-Part p).parts.items))
