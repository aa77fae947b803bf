-- The marks of emphasis stand inside the white space at the ends of a content.
use Rattle.std.proofs.Common.{◌≡◌, ◌-◌, ℕ, not, ◌&&◌, List, [], ◌∷◌, length, take, drop, codes}
use Rattle.std.proofs.Common.{refl, sym, ap, ◌∙◌, subst, cond, Option, Some, None, IfSome, nat_lt}
use Rattle.std.specs.Str.{IsUtf8, IsTrimStart, IsTrimEnd, trim_start, trim_end}
use Rattle.htmd_markdown.specs.declared.emphasis.Emphasis.{Emphasis}
use Rattle.htmd_markdown.specs.declared.emphasis.Emphasis.TheVariants.{Regular, Strong}
use Rattle.htmd_markdown.specs.Emphases.{mark, between, emphasised_text, AreMarksInside}
use Rattle.htmd_markdown.proofs.EmphasesLemmas.{marks_inside}
use Rattle.htmd_walk.specs.declared.options.Options.{Options}
use Rattle.htmd_walk.specs.declared.options.TranslationMode.{TranslationMode}
use Rattle.htmd_walk.specs.Outputs.{is_markdown_alone_in}
use Rattle.htmd_walk.specs.Handling.{raw_html, content_of_children, HandlerMeaning}
use Rattle.htmd_walk.specs.Choice.{Config, indexes, handlers_at}
use Rattle.htmd_walk.specs.ElementPlans.{attributes_of}
use Rattle.htmd_walk.specs.Elements.{answer_after, first_answer, plan_answer, without_handler}
use Rattle.htmd_walk.specs.Emphases.{emphasis_of}
use Rattle.htmd_walk.specs.ElementPlans.{optional_markdown}
use Rattle.htmd_walk.specs.BuiltIn.{built_in}
use Rattle.htmd_law_trees.specs.EmphasisLaws.{MarksAreInside, MarksStandInside}

between-inside : (mark s rest middle : List ℕ) → IsUtf8 middle → IsTrimStart s rest → IsTrimEnd rest middle
    → IfSome (between mark (take (length s - length rest) s) middle (drop (length middle) rest))
    (AreMarksInside mark s)
between-inside mark s rest [] text start end = tt
between-inside mark s rest (b ∷ m) text start end =
    marks_inside mark s rest (b ∷ m) _ _ _ text (λ e. cc) start end refl refl refl

-- of the definition
marks-of : (e : Emphasis) (s rest middle : List ℕ) → IsUtf8 middle → IsTrimStart s rest → IsTrimEnd rest middle
    → rest ≡ trim_start s → middle ≡ trim_end rest → IfSome (emphasised_text e s) (AreMarksInside (mark e) s)
marks-of e s rest middle text start end p q =
    subst (λ (r : List ℕ). IfSome (between (mark e) (take (length s - length r) s) (trim_end r)
    (drop (length (trim_end r)) r)) (AreMarksInside (mark e) s)) p
    (subst (λ (m : List ℕ). IfSome (between (mark e) (take (length s - length rest) s) m (drop (length m) rest))
    (AreMarksInside (mark e) s)) q (between-inside (mark e) s rest middle text start end))

markdown-some : (P : List ℕ → Type 0) (s : Option (List ℕ)) → IfSome s P
    → IfSome (optional_markdown s) (λ r. P r.content)
markdown-some P None h = tt
markdown-some P (Some s) h = h

-- the tag has only the handler of emphasis
HasAlone : Emphasis → List ℕ → Type 0
HasAlone e tag = (o : Options)
    → handlers_at (built_in o).handlers (indexes tag (built_in o).registered) ≡ emphasis_of e ∷ []

strong-alone : HasAlone Strong (codes "strong")
unfolding HasAlone
strong-alone o = refl

b-alone : HasAlone Strong (codes "b")
unfolding HasAlone
b-alone o = refl

i-alone : HasAlone Regular (codes "i")
unfolding HasAlone
i-alone o = refl

em-alone : HasAlone Regular (codes "em")
unfolding HasAlone
em-alone o = refl

inside : (e : Emphasis) (tag s : List ℕ) → HasAlone e tag
    → IfSome (emphasised_text e s) (AreMarksInside (mark e) s) → MarksAreInside e tag s
unfolding HasAlone
inside e tag s has marks at definitions config pure content =
    let answers : List HandlerMeaning → Option _ = λ hs. (first_answer hs at definitions).result in
    let asked : TranslationMode → Option _ = λ m. (plan_answer (emphasis_of e) at definitions
    (cond (not (is_markdown_alone_in m) && nat_lt 0 (length (attributes_of at.view))) raw_html content_of_children)
    (without_handler at definitions)).result in
    let given : (answer_after 0 tag at definitions).result ≡ optional_markdown (emphasised_text e s) =
    ap (λ (k : Config). answers (handlers_at k.handlers (indexes tag k.registered))) config
    ∙ ap answers (has at.view.options) ∙ ap asked pure
    ∙ ap (λ (t : List ℕ). optional_markdown (emphasised_text e t)) content in
    subst (λ r. IfSome r (λ x. AreMarksInside (mark e) s x.content)) (sym given)
    (markdown-some (AreMarksInside (mark e) s) (emphasised_text e s) marks)

pub marks_stand_inside : (e : Emphasis) (s rest middle : List ℕ) → IsUtf8 middle → IsTrimStart s rest
    → IsTrimEnd rest middle → rest ≡ trim_start s → middle ≡ trim_end rest → MarksStandInside e s
marks_stand_inside Regular s rest middle text start end p q =
    let marks = marks-of Regular s rest middle text start end p q in
    (inside Regular (codes "i") s i-alone marks, inside Regular (codes "em") s em-alone marks)
marks_stand_inside Strong s rest middle text start end p q =
    let marks = marks-of Strong s rest middle text start end p q in
    (inside Strong (codes "b") s b-alone marks, inside Strong (codes "strong") s strong-alone marks)
