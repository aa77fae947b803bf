use Rattle.std.proofs.Common.{◌≡◌, ◌∙◌, ◌∷◌, [], OnOk, sym, ap, subst, refl}
use Rattle.std.specs.Str.{chars}
use Rattle.htmd_lexical.specs.Characters.{quotation_mark}
use Rattle.htmd_shown.specs.Shown.{followed_by, marks}
use Rattle.htmd_shown.specs.ShownTexts.{shown_text}
use Rattle.htmd_shown.specs.SightViews.{node_of, nodes_of}
use Rattle.htmd_shown.specs.SimpleTrees.{text, none, more}
use Rattle.htmd_shown.proofs.WalkLemmas.{none_after}
use Rattle.htmd_shown.proofs.sight.Content.mark.Goals as goal
use lib.Utf8.{encode}

mark_shown : shown_text (quotation_mark ∷ []) ≡ quotation_mark ∷ []
unfolding chars encode
mark_shown = refl

pub returns-then-is_quoted-clause-value : goal.returns-then-is_quoted-clause-value
returns-then-is_quoted-clause-value c =
    let mark : more (node_of c.of_text.result) none ≡ marks c.args.is_quoted =
    ap (λ t. more t none) (c.of_text.ensures.value ∙ ap text mark_shown) ∙ sym (ap marks c.if-is_quoted.true) in
    subst (λ ts. OnOk c.push.result (nodes_of c.push.new.self ≡ followed_by (nodes_of c.args.self.now) ts)) mark
    c.push.ensures.value

pub returns-else-is_quoted-clause-value : goal.returns-else-is_quoted-clause-value
returns-else-is_quoted-clause-value c =
    sym (none_after (nodes_of c.args.self.now))
    ∙ ap (λ b. followed_by (nodes_of c.args.self.now) (marks b)) (sym c.if-is_quoted.false)
