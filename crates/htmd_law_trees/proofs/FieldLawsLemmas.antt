-- What is written as a field is read.
use Rattle.std.proofs.Common.{◌≡◌, ◌∙◌, sym, ap, refl, ℕ, ◌==◌, Bool, true, false, if◌then◌else◌, List, [], ◌∷◌, ◌++◌}
use Rattle.std.proofs.Common.{codes}
use Rattle.std.proofs.lemmas.Bool.{eqb-true}
use Rattle.htmd_walk.specs.Characters.{backslash, carriage_return, line_feed, tab}
use Rattle.htmd_streams.specs.Fields.{read_field, written_field}
use Rattle.htmd_law_trees.specs.FieldLaws.{FieldsReadBack}

-- a byte that is escaped, or isn't, is read as itself
written-read : (b : ℕ) (s : List ℕ) (t u v w : Bool) → (b == backslash) ≡ t → (b == line_feed) ≡ u
    → (b == carriage_return) ≡ v → (b == tab) ≡ w
    → read_field ((if t then codes "\\\\" else if u then codes "\\n" else if v then codes "\\r"
    else if w then codes "\\t" else b ∷ []) ++ s) ≡ b ∷ read_field s
written-read b s true u v w e f g h = ap (λ x. x ∷ read_field s) (sym (eqb-true b backslash e))
written-read b s false true v w e f g h = ap (λ x. x ∷ read_field s) (sym (eqb-true b line_feed f))
written-read b s false false true w e f g h = ap (λ x. x ∷ read_field s) (sym (eqb-true b carriage_return g))
written-read b s false false false true e f g h = ap (λ x. x ∷ read_field s) (sym (eqb-true b tab h))
written-read b s false false false false e f g h = rw e refl

pub fields_read_back : FieldsReadBack
fields_read_back [] = refl
fields_read_back (b ∷ s) =
    written-read b (written_field s) (b == backslash) (b == line_feed) (b == carriage_return) (b == tab)
    refl refl refl refl
    ∙ ap (λ t. b ∷ t) (fields_read_back s)
