-- Code of which nothing is to see says nothing.
use Rattle.std.proofs.Common.{◌≡◌, ℕ, Bool, true, false, not, ◌&&◌, List, [], ◌∷◌, ◌++◌, refl, sym, ap, ◌∙◌}
use Rattle.std.specs.Str.{IsUtf8}
use Rattle.htmd_shown.specs.declared.facts.Facts.{Facts}
use Rattle.htmd_shown.specs.declared.role.Role.{Role}
use Rattle.htmd_shown.specs.declared.role.Role.TheVariants as role
use Rattle.htmd_shown.specs.AllTexts.{dollar_sign}
use Rattle.htmd_shown.specs.Marks.{letters_of, letters_among}
use Rattle.htmd_shown.specs.Roles.{is_void}
use Rattle.htmd_shown.specs.SimpleTrees.{Simple, text, image, formula, embedded, anchor, element, Simples, none, more}
use Rattle.htmd_shown.specs.Showings.{code_shows}
use Rattle.htmd_law_documents.specs.DocumentTexts.{visible}
use Rattle.htmd_law_documents.specs.SaidTexts.{SaysUnless, Says, SayAll}
use Rattle.htmd_law_documents.specs.SimpleForms.{IsMade, IsSound, AreSound}
use Rattle.htmd_law_documents.specs.SimpleTexts.{formula_said, flat_in, grid_in}
use Rattle.htmd_law_documents.proofs.VisibleLemmas.{Shows, shows-append, shows-itself}
use Rattle.htmd_law_documents.proofs.PiecesLemmas.{unfilled}
use Rattle.htmd_law_documents.proofs.ElementLemmas.{dollar-shows}

-- in a line a formula stands between dollar signs
formula-letters : (is_alone : Bool) (tex : List ℕ) → IsUtf8 tex
    → visible (formula_said (is_alone && not true) tex) ≡ (dollar_sign ∷ visible tex) ++ dollar_sign ∷ []
formula-letters is_alone tex u = either is_alone
  where
    sign : List ℕ
    sign = dollar_sign ∷ []

    all : Shows ((dollar_sign ∷ tex) ++ sign) ((dollar_sign ∷ visible tex) ++ sign)
    all = shows-append (dollar_sign ∷ tex) sign (dollar_sign ∷ visible tex) sign
        (shows-append sign tex sign (visible tex) dollar-shows (shows-itself tex u)) dollar-shows

    either : (b : Bool) → visible (formula_said (b && not true) tex) ≡ (dollar_sign ∷ visible tex) ++ sign
    either true = all.is
    either false = all.is

element-letters : (r : Role) (facts : Facts) (content : Simples) → IsMade r facts content
    → (h g : Bool) (cs : List ℕ)
    → ((k : Bool) → SayAll true k content cs → cs ≡ letters_among content)
    → SaysUnless (is_void r) cs (SayAll (flat_in r true g) (grid_in r h g) content cs)
    → cs ≡ letters_among content
element-letters role.LineBreak facts content m h g cs next x = x ∙ sym (ap letters_among (m.empty refl))
element-letters role.ThematicBreak facts content m h g cs next x = x ∙ sym (ap letters_among (m.empty refl))
element-letters role.Cell facts content m h true cs next x = next _ x
element-letters role.Cell facts content m h false cs next x = next _ x
element-letters role.HeaderCell facts content m h true cs next x = next _ x
element-letters role.HeaderCell facts content m h false cs next x = next _ x
element-letters r facts content m h g cs next x = next _ x

mutual
  says-letters : (t : Simple) → IsSound t → (g : Bool) (cs : List ℕ) → Says true g t cs → cs ≡ letters_of t
  says-letters (text s) u g cs x = x
  says-letters (image address attributes) u g cs x = x
  says-letters (formula tex is_alone attributes) u g cs x = x ∙ formula-letters is_alone tex u
  says-letters (embedded id address title attributes anchors) u g cs x = x
  says-letters (anchor id) u g cs x = x
  says-letters (element id r facts attributes content) u g cs x =
      element-letters r facts content u.0 x.0 g cs (λ k y. say-letters content u.1 k cs y) x.1

  say-letters : (ts : Simples) → AreSound ts → (g : Bool) (cs : List ℕ) → SayAll true g ts cs
      → cs ≡ letters_among ts
  say-letters none u g cs x = x
  say-letters (more t ts) u g cs x =
      x.2 ∙ (ap (λ y. y ++ x.1) (says-letters t u.0 g x.0 x.3)
      ∙ ap (λ y. letters_of t ++ y) (say-letters ts u.1 g x.1 x.4))

pub unseen-code : (ts : Simples) → AreSound ts → code_shows ts ≡ false → (g : Bool) (cs : List ℕ)
    → SayAll true g ts cs
    → cs ≡ []
unseen-code ts u e g cs x = say-letters ts u g cs x ∙ unfilled (letters_among ts) e
