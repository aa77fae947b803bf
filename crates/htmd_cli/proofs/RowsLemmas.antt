-- What is written for a field and a row.
use Rattle.std.proofs.Common.{◌≡◌, ◌≢◌, ◌∙◌, ap, subst, refl, ℕ, false, List, [], ◌∷◌, ◌++◌}
use Rattle.std.proofs.Common.{Result, Ok, Err, OnOk, append_assoc, inl, inr}
use Rattle.std.specs.Str.{bytes_eq}
use Rattle.htmd.specs.Characters.{line_feed}
use Rattle.htmd.specs.PageSettings.{Settings}
use Rattle.htmd.specs.declared.page_error.PageError.{PageError}
use Rattle.htmd.specs.declared.page_error.PageError.TheVariants.{Memory}
use Rattle.htmd.specs.PageOutputs.{IsFaultOf, IsOutputOf}
use Rattle.htmd_streams.specs.Fields.{null, read_field, written_field}
use Rattle.htmd_streams.specs.Lines.{other_fields, last_field}
use Rattle.htmd_cli.specs.Rows.{IsPageAnswer, IsFieldAnswer, IsRowAnswer}
use Rattle.htmd.proofs.PageOutputsLemmas.{match_false}

-- a page that becomes this
pub page_answer : (settings : Settings) (page output : List ℕ) → IsOutputOf settings page output
    → IsPageAnswer settings page (written_field output)
page_answer settings page output m = inl (output, m, refl)

-- a page that becomes nothing
pub refused_answer : (settings : Settings) (page : List ℕ) (e : PageError) → IsFaultOf settings page e
    → e ≢ Memory
    → IsPageAnswer settings page null
refused_answer settings page e f m = inr ((e, f, m), refl)

-- a field that isn't null, by the page that it stands for
pub field_answer : {T E : Type 0} (settings : Settings) (field page read before old new : List ℕ) (r : Result T E)
    → bytes_eq field null ≡ false → page ≡ read → read ≡ before ++ read_field field → before ≡ []
    → OnOk r ((written : List ℕ) × IsPageAnswer settings page written × (new ≡ old ++ written))
    → OnOk r ((written : List ℕ) × IsFieldAnswer settings field written × (new ≡ old ++ written))
field_answer settings field page read before old new (Ok x) e p q z h = (
  h.0,
  match_false _ _ (bytes_eq field null) e (subst (λ t. IsPageAnswer settings t h.0)
      (p ∙ (q ∙ ap (λ t. t ++ read_field field) z)) h.1),
  h.2,
)
field_answer settings field page read before old new (Err x) e p q z h = tt

-- a row, part by part
pub row_answer : (settings : Settings) (row last others a b c d : List ℕ) → last ≡ last_field row
    → others ≡ other_fields row → a ≡ [] → b ≡ a ++ others
    → (written : List ℕ) × IsFieldAnswer settings last written × (c ≡ b ++ written)
    → d ≡ c ++ line_feed ∷ [] → IsRowAnswer settings row d
row_answer settings row last others a b c d l o z p h q = (
  h.0,
  subst (λ t. IsFieldAnswer settings t h.0) l h.1,
  q ∙ (ap (λ t. t ++ line_feed ∷ []) (h.2 ∙ ap (λ t. t ++ h.0) (p ∙ (ap (λ t. t ++ others) z ∙ o)))
      ∙ append_assoc (other_fields row) h.0 (line_feed ∷ [])),
)
