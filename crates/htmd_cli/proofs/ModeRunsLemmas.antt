-- A run by a mode from its input to how it ends.
use Rattle.std.proofs.Common.{◌≡◌, ◌∙◌, ap, refl, sym, subst, ℕ, Bool, true, false, List, Option, IfSome}
use Rattle.std.proofs.Common.{Result, Ok, Err, OnOk, IfOk, IsErrAnd, string_bytes}
use Rattle.std.proofs.KnownBytes.{Consumes-whole}
use Rattle.std.specs.Str.{IsUtf8}
use Rattle.std.specs.Io.KnownBytes.{Consumes, IsAtEnd}
use Rattle.std.specs.declared.alloc.Global.{Global}
use Rattle.std.specs.declared.string.String.{String}
use Rattle.htmd.specs.BuiltIn.{built_in}
use Rattle.htmd.specs.Choice.{Config, with_options}
use Rattle.htmd.specs.Conversions.{IsMarkdownOf, IsRefused}
use Rattle.htmd.specs.Defaults.{default_options}
use Rattle.htmd.specs.FaultKind.{FaultKind}
use Rattle.htmd.specs.Items.{Item}
use Rattle.htmd.specs.Markdown.{markdown}
use Rattle.htmd.specs.Options.{Options}
use Rattle.htmd.specs.declared.convert_error.ConvertError.{ConvertError}
use Rattle.htmd.specs.declared.convert_error.ConvertError.TheVariants as conversion
use Rattle.htmd_cli.specs.declared.faults.RunError.{RunError}
use Rattle.htmd_cli.specs.declared.faults.RunError.TheVariants.{NotUtf8, Refused, Memory}
use Rattle.htmd_cli.specs.Failures.{run_error}
use Rattle.htmd_cli.specs.ModeRuns.{IsBeforeConversion, IsMarkdownBy, handlers_by, options_of}
use Rattle.htmd.specs.PageOutputs.{paragraph, paragraph_markdown}

-- ---- the Markdown of an input

-- the built-in handlers take the options
pub takes_options : (config before : Config) (options : Options) (faithful : Bool)
    → config ≡ with_options before options → before ≡ built_in default_options
    → options ≡ options_of faithful
    → config ≡ handlers_by faithful
takes_options config before options faithful c b o =
    c ∙ (ap (λ k. with_options k options) b ∙ ap (with_options (built_in default_options)) o)

-- that of a text is that of its paragraph
pub of_text : (config : Config) (tree : List Item) (root : ℕ) (text faithful : Bool) (input output : List ℕ)
    → text ≡ true → config ≡ handlers_by faithful → tree ≡ paragraph input → root ≡ 0
    → output ≡ markdown config tree root → IsMarkdownBy text faithful input output
unfolding paragraph_markdown
of_text config tree root true faithful input output t c p z e =
    e ∙ (ap (λ k. markdown k tree root) c ∙ (ap (λ x. markdown (handlers_by faithful) x root) p
    ∙ ap (markdown (handlers_by faithful) (paragraph input)) z))
of_text config tree root false faithful input output t c p z e = absurd (cc)

-- that of HTML is that of its tree
pub of_html : {E : Type 0} (r : Result (String Global) E) (config : Config) (scripting text faithful : Bool)
    (input : List ℕ) → text ≡ false → config ≡ handlers_by faithful → scripting ≡ true
    → IfOk r (λ s. IsMarkdownOf config scripting input (string_bytes s))
    → IfOk r (λ s. IsMarkdownBy text faithful input (string_bytes s))
of_html (Ok s) config scripting true faithful input t c b h = absurd (cc)
of_html (Ok s) config scripting false faithful input t c b h =
    subst (λ k. IsMarkdownOf k true input (string_bytes s)) c
    (subst (λ x. IsMarkdownOf config x input (string_bytes s)) b h)
of_html (Err e) config scripting text faithful input t c b h = tt

-- ---- a conversion that is refused

abbrev error_in : {T : Type 0} → RunError → Result T RunError → RunError
error_in other (Ok x) = other
error_in other (Err e) = e

abbrev place_in : RunError → ℕ
place_in (Refused place kind) = place
place_in e = 0

abbrev kind_in : FaultKind → RunError → FaultKind
kind_in other (Refused place kind) = kind
kind_in other e = other

pub refused_text : {T : Type 0} (r : Result T RunError) (x : RunError) (e : ConvertError) (text input : List ℕ)
    → r ≡ Err x → x ≡ run_error e → text ≡ input
    → ((place : ℕ) (kind : FaultKind) → e ≡ conversion.Refused place kind → IsRefused true text place kind)
    → (place : ℕ) (kind : FaultKind) → r ≡ Err (Refused place kind) → IsRefused true input place kind
refused_text r x (conversion.Refused p k) text input a b i h place kind f =
    let same : Refused p k ≡ Refused place kind = sym b ∙ (sym (ap (error_in x) a) ∙ ap (error_in x) f) in
    subst (λ s. IsRefused true s place kind) i (subst (λ n. IsRefused true text n kind) (ap place_in same)
    (subst (IsRefused true text p) (ap (kind_in kind) same) (h p k refl)))
refused_text r x conversion.Memory text input a b i h place kind f =
    let same : Memory ≡ Refused place kind = sym b ∙ (sym (ap (error_in x) a) ∙ ap (error_in x) f) in absurd (cc)

-- ---- a run that reads its whole source

-- what holds of all that was read, of a source that is then at its end
module _ (old new : Option (List ℕ)) (items input : List ℕ) (c : Consumes old new items) (e : IsAtEnd new)
    (i : input ≡ items) where
  pub of_whole : (P : List ℕ → Type 0) → P input → IfSome old P
  of_whole P h = Consumes-whole old new items P c e (subst P i h)

  pub ok_of_whole : {T : Type 0} (r : Result T RunError) (P : List ℕ → Type 0) → OnOk r (P input)
      → OnOk r (IsAtEnd new × IfSome old P)
  ok_of_whole (Ok x) P h = (e, of_whole P h)
  ok_of_whole (Err x) P h = tt

  -- what isn't UTF-8 is answered as that
  pub order_of_whole : {T : Type 0} (r : Result T RunError) → (¬ IsUtf8 input → r ≡ Err NotUtf8)
      → IfSome old (λ bytes. ¬ IsUtf8 bytes → IsErrAnd r IsBeforeConversion)
  order_of_whole {T} r h =
      let P : Result T RunError → Type 0 = λ x. IsErrAnd x IsBeforeConversion in
      of_whole (λ bytes. ¬ IsUtf8 bytes → IsErrAnd r IsBeforeConversion) (λ n. subst P (sym (h n)) tt)
