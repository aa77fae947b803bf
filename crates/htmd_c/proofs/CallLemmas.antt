-- What a text of the struct says, and why bytes become nothing.
use Rattle.std.proofs.Common.{◌≡◌, ◌∙◌, ap, sym, subst, refl, ℕ, true, false, List, [], ◌∷◌, ◌++◌}
use Rattle.std.proofs.Common.{Bor, length, eqb, map, arith}
use Rattle.std.proofs.Common.{Option, Some, None, IsUtf8}
use Rattle.std.specs.List.{list_all}
use Rattle.std.proofs.lemmas.Bool.Decides.{nat_tests}
use Rattle.htmd.specs.PageOutputs.{IsFaultOf}
use Rattle.htmd.specs.PageValues.{AddsSelectors, is_filled, parts, selectors, url}
use Rattle.htmd.specs.declared.page_error.PageError.{PageError}
use Rattle.htmd.specs.declared.page_error.PageError.TheVariants.{NotUtf8, Refused, NothingSelected, Memory}
use Rattle.htmd.specs.PageSettings.{Settings}
use Rattle.htmd_encodings.specs.Labels.{encoding_named}
use Rattle.htmd_encodings.specs.declared.encodings.Encoding.{Encoding}
use Rattle.htmd_selectors.specs.SelectorSteps.{Step}
use Rattle.url.specs.Parts.{Parts}
use Rattle.htmd_c.specs.declared.options.HtmdOptions.{HtmdOptions}
use Rattle.htmd_c.specs.Options.{settings_of}
use Rattle.htmd_c.specs.CallResults.{IsPageFault, IsTextFault}
use Rattle.htmd_c.specs.PageOptions.{AreNames, AreSelectors, IsBase, IsEncoding, IsSettingsOf}
use Rattle.htmd_c.specs.declared.page_options.HtmdPageOptions.{HtmdPageOptions}

-- ---- a text without bytes

pub selectors_untold : (text : List ℕ) (steps : List Step) → eqb (length text) 0 ≡ true → steps ≡ []
    → AreSelectors text steps
selectors_untold [] steps e s = s
selectors_untold (b ∷ t) steps e s = absurd (grind (arith, nat_tests))

pub names_untold : (text : List ℕ) (names : List (List ℕ)) → eqb (length text) 0 ≡ true → names ≡ []
    → AreNames text names
names_untold [] names e s = s
names_untold (b ∷ t) names e s = absurd (grind (arith, nat_tests))

pub base_untold : (text : List ℕ) (base : Option Parts) → eqb (length text) 0 ≡ true → base ≡ None
    → IsBase text base
base_untold [] base e s = s
base_untold (b ∷ t) base e s = absurd (grind (arith, nat_tests))

pub encoding_untold : (text : List ℕ) (encoding : Option Encoding) → eqb (length text) 0 ≡ true
    → encoding ≡ None → IsEncoding text encoding
encoding_untold [] encoding e s = s
encoding_untold (b ∷ t) encoding e s = absurd (grind (arith, nat_tests))

-- ---- a text with bytes

pub selectors_told : (text found : List ℕ) (before steps : List Step) → eqb (length text) 0 ≡ false
    → IsUtf8 text → found ≡ text → before ≡ [] → AddsSelectors before steps found
    → AreSelectors text steps
selectors_told [] found before steps e u f n a = absurd (grind (arith, nat_tests))
selectors_told (b ∷ t) found before steps e u f n (more, is, added) =
    (u, subst (λ s. selectors s ≡ Some steps) f (is ∙ ap Some (sym (added ∙ ap (λ l. l ++ more) n))))

pub names_told : (text found : List ℕ) (before names : List (List ℕ)) → eqb (length text) 0 ≡ false
    → IsUtf8 text → found ≡ text → before ≡ [] → list_all is_filled (parts found) ≡ true
    → names ≡ before ++ parts found → AreNames text names
names_told [] found before names e u f n a p = absurd (grind (arith, nat_tests))
names_told (b ∷ t) found before names e u f n a p = (
  u,
  ap (λ s. list_all is_filled (parts s)) (sym f) ∙ a,
  p ∙ ap (λ l. l ++ parts found) n ∙ ap parts f,
)

pub base_told : (text found : List ℕ) (base : Option Parts) (address : Parts) → eqb (length text) 0 ≡ false
    → IsUtf8 text → found ≡ text → Some address ≡ url found → base ≡ Some address → IsBase text base
base_told [] found base address e u f a p = absurd (grind (arith, nat_tests))
base_told (b ∷ t) found base address e u f a p = (u, address, sym (a ∙ ap url f), p)

pub encoding_told : (text : List ℕ) (encoding : Option Encoding) (named : Encoding)
    → eqb (length text) 0 ≡ false → encoding_named text ≡ Some named → encoding ≡ Some named
    → IsEncoding text encoding
encoding_told [] encoding named e a p = absurd (grind (arith, nat_tests))
encoding_told (b ∷ t) encoding named e a p = (named, a, p)

-- ---- settings without names

pub no_names : (names : List (Bor (List ℕ))) → map (λ name. name.now) names ≡ [] → names ≡ []
no_names [] e = refl
no_names (name ∷ names) e = absurd (cc)

-- ---- why a page becomes nothing

pub page_fault : (given : HtmdPageOptions) (settings : Settings) (bytes : List ℕ) (e : PageError)
    → IsSettingsOf given settings → IsFaultOf settings bytes e → IsPageFault given bytes e
page_fault given settings bytes NotUtf8 s f = (settings, s, f)
page_fault given settings bytes (Refused place kind) s f = (settings, s, f)
page_fault given settings bytes NothingSelected s f = (settings, s, f)
page_fault given settings bytes Memory s f = tt

pub text_fault : (given : HtmdOptions) (bytes : List ℕ) (e : PageError) → IsUtf8 bytes
    → IsFaultOf (settings_of given) bytes e → IsTextFault (settings_of given) bytes e
text_fault given bytes NotUtf8 u (strict, n) = n
text_fault given bytes (Refused place kind) u (text, html5, utf8, refused) = (u, html5, refused)
text_fault given bytes NothingSelected u (readable, (tree, by, none)) = absurd (cc)
text_fault given bytes Memory u f = tt
