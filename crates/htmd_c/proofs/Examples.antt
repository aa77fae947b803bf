-- Worked examples of the definitions.
use Rattle.std.proofs.Common.{◌≡◌, true, false, [], ◌∷◌, refl, Some}
use Rattle.htmd.specs.TranslationMode.TheVariants.{Faithful}
use Rattle.htmd.specs.Defaults.{default_options}
use Rattle.htmd.specs.PageSettings.{default_settings}
use Rattle.htmd_encodings.specs.declared.encodings.Encoding.TheVariants.{Utf8}
use Rattle.htmd_c.specs.Options.{default_struct, is_good, is_scripting, options_of, settings_of}

-- the struct that a caller begins with stands for the defaults
the_default_struct_is_good : is_good default_struct ≡ true
the_default_struct_is_good = refl

the_default_struct_says_the_defaults : options_of default_struct ≡ default_options
the_default_struct_says_the_defaults = refl

the_default_struct_has_scripting : is_scripting default_struct ≡ true
the_default_struct_has_scripting = refl

-- numbers that are good
a_page_in_faithful : is_good (record default_struct { reader = 1; mode = 1 }) ≡ true
a_page_in_faithful = refl

any_page_in_faithful : is_good (record default_struct { reader = 2; mode = 1 }) ≡ true
any_page_in_faithful = refl

any_page_in_guarded : is_good (record default_struct { reader = 2; mode = 2 }) ≡ true
any_page_in_guarded = refl

any_page_as_json : is_good (record default_struct { reader = 2; output = 1 }) ≡ true
any_page_as_json = refl

-- what they stand for
the_default_struct_is_strict : settings_of default_struct ≡ record default_settings { encoding = Some Utf8 }
the_default_struct_is_strict = refl

two_is_any_page : (settings_of (record default_struct { reader = 2; mode = 2; front_matter = 1 })).front_matter ≡ true
two_is_any_page = refl

one_is_faithful : options_of (record default_struct { mode = 1 })
    ≡ record default_options { translation_mode = Faithful }
one_is_faithful = refl

two_thousand_bytes : (settings_of (record default_struct { chunk_bytes = 208 ∷ 7 ∷ 0 ∷ 0 ∷ [] })).chunks
    ≡ Some 2000
two_thousand_bytes = refl

-- and numbers that are not
no_reader_three : is_good (record default_struct { reader = 3 }) ≡ false
no_reader_three = refl

no_version_two : is_good (record default_struct { version = 2 }) ≡ false
no_version_two = refl

no_fourth_mode : is_good (record default_struct { mode = 3 }) ≡ false
no_fourth_mode = refl

no_third_output : is_good (record default_struct { output = 2 }) ≡ false
no_third_output = refl
