-- What the rows of the source's table of options mean; only the contracts of private functions cite it.
use Rattle.std.specs.Prelude.{◌≡◌, ◌||◌, ℕ, Bool, true, false, if◌then◌else◌, List, Option, Some, None, option_map}
use Rattle.std.specs.Prelude.{is_some}
use Rattle.std.specs.List.{list_all}
use Rattle.htmd_cli.specs.declared.options.Setting.{Setting}
use Rattle.htmd_cli.specs.declared.options.Setting.TheVariants as setting
use Rattle.htmd_cli.specs.declared.options.Style.{Style}
use Rattle.htmd_cli.specs.declared.options.Style.TheVariants as style
use Rattle.htmd_cli.specs.declared.options.Valued.{Valued}
use Rattle.htmd_cli.specs.declared.options.Valued.TheVariants as valued
use Rattle.htmd_cli.specs.declared.options.OptionRow.{OptionRow}
use Rattle.htmd_cli.specs.declared.requests.Request as held
use Rattle.htmd_cli.specs.declared.requests.OptionFault.{OptionFault}
use Rattle.htmd_cli.specs.declared.requests.OptionFault.TheVariants as fault
use Rattle.htmd.specs.Options.{Options}
use Rattle.htmd_encodings.specs.Labels.{encoding_named}
use Rattle.htmd.specs.PageSettings.{settings_in}
use Rattle.htmd_cli.specs.Options.{Request, KnownOption, sets, sets_option, skips, takes_rows, shows_instead, number}
use Rattle.htmd.specs.PageValues.{parts, is_filled, selectors, url}
use Rattle.htmd_cli.specs.Options.{cuts, size, selects, drops, is_based_on, takes_any_page_guarded, takes_faithful, takes_markdown}

-- the setting is told by a value
abbrev pub takes_value : Setting → Bool
takes_value (setting.Valued kind) = true
takes_value _ = false

-- that value is read in memory
abbrev pub value_takes_memory : Valued → Bool
value_takes_memory valued.Select = true
value_takes_memory valued.Drop = true
value_takes_memory valued.Base = true
value_takes_memory _ = false

abbrev pub takes_memory : Setting → Bool
takes_memory (setting.Valued kind) = value_takes_memory kind
takes_memory _ = false

-- the options with a style
abbrev pub styled : Style → Options → Options
styled (style.Heading heading) options = record options { heading_style = heading }
styled (style.Rule rule) options = record options { hr_style = rule }
styled (style.LineBreak line_break) options = record options { br_style = line_break }
styled (style.Link link) options = record options { link_style = link }
styled (style.Reference reference) options = record options { link_reference_style = reference }
styled (style.CodeBlock code_block) options = record options { code_block_style = code_block }
styled (style.Fence fence) options = record options { code_block_fence = fence }
styled (style.Bullet bullet) options = record options { bullet_list_marker = bullet }

-- what a value does to what is asked for
abbrev pub value_effect : Valued → List ℕ → Option (Request → Request)
value_effect valued.Encoding value =
    option_map (λ e. sets (λ settings. record settings { encoding = Some e })) (encoding_named value)
value_effect valued.Select value = option_map selects (selectors value)
value_effect valued.Drop value = option_map drops (selectors value)
value_effect valued.Skip value = if list_all is_filled (parts value) then Some (skips (parts value)) else None
value_effect valued.Base value = option_map is_based_on (url value)
value_effect valued.Chunks value = option_map cuts (size value)
value_effect valued.BulletSpacing value =
    option_map (λ n. sets_option (λ options. record options { ul_bullet_spacing = n })) (number value)
value_effect valued.NumberSpacing value =
    option_map (λ n. sets_option (λ options. record options { ol_number_spacing = n })) (number value)

-- what a setting with this value does to what is asked for
abbrev pub effect_of : Setting → List ℕ → Option (Request → Request)
effect_of setting.Text value = Some (sets (λ settings. record settings { text = true }))
effect_of setting.Body value = Some (sets (λ settings. record settings { body = true }))
effect_of setting.Html5 value = Some (sets (λ settings. record settings { html5 = true }))
effect_of setting.Web value = Some takes_any_page_guarded
effect_of setting.FromMarkdown value = Some takes_markdown
effect_of setting.Rows value = Some takes_rows
effect_of setting.Faithful value = Some takes_faithful
effect_of setting.Html value = Some (sets (λ settings. record settings { as_html = true }))
effect_of setting.Guarded value = Some (sets (λ settings. record settings { guarded = true }))
effect_of setting.Mdast value = Some (sets (λ settings. record settings { mdast = true }))
effect_of (setting.Chunks most) value = Some (cuts most)
effect_of setting.NoScripting value = Some (sets (λ settings. record settings { scripting = false }))
effect_of (setting.Anchors anchors) value = Some (sets (λ settings. record settings { anchors = anchors }))
effect_of setting.Rich value = Some (sets (λ settings. record settings { rich = true }))
effect_of setting.FrontMatter value = Some (sets (λ settings. record settings { front_matter = true }))
effect_of setting.Title value = Some (sets (λ settings. record settings { title = true }))
effect_of setting.Visible value = Some (sets (λ settings. record settings { visible = true }))
effect_of setting.Article value = Some (sets (λ settings. record settings { article = true }))
effect_of (setting.Images images) value = Some (sets (λ settings. record settings { images = images }))
effect_of setting.LinksAsText value = Some (sets (λ settings. record settings { links_as_text = true }))
effect_of (setting.Style chosen) value = Some (sets_option (styled chosen))
effect_of setting.PreformattedCode value = Some (sets_option (λ options. record options { preformatted_code = true }))
effect_of setting.Explain value = Some (λ request. request)
effect_of (setting.Valued kind) value = value_effect kind value
effect_of (setting.Show notice) value = Some shows_instead

-- the option of a row of the source's table
abbrev pub option_of : OptionRow → KnownOption
option_of row = record {
  name = row.name.now;
  takes_value = takes_value row.setting;
  takes_memory = takes_memory row.setting;
  effect = effect_of row.setting;
}

-- what is asked for so far, as the program holds it
abbrev pub request_in : held.Request → Request
request_in request = record {
  settings = settings_in request.settings;
  rows = request.rows;
  shows = is_some request.shows;
}

-- the fault of options that are all known, or not: memory ran out only if they are, or if some value is read in memory
abbrev pub IsOptionFault : OptionFault → Bool → Bool → Type 0
IsOptionFault fault.Memory known takes = (takes || known) ≡ true
IsOptionFault (fault.Unknown option) known takes = known ≡ false
IsOptionFault (fault.Selector option error) known takes = known ≡ false
