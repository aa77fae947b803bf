-- The options that a converter has if none are given.
use Rattle.std.specs.Prelude.{false}
use Rattle.htmd_markdown.specs.declared.heading.HeadingStyle.TheVariants.{Atx}
use Rattle.htmd_markdown.specs.declared.thematic_break.HrStyle.TheVariants.{Asterisks}
use Rattle.htmd_markdown.specs.declared.line_break.BrStyle.TheVariants.{TwoSpaces}
use Rattle.htmd_markdown.specs.declared.link.LinkStyle.TheVariants.{Inlined}
use Rattle.htmd_markdown.specs.declared.link.LinkReferenceStyle.TheVariants.{Full}
use Rattle.htmd_walk.specs.declared.options.CodeBlockStyle.TheVariants.{Fenced}
use Rattle.htmd_markdown.specs.declared.fence.CodeBlockFence.TheVariants.{Backticks}
use Rattle.htmd_markdown.specs.declared.list.BulletListMarker.TheVariants.{Asterisk}
use Rattle.htmd_walk.specs.declared.options.TranslationMode.TheVariants.{Pure}
use Rattle.htmd_walk.specs.declared.options.Options.{Options}

abbrev pub default_options : Options
default_options = record {
  heading_style = Atx;
  hr_style = Asterisks;
  br_style = TwoSpaces;
  link_style = Inlined;
  link_reference_style = Full;
  code_block_style = Fenced;
  code_block_fence = Backticks;
  bullet_list_marker = Asterisk;
  ul_bullet_spacing = 3;
  ol_number_spacing = 2;
  preformatted_code = false;
  translation_mode = Pure;
}
