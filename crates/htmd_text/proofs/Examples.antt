-- Worked rows of the definitions. Each holds by computing.
use Rattle.std.proofs.Common.{◌≡◌, refl, true, false, codes}
use Rattle.std.specs.Str.{chars}
use Rattle.unicode.proofs.CategoryComputing.{ucd_category}
use Rattle.htmd_text.specs.ListMarkers.{is_atx_heading}
use Rattle.htmd_text.specs.EscapedPlaces.{escaped_markdown, escaped_angle_brackets, escaped_pre_text}
use Rattle.htmd_text.specs.SqueezedTexts.{squeezed_text}
use Rattle.htmd_text.specs.Blocks.{is_block}
use Rattle.htmd_lexical.specs.BlankLines.{with_blank_lines}
use lib.Utf8.{encode}

pub bullet : escaped_markdown (codes "- x") ≡ codes "\\- x"
bullet = refl

pub no_bullet : escaped_markdown (codes "--- a") ≡ codes "--- a"
no_bullet = refl

pub cdata : escaped_markdown (codes "<![CDATA[x]]>") ≡ codes "<!\\[CDATA\\[x\\]\\]>"
cdata = refl

pub tag : escaped_markdown (codes "\\<a>") ≡ codes "\\\\\\<a>"
tag = refl

pub escaped_cdata : escaped_markdown (codes "<!\\[CDATA\\[x") ≡ codes "\\<!\\\\\\[CDATA\\\\\\[x"
escaped_cdata = refl

pub html : escaped_angle_brackets (codes "<!\\[CDATA\\[x<!--</a<?<a< b")
    ≡ codes "<!\\[CDATA\\[x\\<!--\\</a\\<?\\<a< b"
html = refl

pub fence : escaped_pre_text (codes "```") ≡ codes "\\```"
fence = refl

pub white_space : squeezed_text (codes "a  b\t\n c ") ≡ codes "a b c "
white_space = refl

pub heading : is_atx_heading (codes "####### a") ≡ true
heading = refl

pub no_heading : is_atx_heading (codes "#a") ≡ false
no_heading = refl

pub block : is_block (codes "table") ≡ true
unfolding is_block
block = refl

pub no_block : is_block (codes "tables") ≡ false
unfolding is_block
no_block = refl

pub item : escaped_markdown (codes "1. a") ≡ codes "1\\. a"
unfolding chars encode ucd_category
item = refl

pub two_dots : escaped_markdown (codes "1.. x") ≡ codes "1.\\. x"
unfolding chars encode ucd_category
two_dots = refl

pub blank_lines : with_blank_lines (codes "a") ≡ codes "\n\na\n\n"
blank_lines = refl
