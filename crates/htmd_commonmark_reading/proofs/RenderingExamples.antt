-- Worked rows of HTML: what CommonMark and GitHub write for a text. Each holds by computing.
use Rattle.std.proofs.Common.{◌≡◌, ◌++◌, refl, codes}
use Rattle.std.specs.Fmt.{digits}
use Rattle.std.specs.Str.{chars}
use Rattle.htmd_commonmark_reading.specs.Reading.{read}
use Rattle.htmd_commonmark_reading.specs.Rendering.{html_of}

pub in_lines : html_of (read (codes "# *a* `<b>`\n\"c\"  \n~~d~~ <e f=\"&\">\n"))
    ≡ codes "<h1><em>a</em> <code>&lt;b&gt;</code></h1>\n<p>&quot;c&quot;<br />\n<del>d</del> <e f=\"&\"></p>\n"
unfolding digits chars
in_lines = refl

pub links : html_of (read (codes "[*a*](/b\\?c&d[ \"e&f\") ![**g** `h`](<i j>)"))
    ≡ codes "<p><a href=\"/b?c&amp;d%5B\" title=\"e&amp;f\"><em>a</em></a> <img src=\"i%20j\" alt=\"g h\" /></p>\n"
unfolding chars
links = refl

-- paragraphs of a tight list have no tags, those in a quote in it have some
pub tight_items : html_of (read (codes "- a\n  - b\n- > c\n-\n- ***\n  d\n"))
    ≡ codes "<ul>\n<li>a\n<ul>\n<li>b</li>\n</ul>\n</li>\n<li>\n<blockquote>\n<p>c</p>\n</blockquote>\n</li>\n"
    ++ codes "<li></li>\n<li>\n<hr />\nd</li>\n</ul>\n"
tight_items = refl

pub loose_items : html_of (read (codes "7. a\n\n   ```x y\n   <\n   ```\n"))
    ≡ codes "<ol start=\"7\">\n<li>\n<p>a</p>\n<pre><code class=\"language-x\">&lt;\n</code></pre>\n</li>\n</ol>\n"
unfolding digits
loose_items = refl

pub tasks : html_of (read (codes "1. [ ] a\n2. [x] b\n"))
    ≡ codes "<ol>\n<li><input disabled=\"\" type=\"checkbox\"> a</li>\n"
    ++ codes "<li><input checked=\"\" disabled=\"\" type=\"checkbox\"> b</li>\n</ol>\n"
unfolding chars
tasks = refl

pub tables : html_of (read (codes "a|b\n-|:-:\nc\n"))
    ≡ codes "<table>\n<thead>\n<tr>\n<th>a</th>\n<th align=\"center\">b</th>\n</tr>\n</thead>\n"
    ++ codes "<tbody>\n<tr>\n<td>c</td>\n<td align=\"center\"></td>\n</tr>\n</tbody>\n</table>\n"
tables = refl

pub raw_blocks : html_of (read (codes "<div>\n*a*\n\n    b\n"))
    ≡ codes "<div>\n*a*\n<pre><code>b\n</code></pre>\n"
raw_blocks = refl
