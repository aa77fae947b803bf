-- The main content of small bodies, by each rule.
use Rattle.std.proofs.Common.{◌≡◌, ℕ, List, [], ◌∷◌, refl}
use Rattle.std.specs.Prelude.{codes}
use Rattle.std.specs.Str.{chars}
use Rattle.htmd_values.specs.ValueTrees.{ValueTree, document, text, element, ValueForest, none, more}
use Rattle.htmd_article.specs.declared.choices.Chosen.{Chosen}
use Rattle.htmd_article.specs.declared.choices.Chosen.TheVariants.{Main, Article, Density, Body}
use Rattle.htmd_article.specs.Articles as spec
use Rattle.htmd_article.specs.Articles.{article_of}

abbrev tide : ValueTree
tide = text (codes "The tide comes in twice a day and goes out again, and nobody has yet found a way to stop it.")

abbrev one : ValueTree → ValueForest
one tree = more tree none

abbrev p : ValueForest → ValueTree
p trees = element (codes "p") [] trees

abbrev div : ValueForest → ValueTree
div trees = element (codes "div") [] trees

abbrev h1 : ValueForest → ValueTree
h1 trees = element (codes "h1") [] trees

abbrev h2 : ValueForest → ValueTree
h2 trees = element (codes "h2") [] trees

abbrev nav : ValueForest → ValueTree
nav trees = element (codes "nav") [] trees

abbrev main : ValueForest → ValueTree
main trees = element (codes "main") [] trees

abbrev header : ValueForest → ValueTree
header trees = element (codes "header") [] trees

abbrev article : ValueForest → ValueTree
article trees = element (codes "article") [] trees

abbrev link : List ℕ → List ℕ → ValueForest → ValueForest
link address words others =
    more (element (codes "li") [] (more (element (codes "a") (record { name = codes "href"; value = address } ∷ [])
    (more (text words) none)) none)) others

abbrev menu : ValueTree
menu = element (codes "ul") [] (link (codes "/a") (codes "Alpha") (link (codes "/b") (codes "Beta")
    (link (codes "/c") (codes "Gamma") none)))

abbrev body : ValueForest → ValueTree
body trees = element (codes "body") [] trees

-- a page with this body
abbrev page : ValueForest → ValueTree
page trees = document (more (element (codes "html") [] (more (element (codes "head") [] none)
    (more (body trees) none))) none)

abbrev by : Chosen → ValueForest → spec.Article
by chosen trees = record { chosen = chosen; content = trees }

-- <nav><a href="/">x</a></nav>
only-frame : article_of (page (one (nav (one (element (codes "a") (record { name = codes "href"; value = codes "/" }
    ∷ []) (one (text (codes "x"))))))))
    ≡ by Body (more (body (one (nav
    (one (element (codes "a") (record { name = codes "href"; value = codes "/" } ∷ [])
    (one (text (codes "x")))))))) none)
unfolding chars
only-frame = refl

-- <main> - </main><p>a</p>
main-without-letters : article_of (page (more (main (one (text (codes " - ")))) (one (p (one (text (codes "a")))))))
    ≡ by Body (more (body (more (main (one (text (codes " - ")))) (one (p (one (text (codes "a"))))))) none)
unfolding chars
main-without-letters = refl

-- <main><header><h1>T</h1></header><p>..</p></main>
header-of-heading : article_of (page (one (main (more (header (one (h1 (one (text (codes "T")))))) (one (p (one
    tide)))))))
    ≡ by Main (one (main (more (header (one (h1 (one (text (codes "T")))))) (one (p (one tide))))))
unfolding chars
header-of-heading = refl

-- <main><article>a b c</article><article><p>..</p></article></main>
article-in-main : article_of (page (one (main (more (article (one (text (codes "a b c")))) (one (article (one (p
    (one tide)))))))))
    ≡ by Article (one (article (one (p (one tide)))))
unfolding chars
article-in-main = refl

-- <div itemprop="articleBody"><p>..</p></div><div itemprop="articleBody"><p>..</p></div>
two-article-bodies : article_of (page (more (element (codes "div") (record {
  name = codes "itemprop";
  value = codes
      "articleBody";
} ∷ []) (one (p (one tide)))) (one (element (codes "div") (record {
  name = codes "itemprop";
  value
      = codes "articleBody";
} ∷ []) (one (p (one tide)))))))
    ≡ by Body (more (body (more (element (codes "div")
    (record { name = codes "itemprop"; value = codes "articleBody" }
    ∷ []) (one (p (one tide)))) (one (element (codes "div") (record {
      name = codes "itemprop";
      value = codes
          "articleBody";
    } ∷ []) (one (p (one tide))))))) none)
unfolding chars
two-article-bodies = refl

-- <div class="site-footer">legal words</div><h1>T</h1><p>..</p>
named-frame : article_of (page (more (element (codes "div") (record {
  name = codes "class";
  value = codes
      "site-footer";
} ∷ []) (one (text (codes "legal words")))) (more (h1 (one (text (codes "T")))) (one (p (one
    tide))))))
    ≡ by Body (more (body (more (h1 (one (text (codes "T")))) (one (p (one tide))))) none)
unfolding chars
named-frame = refl

-- <div id="comments">one two</div><p>..</p>
id-of-frame : article_of (page (more (element (codes "div") (record { name = codes "id"; value = codes "comments" }
    ∷ []) (one (text (codes "one two")))) (one (p (one tide)))))
    ≡ by Body (more (body (one (p (one tide)))) none)
unfolding chars
id-of-frame = refl

-- <div>[menu]</div><div><h1>T</h1><p>..</p><p>..</p></div>
densest : article_of (page (more (div (one menu)) (one (div (more (h1 (one (text (codes "T")))) (more (p (one tide))
    (one (p (one tide)))))))))
    ≡ by Density (one (div (more (h1 (one (text (codes "T")))) (more (p (one tide)) (one (p (one tide)))))))
unfolding chars
densest = refl

-- [menu]<h1>T</h1><p>..</p>
links-above : article_of (page (more menu (more (h1 (one (text (codes "T")))) (one (p (one tide))))))
    ≡ by Body (more (body (more (h1 (one (text (codes "T")))) (one (p (one tide))))) none)
unfolding chars
links-above = refl

-- <h1>T</h1><p>All of it:</p>[menu]
links-below : article_of (page (more (h1 (one (text (codes "T")))) (more (p (one (text (codes "All of it:")))) (one
    menu))))
    ≡ by Body (more (body (more (h1 (one (text (codes "T"))))
    (more (p (one (text (codes "All of it:")))) (one menu))))
    none)
unfolding chars
links-below = refl

-- <h2>Tea<a href="#t">¶</a></h2><p>..</p>
permalink : article_of (page (more (h2 (more (text (codes "Tea")) (one (element (codes "a") (record {
  name = codes
      "href";
  value = codes "#t";
} ∷ []) (one (text (194 ∷ 182 ∷ []))))))) (one (p (one tide)))))
    ≡ by Body (more (body (more (h2 (one (text (codes "Tea")))) (one (p (one tide))))) none)
unfolding chars
permalink = refl
