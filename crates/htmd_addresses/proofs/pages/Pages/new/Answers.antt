use Rattle.std.proofs.Common.{◌-◌, ◌∙◌, ap, arith, drop}
use Rattle.htmd_addresses.proofs.PagesLemmas.{page-more}
use Rattle.htmd_addresses.specs.Leads.{output_at}
use Rattle.htmd_addresses.specs.PageViews.{pages_of}
use Rattle.htmd_addresses.specs.Paths.{plain_path}
use Rattle.htmd_addresses.proofs.pages.Pages.new.Goals as goal

pub loop-left-preserved : goal.loop-left-preserved
loop-left-preserved c =
    let pages = c.args.pages.items in
    let left = c.loop-left.left - 1 in
    record {
      within = omega arith;
      kept = page-more pages left c.index.result.now c.loop-left.places c.insert.new.self
          c.in_ok-plain_path.field-0 (omega arith) c.index.ensures
          (c.in_ok-plain_path.ensures ∙ ap plain_path c.deref.ensures) c.in_ok-insert.ensures.updates
          (λ path. c.loop-left.invariant.kept path
          ∙ ap (λ n. output_at (pages_of (drop n pages)) path) (omega arith));
    }
