-- What is left to prove of `close_link`.
use Rattle.std.proofs.Common.{◌∙◌, sym, ap, map, take}
use Rattle.std.specs.List.{prefix_len}
use Rattle.std.proofs.lemmas.List.{take-map}
use Rattle.std.proofs.lemmas.Result.{IfOk-weaker}
use Rattle.htmd_flow.specs.Nesting.{wrapper_of}
use Rattle.htmd_flow.specs.NestViews.{frames_of, wrappers_in, is_format_frame}
use Rattle.htmd_flow.proofs.NestLemmas.{before-frames}
use Rattle.htmd_flow.proofs.nest.Nest.close_link.Goals as goal

pub returns-clause-wrappers : goal.returns-clause-wrappers
returns-clause-wrappers c = IfOk-weaker c.close.result _ _
    (λ _ e. ap (map (λ f. wrapper_of f.around)) e
    ∙ (sym (take-map (λ f. wrapper_of f.around) c.before_link_len-len.result (frames_of c.args.self.now))
    ∙ (ap (λ n. take n (wrappers_in c.args.self.now))
    (c.before_link_len-len.ensures ∙ ap (prefix_len is_format_frame) c.deref.ensures.value)
    ∙ before-frames c.args.self.now.frames.items)))
    c.close.ensures.frames
