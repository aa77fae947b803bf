use Rattle.std.proofs.Common.{◌≡◌, ◌+◌, ◌*◌, ◌++◌, drop, string_bytes}
use Rattle.htmd_shown.specs.AllTexts.{all_text_among}
use Rattle.htmd_shown.specs.SimpleViews.{simples_of}
use Rattle.htmd_shown.proofs.texts.+push_text.Given as goal

abbrev pub decreases-push_texts : goal.decreases-push_texts
decreases-push_texts l = goal.size-push_texts l * 3 + 1

abbrev pub decreases-push_text : goal.decreases-push_text
decreases-push_text l = goal.size-push_text l * 3

abbrev pub decreases-push_element : goal.decreases-push_element
decreases-push_element l = goal.size-push_element l * 3 + 2

-- what was put, and what the nodes to come say
abbrev pub invariant-push_texts-loop-node : goal.invariant-push_texts-loop-node
invariant-push_texts-loop-node l =
    string_bytes l.out ++ all_text_among (simples_of (drop l.node-index l.nodes))
    ≡ string_bytes l.initial.out ++ all_text_among (simples_of l.nodes)
