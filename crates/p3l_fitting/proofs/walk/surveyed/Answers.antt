use Rattle.std.proofs.Common.{ap, ◌∙◌}
use Rattle.p3l_skel.specs.Counts.{count_of}
use Rattle.p3l_link.proofs.Counted.{root_counted}
use Rattle.p3l_fitting.specs.Survey.{base_after, followed, linked_survey, node_survey}
use Rattle.p3l_fitting.specs.declared.survey.Survey.{Survey}
use Rattle.p3l_fitting.proofs.Sized.{root_room}
use Rattle.p3l_fitting.proofs.walk.surveyed.Goals as goal

pub survey_node-requires-clause-counted : goal.survey_node-requires-clause-counted
survey_node-requires-clause-counted c = root_counted c.args.tree.now c.args.counts.now.list c.requires.tree c.requires.counts

pub survey_node-requires-clause-room : goal.survey_node-requires-clause-room
survey_node-requires-clause-room c =
    root_room c.args.tree.now c.args.counts.now.list c.requires.tree c.requires.counts c.requires.procs c.in_ok-survey.survey
    c.in_ok-survey.ensures

pub returns : goal.returns
unfolding linked_survey
returns c =
    c.in_ok-survey_node.ensures
    ∙ ap (λ (z : Survey). followed z
    (node_survey c.args.tree.now (count_of c.args.tree.now c.args.counts.now.list) 6 0 0 (base_after (record { input = 0; output = 1 }) z)))
    c.in_ok-survey.ensures
