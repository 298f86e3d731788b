use Rattle.std.proofs.Common.{length, ap, ◌∙◌}
use Rattle.p3l_link.specs.Node.{kind_of}
use Rattle.p3l_link.specs.declared.node.NodeTemplate.{NodeTemplate}
use Rattle.p3l_link.proofs.node.NodeTemplateKind.proc_count.Goals as goal

pub returns-in-Run : goal.returns-in-Run
returns-in-Run c = λ base. ap (λ (t : NodeTemplate). length ((kind_of t).shape.procs base)) c.in-Run.is ∙ c.proc_count.ensures base

pub returns-in-Pipe : goal.returns-in-Pipe
returns-in-Pipe c = λ base. ap (λ (t : NodeTemplate). length ((kind_of t).shape.procs base)) c.in-Pipe.is ∙ c.proc_count-in-Pipe.ensures base

pub returns-in-Farm : goal.returns-in-Farm
returns-in-Farm c = λ base. ap (λ (t : NodeTemplate). length ((kind_of t).shape.procs base)) c.in-Farm.is ∙ c.proc_count-in-Farm.ensures base

pub returns-in-Map : goal.returns-in-Map
returns-in-Map c = λ base. ap (λ (t : NodeTemplate). length ((kind_of t).shape.procs base)) c.in-Map.is ∙ c.proc_count-in-Map.ensures base

pub returns-in-Loop : goal.returns-in-Loop
returns-in-Loop c = λ base. ap (λ (t : NodeTemplate). length ((kind_of t).shape.procs base)) c.in-Loop.is ∙ c.proc_count-in-Loop.ensures base
