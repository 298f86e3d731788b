-- The changes that would help.
use Rattle.std.specs.Prelude.{ℕ, ◌+◌, ◌-◌, ◌/◌, ◌==◌, ◌++◌, ◌&&◌, max, min, Option, Some, None, List, [], codes, nat_le, nat_lt, if◌then◌else◌}
use Rattle.std.specs.Fmt.{decimal}
use Rattle.std.specs.List.{flat_map}
use Rattle.p3l_skel.specs.declared.tree.Form.{Form}
use Rattle.p3l_skel.specs.declared.tree.Form.TheVariants.{Seq, Comp, Pipe, Farm, Map, Reduce, Loop}
use Rattle.p3l_skel.specs.declared.tree.Tree.{Tree}
use Rattle.p3l_base.specs.Limits.{most_workers}
use Rattle.p3l_skel.specs.Counts.{outside_parts}
use Rattle.p3l_skel.specs.Numbers.{procs}
use Rattle.p3l_skel.specs.Tree.{node_at}
use Rattle.p3l_cost.specs.declared.costs.Costs.{Costs}
use Rattle.p3l_model.specs.Service.{service, service_row}
use Rattle.p3l_alloc.specs.Explanation.{module_name}
use Rattle.p3l_advise.specs.Bottleneck.{stages}

-- the processors past those that are used, which do not help
abbrev pub idle_words : (processors used : ℕ) → List ℕ
idle_words processors used =
    if nat_lt used processors then codes "more than " ++ (decimal used ++ (codes " processors do not help: " ++ (decimal (processors - used) ++ codes " are idle\n")))
    else []

-- the service time of a farm of n workers in the place of a node, where each takes a time for an item
abbrev pub farmed : Tree → Costs → (k n each : ℕ) → ℕ
farmed tree costs k n each = service_row tree costs k (Farm None) n each

-- NAME in a farm of N workers: service T
abbrev pub farm_words : (name : List ℕ) → (n time : ℕ) → List ℕ
farm_words name n time = name ++ (codes " in a farm of " ++ (decimal n ++ (codes " workers: service " ++ (decimal time ++ codes "\n"))))

-- NAME with workers N: service T
abbrev pub wider_words : (name : List ℕ) → (n time : ℕ) → List ℕ
wider_words name n time = name ++ (codes " with workers " ++ (decimal n ++ (codes ": service " ++ (decimal time ++ codes "\n"))))

-- a farm round a stage that one process runs: its workers are the idle processors and that process, but for the
-- farm's two ends
abbrev pub farm_help : Tree → Costs → (counts : List ℕ) → (idle k : ℕ) → List ℕ
farm_help tree costs counts idle k =
    if nat_le 2 (idle - 1) && nat_lt (farmed tree costs k (idle - 1) (service tree costs counts k)) (service tree costs counts k)
    then farm_words (module_name tree (node_at tree k).module) (idle - 1) (farmed tree costs k (idle - 1) (service tree costs counts k))
    else []

-- the workers of a farm, of w and of as many more as the idle processors make, each with the processes of the part
abbrev pub wider : Tree → (counts : List ℕ) → (idle w part : ℕ) → ℕ
wider tree counts idle w part = min (w + idle / max (procs tree counts part) 1) most_workers

-- more workers than w that make a farm sooner
abbrev pub sooner_words : (name : List ℕ) → (w n less time : ℕ) → List ℕ
sooner_words name w n less time = if nat_lt w n && nat_lt less time then wider_words name n less else []

-- more workers of a farm whose number the program fixes
abbrev pub wider_help : Tree → Costs → (counts : List ℕ) → (idle k w part : ℕ) → List ℕ
wider_help tree costs counts idle k w part =
    sooner_words (module_name tree (node_at tree k).module) w (wider tree counts idle w part) (farmed tree costs k (wider tree counts idle w part) (service tree costs counts part)) (service tree costs counts k)

-- more workers of a farm, if the program fixes their number
abbrev pub fixed_help : Tree → Costs → (counts : List ℕ) → (idle k : ℕ) → Option ℕ → List ℕ
fixed_help tree costs counts idle k None = []
fixed_help tree costs counts idle k (Some w) = flat_map (wider_help tree costs counts idle k w) (outside_parts (node_at tree k).form (node_at tree k).parts)

-- the help for a stage of this form
abbrev pub help_row : Tree → Costs → (counts : List ℕ) → (idle k : ℕ) → Form → List ℕ
help_row tree costs counts idle k Seq = farm_help tree costs counts idle k
help_row tree costs counts idle k Comp = farm_help tree costs counts idle k
help_row tree costs counts idle k Pipe = []
help_row tree costs counts idle k (Farm w) = fixed_help tree costs counts idle k w
help_row tree costs counts idle k (Map w cut) = []
help_row tree costs counts idle k (Reduce w len elem) = []
help_row tree costs counts idle k (Loop turns tokens) = []

-- the help for a stage, if it has the service time of the whole
abbrev pub stage_help : Tree → Costs → (counts : List ℕ) → (idle time k : ℕ) → List ℕ
stage_help tree costs counts idle time k =
    if service tree costs counts k == time then help_row tree costs counts idle k (node_at tree k).form else []

-- the changes that would help: each stage that has the service time of the whole needs one
abbrev pub help_lines : Tree → Costs → (counts : List ℕ) → (processors used : ℕ) → List ℕ
help_lines tree costs counts processors used =
    idle_words processors used ++ flat_map (stage_help tree costs counts (processors - used) (service tree costs counts 0)) (stages tree)
