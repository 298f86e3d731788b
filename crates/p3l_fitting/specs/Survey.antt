-- Surveys of linked nets: the number of processes, the width of each channel, and the places of the loops, by the recursion that
-- places the nodes.
use Rattle.std.specs.Prelude.{ℕ, zero, suc, ◌+◌, ◌≤◌, Bool, true, false, List, [], ◌∷◌, ◌++◌, length}
use Rattle.p3l_skel.specs.declared.tree.Tree.{Tree}
use Rattle.p3l_skel.specs.Counts.{count_of}
use Rattle.p3l_skel.specs.Tree.{part_at, nesting}
use Rattle.p3l_firing.specs.Widths.{Widths}
use Rattle.p3l_net.specs.Fitting.{LoopPlace}
use Rattle.p3l_template.specs.Kind.{Kind}
use Rattle.p3l_template.specs.Shape.{Base, Slot}
use Rattle.p3l_template.specs.Width.{ins_width, outs_width, width_at}
use Rattle.p3l_template.specs.declared.template.Ports.{Ports}
use Rattle.p3l_template.specs.declared.width.Width.{Width}
use Rattle.p3l_link.specs.Net.{base_at, root_base}
use Rattle.p3l_link.specs.Shape.{kind_at}
use Rattle.p3l_fitting.specs.declared.survey.Survey.{Survey}

-- of no process and no channel
abbrev pub no_survey : Survey
no_survey = record { procs = 0; widths = []; loops = [] }

-- of one process without channels of its own
abbrev pub one_process : Survey
one_process = record { procs = 1; widths = []; loops = [] }

-- of what is placed, with what is placed after it
abbrev pub followed : Survey → Survey → Survey
followed one other = record { procs = one.procs + other.procs; widths = one.widths ++ other.widths; loops = one.loops ++ other.loops }

-- the place of a loop that lies from process p and channel c on, before process r and channel e: its head is first, then its tail
abbrev pub loop_place : (p c r e : ℕ) → LoopPlace
loop_place p c r e = record { head = p; tail = p + 1; proc_from = p; proc_to = r; chan_from = c; chan_to = e }

-- the node's own loop, if it is one
abbrev pub own_loops : Bool → (p c r e : ℕ) → List LoopPlace
own_loops true p c r e = loop_place p c r e ∷ []
own_loops false p c r e = []

-- of the inner parts at these slots, one after the other, from process p and channel c on, where it is known what each part is surveyed
-- to have
unfoldable pub inner_survey : (ℕ → Base → Survey) → List Slot → (p c : ℕ) → Survey
inner_survey survey [] p c = no_survey
inner_survey survey (slot ∷ slots) p c =
    let here : Survey = survey slot.part (base_at slot p c) in
    followed here (inner_survey survey slots (p + here.procs) (c + length here.widths))

-- of the inner parts of a node of this kind at a base, whose own channels carry this row
abbrev pub survey_inside : Kind → List Width → Base → (ℕ → Base → Survey) → Survey
survey_inside kind row base survey =
    inner_survey survey (kind.shape.slots base) (base.proc + length (kind.shape.procs base)) (base.chan + length row)

-- of the whole node, by what is inside it
abbrev pub survey_round : Kind → List Width → Base → Survey → Survey
survey_round kind row base inner =
    record {
      procs = length (kind.shape.procs base) + inner.procs;
      widths = row ++ inner.widths;
      loops = inner.loops
          ++ own_loops kind.is_loop base.proc base.chan (base.proc + length (kind.shape.procs base) + inner.procs)
          (base.chan + length row + length inner.widths);
    }

-- of node k, with all that is below it down to depth d, at a base, where tokens outside it have t tags and it is known how many workers
-- or segments each node has; at depth 0 a node is one process
unfoldable pub node_survey : Tree → (ℕ → ℕ) → (d k t : ℕ) → Base → Survey
node_survey tree count zero k t base = one_process
node_survey tree count (suc d) k t base =
    let kind : Kind = kind_at tree count k in
    let row : List Width = kind.widths tree k t in
    survey_round kind row base
    (survey_inside kind row base (λ v. node_survey tree count d (part_at tree k v) (t + kind.deeper)))

-- the place between two channels, after what is surveyed so far
abbrev pub base_after : Ports → Survey → Base
base_after at before = record { input = at.input; output = at.output; proc = before.procs; chan = length before.widths }

-- as many processes and channels more keep within the limits of a net
abbrev pub HasRoomAfter : Survey → (procs chans : ℕ) → Type 0
HasRoomAfter before procs chans = (before.procs + procs ≤ 1048576) × (length before.widths + chans ≤ 1048576)

-- of the source and the sink, whose channels carry the root's in words and its out words
abbrev pub end_survey : Tree → Survey
end_survey tree = record { procs = 2; widths = ins_width tree 0 0 ∷ (outs_width tree 0 0 ∷ []); loops = [] }

-- of the net of a tree under these counts
unfoldable pub linked_survey : Tree → List ℕ → Survey
linked_survey tree counts = followed (end_survey tree) (node_survey tree (count_of tree counts) nesting 0 0 root_base)

-- the words and tags of channels that carry these widths, in order
abbrev pub widths_of : List Width → Widths
widths_of row = record { words = λ c. (width_at row c).words; tags = λ c. (width_at row c).tags }

-- THE WIDTHS of the channels of a linked net
abbrev pub linked_widths : Tree → List ℕ → Widths
linked_widths tree counts = widths_of (linked_survey tree counts).widths

-- THE PLACES OF THE LOOPS of a linked net, each after those inside it
abbrev pub linked_loops : Tree → List ℕ → List LoopPlace
linked_loops tree counts = (linked_survey tree counts).loops
