-- Nets of each skeleton that were set up by hand, and runs of them whose numbers were worked out by hand.
use Rattle.std.specs.Prelude.{◌≡◌, ℕ, ℤ, pos, negsuc, None, List, [], ◌∷◌, ◌++◌, replicate, slice_index_or}
use Rattle.p3l_base.specs.declared.outcome.Outcome.{Outcome}
use Rattle.p3l_base.specs.declared.outcome.Outcome.TheVariants.{Value}
use Rattle.p3l_skel.specs.declared.tree.Form.{Form}
use Rattle.p3l_skel.specs.declared.tree.Form.TheVariants.{Seq, Farm, Map, Reduce, Loop}
use Rattle.p3l_skel.specs.declared.tree.Node.{Node}
use Rattle.p3l_skel.specs.declared.tree.Tree.{Tree}
use Rattle.p3l_skel.specs.Examples.{minus, inner, half, more, checked, trap, matrix_cut, four_cut, words_to_8}
use Rattle.p3l_skel.specs.Item.{turns_spent}
use Rattle.p3l_base.specs.declared.outcome.TrapKind.TheVariants.{Shift}
use Rattle.p3l_firing.specs.declared.process.Proc.{Proc}
use Rattle.p3l_firing.specs.declared.process.ProcKind.{ProcKind}
use Rattle.p3l_firing.specs.declared.process.ProcKind.TheVariants.{Source, Sink, Run, Emit, Collect, Scatter, Gather, Split, FoldGather, Join, Head, Tail}
use Rattle.p3l_firing.specs.declared.net.Chan.{Chan}
use Rattle.p3l_firing.specs.declared.net.Net.{Net}
use Rattle.p3l_firing.specs.Nodes.{Leaf}
use Rattle.p3l_firing.specs.State.{first_state}
use Rattle.p3l_firing.specs.Run.{Course, run}
use Rattle.p3l_firing.specs.RoundRobin.{round_robin}

-- a tree of a root with one or two `seq` parts, whose modules are 1 and 2
abbrev pub part : ℕ → ℕ → ℕ → Node
part home ins outs = record { form = Seq; «module» = home; ins = ins; outs = outs; parts = [] }

abbrev pub tree_of : Form → ℕ → ℕ → List ℕ → List Node → Tree
tree_of form ins outs parts nodes =
    record { nodes = record { form = form; «module» = 0; ins = ins; outs = outs; parts = parts } ∷ nodes; modules = [] }

-- a process of the root
abbrev pub at_root : ProcKind → List ℕ → List ℕ → Proc
at_root kind ins outs = record { kind = kind; node = 0; arg = 0; ins = ins; outs = outs }

-- a run of node 1
abbrev pub run_of_part : ℕ → ℕ → Proc
run_of_part input output = record { kind = Run; node = 1; arg = 0; ins = input ∷ []; outs = output ∷ [] }

-- a run of a segment of `arg` elements of the root
abbrev pub run_of_segment : ℕ → ℕ → ℕ → Proc
run_of_segment arg input output = record { kind = Run; node = 0; arg = arg; ins = input ∷ []; outs = output ∷ [] }

-- the root between source and sink, with these channels beside the first two
abbrev pub between : List Proc → List Chan → Net
between procs chans = record {
  procs = at_root Source [] (0 ∷ []) ∷ (at_root Sink (1 ∷ []) [] ∷ procs);
  chans = replicate 2 (record { cap = 1; credits = 0 }) ++ chans;
}

abbrev pub plain_chan : Chan
plain_chan = record { cap = 1; credits = 0 }

-- the round robin of a net, for at most n picks
abbrev pub by_round_robin : Tree → Leaf → Net → List (List ℤ) → ℕ → Course
by_round_robin tree leaf net items most = run tree leaf net items (round_robin tree leaf net most (first_state net items) 0)

-- a farm of two workers that halve; an item is first worked out of turn
abbrev pub farm_tree : Tree
farm_tree = tree_of (Farm None) 2 2 (1 ∷ []) (part 1 2 2 ∷ [])

abbrev pub half_leaf : Leaf
half_leaf home = half

abbrev pub farm_net : Net
farm_net =
    between
    (at_root Emit (0 ∷ []) (2 ∷ (3 ∷ []))
    ∷ (at_root Collect (4 ∷ (5 ∷ [])) (1 ∷ []) ∷ (run_of_part 2 4 ∷ (run_of_part 3 5 ∷ []))))
    (replicate 4 plain_chan)

abbrev pub two_items : List (List ℤ)
two_items = (pos 64 ∷ (pos 0 ∷ [])) ∷ ((pos 3 ∷ (pos 0 ∷ [])) ∷ [])

-- source, emit, source, emit; then the second worker, collect in vain, the first worker, and both items leave
abbrev pub farm_picks : List ℕ
farm_picks = 0 ∷ (2 ∷ (0 ∷ (2 ∷ (5 ∷ (3 ∷ (4 ∷ (3 ∷ (1 ∷ (3 ∷ (1 ∷ []))))))))))

-- a map over the product of two matrices, with three workers
abbrev pub map_tree : Tree
map_tree = tree_of (Map None matrix_cut) 8 4 (1 ∷ []) (part 1 4 1 ∷ [])

abbrev pub inner_leaf : Leaf
inner_leaf home = inner

abbrev pub map_net : Net
map_net =
    between
    (at_root Scatter (0 ∷ []) (2 ∷ (3 ∷ (4 ∷ [])))
    ∷ (at_root Gather (5 ∷ (6 ∷ (7 ∷ []))) (1 ∷ []) ∷ (run_of_part 2 5 ∷ (run_of_part 3 6 ∷ (run_of_part 4 7 ∷ [])))))
    (replicate 6 plain_chan)

-- a map of which two elements trap
abbrev pub trap_tree : Tree
trap_tree = tree_of (Map None four_cut) 4 4 (1 ∷ []) (part 1 1 1 ∷ [])

abbrev pub checked_leaf : Leaf
checked_leaf home = checked

abbrev pub trap_net : Net
trap_net =
    between
    (at_root Scatter (0 ∷ []) (2 ∷ (3 ∷ []))
    ∷ (at_root Gather (4 ∷ (5 ∷ [])) (1 ∷ []) ∷ (run_of_part 2 4 ∷ (run_of_part 3 5 ∷ []))))
    (replicate 4 plain_chan)

-- a reduce of five elements by differences over four segments
abbrev pub reduce_tree : Tree
reduce_tree = tree_of (Reduce None 5 1) 5 1 (1 ∷ []) (part 1 2 1 ∷ [])

abbrev pub minus_leaf : Leaf
minus_leaf home = minus

abbrev pub to_five : List (List ℤ)
to_five = (pos 1 ∷ (pos 2 ∷ (pos 3 ∷ (pos 4 ∷ (pos 5 ∷ []))))) ∷ []

abbrev pub flat_net : Net
flat_net =
    between
    (at_root Split (0 ∷ []) (2 ∷ (3 ∷ (4 ∷ (5 ∷ []))))
    ∷ (at_root FoldGather (6 ∷ (7 ∷ (8 ∷ (9 ∷ [])))) (1 ∷ [])
    ∷ (run_of_segment 1 2 6 ∷ (run_of_segment 1 3 7 ∷ (run_of_segment 1 4 8 ∷ (run_of_segment 2 5 9 ∷ []))))))
    (replicate 8 plain_chan)

abbrev pub joined_net : Net
joined_net =
    between
    (at_root Split (0 ∷ []) (2 ∷ (3 ∷ (4 ∷ (5 ∷ []))))
    ∷ (at_root Join (6 ∷ (7 ∷ [])) (1 ∷ [])
    ∷ (at_root Join (8 ∷ (9 ∷ [])) (6 ∷ [])
    ∷ (at_root Join (10 ∷ (11 ∷ [])) (7 ∷ [])
    ∷ (run_of_segment 1 2 8 ∷ (run_of_segment 1 3 9 ∷ (run_of_segment 1 4 10 ∷ (run_of_segment 2 5 11 ∷ []))))))))
    (replicate 10 plain_chan)

-- a loop of at most n turns that halves as long as the first word is above 1, with four tokens
abbrev pub loop_tree : ℕ → Tree
loop_tree turns = tree_of (Loop turns 4) 2 2 (1 ∷ (2 ∷ [])) (part 1 2 2 ∷ (part 2 2 1 ∷ []))

abbrev pub loop_leaf : Leaf
loop_leaf home = slice_index_or (half ∷ (half ∷ (more ∷ []))) home half

abbrev pub loop_net : Net
loop_net =
    between
    (at_root Head (0 ∷ (4 ∷ (5 ∷ []))) (2 ∷ []) ∷ (at_root Tail (3 ∷ []) (1 ∷ (4 ∷ (5 ∷ []))) ∷ (run_of_part 2 3 ∷ [])))
    (plain_chan
    ∷ (plain_chan ∷ (record { cap = 4; credits = 0 } ∷ (record { cap = 4; credits = 4 } ∷ []))))

-- the outcomes that a run has emitted, and its counts of firings and idle picks
pub record Comes (c : Course) (outcomes : List Outcome) (fired idle : ℕ) : Type 0 where
  pub emits : c.state.emitted ≡ outcomes
  pub fires : c.fired ≡ fired
  pub idles : c.idle ≡ idle

pub record HandValues : Type 0 where
  -- each item fires source, emit, run, collect and sink; the one pick in vain is idle
  pub farm : Comes (run farm_tree half_leaf farm_net two_items farm_picks)
      (Value (pos 32 ∷ (pos 1 ∷ [])) ∷ (Value (pos 1 ∷ (pos 1 ∷ [])) ∷ [])) 10 1
  -- four elements: source, scatter five times, four runs, gather five times, sink
  pub map : Comes (by_round_robin map_tree inner_leaf map_net (words_to_8 ∷ []) 20)
      (Value (pos 19 ∷ (pos 22 ∷ (pos 43 ∷ (pos 50 ∷ [])))) ∷ []) 16 0
  -- the first trap by the order of the elements
  pub trapped : Comes (by_round_robin trap_tree checked_leaf trap_net ((pos 5 ∷ (negsuc 0 ∷ (pos 0 ∷ (pos 2 ∷ [])))) ∷ []) 20)
      (trap Shift ∷ []) 16 0
  -- four segments: source, split five times, four runs, five firings that gather, sink; or three joins in place of these five
  pub flat : Comes (by_round_robin reduce_tree minus_leaf flat_net to_five 20) (Value (negsuc 4 ∷ []) ∷ []) 16 0
  pub joined : Comes (by_round_robin reduce_tree minus_leaf joined_net to_five 20) (Value (negsuc 4 ∷ []) ∷ []) 14 0
  -- six turns and one: the second item ends its turns first, and leaves second
  pub loop : Comes (by_round_robin (loop_tree 10) loop_leaf loop_net two_items 66)
      (Value (pos 1 ∷ (pos 6 ∷ [])) ∷ (Value (pos 1 ∷ (pos 1 ∷ [])) ∷ [])) 27 0
  -- the turns of the first item are spent after five
  pub spent : (by_round_robin (loop_tree 5) loop_leaf loop_net two_items 66).state.emitted ≡ turns_spent 0 ∷ []
