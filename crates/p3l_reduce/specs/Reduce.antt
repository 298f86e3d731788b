-- The template of a reduce: with one segment one process, else Split, the joins and the folds of the segments.
use Rattle.std.specs.Prelude.{◌≡◌, ℕ, ◌<◌, Option, length, zero, suc, ◌+◌, ◌-◌, ◌*◌, ◌^◌, List, [], ◌∷◌, ◌++◌, replicate}
use Rattle.p3l_skel.specs.declared.tree.Form.TheVariants.{Reduce}
use Rattle.p3l_skel.specs.declared.tree.Tree.{Tree}
use Rattle.p3l_skel.specs.Counts.{IsLawfulCount}
use Rattle.p3l_skel.specs.Tree.{node_at}
use Rattle.p3l_firing.specs.Segments.{segment_lengths}
use Rattle.p3l_firing.specs.State.{State}
use Rattle.p3l_firing.specs.declared.process.Proc.{Proc}
use Rattle.p3l_firing.specs.declared.process.ProcKind.TheVariants.{Run, Split, Join}
use Rattle.p3l_reduce.specs.JoinTree.{Folding, View, joined, after_node, well_kept, owed_in}
use Rattle.p3l_template.specs.Part.{Part}
use Rattle.p3l_template.specs.Run.{run_shape}
use Rattle.p3l_template.specs.Shape.{empty_chan, Blueprint, Base, numbers_from}
use Rattle.p3l_template.specs.Units.{Units, outcome_at}
use Rattle.p3l_firing.specs.Nodes.{segment_of, operator_of}

-- the channels S, by segment
abbrev pub seg : Base → ℕ → ℕ
seg base s = base.chan + s

-- the channels T, by place: after those of the m segments, but for the out channel
unfoldable pub tee_by : ℕ → ℕ → ℕ → ℕ
tee_by output from zero = output
tee_by output from (suc zero) = output
tee_by output from (suc (suc q)) = from + q

abbrev pub tee : Base → ℕ → ℕ → ℕ
tee base m q = tee_by base.output (base.chan + m) q

abbrev pub split_proc : ℕ → ℕ → Base → Proc
split_proc node m base = record { kind = Split; node = node; arg = 0; ins = base.input ∷ []; outs = numbers_from base.chan m }

-- the join of place q, where the channels T begin at number t
abbrev pub join_at : ℕ → ℕ → ℕ → ℕ → Proc
join_at node output t q =
    record {
      kind = Join;
      node = node;
      arg = 0;
      ins = tee_by output t (q + q) ∷ (tee_by output t (suc (q + q)) ∷ []);
      outs = tee_by output t q ∷ [];
    }

-- the fold of segment s of l elements, where the channels S begin at number first
abbrev pub fold_at : ℕ → ℕ → ℕ → ℕ → ℕ → ℕ → ℕ → Proc
fold_at node m output first t s l =
    record { kind = Run; node = node; arg = l; ins = (first + s) ∷ []; outs = tee_by output t (m + s) ∷ [] }

-- n joins from q on
unfoldable pub join_procs : ℕ → ℕ → ℕ → ℕ → ℕ → List Proc
join_procs node output t q zero = []
join_procs node output t q (suc n) = join_at node output t q ∷ join_procs node output t (suc q) n

-- the folds of segments of these lengths, from s on
unfoldable pub fold_procs : ℕ → ℕ → ℕ → ℕ → ℕ → ℕ → List ℕ → List Proc
fold_procs node m output first t s [] = []
fold_procs node m output first t s (l ∷ ls) =
    fold_at node m output first t s l ∷ fold_procs node m output first t (suc s) ls

abbrev pub join_proc : ℕ → ℕ → Base → ℕ → Proc
join_proc node m base q = join_at node base.output (base.chan + m) q

abbrev pub fold_proc : ℕ → ℕ → Base → ℕ → ℕ → Proc
fold_proc node m base s l = fold_at node m base.output base.chan (base.chan + m) s l

abbrev pub folding_of : Units → ℕ → ℕ → Folding
folding_of units node m =
    record { count = m; segment = segment_of units.tree node m; fold = outcome_at units node; operator = operator_of units.tree units.leaf node }

abbrev pub view_of : Base → ℕ → State → View
view_of base m s =
    record {
      tees = λ q. s.tokens (tee base m q);
      segs = λ u. s.tokens (seg base u);
      sending = (s.own base.proc).held;
      sent = (s.own base.proc).number;
    }

-- of m segments, where m is 2 to the power suc d
abbrev pub tree_part : Units → ℕ → ℕ → ℕ → Base → Part
tree_part units node m d base =
    record {
      input = base.input;
      output = base.output;
      proc_from = base.proc;
      proc_to = base.proc + (m + m);
      chan_from = base.chan;
      chan_to = base.chan + (m + (m + m - 2));
      meaning = joined (folding_of units node m) (suc d) 1;
      pending = λ s. after_node (folding_of units node m) (view_of base m s) (suc d) 1;
      orderly = λ s. well_kept (folding_of units node m) (suc d) (view_of base m s);
      firings = 3 * m;
      owed = λ s. owed_in (folding_of units node m) (suc d) (view_of base m s);
    }

abbrev pub tree_shape : ℕ → ℕ → ℕ → ℕ → Blueprint
tree_shape node m d len =
    record {
      procs = λ base.
          split_proc node m base ∷
          (join_procs node base.output (base.chan + m) 1 (m - 1)
          ++ fold_procs node m base.output base.chan (base.chan + m) 0 (segment_lengths (suc d) len));
      chans = λ base. m + (m + m - 2);
      laid = λ cap base. replicate (m + (m + m - 2)) (empty_chan cap);
      inner = 0;
      slots = λ base. [];
      meaning = λ units roles. joined (folding_of units node m) (suc d) 1;
      firings = λ units roles. 3 * m;
      part = λ units roles base parts. tree_part units node m d base;
    }

-- of 2 to the power level segments, over an in token of len elements
unfoldable pub reduce_shape : ℕ → ℕ → ℕ → Blueprint
reduce_shape node len zero = run_shape node
reduce_shape node len (suc d) = tree_shape node (2 ^ suc d) d len

-- a node of a tree that is a reduce of `len` elements in `segments` segments
pub record IsReduceNode (tree : Tree) (node segments len : ℕ) : Type 0 where
  pub there : node < length tree.nodes
  pub clause : Option ℕ
  pub elem : ℕ
  pub form : (node_at tree node).form ≡ Reduce clause len elem
  pub count : IsLawfulCount (node_at tree node).form segments
  pub result : (node_at tree node).outs ≡ elem
